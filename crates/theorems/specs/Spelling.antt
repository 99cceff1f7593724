-- The words of a formula spell that formula and no other (`spelled_words`), and words that spell a formula are its words,
-- with all numbers in range (`spelled_only`). The first is `Reading`. For the second, by induction on the bound on the
-- depth: the row that the kind word begins tells that word and the number after it (`Kinds`), and each part is again words
-- that were read. Assumes nothing.
use Prim.Native.Nat.{ℕ, zero, suc, ◌≤◌, ◌<◌}
use Rattle.std.specs.Prelude.{◌≡◌, true, false, ℤ, pos, negsuc, ltb, length, get_or}
use Rattle.std.proofs.Math.Path.{refl, subst}
use Rattle.std.proofs.Common.{sym, ap, ◌∙◌, le_refl, arith as linear}
use Rattle.std.proofs.Math.Option.{Option, some}
use mathlib.Core.List.{List, [], ◌∷◌, ◌++◌, append_assoc, append-nil}
use borrow.Author.Tests.{ltb-true}
use Rattle.script.specs.declared.ExpressionRow.TheVariants.{Constant, Variable, Arithmetic, Negate, Mark, Choose}
use Rattle.script.specs.declared.FormulaRow.TheVariants.{True, False, Comparison, Not, Junction}
use Rattle.script.specs.declared.Row.{Row}
use Rattle.script.specs.Rows.{field_number}
use Rattle.script.specs.Syntax.{Expr, const, var, mark, arith, neg, choose, Formula, truth, cmp, not, join}
use Rattle.script.specs.Words.{expr_words, formula_words}
use Rattle.script.specs.WellFormed.{InRangeWithin, InRangeᶠWithin}
use Rattle.script.specs.Listing.{◌>>=◌, Read, read, next, past_number, read_expr_within, read_formula_within, all_read, spelled_within, row_limit}
use Rattle.theorems.specs.Options.{none_is_not, some_inj, went_on, held}
use Rattle.theorems.specs.Kinds.{begun, Fits, row_fits}
use Rattle.theorems.specs.Reading.{Reader, formula_back}

-- ---- words put together

headed : {j k : ℤ} {us ws : List ℤ} → k ≡ j → us ≡ ws → j ∷ us ≡ k ∷ ws
headed p q = λ i. sym p i ∷ q i

-- two parts, one after the other
joined : (us vs rest : List ℤ) {mid ws : List ℤ} → us ++ mid ≡ ws → vs ++ rest ≡ mid → (us ++ vs) ++ rest ≡ ws
joined us vs rest p q = append_assoc us vs rest ∙ ap (λ l. us ++ l) q ∙ p

-- a number that is in range is no negative word
word_is : (n : ℕ) (w : ℤ) → n ≡ field_number w → n < 4294967295 → pos n ≡ w
word_is n (pos m) e h = ap pos e
word_is n (negsuc m) e h = absurd (omega linear)

-- ---- a part

-- f reads only what P says
abbrev Only : {A : Type 0} → Reader A → (List ℤ → Read A → Type 0) → Type 0
Only {A} f P = (w : Row) (k : ℤ) (ws : List ℤ) (r : Read A) → Fits k (get_or ws 0 (pos 0)) w → f w ws ≡ some r → P (k ∷ ws) r

-- what was read first, and the answer found with it
record Part {A B : Type 0} (P : List ℤ → Read A → Type 0) (ws : List ℤ) (h : Read A → Option B) (b : B) : Type 0 where
  of : Read A
  first : P ws of
  then : h of ≡ some b

part : {A B : Type 0} (f : Reader A) (P : List ℤ → Read A → Type 0) → Only f P → (ws : List ℤ) (h : Read A → Option B) {b : B}
    → (next f ws >>= h) ≡ some b → Part P ws h b
part f P only [] h e = none_is_not e
part f P only (k ∷ ws) h e =
    let a = get_or ws 0 (pos 0) in
    let found = went_on (f (begun k a) ws) h e in
    record { of = found.0; first = only (begun k a) k ws found.0 (row_fits k a (pos 0) (pos 0)) found.1; then = found.2 }

-- ---- where the variables are those below a limit

pub spelled_words : (limit : ℕ) (f : Formula) → InRangeᶠWithin limit f → spelled_within limit (formula_words f) ≡ some f
unfolding spelled_within
spelled_words limit f h =
    let ws = formula_words f in
    ap (λ o. o >>= all_read) (rw append-nil at (formula_back limit f (length ws) h (le_refl (length ws)) []))

-- a negative word is beyond the limit
module _ (limit : ℕ) (small : limit ≤ 4294967295) where
  -- ---- what a reader says: ws is the words of what was read, and then the rest

  record ExprFirst (ws : List ℤ) (r : Read Expr) : Type 0 where
    whole : expr_words r.got ++ r.rest ≡ ws
    range : InRangeWithin limit r.got

  record FormulaFirst (ws : List ℤ) (r : Read Formula) : Type 0 where
    whole : formula_words r.got ++ r.rest ≡ ws
    range : InRangeᶠWithin limit r.got

  expr_is : (e : Expr) (rest ws : List ℤ) {r : Read Expr} → expr_words e ++ rest ≡ ws → InRangeWithin limit e → read e rest ≡ some r
      → ExprFirst ws r
  expr_is e rest ws w h q = subst (λ r. ExprFirst ws r) (some_inj q) (record { whole = w; range = h })

  formula_is : (f : Formula) (rest ws : List ℤ) {r : Read Formula} → formula_words f ++ rest ≡ ws → InRangeᶠWithin limit f → read f rest ≡ some r
      → FormulaFirst ws r
  formula_is f rest ws w h q = subst (λ r. FormulaFirst ws r) (some_inj q) (record { whole = w; range = h })

  two_exprs : (ws : List ℤ) (a b : Read Expr) → ExprFirst ws a → ExprFirst a.rest b
      → (expr_words a.got ++ expr_words b.got) ++ b.rest ≡ ws
  two_exprs ws a b x y = joined (expr_words a.got) (expr_words b.got) b.rest x.whole y.whole

  -- ---- a constant, a variable or a mark

  number_is : (e : Expr) (j k z : ℤ) (ws : List ℤ) {r : Read Expr} → expr_words e ≡ j ∷ z ∷ [] → InRangeWithin limit e
      → k ≡ j → z ≡ get_or ws 0 (pos 0) → past_number e ws ≡ some r → ExprFirst (k ∷ ws) r
  number_is e j k z [] words h p q eq = none_is_not eq
  number_is e j k z (w ∷ ws) words h p q eq = expr_is e ws (k ∷ w ∷ ws) (ap (λ l. l ++ ws) words ∙ headed p (headed (sym q) refl)) h eq

  -- ---- the readers

  -- with the depth bounded by n
  record Readers (n : ℕ) : Type 0 where
    exprs : Only (read_expr_within limit n) ExprFirst
    formulas : Only (read_formula_within limit n) FormulaFirst

  module _ (n : ℕ) (below : Readers n) where
    expr_part : {B : Type 0} (ws : List ℤ) (h : Read Expr → Option B) {b : B} → (next (read_expr_within limit n) ws >>= h) ≡ some b
        → Part ExprFirst ws h b
    expr_part ws h e = part (read_expr_within limit n) ExprFirst below.exprs ws h e

    formula_part : {B : Type 0} (ws : List ℤ) (h : Read Formula → Option B) {b : B} → (next (read_formula_within limit n) ws >>= h) ≡ some b
        → Part FormulaFirst ws h b
    formula_part ws h e = part (read_formula_within limit n) FormulaFirst below.formulas ws h e

    expr_only : Only (read_expr_within limit (suc n)) ExprFirst
    unfolding read_expr_within read_formula_within expr_words formula_words
    expr_only (Row.Expression (Constant z)) k ws r fits e = number_is (const z) (pos 1) k z ws refl tt fits.0 fits.1 e
    expr_only (Row.Expression (Variable v)) k ws r fits e =
        let h = held (ltb v.0 limit) (past_number (var v.0) ws) e in
        let l = ltb-true v.0 limit h.0 in
        number_is (var v.0) (pos 2) k (pos v.0) ws refl l fits.0 (word_is v.0 _ fits.1 (omega linear)) h.1
    expr_only (Row.Expression (Mark m)) k ws r fits e =
        let h = held (ltb m.0 row_limit) (past_number (mark m.0) ws) e in
        let l = ltb-true m.0 row_limit h.0 in
        number_is (mark m.0) (pos 9) k (pos m.0) ws refl l fits.0 (word_is m.0 _ fits.1 (omega linear)) h.1
    expr_only (Row.Expression (Arithmetic o x y)) k ws r fits e =
        let a = expr_part ws _ e in
        let b = expr_part a.of.rest _ a.then in
        expr_is (arith o a.of.got b.of.got) b.of.rest (k ∷ ws)
        (headed fits (two_exprs ws a.of b.of a.first b.first)) (a.first.range, b.first.range) b.then
    expr_only (Row.Expression (Negate x)) k ws r fits e =
        let a = expr_part ws _ e in
        expr_is (neg a.of.got) a.of.rest (k ∷ ws) (headed fits a.first.whole) a.first.range a.then
    expr_only (Row.Expression (Choose x y z)) k ws r fits e =
        let f = formula_part ws _ e in
        let a = expr_part f.of.rest _ f.then in
        let b = expr_part a.of.rest _ a.then in
        expr_is (choose f.of.got a.of.got b.of.got) b.of.rest (k ∷ ws)
        (headed fits
        (joined (formula_words f.of.got) (expr_words a.of.got ++ expr_words b.of.got) b.of.rest f.first.whole
        (two_exprs f.of.rest a.of b.of a.first b.first)))
        (f.first.range, a.first.range, b.first.range) b.then
    expr_only (Row.Formula w) k ws r fits e = none_is_not e
    expr_only (Row.Statement w) k ws r fits e = none_is_not e
    expr_only (Row.Note x y) k ws r fits e = none_is_not e
    expr_only (Row.Script x y z) k ws r fits e = none_is_not e
    expr_only Row.Unknown k ws r fits e = none_is_not e

    formula_only : Only (read_formula_within limit (suc n)) FormulaFirst
    unfolding read_expr_within read_formula_within expr_words formula_words
    formula_only (Row.Formula True) k ws r fits e = formula_is (truth true) ws (k ∷ ws) (headed fits refl) tt e
    formula_only (Row.Formula False) k ws r fits e = formula_is (truth false) ws (k ∷ ws) (headed fits refl) tt e
    formula_only (Row.Formula (Comparison o x y)) k ws r fits e =
        let a = expr_part ws _ e in
        let b = expr_part a.of.rest _ a.then in
        formula_is (cmp o a.of.got b.of.got) b.of.rest (k ∷ ws)
        (headed fits (two_exprs ws a.of b.of a.first b.first)) (a.first.range, b.first.range) b.then
    formula_only (Row.Formula (Not x)) k ws r fits e =
        let f = formula_part ws _ e in
        formula_is (not f.of.got) f.of.rest (k ∷ ws) (headed fits f.first.whole) f.first.range f.then
    formula_only (Row.Formula (Junction o x y)) k ws r fits e =
        let f = formula_part ws _ e in
        let g = formula_part f.of.rest _ f.then in
        formula_is (join o f.of.got g.of.got) g.of.rest (k ∷ ws)
        (headed fits (joined (formula_words f.of.got) (formula_words g.of.got) g.of.rest f.first.whole g.first.whole))
        (f.first.range, g.first.range) g.then
    formula_only (Row.Expression w) k ws r fits e = none_is_not e
    formula_only (Row.Statement w) k ws r fits e = none_is_not e
    formula_only (Row.Note x y) k ws r fits e = none_is_not e
    formula_only (Row.Script x y z) k ws r fits e = none_is_not e
    formula_only Row.Unknown k ws r fits e = none_is_not e

  readers : (n : ℕ) → Readers n
  unfolding read_expr_within read_formula_within
  readers zero = record { exprs = λ w k ws r fits e. none_is_not e; formulas = λ w k ws r fits e. none_is_not e }
  readers (suc n) = record { exprs = expr_only n (readers n); formulas = formula_only n (readers n) }

  pub spelled_only : (ws : List ℤ) (f : Formula) → spelled_within limit ws ≡ some f → (formula_words f ≡ ws) × InRangeᶠWithin limit f
  unfolding spelled_within
  spelled_only ws f e =
      let r = formula_part (length ws) (readers (length ws)) ws all_read e in
      all_of r.of.got r.of.rest r.first r.then
    where
      all_of : (g : Formula) (rest : List ℤ) → FormulaFirst ws (record { got = g; rest = rest })
          → all_read (record { got = g; rest = rest }) ≡ some f → (formula_words f ≡ ws) × InRangeᶠWithin limit f
      all_of g [] h q = subst (λ x. (formula_words x ≡ ws) × InRangeᶠWithin limit x) (some_inj q) (rw append-nil at h.whole, h.range)
      all_of g (w ∷ rest) h q = none_is_not q
