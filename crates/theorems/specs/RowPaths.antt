-- "Nesting is the largest number of if and while rows on one path from the script down", of the rows of an accepted table: a
-- path goes from the script's row to a row that it links to, and so on down. There is one with `nesting` many if and while
-- rows (`deepest_path`), and none has more (`no_deeper_path`). Argument: only statements have such rows below them, and those
-- below a statement row are those of the tree at that row (`under_row`). Assumes nothing.
use Rattle.std.specs.Prelude.{ℕ, zero, suc, ◌+◌, ◌-◌, ◌≤◌, ◌<◌, max, ◌≢◌, Bool, true, false, not, ◌&&◌, List, [], ◌∷◌, ℤ, T, ltb, leb}
use Rattle.std.proofs.Common.{arith as linear, sym, ap, ◌∙◌, subst, ltb→lt, leb-true, leb-false}
use Rattle.std.proofs.Math.Path.{◌≡◌, refl}
use Rattle.script.specs.declared.RowNumber.{RowNumber}
use Rattle.script.specs.declared.ExpressionRow.TheVariants.{Constant, Variable, Arithmetic, Negate, Mark, Choose}
use Rattle.script.specs.declared.FormulaRow.TheVariants.{True, False, Comparison, Not, Junction}
use Rattle.script.specs.declared.StatementRow.TheVariants.{Skip, Assign, Sequence, If, While, Assert}
use Rattle.script.specs.declared.Row.{Row}
use Rattle.script.specs.declared.Sort.{Sort}
use Rattle.script.specs.declared.Sort.TheVariants.{Formula, Statement, Note, Script}
use Rattle.script.specs.Rows.{Part, parts, row, rows, sort_of}
use Rattle.script.specs.Syntax.{Tree}
use Rattle.script.specs.Trees.{stmt_node, expr_at, formula_at, stmt_at, tree, nesting}
use Rattle.script.specs.Refusals.{accepted, same_sort, all_below, well_sorted, verdict}
use Rattle.theorems.specs.Truths.{is_true, both}
use Rattle.theorems.specs.Tests.{sort_iff}
use Rattle.theorems.specs.Links.{Link, here, there, LinksTo}
use Rattle.theorems.specs.Accepted.{Accepted, passed}
use Rattle.theorems.specs.RowTrees.{lower₂, lower₃, stmt_is, tree_is}
use Rattle.theorems.specs.Induction.{by_lower}

-- the rows on a path down from the first one
pub data Down (ws : List ℤ) : ℕ → List ℕ → Type 0 where
  ends : {r : ℕ} → Down ws r (r ∷ [])
  goes : {r k : ℕ} {p : List ℕ} → LinksTo (parts (row ws r)) k → Down ws k p → Down ws r (r ∷ p)

-- 1 for an if and for a while
abbrev pub counted : Row → ℕ
counted (Row.Expression w) = 0
counted (Row.Formula w) = 0
counted (Row.Statement Skip) = 0
counted (Row.Statement (Assign v e)) = 0
counted (Row.Statement (Sequence a b)) = 0
counted (Row.Statement (If b x y)) = 1
counted (Row.Statement (While b i x)) = 1
counted (Row.Statement (Assert f)) = 0
counted (Row.Note i v) = 0
counted (Row.Script p s q) = 0
counted Row.Unknown = 0

abbrev pub count : List ℤ → List ℕ → ℕ
count ws [] = 0
count ws (r ∷ p) = counted (row ws r) + count ws p

-- ---- sorts

same_is : (a b : Sort) → T (same_sort a b) → a ≡ b
same_is a b h = (sort_iff a b).0 (is_true (same_sort a b) h)

script_row : (w : Row) → sort_of w ≡ Script → (p : RowNumber) × (s : RowNumber) × (q : RowNumber) × (w ≡ Row.Script p s q)
script_row (Row.Expression w) e = let z : ◌≡◌ {A = ℕ} 0 1 = cc in absurd (omega linear)
script_row (Row.Formula w) e = let z : ◌≡◌ {A = ℕ} 0 1 = cc in absurd (omega linear)
script_row (Row.Statement w) e = let z : ◌≡◌ {A = ℕ} 0 1 = cc in absurd (omega linear)
script_row (Row.Note i v) e = let z : ◌≡◌ {A = ℕ} 0 1 = cc in absurd (omega linear)
script_row (Row.Script p s q) e = (p, s, q, refl)
script_row Row.Unknown e = let z : ◌≡◌ {A = ℕ} 0 1 = cc in absurd (omega linear)

-- a part that is no statement
abbrev plain : Sort → Bool
plain s = not (same_sort s Statement)

abbrev all_plain : List Part → Bool
all_plain [] = true
all_plain (p ∷ ps) = plain p.sort && all_plain ps

-- no row links to a script
abbrev no_scripts : List Part → Bool
no_scripts [] = true
no_scripts (p ∷ ps) = not (same_sort p.sort Script) && no_scripts ps

scriptless : (w : Row) → T (no_scripts (parts w))
scriptless (Row.Expression (Constant z)) = tt
scriptless (Row.Expression (Variable v)) = tt
scriptless (Row.Expression (Arithmetic o a b)) = tt
scriptless (Row.Expression (Negate a)) = tt
scriptless (Row.Expression (Mark m)) = tt
scriptless (Row.Expression (Choose f a b)) = tt
scriptless (Row.Formula True) = tt
scriptless (Row.Formula False) = tt
scriptless (Row.Formula (Comparison o a b)) = tt
scriptless (Row.Formula (Not f)) = tt
scriptless (Row.Formula (Junction o f g)) = tt
scriptless (Row.Statement Skip) = tt
scriptless (Row.Statement (Assign v e)) = tt
scriptless (Row.Statement (Sequence a b)) = tt
scriptless (Row.Statement (If b x y)) = tt
scriptless (Row.Statement (While b i x)) = tt
scriptless (Row.Statement (Assert f)) = tt
scriptless (Row.Note i v) = tt
scriptless (Row.Script p s q) = tt
scriptless Row.Unknown = tt

module _ (t : List ℤ) where
  pub link_low : (r k i : ℕ) (ps : List Part) → Link k i ps → T (all_below t r ps) → k < r
  link_low r k zero [] x4 b = elim x4 [ ]
  link_low r k (suc i) [] x5 b = elim x5 [ ]
  link_low r k zero (p ∷ ps) (here e) b = rw e at (ltb→lt p.at r (both (ltb p.at r) (all_below t r ps) b).0)
  link_low r k (suc i) (p ∷ ps) (there l) b = link_low r k i ps l (both (ltb p.at r) (all_below t r ps) b).1

  link_sort : (k i : ℕ) (ps : List Part) → Link k i ps → T (well_sorted t ps) → T (no_scripts ps) → sort_of (row t k) ≢ Script
  link_sort k zero [] x8 s n q = elim x8 [ ]
  link_sort k (suc i) [] x9 s n q = elim x9 [ ]
  link_sort k zero (p ∷ ps) (here e) s n q =
      let fit = (both (same_sort (sort_of (row t p.at)) p.sort) (well_sorted t ps) s).0 in
      let is = sym (same_is (sort_of (row t p.at)) p.sort fit) ∙ ap (λ (j : ℕ). sort_of (row t j)) e ∙ q in
      subst (λ (x : Sort). T (not (same_sort x Script))) is (both (not (same_sort p.sort Script)) (no_scripts ps) n).0
  link_sort k (suc i) (p ∷ ps) (there l) s n q =
      link_sort k i ps l (both (same_sort (sort_of (row t p.at)) p.sort) (well_sorted t ps) s).1
      (both (not (same_sort p.sort Script)) (no_scripts ps) n).1 q

module _ (t : List ℤ) (ok : Accepted t) where
  -- the nesting of the statement at a row
  abbrev N : ℕ → ℕ
  N r = nesting (stmt_at t r)

  at_row : (r : ℕ) {w : Row} → r < rows t → row t r ≡ w → N r ≡ nesting (stmt_node (expr_at t) (formula_at t) (stmt_at t) (row t) r w)
  at_row r h e = ap nesting (stmt_is t ok r h e)

  flat_node : (r : ℕ) (w : Row) → T (plain (sort_of w)) → nesting (stmt_node (expr_at t) (formula_at t) (stmt_at t) (row t) r w) ≡ 0
  unfolding nesting
  flat_node r (Row.Expression w) h = refl
  flat_node r (Row.Formula w) h = refl
  flat_node r (Row.Statement w) h = absurd h
  flat_node r (Row.Note i v) h = refl
  flat_node r (Row.Script p s q) h = refl
  flat_node r Row.Unknown h = refl

  flat : (k : ℕ) (s : Sort) → k < rows t → T (same_sort (sort_of (row t k)) s) → T (plain s) → N k ≡ 0
  flat k s h e p = at_row k h refl ∙ flat_node k (row t k) (rw (same_is (sort_of (row t k)) s e) p)

  -- ---- what lies under the parts of a row

  abbrev Under : ℕ → ℕ → List Part → Type 0
  Under c n [] = Unit {0}
  Under c n (p ∷ ps) = (c + N p.at ≤ n) × Under c n ps

  under_link : (c n k i : ℕ) (ps : List Part) → Link k i ps → Under c n ps → c + N k ≤ n
  under_link c n k zero [] x4 u = elim x4 [ ]
  under_link c n k (suc i) [] x5 u = elim x5 [ ]
  under_link c n k zero (p ∷ ps) (here e) u = rw e at u.0
  under_link c n k (suc i) (p ∷ ps) (there l) u = under_link c n k i ps l u.1

  all_flat : (r n : ℕ) (ps : List Part) → r < rows t → T (all_below t r ps) → T (well_sorted t ps) → T (all_plain ps) → Under 0 n ps
  all_flat r n [] h b s f = tt
  all_flat r n (p ∷ ps) h b s f =
      let low = both (ltb p.at r) (all_below t r ps) b in
      let fit = both (same_sort (sort_of (row t p.at)) p.sort) (well_sorted t ps) s in
      let none = both (plain p.sort) (all_plain ps) f in
      let zero-here = flat p.at p.sort (omega (linear, ltb→lt p.at r low.0)) fit.0 none.0 in
      (omega linear, all_flat r n ps h low.1 fit.1 none.1)

  -- a row, its parts lower and of their sorts, with the nesting of its statement
  module _ (r : ℕ) (h : r < rows t) where
    low : {w : Row} → row t r ≡ w → T (all_below t r (parts w))
    low e = rw e at (ok.ordered r h)

    fit : {w : Row} → row t r ≡ w → T (well_sorted t (parts w))
    fit e = rw e at (ok.sorted r h)

    no_statements : (w : Row) → row t r ≡ w → T (all_plain (parts w)) → Under 0 (N r) (parts w)
    no_statements w e f = all_flat r (N r) (parts w) h (low e) (fit e) f

    if_parts : (b x y : RowNumber) → row t r ≡ Row.Statement (If b x y) → N r ≡ suc (max (N x.0) (N y.0))
    unfolding nesting
    if_parts b x y e = at_row r h e

    sequence_parts : (a b : RowNumber) → row t r ≡ Row.Statement (Sequence a b) → N r ≡ max (N a.0) (N b.0)
    unfolding nesting
    sequence_parts a b e = at_row r h e

    loop_nested : (b i x : RowNumber) (w : Row) → row t i.0 ≡ w → sort_of w ≡ Note
        → nesting (stmt_node (expr_at t) (formula_at t) (stmt_at t) (row t) r (Row.Statement (While b i x))) ≡ suc (N x.0)
    unfolding nesting
    loop_nested b i x (Row.Expression w) e s = let z : ◌≡◌ {A = ℕ} 0 1 = cc in absurd (omega linear)
    loop_nested b i x (Row.Formula w) e s = let z : ◌≡◌ {A = ℕ} 0 1 = cc in absurd (omega linear)
    loop_nested b i x (Row.Statement w) e s = let z : ◌≡◌ {A = ℕ} 0 1 = cc in absurd (omega linear)
    loop_nested b i x (Row.Note f v) e s = rw e
    loop_nested b i x (Row.Script p q z) e s = let z : ◌≡◌ {A = ℕ} 0 1 = cc in absurd (omega linear)
    loop_nested b i x Row.Unknown e s = let z : ◌≡◌ {A = ℕ} 0 1 = cc in absurd (omega linear)

    -- each of the three parts of a row has its sort
    sorts₃ : (x y z : ℕ) (S U W : Sort)
        → T (well_sorted t (record { at = x; sort = S } ∷ record { at = y; sort = U } ∷ record { at = z; sort = W } ∷ []))
        → T (same_sort (sort_of (row t x)) S) × T (same_sort (sort_of (row t y)) U) × T (same_sort (sort_of (row t z)) W)
    sorts₃ x y z S U W s =
        let a = both (same_sort (sort_of (row t x)) S) _ s in
        let b = both (same_sort (sort_of (row t y)) U) _ a.1 in
        let c = both (same_sort (sort_of (row t z)) W) true b.1 in
        (a.0, b.0, c.0)

    while_parts : (b i x : RowNumber) → row t r ≡ Row.Statement (While b i x) → N r ≡ suc (N x.0)
    while_parts b i x e =
        let s = sorts₃ b.0 i.0 x.0 Formula Note Statement (fit e) in
        at_row r h e ∙ loop_nested b i x (row t i.0) refl (same_is (sort_of (row t i.0)) Note s.1)

    under_if : (b x y : RowNumber) → row t r ≡ Row.Statement (If b x y) → Under 1 (N r) (parts (Row.Statement (If b x y)))
    under_if b x y e =
        let s = sorts₃ b.0 x.0 y.0 Formula Statement Statement (fit e) in
        let d = lower₃ b.0 x.0 y.0 r (low e) in
        let guard = flat b.0 Formula (omega linear) s.0 tt in
        let n = if_parts b x y e in
        (omega linear, (omega linear, (omega linear, tt)))

    under_while : (b i x : RowNumber) → row t r ≡ Row.Statement (While b i x) → Under 1 (N r) (parts (Row.Statement (While b i x)))
    under_while b i x e =
        let s = sorts₃ b.0 i.0 x.0 Formula Note Statement (fit e) in
        let d = lower₃ b.0 i.0 x.0 r (low e) in
        let guard = flat b.0 Formula (omega linear) s.0 tt in
        let note = flat i.0 Note (omega linear) s.1 tt in
        let n = while_parts b i x e in
        (omega linear, (omega linear, (omega linear, tt)))

    under_sequence : (a b : RowNumber) → row t r ≡ Row.Statement (Sequence a b) → Under 0 (N r) (parts (Row.Statement (Sequence a b)))
    under_sequence a b e = let n = sequence_parts a b e in (omega linear, (omega linear, tt))

    under_row : (w : Row) → row t r ≡ w → sort_of w ≢ Script → Under (counted w) (N r) (parts w)
    under_row (Row.Expression (Constant z)) e s = tt
    under_row (Row.Expression (Variable v)) e s = tt
    under_row (Row.Expression (Arithmetic o a b)) e s = no_statements _ e tt
    under_row (Row.Expression (Negate a)) e s = no_statements _ e tt
    under_row (Row.Expression (Mark m)) e s = tt
    under_row (Row.Expression (Choose f a b)) e s = no_statements _ e tt
    under_row (Row.Formula True) e s = tt
    under_row (Row.Formula False) e s = tt
    under_row (Row.Formula (Comparison o a b)) e s = no_statements _ e tt
    under_row (Row.Formula (Not f)) e s = no_statements _ e tt
    under_row (Row.Formula (Junction o f g)) e s = no_statements _ e tt
    under_row (Row.Statement Skip) e s = tt
    under_row (Row.Statement (Assign v x)) e s = no_statements _ e tt
    under_row (Row.Statement (Sequence a b)) e s = under_sequence a b e
    under_row (Row.Statement (If b x y)) e s = under_if b x y e
    under_row (Row.Statement (While b i x)) e s = under_while b i x e
    under_row (Row.Statement (Assert f)) e s = no_statements _ e tt
    under_row (Row.Note i v) e s = no_statements _ e tt
    under_row (Row.Script p x q) e s = absurd (s refl)
    under_row Row.Unknown e s = tt

  -- ---- none has more

  at_least : (r : ℕ) → r < rows t → (w : Row) → row t r ≡ w → counted w ≤ N r
  at_least r h (Row.Expression w) e = omega linear
  at_least r h (Row.Formula w) e = omega linear
  at_least r h (Row.Statement Skip) e = omega linear
  at_least r h (Row.Statement (Assign v x)) e = omega linear
  at_least r h (Row.Statement (Sequence a b)) e = omega linear
  at_least r h (Row.Statement (If b x y)) e = omega (linear, if_parts r h b x y e)
  at_least r h (Row.Statement (While b i x)) e = omega (linear, while_parts r h b i x e)
  at_least r h (Row.Statement (Assert f)) e = omega linear
  at_least r h (Row.Note i v) e = omega linear
  at_least r h (Row.Script p s q) e = omega linear
  at_least r h Row.Unknown e = omega linear

  no_deeper : (r : ℕ) (p : List ℕ) → Down t r p → r < rows t → sort_of (row t r) ≢ Script → count t p ≤ N r
  no_deeper r p (ends) h s = omega (linear, at_least r h (row t r) refl)
  no_deeper r p (goes {k = k} {p = q} l d) h s =
      let ps = parts (row t r) in
      let below = link_low t r k l.0 ps l.1 (ok.ordered r h) in
      let sort = link_sort t k l.0 ps l.1 (ok.sorted r h) (scriptless (row t r)) in
      let rest = no_deeper k q d (omega linear) sort in
      let here = under_link (counted (row t r)) (N r) k l.0 ps l.1 (under_row r h (row t r) refl s) in
      omega linear

  -- ---- one has as many

  abbrev Deepest : ℕ → Type 0
  Deepest r = (p : List ℕ) × Down t r p × (count t p ≡ N r)

  alone : (r : ℕ) {w : Row} → row t r ≡ w → counted w ≡ N r → Deepest r
  alone r e n = (r ∷ [], ends, rw e (omega linear))

  through : (r k : ℕ) {w : Row} → row t r ≡ w → LinksTo (parts w) k → N r ≡ counted w + N k → Deepest k → Deepest r
  through r k {w} e l n D =
      let link : LinksTo (parts (row t r)) k = rw e l in
      (r ∷ D.0, goes link D.1, ap (λ (x : ℕ). x + count t D.0) (ap counted e) ∙ omega (linear, D.2))

  -- the deeper one of two parts
  deeper : (r a b : ℕ) {w : Row} → row t r ≡ w → LinksTo (parts w) a → LinksTo (parts w) b
      → N r ≡ counted w + max (N a) (N b) → Deepest a → Deepest b → Deepest r
  deeper r a b {w} e l m n A B = go (leb (N a) (N b)) refl
    where
      go : (c : Bool) → leb (N a) (N b) ≡ c → Deepest r
      go true z = through r b e m (omega (linear, leb-true (N a) (N b) z)) B
      go false z = through r a e l (omega (linear, leb-false (N a) (N b) z)) A

  -- the row at r, where every lower row has one
  module _ (r : ℕ) (lower : (k : ℕ) → k < r → k < rows t → Deepest k) (h : r < rows t) where
    part : (k : ℕ) → k < r → Deepest k
    part k l = lower k l (omega linear)

    deep_row : (w : Row) → row t r ≡ w → Deepest r
    unfolding nesting
    deep_row (Row.Expression w) e = alone r e (sym (at_row r h e))
    deep_row (Row.Formula w) e = alone r e (sym (at_row r h e))
    deep_row (Row.Statement Skip) e = alone r e (sym (at_row r h e))
    deep_row (Row.Statement (Assign v x)) e = alone r e (sym (at_row r h e))
    deep_row (Row.Statement (Sequence a b)) e =
        let d = lower₂ a.0 b.0 r (low r h e) in
        deeper r a.0 b.0 e (0, here refl) (1, there (here refl)) (sequence_parts r h a b e ∙ omega linear)
        (part a.0 d.0) (part b.0 d.1)
    deep_row (Row.Statement (If b x y)) e =
        let d = lower₃ b.0 x.0 y.0 r (low r h e) in
        deeper r x.0 y.0 e (1, there (here refl)) (2, there (there (here refl))) (if_parts r h b x y e ∙ omega linear)
        (part x.0 d.1.0) (part y.0 d.1.1)
    deep_row (Row.Statement (While b i x)) e =
        let d = lower₃ b.0 i.0 x.0 r (low r h e) in
        through r x.0 e (2, there (there (here refl))) (while_parts r h b i x e ∙ omega linear) (part x.0 d.1.1)
    deep_row (Row.Statement (Assert f)) e = alone r e (sym (at_row r h e))
    deep_row (Row.Note i v) e = alone r e (sym (at_row r h e))
    deep_row (Row.Script p s q) e = alone r e (sym (at_row r h e))
    deep_row Row.Unknown e = alone r e (sym (at_row r h e))

  deep : (r : ℕ) → r < rows t → Deepest r
  deep r = by_lower (λ k. k < rows t → Deepest k) (λ k lower h. deep_row k lower h (row t k) refl) r

  -- ---- from the script down

  abbrev last : ℕ
  last = rows t - 1

  last_low : last < rows t
  last_low = omega (linear, ok.filled)

  -- the script's row, and the nesting of its statement
  record Top : Type 0 where
    pre : RowNumber
    body : RowNumber
    post : RowNumber
    is : row t last ≡ Row.Script pre body post
    nested : nesting (tree t).body ≡ N body.0

  top : Top
  top =
      let (p, s, q, e) = script_row (row t last) (same_is (sort_of (row t last)) Script ok.script) in
      record { pre = p; body = s; post = q; is = e; nested = ap (λ (x : Tree). nesting x.body) (tree_is t e) }

  under_script : Under 0 (N top.body.0) (parts (Row.Script top.pre top.body top.post))
  under_script =
      let s = sorts₃ last last_low top.pre.0 top.body.0 top.post.0 Formula Statement Formula (fit last last_low top.is) in
      let d = lower₃ top.pre.0 top.body.0 top.post.0 last (low last last_low top.is) in
      let l = last_low in
      let first = flat top.pre.0 Formula (omega linear) s.0 tt in
      let third = flat top.post.0 Formula (omega linear) s.2 tt in
      (omega linear, (omega linear, (omega linear, tt)))

  no_path : (p : List ℕ) → Down t last p → count t p ≤ N top.body.0
  no_path p (ends) = omega (linear, ap counted top.is)
  no_path p (goes {k = k} {p = q} l d) =
      let low-last = last_low in
      let ps = parts (row t last) in
      let below = link_low t last k l.0 ps l.1 (ok.ordered last last_low) in
      let sort = link_sort t k l.0 ps l.1 (ok.sorted last last_low) (scriptless (row t last)) in
      let rest = no_deeper k q d (omega linear) sort in
      let here = under_link 0 (N top.body.0) k l.0 ps l.1 (rw top.is under_script) in
      omega (linear, ap counted top.is)

  a_path : (p : List ℕ) × Down t last p × (count t p ≡ N top.body.0)
  a_path =
      let d = lower₃ top.pre.0 top.body.0 top.post.0 last (low last last_low top.is) in
      let l = last_low in
      let D = deep top.body.0 (omega linear) in
      let link : LinksTo (parts (row t last)) top.body.0 = rw top.is (1, there (here refl)) in
      (last ∷ D.0, goes link D.1, omega (linear, ap counted top.is, D.2))

pub no_deeper_path : (t : List ℤ) → verdict t ≡ accepted → (p : List ℕ) → Down t (rows t - 1) p → count t p ≤ nesting (tree t).body
no_deeper_path t h p d = let ok = passed t h in omega (linear, (top t ok).nested, no_path t ok p d)

pub deepest_path : (t : List ℤ) → verdict t ≡ accepted → (p : List ℕ) × Down t (rows t - 1) p × (count t p ≡ nesting (tree t).body)
deepest_path t h =
    let ok = passed t h in
    let D = a_path t ok in
    (D.0, D.1, D.2 ∙ sym (top t ok).nested)
