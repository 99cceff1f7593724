-- Number 13 as it is worded: "when some use of a mark that the script reaches is not inside the body of its loop",
-- "with the lowest such old row" (`mark_exact`).
-- Argument: a row stands outside the body of loop m in some use exactly where a path reaches it that does not take the
-- link of m to its body (`outside_iff`). Assumes nothing.
use Rattle.std.specs.Prelude.{ℕ, ◌<◌, ◌≡◌, refl, ◌↔◌, List, [], ◌∷◌, Bool, true, false, cond, ◌||◌, ℤ, eqb}
use Rattle.std.proofs.Math.Path.{sym}
use Rattle.std.proofs.Common.{subst, ◌∙◌, true≢false, arith as linear, eqb-true, eq-eqb, ne_eqb}
use Rattle.std.proofs.lemmas.Bool.{false≢true, eqb-false}
use Rattle.script.specs.declared.RowNumber.{RowNumber}
use Rattle.script.specs.declared.ExpressionRow.TheVariants.{Constant, Variable, Arithmetic, Negate, Mark, Choose}
use Rattle.script.specs.declared.StatementRow.TheVariants.{Skip, Assign, Sequence, If, While, Assert}
use Rattle.script.specs.declared.Row.{Row}
use Rattle.script.specs.Rows.{parts, rows, row}
use Rattle.script.specs.Refusals.{member}
use Rattle.theorems.specs.Links.{Link, here, there}
use Rattle.theorems.specs.Lowest.{Says, Lowest, lowest_with, where_true}
use Rattle.theorems.specs.Standing.{inside_at, code_at, Stands, script, link}
use Rattle.mending.specs.Reached.{outside, uncut, escapes}
use Rattle.mending.specs.Mended.{mark_fault, mark_test}
use Rattle.mending.specs.Falling.{Falls}
use Rattle.mending.specs.Paths.{Path, top, down, reached_iff}

-- a use of row q that does not stand inside the body of row m
abbrev pub UseOutside : List ℤ → ℕ → ℕ → Type 0
UseOutside t m q = (code : Bool) × (inside : List ℕ) × Stands t q code inside × (member m inside ≡ false)

-- ---- a link that is not cut

clash : {X : Type 0} → true ≡ false → X
clash e = absurd (true≢false e)

abbrev Kept : ℕ → ℕ → Row → ℕ → ℕ → List ℕ → Type 0
Kept r m w i k inside = Link k i (parts w) × (member m (inside_at r w i inside) ≡ false)

-- a link that is not cut leads to no place in the body of m
kept : (r m : ℕ) (w : Row) {i k : ℕ} (inside : List ℕ) → member m inside ≡ false → (b : Bool) → eqb r m ≡ b
    → Link k i (cond b (outside w) (parts w)) → Kept r m w i k inside
unfolding outside
kept r m (Row.Expression x) inside h true e l = (l, h)
kept r m (Row.Formula x) inside h true e l = (l, h)
kept r m (Row.Statement Skip) inside h true e l = (l, h)
kept r m (Row.Statement (Assign v x)) inside h true e l = (l, h)
kept r m (Row.Statement (Sequence x y)) inside h true e l = (l, h)
kept r m (Row.Statement (If x y z)) inside h true e l = (l, h)
kept r m (Row.Statement (While x y z)) inside h true e (here p) = (here p, h)
kept r m (Row.Statement (While x y z)) {k = k} inside h true e (there (there {i = i} x12)) = elim x12 [ ]
kept r m (Row.Statement (While x y z)) inside h true e (there (here p)) = (there (here p), h)
kept r m (Row.Statement (Assert f)) inside h true e l = (l, h)
kept r m (Row.Note i v) inside h true e l = (l, h)
kept r m (Row.Script p s q) inside h true e l = (l, h)
kept r m Row.Unknown inside h true e l = (l, h)
kept r m (Row.Expression x) inside h false e l = (l, h)
kept r m (Row.Formula x) inside h false e l = (l, h)
kept r m (Row.Statement Skip) inside h false e l = (l, h)
kept r m (Row.Statement (Assign v x)) inside h false e l = (l, h)
kept r m (Row.Statement (Sequence x y)) inside h false e l = (l, h)
kept r m (Row.Statement (If x y z)) inside h false e l = (l, h)
kept r m (Row.Statement (While x y z)) {i = i} inside h false e l = (l, body (eqb i 2))
  where
    other : eqb m r ≡ false
    other = ne_eqb m r (λ d. eqb-false r m e (sym d))

    body : (b : Bool) → member m (cond b (r ∷ inside) inside) ≡ false
    body true = subst (λ c. (c || member m inside) ≡ false) (sym other) h
    body false = h
kept r m (Row.Statement (Assert f)) inside h false e l = (l, h)
kept r m (Row.Note i v) inside h false e l = (l, h)
kept r m (Row.Script p s q) inside h false e l = (l, h)
kept r m Row.Unknown inside h false e l = (l, h)

-- a link that leads to no place in the body of m is not cut, and starts at none
abbrev Uncut : ℕ → ℕ → Row → ℕ → ℕ → List ℕ → Bool → Type 0
Uncut r m w i k inside b = Link k i (cond b (outside w) (parts w)) × (member m inside ≡ false)

free : (r m : ℕ) (w : Row) {i k : ℕ} (inside : List ℕ) → Link k i (parts w) → member m (inside_at r w i inside) ≡ false
    → (b : Bool)
    → eqb r m ≡ b → Uncut r m w i k inside b
unfolding outside
free r m (Row.Expression x) inside l h true e = (l, h)
free r m (Row.Formula x) inside l h true e = (l, h)
free r m (Row.Statement Skip) inside l h true e = (l, h)
free r m (Row.Statement (Assign v x)) inside l h true e = (l, h)
free r m (Row.Statement (Sequence x y)) inside l h true e = (l, h)
free r m (Row.Statement (If x y z)) inside l h true e = (l, h)
free r m (Row.Statement (While x y z)) inside (here p) h true e = (here p, h)
free r m (Row.Statement (While x y z)) inside (there (here p)) h true e = (there (here p), h)
free r m (Row.Statement (While x y z)) {k = k} inside (there (there (there {i = i} x16))) h true e = elim x16 [ ]
free r m (Row.Statement (While x y z)) inside (there (there (here p))) h true e =
    clash (sym (subst (λ c. (c || member m inside) ≡ true) (sym (eq-eqb m r (sym (eqb-true r m e)))) refl) ∙ h)
free r m (Row.Statement (Assert f)) inside l h true e = (l, h)
free r m (Row.Note i v) inside l h true e = (l, h)
free r m (Row.Script p s q) inside l h true e = (l, h)
free r m Row.Unknown inside l h true e = (l, h)
free r m (Row.Expression x) inside l h false e = (l, h)
free r m (Row.Formula x) inside l h false e = (l, h)
free r m (Row.Statement Skip) inside l h false e = (l, h)
free r m (Row.Statement (Assign v x)) inside l h false e = (l, h)
free r m (Row.Statement (Sequence x y)) inside l h false e = (l, h)
free r m (Row.Statement (If x y z)) inside l h false e = (l, h)
free r m (Row.Statement (While x y z)) {i = i} inside l h false e = (l, body (eqb i 2) h)
  where
    rest : (c : Bool) → (c || member m inside) ≡ false → member m inside ≡ false
    rest true d = clash d
    rest false d = d

    body : (b : Bool) → member m (cond b (r ∷ inside) inside) ≡ false → member m inside ≡ false
    body true d = rest (eqb m r) d
    body false d = d
free r m (Row.Statement (Assert f)) inside l h false e = (l, h)
free r m (Row.Note i v) inside l h false e = (l, h)
free r m (Row.Script p s q) inside l h false e = (l, h)
free r m Row.Unknown inside l h false e = (l, h)

-- ---- uses outside

pub outside_iff : (t : List ℤ) (m q : ℕ) → Path t m q ↔ UseOutside t m q
unfolding uncut
outside_iff t m q = (out, λ u. back u.2 u.3)
  where
    out : {q : ℕ} → Path t m q → UseOutside t m q
    out top = (false, [], script, refl)
    out (down {r = r} {i = i} {k = k} p l) =
        let u = out p in
        let s = kept r m (row t r) u.1 u.3 (eqb r m) refl l in
        (code_at (row t r) i u.0, inside_at r (row t r) i u.1, link u.2 s.0, s.1)

    back : {q : ℕ} {code : Bool} {inside : List ℕ} → Stands t q code inside → member m inside ≡ false → Path t m q
    back script h = top
    back (link {r = r} {i = i} {k = k} {inside = inside} S l) h =
        let s = free r m (row t r) inside l h (eqb r m) refl in
        down (back S s.1) s.0

-- ---- 13

-- row q is a mark, and some use of it that the script reaches is not inside the body of its loop
abbrev pub Escaping : List ℤ → ℕ → Type 0
Escaping t q = (m : RowNumber) × (row t q ≡ Row.Expression (Mark m)) × UseOutside t m.0 q

abbrev pub AMark : Row → Type 0
AMark (Row.Expression (Constant z)) = ⊥
AMark (Row.Expression (Variable v)) = ⊥
AMark (Row.Expression (Arithmetic o a b)) = ⊥
AMark (Row.Expression (Negate a)) = ⊥
AMark (Row.Expression (Mark m)) = Unit {0}
AMark (Row.Expression (Choose f a b)) = ⊥
AMark (Row.Formula x) = ⊥
AMark (Row.Statement x) = ⊥
AMark (Row.Note i v) = ⊥
AMark (Row.Script p s q) = ⊥
AMark Row.Unknown = ⊥

module _ (t : List ℤ) (falls : Falls t) (filled : 0 < rows t) where
  found : (q : ℕ) (w : Row) → row t q ≡ w → (escapes t q w ≡ true) ↔ Escaping t q
  unfolding escapes
  found q (Row.Expression (Mark m)) e = (
    λ h. (m, e, (outside_iff t m.0 q).0 ((reached_iff t m.0 falls q filled).0 h)),
    λ h. (reached_iff t m.0 falls q filled).1
        ((outside_iff t m.0 q).1 (subst (λ (x : ℕ). UseOutside t x q) (named h) h.2)),
  )
    where
      named : (h : Escaping t q) → h.0.0 ≡ m.0
      named h = let d : Row.Expression (Mark h.0) ≡ Row.Expression (Mark m) = sym h.1 ∙ e in cc
  found q (Row.Expression (Constant z)) e = (λ h. absurd (false≢true h), λ h. absurd (subst AMark (sym h.1 ∙ e) tt))
  found q (Row.Expression (Variable v)) e = (λ h. absurd (false≢true h), λ h. absurd (subst AMark (sym h.1 ∙ e) tt))
  found q (Row.Expression (Arithmetic o a b)) e =
      (λ h. absurd (false≢true h), λ h. absurd (subst AMark (sym h.1 ∙ e) tt))
  found q (Row.Expression (Negate a)) e = (λ h. absurd (false≢true h), λ h. absurd (subst AMark (sym h.1 ∙ e) tt))
  found q (Row.Expression (Choose f a b)) e =
      (λ h. absurd (false≢true h), λ h. absurd (subst AMark (sym h.1 ∙ e) tt))
  found q (Row.Formula x) e = (λ h. absurd (false≢true h), λ h. absurd (subst AMark (sym h.1 ∙ e) tt))
  found q (Row.Statement x) e = (λ h. absurd (false≢true h), λ h. absurd (subst AMark (sym h.1 ∙ e) tt))
  found q (Row.Note i v) e = (λ h. absurd (false≢true h), λ h. absurd (subst AMark (sym h.1 ∙ e) tt))
  found q (Row.Script p s x) e = (λ h. absurd (false≢true h), λ h. absurd (subst AMark (sym h.1 ∙ e) tt))
  found q Row.Unknown e = (λ h. absurd (false≢true h), λ h. absurd (subst AMark (sym h.1 ∙ e) tt))

  pub escapes_iff : (q : ℕ) → (escapes t q (row t q) ≡ true) ↔ Escaping t q
  escapes_iff q = found q (row t q) refl

  pub mark_exact : Says (mark_test t) (λ k r. (k ≡ 13) × Lowest (Escaping t) (rows t) r)
  unfolding mark_test mark_fault
  mark_exact =
      lowest_with (Escaping t) (mark_fault t) 13 (rows t) (omega linear)
      (λ j h. where_true (escapes t j (row t j)) 13 (omega linear) (escapes_iff j))
