-- Where a row stands in the script, as a relation that follows the links, for number 9 of 01:
-- "a frozen name in a guard or assigned expression, or a mark where it may not stand". `code_at` and `inside_at` say what a
-- link's place is; `Stands` gathers them from the script down; `Wrong` is the fault of a row at a place, with its test.
-- Assumes nothing.
use Rattle.std.specs.Prelude.{ℕ, ◌-◌, ◌≤◌, ◌≡◌, refl, ◌↔◌, ◌⊎◌, List, [], ◌∷◌, Bool, true, false, cond, not, ◌&&◌, ◌||◌, ℤ, eqb}
use Rattle.std.proofs.Common.{ap, inl, inr, ⊎_elim, eqb-true}
use Rattle.std.proofs.lemmas.Bool.{false≢true, not-true}
use Rattle.std.proofs.Math.Bool.{and-eq-true_iff}
use Rattle.script.specs.declared.RowNumber.{RowNumber}
use Rattle.script.specs.declared.VariableNumber.{VariableNumber}
use Rattle.script.specs.declared.ExpressionRow.TheVariants.{Constant, Variable, Arithmetic, Negate, Mark, Choose}
use Rattle.script.specs.declared.StatementRow.TheVariants.{Skip, Assign, Sequence, If, While, Assert}
use Rattle.script.specs.declared.Row.{Row}
use Rattle.script.specs.Rows.{parts, rows, row}
use Rattle.script.specs.Refusals.{member, frozen}
use Rattle.theorems.specs.Links.{Link}
use Rattle.theorems.specs.Tests.{or_iff}
use Rattle.theorems.specs.Occasions.{frozen_iff}

-- whether link number i of a row stands in a guard or an assigned expression, where the row does or does not
abbrev pub code_at : Row → ℕ → Bool → Bool
code_at (Row.Expression x) i code = code
code_at (Row.Formula x) i code = code
code_at (Row.Statement Skip) i code = false
code_at (Row.Statement (Assign v e)) i code = true
code_at (Row.Statement (Sequence a b)) i code = false
-- the guard
code_at (Row.Statement (If b x y)) i code = eqb i 0
code_at (Row.Statement (While b n x)) i code = eqb i 0
code_at (Row.Statement (Assert f)) i code = false
code_at (Row.Note i v) l code = false
code_at (Row.Script p s q) i code = false
code_at Row.Unknown i code = false

-- the loops in whose bodies link number i of row r stands. "A loop's own note is not inside its body."
abbrev pub inside_at : ℕ → Row → ℕ → List ℕ → List ℕ
inside_at r (Row.Expression x) i inside = inside
inside_at r (Row.Formula x) i inside = inside
inside_at r (Row.Statement Skip) i inside = inside
inside_at r (Row.Statement (Assign v e)) i inside = inside
inside_at r (Row.Statement (Sequence a b)) i inside = inside
inside_at r (Row.Statement (If b x y)) i inside = inside
-- the body
inside_at r (Row.Statement (While b n x)) i inside = cond (eqb i 2) (r ∷ inside) inside
inside_at r (Row.Statement (Assert f)) i inside = inside
inside_at r (Row.Note i v) l inside = inside
inside_at r (Row.Script p s q) i inside = inside
inside_at r Row.Unknown i inside = inside

-- row r stands in the script: in code or not, inside the bodies of these loops
pub data Stands (ws : List ℤ) : ℕ → Bool → List ℕ → Type 0 where
  script : Stands ws (rows ws - 1) false []
  link : {r i k : ℕ} {code : Bool} {inside : List ℕ} → Stands ws r code inside → Link k i (parts (row ws r))
      → Stands ws k (code_at (row ws r) i code) (inside_at r (row ws r) i inside)

-- a row that may not stand there. "128 to 255 are frozen: annotations read them, scripts never read or assign them."
-- A mark "may stand only in an annotation (assertion, invariant, variant) inside the body of the loop it names."
pub data Wrong (code : Bool) (inside : List ℕ) : Row → Type 0 where
  frozen_in_code : {v : VariableNumber} → code ≡ true → 128 ≤ v.0 → v.0 ≤ 255 → Wrong code inside (Row.Expression (Variable v))
  mark_in_code : {m : RowNumber} → code ≡ true → Wrong code inside (Row.Expression (Mark m))
  mark_outside : {m : RowNumber} → member m.0 inside ≡ false → Wrong code inside (Row.Expression (Mark m))

-- ---- the same as a test

abbrev pub wrong : Row → Bool → List ℕ → Bool
wrong (Row.Expression (Constant z)) code inside = false
wrong (Row.Expression (Variable v)) code inside = code && frozen v.0
wrong (Row.Expression (Arithmetic o a b)) code inside = false
wrong (Row.Expression (Negate a)) code inside = false
wrong (Row.Expression (Mark m)) code inside = code || not (member m.0 inside)
wrong (Row.Expression (Choose f a b)) code inside = false
wrong (Row.Formula x) code inside = false
wrong (Row.Statement x) code inside = false
wrong (Row.Note i v) code inside = false
wrong (Row.Script p s q) code inside = false
wrong Row.Unknown code inside = false

pub wrong_iff : (w : Row) (code : Bool) (inside : List ℕ) → (wrong w code inside ≡ true) ↔ Wrong code inside w
wrong_iff w code inside = (out w, back)
  where
    variable : (v : VariableNumber) → (code ≡ true) × (frozen v.0 ≡ true) → Wrong code inside (Row.Expression (Variable v))
    variable v h = let f = (frozen_iff v.0).0 h.1 in frozen_in_code h.0 f.0 f.1

    mark : (m : RowNumber) → (code ≡ true) ⊎ (not (member m.0 inside) ≡ true) → Wrong code inside (Row.Expression (Mark m))
    mark m (inl c) = mark_in_code c
    mark m (inr n) = mark_outside (not-true (member m.0 inside) n)

    out : (w : Row) → wrong w code inside ≡ true → Wrong code inside w
    out (Row.Expression (Constant z)) e = absurd (false≢true e)
    out (Row.Expression (Variable v)) e = variable v ((and-eq-true_iff code (frozen v.0)).0 e)
    out (Row.Expression (Arithmetic o a b)) e = absurd (false≢true e)
    out (Row.Expression (Negate a)) e = absurd (false≢true e)
    out (Row.Expression (Mark m)) e = mark m ((or_iff code (not (member m.0 inside))).0 e)
    out (Row.Expression (Choose f a b)) e = absurd (false≢true e)
    out (Row.Formula x) e = absurd (false≢true e)
    out (Row.Statement x) e = absurd (false≢true e)
    out (Row.Note i v) e = absurd (false≢true e)
    out (Row.Script p s q) e = absurd (false≢true e)
    out Row.Unknown e = absurd (false≢true e)

    back : {w : Row} → Wrong code inside w → wrong w code inside ≡ true
    back (frozen_in_code {v = v} c l h) = (and-eq-true_iff code (frozen v.0)).1 (c, (frozen_iff v.0).1 (l, h))
    back (mark_in_code {m = m} c) = (or_iff code (not (member m.0 inside))).1 (inl c)
    back (mark_outside {m = m} n) = (or_iff code (not (member m.0 inside))).1 (inr (ap not n))

-- ---- "one whose row is no while stands nowhere": a row stands inside the bodies of loops alone

abbrev pub IsWhile : Row → Type 0
IsWhile w = (b : RowNumber) × (n : RowNumber) × (x : RowNumber) × (w ≡ Row.Statement (While b n x))

pub inside_whiles : (ws : List ℤ) (m : ℕ) {r : ℕ} {code : Bool} {inside : List ℕ} → Stands ws r code inside → member m inside ≡ true
    → IsWhile (row ws m)
inside_whiles ws m script e = absurd (false≢true e)
inside_whiles ws m (link {r = r} {i = i} {inside = inside} S l) e = go (row ws r) refl (λ e. inside_whiles ws m S e) e
  where
    go : (w : Row) → row ws r ≡ w → (member m inside ≡ true → IsWhile (row ws m)) → member m (inside_at r w i inside) ≡ true → IsWhile (row ws m)
    go (Row.Expression x) d f e = f e
    go (Row.Formula x) d f e = f e
    go (Row.Statement Skip) d f e = f e
    go (Row.Statement (Assign v x)) d f e = f e
    go (Row.Statement (Sequence a b)) d f e = f e
    go (Row.Statement (If b x y)) d f e = f e
    go (Row.Statement (While b n x)) d f e = body (eqb i 2) e
      where
        body : (t : Bool) → member m (cond t (r ∷ inside) inside) ≡ true → IsWhile (row ws m)
        body true e = ⊎_elim (λ h. rw (eqb-true m r h) (b, n, x, d)) f ((or_iff (eqb m r) (member m inside)).0 e)
        body false e = f e
    go (Row.Statement (Assert g)) d f e = f e
    go (Row.Note a v) d f e = f e
    go (Row.Script p s q) d f e = f e
    go Row.Unknown d f e = f e

pub no_while : (ws : List ℤ) {r : ℕ} {code : Bool} {inside : List ℕ} (m : RowNumber) → Stands ws r code inside
    → row ws r ≡ Row.Expression (Mark m) → ¬ IsWhile (row ws m.0) → Wrong code inside (row ws r)
no_while ws {inside = inside} m S e f = rw e (mark_outside (none (member m.0 inside) (λ e. inside_whiles ws m.0 S e)))
  where
    none : (b : Bool) → (b ≡ true → IsWhile (row ws m.0)) → b ≡ false
    none true g = absurd (f (g refl))
    none false g = refl
