-- What a script has whose marks stand inside the bodies of their loops (`ScopedTree`): each mark names a loop around
-- it, and no loop stands inside one of its own number. And what the rows of a table have where links fall and no mark
-- has a use outside: loops that enclose a row are above it (`above`), so that a mark stands inside its loop
-- (`mark_within`), and a loop in none of its own number (`not_own`). By induction over the place where a row stands.
-- Assumes nothing.
use Rattle.std.specs.Prelude.{ℕ, ◌<◌, ◌≡◌, refl, List, [], ◌∷◌, Bool, true, false, cond, ℤ, eqb}
use Rattle.std.proofs.Common.{⊎_elim, arith as linear, eqb-true}
use Rattle.std.proofs.lemmas.Bool.{false≢true}
use Rattle.script.specs.declared.RowNumber.{RowNumber}
use Rattle.script.specs.declared.ExpressionRow.TheVariants.{Mark}
use Rattle.script.specs.declared.StatementRow.TheVariants.{Skip, Assign, Sequence, If, While, Assert}
use Rattle.script.specs.declared.Row.{Row}
use Rattle.script.specs.Syntax.{Expr, Formula, Names, Namesᶠ, Stmt, skip, assign, seq, branch, loop, assert, Tree}
use Rattle.script.specs.Rows.{rows, row}
use Rattle.script.specs.Refusals.{member}
use Rattle.theorems.specs.Tests.{or_iff}
use Rattle.theorems.specs.Standing.{inside_at, Stands, script, link}
use Rattle.mending.specs.Falling.{Falls, link_below}
use Rattle.mending.specs.Escape.{Escaping}

-- ---- scopes

-- each mark names one of these loops
abbrev pub In : List ℕ → Expr → Type 0
In inside e = Names (λ v. Unit {0}) (λ m. member m inside ≡ true) e

abbrev pub Inᶠ : List ℕ → Formula → Type 0
Inᶠ inside f = Namesᶠ (λ v. Unit {0}) (λ m. member m inside ≡ true) f

abbrev pub Scoped : List ℕ → Stmt → Type 0
Scoped inside skip = Unit {0}
Scoped inside (assign v e) = In inside e
Scoped inside (seq a b) = Scoped inside a × Scoped inside b
Scoped inside (branch b x y) = Inᶠ inside b × Scoped inside x × Scoped inside y
Scoped inside (loop m b i v x) =
    Inᶠ inside b × Inᶠ inside i × In inside v × (member m inside ≡ false) × Scoped (m ∷ inside) x
Scoped inside (assert a) = Inᶠ inside a

pub record ScopedTree (t : Tree) : Type 0 where
  pub pre : Inᶠ [] t.pre
  pub body : Scoped [] t.body
  pub post : Inᶠ [] t.post

-- ---- loops that enclose a row are above it

pub above : (t : List ℤ) → Falls t → 0 < rows t → {r : ℕ} {code : Bool} {inside : List ℕ} → Stands t r code inside
    → (r < rows t) × ((m : ℕ) → member m inside ≡ true → r < m)
above t falls filled script = (omega linear, λ m e. absurd (false≢true e))
above t falls filled (link {r = r} {i = i} {k = k} {inside = is} S l) =
    let u = above t falls filled S in
    let v = link_below t r (falls r u.0) l in
    (omega linear, λ m e. go (row t r) u.1 v m e)
  where
    go : (w : Row) → ((m : ℕ) → member m is ≡ true → r < m) → k < r → (m : ℕ) → member m (inside_at r w i is) ≡ true
        → k < m
    go (Row.Expression x) f v m e = let y = f m e in omega linear
    go (Row.Formula x) f v m e = let y = f m e in omega linear
    go (Row.Statement Skip) f v m e = let y = f m e in omega linear
    go (Row.Statement (Assign x z)) f v m e = let y = f m e in omega linear
    go (Row.Statement (Sequence x z)) f v m e = let y = f m e in omega linear
    go (Row.Statement (If b x z)) f v m e = let y = f m e in omega linear
    go (Row.Statement (While b n x)) f v m e = body (eqb i 2) e
      where
        body : (c : Bool) → member m (cond c (r ∷ is) is) ≡ true → k < m
        body true e =
            ⊎_elim (λ d. let y = eqb-true m r d in omega linear) (λ d. let y = f m d in omega linear)
            ((or_iff (eqb m r) (member m is)).0 e)
        body false e = let y = f m e in omega linear
    go (Row.Statement (Assert x)) f v m e = let y = f m e in omega linear
    go (Row.Note a b) f v m e = let y = f m e in omega linear
    go (Row.Script p s q) f v m e = let y = f m e in omega linear
    go Row.Unknown f v m e = let y = f m e in omega linear

-- ---- where rows stand

module _ (t : List ℤ) (falls : Falls t) (filled : 0 < rows t) (inside : (k : ℕ) → k < rows t → ¬ Escaping t k) where
  -- a mark stands inside the body of its loop
  pub mark_within : {r : ℕ} {code : Bool} {is : List ℕ} → Stands t r code is → (m : RowNumber)
      → row t r ≡ Row.Expression (Mark m)
      → member m.0 is ≡ true
  mark_within {r} {code} {is} S m e = go (member m.0 is) refl
    where
      go : (b : Bool) → member m.0 is ≡ b → b ≡ true
      go true d = refl
      go false d = absurd (inside r (above t falls filled S).0 (m, e, (code, is, S, d)))

  -- and a loop in none of its own number
  pub not_own : {r : ℕ} {code : Bool} {is : List ℕ} → Stands t r code is → member r is ≡ false
  not_own {r} {code} {is} S = go (member r is) refl
    where
      go : (b : Bool) → member r is ≡ b → b ≡ false
      go true d = absurd (let l = (above t falls filled S).1 r d in omega linear)
      go false d = refl
