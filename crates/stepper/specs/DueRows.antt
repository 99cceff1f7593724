-- The statement due, in an accepted table: of a sequence it is that of its first part (`split_next`), of what is none it is the row
-- itself (`unsplit_next`); what is to do after it does not change which it is (`due_row`).
-- Argument: links fall, so what is due is the same at every bound above the row (`steady`). Assumes nothing.
use Prim.Native.Nat.{ℕ, zero, suc, ◌<◌}
use Rattle.std.proofs.Math.Path.{◌≡◌, refl}
use Rattle.std.specs.Prelude.{false, List, [], ◌∷◌, ℤ}
use Rattle.std.proofs.Common.{arith as linear}
use Rattle.script.specs.declared.StatementRow.TheVariants.{Skip, Assign, Sequence, If, While, Assert}
use Rattle.script.specs.declared.Row.{Row}
use Rattle.script.specs.Rows.{row, rows}
use Rattle.theorems.specs.Accepted.{Accepted}
use Rattle.theorems.specs.RowTrees.{below, lower₂}
use Rattle.stepping.specs.Machine.{Due, due_at, due_statement, due, next, if_statement}
use Rattle.stepping.specs.Places.{statement_inside}
use Rattle.stepper.specs.Kinds.{splits}

-- the row of the statement that is due where r is the next row
abbrev pub due_row : List ℤ → ℕ → ℕ
due_row t r = (next t r []).at

module _ (t : List ℤ) where
  due_of : (ℕ → List ℕ → Due) → ℕ → List ℕ → Row → Due
  due_of D r rest w = if_statement (due_at r rest) (due_statement D r rest) w

  -- ---- what is to do after it changes nothing

  any_by : (D : ℕ → List ℕ → Due) → ((a : ℕ) (x y : List ℕ) → (D a x).at ≡ (D a y).at) → (r : ℕ) (x y : List ℕ) (w : Row)
      → (due_of D r x w).at ≡ (due_of D r y w).at
  unfolding due_of
  any_by D go r x y (Row.Statement (Sequence a b)) = go a.0 (b.0 ∷ x) (b.0 ∷ y)
  any_by D go r x y (Row.Statement Skip) = refl
  any_by D go r x y (Row.Statement (Assign v e)) = refl
  any_by D go r x y (Row.Statement (If b p q)) = refl
  any_by D go r x y (Row.Statement (While b i p)) = refl
  any_by D go r x y (Row.Statement (Assert f)) = refl
  any_by D go r x y (Row.Expression w) = refl
  any_by D go r x y (Row.Formula w) = refl
  any_by D go r x y (Row.Note i v) = refl
  any_by D go r x y (Row.Script p s q) = refl
  any_by D go r x y Row.Unknown = refl

  any_rest : (n r : ℕ) (x y : List ℕ) → (due t n r x).at ≡ (due t n r y).at
  unfolding due due_of
  any_rest zero r x y = refl
  any_rest (suc n) r x y = any_by (due t n) (any_rest n) r x y (row t r)

  pub next_row : (r : ℕ) (rest : List ℕ) → (next t r rest).at ≡ due_row t r
  next_row r rest = any_rest (rows t) r rest []

  -- ---- what is no sequence

  unsplit_by : (D : ℕ → List ℕ → Due) (r : ℕ) (rest : List ℕ) (w : Row) → false ≡ splits w → due_of D r rest w ≡ due_at r rest
  unfolding due_of
  unsplit_by D r rest (Row.Statement (Sequence a b)) s = absurd (let z : ◌≡◌ {A = ℕ} 0 1 = cc in omega linear)
  unsplit_by D r rest (Row.Statement Skip) s = refl
  unsplit_by D r rest (Row.Statement (Assign v e)) s = refl
  unsplit_by D r rest (Row.Statement (If b x y)) s = refl
  unsplit_by D r rest (Row.Statement (While b i x)) s = refl
  unsplit_by D r rest (Row.Statement (Assert f)) s = refl
  unsplit_by D r rest (Row.Expression w) s = refl
  unsplit_by D r rest (Row.Formula w) s = refl
  unsplit_by D r rest (Row.Note i v) s = refl
  unsplit_by D r rest (Row.Script p x q) s = refl
  unsplit_by D r rest Row.Unknown s = refl

  pub unsplit_next : (r : ℕ) (rest : List ℕ) → false ≡ splits (row t r) → next t r rest ≡ due_at r rest
  unfolding due due_of
  unsplit_next r rest s = by (rows t)
    where
      by : (n : ℕ) → due t n r rest ≡ due_at r rest
      by zero = refl
      by (suc n) = unsplit_by (due t n) r rest (row t r) s

  -- ---- a sequence

  module _ (ok : Accepted t) where
    -- the parts of a sequence are lower
    pub parts_below : (r : ℕ) {a b : ℕ} → row t r ≡ Row.Statement (Sequence (record { 0 = a }) (record { 0 = b })) → (a < r) × (b < r)
    parts_below r {a} {b} e = lower₂ a b r (below t ok r (statement_inside t ok r e) e)

    steady_by : (D D' : ℕ → List ℕ → Due) (r : ℕ) (rest : List ℕ) → ((a : ℕ) (more : List ℕ) → a < r → D a more ≡ D' a more)
        → (w : Row) → row t r ≡ w → due_of D r rest w ≡ due_of D' r rest w
    unfolding due_of
    steady_by D D' r rest go (Row.Statement (Sequence a b)) e = go a.0 (b.0 ∷ rest) (parts_below r e).0
    steady_by D D' r rest go (Row.Statement Skip) e = refl
    steady_by D D' r rest go (Row.Statement (Assign v x)) e = refl
    steady_by D D' r rest go (Row.Statement (If b x y)) e = refl
    steady_by D D' r rest go (Row.Statement (While b i x)) e = refl
    steady_by D D' r rest go (Row.Statement (Assert f)) e = refl
    steady_by D D' r rest go (Row.Expression w) e = refl
    steady_by D D' r rest go (Row.Formula w) e = refl
    steady_by D D' r rest go (Row.Note i v) e = refl
    steady_by D D' r rest go (Row.Script p s q) e = refl
    steady_by D D' r rest go Row.Unknown e = refl

    steady : (n m r : ℕ) (rest : List ℕ) → r < n → r < m → due t n r rest ≡ due t m r rest
    unfolding due due_of
    steady zero m r rest h k = absurd (omega linear)
    steady (suc n) zero r rest h k = absurd (omega linear)
    steady (suc n) (suc m) r rest h k =
        steady_by (due t n) (due t m) r rest (λ a more l. steady n m a more (omega linear) (omega linear)) (row t r) refl

    pub split_next : (r : ℕ) (rest : List ℕ) {a b : ℕ} → row t r ≡ Row.Statement (Sequence (record { 0 = a }) (record { 0 = b }))
        → next t r rest ≡ next t a (b ∷ rest)
    unfolding due
    split_next r rest {a} {b} e = by (rows t) refl
      where
        by : (n : ℕ) → n ≡ rows t → due t n r rest ≡ due t (rows t) a (b ∷ rest)
        by zero k = let h = statement_inside t ok r e in absurd (omega linear)
        by (suc n) k =
            let h = statement_inside t ok r e in
            let l = (parts_below r e).0 in
            rw e (steady n (rows t) a (b ∷ rest) (omega linear) (omega linear))
