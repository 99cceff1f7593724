-- The rows of statements by the number in their first word: which row a number tells (`of_number`), which number a row has
-- (`row_numbered`), and whether a row is a sequence (`splits_here`). Assumes nothing.
use Rattle.std.specs.Prelude.{ℕ, ◌≡◌, Bool, List, ℤ}
use Rattle.std.proofs.Math.Path.{refl}
use Rattle.std.proofs.Common.{sym, ap, ◌∙◌, arith as linear, eqb-true}
use Rattle.std.proofs.Math.Bool.{true, false}
use Rattle.std.proofs.lemmas.Bool.{eqb-false}
use Rattle.std.proofs.Math.Dec.{eqb}
use Rattle.script.specs.declared.StatementRow.TheVariants.{Skip, Assign, Sequence, If, While, Assert}
use Rattle.script.specs.declared.Row.{Row}
use Rattle.script.specs.Rows.{field_number, row_no, kinds, row_of, row, word}
use Rattle.script.specs.Laws.{row_is}
use Rattle.theorems.specs.Kinds.{listed_holds, ◌also◌}

-- a statement, a note or a script has the number n
abbrev pub Numbered : ℕ → Row → Type 0
Numbered n (Row.Statement Skip) = n ≡ 32
Numbered n (Row.Statement (Assign v e)) = n ≡ 33
Numbered n (Row.Statement (Sequence a b)) = n ≡ 34
Numbered n (Row.Statement (If b x y)) = n ≡ 35
Numbered n (Row.Statement (While b i x)) = n ≡ 36
Numbered n (Row.Statement (Assert f)) = n ≡ 38
Numbered n (Row.Expression w) = Unit {0}
Numbered n (Row.Formula w) = Unit {0}
Numbered n (Row.Note i v) = n ≡ 37
Numbered n (Row.Script p s q) = n ≡ 48
Numbered n Row.Unknown = Unit {0}

number_told : (n : ℕ) (a b c : ℤ) → Numbered n (row_of n a b c)
unfolding row_of
number_told n a b c =
    listed_holds Numbered n (kinds a b c) tt
    (tt also tt also tt also tt also tt also tt also tt also tt also tt also tt
    also tt also tt also tt also tt also tt also tt also tt also tt also tt also tt
    also refl also refl also refl also refl also refl also refl also refl also refl also tt)

-- whether it is split as the next step begins
abbrev pub splits : Row → Bool
splits (Row.Statement (Sequence a b)) = true
splits (Row.Statement Skip) = false
splits (Row.Statement (Assign v e)) = false
splits (Row.Statement (If b x y)) = false
splits (Row.Statement (While b i x)) = false
splits (Row.Statement (Assert f)) = false
splits (Row.Expression w) = false
splits (Row.Formula w) = false
splits (Row.Note i v) = false
splits (Row.Script p s q) = false
splits Row.Unknown = false

module _ (t : List ℤ) (r : ℕ) {n : ℕ} (read : n ≡ field_number (word t r 0)) where
  here : row_of n (word t r 1) (word t r 2) (word t r 3) ≡ row t r
  here = ap (λ (i : ℕ). row_of i (word t r 1) (word t r 2) (word t r 3)) read ∙ row_is t r

  pub row_numbered : Numbered n (row t r)
  row_numbered = rw here at (number_told n (word t r 1) (word t r 2) (word t r 3))

  pub of_number : (k : ℕ) → n ≡ k → row t r ≡ row_of k (word t r 1) (word t r 2) (word t r 3)
  of_number k e = sym here ∙ ap (λ (i : ℕ). row_of i (word t r 1) (word t r 2) (word t r 3)) e

  -- a row with another number
  unsplit : (w : Row) → Numbered n w → (n ≡ 34 → ⊥) → false ≡ splits w
  unsplit (Row.Statement (Sequence a b)) h k = absurd (k h)
  unsplit (Row.Statement Skip) h k = refl
  unsplit (Row.Statement (Assign v e)) h k = refl
  unsplit (Row.Statement (If b x y)) h k = refl
  unsplit (Row.Statement (While b i x)) h k = refl
  unsplit (Row.Statement (Assert f)) h k = refl
  unsplit (Row.Expression w) h k = refl
  unsplit (Row.Formula w) h k = refl
  unsplit (Row.Note i v) h k = refl
  unsplit (Row.Script p s q) h k = refl
  unsplit Row.Unknown h k = refl

  pub splits_here : eqb n 34 ≡ splits (row t r)
  unfolding row_of
  splits_here = by (eqb n 34) refl
    where
      by : (b : Bool) → eqb n 34 ≡ b → b ≡ splits (row t r)
      by true e = rw (of_number 34 (eqb-true n 34 e))
      by false e = unsplit (row t r) row_numbered (eqb-false n 34 e)

  pub split_here : n ≡ 34 → true ≡ splits (row t r)
  unfolding row_of
  split_here e = rw (of_number 34 e)

  pub unsplit_here : (n ≡ 34 → ⊥) → false ≡ splits (row t r)
  unsplit_here h = unsplit (row t r) row_numbered h

-- a row that is split is a sequence of the rows in its fields
pub sequence_at : (t : List ℤ) (r : ℕ) → true ≡ splits (row t r) → row t r ≡ Row.Statement (Sequence (row_no (word t r 1)) (row_no (word t r 2)))
unfolding row_of
sequence_at t r s = by (row t r) refl (row_numbered t r refl) s
  where
    clash : true ≡ false → ⊥
    clash e = let z : ◌≡◌ {A = ℕ} 0 1 = cc in omega linear

    by : (w : Row) → row t r ≡ w → Numbered (field_number (word t r 0)) w → true ≡ splits w
        → row t r ≡ Row.Statement (Sequence (row_no (word t r 1)) (row_no (word t r 2)))
    by (Row.Statement (Sequence a b)) e h k = of_number t r refl 34 h
    by (Row.Statement Skip) e h k = absurd (clash k)
    by (Row.Statement (Assign v x)) e h k = absurd (clash k)
    by (Row.Statement (If b x y)) e h k = absurd (clash k)
    by (Row.Statement (While b i x)) e h k = absurd (clash k)
    by (Row.Statement (Assert f)) e h k = absurd (clash k)
    by (Row.Expression w) e h k = absurd (clash k)
    by (Row.Formula w) e h k = absurd (clash k)
    by (Row.Note i v) e h k = absurd (clash k)
    by (Row.Script p x q) e h k = absurd (clash k)
    by Row.Unknown e h k = absurd (clash k)
