-- The entry of a word, taken as the kind of a node, from the entries of the words after it: where the node ends, the number of
-- its shape when it is shortened, and what it becomes. Assumes nothing.
use Rattle.std.specs.Prelude.{ℕ, ◌+◌, List, cond, ◌≡◌, eqb, ℤ, pos, get_or}
use Rattle.std.proofs.Common.{ap, ne_eqb}
use Rattle.script.specs.Rows.{field_number}
use Rattle.shortening.specs.Simplify.{is_true, is_false, number_shape, shape_number}
use Rattle.shortener.specs.Codes.{Coded}
use Rattle.shortener.specs.Codes.{kept_code, numbered_code, other_code, not_code, pair_code, changed_shape_code}

abbrev pub entry : ℕ → ℕ → ℕ → Coded
entry e s t = record { end = e; shape = s; change = t }

abbrev pub number_code : ℤ → ℕ
number_code z = shape_number (number_shape z)

module _ (es ss : List ℕ) where
  abbrev end : ℕ → ℕ
  end at = get_or es at 0

  abbrev shape : ℕ → ℕ
  shape at = get_or ss at 0

  -- what becomes of it gives its shape
  abbrev changed_entry : ℕ → ℕ → ℕ → ℕ → Coded
  changed_entry e t x y = entry e (changed_shape_code t x y) t

  unfoldable pub not_entry : ℕ → Coded
  not_entry at = changed_entry (end (at + 1)) (not_code (shape (at + 1))) (shape (at + 1)) other_code

module _ (k : ℕ) (es ss : List ℕ) where
  unfoldable pub pair_entry : ℕ → Coded
  pair_entry at =
      let middle = end es ss (at + 1) in
      let x = shape es ss (at + 1) in
      let y = shape es ss middle in
      changed_entry es ss (end es ss middle) (pair_code k x y) x y

  -- without a rule it stays
  pub kept_pair : (at : ℕ) → ((x y : ℕ) → kept_code ≡ pair_code k x y)
      → entry (end es ss (end es ss (at + 1))) other_code kept_code ≡ pair_entry at
  unfolding pair_entry changed_shape_code
  kept_pair at q =
      let middle = end es ss (at + 1) in
      let x = shape es ss (at + 1) in
      let y = shape es ss middle in
      ap (λ t. entry (end es ss middle) (changed_shape_code t x y) t) (q x y)

-- by the kind k
unfoldable pub entry_of : ℕ → List ℤ → List ℕ → List ℕ → ℕ → Coded
entry_of k ws es ss at =
    cond (eqb k 1) (entry (at + 2) (number_code (get_or ws (at + 1) (pos 0))) numbered_code)
    (cond (eqb k 2) (entry (at + 2) other_code numbered_code)
    (cond (eqb k 9) (entry (at + 2) other_code numbered_code)
    (cond (eqb k 16) (entry (at + 1) (shape_number is_true) kept_code)
    (cond (eqb k 17) (entry (at + 1) (shape_number is_false) kept_code)
    (cond (eqb k 8) (entry (end es ss (at + 1)) other_code kept_code)
    (cond (eqb k 10) (entry (end es ss (end es ss (end es ss (at + 1)))) other_code kept_code)
    (cond (eqb k 22) (not_entry es ss at)
    (pair_entry k es ss at))))))))

abbrev pub entry_at : List ℤ → List ℕ → List ℕ → ℕ → Coded
entry_at ws es ss at = entry_of (field_number (get_or ws at (pos 0))) ws es ss at

-- ---- a kind that is none of those with an arm of their own

abbrev PastKinds : ℕ → Type 0
PastKinds k =
    ((((((((Unit {0} × (k ≡ 1 → ⊥)) × (k ≡ 2 → ⊥)) × (k ≡ 9 → ⊥)) × (k ≡ 16 → ⊥)) × (k ≡ 17 → ⊥)) × (k ≡ 8 → ⊥)) × (k ≡ 10 → ⊥)) × (k ≡ 22 → ⊥))

pub other_entry : (k : ℕ) → PastKinds k → (ws : List ℤ) (es ss : List ℕ) (at : ℕ) → pair_entry k es ss at ≡ entry_of k ws es ss at
unfolding entry_of
other_entry k h ws es ss at =
    rw (ne_eqb k 1 h.0.0.0.0.0.0.0.1, ne_eqb k 2 h.0.0.0.0.0.0.1, ne_eqb k 9 h.0.0.0.0.0.1, ne_eqb k 16 h.0.0.0.0.1, ne_eqb k 17 h.0.0.0.1, ne_eqb k 8 h.0.0.1, ne_eqb k 10 h.0.1, ne_eqb k 22 h.1)
