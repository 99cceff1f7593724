-- The rows of the new table: row k is the old row that it came from, with its links and its mark renewed (`new_row`).
-- Argument: the words of row k of the new table are those written for it (`word_at`), and are read as the old row
-- renewed (`Renew.renew_row`). Assumes nothing.
use Prim.Native.Nat.{ℕ, zero, suc, ◌+◌, ◌*◌, ◌<◌}
use Rattle.std.specs.Prelude.{◌≡◌, ℤ, pos, length, get_or}
use Rattle.std.proofs.Math.Path.{refl, sym, ap, subst}
use Rattle.std.proofs.Common.{◌∙◌, zero-add}
use mathlib.Core.List.{List, [], ◌∷◌}
use native.Mathlib.Omega.{arith as linear}
use Rattle.script.specs.declared.Row.{Row}
use Rattle.script.specs.declared.Sort.TheVariants.{Unknown}
use Rattle.script.specs.Rows.{sort_of, field_number, rows, word, row}
use Rattle.script.specs.Laws.{row_is, row_read}
use Rattle.mending.specs.Copies.{origins}
use Rattle.mending.specs.NewTable.{written, renamed, part_places, new_word, new_table}
use Rattle.mending.specs.Layout.{origin}
use Rattle.mending.specs.Renew.{renew, Renews, renew_row}

-- ---- the words of the new table

module _ (W : ℕ → ℕ → ℕ → ℤ) where
  pub written_length : (n : ℕ) (rs : List ℕ) → length (written W n rs) ≡ 4 * length rs
  unfolding written
  written_length n [] = refl
  written_length n (r ∷ rs) = let a = written_length (suc n) rs in omega linear

  first_word : (f n r : ℕ) (rs : List ℕ) → f < 4 → get_or (written W n (r ∷ rs)) (4 * 0 + f) (pos 0) ≡ W n r f
  unfolding written
  first_word zero n r rs l = refl
  first_word (suc zero) n r rs l = refl
  first_word (suc (suc zero)) n r rs l = refl
  first_word (suc (suc (suc zero))) n r rs l = refl
  first_word (suc (suc (suc (suc f)))) n r rs l = absurd (omega linear)

  -- word f of row k, where the first row is number n
  pub word_at : (f n : ℕ) (rs : List ℕ) (k : ℕ) → f < 4 → k < length rs
      → get_or (written W n rs) (4 * k + f) (pos 0) ≡ W (n + k) (get_or rs k 0) f
  unfolding written
  word_at f n [] k l h = absurd (omega linear)
  word_at f n (r ∷ rs) zero l h = first_word f n r rs l ∙ ap (λ (x : ℕ). W x r f) (plus_zero n)
    where
      plus_zero : (n : ℕ) → n ≡ n + 0
      plus_zero n = omega linear
  word_at f n (r ∷ rs) (suc k) l h =
      let e = word_at f (suc n) rs k l (omega linear) in
      rw (four_more k f, ← next_is n k) e
    where
      four_more : (k f : ℕ) → 4 * suc k + f ≡ suc (suc (suc (suc (4 * k + f))))
      four_more k f = omega linear

      next_is : (n k : ℕ) → suc n + k ≡ n + suc k
      next_is n k = omega linear

module _ (t : List ℤ) where
  pub new_rows : rows (new_table t) ≡ length (origins t)
  unfolding new_table
  new_rows = let a = written_length (new_word t) 0 (origins t) in omega linear

  pub new_length : length (new_table t) ≡ 4 * length (origins t)
  unfolding new_table
  new_length = written_length (new_word t) 0 (origins t)

  module _ (k : ℕ) (h : k < length (origins t)) where
    pub kind_at : word (new_table t) k 0 ≡ word t (origin t k) 0
    unfolding new_table new_word
    kind_at = word_at (new_word t) 0 0 (origins t) k (omega linear) h

    abbrev fields_at : ℕ → ℤ
    fields_at f = new_word t k (origin t k) (suc f)

    pub first_at : word (new_table t) k 1 ≡ fields_at 0
    unfolding new_table
    first_at =
        word_at (new_word t) 1 0 (origins t) k (omega linear) h
        ∙ ap (λ (x : ℕ). new_word t x (origin t k) 1) (zero-add k)

    pub second_at : word (new_table t) k 2 ≡ fields_at 1
    unfolding new_table
    second_at =
        word_at (new_word t) 2 0 (origins t) k (omega linear) h
        ∙ ap (λ (x : ℕ). new_word t x (origin t k) 2) (zero-add k)

    pub third_at : word (new_table t) k 3 ≡ fields_at 2
    unfolding new_table
    third_at =
        word_at (new_word t) 3 0 (origins t) k (omega linear) h
        ∙ ap (λ (x : ℕ). new_word t x (origin t k) 3) (zero-add k)

    -- new row k is its old row renewed
    pub new_row : (sort_of (row t (origin t k)) ≡ Unknown → ⊥)
        → row (new_table t) k ≡ renew (renamed t k) (part_places t k (origin t k)) (row t (origin t k))
    unfolding new_word
    new_row u =
        let r = origin t k in
        let n = field_number (word t r 0) in
        let a = word t r 1 in
        let b = word t r 2 in
        let c = word t r 3 in
        let ρ = renamed t k in
        let js = part_places t k r in
        let kept = subst (λ (w : Row). Renews ρ js a b c n w) (row_is t r) (renew_row ρ js a b c n) u in
        sym (row_read (new_table t) k (ap field_number (sym kind_at)) refl (sym first_at) (sym second_at)
        (sym third_at)) ∙ kept
