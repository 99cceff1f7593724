-- Sizes of rows, counted upward in an array and capped (`Sizings`); the size of a row from those of its parts, by its letters
-- (`sized`, `sized_under`, `sized_over`). Assumes nothing.
use Rattle.std.specs.Prelude.{ℕ, suc, ◌+◌, ◌-◌, ◌≤◌, ◌<◌, min, ◌≡◌, refl, Bool, true, false, cond, List, [], ◌∷◌, ℤ, length, get_or, set}
use Rattle.std.proofs.Common.{sym, ap, ◌∙◌, arith as linear, le-ltb, lt-ltb, ltb-true, length-set, get_or-set_same, get_or-set_other}
use Rattle.std.proofs.Math.Decide.{ℕ_discrete}
use Rattle.script.specs.Rows.{field_number, parts, row, rows, word}
use Rattle.rows.specs.Patterns.{linking, pattern}
use Rattle.mending.specs.Copies.{cap, part_sum, size, capped_total}
use Rattle.mending.specs.Capped.{capped_step, capped_exact}
use Rattle.mending.specs.Sizes.{total_is}
use Rattle.mender.specs.Checked.{Checked, links_low, listed_kind}
use Rattle.mender.specs.Letters.{Field, number, sum_by, field₁, field₂, field₃, Shape, by_letters}

pub record Sizings (t : List ℤ) (r : ℕ) (s : List ℕ) : Type 0 where
  pub long : length s ≡ 2048
  pub at : (k : ℕ) → k < r → get_or s k 0 ≡ min cap (size t k)

pub sizings_none : {t : List ℤ} {s : List ℕ} → length s ≡ 2048 → Sizings t 0 s
sizings_none h = record { long = h; at = λ k l. absurd (omega linear) }

pub sizings_more : {t : List ℤ} {r d : ℕ} {s : List ℕ} → r < 2048 → Sizings t r s → d ≡ min cap (size t r)
    → Sizings t (r + 1) (set s r d)
sizings_more {t} {r} {d} {s} b z e = record { long = length-set s r d ∙ z.long; at = λ k l. go k l (ℕ_discrete k r) }
  where
    go : (k : ℕ) → k < r + 1 → Dec (k ≡ r) → get_or (set s r d) k 0 ≡ min cap (size t k)
    go k l (yes i) = rw (i, get_or-set_same s r d 0 (omega (linear, z.long))) e
    go k l (no i) = rw (get_or-set_other s r k d 0 i) (z.at k (omega linear))

-- ---- a part

-- the size of what a field links to, or 0
unfoldable pub part_size : List ℕ → ℕ → ℕ → ℕ
part_size s x a = cond (linking x) (get_or s a 0) 0

-- the size of row a is in the array
pub record PartSized (s : List ℕ) (a : ℕ) : Type 0 where
  pub inside : a < 2048
  pub small : get_or s a 0 ≤ 2049

part_small : {s : List ℕ} {x a : ℕ} → (x < 95 → PartSized s a) → part_size s x a ≤ 2049
unfolding part_size
part_small {s} {x} {a} f = go (linking x) refl
  where
    go : (b : Bool) → linking x ≡ b → cond b (get_or s a 0) 0 ≤ 2049
    go true e = (f (ltb-true x 95 e)).small
    go false e = omega linear

pub part_linked : (s : List ℕ) (x a : ℕ) → x < 95 → get_or s a 0 ≡ part_size s x a
unfolding part_size
part_linked s x a h = rw (lt-ltb x 95 h)

pub part_none : (s : List ℕ) (x a : ℕ) → 95 ≤ x → 0 ≡ part_size s x a
unfolding part_size
part_none s x a h = rw (le-ltb x 95 h)

sum_step : (s : List ℕ) (f : Field) (fs : List Field)
    → sum_by (λ k. get_or s k 0) (f ∷ fs) ≡ part_size s f.letter (number f) + sum_by (λ k. get_or s k 0) fs
unfolding part_size
sum_step s f fs = go (linking f.letter)
  where
    go : (b : Bool) → cond b (get_or s (number f) 0 + sum_by (λ k. get_or s k 0) fs) (sum_by (λ k. get_or s k 0) fs)
        ≡ cond b (get_or s (number f) 0) 0 + sum_by (λ k. get_or s k 0) fs
    go true = refl
    go false = omega linear

-- ---- a row

module _ {t : List ℤ} (ok : Checked t) {r n : ℕ} {s : List ℕ} (z : Sizings t r s) (h : r < rows t)
    (k : n ≡ field_number (word t r 0)) where
  part_sized : {x a : ℕ} → (x < 95 → a < r) → x < 95 → PartSized s a
  part_sized {x} {a} low l =
      let i = low l in
      let j = ok.size.short in
      let e = z.at a i in
      record { inside = omega linear; small = omega linear }

  pub first_sized : pattern n 1 < 95 → PartSized s (field_number (word t r 1))
  first_sized = part_sized (links_low ok h k).0

  pub second_sized : pattern n 2 < 95 → PartSized s (field_number (word t r 2))
  second_sized = part_sized (links_low ok h k).1.0

  pub third_sized : pattern n 3 < 95 → PartSized s (field_number (word t r 3))
  third_sized = part_sized (links_low ok h k).1.1

  module _ {a b c : ℕ} (ea : a ≡ part_size s (pattern n 1) (field_number (word t r 1)))
      (eb : b ≡ part_size s (pattern n 2) (field_number (word t r 2)))
      (ec : c ≡ part_size s (pattern n 3) (field_number (word t r 3))) where
    pub sum_small : a + b + c ≤ 6147
    sum_small =
        let x = part_small first_sized in
        let y = part_small second_sized in
        let w = part_small third_sized in
        omega linear

    sum_is : min cap (a + b + c + 1) ≡ min cap (size t r)
    sum_is =
        let S : ℕ → ℕ = λ j. get_or s j 0 in
        let f = field₁ t r n in
        let g = field₂ t r n in
        let i = field₃ t r n in
        let sum : part_sum S (parts (row t r)) ≡ sum_by S (f ∷ g ∷ i ∷ []) =
        ap (λ (q : Shape (λ m. m) S 0 []). q.sum) (by_letters (λ m. m) S 0 [] t r n k (listed_kind ok h k)) in
        let x = sum_step s f (g ∷ i ∷ []) in
        let y = sum_step s g (i ∷ []) in
        let w = sum_step s i [] in
        let all : a + b + c + 1 ≡ suc (part_sum S (parts (row t r))) = omega linear in
        ap (min cap) all ∙ capped_step t ok.falls r h S z.at

    pub sized_under : a + b + c + 1 < 2049 → a + b + c + 1 ≡ min cap (size t r)
    sized_under l = let e : a + b + c + 1 ≡ min cap (a + b + c + 1) = omega linear in e ∙ sum_is

    pub sized_over : 2049 ≤ a + b + c + 1 → 2049 ≡ min cap (size t r)
    sized_over l = let e : 2049 ≡ min cap (a + b + c + 1) = omega linear in e ∙ sum_is

    pub sized : min (a + b + c + 1) cap ≡ min cap (size t r)
    sized = let e : min (a + b + c + 1) cap ≡ min cap (a + b + c + 1) = omega linear in e ∙ sum_is

-- ---- all rows

pub sizings_all : {t : List ℤ} {r : ℕ} {s : List ℕ} → Sizings t r s → rows t ≤ r → Sizings t (rows t) s
sizings_all z h = record { long = z.long; at = λ k l. z.at k (omega linear) }

pub total_at : {t : List ℤ} {s : List ℕ} → Checked t → Sizings t (rows t) s → get_or s (rows t - 1) 0 ≡ capped_total t
total_at {t} ok z =
    let f = ok.size.filled in
    z.at (rows t - 1) (omega linear) ∙ ap (min cap) (sym (total_is t ok.falls)) ∙ sym (capped_exact t ok.falls f)
