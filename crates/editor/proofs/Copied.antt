-- What the copy leaves at the front of a table is the records' words. Assumes nothing.
--     copied       take (4 * n) of the table is `flat rs`, where n is the number of records and the table has the room
--     within-fits  the records that are copied are there, and the table has room for them
--     copied_more  one more record is put where the copy of those before it ends
--     put_words    a part of four words that is written is a record at its place
--     same_outcome the generator's outcome on the front of the table is the one on the records' words
use mathlib.Core.Path.{◌≡◌, refl, sym, ap, subst, ◌∙◌}
use Prim.Native.Nat.{ℕ, zero, suc, ◌+◌, ◌-◌, ◌*◌, ◌<◌, ◌≤◌}
use native.Mathlib.Nat.{not-suc-le-zero, le_of_suc-le-suc, le_refl}
use native.Mathlib.Omega.{arith}
use mathlib.Core.Bool.{Bool, true, false, not}
use mathlib.Core.Logic.{inl, inr}
use mathlib.Core.List.{List, [], ◌∷◌, ◌++◌}
use lib.Dec.{T, leb→le, nleb→lt}
use lib.ListN.{length, get_or, set, take, drop, length-set}
use lib.IntN.{ℤ}
use borrow.Rule.Slice.PartMut.{put_mid, post_of, Post-is}
use Rattle.editor.specs.Flat.{none, flat, put_row, copy_first, few, rows_copied}
use Rattle.editor.specs.declared.Record.{Record}
use Rattle.script.specs.Generated.{outcome}
use Rattle.theorems.specs.Numbers.{length_refused}
use Rattle.generator.specs.Outcomes.{outcome_refused}
use Rattle.editor.proofs.Few.{taken, left}

-- four times n, in successors, so that `take`, `drop` and `set` compute
abbrev quad : ℕ → ℕ
quad zero = zero
quad (suc n) = suc (suc (suc (suc (quad n))))

quad_is : (n : ℕ) → 4 * n ≡ quad n
quad_is zero = refl
quad_is (suc n) = four_more n ∙ ap (λ (k : ℕ). suc (suc (suc (suc k)))) (quad_is n)
  where
    four_more : (k : ℕ) → 4 * suc k ≡ suc (suc (suc (suc (4 * k))))
    four_more k = omega arith

-- four stores in a row from the place j
abbrev put4 : List ℤ → ℕ → Record → List ℤ
put4 t j r = set (set (set (set t j r.kind) (suc j) r.first) (suc (suc j)) r.second) (suc (suc (suc j))) r.third

put_is : (t : List ℤ) (i : ℕ) (r : Record) → put_row t i r ≡ put4 t (quad i) r
put_is t i r = ap (λ (j : ℕ). set (set (set (set t j r.kind) (j + 1) r.first) (j + 2) r.second) (j + 3) r.third) (quad_is i) ∙ plus (quad i)
  where
    plus : (j : ℕ) → set (set (set (set t j r.kind) (j + 1) r.first) (j + 2) r.second) (j + 3) r.third ≡ put4 t j r
    plus j = ap (λ (a : ℕ). set (set (set (set t j r.kind) a r.first) (j + 2) r.second) (j + 3) r.third) (one j)
        ∙ ap (λ (a : ℕ). set (set (set (set t j r.kind) (suc j) r.first) a r.second) (j + 3) r.third) (two j)
        ∙ ap (λ (a : ℕ). set (set (set (set t j r.kind) (suc j) r.first) (suc (suc j)) r.second) a r.third) (three j)
      where
        one : (j : ℕ) → j + 1 ≡ suc j
        one j = omega arith

        two : (j : ℕ) → j + 2 ≡ suc (suc j)
        two j = omega arith

        three : (j : ℕ) → j + 3 ≡ suc (suc (suc j))
        three j = omega arith

-- from the place j on, the four words and then what stood after them
drop_put : (j : ℕ) (t : List ℤ) (r : Record) → suc (suc (suc (suc j))) ≤ length t → drop j (put4 t j r) ≡ r.kind ∷ r.first ∷ r.second ∷ r.third ∷ drop (suc (suc (suc (suc j)))) t
drop_put zero [] r l = absurd (not-suc-le-zero l)
drop_put zero (a ∷ []) r l = absurd (not-suc-le-zero (le_of_suc-le-suc l))
drop_put zero (a ∷ b ∷ []) r l = absurd (not-suc-le-zero (le_of_suc-le-suc (le_of_suc-le-suc l)))
drop_put zero (a ∷ b ∷ c ∷ []) r l = absurd (not-suc-le-zero (le_of_suc-le-suc (le_of_suc-le-suc (le_of_suc-le-suc l))))
drop_put zero (a ∷ b ∷ c ∷ d ∷ t) r l = refl
drop_put (suc j) [] r l = absurd (not-suc-le-zero l)
drop_put (suc j) (x ∷ t) r l = drop_put j t r (le_of_suc-le-suc l)

-- one more record
flat_more : (i : ℕ) (rs : List Record) (u : List ℤ) → i < length rs → flat (take i rs) ++ ((get_or rs i none).kind ∷ (get_or rs i none).first ∷ (get_or rs i none).second ∷ (get_or rs i none).third ∷ u) ≡ flat (take (suc i) rs) ++ u
flat_more i [] u l = absurd (not-suc-le-zero l)
flat_more zero (r ∷ rs) u l = refl
flat_more (suc i) (r ∷ rs) u l = ap (λ (k : List ℤ). r.kind ∷ r.first ∷ r.second ∷ r.third ∷ k) (flat_more i rs u (le_of_suc-le-suc l))

put_length : (t : List ℤ) (j : ℕ) (r : Record) → length (put4 t j r) ≡ length t
put_length t j r = length-set (set (set (set t j r.kind) (suc j) r.first) (suc (suc j)) r.second) (suc (suc (suc j))) r.third ∙ length-set (set (set t j r.kind) (suc j) r.first) (suc (suc j)) r.second ∙ length-set (set t j r.kind) (suc j) r.first ∙ length-set t j r.kind

less_4 : (a b : ℕ) → suc (suc (suc (suc a))) ≤ b → a ≤ b
less_4 a b l = omega arith

copied_to : (rs : List Record) (n : ℕ) (t : List ℤ) → n ≤ length rs → quad n ≤ length t → copy_first rs n t ≡ flat (take n rs) ++ drop (quad n) t
copied_to rs zero t l m = refl
copied_to rs (suc i) t l m =
    copied_to rs i (put_row t i (get_or rs i none)) (less i (length rs) l) (subst (λ (k : ℕ). quad i ≤ k) (sym (ap length (put_is t i (get_or rs i none)) ∙ put_length t (quad i) (get_or rs i none))) (less_4 (quad i) (length t) m))
    ∙ ap (λ (k : List ℤ). flat (take i rs) ++ k) (ap (drop (quad i)) (put_is t i (get_or rs i none)) ∙ drop_put (quad i) t (get_or rs i none) m) ∙ flat_more i rs (drop (quad (suc i)) t) l
  where
    less : (a b : ℕ) → suc a ≤ b → a ≤ b
    less a b h = omega arith

-- one more record, put where the copy of those before it ends
put_more : (i : ℕ) (rs : List Record) (t : List ℤ) → i < length rs → quad (suc i) ≤ length t
    → put4 (flat (take i rs) ++ drop (quad i) t) (quad i) (get_or rs i none) ≡ flat (take (suc i) rs) ++ drop (quad (suc i)) t
put_more i [] t l m = absurd (not-suc-le-zero l)
put_more i (r ∷ rs) [] l m = absurd (not-suc-le-zero m)
put_more i (r ∷ rs) (a ∷ []) l m = absurd (not-suc-le-zero (le_of_suc-le-suc m))
put_more i (r ∷ rs) (a ∷ b ∷ []) l m = absurd (not-suc-le-zero (le_of_suc-le-suc (le_of_suc-le-suc m)))
put_more i (r ∷ rs) (a ∷ b ∷ c ∷ []) l m = absurd (not-suc-le-zero (le_of_suc-le-suc (le_of_suc-le-suc (le_of_suc-le-suc m))))
put_more zero (r ∷ rs) (a ∷ b ∷ c ∷ d ∷ t) l m = refl
put_more (suc i) (r ∷ rs) (a ∷ b ∷ c ∷ d ∷ t) l m =
    ap (λ (k : List ℤ). r.kind ∷ r.first ∷ r.second ∷ r.third ∷ k)
    (put_more i rs t (le_of_suc-le-suc l) (le_of_suc-le-suc (le_of_suc-le-suc (le_of_suc-le-suc (le_of_suc-le-suc m)))))

pub copied_more : (rs : List Record) (i : ℕ) (t : List ℤ) → i < length rs → 4 * suc i ≤ length t
    → put_row (copy_first rs i t) i (get_or rs i none) ≡ copy_first rs (suc i) t
copied_more rs i t l m =
    let q : quad (suc i) ≤ length t = subst (λ (k : ℕ). k ≤ length t) (quad_is (suc i)) m in
    let fits : quad i ≤ length t = less_4 (quad i) (length t) q in
    put_is (copy_first rs i t) i (get_or rs i none)
    ∙ ap (λ (k : List ℤ). put4 k (quad i) (get_or rs i none)) (copied_to rs i t (fewer i (length rs) l) fits)
    ∙ put_more i rs t l q
    ∙ sym (copied_to rs (suc i) t l q)
  where
    fewer : (a b : ℕ) → suc a ≤ b → a ≤ b
    fewer a b h = omega arith

-- the four words in one piece
piece : (j : ℕ) (t : List ℤ) (r : Record) → suc (suc (suc (suc j))) ≤ length t
    → take j t ++ (r.kind ∷ r.first ∷ r.second ∷ r.third ∷ drop (suc (suc (suc (suc j)))) t) ≡ put4 t j r
piece zero [] r l = absurd (not-suc-le-zero l)
piece zero (a ∷ []) r l = absurd (not-suc-le-zero (le_of_suc-le-suc l))
piece zero (a ∷ b ∷ []) r l = absurd (not-suc-le-zero (le_of_suc-le-suc (le_of_suc-le-suc l)))
piece zero (a ∷ b ∷ c ∷ []) r l = absurd (not-suc-le-zero (le_of_suc-le-suc (le_of_suc-le-suc (le_of_suc-le-suc l))))
piece zero (a ∷ b ∷ c ∷ d ∷ t) r l = refl
piece (suc j) [] r l = absurd (not-suc-le-zero l)
piece (suc j) (x ∷ t) r l = ap (λ (k : List ℤ). x ∷ k) (piece j t r (le_of_suc-le-suc l))

pub put_words : (t ys : List ℤ) (i : ℕ) (r : Record) → ys ≡ r.kind ∷ r.first ∷ r.second ∷ r.third ∷ [] → 4 * i + 4 ≤ length t
    → put_mid (4 * i) (4 * i + 4 - 4 * i) t ys ≡ put_row t i r
put_words t ys i r e h =
    let past : 4 * i + 4 ≡ suc (suc (suc (suc (quad i)))) = omega (arith, quad_is i) in
    ap (λ (v : List ℤ). take (4 * i) t ++ (v ++ post_of (4 * i) (4 * i + 4 - 4 * i) t)) e
    ∙ ap (λ (u : List ℤ). take (4 * i) t ++ (r.kind ∷ r.first ∷ r.second ∷ r.third ∷ u))
    (Post-is (4 * i) (4 * i + 4) t (omega arith) ∙ ap (λ (n : ℕ). drop n t) past)
    ∙ ap (λ (n : ℕ). take n t ++ (r.kind ∷ r.first ∷ r.second ∷ r.third ∷ drop (suc (suc (suc (suc (quad i))))) t)) (quad_is i)
    ∙ piece (quad i) t r (omega (arith, past))
    ∙ sym (put_is t i r)

all_taken : (rs : List Record) → take (length rs) rs ≡ rs
all_taken [] = refl
all_taken (r ∷ rs) = ap (λ (k : List Record). r ∷ k) (all_taken rs)

front_taken : (rs : List Record) (u : List ℤ) → take (quad (length rs)) (flat rs ++ u) ≡ flat rs
front_taken [] u = refl
front_taken (r ∷ rs) u = ap (λ (k : List ℤ). r.kind ∷ r.first ∷ r.second ∷ r.third ∷ k) (front_taken rs u)

pub copied : (rs : List Record) (t : List ℤ) → 4 * length rs ≤ length t → take (4 * length rs) (copy_first rs (length rs) t) ≡ flat rs
copied rs t l =
    ap (λ (k : ℕ). take k (copy_first rs (length rs) t)) (quad_is (length rs))
    ∙ ap (take (quad (length rs))) (copied_to rs (length rs) t (le_refl (length rs)) (subst (λ (k : ℕ). k ≤ length t) (quad_is (length rs)) l) ∙ ap (λ (q : List Record). flat q ++ drop (quad (length rs)) t) (all_taken rs))
    ∙ front_taken rs (drop (quad (length rs)) t)

-- the copy of n records at most, or none
in_cases : (P : ℕ → Type 0) (n : ℕ) → (n ≤ 2048 → P n) → (2048 < n → P 0) → P (rows_copied n)
in_cases P n f g = go (few n) refl
  where
    go : (b : Bool) → few n ≡ b → P (rows_copied n)
    go true h =
        let l : n ≤ 2048 = leb→le n 2048 (subst T (sym h) tt) in
        subst P (sym (taken n l)) (f l)
    go false h =
        let l : 2048 < n = nleb→lt n 2048 (subst (λ (y : Bool). T (not y)) (sym h) tt) in
        subst P (sym (left n l)) (g l)

pub within_fits : (n : ℕ) → (rows_copied n ≤ n) × (4 * rows_copied n ≤ 8192)
within_fits n = in_cases (λ m. (m ≤ n) × (4 * m ≤ 8192)) n (λ l. (le_refl n, omega (arith, l))) (λ l. (omega arith, omega arith))

flat_length : (rs : List Record) → length (flat rs) ≡ quad (length rs)
flat_length [] = refl
flat_length (r ∷ rs) = ap (λ (k : ℕ). suc (suc (suc (suc k)))) (flat_length rs)

module _ (list scratch : ℕ) where
  -- over 2,048 records: number 1, as for no words
  over : (rs : List Record) → 2048 < length rs → outcome [] list scratch ≡ outcome (flat rs) list scratch
  over rs l =
      let e : length (flat rs) ≡ 4 * length rs = flat_length rs ∙ sym (quad_is (length rs)) in
      let h : 8192 < length (flat rs) = subst (λ (k : ℕ). 8192 < k) (sym e) (omega (arith, l)) in
      outcome_refused [] list scratch (length_refused [] (inl refl))
      ∙ sym (outcome_refused (flat rs) list scratch (length_refused (flat rs) (inr (inr h))))

  pub same_outcome : (rs : List Record) (t : List ℤ) → length t ≡ 8192
      → outcome (take (4 * rows_copied (length rs)) (copy_first rs (rows_copied (length rs)) t)) list scratch ≡ outcome (flat rs) list scratch
  same_outcome rs t e =
      in_cases (λ m. outcome (take (4 * m) (copy_first rs m t)) list scratch ≡ outcome (flat rs) list scratch) (length rs)
      (λ l. ap (λ (k : List ℤ). outcome k list scratch) (copied rs t (subst (λ (k : ℕ). 4 * length rs ≤ k) (sym e) (omega (arith, l)))))
      (over rs)
