-- A whole list by the count that its last word claims. In this order: the count, the list, the line at an index, what the
-- line at index -1 tells, the number of conditions, the first place. Assumes nothing.
use Prim.Native.Nat.{ℕ, zero, suc, ◌-◌, ◌≤◌, ◌<◌, ◌^◌}
use native.Mathlib.Omega.{arith as linear}
use mathlib.Core.Path.{◌≡◌, refl, sym, ap, ◌∙◌}
use mathlib.Core.Option.{Option, none, some}
use mathlib.Core.List.{List, [], ◌∷◌}
use mathlib.Core.Bool.{Bool, true, false, cond, ◌&&◌}
use lib.IntN.{ℤ, pos, negsuc}
use lib.Signed.{mag}
use lib.Dec.{eqb, ltb, leb}
use lib.ListN.{length, get_elem?}
use borrow.Author.Tests.{eqb-true, eqb-false, lt-ltb, le-leb, lt-leb}
use Rattle.script.specs.declared.Line.{Line}
use Rattle.script.specs.Rows.{field_number}
use Rattle.script.specs.Listing.{guarded, Found, last_word, count_told, lines, lines_within, line, line_at, line_at_within, no_line}
use Rattle.script.specs.Listing.{first_place, first_place_within, malformed_place, condition_count, condition_count_within}
use Rattle.list_reader.specs.Lines.{is_some, lines_ending, line_among, claimed, Claimed}
use Rattle.list_reader.proofs.Walking.{lines_length}

-- ---- the count

count_small : (w : ℤ) → mag w < 2 ^ 31 → count_told w < 4294967295
count_small (pos n) h = omega linear
count_small (negsuc n) h = omega linear

pub claimed_long : (ws : List ℤ) → 16384 < length ws → Claimed ws 0
unfolding claimed
claimed_long ws h = record { is = rw (lt-leb (length ws) 16384 h); small = omega linear }

pub claimed_told : (ws : List ℤ) {w : ℤ} {n : ℕ} → length ws ≤ 16384 → w ≡ last_word ws → mag w < 2 ^ 31 → n ≡ count_told w → Claimed ws n
unfolding claimed
claimed_told ws {w} h last l q =
    record { is = rw (le-leb (length ws) 16384 h) (q ∙ ap count_told last); small = rw q (count_small w l) }

pub claimed_nonempty : (ws : List ℤ) {n : ℕ} → Claimed ws n → (n ≡ 0 → ⊥) → 0 < length ws
unfolding claimed
claimed_nonempty [] c h = absurd (h c.is)
claimed_nonempty (w ∷ ws) c h = omega linear

-- ---- the list

counted : {A : Type 0} (b : Bool) (n : ℕ) (f : ℕ → Option A)
    → guarded (b && ltb 0 n) (f n) ≡ guarded (ltb 0 (cond b n 0)) (f (cond b n 0))
counted true n f = refl
counted false n f = refl

pub lines_are : (ws : List ℤ) → lines ws ≡ guarded (ltb 0 (claimed ws)) (lines_ending ws (claimed ws) (length ws - 1))
unfolding lines_within claimed
lines_are ws = counted (leb (length ws) 16384) (count_told (last_word ws)) λ n. lines_ending ws n (length ws - 1)

module _ (ws : List ℤ) {n : ℕ} (c : Claimed ws n) where
  pub no_lines : n ≡ 0 → lines ws ≡ none
  no_lines h = lines_are ws ∙ rw (← c.is, h)

  pub some_lines : (n ≡ 0 → ⊥) → lines ws ≡ lines_ending ws n (length ws - 1)
  some_lines h = lines_are ws ∙ rw (← c.is, lt-ltb 0 n (omega linear))

-- ---- the line at an index

past_last : (fs : List Found) (i : ℕ) → length fs ≤ i → get_elem? fs i ≡ none
past_last [] i h = refl
past_last (f ∷ fs) zero h = absurd (let l : suc (length fs) ≤ 0 = h in omega linear)
past_last (f ∷ fs) (suc i) h = past_last fs i (let l : suc (length fs) ≤ suc i = h in omega linear)

abbrev pub or_21 : Option Found → Line
or_21 o = elim o [ some f ↦ line f | none ↦ no_line 21 ]

-- a negative index is read as one beyond every count
index_read : (o : Option (List Found)) (i : ℤ) → ((fs : List Found) → o ≡ some fs → length fs ≤ 4294967295)
    → line_among o (pos (field_number i)) ≡ line_among o i
index_read o (pos n) h = refl
index_read none (negsuc n) h = refl
index_read (some fs) (negsuc n) h = ap or_21 (past_last fs 4294967295 (h fs refl))

module _ (ws : List ℤ) {n : ℕ} (c : Claimed ws n) where
  pub no_line_at : n ≡ 0 → (i : ℤ) → no_line 20 ≡ line_at ws i
  unfolding line_at_within
  no_line_at h i = rw (no_lines ws c h, line_at_within)

  pub line_at_is : (n ≡ 0 → ⊥) → (i : ℤ) → line_among (lines_ending ws n (length ws - 1)) (pos (field_number i)) ≡ line_at ws i
  unfolding line_at_within
  line_at_is h i =
      index_read (lines_ending ws n (length ws - 1)) i (λ fs q. omega (linear, c.small, lines_length ws n (length ws - 1) fs q))
      ∙ ap (λ (o : Option (List Found)). line_among o i) (sym (some_lines ws c h))

-- ---- what the line at index -1 tells

module _ (ws : List ℤ) where
  pub list_when_21 : no_line 21 ≡ line_at ws (negsuc 0) → true ≡ is_some (lines ws)
  unfolding line_at_within
  list_when_21 q = go (lines ws) q
    where
      go : (o : Option (List Found)) → no_line 21 ≡ line_among o (negsuc 0) → true ≡ is_some o
      go none h = absurd (omega (linear, ap (λ (l : Line). l.number) h))
      go (some fs) h = refl

  pub no_list_when_20 : no_line 20 ≡ line_at ws (negsuc 0) → false ≡ is_some (lines ws)
  unfolding line_at_within
  no_list_when_20 q = go (lines ws) q
    where
      go : (o : Option (List Found)) → no_line 20 ≡ line_among o (negsuc 0) → false ≡ is_some o
      go none h = refl
      go (some fs) h = absurd (omega (linear, ap (λ (l : Line). l.number) h))

  -- none of a negative index
  pub no_line_0 : (line_at ws (negsuc 0)).number ≡ 0 → false ≡ is_some (lines ws)
  unfolding line_at_within
  no_line_0 q = go (lines ws) q
    where
      go : (o : Option (List Found)) → (line_among o (negsuc 0)).number ≡ 0 → false ≡ is_some o
      go none h = refl
      go (some fs) h = absurd (omega linear)

empty_is_no_list : (ws : List ℤ) (fs : List Found) → lines ws ≡ some fs → 0 < length ws
unfolding lines_within
empty_is_no_list [] fs q = let z : ◌≡◌ {A = ℕ} 0 1 = cc in absurd (omega linear)
empty_is_no_list (w ∷ ws) fs q = omega linear

abbrev count_of : Option (List Found) → ℕ
count_of o = elim o [ some fs ↦ length fs | none ↦ 0 ]

module _ (ws : List ℤ) {b : Bool} (test : b ≡ is_some (lines ws)) where
  listed : b ≡ true → (fs : List Found) × (lines ws ≡ some fs)
  listed h = go (lines ws) refl (sym test ∙ h)
    where
      go : (o : Option (List Found)) → lines ws ≡ o → is_some o ≡ true → (fs : List Found) × (lines ws ≡ some fs)
      go none q z = let y : ◌≡◌ {A = ℕ} 0 1 = cc in absurd (omega linear)
      go (some fs) q z = (fs, q)

  unlisted : b ≡ false → lines ws ≡ none
  unlisted h = go (lines ws) refl (sym test ∙ h)
    where
      go : (o : Option (List Found)) → lines ws ≡ o → is_some o ≡ false → lines ws ≡ none
      go none q z = q
      go (some fs) q z = let y : ◌≡◌ {A = ℕ} 0 1 = cc in absurd (omega linear)

  pub list_nonempty : b ≡ true → 0 < length ws
  list_nonempty h = empty_is_no_list ws (listed h).0 (listed h).1

  pub count_is : b ≡ true → {n : ℕ} → Claimed ws n → n ≡ condition_count ws
  unfolding condition_count_within
  count_is h {n} c = go (eqb n 0) refl
    where
      go : (t : Bool) → eqb n 0 ≡ t → n ≡ condition_count ws
      go true z = eqb-true n 0 z ∙ sym (ap count_of (no_lines ws c (eqb-true n 0 z)))
      go false z =
          let l = listed h in
          sym (lines_length ws n (length ws - 1) l.0 (sym (some_lines ws c (eqb-false n 0 z)) ∙ l.1)) ∙ sym (ap count_of l.1)

  pub no_count : b ≡ false → 0 ≡ condition_count ws
  unfolding condition_count_within
  no_count h = rw (unlisted h, condition_count_within)

  pub place_is : b ≡ true → length ws - 1 ≡ first_place ws
  unfolding first_place_within
  place_is h = rw ((listed h).1, first_place_within)

  pub no_place : b ≡ false → malformed_place ≡ first_place ws
  unfolding first_place_within
  no_place h = rw (unlisted h, first_place_within)
