-- A new row, written: its words, and the run of old rows after its parts are put (`row_written`).
-- Argument: where the row that is copied takes at most as many rows as a table has, so do its parts, and the capped sizes are exact;
-- the parts stand one after the other up to the row. Assumes nothing.
use Rattle.std.specs.Prelude.{ℕ, zero, suc, ◌+◌, ◌*◌, ◌-◌, ◌≤◌, ◌<◌, ◌≡◌, Bool, true, false, cond, T, ltb, ℤ, pos, length, get_or, set}
use Rattle.std.proofs.Math.Path.{refl, ap}
use Rattle.std.proofs.Common.{◌∙◌, lt-ltb}
use mathlib.Core.List.{List, [], ◌∷◌, map}
use native.Mathlib.Omega.{arith as linear}
use Rattle.std.proofs.Math.Dec.{ltb→lt}
use Rattle.script.specs.Rows.{Part, field_number, fields, parts, row, rows, word}
use Rattle.script.specs.Refusals.{all_below}
use Rattle.theorems.specs.Truths.{both}
use Rattle.rows.specs.Patterns.{linking}
use Rattle.mending.specs.Copies.{part_sum, size}
use Rattle.mending.specs.NewTable.{places, renewed, part_places}
use Rattle.mending.specs.Reached.{targets}
use Rattle.mending.specs.Filling.{put}
use Rattle.mending.specs.Sizes.{size_step}
use Rattle.mender.specs.Checked.{Checked, links_low, listed_kind, loops_in}
use Rattle.mender.specs.Letters.{Field, number, field₁, field₂, field₃, end_by, word_by, put_by, words_by, puts_by, sum_by, Shape, by_letters}
use Rattle.mender.specs.Sizing.{Sizings}
use Rattle.mender.specs.FieldWriting.{LinkedRoom, FieldRoom, FieldWritten, at_of}
use Rattle.mender.specs.RowWords.{WordsAt, four_words, word_with}

-- ---- sizes of the parts

module _ {t : List ℤ} (ok : Checked t) {s : List ℕ} (z : Sizings t (rows t) s) where
  pub exact : (r : ℕ) → r < rows t → size t r ≤ 2048 → get_or s r 0 ≡ size t r
  exact r h l = let e = z.at r h in omega linear

  places_exact : (r lo : ℕ) (ps : List Part) → r < rows t → T (all_below t r ps) → part_sum (size t) ps ≤ 2048
      → places (at_of s) lo ps ≡ places (size t) lo ps
  unfolding places part_sum
  places_exact r lo [] h b l = refl
  places_exact r lo (p ∷ ps) h b l =
      let c = both (ltb p.at r) (all_below t r ps) b in
      let i = ltb→lt p.at r c.0 in
      let e = exact p.at (omega linear) (omega linear) in
      rw (e, places_exact r (lo + size t p.at) ps h c.1 (omega linear))

  sum_exact : (r : ℕ) (ps : List Part) → r < rows t → T (all_below t r ps) → part_sum (size t) ps ≤ 2048
      → part_sum (at_of s) ps ≡ part_sum (size t) ps
  unfolding part_sum
  sum_exact r [] h b l = refl
  sum_exact r (p ∷ ps) h b l =
      let c = both (ltb p.at r) (all_below t r ps) b in
      let i = ltb→lt p.at r c.0 in
      let e = exact p.at (omega linear) (omega linear) in
      let f = sum_exact r ps h c.1 (omega linear) in
      omega linear

-- ---- a row that can be written

pub record RowReady (t : List ℤ) (s l : List ℕ) (k r table_room origins_room : ℕ) : Type 0 where
  pub checked : Checked t
  pub inside : r < rows t
  pub sizes : Sizings t (rows t) s
  pub latest : (m : ℕ) → get_or l m 0 < 2048
  pub small : size t r ≤ 2048
  pub below : size t r ≤ suc k
  pub low : k < 2048
  pub table_held : 4 * k + 3 < table_room
  pub origins_held : k < origins_room

-- where the parts of row r start, whose copy is at k: its kind is n
module _ (t : List ℤ) (s : List ℕ) (k r n : ℕ) where
  abbrev pub start₁ : ℕ
  start₁ = k + 1 - get_or s r 0

  abbrev pub start₂ : ℕ
  start₂ = end_by (at_of s) start₁ (field₁ t r n)

  abbrev pub start₃ : ℕ
  start₃ = end_by (at_of s) start₂ (field₂ t r n)

pub record RowWritten (t : List ℤ) (l : List ℕ) (k r : ℕ) (new os new' os' : List ℤ) : Type 0 where
  pub words : WordsAt k (word_with (at_of l) t k r) new new'
  pub put : (xs : List ℕ) → os ≡ map pos xs → os' ≡ map pos (put (part_places t k r) (targets (parts (row t r))) xs)

-- ends of parts, by fields
end_step : (S : ℕ → ℕ) (lo : ℕ) (f : Field) (fs : List Field) → end_by S lo f + sum_by S fs ≡ lo + sum_by S (f ∷ fs)
unfolding end_by
end_step S lo f fs = go (linking f.letter)
  where
    go : (b : Bool) → cond b (lo + S (number f)) lo + sum_by S fs ≡ lo + cond b (S (number f) + sum_by S fs) (sum_by S fs)
    go true = omega linear
    go false = refl

end_up : (S : ℕ → ℕ) (lo : ℕ) (f : Field) → lo ≤ end_by S lo f
unfolding end_by
end_up S lo f = go (linking f.letter)
  where
    go : (b : Bool) → lo ≤ cond b (lo + S (number f)) lo
    go true = omega linear
    go false = omega linear

end_linked : (S : ℕ → ℕ) (lo : ℕ) (f : Field) → f.letter < 95 → lo + S (number f) ≡ end_by S lo f
unfolding end_by
end_linked S lo f h = rw (lt-ltb f.letter 95 h)

module _ {t : List ℤ} {s l : List ℕ} {k r n table_room origins_room : ℕ}
    (R : RowReady t s l k r table_room origins_room) (e : n ≡ field_number (word t r 0)) where
  known : n < 49
  known = listed_kind R.checked R.inside e

  step : size t r ≡ suc (part_sum (size t) (parts (row t r)))
  step = size_step t R.checked.falls r R.inside

  pub its_size : get_or s r 0 ≡ size t r
  its_size = exact R.checked R.sizes r R.inside R.small

  start_is : k + 1 - get_or s r 0 ≡ k - part_sum (size t) (parts (row t r))
  start_is = let a = its_size in let b = step in omega linear

  falls : T (all_below t r (parts (row t r)))
  falls = R.checked.falls r R.inside

  few : part_sum (size t) (parts (row t r)) ≤ 2048
  few = let a = step in let b = R.small in omega linear

  -- the parts end right before k
  parts_end : end_by (at_of s) (start₃ t s k r n) (field₃ t r n) ≡ k
  parts_end =
      let f = field₁ t r n in
      let g = field₂ t r n in
      let h = field₃ t r n in
      let sum : part_sum (at_of s) (parts (row t r)) ≡ sum_by (at_of s) (f ∷ g ∷ h ∷ []) =
      ap (λ (q : Shape (λ m. m) (at_of s) 0 []). q.sum) (by_letters (λ m. m) (at_of s) 0 [] t r n e known) in
      let x = end_step (at_of s) (start₁ t s k r n) f (g ∷ h ∷ []) in
      let y = end_step (at_of s) (start₂ t s k r n) g (h ∷ []) in
      let w = end_step (at_of s) (start₃ t s k r n) h [] in
      let u = sum_exact R.checked R.sizes r (parts (row t r)) R.inside falls few in
      let a = start_is in
      let b = step in
      let c = R.below in
      omega linear

  -- ---- room for the three fields

  linked_room : (f : Field) {at : ℕ} → (f.letter < 95 → number f < r) → end_by (at_of s) at f ≤ k → f.letter < 95
      → LinkedRoom s at (number f) origins_room
  linked_room f {at} low last h =
      let l = low h in
      let i = R.inside in
      let z = R.sizes.at (number f) (omega linear) in
      let u = size_step t R.checked.falls (number f) (omega linear) in
      let w = end_linked (at_of s) at f h in
      let b = R.checked.size.short in
      let c = R.low in
      let d = R.origins_held in
      record { inside = omega linear; some = omega linear; held = omega linear; small = omega linear }

  field_room : (f : Field) {at to : ℕ} → (f.letter < 95 → number f < r) → (f.letter ≡ 108 → number f < rows t)
      → end_by (at_of s) at f ≤ k → to < table_room → FieldRoom s l at f to table_room origins_room
  field_room f low its-loop last held = record {
    held = held;
    linked = linked_room f low last;
    marked = λ h. ((let i = its-loop h in let b = R.checked.size.short in omega linear), R.latest (number f));
  }

  pub room₁ : FieldRoom s l (start₁ t s k r n) (field₁ t r n) (4 * k + 1) table_room origins_room
  room₁ =
      let a = end_up (at_of s) (start₂ t s k r n) (field₂ t r n) in
      let b = end_up (at_of s) (start₃ t s k r n) (field₃ t r n) in
      let c = parts_end in
      let d = R.table_held in
      field_room (field₁ t r n) (links_low R.checked R.inside e).0 (loops_in R.checked R.inside e).0
      (omega linear) (omega linear)

  pub room₂ : FieldRoom s l (start₂ t s k r n) (field₂ t r n) (4 * k + 2) table_room origins_room
  room₂ =
      let b = end_up (at_of s) (start₃ t s k r n) (field₃ t r n) in
      let c = parts_end in
      let d = R.table_held in
      field_room (field₂ t r n) (links_low R.checked R.inside e).1.0 (loops_in R.checked R.inside e).1.0
      (omega linear) (omega linear)

  pub room₃ : FieldRoom s l (start₃ t s k r n) (field₃ t r n) (4 * k + 3) table_room origins_room
  room₃ =
      let c = parts_end in
      let d = R.table_held in
      field_room (field₃ t r n) (links_low R.checked R.inside e).1.1 (loops_in R.checked R.inside e).1.1
      (omega linear) (omega linear)

  -- ---- what is written

  places_are : places (at_of s) (start₁ t s k r n) (parts (row t r)) ≡ part_places t k r
  unfolding part_places
  places_are =
      ap (λ (x : ℕ). places (at_of s) x (parts (row t r))) start_is
      ∙ places_exact R.checked R.sizes r (k - part_sum (size t) (parts (row t r))) (parts (row t r)) R.inside falls few

  words_are : (ρ : ℕ → ℕ)
      → renewed ρ (part_places t k r) 0 (fields (row t r)) (word t r 1 ∷ word t r 2 ∷ word t r 3 ∷ [])
      ≡ words_by ρ (at_of s) (start₁ t s k r n) (field₁ t r n ∷ field₂ t r n ∷ field₃ t r n ∷ [])
  words_are ρ =
      rw (← places_are)
      (ap (λ (q : Shape ρ (at_of s) (start₁ t s k r n) []). q.words)
      (by_letters ρ (at_of s) (start₁ t s k r n) [] t r n e known))

  puts_are : (xs : List ℕ)
      → put (part_places t k r) (targets (parts (row t r))) xs
      ≡ puts_by (at_of s) (start₁ t s k r n) (field₁ t r n ∷ field₂ t r n ∷ field₃ t r n ∷ []) xs
  puts_are xs =
      rw (← places_are)
      (ap (λ (q : Shape (λ m. m) (at_of s) (start₁ t s k r n) xs). q.filled)
      (by_letters (λ m. m) (at_of s) (start₁ t s k r n) xs t r n e known))

  module _ (new : List ℤ) {os new₁ os₁ new₂ os₂ new₃ os₃ : List ℤ} {b c d : ℕ} (wide : table_room ≡ length new)
      (x : FieldWritten s l (start₁ t s k r n) (field₁ t r n) (4 * k + 1) (set new (4 * k) (word t r 0)) os b new₁ os₁)
      (y : FieldWritten s l b (field₂ t r n) (4 * k + 2) new₁ os₁ c new₂ os₂)
      (z : FieldWritten s l c (field₃ t r n) (4 * k + 3) new₂ os₂ d new₃ os₃) where
    third_is : c ≡ start₃ t s k r n
    third_is = y.ends ∙ ap (λ (q : ℕ). end_by (at_of s) q (field₂ t r n)) x.ends

    -- the words of the three fields
    abbrev w₁ : ℤ
    w₁ = word_by (at_of l) (at_of s) (start₁ t s k r n) (field₁ t r n)

    abbrev w₂ : ℤ
    w₂ = word_by (at_of l) (at_of s) (start₂ t s k r n) (field₂ t r n)

    abbrev w₃ : ℤ
    w₃ = word_by (at_of l) (at_of s) (start₃ t s k r n) (field₃ t r n)

    pub row_written : RowWritten t l k r new os new₃ os₃
    unfolding word_with words_by puts_by
    row_written = record {
      words = record { long = ws.long; here = λ f i. ws.here f i ∙ same f i; others = ws.others };
      put = λ xs e₀. z.put _ (y.put _ (x.put xs e₀)) ∙ ap (map pos) (puts xs);
    }
      where
        puts : (xs : List ℕ)
            → put_by (at_of s) c (field₃ t r n)
            (put_by (at_of s) b (field₂ t r n) (put_by (at_of s) (start₁ t s k r n) (field₁ t r n) xs))
            ≡ put (part_places t k r) (targets (parts (row t r))) xs
        puts xs = rw (puts_are xs, third_is, x.ends)

        all : new₃ ≡ set (set (set (set new (4 * k) (word t r 0)) (4 * k + 1) w₁) (4 * k + 2) w₂) (4 * k + 3) w₃
        all = rw (z.words, y.words, x.words, third_is, x.ends)

        ws : WordsAt k (λ f. get_or (word t r 0 ∷ w₁ ∷ w₂ ∷ w₃ ∷ []) f (pos 0)) new new₃
        ws = rw all (four_words k (word t r 0) w₁ w₂ w₃ new (let i = R.table_held in omega linear))

        same : (f : ℕ) → f < 4 → get_or (word t r 0 ∷ w₁ ∷ w₂ ∷ w₃ ∷ []) f (pos 0) ≡ word_with (at_of l) t k r f
        same zero i = refl
        same (suc f) i = rw (words_are (at_of l))
