-- A word that begins with v is a variable where digits follow up to the word's end, and else no token. Assumes nothing.
use Prim.Native.Nat.{ℕ, suc, ◌+◌, ◌<◌, min}
use mathlib.Core.Path.{◌≡◌, refl, ap, sym, ◌∙◌}
use mathlib.Core.List.{List, [], ◌∷◌}
use mathlib.Core.Option.{none, some}
use mathlib.Core.Bool.{Bool, true, false, cond, or-true}
use native.Mathlib.Nat.{add-zero}
use native.Mathlib.Numerals.{add-one}
use native.Mathlib.Omega.{arith}
use borrow.Author.Tests.{eq-eqb, ne_eqb}
use Rattle.std.specs.Prelude.{Some}
use lib.ListN.{length, get_or, take, drop}
use lib.Seq.{drop-cons, get_or-drop}
use Rattle.grammar.specs.Tests.{false_is_not}
use Rattle.grammar.specs.Tokens.{variable}
use Rattle.grammar.specs.Scanning.{is_digit, is_word_byte, front, number, variable_of}
use Rattle.grammar.specs.Numbers.{token_number, token_value, most}
use Rattle.grammar.specs.Fronts.{run, length_run}
use Rattle.scanner.specs.Lexed.{lexed, told_at, word_at}

-- ---- digits at the front of a word

digit_in_word : (b : ℕ) → is_digit b ≡ true → is_word_byte b ≡ true
digit_in_word b e = rw (e, or-true)

front_in_run : (bs : List ℕ) → front is_digit (run is_word_byte bs) ≡ front is_digit bs
front_in_run [] = refl
front_in_run (b ∷ bs) = by_test (is_word_byte b) refl (is_digit b) refl (front_in_run bs)
  where
    by_test : (k : Bool) → is_word_byte b ≡ k → (l : Bool) → is_digit b ≡ l
        → front is_digit (run is_word_byte bs) ≡ front is_digit bs
        → front is_digit (take (cond k (suc (front is_word_byte bs)) 0) (b ∷ bs)) ≡ cond l (suc (front is_digit bs)) 0
    by_test true i true j h = rw (j, h)
    by_test true i false j h = rw j
    by_test false i true j h = false_is_not (sym i ∙ digit_in_word b j)
    by_test false i false j h = refl

-- the word goes on after its digits
front_after : (bs : List ℕ)
    → front is_word_byte bs ≡ front is_digit bs + front is_word_byte (drop (front is_digit bs) bs)
front_after [] = refl
front_after (b ∷ bs) = by_test (is_digit b) refl (front_after bs)
  where
    by_test : (k : Bool) → is_digit b ≡ k
        → front is_word_byte bs ≡ front is_digit bs + front is_word_byte (drop (front is_digit bs) bs)
        → front is_word_byte (b ∷ bs)
        ≡ cond k (suc (front is_digit bs)) 0 + front is_word_byte (drop (cond k (suc (front is_digit bs)) 0) (b ∷ bs))
    by_test true e h = rw (digit_in_word b e) (omega arith)
    by_test false e h = omega arith

word_stops : (bs : List ℕ) → is_word_byte (get_or bs 0 0) ≡ false → front is_word_byte bs ≡ 0
word_stops [] e = refl
word_stops (b ∷ bs) e = rw e

word_goes_on : (bs : List ℕ) → is_word_byte (get_or bs 0 0) ≡ true → 0 < front is_word_byte bs
word_goes_on [] e = false_is_not e
word_goes_on (b ∷ bs) e = rw e (omega arith)

-- ---- the token

variable_long : (u : List ℕ) → front is_digit u < length u → variable_of (118 ∷ u) ≡ none
variable_long [] h = refl
variable_long (d ∷ ds) h = rw (ne_eqb (front is_digit (d ∷ ds)) (length (d ∷ ds)) (omega arith))

variable_none : (u : List ℕ) → front is_digit u ≡ 0 → variable_of (118 ∷ u) ≡ none
variable_none [] e = refl
variable_none (d ∷ ds) e = variable_long (d ∷ ds) (omega arith)

variable_whole : (u : List ℕ) → 0 < length u → front is_digit u ≡ length u
    → variable_of (118 ∷ u) ≡ some (record { token = variable (number u); size = suc (length u) })
variable_whole [] h e = absurd (omega arith)
variable_whole (d ∷ ds) h e = rw (eq-eqb (front is_digit (d ∷ ds)) (length (d ∷ ds)) e)

variable_other : (b : ℕ) (u : List ℕ) → (b ≡ 118 → ⊥) → variable_of (b ∷ u) ≡ none
variable_other b [] h = refl
variable_other b (d ∷ ds) h = rw (ne_eqb b 118 h)

-- ---- at a place

pub other_word : (text : List ℕ) (at : ℕ) → at < length text → (get_or text at 0 ≡ 118 → ⊥)
    → variable_of (run is_word_byte (drop at text)) ≡ none
other_word text at h v = rw (drop-cons text at 0 h) (by_test (is_word_byte (get_or text at 0)))
  where
    after_first : List ℕ
    after_first = drop (suc at) text

    by_test : (k : Bool)
        → variable_of (take (cond k (suc (front is_word_byte after_first)) 0) (get_or text at 0 ∷ after_first)) ≡ none
    by_test true = variable_other (get_or text at 0) (run is_word_byte after_first) v
    by_test false = refl

-- no keyword begins with v
module _ (text : List ℕ) (at : ℕ) (h : at < length text) (v : get_or text at 0 ≡ 118) where
  v_word : word_at (drop at text) ≡ variable_of (118 ∷ run is_word_byte (drop (at + 1) text))
  unfolding word_at
  v_word = rw (drop-cons text at 0 h, v, add-one)

  pub no_digit : front is_digit (drop (at + 1) text) ≡ 0 → word_at (drop at text) ≡ none
  no_digit e = v_word ∙ variable_none (run is_word_byte (drop (at + 1) text)) (front_in_run (drop (at + 1) text) ∙ e)

  -- the byte after the digits
  after : (f : ℕ) → get_or (drop f (drop (at + 1) text)) 0 0 ≡ get_or text (at + 1 + f) 0
  after f =
      get_or-drop f (drop (at + 1) text) 0 0
      ∙ get_or-drop (at + 1) text (f + 0) 0
      ∙ ap (λ k. get_or text (at + 1 + k) 0) (add-zero f)

  pub longer_word : {end : ℕ} → end ≡ at + 1 + front is_digit (drop (at + 1) text)
      → is_word_byte (get_or text end 0) ≡ true
      → word_at (drop at text) ≡ none
  longer_word {end} e w =
      let bs = drop (at + 1) text in
      v_word
      ∙ variable_long (run is_word_byte bs)
      (omega (
        arith,
        front_in_run bs,
        length_run is_word_byte bs,
        front_after bs,
        word_goes_on (drop (front is_digit bs) bs) (rw (after (front is_digit bs), ← e) w),
      ))

  pub all_digits : {end value : ℕ} → end ≡ at + 1 + front is_digit (drop (at + 1) text)
      → value ≡ min (number (run is_digit (drop (at + 1) text))) most → is_word_byte (get_or text end 0) ≡ false
      → 0 < front is_digit (drop (at + 1) text)
      → Some (record { kind = 2; value = value; end = end }) ≡ told_at at (word_at (drop at text))
  unfolding lexed token_number token_value
  all_digits {end} {value} e n w h =
      let bs = drop (at + 1) text in
      let stops = word_stops (drop (front is_digit bs) bs) (rw (after (front is_digit bs), ← e) w) in
      let same : front is_word_byte bs ≡ front is_digit bs = omega (arith, front_after bs, stops) in
      let place : end ≡ at + suc (front is_digit bs) = omega arith in
      let whole = variable_whole (run is_word_byte bs) (omega (arith, length_run is_word_byte bs))
      (omega (arith, front_in_run bs, length_run is_word_byte bs)) in
      rw (v_word, whole, n, place, length_run is_word_byte bs, same)
