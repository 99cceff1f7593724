-- The rows that are to do, in lent words: they lie from word 0, the next row last, zeros above (`held_in`, `Zeros`). A row is put on
-- top (`pushed`, `zeros_pushed`), the next one is taken away (`top_first`, `popped`, `zeros_popped`); and the words are those that 02, P11
-- asks for (`words_are`). Assumes nothing.
use Rattle.std.specs.Prelude.{ℕ, suc, ◌+◌, ◌-◌, ◌≤◌, ◌<◌, ◌≡◌, List, [], ◌∷◌, ◌++◌, reverse, length, get_or, set, take, drop, replicate}
use Rattle.std.proofs.Common.{sym, ap, ◌∙◌, arith as linear, add-one, length-set, take-append-drop, length-take-le, take-suc, take-suc-set, drop-cons, drop-set-lt, get_or-set_same, take_at}
use Rattle.std.proofs.lemmas.List.{reverse-append, reverse-reverse, length-reverse, take-set-le}

-- the rows in so many words, the next one first
abbrev pub held_in : List ℕ → ℕ → List ℕ
held_in words height = reverse (take height words)

-- the next row
abbrev pub top : List ℕ → ℕ → ℕ
top words height = get_or words (height - 1) 0

-- from a place on there are only zeros
pub record Zeros (words : List ℕ) (from : ℕ) : Type 0 where
  pub inside : from ≤ length words
  pub above : drop from words ≡ replicate (length words - from) 0

module _ (words : List ℕ) (h : ℕ) where
  pub held_length : h ≤ length words → length (held_in words h) ≡ h
  held_length l = length-reverse (take h words) ∙ length-take-le h words l

  pub words_are : Zeros words h → words ≡ reverse (held_in words h) ++ replicate (length words - h) 0
  words_are z =
      sym (take-append-drop h words)
      ∙ ap (λ (l : List ℕ). take h words ++ l) z.above
      ∙ ap (λ (l : List ℕ). l ++ replicate (length words - h) 0) (sym (reverse-reverse (take h words)))

  -- ---- a row is put on top

  pub pushed : (r : ℕ) → h < length words → held_in (set words h r) (h + 1) ≡ r ∷ held_in words h
  pushed r l = rw (add-one, take-suc-set words h r l) (reverse-append (take h words) (r ∷ []))

  pub zeros_pushed : (r : ℕ) → h < length words → Zeros words h → Zeros (set words h r) (h + 1)
  zeros_pushed r l z = record {
    inside = rw length-set (omega linear);
    above = rw (add-one, drop-set-lt (suc h) words h r (omega linear), length-set) after;
  }
    where
      tails : {x y : ℕ} {xs ys : List ℕ} → x ∷ xs ≡ y ∷ ys → xs ≡ ys
      tails e = cc

      after : drop (suc h) words ≡ replicate (length words - suc h) 0
      after =
          let more : length words - h ≡ suc (length words - suc h) = omega linear in
          tails (sym (drop-cons words h 0 l) ∙ z.above ∙ ap (λ (n : ℕ). replicate n 0) more)

-- ---- the next row is taken away

module _ (words : List ℕ) (h : ℕ) (l : h ≤ length words) (high : 0 < h) where
  pub top_first : held_in words h ≡ top words h ∷ held_in words (h - 1)
  top_first = ap (held_in words) one ∙ ap reverse (take-suc words (h - 1) 0 (omega linear)) ∙ reverse-append (take (h - 1) words) (top words h ∷ [])
    where
      one : h ≡ suc (h - 1)
      one = omega linear

  pub popped : held_in (set words (h - 1) 0) (h - 1) ≡ held_in words (h - 1)
  popped = ap reverse (take-set-le (h - 1) words (h - 1) 0 (omega linear))

  pub zeros_popped : Zeros words h → Zeros (set words (h - 1) 0) (h - 1)
  zeros_popped z = record {
    inside = rw length-set (omega linear);
    above = drop-cons (set words (h - 1) 0) (h - 1) 0 (rw length-set (omega linear))
        ∙ rw (get_or-set_same words (h - 1) 0 0 (omega linear), drop-set-lt (suc (h - 1)) words (h - 1) 0 (omega linear), length-set) more;
  }
    where
      lower : suc (h - 1) ≡ h
      lower = omega linear

      longer : suc (length words - h) ≡ length words - (h - 1)
      longer = omega linear

      more : 0 ∷ drop (suc (h - 1)) words ≡ replicate (length words - (h - 1)) 0
      more = ap (λ (n : ℕ). 0 ∷ drop n words) lower ∙ ap (λ (xs : List ℕ). 0 ∷ xs) z.above ∙ ap (λ (n : ℕ). replicate n 0) longer

-- ---- words with only zeros from a place on

module _ (words : List ℕ) (h : ℕ) (l : h ≤ length words) where
  pub cleared_held : held_in (take h words ++ replicate (length words - h) 0) h ≡ held_in words h
  cleared_held = ap reverse (take_at (take h words) (replicate (length words - h) 0) h (length-take-le h words l))
