-- 02, P10, of lists and answers: a list's shortened conditions change exactly where one of them kept a subtraction whose
-- two sides had both become constant 0, and the new list is shorter then (`lists_moved`). So for every room the answer is
-- the same, number, words used and every word, or one did and the new list has room (`same_or_changes`,
-- `answer_changes_iff`): then the number is 0, and it was 31, or 0 with more words used (`changed_answer`). Assumes
-- nothing.
use Rattle.std.specs.Prelude.{ℕ, ◌≤◌, ◌<◌, ◌≡◌, ◌↔◌, ◌≢◌, ◌⊎◌, Bool, true, false, ℤ, ltb}
use Rattle.std.proofs.Math.Path.{refl}
use Rattle.std.proofs.Common.{sym, ap, ◌∙◌, inl, inr, ⊎_elim, arith as linear, ltb-true, ltb-false}
use mathlib.Core.List.{List, [], ◌∷◌}
use Rattle.std.proofs.Math.ListN.{length, length-append}
use Rattle.script.specs.Syntax.{Formula}
use Rattle.script.specs.Conditions.{Condition, condition}
use Rattle.script.specs.Words.{Form, formula_words, trailer, line_words, all_lines, count_word, list_words}
use Rattle.script.specs.WellFormed.{WellFormed}
use Rattle.script.specs.Listing.{form_of}
use Rattle.shortening.specs.Simplify.{zero_minus_first, minus_zero_first, shorten_condition}
use Rattle.shortening.specs.Shortened.{Written, filled, written}
use Rattle.shortening.specs.Never.{sizeᶠ}
use Rattle.shortening.specs.Answers.{short_words, Answered, torn, too_short, fits, answered, only_answer}
use Rattle.shortening.specs.Kept.{old_all, new_all, keepsᶠ, some_keeps}
use Rattle.shortening.specs.Moved.{Moved, same, less, kept_less, not_longer, two_moved}
use Rattle.shortening.specs.Orders.{statusᶠ}

-- ---- a list in either form

module _ (form : Form) where
  line_size : Condition → ℕ
  line_size c = length (line_words form c)

  line_moved : (c : Condition)
      → Moved line_size (keepsᶠ c.claim) (shorten_condition zero_minus_first c) (shorten_condition minus_zero_first c)
  unfolding line_size line_words
  line_moved c = of_claim (statusᶠ c.claim).moved
    where
      of_claim : {k : Bool} {f g : Formula} → Moved sizeᶠ k f g
          → Moved line_size k (condition c.rule c.row c.depth f) (condition c.rule c.row c.depth g)
      of_claim (same d e) = same d (λ i. condition c.rule c.row c.depth (e i))
      of_claim {f = f} {g} (less d h) =
          let old = length-append (formula_words f) (trailer form (condition c.rule c.row c.depth f)) in
          let new = length-append (formula_words g) (trailer form (condition c.rule c.row c.depth g)) in
          less d (omega (linear, old, new))

  lines_size : List Condition → ℕ
  lines_size cs = length (all_lines form cs)

  lines_moved : (cs : List Condition) → Moved lines_size (some_keeps cs) (old_all cs) (new_all cs)
  unfolding lines_size line_size all_lines
  lines_moved [] = same refl refl
  lines_moved (c ∷ cs) =
      two_moved line_size lines_size lines_size 0 (λ d ds. d ∷ ds)
      (λ d ds. omega (linear, length-append (line_words form d) (all_lines form ds))) (line_moved c) (lines_moved cs)

  pub lists_moved : (cs : List Condition)
      → Moved (λ ds. length (list_words form ds)) (some_keeps cs) (old_all cs) (new_all cs)
  unfolding lines_size list_words
  lists_moved cs = of_lines (lines_moved cs)
    where
      of_lines : {k : Bool} {ds es : List Condition} → Moved lines_size k ds es
          → Moved (λ ds. length (list_words form ds)) k ds es
      of_lines (same d e) = same d e
      of_lines {ds = ds} {es} (less d h) =
          let old = length-append (all_lines form ds) (count_word form (length ds) ∷ []) in
          let new = length-append (all_lines form es) (count_word form (length es) ∷ []) in
          less d (omega (linear, old, new))

-- ---- answers

module _ (ws : List ℤ) (room : ℕ) where
  abbrev pub old_answer : Written
  old_answer = written zero_minus_first ws room

  abbrev pub new_answer : Written
  new_answer = written minus_zero_first ws room

  -- the words of the new list
  abbrev pub old_words : List Condition → List ℤ
  old_words cs = short_words zero_minus_first ws cs

  abbrev pub new_words : List Condition → List ℤ
  new_words cs = short_words minus_zero_first ws cs

  -- a condition of the list kept such a subtraction, and the new list has room
  pub record Changes : Type 0 where
    pub conditions : List Condition
    pub listed : WellFormed ws conditions
    pub kept : some_keeps conditions ≡ true
    pub room_left : length (new_words conditions) ≤ room

  -- the number is 0, and it was 31, or 0 with more words used
  abbrev pub NowShorter : Type 0
  NowShorter =
      (new_answer.number ≡ 0)
      × ((old_answer.number ≡ 31) ⊎ ((old_answer.number ≡ 0) × (new_answer.used < old_answer.used)))

  pub same_or_changes : (new_answer ≡ old_answer) ⊎ Changes
  same_or_changes = of_answer (answered minus_zero_first ws room)
    where
      of_lists : (cs : List Condition) → WellFormed ws cs → length (new_words cs) ≤ room
          → new_answer ≡ filled (new_words cs) room
          → Moved (λ ds. length (list_words (form_of ws) ds)) (some_keeps cs) (old_all cs) (new_all cs)
          → (new_answer ≡ old_answer) ⊎ Changes
      of_lists cs w h e (same d g) =
          let words : new_words cs ≡ old_words cs = ap (list_words (form_of ws)) g in
          let fitted = only_answer zero_minus_first ws room _ (fits cs w (omega (linear, ap length words)) refl) in
          inl (e ∙ ap (λ us. filled us room) words ∙ sym fitted)
      of_lists cs w h e (less d g) = inr (record { conditions = cs; listed = w; kept = d; room_left = h })

      of_answer : Answered minus_zero_first ws room new_answer → (new_answer ≡ old_answer) ⊎ Changes
      of_answer (torn h e) = inl (e ∙ sym (only_answer zero_minus_first ws room _ (torn h refl)))
      of_answer (too_short cs w h e) =
          let longer : room < length (old_words cs) = omega (linear, not_longer (lists_moved (form_of ws) cs)) in
          inl (e ∙ sym (only_answer zero_minus_first ws room _ (too_short cs w longer refl)))
      of_answer (fits cs w h e) = of_lists cs w h e (lists_moved (form_of ws) cs)

  pub changed_answer : Changes → NowShorter
  changed_answer c =
      let cs = c.conditions in
      let now = only_answer minus_zero_first ws room _ (fits cs c.listed c.room_left refl) in
      let shorter = kept_less (lists_moved (form_of ws) cs) c.kept in
      (ap number now, of_room cs c.listed now shorter (ltb room (length (old_words cs))) refl)
    where
      number : Written → ℕ
      number r = r.number

      of_room : (cs : List Condition) → WellFormed ws cs → new_answer ≡ filled (new_words cs) room
          → length (new_words cs) < length (old_words cs) → (b : Bool) → ltb room (length (old_words cs)) ≡ b
          → (old_answer.number ≡ 31) ⊎ ((old_answer.number ≡ 0) × (new_answer.used < old_answer.used))
      of_room cs w now h true e =
          inl (ap number (only_answer zero_minus_first ws room _ (too_short cs w (ltb-true room _ e) refl)))
      of_room cs w now h false e =
          let then = only_answer zero_minus_first ws room _ (fits cs w (ltb-false room _ e) refl) in
          let used : Written → ℕ = λ r. r.used in
          inr (ap number then, omega (linear, ap used now, ap used then))

  pub answer_changes_iff : (new_answer ≢ old_answer) ↔ Changes
  answer_changes_iff = (λ n. ⊎_elim (λ e. absurd (n e)) (λ c. c) same_or_changes, λ c e. differ e (changed_answer c))
    where
      differ : new_answer ≡ old_answer → NowShorter → ⊥
      differ e (z, inl h) = omega (linear, ap (λ (r : Written). r.number) e)
      differ e (z, inr h) = omega (linear, h.1, ap (λ (r : Written). r.used) e)
