-- What the pass answers, for every words and every output: each of its three answers has its exact occasion
-- (`answered_iff`), so has each number (`numbers`), and there is no other. An output as long as the old list is never too
-- short (`room_enough`). With number 0, the words used are a list in the old one's form that is read as the shortened
-- conditions (`new_list`), and that comes back as it is from a second pass, whichever order either has (`written_again`).
-- The output keeps its length (`written_length`). Assumes nothing.
use Rattle.std.specs.Prelude.{ℕ, ◌≤◌, ◌<◌, ◌≡◌, ◌↔◌, ◌⊎◌, Bool, cond, ℤ, pos, length}
use Rattle.std.proofs.Math.Path.{refl, ap}
use Rattle.std.proofs.Common.{sym, ◌∙◌, subst, inl, inr, arith as linear, length-append, lt-ltb, le-ltb, ltb-false, ltb-true}
use Rattle.std.proofs.Math.Option.{Option, none, some}
use mathlib.Core.List.{List}
use Rattle.std.proofs.Math.Bool.{true, false}
use Rattle.std.proofs.Math.Dec.{ltb}
use Rattle.std.proofs.lemmas.List.{length-replicate}
use Rattle.std.proofs.Math.Seq.{take-append_seam}
use Rattle.script.specs.Conditions.{Condition}
use Rattle.script.specs.Words.{list_words}
use Rattle.script.specs.WellFormed.{WellFormed}
use Rattle.script.specs.Listing.{form_of, read_list}
use Rattle.theorems.specs.ReadBack.{read_written, written_read, malformed_iff}
use Rattle.shortening.specs.Simplify.{Order, shorten_all}
use Rattle.shortening.specs.Shortened.{Written, refuse, filled, written_for, written, used_words}
use Rattle.shortening.specs.Done.{all_again}
use Rattle.shortening.specs.Lists.{list_at_most, form_same, well_formed_shortened}

-- the words of the shortened list, in the form of the words ws
abbrev pub short_words : Order → List ℤ → List Condition → List ℤ
short_words o ws cs = list_words (form_of ws) (shorten_all o cs)

-- ---- the three answers, each with its occasion

pub data Answered (o : Order) (ws : List ℤ) (room : ℕ) (r : Written) : Type 0 where
  -- 20: the words are no list
  torn : ((cs : List Condition) → ¬ WellFormed ws cs) → r ≡ refuse 20 room → Answered o ws room r
  -- 31: they are, and the new list is longer than the output
  too_short : (cs : List Condition) → WellFormed ws cs → room < length (short_words o ws cs) → r ≡ refuse 31 room
      → Answered o ws room r
  -- 0: they are, and it is not
  fits : (cs : List Condition) → WellFormed ws cs → length (short_words o ws cs) ≤ room → r ≡ filled (short_words o ws cs) room
      → Answered o ws room r

module _ (o : Order) (ws : List ℤ) (room : ℕ) where
  pub answered : Answered o ws room (written o ws room)
  unfolding written
  answered = of_list (read_list ws) refl
    where
      of_room : (cs : List Condition) → read_list ws ≡ some cs → (b : Bool) → ltb room (length (short_words o ws cs)) ≡ b
          → Answered o ws room (cond b (refuse 31 room) (filled (short_words o ws cs) room))
      of_room cs p true e = too_short cs (written_read ws cs p) (ltb-true room _ e) refl
      of_room cs p false e = fits cs (written_read ws cs p) (ltb-false room _ e) refl

      of_list : (l : Option (List Condition)) → read_list ws ≡ l → Answered o ws room (written_for o (form_of ws) l room)
      of_list none p = torn ((malformed_iff ws).0 p) refl
      of_list (some cs) p = of_room cs p (ltb room (length (short_words o ws cs))) refl

  read_as : (l : Option (List Condition)) → read_list ws ≡ l → written o ws room ≡ written_for o (form_of ws) l room
  unfolding written
  read_as l e = ap (λ k. written_for o (form_of ws) k room) e

  by_length : (cs : List Condition) (b : Bool) → ltb room (length (short_words o ws cs)) ≡ b
      → written_for o (form_of ws) (some cs) room ≡ cond b (refuse 31 room) (filled (short_words o ws cs) room)
  by_length cs b e = ap (λ t. cond t (refuse 31 room) (filled (short_words o ws cs) room)) e

  pub only_answer : (r : Written) → Answered o ws room r → written o ws room ≡ r
  only_answer r (torn h e) = read_as none ((malformed_iff ws).1 h) ∙ sym e
  only_answer r (too_short cs w h e) =
      read_as (some cs) (read_written ws cs w) ∙ by_length cs true (lt-ltb room (length (short_words o ws cs)) h) ∙ sym e
  only_answer r (fits cs w h e) =
      read_as (some cs) (read_written ws cs w) ∙ by_length cs false (le-ltb room (length (short_words o ws cs)) h) ∙ sym e

  pub answered_iff : (r : Written) → (written o ws room ≡ r) ↔ Answered o ws room r
  answered_iff r = (λ e. rw e at answered, only_answer r)

  -- ---- the numbers

  pub record Numbers : Type 0 where
    pub no_list : ((written o ws room).number ≡ 20) ↔ ((cs : List Condition) → ¬ WellFormed ws cs)
    pub no_room : ((written o ws room).number ≡ 31)
        ↔ ((cs : List Condition) × WellFormed ws cs × (room < length (short_words o ws cs)))
    pub planned : ((written o ws room).number ≡ 0)
        ↔ ((cs : List Condition) × WellFormed ws cs × (length (short_words o ws cs) ≤ room))
    pub no_other : let n = (written o ws room).number in (n ≡ 0) ⊎ ((n ≡ 20) ⊎ (n ≡ 31))

  abbrev number : Written → ℕ
  number r = r.number

  pub numbers : Numbers
  numbers = record {
    no_list = (is_torn answered, λ h. ap number (only_answer _ (torn h refl)));
    no_room = (is_short answered, λ h. ap number (only_answer _ (too_short h.0 h.1 h.2 refl)));
    planned = (is_fit answered, λ h. ap number (only_answer _ (fits h.0 h.1 h.2 refl)));
    no_other = one_of answered;
  }
    where
      is_torn : {r : Written} → Answered o ws room r → r.number ≡ 20 → (cs : List Condition) → ¬ WellFormed ws cs
      is_torn (torn h e) k = h
      is_torn (too_short cs w h e) k = let n = sym (ap number e) ∙ k in absurd (omega linear)
      is_torn (fits cs w h e) k = let n = sym (ap number e) ∙ k in absurd (omega linear)

      is_short : {r : Written} → Answered o ws room r → r.number ≡ 31
          → (cs : List Condition) × WellFormed ws cs × (room < length (short_words o ws cs))
      is_short (torn h e) k = let n = sym (ap number e) ∙ k in absurd (omega linear)
      is_short (too_short cs w h e) k = (cs, w, h)
      is_short (fits cs w h e) k = let n = sym (ap number e) ∙ k in absurd (omega linear)

      is_fit : {r : Written} → Answered o ws room r → r.number ≡ 0
          → (cs : List Condition) × WellFormed ws cs × (length (short_words o ws cs) ≤ room)
      is_fit (torn h e) k = let n = sym (ap number e) ∙ k in absurd (omega linear)
      is_fit (too_short cs w h e) k = let n = sym (ap number e) ∙ k in absurd (omega linear)
      is_fit (fits cs w h e) k = (cs, w, h)

      one_of : {r : Written} → Answered o ws room r → (r.number ≡ 0) ⊎ ((r.number ≡ 20) ⊎ (r.number ≡ 31))
      one_of (torn h e) = inr (inl (ap number e))
      one_of (too_short cs w h e) = inr (inr (ap number e))
      one_of (fits cs w h e) = inl (ap number e)

  -- an output as long as the old list is never too short
  pub room_enough : (cs : List Condition) → WellFormed ws cs → length ws ≤ room
      → written o ws room ≡ filled (short_words o ws cs) room
  room_enough cs w h = only_answer _ (fits cs w (omega (linear, list_at_most o (form_of ws) cs, ap length w.spells)) refl)

  -- ---- number 0: the old list, and what the words used are and are read as

  pub record NewList (r : Written) : Type 0 where
    pub before : List Condition
    pub listed : WellFormed ws before
    pub words : used_words r ≡ short_words o ws before
    pub read_again : read_list (used_words r) ≡ some (shorten_all o before)
    pub same_form : form_of (used_words r) ≡ form_of ws

  pub new_list : (written o ws room).number ≡ 0 → NewList (written o ws room)
  new_list z =
      let k = numbers.planned.0 z in
      let e = only_answer _ (fits k.0 k.1 k.2 refl) in
      let words = ap used_words e ∙ take-append_seam (short_words o ws k.0) _ in
      record {
        before = k.0;
        listed = k.1;
        words = words;
        read_again = ap read_list words ∙ read_written _ (shorten_all o k.0) (well_formed_shortened o ws k.0 k.1);
        same_form = ap form_of words ∙ form_same o ws k.0 k.1;
      }

  pub written_length : length (written o ws room).list ≡ room
  written_length = of_answer answered
    where
      held : Written → ℕ
      held r = length r.list

      of_answer : {r : Written} → Answered o ws room r → length r.list ≡ room
      of_answer (torn h e) = ap held e ∙ length-replicate room (pos 0)
      of_answer (too_short cs w h e) = ap held e ∙ length-replicate room (pos 0)
      of_answer (fits cs w h e) = ap held e ∙ simp (length-append, length-replicate) (omega linear)

module _ (o u : Order) (ws : List ℤ) (room : ℕ) where
  pub written_again : (written o ws room).number ≡ 0 → let us = used_words (written o ws room) in
      (room₂ : ℕ) → length us ≤ room₂ → written u us room₂ ≡ filled us room₂
  written_again z room₂ h =
      let n = new_list o ws room z in
      let us = used_words (written o ws room) in
      let listed : WellFormed us (shorten_all o n.before) =
      subst (λ vs. WellFormed vs (shorten_all o n.before)) (sym n.words) (well_formed_shortened o ws n.before n.listed) in
      let same : short_words u us (shorten_all o n.before) ≡ us =
      (λ i. list_words (n.same_form i) (all_again o u n.before i)) ∙ sym n.words in
      room_enough u us room₂ (shorten_all o n.before) listed h ∙ ap (λ vs. filled vs room₂) same
