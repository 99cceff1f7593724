-- The end of a place that is not the last of its form: the machine puts the frame of the next place instead
-- (`next_data`), and where a body begins it writes the note before that (`body_data`). Assumes nothing.
use Prim.Native.Nat.{ℕ, suc, ◌+◌, ◌-◌, ◌%◌, ◌≤◌}
use Rattle.std.specs.Prelude.{◌≡◌, Bool, true, false, pos, get_or}
use Rattle.std.proofs.Math.Path.{refl, sym, ap, subst}
use Rattle.std.proofs.Common.{◌∙◌, lit<}
use Rattle.std.proofs.Math.Option.{some}
use mathlib.Core.List.{List, [], ◌∷◌, ◌++◌, append-nil}
use native.Mathlib.Omega.{arith as linear}
use Rattle.std.proofs.Math.ListN.{length, length-append}
use Rattle.grammar.specs.Sorts.{number, same_sort, Hole}
use Rattle.grammar.specs.Forms.{Place, place_takes, while_body}
use Rattle.grammar.specs.Grammar.{Phrase, Chain, place, sort}
use Rattle.grammar.specs.Counts.{size, chain_size, last, with_note, roots, begins_body}
use Rattle.grammar.specs.Rows.{Quad, quad}
use Rattle.grammar.specs.States.{Frame, open_at, after, at}
use Rattle.grammar.specs.Automaton.{advance}
use Rattle.grammar.specs.Outcome.{has_room}
use Rattle.grammar.specs.Sizes.{sized}
use Rattle.grammar.specs.Written.{stack_size, part_rows, written_in, advance_rows, advance_writes}
use Rattle.parser.specs.Machine.{Config, frame, first_part, second_part, top_frame, rows_after, next_place, open_body}
use Rattle.parsing.specs.Encoding.{place_number, frame_word, frame_words, Data}
use Rattle.parsing.specs.DataRows.{Held, room_is, with_row_held, row_small, row_counted}
use Rattle.parsing.specs.DataStack.{first_is, second_is, Topped, topped, top_frame_is, in_stack, framed_replaced}
use Rattle.parsing.specs.DataSizes.{part_length, roots_below}
use Rattle.parsing.specs.DataLeaf.{writable}
use Rattle.parsing.specs.DataLetters.{place_letters, frame_word_number}

frame_same : {n a b k i j : ℕ} → n ≡ k → a ≡ i → b ≡ j → frame n a b ≡ frame k i j
frame_same p q e = cc

-- without a note, the last part stands before the others
plain_first : (t : Bool) (r : ℕ) (rs : List ℕ) → t ≡ false → get_or (with_note t r rs) 1 0 ≡ get_or rs 0 0
plain_first t r rs e = rw e

plain_second : (t : Bool) (r : ℕ) (rs : List ℕ) → t ≡ false → get_or (with_note t r rs) 0 0 ≡ r
plain_second t r rs e = rw e

-- a note stands for itself and the part before it
noted_first : (r : ℕ) (rs : List ℕ) → get_or (with_note true r rs) 1 0 ≡ get_or rs 1 0
noted_first r [] = refl
noted_first r (i ∷ rs) = refl

noted_second : (r : ℕ) (rs : List ℕ) → get_or (with_note true r rs) 0 0 ≡ suc r
noted_second r [] = refl
noted_second r (i ∷ rs) = refl

-- a part is complete at a place
module _ (h : Hole) (c : Chain) (x : Phrase) (fs : List Frame) (m : Config)
    (d : Data (at (after x) (open_at h c ∷ fs)) m)
    (r : m.state.rows ≡ length (part_rows x (open_at h c ∷ fs))) where
  abbrev f : ℕ
  f = top_frame m.stack m.state.top

  pub place_topped : Topped m.stack m.state.top (frame_word (open_at h c) (stack_size fs)) (frame_words fs)
  unfolding frame_words
  place_topped = topped m.stack m.state.top (frame_word (open_at h c) (stack_size fs)) (frame_words fs)
      d.frames

  pub place_number_is : f % 64 ≡ place_number h (place c)
  place_number_is = ap (λ (w : ℕ). w % 64) (top_frame_is place_topped) ∙ frame_word_number (open_at h c) (stack_size fs)

  pub place_in_stack : m.state.top ≤ length m.stack
  place_in_stack =
      let n = frame_word_number (open_at h c) (stack_size fs) in
      let p = (place_letters h (place c)).2 in
      in_stack place_topped (omega linear)

  pub place_rows : m.state.rows ≡ stack_size fs + chain_size c + size x
  unfolding stack_size
  place_rows = r ∙ part_length x (open_at h c ∷ fs)

  -- the row where the part ends
  pub place_last : m.state.rows - 1 ≡ last (stack_size fs + chain_size c) (size x)
  place_last = let e = place_rows in omega linear

  pub place_first : m.state.rows ≤ 2048 → first_part f ≡ get_or (roots (stack_size fs) c) 1 0
  place_first l =
      let e = place_rows in
      ap first_part (top_frame_is place_topped)
      ∙ first_is (place_number h (place c)) (get_or (roots (stack_size fs) c) 1 0) (get_or (roots (stack_size fs) c) 0 0)
      (omega (linear, roots_below c (stack_size fs) 1))

  pub place_second : m.state.rows ≤ 2048 → second_part f ≡ get_or (roots (stack_size fs) c) 0 0
  place_second l =
      let e = place_rows in
      ap second_part (top_frame_is place_topped)
      ∙ second_is (place_number h (place c)) (get_or (roots (stack_size fs) c) 1 0) (get_or (roots (stack_size fs) c) 0 0)
      (omega (linear, roots_below c (stack_size fs) 0))

  -- ---- a place that begins no body

  pub next_data : (q : Place) → begins_body (place c) ≡ false → begins_body q ≡ false
      → place_number h (place c) + 1 ≡ place_number (place_takes q) q
      → has_room (length m.words) (length (written_in (advance (some q) c x fs))) ≡ true
      → Data (advance (some q) c x fs) (next_place m f)
  unfolding next_place frame_words roots
  next_data q nb b k room =
      let e = last (stack_size fs + chain_size c) (size x) in
      let rs = roots (stack_size fs) c in
      let is = advance_writes (some q) h c x fs nb in
      let none_new : advance_rows (some q) c x fs ≡ [] = rw b in
      let same : written_in (advance (some q) c x fs) ≡ part_rows x (open_at h c ∷ fs) =
      is ∙ ap (λ (l : List Quad). part_rows x (open_at h c ∷ fs) ++ l) none_new
      ∙ append-nil (part_rows x (open_at h c ∷ fs)) in
      let few = room_is (length m.words) (length (written_in (advance (some q) c x fs))) room in
      let counted = ap length same in
      let low : m.state.rows ≤ 2048 = omega linear in
      record {
        words = subst (λ (qs : List Quad). Held m.words qs) (sym same) d.words;
        frames =
            framed_replaced (frame (f % 64 + 1) (second_part f) (m.state.rows - 1)) place_in_stack place_topped
            ∙ ap (λ (w : ℕ). w ∷ frame_words fs)
            (frame_same (ap (λ (n : ℕ). n + 1) place_number_is ∙ k)
            (place_second low ∙ sym (plain_first (begins_body q) e rs b))
            (place_last ∙ sym (plain_second (begins_body q) e rs b)));
        count = tt;
      }

  -- ---- a body begins

  pub body_data : begins_body (place c) ≡ false → same_sort (sort x) number ≡ false
      → has_room (length m.words) (length (written_in (advance (some while_body) c x fs))) ≡ true
      → Data (advance (some while_body) c x fs) (open_body m f)
  unfolding open_body frame_words roots
  body_data nb n room =
      let e = last (stack_size fs + chain_size c) (size x) in
      let rs = roots (stack_size fs) c in
      let qs = part_rows x (open_at h c ∷ fs) in
      let note = quad (pos 37) (get_or rs 0 0) e 0 in
      let is = advance_writes (some while_body) h c x fs nb in
      let w = writable m.words qs (written_in (advance (some while_body) c x fs)) note m.state.rows
      d.words r is room in
      let small = row_small w in
      let low : m.state.rows ≤ 2048 = omega linear in
      let after = row_counted note w in
      let sum = place_rows in
      let one = sized x n in
      let second = place_second low in
      let written : Held (open_body m f).words (qs ++ (note ∷ [])) =
      rw (second, place_last) (with_row_held m.words qs m.state.rows 37 (get_or rs 0 0) e 0 w (lit< tt)
      (omega (linear, roots_below c (stack_size fs) 0)) (omega linear) (lit< tt)) in
      let top : rows_after m.words m.state.rows - 1 ≡ suc e = omega (linear, length-append qs (note ∷ [])) in
      record {
        words = subst (λ (l : List Quad). Held (open_body m f).words l) (sym is) written;
        frames =
            framed_replaced (frame 58 (first_part f)
            (rows_after m.words m.state.rows - 1)) place_in_stack place_topped
            ∙ ap (λ (v : ℕ). v ∷ frame_words fs)
            (frame_same {n = 58} refl (place_first low ∙ sym (noted_first e rs)) (top ∙ sym (noted_second e rs)));
        count = tt;
      }
