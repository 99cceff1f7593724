-- The end of a form's last place: a group makes no row (`group_data`), a mark one with its number (`mark_data`), the
-- other forms one with their three parts (`closed_data`). Assumes nothing.
use Rattle.std.specs.Prelude.{ℕ, ◌+◌, ◌-◌, ◌%◌, ◌≤◌, ◌<◌, ◌≡◌, true, pos, length, get_or}
use Rattle.std.proofs.Common.{sym, ◌∙◌, subst, lit<}
use Rattle.std.proofs.Math.Path.{ap}
use Rattle.std.proofs.Math.Option.{none}
use Rattle.std.proofs.Math.Bool.{false}
use mathlib.Core.List.{List, [], ◌∷◌, ◌++◌, append-nil}
use native.Mathlib.Omega.{arith as linear}
use Rattle.grammar.specs.Sorts.{number, same_sort, Hole}
use Rattle.grammar.specs.Forms.{Place, in_group, in_mark}
use Rattle.grammar.specs.Grammar.{Phrase, closed, Chain, place, sort}
use Rattle.grammar.specs.Counts.{size, chain_size, last, roots}
use Rattle.grammar.specs.Rows.{counts, form_rows, three, Quad, quad}
use Rattle.grammar.specs.States.{Frame, open_at, after, at}
use Rattle.grammar.specs.Ranges.{flags, depth, after_minus, All}
use Rattle.grammar.specs.Outcome.{has_room}
use Rattle.grammar.specs.AllLaws.{all_parts}
use Rattle.grammar.specs.StateFlags.{stack_flags, part_flags}
use Rattle.grammar.specs.Written.{stack_size, part_rows, advance_rows, advance_writes}
use Rattle.parser.specs.Machine.{Config, config, complete, top_frame, form_kind, close_form, close_mark}
use Rattle.parsing.specs.Encoding.{place_number, Data}
use Rattle.parsing.specs.DataRows.{Held, with_row_held, row_small}
use Rattle.parsing.specs.DataStack.{framed_popped}
use Rattle.parsing.specs.DataSizes.{part_length, roots_below, depth_below, counts_below}
use Rattle.parsing.specs.DataLeaf.{part_after, writable}
use Rattle.parsing.specs.DataPlace.{place_topped, place_number_is, place_rows, place_last, place_first, place_second}

-- the frame at the top goes
abbrev pub popped : Config → Config
popped m = config (complete m.state m.state.sort m.state.rows (m.state.top - 1)) m.stack m.words

-- a part is complete at the last place of its form
module _ (h : Hole) (c : Chain) (x : Phrase) (fs : List Frame) (m : Config)
    (d : Data (at (after x) (open_at h c ∷ fs)) m)
    (r : m.state.rows ≡ length (part_rows x (open_at h c ∷ fs))) where
  abbrev f : ℕ
  f = top_frame m.stack m.state.top

  pub group_data : place c ≡ in_group → same_sort (sort x) number ≡ false
      → Data (at (after (closed c x)) fs) (popped m)
  group_data g n =
      let s : same_sort (sort (closed c x)) number ≡ false = rw g n in
      let none_new : advance_rows none c x fs ≡ [] = rw g in
      let is = advance_writes none h c x fs tt ∙ ap (λ (l : List Quad). part_rows x (open_at h c ∷ fs) ++ l) none_new
      ∙ append-nil (part_rows x (open_at h c ∷ fs)) in
      part_after (closed c x) fs (popped m)
      (subst (λ (l : List Quad). Held m.words l) (sym is) d.words) (framed_popped (place_topped h c x fs m d r)) s

  pub mark_data : place c ≡ in_mark → sort x ≡ number → All (part_flags x (open_at h c ∷ fs))
      → has_room (length m.words) (length (part_rows (closed c x) fs)) ≡ true
      → Data (at (after (closed c x)) fs) (close_mark m)
  unfolding close_mark
  mark_data g s a room =
      let qs = part_rows x (open_at h c ∷ fs) in
      let is : part_rows (closed c x) fs ≡ qs ++ (quad (pos 9) (counts x) 0 0 ∷ []) =
      advance_writes none h c x fs tt ∙ ap (λ (p : Place). qs ++ form_rows p (counts x) (roots (stack_size fs) c)
      (last (stack_size fs + chain_size c) (size x))) g in
      let n : same_sort (sort (closed c x)) number ≡ false = rw g in
      let w = writable m.words qs (part_rows (closed c x) fs) (quad (pos 9) (counts x) 0 0) m.state.rows
      d.words r is room in
      let small = row_small w in
      let all = (all_parts (stack_flags (open_at h c ∷ fs))
      (flags (depth (open_at h c ∷ fs)) (after_minus (open_at h c ∷ fs)) x) a).1 in
      let few = counts_below x (depth (open_at h c ∷ fs)) (after_minus (open_at h c ∷ fs)) all in
      let deep = depth_below (open_at h c ∷ fs) in
      let written : Held (close_mark m).words (qs ++ (quad (pos 9) (counts x) 0 0 ∷ [])) =
      rw (d.count s) (with_row_held m.words qs m.state.rows 9 (counts x) 0 0 w (lit< tt)
      (omega (linear, part_length x (open_at h c ∷ fs))) (lit< tt) (lit< tt)) in
      part_after (closed c x) fs (close_mark m) (subst (λ (l : List Quad). Held (close_mark m).words l)
      (sym is) written)
      (framed_popped (place_topped h c x fs m d r)) n

  pub closed_data : (k : ℕ) → form_kind (place_number h (place c)) ≡ k → k < 65536
      → ((rs : List ℕ) (e : ℕ) → form_rows (place c) (counts x) rs e ≡ three (pos k) rs e)
      → same_sort (sort (closed c x)) number ≡ false
      → has_room (length m.words) (length (part_rows (closed c x) fs)) ≡ true
      → Data (at (after (closed c x)) fs) (close_form m f)
  unfolding close_form
  closed_data k i l t n room =
      let b = stack_size fs in
      let rs = roots b c in
      let e = last (b + chain_size c) (size x) in
      let qs = part_rows x (open_at h c ∷ fs) in
      let new = quad (pos k) (get_or rs 1 0) (get_or rs 0 0) e in
      let is : part_rows (closed c x) fs ≡ qs ++ (new ∷ []) =
      advance_writes none h c x fs tt ∙ ap (λ (u : List Quad). qs ++ u) (t rs e) in
      let w = writable m.words qs (part_rows (closed c x) fs) new m.state.rows d.words r is room in
      let small = row_small w in
      let low : m.state.rows ≤ 2048 = omega linear in
      let sum = place_rows h c x fs m d r in
      let kind : form_kind (f % 64) ≡ k = ap form_kind (place_number_is h c x fs m d r) ∙ i in
      let written : Held (close_form m f).words (qs ++ (new ∷ [])) =
      rw (kind, place_first h c x fs m d r low, place_second h c x fs m d r low, place_last h c x fs m d r)
      (with_row_held m.words qs m.state.rows k (get_or rs 1 0) (get_or rs 0 0) e w l
      (omega (linear, roots_below c b 1)) (omega (linear, roots_below c b 0)) (omega linear)) in
      part_after (closed c x) fs (close_form m f) (subst (λ (u : List Quad). Held (close_form m f).words u)
      (sym is) written)
      (framed_popped (place_topped h c x fs m d r)) n
