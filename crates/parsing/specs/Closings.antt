-- The moves by which a place ends, each against that of the automaton: a group, a mark, the last place of a form, the
-- place before a body, and the others (`close_kept`). Assumes nothing.
use Rattle.std.specs.Prelude.{ℕ, suc, ◌+◌, ◌-◌, ◌%◌, ◌<◌, ◌≡◌, Bool, List, ◌∷◌, ◌++◌, ℤ}
use Rattle.std.proofs.Math.Path.{refl, sym, ap}
use Rattle.std.proofs.Common.{◌∙◌, arith as linear, length-append}
use Rattle.std.proofs.Math.Option.{none, some}
use Rattle.std.proofs.Math.Bool.{true, false, cond}
use Rattle.std.proofs.Math.ListN.{length, get_or}
use Rattle.grammar.specs.Sorts.{Hole, only, either}
use Rattle.grammar.specs.Forms.{Place, next_place as place_after, place_takes, place_makes, in_group, in_mark, when_first, when_second, when_third, if_guard, if_then, if_else, while_guard, while_keep, while_fall, while_body, script_pre, script_body, script_post}
use Rattle.grammar.specs.Grammar.{Phrase, closed, Chain, more, place, sort}
use Rattle.grammar.specs.Counts.{begins_body, roots, last, size, chain_size}
use Rattle.grammar.specs.Rows.{Quad, form_rows, note_rows, counts}
use Rattle.grammar.specs.States.{Frame, open_at, after, at}
use Rattle.grammar.specs.Automaton.{advance}
use Rattle.grammar.specs.Ranges.{deeper, depth}
use Rattle.grammar.specs.InRange.{next_no_body}
use Rattle.grammar.specs.Written.{stack_size, part_rows, advance_rows, advance_writes}
use Rattle.parser.specs.declared.State.{State}
use Rattle.parser.specs.Symbols.{makes}
use Rattle.parser.specs.Machine.{Config, config, complete, frame, first_part, second_part, put, top_after, rows_after, form_kind, bodies_after, close_form, close_mark, open_body, next_place, close}
use Rattle.parsing.specs.Encoding.{sort_letter, place_number, Control, counted_rows}
use Rattle.parsing.specs.DataStack.{put_length}
use Rattle.parsing.specs.Stacks.{stands_pop, stands_next, frame_mod}
use Rattle.parsing.specs.Counted.{row_added, rows_kept, row_length}
use Rattle.parsing.specs.Following.{from, Kept}

longer : (rs ns : List Quad) {qs : List Quad} (n : ℕ) → qs ≡ rs ++ ns → length ns ≡ n → length qs ≡ length rs + n
longer rs ns n e l = ap length e ∙ omega (linear, length-append rs ns)

module _ (h : Hole) (ch : Chain) (x : Phrase) (fs : List Frame) (c : Config) (p : ℕ)
    (k : Control (at (after x) (open_at h ch ∷ fs)) c) where
  -- the rows that the end of the last place adds
  closed_rows : (q : Place) (n : ℕ) → place ch ≡ q
      → length (form_rows q (counts x) (roots (stack_size fs) ch) (last (stack_size fs + chain_size ch) (size x))) ≡ n
      → length (part_rows (closed ch x) fs) ≡ length (part_rows x (open_at h ch ∷ fs)) + n
  closed_rows q n e l =
      longer (part_rows x (open_at h ch ∷ fs)) (advance_rows none ch x fs) n (advance_writes none h ch x fs tt)
      (ap (λ (i : Place). length (form_rows i (counts x) (roots (stack_size fs) ch)
      (last (stack_size fs + chain_size ch) (size x)))) e ∙ l)

  bodies_are : (q : Place) → place ch ≡ q → c.state.bodies ≡ deeper q (depth fs)
  unfolding depth
  bodies_are q e = k.bodies ∙ ap (λ (i : Place). deeper i (depth fs)) e

  -- ---- a form whose last place ends

  closed_kept : (s : State) (ws : List ℤ) → s.mode ≡ 1 → s.sort ≡ sort_letter (place_makes (place ch) (sort x))
      → s.bodies ≡ depth fs
      → s.rows ≡ counted_rows (length ws) (length (part_rows (closed ch x) fs)) → s.top ≡ c.state.top - 1
      → s.out ≡ c.state.out → s.place ≡ c.state.place → length ws ≡ length c.words
      → Kept (at (after (closed ch x)) fs) (from c true p) (config s c.stack ws)
  closed_kept s ws m t d r n o i l =
      record {
        control = record {
          mode = m;
          numbers = rw n (stands_pop (open_at h ch) fs c.stack c.state.top k.numbers);
          sort = t;
          bodies = d;
          rows = r;
        };
        out = o;
        place = i;
        stack = refl;
        words = l;
      }

  group_kept : place ch ≡ in_group
      → Kept (at (after (closed ch x)) fs) (from c true p)
      (config (complete c.state c.state.sort c.state.rows (c.state.top - 1)) c.stack c.words)
  group_kept e =
      closed_kept _ c.words refl (k.sort ∙ ap (λ (i : Place). sort_letter (place_makes i (sort x))) (sym e))
      (bodies_are in_group e)
      (rows_kept (length c.words) c.state.rows _ _ k.rows (closed_rows in_group 0 e refl ∙ omega linear))
      refl refl refl refl

  mark_kept : place ch ≡ in_mark → Kept (at (after (closed ch x)) fs) (from c true p) (close_mark c)
  unfolding close_mark
  mark_kept e =
      let same = row_length c.words c.state.rows 9 c.state.number 0 0 in
      closed_kept _ _ refl (ap (λ (i : Place). sort_letter (place_makes i (sort x))) (sym e)) (bodies_are in_mark e)
      (row_added c.words _ c.state.rows _ _ k.rows same (closed_rows in_mark 1 e refl ∙ omega linear)) refl
      refl refl same

  form_kept : (q : Place) (f : ℕ) → place ch ≡ q → f % 64 ≡ place_number h q
      → get_or makes (place_number h q) 0 ≡ sort_letter (place_makes q (sort x))
      → bodies_after (place_number h q) (deeper q (depth fs)) ≡ depth fs
      → length (form_rows q (counts x) (roots (stack_size fs) ch) (last (stack_size fs + chain_size ch) (size x))) ≡ 1
      → Kept (at (after (closed ch x)) fs) (from c true p) (close_form c f)
  unfolding close_form
  form_kept q f e n t d l =
      let s = c.state in
      let same = row_length c.words s.rows (form_kind (f % 64)) (first_part f) (second_part f) (s.rows - 1) in
      closed_kept _ _ refl
      (ap (λ (i : ℕ). get_or makes i 0) n ∙ t ∙ ap (λ (i : Place). sort_letter (place_makes i (sort x))) (sym e))
      (ap (λ (i : ℕ). bodies_after i s.bodies) n
      ∙ ap (λ (i : ℕ). bodies_after (place_number h q) i) (bodies_are q e) ∙ d)
      (row_added c.words _ s.rows _ _ k.rows same (closed_rows q 1 e l ∙ omega linear)) refl refl refl same

  -- ---- the next place of a form

  place_kept : (q r : Place) (s : State) (w : ℕ) (ws : List ℤ) → place ch ≡ q → place_after q ≡ some r
      → length fs < length c.stack
      → w % 64 ≡ place_number (place_takes r) r → s.mode ≡ 0 → s.bodies ≡ deeper r (depth fs)
      → s.rows ≡ counted_rows (length ws) (length (part_rows x (open_at h ch ∷ fs)) + cond (begins_body r) 1 0)
      → s.top ≡ top_after c.stack (c.state.top - 1) → s.out ≡ c.state.out → s.place ≡ c.state.place
      → length ws ≡ length c.words
      → Kept (advance (some r) ch x fs) (from c true p) (config s (put c.stack (c.state.top - 1) w) ws)
  unfolding depth
  place_kept q r s w ws e a l n m d rs t o i same =
      let f = open_at h ch in
      let g = open_at (place_takes r) (more ch x r) in
      record {
        control = record {
          mode = m;
          numbers = rw t (stands_next f g fs c.stack c.state.top w k.numbers l n);
          sort = tt;
          bodies = d;
          rows = rows_kept (length ws) s.rows _ _ rs
              (longer (part_rows x (f ∷ fs)) (advance_rows (some r) ch x fs) (cond (begins_body r) 1 0)
              (advance_writes (some r) h ch x fs (ap begins_body e ∙ next_no_body q r a)) (noted (begins_body r)));
        };
        out = o;
        place = i;
        stack = put_length c.stack (c.state.top - 1) w;
        words = same;
      }
    where
      noted : (b : Bool) → length (note_rows b (roots (stack_size fs) ch) (last (stack_size fs + chain_size ch) (size x)))
          ≡ cond b 1 0
      noted true = refl
      noted false = refl

  next_kept : (q r : Place) (f : ℕ) → place ch ≡ q → place_after q ≡ some r → length fs < length c.stack
      → (f % 64 + 1) % 64 ≡ place_number (place_takes r) r → begins_body r ≡ false
      → Kept (advance (some r) ch x fs) (from c true p) (next_place c f)
  unfolding next_place
  next_kept q r f e a l n b =
      place_kept q r _ (frame (f % 64 + 1) (second_part f) (c.state.rows - 1)) c.words e a l
      (frame_mod (f % 64 + 1) (second_part f) (c.state.rows - 1) ∙ n) refl
      (bodies_are q e ∙ ap (λ (t : Bool). cond t (suc (depth fs)) (depth fs)) (next_no_body q r a ∙ sym b))
      (rows_kept (length c.words) c.state.rows _ _ k.rows (rw b (omega linear))) refl refl refl refl

  body_kept : (f : ℕ) → place ch ≡ while_fall → length fs < length c.stack → depth fs < 65536
      → Kept (advance (some while_body) ch x fs) (from c true p) (open_body c f)
  unfolding open_body
  body_kept f e l d =
      let s = c.state in
      let same = row_length c.words s.rows 37 (second_part f) (s.rows - 1) 0 in
      let now : s.bodies ≡ depth fs = bodies_are while_fall e in
      place_kept while_fall while_body _ (frame 58 (first_part f) (rows_after c.words s.rows - 1)) _ e refl l
      (frame_mod 58 (first_part f) (rows_after c.words s.rows - 1)) refl (rw now (omega linear))
      (row_added c.words _ s.rows _ _ k.rows same (omega linear)) refl refl refl same

  -- ---- all places

  pub close_kept : (q : Place) (f : ℕ) → place ch ≡ q → f % 64 ≡ place_number h q → length fs < length c.stack
      → depth fs < 65536
      → Kept (advance (place_after q) ch x fs) (from c true p) (close c f)
  unfolding close makes
  close_kept in_group f e n l d = at_hole h n
    where
      at_hole : (i : Hole) → f % 64 ≡ place_number i in_group
          → Kept (at (after (closed ch x)) fs) (from c true p) (close c f)
      at_hole (only s) j = rw j (group_kept e)
      at_hole either j = rw j (group_kept e)
  close_kept in_mark f e n l d = rw n (mark_kept e)
  close_kept when_third f e n l d = rw n (form_kept when_third f e n refl refl refl)
  close_kept if_else f e n l d = rw n (form_kept if_else f e n refl refl refl)
  close_kept while_body f e n l d = rw n (form_kept while_body f e n refl (omega linear) refl)
  close_kept script_post f e n l d = rw n (form_kept script_post f e n refl refl refl)
  close_kept while_fall f e n l d = rw n (body_kept f e l d)
  close_kept when_first f e n l d = rw n (next_kept when_first when_second f e refl l (rw n) refl)
  close_kept when_second f e n l d = rw n (next_kept when_second when_third f e refl l (rw n) refl)
  close_kept if_guard f e n l d = rw n (next_kept if_guard if_then f e refl l (rw n) refl)
  close_kept if_then f e n l d = rw n (next_kept if_then if_else f e refl l (rw n) refl)
  close_kept while_guard f e n l d = rw n (next_kept while_guard while_keep f e refl l (rw n) refl)
  close_kept while_keep f e n l d = rw n (next_kept while_keep while_fall f e refl l (rw n) refl)
  close_kept script_pre f e n l d = rw n (next_kept script_pre script_body f e refl l (rw n) refl)
  close_kept script_body f e n l d = rw n (next_kept script_body script_post f e refl l (rw n) refl)
