-- A token after a part that no operator takes before it: it is an operator itself, or ends the place on top, or is
-- refused, for the machine as for the automaton (`go_on_follows`). By the moves of `Closings`. Assumes nothing.
use Rattle.std.specs.Prelude.{ℕ, suc, ◌-◌, ◌%◌, ◌≤◌, ◌<◌, ◌≡◌, refl, Bool, true, false, cond, ◌&&◌, List, [], ◌∷◌, eqb, get_or}
use Rattle.std.proofs.Common.{ap, ◌∙◌, arith as linear}
use Rattle.std.proofs.Math.Option.{Option, none, some}
use Rattle.std.proofs.Math.ListN.{length}
use Rattle.script.specs.Listing.{◌>>=◌, guarded}
use Rattle.grammar.specs.Sorts.{same_sort, takes, begins}
use Rattle.grammar.specs.Operators.{Infix, infix_takes, infix_makes}
use Rattle.grammar.specs.Tokens.{Token, numeral, variable, truth_word, skip_word, not_word, assert_word, becomes, infix_word, form_word, closer_word, Ending, ending, same_ending, ends as ends_of}
use Rattle.grammar.specs.Grammar.{Phrase, place, sort}
use Rattle.grammar.specs.Counts.{begins_body}
use Rattle.grammar.specs.States.{infix_after, Frame, pending, open_at, hole as hole-of, operand, after as after-part, State, at}
use Rattle.grammar.specs.Automaton.{infix_at, close as close_at, shift}
use Rattle.grammar.specs.Ranges.{depth}
use Rattle.grammar.specs.Numbers.{infix_number}
use Rattle.grammar.specs.Contexts.{GoodStack}
use Rattle.grammar.specs.Written.{shift_writes}
use Rattle.parser.specs.Symbols.{ends}
use Rattle.parser.specs.Machine.{Config, config, refused, frame, top_frame, hole, maker, end_of, operand_sort, closing, fits, begins as begins_by, close, push_infix, go_on}
use Rattle.parsing.specs.Encoding.{sort_letter, hole_letter, Control}
use Rattle.parsing.specs.DataAfter.{shift_move}
use Rattle.parsing.specs.Letters.{swapped_letters, begins_letters, fits_letters, no_operand, ending_letter, swapped_ends, ends_nothing, no_ending}
use Rattle.parsing.specs.FrameLetters.{top_number, pending_end, place_letters}
use Rattle.parsing.specs.TokenLetters.{closing_letter, infix_letters, TokenLetters}
use Rattle.parsing.specs.DataStack.{put_length}
use Rattle.parsing.specs.Stacks.{hole_is, stands_top, stands_push, frame_mod}
use Rattle.parsing.specs.Counted.{rows_kept}
use Rattle.parsing.specs.Following.{Going, from, Kept, Refused, Follows, went, stopped, tested}
use Rattle.parsing.specs.Closings.{close_kept}

-- a body is a frame
pub depth_low : (fs : List Frame) → depth fs ≤ length fs
unfolding depth
depth_low [] = omega linear
depth_low (pending f ∷ fs) = omega (linear, depth_low fs)
depth_low (open_at h c ∷ fs) = at_test (begins_body (place c)) (depth_low fs)
  where
    at_test : (b : Bool) → depth fs ≤ length fs → cond b (suc (depth fs)) (depth fs) ≤ suc (length fs)
    at_test true l = omega linear
    at_test false l = omega linear

-- two tests, of which the machine asks the second first
both_tested : {o : Option State} {g : Going} {m c d : Config} (j k a b : Bool) → j ≡ b → k ≡ a → Follows o g m c
    → Refused g.here d
    → Follows (guarded a (guarded b o)) g m (cond (j && k) c d)
both_tested j k true true e f go stop = rw (e, f) go
both_tested j k true false e f go stop = rw e (stopped stop)
both_tested j k false true e f go stop = rw (e, f) (stopped stop)
both_tested j k false false e f go stop = rw e (stopped stop)

module _ (x : Phrase) (fs : List Frame) (c : Config) (p : ℕ) (g : GoodStack fs) (k : Control (at (after-part x) fs) c)
    (room : length fs < length c.stack) where
  top_is : top_frame c.stack c.state.top % 64 ≡ top_number fs
  top_is = stands_top fs c.stack c.state.top k.numbers

  hole_here : hole (top_frame c.stack c.state.top) ≡ hole_letter (hole-of fs)
  hole_here = hole_is fs c.stack c.state.top g k.numbers

  end_is : end_of (top_frame c.stack c.state.top) ≡ get_or ends (top_number fs) 0
  end_is = ap (λ (n : ℕ). get_or ends n 0) top_is

  -- ---- an operator

  infix_kept : (o : Infix) (n : ℕ) → n % 64 ≡ infix_number o
      → Kept (at operand (pending (infix_after o x) ∷ fs)) (from c true p) (push_infix c n)
  unfolding push_infix depth
  infix_kept o n e =
      let s = c.state in
      let f = pending (infix_after o x) in
      let w = frame n (s.rows - 1) 0 in
      record {
        control = record {
          mode = refl;
          numbers = stands_push f fs c.stack s.top w k.numbers room (frame_mod n (s.rows - 1) 0 ∙ e);
          sort = tt;
          bodies = k.bodies;
          rows = rows_kept (length c.words) s.rows _ _ k.rows (ap length (shift_writes o x fs));
        };
        out = refl;
        place = refl;
        stack = put_length c.stack s.top w;
        words = refl;
      }

  infix_follows : (o : Infix) (n : ℕ) → n ≡ infix_number o
      → Follows (shift (infix_word o) (some o) x fs) (from c true p) (push_infix c (infix_number o))
      (cond (begins_by (hole (top_frame c.stack c.state.top)) (maker n)) (push_infix c n)
      (config (refused c.state p) c.stack c.words))
  infix_follows o n e =
      let l = infix_letters o in
      tested _ (begins (hole-of fs) (infix_makes o))
      (ap (λ h. begins_by h (maker n)) hole_here ∙ ap (λ i. begins_by (hole_letter (hole-of fs)) (maker i)) e
      ∙ ap (λ i. begins_by (hole_letter (hole-of fs)) i) l.2 ∙ begins_letters (hole-of fs) (infix_makes o))
      (λ b. went (infix_kept o n (ap (λ (i : ℕ). i % 64) e ∙ l.4)) (λ r. ap (λ (i : ℕ). push_infix c i) e))
      (record { mode = refl; place = refl })

  -- ---- the end of a place

  abbrev ended : ℕ → Config
  ended n =
      let f = top_frame c.stack c.state.top in
      cond (eqb (end_of f) (closing n) && fits (hole f) c.state.sort) (close c f)
      (config (refused c.state p) c.stack c.words)

  nothing_ended : (n : ℕ) → eqb (get_or ends (top_number fs) 0) (closing n) ≡ false
      → Follows none (from c true p) (shift_move none c) (ended n)
  nothing_ended n e = rw (ap (λ l. eqb l (closing n)) end_is ∙ e) (stopped (record { mode = refl; place = refl }))

nothing_ends : (fs : List Frame) → eqb (get_or ends (top_number fs) 0) 45 ≡ false
unfolding ends
nothing_ends [] = refl
nothing_ends (pending f ∷ fs) = rw (pending_end f)
nothing_ends (open_at h c ∷ fs) = rw (place_letters h (place c)).1 (ends_nothing (ending (place c)))

close_follows : (e : Option Ending) (n : ℕ) (x : Phrase) (fs : List Frame) (c : Config) (p : ℕ) (g : GoodStack fs)
    (k : Control (at (after-part x) fs) c) (room : length fs < length c.stack) → length fs < 65536
    → closing n ≡ closing_letter e
    → Follows (e >>= λ d. close_at d x fs) (from c true p) (shift_move none c) (ended x fs c p g k room n)
unfolding ends
close_follows none n x fs c p g k room d q =
    nothing_ended x fs c p g k room n (ap (λ l. eqb (get_or ends (top_number fs) 0) l) q ∙ nothing_ends fs)
close_follows (some e) n x [] c p g k room d q =
    nothing_ended x [] c p g k room n (ap (λ l. eqb 95 l) q ∙ no_ending e)
close_follows (some e) n x (pending f ∷ fs) c p g k room d q =
    nothing_ended x (pending f ∷ fs) c p g k room n
    (ap (λ l. eqb l (closing n)) (pending_end f) ∙ ap (λ l. eqb 95 l) q ∙ no_ending e)
close_follows (some e) n x (open_at h ch ∷ fs) c p g k room d q =
    let gs = open_at h ch ∷ fs in
    let f = top_frame c.stack c.state.top in
    let top = top_is x gs c p g k room in
    let end = (place_letters h (place ch)).1 in
    both_tested _ _ (takes h (sort x)) (same_ending e (ending (place ch)))
    (ap (λ l. eqb l (closing n)) (end_is x gs c p g k room ∙ end)
    ∙ ap (λ l. eqb (ending_letter (ending (place ch))) l) q ∙ swapped_ends e (ending (place ch)))
    (ap (λ l. fits l c.state.sort) (hole_here x gs c p g k room) ∙ ap (λ l. fits (hole_letter h) l) k.sort
    ∙ fits_letters h (sort x))
    (went (close_kept h ch x fs c p k (place ch) f refl top (omega linear) (omega (linear, depth_low fs))) (λ r. refl))
    (record { mode = refl; place = refl })

-- ---- what the token is

-- where it is no operator
plain_follows : (t : Token) (n : ℕ) (x : Phrase) (fs : List Frame) (c : Config) (p : ℕ) (g : GoodStack fs)
    (k : Control (at (after-part x) fs) c) (room : length fs < length c.stack) → length fs < 65536
    → closing n ≡ closing_letter (ends_of t) → eqb (operand_sort n) c.state.sort ≡ false
    → Follows (shift t none x fs) (from c true p) (shift_move none c) (go_on c n p)
unfolding go_on
plain_follows t n x fs c p g k room d q e = rw e (close_follows (ends_of t) n x fs c p g k room d q)

other_follows : (t : Token) (n : ℕ) (x : Phrase) (fs : List Frame) (c : Config) (p : ℕ) (g : GoodStack fs)
    (k : Control (at (after-part x) fs) c) (room : length fs < length c.stack) → length fs < 65536
    → closing n ≡ closing_letter (ends_of t) → operand_sort n ≡ 95
    → Follows (shift t none x fs) (from c true p) (shift_move none c) (go_on c n p)
other_follows t n x fs c p g k room d q e =
    plain_follows t n x fs c p g k room d q
    (ap (λ i. eqb i c.state.sort) e ∙ ap (λ i. eqb 95 i) k.sort ∙ no_operand (sort x))

pub go_on_follows : (t : Token) (n : ℕ) (x : Phrase) (fs : List Frame) (c : Config) (p : ℕ) (g : GoodStack fs)
    (k : Control (at (after-part x) fs) c) (room : length fs < length c.stack) → length fs < 65536
    → TokenLetters t n
    → Follows (shift t (infix_at t (sort x)) x fs) (from c true p) (shift_move (infix_at t (sort x)) c) (go_on c n p)
unfolding go_on
go_on_follows (infix_word o) n x fs c p g k room d q =
    let l = infix_letters o in
    at_test (same_sort (sort x) (infix_takes o)) refl
    (ap (λ i. eqb (operand_sort i) c.state.sort) q.2.0 ∙ ap (λ i. eqb i c.state.sort) l.1
    ∙ ap (λ i. eqb (sort_letter (infix_takes o)) i) k.sort ∙ swapped_letters (sort x) (infix_takes o))
  where
    at_test : (b : Bool) → same_sort (sort x) (infix_takes o) ≡ b
        → eqb (operand_sort n) c.state.sort ≡ same_sort (sort x) (infix_takes o)
        → Follows (shift (infix_word o) (guarded b (some o)) x fs) (from c true p)
        (shift_move (guarded b (some o)) c) (go_on c n p)
    at_test true e i = rw (i ∙ e) (infix_follows x fs c p g k room o n q.2.0)
    at_test false e i = plain_follows (infix_word o) n x fs c p g k room d q.1 (i ∙ e)
go_on_follows (numeral v) n x fs c p g k room d q = other_follows (numeral v) n x fs c p g k room d q.1 q.2
go_on_follows (variable v) n x fs c p g k room d q = other_follows (variable v) n x fs c p g k room d q.1 q.2
go_on_follows (truth_word b) n x fs c p g k room d q = other_follows (truth_word b) n x fs c p g k room d q.1 q.2
go_on_follows skip_word n x fs c p g k room d q = other_follows skip_word n x fs c p g k room d q.1 q.2
go_on_follows not_word n x fs c p g k room d q = other_follows not_word n x fs c p g k room d q.1 q.2
go_on_follows assert_word n x fs c p g k room d q = other_follows assert_word n x fs c p g k room d q.1 q.2
go_on_follows becomes n x fs c p g k room d q = other_follows becomes n x fs c p g k room d q.1 q.2
go_on_follows (form_word f) n x fs c p g k room d q = other_follows (form_word f) n x fs c p g k room d q.1 q.2
go_on_follows (closer_word f) n x fs c p g k room d q =
    other_follows (closer_word f) n x fs c p g k room d q.1 q.2
