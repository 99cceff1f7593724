-- A token opens one body of a loop at most (`opens_one`), whatever it is and wherever it is taken. Assumes nothing.
use Rattle.std.specs.Prelude.{ℕ, suc, ◌≤◌, ◌≡◌, List, [], ◌∷◌, Bool, true, false, cond, leb}
use Rattle.std.proofs.Common.{sym, ap, subst, arith as linear}
use Rattle.std.proofs.Math.Option.{Option, none, some}
use Rattle.script.specs.Listing.{guarded}
use Rattle.theorems.specs.Options.{none_is_not, some_inj, went_on, held}
use Rattle.grammar.specs.Sorts.{Hole, same_sort, takes, begins}
use Rattle.grammar.specs.Operators.{Infix, semicolon, connective, relation, operator, infix_makes, not_prefix, minus_prefix, assert_prefix, assign_prefix}
use Rattle.grammar.specs.Forms.{Place, next_place}
use Rattle.grammar.specs.Tokens.{Token, Leaf, constant_leaf, number_leaf, variable_leaf, truth_leaf, skip_leaf, leaf_makes, opening_makes, opening_due, Due, Ending, ends, ending, same_ending, Beginning, leaf_beginning, opening_beginning, no_beginning, beginning}
use Rattle.grammar.specs.Grammar.{Phrase, Chain, place, sort}
use Rattle.grammar.specs.Text.{is_post, post}
use Rattle.grammar.specs.Counts.{begins_body}
use Rattle.grammar.specs.States.{prefix, infix_after, Frame, pending, open_at, wants, holds, apply, hole, Mode, operand, after, due, State, at}
use Rattle.grammar.specs.Automaton.{Reduced, reduce, reduced, token_binds, infix_at, go_on, shift, close, advance, constant_on, leaf_on, begin, opening_frame, pushed, is_due, step_at, step}
use Rattle.grammar.specs.Reader.{at_post, take}
use Rattle.grammar.specs.Ranges.{deeper, depth}

abbrev pub open_bodies : State → ℕ
open_bodies s = depth s.stack

deeper_one : (p : Place) (d : ℕ) → (d ≤ deeper p d) × (deeper p d ≤ suc d)
deeper_one p d = at_test (begins_body p)
  where
    at_test : (b : Bool) → (d ≤ cond b (suc d) d) × (cond b (suc d) d ≤ suc d)
    at_test true = (omega linear, omega linear)
    at_test false = (omega linear, omega linear)

frame_one : (f : Frame) (fs : List Frame) → depth (f ∷ fs) ≤ suc (depth fs)
unfolding depth
frame_one (pending f) fs = omega linear
frame_one (open_at h c) fs = (deeper_one (place c) (depth fs)).1

reduce_depth : (fs : List Frame) (n : ℕ) (x : Phrase) (r : Reduced) → reduce n x fs ≡ some r
    → depth r.rest ≡ depth fs
unfolding reduce depth
reduce_depth [] n x r e = ap (λ (q : Reduced). depth q.rest) (sym (some_inj e))
reduce_depth (open_at h c ∷ fs) n x r e = ap (λ (q : Reduced). depth q.rest) (sym (some_inj e))
reduce_depth (pending f ∷ fs) n x r e = at_test (leb n (holds f)) (λ d. reduce_depth fs n (apply f x) r d) e
  where
    at_test : (k : Bool) → (reduce n (apply f x) fs ≡ some r → depth r.rest ≡ depth fs)
        → cond k (guarded (same_sort (sort x) (wants f)) (reduce n (apply f x) fs)) (reduced x (pending f ∷ fs)) ≡ some r
        → depth r.rest ≡ depth fs
    at_test true again q = again (held (same_sort (sort x) (wants f)) (reduce n (apply f x) fs) q).1
    at_test false again q = ap (λ (p : Reduced). depth p.rest) (sym (some_inj q))

-- what a state that was found has open
of_found : {s r : State} {d : ℕ} → open_bodies s ≤ d → some s ≡ some r → open_bodies r ≤ d
of_found {d = d} h e = subst (λ (q : State). open_bodies q ≤ d) (some_inj e) h

constant_depth : (n : ℕ) (fs : List Frame) → open_bodies (constant_on n fs) ≤ suc (depth fs)
unfolding depth
constant_depth n [] = omega linear
constant_depth n (pending (prefix not_prefix) ∷ fs) = omega linear
constant_depth n (pending (prefix minus_prefix) ∷ fs) = omega linear
constant_depth n (pending (prefix assert_prefix) ∷ fs) = omega linear
constant_depth n (pending (prefix (assign_prefix v)) ∷ fs) = omega linear
constant_depth n (pending (infix_after o x) ∷ fs) = omega linear
constant_depth n (open_at h c ∷ fs) = omega linear

leaf_depth : (l : Leaf) (fs : List Frame) → open_bodies (leaf_on l fs) ≤ suc (depth fs)
leaf_depth (constant_leaf n) fs = constant_depth n fs
leaf_depth (number_leaf n) fs = omega linear
leaf_depth (variable_leaf v) fs = omega linear
leaf_depth (truth_leaf b) fs = omega linear
leaf_depth skip_leaf fs = omega linear

pushed_depth : (d : Option Due) (f : Frame) (fs : List Frame) → open_bodies (pushed d f fs) ≤ suc (depth fs)
pushed_depth none f fs = frame_one f fs
pushed_depth (some d) f fs = omega linear

begin_depth : (b : Beginning) (fs : List Frame) (r : State) → begin b fs ≡ some r → open_bodies r ≤ suc (depth fs)
begin_depth no_beginning fs r e = none_is_not e
begin_depth (leaf_beginning l) fs r e =
    of_found (leaf_depth l fs) (held (begins (hole fs) (leaf_makes l)) (some (leaf_on l fs)) e).1
begin_depth (opening_beginning o) fs r e =
    let s = pushed (opening_due o) (opening_frame (hole fs) o) fs in
    let less = pushed_depth (opening_due o) (opening_frame (hole fs) o) fs in
    of_found less (held (begins (hole fs) (opening_makes o)) (some s) e).1

advance_depth : (o : Option Place) (h : Hole) (c : Chain) (x : Phrase) (fs : List Frame)
    → open_bodies (advance o c x fs) ≤ suc (depth (open_at h c ∷ fs))
unfolding depth
advance_depth none h c x fs = let k = deeper_one (place c) (depth fs) in omega linear
advance_depth (some q) h c x fs =
    let k = deeper_one (place c) (depth fs) in
    let j = deeper_one q (depth fs) in
    omega linear

close_depth : (e : Ending) (x : Phrase) (fs : List Frame) (r : State) → close e x fs ≡ some r
    → open_bodies r ≤ suc (depth fs)
close_depth e x [] r q = none_is_not q
close_depth e x (pending f ∷ fs) r q = none_is_not q
close_depth e x (open_at h c ∷ fs) r q =
    let o : Option State = some (advance (next_place (place c)) c x fs) in
    let fit = held (takes h (sort x)) (guarded (same_ending e (ending (place c))) o) q in
    of_found (advance_depth (next_place (place c)) h c x fs) (held (same_ending e (ending (place c))) o fit.1).1

shift_depth : (t : Token) (o : Option Infix) (x : Phrase) (fs : List Frame) (r : State) → shift t o x fs ≡ some r
    → open_bodies r ≤ suc (depth fs)
unfolding depth
shift_depth t none x fs r e = let k = went_on (ends t) (λ d. close d x fs) e in close_depth k.0 x fs r k.2
shift_depth t (some o) x fs r e =
    let s = at operand (pending (infix_after o x) ∷ fs) in
    of_found {s = s} (omega linear) (held (begins (hole fs) (infix_makes o)) (some s) e).1

step_depth : (m : Mode) (fs : List Frame) (t : Token) (r : State) → step_at m fs t ≡ some r
    → open_bodies r ≤ suc (depth fs)
step_depth operand fs t r e = begin_depth (beginning t (hole fs)) fs r e
step_depth (after x) fs t r e =
    let k = went_on (reduce (token_binds t) x fs) (go_on t) e in
    let d = reduce_depth fs (token_binds t) x k.0 k.1 in
    let j = shift_depth t (infix_at t (sort k.0.got)) k.0.got k.0.rest r k.2 in
    omega linear
step_depth (due d f) fs t r e = of_found (frame_one f fs) (held (is_due d t) (some (at operand (f ∷ fs))) e).1

at_post_depth : (m : Mode) (fs : List Frame) (r : State) → at_post m fs ≡ some r → open_bodies r ≤ suc (depth fs)
unfolding depth
at_post_depth operand [] r e = none_is_not e
at_post_depth operand (pending (prefix p) ∷ fs) r e = none_is_not e
at_post_depth operand (pending (infix_after semicolon x) ∷ fs) r e = step_depth (after x) fs post r e
at_post_depth operand (pending (infix_after (connective c) x) ∷ fs) r e = none_is_not e
at_post_depth operand (pending (infix_after (relation q) x) ∷ fs) r e = none_is_not e
at_post_depth operand (pending (infix_after (operator o) x) ∷ fs) r e = none_is_not e
at_post_depth operand (open_at h c ∷ fs) r e = none_is_not e
at_post_depth (after x) fs r e = none_is_not e
at_post_depth (due d f) fs r e = none_is_not e

pub opens_one : (s : State) (t : Token) (r : State) → take s t ≡ some r → open_bodies r ≤ suc (open_bodies s)
opens_one s t r e = at_test (is_post t) e
  where
    at_test : (k : Bool) → cond k (at_post s.mode s.stack) (step s t) ≡ some r
        → open_bodies r ≤ suc (open_bodies s)
    at_test true q = at_post_depth s.mode s.stack r q
    at_test false q = step_depth s.mode s.stack t r q
