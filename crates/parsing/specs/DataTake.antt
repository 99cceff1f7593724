-- What is known of words, frames and the mark's number is kept by every token that is taken (`take_data`): the
-- machine's move is the one that `take_move` names. That the machine makes this move is shown with `Control`. Assumes
-- nothing.
use Rattle.std.specs.Prelude.{ℕ, ◌+◌, ◌-◌, ◌<◌, ◌≡◌, Bool, true, false, cond, List, [], ◌∷◌, ◌++◌, length}
use Rattle.std.proofs.Common.{sym, ap, ◌∙◌, subst, arith as linear, length-append}
use Rattle.std.proofs.Math.Option.{Option, none, some}
use Rattle.theorems.specs.Options.{none_is_not, held}
use Rattle.grammar.specs.Sorts.{Sort, statement, number, same_sort}
use Rattle.grammar.specs.Operators.{semicolon, connective, relation, operator}
use Rattle.grammar.specs.Tokens.{Token, beginning}
use Rattle.grammar.specs.Grammar.{Phrase, words, sort}
use Rattle.grammar.specs.Text.{is_post, post}
use Rattle.grammar.specs.Rows.{Quad}
use Rattle.grammar.specs.States.{prefix, infix_after, Frame, pending, open_at, hole, Mode, operand, after, due, State, at}
use Rattle.grammar.specs.Automaton.{Reduced, reduce, token_binds, infix_at, is_due, step_at, step}
use Rattle.grammar.specs.Reader.{at_post, take}
use Rattle.grammar.specs.Ranges.{flags, depth, flag, All}
use Rattle.grammar.specs.Outcome.{has_room}
use Rattle.grammar.specs.LevelLaws.{binds_tight}
use Rattle.grammar.specs.WordLaws.{begun_by}
use Rattle.grammar.specs.Contexts.{stack_words, GoodStack, Part, Reads}
use Rattle.grammar.specs.Sound.{lower}
use Rattle.grammar.specs.TextSound.{Came, before_semicolon}
use Rattle.grammar.specs.StateFlags.{stack_flags, mode_flags, state_flags, part_flags}
use Rattle.grammar.specs.InRange.{after_flags, no_minus}
use Rattle.grammar.specs.Written.{written, written_in, Settled, apart_none, shift_writes}
use Rattle.grammar.specs.Adds.{Adds, step_adds, take_adds, no_constant}
use Rattle.parser.specs.Machine.{full, Config, config, complete, S, due as machine-due}
use Rattle.parsing.specs.Encoding.{sort_letter, Control, Data}
use Rattle.parsing.specs.DataRows.{room_for_less}
use Rattle.parsing.specs.DataOpen.{due_data}
use Rattle.parsing.specs.DataAfter.{AfterData, reduced_config, shift_move, after_data, found_data}
use Rattle.parsing.specs.DataBegin.{begin_move, begun_range, begin_data, given_up_data}
use Rattle.parsing.specs.Stacks.{hole_is}

-- ---- the moves

abbrev pub reduced_move : Option Reduced → Token → Config → Config
reduced_move none t c = c
reduced_move (some r) t c = shift_move (infix_at t (sort r.got)) (reduced_config c (98 + token_binds t))

abbrev pub step_move : Mode → List Frame → Token → Config → ℕ → Config
step_move operand fs t c p = begin_move (beginning t (hole fs)) fs c p
step_move (after x) fs t c p = reduced_move (reduce (token_binds t) x fs) t c
step_move (due d f) fs t c p = config (machine-due c.state 0 c.state.top) c.stack c.words

abbrev pub given_up : Config → Config
given_up c = config (complete c.state S c.state.rows (c.state.top - 1)) c.stack c.words

abbrev pub post_move : Mode → List Frame → Config → Config
post_move operand [] c = c
post_move operand (pending (prefix p) ∷ fs) c = c
post_move operand (pending (infix_after o x) ∷ fs) c = reduced_move (reduce (token_binds post) x fs) post (given_up c)
post_move operand (open_at h i ∷ fs) c = c
post_move (after x) fs c = c
post_move (due d f) fs c = c

abbrev pub take_move : State → Token → Config → ℕ → Config
take_move s t c p = cond (is_post t) (post_move s.mode s.stack c) (step_move s.mode s.stack t c p)

-- ---- rows are counted where they have room

pub counted_is : {s : State} {c : Config} → Control s c → has_room (length c.words) (length (written_in s)) ≡ true
    → c.state.rows ≡ length (written_in s)
counted_is {s} {c} k room = k.rows ∙ ap (λ (b : Bool). cond b (length (written_in s)) full) room

pub room_before : {qs rs : List Quad} (n : ℕ) → Adds qs rs → has_room n (length rs) ≡ true
    → has_room n (length qs) ≡ true
room_before {qs} {rs} n a room =
    room_for_less n (length qs) (length rs) (omega (linear, ap length a.is, length-append qs a.new)) room

-- ---- a token but post

after_moved : (x : Phrase) (fs : List Frame) (t : Token) (ts : List Token) (s : State) (c : Config)
    → Part (token_binds t) x fs ts
    → AfterData x fs c → length fs < length c.stack → step_at (after x) fs t ≡ some s
    → has_room (length c.words) (length (written_in s)) ≡ true
    → Data s (reduced_move (reduce (token_binds t) x fs) t c)
after_moved x fs t ts s c p a l e room =
    let k = after_data x fs t ts s c p a l e room in
    subst (λ (o : Option Reduced). Data s (reduced_move o t c)) (sym k.reduces) k.moved

pub step_data : (m : Mode) (fs : List Frame) (t : Token) (ts : List Token) (s : State) (c : Config) (p : ℕ)
    → Reads m fs ts → Settled m fs
    → All (mode_flags m fs) → All (flag m fs t) → length fs < length c.stack → Control (at m fs) c → Data (at m fs) c
    → step_at m fs t ≡ some s → has_room (length c.words) (length (written_in s)) ≡ true
    → Data s (step_move m fs t c p)
step_data operand fs t ts s c p h z a g l k d e room =
    let b = beginning t (hole fs) in
    let counted = counted_is k (room_before (length c.words) (step_adds operand fs t s z e).adds room) in
    begin_data fs c d p b s counted k.bodies l (hole_is fs c.stack c.state.top h.0 k.numbers)
    (begun_range b t fs s (begun_by t (hole fs)) e g) e room
step_data (after x) fs t ts s c p h z a g l k d e room =
    let counted = counted_is k (room_before (length c.words) (step_adds (after x) fs t s z e).adds room) in
    after_moved x fs t ts s c (lower (token_binds t) (binds_tight t) h)
    (record { holding = d; sorted = k.sort; counted = counted; ranges = a; apart = z }) l e room
step_data (due u f) fs t ts s c p h z a g l k d e room =
    found_data (due_data u f fs c d) (held (is_due u t) (some (at operand (f ∷ fs))) e).1

-- ---- post

-- the part before the semicolon that is given up has its numbers in range
plain_ranges : (x : Phrase) (fs : List Frame) → GoodStack (pending (infix_after semicolon x) ∷ fs)
    → All (stack_flags (pending (infix_after semicolon x) ∷ fs)) → All (part_flags x fs)
unfolding stack_flags GoodStack
plain_ranges x fs g a =
    subst (λ (b : Bool). All (stack_flags fs ++ flags (depth fs) b x)) (sym (no_minus fs 1 (omega linear) g.1.1)) a

pub post_ranges : (m : Mode) (fs : List Frame) (us : List Token) (s : State) → Reads m fs us → All (mode_flags m fs)
    → at_post m fs ≡ some s → All (state_flags s)
post_ranges operand [] us s h a e = none_is_not e
post_ranges operand (pending (prefix p) ∷ fs) us s h a e = none_is_not e
post_ranges operand (pending (infix_after semicolon x) ∷ fs) us s h a e =
    subst All (sym (after_flags x fs post (stack_words fs ++ words x) s (before_semicolon x fs h.0) e))
    (plain_ranges x fs h.0 a)
post_ranges operand (pending (infix_after (connective o) x) ∷ fs) us s h a e = none_is_not e
post_ranges operand (pending (infix_after (relation o) x) ∷ fs) us s h a e = none_is_not e
post_ranges operand (pending (infix_after (operator o) x) ∷ fs) us s h a e = none_is_not e
post_ranges operand (open_at i k ∷ fs) us s h a e = none_is_not e
post_ranges (after x) fs us s h a e = none_is_not e
post_ranges (due u f) fs us s h a e = none_is_not e

pub post_data : (m : Mode) (fs : List Frame) (us : List Token) (s : State) (c : Config) → Reads m fs us
    → All (mode_flags m fs)
    → length fs < length c.stack → c.state.rows ≡ length (written m fs) → Data (at m fs) c → at_post m fs ≡ some s
    → has_room (length c.words) (length (written_in s)) ≡ true → Data s (post_move m fs c)
unfolding GoodStack
post_data operand [] us s c h a l r d e room = none_is_not e
post_data operand (pending (prefix p) ∷ fs) us s c h a l r d e room = none_is_not e
post_data operand (pending (infix_after semicolon x) ∷ fs) us s c h a l r d e room =
    let is : sort x ≡ statement = h.0.1.0.1 in
    let n : same_sort (sort x) number ≡ false = ap (λ (u : Sort). same_sort u number) is in
    after_moved x fs post (stack_words fs ++ words x) s (given_up c) (before_semicolon x fs h.0)
    (record {
      holding = given_up_data semicolon x fs c d n;
      sorted = ap sort_letter (sym is);
      counted = r ∙ ap length (shift_writes semicolon x fs);
      ranges = plain_ranges x fs h.0 a;
      apart = apart_none fs x (no_constant x is);
    }) (omega linear) e room
post_data operand (pending (infix_after (connective o) x) ∷ fs) us s c h a l r d e room = none_is_not e
post_data operand (pending (infix_after (relation o) x) ∷ fs) us s c h a l r d e room = none_is_not e
post_data operand (pending (infix_after (operator o) x) ∷ fs) us s c h a l r d e room = none_is_not e
post_data operand (open_at i k ∷ fs) us s c h a l r d e room = none_is_not e
post_data (after x) fs us s c h a l r d e room = none_is_not e
post_data (due u f) fs us s c h a l r d e room = none_is_not e

-- ---- any token

pub take_data : (s : State) (t : Token) (ts : List Token) (r : State) (c : Config) (p : ℕ) → Came s ts
    → Settled s.mode s.stack
    → All (state_flags s) → All (flag s.mode s.stack t) → length s.stack < length c.stack → Control s c
    → Data s c
    → take s t ≡ some r → has_room (length c.words) (length (written_in r)) ≡ true → Data r (take_move s t c p)
take_data s t ts r c p h z a g l k d e room =
    at_test (is_post t) (counted_is k (room_before (length c.words) (take_adds s t ts r h z e).adds room)) e
  where
    at_test : (b : Bool) → c.state.rows ≡ length (written_in s)
        → cond b (at_post s.mode s.stack) (step s t) ≡ some r
        → Data r (cond b (post_move s.mode s.stack c) (step_move s.mode s.stack t c p))
    at_test true i q = post_data s.mode s.stack h.through r c h.reads a l i d q room
    at_test false i q = step_data s.mode s.stack t h.through r c p h.reads z a g l k d q room
