-- The machine follows the reader of a text, token by token (`take_follows`): what that takes to a state the machine
-- takes to a configuration that holds the state, and what it refuses the machine refuses at the token's place.
-- Assumes nothing.
use Rattle.std.specs.Prelude.{ℕ, ◌<◌, ◌≡◌, refl, Bool, true, false, cond, List, [], ◌∷◌, eqb, length}
use Rattle.std.proofs.Common.{sym, ap, ◌∙◌, subst, arith as linear}
use Rattle.std.proofs.Math.Option.{none, some}
use Rattle.script.specs.Listing.{guarded}
use Rattle.grammar.specs.Sorts.{statement}
use Rattle.grammar.specs.Operators.{semicolon, connective, relation, operator}
use Rattle.grammar.specs.Tokens.{Token, Due, bracket_due, becomes_due}
use Rattle.grammar.specs.Grammar.{Phrase, place, sort}
use Rattle.grammar.specs.Text.{is_post, post}
use Rattle.grammar.specs.States.{prefix, infix_after, Frame, pending, open_at, Mode, operand, after as after-part, due as due-then, State, at}
use Rattle.grammar.specs.Automaton.{reduce, token_binds, is_due, step_at}
use Rattle.grammar.specs.Reader.{at_post as post-at, take as take-token}
use Rattle.grammar.specs.Ranges.{depth, flag, all_of}
use Rattle.grammar.specs.Numbers.{token_number, token_value}
use Rattle.grammar.specs.Contexts.{GoodStack, Reads}
use Rattle.grammar.specs.TextSound.{post_known, Came}
use Rattle.grammar.specs.Written.{stack_rows, Settled, apart_none}
use Rattle.grammar.specs.Adds.{no_constant}
use Rattle.parser.specs.Machine.{Config, config, due, at_post, expect, take_part, take_after, take}
use Rattle.parsing.specs.Encoding.{sort_letter, Control}
use Rattle.parsing.specs.DataTake.{reduced_move, step_move, given_up, post_move, take_move}
use Rattle.parsing.specs.FrameLetters.{top_number, prefix_apart, connective_apart, relation_apart, operator_apart, place_letters}
use Rattle.parsing.specs.TokenLetters.{post_number}
use Rattle.parsing.specs.DueLetters.{due_word_number, due_test}
use Rattle.parsing.specs.Stacks.{stands_top, stands_pop}
use Rattle.parsing.specs.Following.{from, Kept, Follows, went, stopped}
use Rattle.parsing.specs.FollowsBegin.{begin_follows}
use Rattle.parsing.specs.FollowsGoOn.{depth_low}
use Rattle.parsing.specs.FollowsAfter.{after_follows}

-- ---- a second word that is due

abbrev due_move : Config → Config
due_move c = config (due c.state 0 c.state.top) c.stack c.words

due_kept : (d : Due) (f : Frame) (fs : List Frame) (c : Config) (p : ℕ) → Control (at (due-then d f) fs) c
    → Kept (at operand (f ∷ fs)) (from c true p) (due_move c)
due_kept d f fs c p k =
    record {
      control = record { mode = refl; numbers = k.numbers; sort = tt; bodies = k.bodies; rows = k.rows };
      out = refl;
      place = refl;
      stack = refl;
      words = refl;
    }

due_refused : {m : Config} (c : Config) (n e p : ℕ) → eqb n e ≡ false → Follows none (from c true p) m (expect c n e p)
unfolding expect
due_refused c n e p q = rw q (stopped (record { mode = refl; place = refl }))

due_follows : (d : Due) (f : Frame) (fs : List Frame) (c : Config) (n e p : ℕ) (b : Bool)
    → Control (at (due-then d f) fs) c → eqb n e ≡ b
    → Follows (guarded b (some (at operand (f ∷ fs)))) (from c true p) (due_move c) (expect c n e p)
unfolding expect
due_follows d f fs c n e p true k q = rw q (went (due_kept d f fs c p k) (λ r. refl))
due_follows d f fs c n e p false k q = due_refused c n e p q

-- ---- post

-- no semicolon waits
no_post : {m : Config} (fs : List Frame) (c : Config) (p : ℕ) → Control (at operand fs) c
    → eqb (top_number fs) 34 ≡ false
    → Follows none (from c true p) m (at_post c p)
unfolding at_post
no_post fs c p k e =
    rw (ap (λ n. eqb n 34) (stands_top fs c.stack c.state.top k.numbers) ∙ e)
    (stopped (record { mode = refl; place = refl }))

-- the semicolon is given up
given_up_follows : (x : Phrase) (fs : List Frame) (c : Config) (p : ℕ)
    → GoodStack (pending (infix_after semicolon x) ∷ fs)
    → Control (at operand (pending (infix_after semicolon x) ∷ fs)) c → length fs < length c.stack
    → length fs < 65536
    → Follows (step_at (after-part x) fs post) (from c true p)
    (reduced_move (reduce (token_binds post) x fs) post (given_up c)) (at_post c p)
unfolding at_post GoodStack depth token_number stack_rows
given_up_follows x fs c p g k room small =
    let f = pending (infix_after semicolon x) in
    let s = c.state in
    let d = given_up c in
    let made : sort x ≡ statement = g.1.0.1 in
    let part : Control (at (after-part x) fs) d = record {
      mode = refl;
      numbers = stands_pop f fs c.stack s.top k.numbers;
      sort = ap sort_letter (sym made);
      bodies = k.bodies;
      rows = k.rows;
    } in
    rw (ap (λ n. eqb n 34) (stands_top (f ∷ fs) c.stack s.top k.numbers))
    (after_follows post x fs d p g.0 (apart_none fs x (no_constant x made)) part room small)

post_follows : (fs : List Frame) (c : Config) (p : ℕ) → GoodStack fs → Control (at operand fs) c
    → length fs < length c.stack
    → length fs < 65536 → Follows (post-at operand fs) (from c true p) (post_move operand fs c) (at_post c p)
post_follows [] c p g k room small = no_post [] c p k refl
post_follows (pending (prefix i) ∷ fs) c p g k room small = no_post (pending (prefix i) ∷ fs) c p k (prefix_apart i)
post_follows (pending (infix_after semicolon x) ∷ fs) c p g k room small =
    given_up_follows x fs c p g k (omega linear) (omega linear)
post_follows (pending (infix_after (connective o) x) ∷ fs) c p g k room small =
    no_post (pending (infix_after (connective o) x) ∷ fs) c p k (connective_apart o)
post_follows (pending (infix_after (relation o) x) ∷ fs) c p g k room small =
    no_post (pending (infix_after (relation o) x) ∷ fs) c p k (relation_apart o)
post_follows (pending (infix_after (operator o) x) ∷ fs) c p g k room small =
    no_post (pending (infix_after (operator o) x) ∷ fs) c p k (operator_apart o)
post_follows (open_at h ch ∷ fs) c p g k room small = no_post (open_at h ch ∷ fs) c p k (place_letters h (place ch)).3

-- ---- all tokens, by modes

abbrev Following : Bool → Token → Mode → List Frame → Config → ℕ → Type 0
Following b t m fs c p =
    Follows (cond b (post-at m fs) (step_at m fs t)) (from c (all_of (flag m fs t)) p)
    (cond b (post_move m fs c) (step_move m fs t c p))
    (take c (token_number t) (token_value t) p)

is_mode : (n : ℕ) {m i : ℕ} → m ≡ i → eqb m n ≡ eqb i n
is_mode n e = ap (λ k. eqb k n) e

operand_follows : (b : Bool) (t : Token) (fs : List Frame) (c : Config) (p : ℕ) → is_post t ≡ b → GoodStack fs
    → Control (at operand fs) c
    → length fs < length c.stack → length fs < 65536 → Following b t operand fs c p
unfolding take take_part token_number
operand_follows true t fs c p e g k room small =
    let here : Following true post operand fs c p = rw (is_mode 0 k.mode) (post_follows fs c p g k room small) in
    subst (λ (u : Token). Following true u operand fs c p) (sym (post_known t e)) here
operand_follows false t fs c p e g k room small =
    rw (is_mode 0 k.mode, post_number t, e) (begin_follows fs c g k t p room (omega (linear, depth_low fs)))

part_follows : (b : Bool) (t : Token) (x : Phrase) (fs : List Frame) (c : Config) (p : ℕ) → is_post t ≡ b
    → GoodStack fs
    → Settled (after-part x) fs → Control (at (after-part x) fs) c → length fs < length c.stack → length fs < 65536
    → Following b t (after-part x) fs c p
unfolding take take_after
part_follows true t x fs c p e g a k room small =
    rw (is_mode 0 k.mode, is_mode 1 k.mode, post_number t, e) (stopped (record { mode = refl; place = refl }))
part_follows false t x fs c p e g a k room small =
    rw (is_mode 0 k.mode, is_mode 1 k.mode, post_number t, e) (after_follows t x fs c p g a k room small)

-- post is never due
post_due : (d : Due) → is_due d post ≡ false
post_due bracket_due = refl
post_due becomes_due = refl

word_follows : (b : Bool) (t : Token) (d : Due) (f : Frame) (fs : List Frame) (c : Config) (p : ℕ) → is_post t ≡ b
    → Control (at (due-then d f) fs) c
    → Follows (cond b none (guarded (is_due d t) (some (at operand (f ∷ fs))))) (from c true p)
    (cond b c (due_move c)) (expect c (token_number t) (due_word_number d) p)
word_follows true t d f fs c p e k =
    due_refused c (token_number t) (due_word_number d) p
    (due_test d t ∙ ap (λ u. is_due d u) (post_known t e) ∙ post_due d)
word_follows false t d f fs c p e k =
    due_follows d f fs c (token_number t) (due_word_number d) p (is_due d t) k (due_test d t)

due_taken : (b : Bool) (t : Token) (d : Due) (f : Frame) (fs : List Frame) (c : Config) (p : ℕ) → is_post t ≡ b
    → Control (at (due-then d f) fs) c → Following b t (due-then d f) fs c p
unfolding take
due_taken b t bracket_due f fs c p e k =
    rw (is_mode 0 k.mode, is_mode 1 k.mode, is_mode 2 k.mode) (word_follows b t bracket_due f fs c p e k)
due_taken b t becomes_due f fs c p e k =
    rw (is_mode 0 k.mode, is_mode 1 k.mode, is_mode 2 k.mode, is_mode 3 k.mode)
    (word_follows b t becomes_due f fs c p e k)

mode_follows : (m : Mode) (fs : List Frame) (us : List Token) (c : Config) (t : Token) (p : ℕ) → Reads m fs us
    → Settled m fs
    → Control (at m fs) c → length fs < length c.stack → length fs < 65536
    → Following (is_post t) t m fs c p
mode_follows operand fs us c t p h a k room small = operand_follows (is_post t) t fs c p refl h.0 k room small
mode_follows (after-part x) fs us c t p h a k room small =
    part_follows (is_post t) t x fs c p refl h.stacked a k room small
mode_follows (due-then d f) fs us c t p h a k room small = due_taken (is_post t) t d f fs c p refl k

pub take_follows : (s : State) (ts : List Token) (c : Config) (t : Token) (p : ℕ) → Came s ts
    → Settled s.mode s.stack → Control s c
    → length s.stack < length c.stack → length s.stack < 65536
    → Follows (take-token s t) (from c (all_of (flag s.mode s.stack t)) p) (take_move s t c p)
    (take c (token_number t) (token_value t) p)
take_follows s ts c t p h a k room small =
    mode_follows s.mode s.stack h.through c t p h.reads a k room small
