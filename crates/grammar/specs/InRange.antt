-- The flags along a run are those of what was read (`text_flags`): each token adds its own flag to those of the
-- complete parts (`step_flags`). Assumes nothing.
use Rattle.std.specs.Prelude.{ℕ, ◌≤◌, ◌≡◌, refl, List, [], ◌∷◌, ◌++◌, Bool, true, false, cond}
use Rattle.std.proofs.Common.{sym, ap, ◌∙◌, append_assoc, append-nil, arith as linear}
use Rattle.std.proofs.Math.Option.{Option, none, some}
use Rattle.script.specs.Listing.{guarded}
use Rattle.theorems.specs.Options.{none_is_not, some_inj, held, went_on}
use Rattle.grammar.specs.Sorts.{Hole, takes, begins}
use Rattle.grammar.specs.Operators.{semicolon, connective, relation, operator, Infix, infix_makes, not_prefix, minus_prefix, assert_prefix, assign_prefix, tight}
use Rattle.grammar.specs.Forms.{Place, in_group, in_mark, when_first, when_second, when_third, if_guard, if_then, if_else, while_guard, while_keep, while_fall, while_body, script_pre, script_body, script_post, next_place}
use Rattle.grammar.specs.Tokens.{Token, Ending, ends, ending, same_ending, beginning}
use Rattle.grammar.specs.Grammar.{Phrase, Chain, place, words, sort}
use Rattle.grammar.specs.Text.{is_post, post, Spells}
use Rattle.grammar.specs.Counts.{begins_body}
use Rattle.grammar.specs.States.{prefix, infix_after, Frame, pending, open_at, hole, Mode, operand, after, due, State, at, start}
use Rattle.grammar.specs.Automaton.{reduce, token_binds, infix_at, go_on, shift, close, advance, is_due, step_at, step}
use Rattle.grammar.specs.Reader.{at_post, take, read}
use Rattle.grammar.specs.Ranges.{deeper, flags, chain_flags, depth, after_minus, flag, onward, read_flags}
use Rattle.grammar.specs.LevelLaws.{binds_tight}
use Rattle.grammar.specs.WordLaws.{begun_by}
use Rattle.grammar.specs.Complete.{Below}
use Rattle.grammar.specs.Contexts.{stack_words, GoodStack, Part, Reads}
use Rattle.grammar.specs.Reduces.{reduce_keeps}
use Rattle.grammar.specs.Sound.{lower}
use Rattle.grammar.specs.TextSound.{post_known, Came, came, before_semicolon, take_keeps}
use Rattle.grammar.specs.TextRead.{text_read}
use Rattle.grammar.specs.StateFlags.{stack_flags, part_flags, mode_flags, state_flags, reduce_flags, of_found, begin_flags}

-- ---- a token after a part

-- the next operator has taken the unary minus away
pub no_minus : (fs : List Frame) (n : ℕ) → n ≤ tight → Below fs n → after_minus fs ≡ false
no_minus [] n l b = refl
no_minus (pending (prefix not_prefix) ∷ fs) n l b = refl
no_minus (pending (prefix minus_prefix) ∷ fs) n l b = absurd (omega linear)
no_minus (pending (prefix assert_prefix) ∷ fs) n l b = refl
no_minus (pending (prefix (assign_prefix v)) ∷ fs) n l b = refl
no_minus (pending (infix_after o x) ∷ fs) n l b = refl
no_minus (open_at h c ∷ fs) n l b = refl

-- a body is the last part
pub next_no_body : (p q : Place) → next_place p ≡ some q → begins_body p ≡ false
next_no_body in_group q e = refl
next_no_body in_mark q e = refl
next_no_body when_first q e = refl
next_no_body when_second q e = refl
next_no_body when_third q e = refl
next_no_body if_guard q e = refl
next_no_body if_then q e = refl
next_no_body if_else q e = refl
next_no_body while_guard q e = refl
next_no_body while_keep q e = refl
next_no_body while_fall q e = refl
next_no_body while_body q e = none_is_not e
next_no_body script_pre q e = refl
next_no_body script_body q e = refl
next_no_body script_post q e = refl

advance_flags : (o : Option Place) (h : Hole) (c : Chain) (x : Phrase) (fs : List Frame) → next_place (place c) ≡ o
    → state_flags (advance o c x fs) ≡ part_flags x (open_at h c ∷ fs)
unfolding flags stack_flags depth
advance_flags none h c x fs e = sym (append_assoc (stack_flags fs) (chain_flags (depth fs) c) (flags (deeper (place c) (depth fs)) false x))
advance_flags (some q) h c x fs e =
    rw (next_no_body (place c) q e) (sym (append_assoc (stack_flags fs) (chain_flags (depth fs) c) (flags (depth fs) false x)))

close_flags : (e : Ending) (x : Phrase) (fs : List Frame) (s : State) → close e x fs ≡ some s → state_flags s ≡ part_flags x fs
close_flags e x [] s q = none_is_not q
close_flags e x (pending f ∷ fs) s q = none_is_not q
close_flags e x (open_at h c ∷ fs) s q =
    let r = advance (next_place (place c)) c x fs in
    let fit = held (takes h (sort x)) (guarded (same_ending e (ending (place c))) (some r)) q in
    of_found (advance_flags (next_place (place c)) h c x fs refl) (held (same_ending e (ending (place c))) (some r) fit.1).1

shift_flags : (o : Option Infix) (t : Token) (x : Phrase) (fs : List Frame) (s : State) → Below fs (token_binds t) → shift t o x fs ≡ some s
    → state_flags s ≡ part_flags x fs
unfolding stack_flags
shift_flags none t x fs s b e = let h = went_on (ends t) (λ d. close d x fs) e in close_flags h.0 x fs s h.2
shift_flags (some o) t x fs s b e =
    let q = at operand (pending (infix_after o x) ∷ fs) in
    of_found (ap (λ (m : Bool). stack_flags fs ++ flags (depth fs) m x) (sym (no_minus fs (token_binds t) (binds_tight t) b)))
    (held (begins (hole fs) (infix_makes o)) (some q) e).1

-- ---- steps

pub after_flags : (x : Phrase) (fs : List Frame) (t : Token) (ts : List Token) (s : State) → Part (token_binds t) x fs ts
    → step_at (after x) fs t ≡ some s → state_flags s ≡ part_flags x fs
after_flags x fs t ts s h e =
    let r = went_on (reduce (token_binds t) x fs) (go_on t) e in
    let l = reduce_keeps fs (token_binds t) x ts r.0 h r.1 in
    shift_flags (infix_at t (sort r.0.got)) t r.0.got r.0.rest s l.stays r.2 ∙ reduce_flags fs (token_binds t) x r.0 r.1

pub step_flags : (m : Mode) (fs : List Frame) (t : Token) (ts : List Token) (s : State) → Reads m fs ts → step_at m fs t ≡ some s
    → state_flags s ≡ mode_flags m fs ++ flag m fs t
step_flags operand fs t ts s h e = begin_flags (beginning t (hole fs)) t fs s (begun_by t (hole fs)) e
step_flags (after x) fs t ts s h e = after_flags x fs t ts s (lower (token_binds t) (binds_tight t) h) e ∙ sym (append-nil (part_flags x fs))
step_flags (due d f) fs t ts s h e =
    of_found (sym (append-nil (stack_flags (f ∷ fs)))) (held (is_due d t) (some (at operand (f ∷ fs))) e).1

-- a semicolon that is given up changes nothing
post_flags : (m : Mode) (fs : List Frame) (us : List Token) (s : State) → Reads m fs us → at_post m fs ≡ some s
    → state_flags s ≡ mode_flags m fs ++ flag m fs post
unfolding stack_flags GoodStack
post_flags operand [] us s h e = none_is_not e
post_flags operand (pending (prefix p) ∷ fs) us s h e = none_is_not e
post_flags operand (pending (infix_after semicolon x) ∷ fs) us s h e =
    let p = before_semicolon x fs h.0 in
    after_flags x fs post (stack_words fs ++ words x) s p e
    ∙ ap (λ (m : Bool). stack_flags fs ++ flags (depth fs) m x) (no_minus fs 1 (omega linear) h.0.1.1)
    ∙ sym (append-nil (stack_flags fs ++ flags (depth fs) false x))
post_flags operand (pending (infix_after (connective c) x) ∷ fs) us s h e = none_is_not e
post_flags operand (pending (infix_after (relation r) x) ∷ fs) us s h e = none_is_not e
post_flags operand (pending (infix_after (operator o) x) ∷ fs) us s h e = none_is_not e
post_flags operand (open_at i c ∷ fs) us s h e = none_is_not e
post_flags (after x) fs us s h e = none_is_not e
post_flags (due d f) fs us s h e = none_is_not e

take_flags : (s : State) (t : Token) (ts : List Token) (r : State) → Came s ts → take s t ≡ some r
    → state_flags r ≡ state_flags s ++ flag s.mode s.stack t
take_flags s t ts r h e = at_test (is_post t) refl e
  where
    at_test : (k : Bool) → is_post t ≡ k → cond k (at_post s.mode s.stack) (step s t) ≡ some r
        → state_flags r ≡ state_flags s ++ flag s.mode s.stack t
    at_test true i q = rw (post_known t i) (post_flags s.mode s.stack h.through r h.reads q)
    at_test false i q = step_flags s.mode s.stack t h.through r h.reads q

all_flags : (us : List Token) (s : State) (ts : List Token) (r : State) → Came s ts → read s us ≡ some r
    → state_flags r ≡ state_flags s ++ read_flags s us
unfolding read read_flags
all_flags [] s ts r h e = ap state_flags (sym (some_inj e)) ∙ sym (append-nil (state_flags s))
all_flags (t ∷ us) s ts r h e =
    let k = went_on (take s t) (λ q. read q us) e in
    let q = k.0 in
    let f = flag s.mode s.stack t in
    all_flags us q (ts ++ (t ∷ [])) r (take_keeps s t ts q h k.1) k.2
    ∙ ap (λ l. l ++ read_flags q us) (take_flags s t ts q h k.1)
    ∙ append_assoc (state_flags s) f (read_flags q us)
    ∙ ap (λ (o : Option State). state_flags s ++ (f ++ onward o (λ p. read_flags p us))) (sym k.1)

pub text_flags : (x : Phrase) (ts : List Token) → Spells x ts → flags 0 false x ≡ read_flags start ts
unfolding stack_flags depth
text_flags x ts h = all_flags ts start [] (at (after x) []) came (text_read x ts h)
