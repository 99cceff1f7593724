-- The reader of a text reads every text that has a derivation, as that one (`text_read`), so each text has one
-- (`text_unique`). By the laws of the automaton; the semicolon before post is taken, and given up. Assumes nothing.
use Rattle.std.specs.Prelude.{◌≡◌, refl, List, [], ◌∷◌, ◌++◌, Bool, true, false, cond, leb}
use Rattle.std.proofs.Common.{sym, ap, ◌∙◌, arith as linear, le-leb}
use Rattle.std.proofs.Math.Option.{Option, some}
use Rattle.script.specs.Listing.{◌>>=◌, guarded}
use Rattle.theorems.specs.Options.{none_is_not, some_inj, held, went_on}
use Rattle.grammar.specs.Sorts.{sort-discrete, statement, same_sort, Hole, only, takes, begins}
use Rattle.grammar.specs.Operators.{semicolon}
use Rattle.grammar.specs.Forms.{next_place, group_form, mark_form, when_form, if_form, while_form, script_form}
use Rattle.grammar.specs.Tokens.{post_closer, by_closer, Token, infix_word}
use Rattle.grammar.specs.Grammar.{Phrase, Chain, begun, more, place, words, sort}
use Rattle.grammar.specs.Text.{is_post, post, text, Spells}
use Rattle.grammar.specs.States.{infix_after, Frame, pending, open_at, wants, holds, apply, hole, Mode, operand, after, due, State, at, start}
use Rattle.grammar.specs.Automaton.{Reduced, reduce, reduced, go_on, close, advance, step_at, step, run}
use Rattle.grammar.specs.Reader.{at_post, take, read}
use Rattle.grammar.specs.Tests.{false_is_not, same_is, same_sorts}
use Rattle.grammar.specs.LevelLaws.{loosest_wants}
use Rattle.grammar.specs.LaterPlaces.{ends_by_post, post_takes}
use Rattle.grammar.specs.Complete.{Below, chain_takes, read_whole}
use Rattle.grammar.specs.Contexts.{stack_words, GoodStack, Part, Reads}
use Rattle.grammar.specs.Reduces.{reduce_keeps, ReadsState}
use Rattle.grammar.specs.Sound.{lower, step_keeps}
use Rattle.grammar.specs.TextSound.{post_known}

-- ---- the semicolon before post is taken, and given up

-- a reduction by everything goes through one that leaves semicolons
reduce_split : (fs : List Frame) (x : Phrase) (r : Reduced) → reduce 0 x fs ≡ some r
    → (q : Reduced) × (reduce 1 x fs ≡ some q) × (reduce 0 q.got q.rest ≡ some r)
unfolding reduce
reduce_split [] x r e = (record { got = x; rest = [] }, refl, e)
reduce_split (open_at h c ∷ fs) x r e = (record { got = x; rest = open_at h c ∷ fs }, refl, e)
reduce_split (pending f ∷ fs) x r e =
    let h = held (same_sort (sort x) (wants f)) (reduce 0 (apply f x) fs) (rw (le-leb 0 (holds f) (omega linear)) at e) in
    at_test (leb 1 (holds f)) h (reduce_split fs (apply f x) r h.1)
  where
    at_test : (k : Bool) → (same_sort (sort x) (wants f) ≡ true) × (reduce 0 (apply f x) fs ≡ some r)
        → (q : Reduced) × (reduce 1 (apply f x) fs ≡ some q) × (reduce 0 q.got q.rest ≡ some r)
        → (q : Reduced) × (cond k (guarded (same_sort (sort x) (wants f)) (reduce 1 (apply f x) fs)) (reduced x (pending f ∷ fs)) ≡ some q)
        × (reduce 0 q.got q.rest ≡ some r)
    at_test true h d = (d.0, rw h.0 d.1, d.2)
    at_test false h d = (record { got = x; rest = pending f ∷ fs }, refl, e)

-- where post ends a place, that place takes statements
post_chain : (h : Hole) (c : Chain) → ends_by_post (place c) ≡ true → chain_takes h c ≡ only statement
post_chain h (begun group_form) e = false_is_not e
post_chain h (begun mark_form) e = false_is_not e
post_chain h (begun when_form) e = false_is_not e
post_chain h (begun if_form) e = false_is_not e
post_chain h (begun while_form) e = false_is_not e
post_chain h (begun script_form) e = false_is_not e
post_chain h (more c x q) e = post_takes q e

-- so a statement stands before it, where a statement may be
stands : (fs : List Frame) (x : Phrase) (vs : List Token) (r : Reduced) (s : State) → Part 1 x fs vs → Below fs 1 → reduce 0 x fs ≡ some r
    → close (by_closer post_closer) r.got r.rest ≡ some s → (sort x ≡ statement) × (begins (hole fs) statement ≡ true)
unfolding reduce GoodStack
stands [] x vs r s p b e k = none_is_not (ap (λ (q : Reduced). close (by_closer post_closer) q.got q.rest) (some_inj e) ∙ k)
stands (pending f ∷ fs) x vs r s p b e k =
    let h = held (same_sort (sort x) (wants f)) (reduce 0 (apply f x) fs) (rw (le-leb 0 (holds f) (omega linear)) at e) in
    let w = loosest_wants f b in
    (same_is sort-discrete (sort x) (wants f) h.0 ∙ w, rw w)
stands (open_at h c ∷ fs) x vs r s p b e k =
    let j = ap (λ (q : Reduced). close (by_closer post_closer) q.got q.rest) (some_inj e) ∙ k in
    let o : Option State = some (advance (next_place (place c)) c x fs) in
    let fit = held (takes h (sort x)) (guarded (ends_by_post (place c)) o) j in
    let end = held (ends_by_post (place c)) o fit.1 in
    let only_here : h ≡ only statement = p.stacked.1.1 ∙ post_chain (hole fs) c end.0 in
    (sym (same_is sort-discrete statement (sort x) (rw only_here at fit.0)), rw only_here)

post_passes : (m : Mode) (fs : List Frame) (vs : List Token) (s : State) → Reads m fs vs → step_at m fs post ≡ some s
    → (q : State) × (step_at m fs (infix_word semicolon) ≡ some q) × (at_post q.mode q.stack ≡ some s)
post_passes operand fs vs s h e = none_is_not e
post_passes (due d f) fs vs s h e = none_is_not e
post_passes (after x) fs vs s h e =
    let r = went_on (reduce 0 x fs) (go_on post) e in
    let d = reduce_split fs x r.0 r.1 in
    let y = d.0.got in
    let gs = d.0.rest in
    let l = reduce_keeps fs 1 x vs d.0 (lower 1 (omega linear) h) d.1 in
    let k = stands gs y vs r.0 s l.part l.stays d.2 r.2 in (
      at operand (pending (infix_after semicolon y) ∷ gs),
      ap (λ (o : Option Reduced). o >>= go_on (infix_word semicolon)) d.1 ∙ rw (same_sorts k.0, k.1),
      ap (λ (o : Option Reduced). o >>= go_on post) d.2 ∙ r.2,
    )

text_passes : (us : List Token) (s : State) (vs : List Token) (r : State) → ReadsState s vs → run s us ≡ some r → read s (text us) ≡ some r
unfolding run read text
text_passes [] s vs r h e = e
text_passes (u ∷ us) s vs r h e =
    let k = went_on (step s u) (λ q. run q us) e in
    let q = k.0 in
    at_test (is_post u) refl q k.1 (text_passes us q (vs ++ (u ∷ [])) r (step_keeps s.mode s.stack u vs q h k.1) k.2)
  where
    at_test : (b : Bool) → is_post u ≡ b → (q : State) → step s u ≡ some q → read q (text us) ≡ some r
        → read s (cond b (infix_word semicolon ∷ u ∷ []) (u ∷ []) ++ text us) ≡ some r
    at_test true i q j again =
        let known = post_known u i in
        let d = post_passes s.mode s.stack vs q h (rw known at j) in
        ap (λ (o : Option State). o >>= λ p. take p u >>= λ w. read w (text us)) d.1
        ∙ rw (i, d.2) again
    at_test false i q j again = rw (i, j) again

pub text_read : (x : Phrase) (ts : List Token) → Spells x ts → read start ts ≡ some (at (after x) [])
unfolding GoodStack stack_words
text_read x ts h =
    rw (← h.spelt) (text_passes (words x) start [] (at (after x) []) (tt, refl) (read_whole x h.good (same_sorts h.whole)))

pub text_unique : (x y : Phrase) (ts : List Token) → Spells x ts → Spells y ts → x ≡ y
text_unique x y ts d e =
    let p = ap (λ (s : State). s.mode) (some_inj (sym (text_read x ts d) ∙ text_read y ts e)) in
    cc
