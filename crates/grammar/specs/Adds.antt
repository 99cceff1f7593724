-- Reading only adds rows: each token that is taken leaves the rows written before as they are (`step_adds`,
-- `run_adds`), and no unary minus ever waits for a numeral (`Settled`). Over a text's tokens too, where the semicolon
-- that `post` gives up has added none (`take_adds`, `read_adds`). From the laws of `Written`. Assumes nothing.
use Rattle.std.specs.Prelude.{ℕ, ◌≡◌, refl, List, [], ◌∷◌, ◌++◌, Bool, true, false, cond, leb}
use Rattle.std.proofs.Common.{sym, ap, ◌∙◌, subst, append_assoc, append-nil}
use Rattle.std.proofs.Math.Option.{Option, none, some}
use Rattle.script.specs.Listing.{guarded}
use Rattle.theorems.specs.Options.{none_is_not, some_inj, held, went_on}
use Rattle.grammar.specs.Sorts.{Sort, statement, takes, begins, same_sort}
use Rattle.grammar.specs.Operators.{Infix, semicolon, connective, relation, operator, infix_makes}
use Rattle.grammar.specs.Forms.{Place, next_place}
use Rattle.grammar.specs.Tokens.{constant_leaf, number_leaf, variable_leaf, truth_leaf, skip_leaf, Due, leaf_makes, opening_makes, opening_due, Ending, ending, same_ending, ends, Token, Beginning, leaf_beginning, opening_beginning, no_beginning, beginning}
use Rattle.grammar.specs.Grammar.{Phrase, leaf, before, between, closed, Chain, place, sort}
use Rattle.grammar.specs.Text.{is_post, post}
use Rattle.grammar.specs.Counts.{constant_in}
use Rattle.grammar.specs.Rows.{Quad}
use Rattle.grammar.specs.States.{prefix, infix_after, Frame, pending, open_at, wants, holds, apply, hole, Mode, operand, after, due, State, at}
use Rattle.grammar.specs.Automaton.{Reduced, reduce, reduced, token_binds, infix_at, go_on, shift, close, advance, leaf_on, begin, opening_frame, pushed, is_due, step_at, step, run}
use Rattle.grammar.specs.Reader.{at_post, take, read}
use Rattle.grammar.specs.Tests.{false_is_not}
use Rattle.grammar.specs.Contexts.{GoodStack, Reads}
use Rattle.grammar.specs.TextSound.{Came, take_keeps}
use Rattle.grammar.specs.InRange.{next_no_body}
use Rattle.grammar.specs.Written.{stack_rows, part_rows, written, written_in, pop_writes, leaf_writes, NoBody, advance_writes, shift_writes, push_writes, ApartOn, Settled, apart_none, apart_apply, apart_leaf, apart_advance}

-- rows, and some more
pub record Adds (rs qs : List Quad) : Type 0 where
  pub new : List Quad
  pub is : qs ≡ rs ++ new

adds_none : {rs qs : List Quad} → qs ≡ rs → Adds rs qs
adds_none {rs} e = record { new = []; is = e ∙ sym (append-nil rs) }

adds_then : {ps qs rs : List Quad} → Adds ps qs → Adds qs rs → Adds ps rs
adds_then {ps} {qs} {rs} a b =
    record { new = a.new ++ b.new; is = b.is ∙ ap (λ l. l ++ b.new) a.is ∙ append_assoc ps a.new b.new }

-- what a move leaves
pub record Moved (rs : List Quad) (s : State) : Type 0 where
  pub adds : Adds rs (written_in s)
  pub settled : Settled s.mode s.stack

record LeftOver (rs : List Quad) (r : Reduced) : Type 0 where
  adds : Adds rs (part_rows r.got r.rest)
  apart : ApartOn r.rest r.got

moved : {rs : List Quad} {r : State} (s : State) → Adds rs (written_in s) → Settled s.mode s.stack → some s ≡ some r → Moved rs r
moved {rs} s a h e = subst (λ (q : State). Moved rs q) (some_inj e) (record { adds = a; settled = h })

left_over : {rs : List Quad} {r : Reduced} (x : Phrase) (fs : List Frame) → Adds rs (part_rows x fs) → ApartOn fs x → reduced x fs ≡ some r
    → LeftOver rs r
left_over {rs} x fs a h e = subst (λ (q : Reduced). LeftOver rs q) (some_inj e) (record { adds = a; apart = h })

reduce_adds : (fs : List Frame) (n : ℕ) (x : Phrase) (r : Reduced) (rs : List Quad) → Adds rs (part_rows x fs) → ApartOn fs x
    → reduce n x fs ≡ some r → LeftOver rs r
unfolding reduce
reduce_adds [] n x r rs a h e = left_over x [] a h e
reduce_adds (open_at i c ∷ fs) n x r rs a h e = left_over x (open_at i c ∷ fs) a h e
reduce_adds (pending f ∷ fs) n x r rs a h e = at_test (leb n (holds f)) (λ b d. reduce_adds fs n (apply f x) r rs b (apart_apply f x fs) d) e
  where
    at_test : (k : Bool) → (Adds rs (part_rows (apply f x) fs) → reduce n (apply f x) fs ≡ some r → LeftOver rs r)
        → cond k (guarded (same_sort (sort x) (wants f)) (reduce n (apply f x) fs)) (reduced x (pending f ∷ fs)) ≡ some r → LeftOver rs r
    at_test true again q =
        again (adds_then a (record { new = _; is = pop_writes f x fs h })) (held (same_sort (sort x) (wants f)) (reduce n (apply f x) fs) q).1
    at_test false again q = left_over x (pending f ∷ fs) a h q

pub no_body : (o : Option Place) (c : Chain) → next_place (place c) ≡ o → NoBody o c
no_body none c e = tt
no_body (some q) c e = next_no_body (place c) q e

close_adds : (e : Ending) (x : Phrase) (fs : List Frame) (s : State) (rs : List Quad) → Adds rs (part_rows x fs) → close e x fs ≡ some s → Moved rs s
close_adds e x [] s rs a q = none_is_not q
close_adds e x (pending f ∷ fs) s rs a q = none_is_not q
close_adds e x (open_at h c ∷ fs) s rs a q =
    let o = next_place (place c) in
    let r = advance o c x fs in
    let fit = held (takes h (sort x)) (guarded (same_ending e (ending (place c))) (some r)) q in
    moved r (adds_then a (record { new = _; is = advance_writes o h c x fs (no_body o c refl) })) (apart_advance o c x fs)
    (held (same_ending e (ending (place c))) (some r) fit.1).1

shift_adds : (o : Option Infix) (t : Token) (x : Phrase) (fs : List Frame) (s : State) (rs : List Quad) → Adds rs (part_rows x fs)
    → shift t o x fs ≡ some s → Moved rs s
shift_adds none t x fs s rs a e = let h = went_on (ends t) (λ d. close d x fs) e in close_adds h.0 x fs s rs a h.2
shift_adds (some o) t x fs s rs a e =
    let q = at operand (pending (infix_after o x) ∷ fs) in
    moved q (adds_then a (adds_none (shift_writes o x fs))) tt (held (begins (hole fs) (infix_makes o)) (some q) e).1

settled_push : (d : Option Due) (f : Frame) (fs : List Frame) → Settled (pushed d f fs).mode (pushed d f fs).stack
settled_push none f fs = tt
settled_push (some d) f fs = tt

begin_adds : (b : Beginning) (fs : List Frame) (s : State) → begin b fs ≡ some s → Moved (stack_rows fs) s
begin_adds no_beginning fs s e = none_is_not e
begin_adds (leaf_beginning l) fs s e =
    moved (leaf_on l fs) (record { new = _; is = leaf_writes l fs }) (apart_leaf l fs) (held (begins (hole fs) (leaf_makes l)) (some (leaf_on l fs)) e).1
begin_adds (opening_beginning o) fs s e =
    let d = opening_due o in
    let f = opening_frame (hole fs) o in
    moved (pushed d f fs) (adds_none (push_writes d (hole fs) o fs)) (settled_push d f fs)
    (held (begins (hole fs) (opening_makes o)) (some (pushed d f fs)) e).1

pub step_adds : (m : Mode) (fs : List Frame) (t : Token) (s : State) → Settled m fs → step_at m fs t ≡ some s → Moved (written m fs) s
step_adds operand fs t s h e = begin_adds (beginning t (hole fs)) fs s e
step_adds (after x) fs t s h e =
    let r = went_on (reduce (token_binds t) x fs) (go_on t) e in
    let l = reduce_adds fs (token_binds t) x r.0 (part_rows x fs) (adds_none refl) h r.1 in
    shift_adds (infix_at t (sort r.0.got)) t r.0.got r.0.rest s (part_rows x fs) l.adds r.2
step_adds (due d f) fs t s h e = moved (at operand (f ∷ fs)) (adds_none refl) tt (held (is_due d t) (some (at operand (f ∷ fs))) e).1

pub run_adds : (ts : List Token) (s r : State) → Settled s.mode s.stack → run s ts ≡ some r
    → Adds (written_in s) (written_in r) × Settled r.mode r.stack
unfolding run
run_adds [] s r h e = subst (λ (q : State). Adds (written_in s) (written_in q) × Settled q.mode q.stack) (some_inj e) (adds_none refl, h)
run_adds (t ∷ ts) s r h e =
    let k = went_on (step s t) (λ q. run q ts) e in
    let m = step_adds s.mode s.stack t k.0 h k.1 in
    let n = run_adds ts k.0 r m.settled k.2 in
    (adds_then m.adds n.0, n.1)

-- ---- over the tokens of a text

pub no_constant : (x : Phrase) → sort x ≡ statement → constant_in x ≡ none
no_constant (leaf (constant_leaf n)) e = false_is_not (ap (λ (s : Sort). same_sort s statement) e)
no_constant (leaf (number_leaf n)) e = refl
no_constant (leaf (variable_leaf v)) e = refl
no_constant (leaf (truth_leaf b)) e = refl
no_constant (leaf skip_leaf) e = refl
no_constant (before p x) e = refl
no_constant (between o x y) e = refl
no_constant (closed c x) e = refl

post_adds : (m : Mode) (fs : List Frame) (us : List Token) (s : State) → Reads m fs us → at_post m fs ≡ some s → Moved (written m fs) s
unfolding stack_rows GoodStack
post_adds operand [] us s h e = none_is_not e
post_adds operand (pending (prefix p) ∷ fs) us s h e = none_is_not e
post_adds operand (pending (infix_after semicolon x) ∷ fs) us s h e =
    step_adds (after x) fs post s (apart_none fs x (no_constant x h.0.1.0.1)) e
post_adds operand (pending (infix_after (connective c) x) ∷ fs) us s h e = none_is_not e
post_adds operand (pending (infix_after (relation r) x) ∷ fs) us s h e = none_is_not e
post_adds operand (pending (infix_after (operator o) x) ∷ fs) us s h e = none_is_not e
post_adds operand (open_at i c ∷ fs) us s h e = none_is_not e
post_adds (after x) fs us s h e = none_is_not e
post_adds (due d f) fs us s h e = none_is_not e

pub take_adds : (s : State) (t : Token) (ts : List Token) (r : State) → Came s ts → Settled s.mode s.stack → take s t ≡ some r
    → Moved (written_in s) r
take_adds s t ts r h k e = at_test (is_post t) e
  where
    at_test : (b : Bool) → cond b (at_post s.mode s.stack) (step s t) ≡ some r → Moved (written_in s) r
    at_test true q = post_adds s.mode s.stack h.through r h.reads q
    at_test false q = step_adds s.mode s.stack t r k q

pub read_adds : (us : List Token) (s : State) (ts : List Token) (r : State) → Came s ts → Settled s.mode s.stack → read s us ≡ some r
    → Moved (written_in s) r
unfolding read
read_adds [] s ts r h k e = moved s (adds_none refl) k e
read_adds (t ∷ us) s ts r h k e =
    let w = went_on (take s t) (λ q. read q us) e in
    let m = take_adds s t ts w.0 h k w.1 in
    let n = read_adds us w.0 (ts ++ (t ∷ [])) r (take_keeps s t ts w.0 h w.1) m.settled w.2 in
    record { adds = adds_then m.adds n.adds; settled = n.settled }
