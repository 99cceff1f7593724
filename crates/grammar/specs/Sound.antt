-- Soundness: whatever the automaton has read, its state is what those words come to (`run_keeps`); so a phrase that it
-- has read whole is good, is a script, and has these words (`sound`). Step by step. Assumes nothing.
use Rattle.std.specs.Prelude.{ℕ, suc, ◌≤◌, ◌≡◌, refl, List, [], ◌∷◌, ◌++◌, true}
use Rattle.std.proofs.Common.{sym, ap, ◌∙◌, subst, append_assoc, append-nil, arith as linear}
use Rattle.std.proofs.Math.Option.{Option, none, some}
use Rattle.script.specs.Listing.{guarded}
use Rattle.theorems.specs.Options.{none_is_not, some_inj, held, went_on}
use Rattle.grammar.specs.Sorts.{Sort, sort-discrete, script, expression, Hole, takes, begins}
use Rattle.grammar.specs.Operators.{Infix, infix_makes, infix_binds, prefix_level, prefix_makes, tight, not_prefix, minus_prefix, assert_prefix, assign_prefix}
use Rattle.grammar.specs.Forms.{Place, next_place, place_takes, place_makes}
use Rattle.grammar.specs.Tokens.{Ending, ending, ending_word, same_ending, closer-discrete, ending-discrete, ends, constant_leaf, number_leaf, variable_leaf, truth_leaf, skip_leaf, Token, infix_word, Leaf, leaf_makes, Opening, prefix_opening, form_opening, opening_makes, opening_due, Due, Beginning, opening_beginning, leaf_beginning, no_beginning, beginning}
use Rattle.grammar.specs.Grammar.{Phrase, leaf, Chain, begun, more, place, words, chain_words, due_words, opening_words, sort, Good, GoodChain}
use Rattle.grammar.specs.States.{prefix, infix_after, Frame, pending, open_at, hole, Mode, operand, after, due, State, at, start}
use Rattle.grammar.specs.Automaton.{Reduced, reduce, token_binds, go_on, shift, close, advance, constant_on, leaf_on, begin, opening_frame, pushed, infix_at, is_due, step_at, step, run}
use Rattle.grammar.specs.Tests.{same_is}
use Rattle.grammar.specs.HoleLaws.{form_takes_less, form_fits}
use Rattle.grammar.specs.LevelLaws.{binds_tight, prefix_fits}
use Rattle.grammar.specs.PlaceLaws.{later_makes, next_makes}
use Rattle.grammar.specs.WordLaws.{Begun, begun_by, infix_known, ends_known, due_known}
use Rattle.grammar.specs.Complete.{Below, chain_takes}
use Rattle.grammar.specs.Contexts.{frame_words, stack_words, GoodOn, GoodStack, Part, Reads}
use Rattle.grammar.specs.Reduces.{ReadsState, below_top, Left, taken, reduce_keeps}

-- ---- a token where a part begins

-- the state that was found reads the words
found : (s : State) (ts : List Token) {r : State} → ReadsState s ts → some s ≡ some r → ReadsState r ts
found s ts h e = subst (λ (q : State). ReadsState q ts) (some_inj e) h

good_opening : (o : Opening) (fs : List Frame) → GoodStack fs → begins (hole fs) (opening_makes o) ≡ true
    → GoodOn (opening_frame (hole fs) o) fs
unfolding GoodChain
good_opening (prefix_opening p) fs g e = (tt, prefix_below fs e, e)
  where
    prefix_below : (gs : List Frame) → begins (hole gs) (prefix_makes p) ≡ true → Below gs (suc (prefix_level p))
    prefix_below [] b = tt
    prefix_below (pending f ∷ gs) b = prefix_fits p f b
    prefix_below (open_at h c ∷ gs) b = tt
good_opening (form_opening f) fs g e = (tt, refl, e)

opening_spelt : (o : Opening) (h : Hole) → frame_words (opening_frame h o) ≡ opening_words o
unfolding chain_words
opening_spelt (prefix_opening p) h = refl
opening_spelt (form_opening f) h = refl

push_keeps : (d : Option Due) (f : Frame) (fs : List Frame) (ts : List Token) → GoodStack (f ∷ fs) → stack_words (f ∷ fs) ≡ ts ++ due_words d
    → ReadsState (pushed d f fs) ts
push_keeps none f fs ts g e = (g, e ∙ append-nil ts)
push_keeps (some d) f fs ts g e = (g, e)

constant_keeps : (n : ℕ) (fs : List Frame) (ts : List Token) → Part tight (leaf (constant_leaf n)) fs ts → ReadsState (constant_on n fs) ts
constant_keeps n [] ts p = p
constant_keeps n (pending (prefix not_prefix) ∷ fs) ts p = p
constant_keeps n (pending (prefix minus_prefix) ∷ fs) ts p = taken (prefix minus_prefix) fs tight (leaf (constant_leaf n)) ts p (omega linear) refl
constant_keeps n (pending (prefix assert_prefix) ∷ fs) ts p = p
constant_keeps n (pending (prefix (assign_prefix v)) ∷ fs) ts p = p
constant_keeps n (pending (infix_after o x) ∷ fs) ts p = p
constant_keeps n (open_at h c ∷ fs) ts p = p

leaf_keeps : (l : Leaf) (fs : List Frame) (ts : List Token) → Part tight (leaf l) fs ts → ReadsState (leaf_on l fs) ts
leaf_keeps (constant_leaf n) fs ts p = constant_keeps n fs ts p
leaf_keeps (number_leaf n) fs ts p = p
leaf_keeps (variable_leaf v) fs ts p = p
leaf_keeps (truth_leaf b) fs ts p = p
leaf_keeps skip_leaf fs ts p = p

begin_keeps : (b : Beginning) (t : Token) (fs : List Frame) (ts : List Token) (s : State) → Begun t b → GoodStack fs → stack_words fs ≡ ts
    → begin b fs ≡ some s → ReadsState s (ts ++ (t ∷ []))
unfolding words Good GoodStack stack_words
begin_keeps no_beginning t fs ts s b g w e = none_is_not e
begin_keeps (leaf_beginning l) t fs ts s b g w e =
    let h = held (begins (hole fs) (leaf_makes l)) (some (leaf_on l fs)) e in
    found (leaf_on l fs) (ts ++ (t ∷ [])) (leaf_keeps l fs (ts ++ (t ∷ []))
    (record { stacked = g; good = tt; below = below_top fs; high = omega linear; fits = h.0; spelt = rw (w, b) })) h.1
begin_keeps (opening_beginning o) t fs ts s b g w e =
    let f = opening_frame (hole fs) o in
    let d = opening_due o in
    let h = held (begins (hole fs) (opening_makes o)) (some (pushed d f fs)) e in
    found (pushed d f fs) (ts ++ (t ∷ [])) (push_keeps d f fs (ts ++ (t ∷ [])) (g, good_opening o fs g h.0)
    (ap (λ ws. stack_words fs ++ ws) (opening_spelt o (hole fs)) ∙ rw (w, b) (sym (append_assoc ts (t ∷ []) (due_words d))))) h.1

-- ---- a token after a part

pub chain_takes_less : (c : Chain) (h : Hole) (s : Sort) → begins h (place_makes (place c) expression) ≡ true → takes (chain_takes h c) s ≡ true
    → takes (place_takes (place c)) s ≡ true
chain_takes_less (begun f) h s b e = form_takes_less f h s b e
chain_takes_less (more c x q) h s b e = e

pub chain_fits : (c : Chain) (h : Hole) (s : Sort) → GoodChain c → begins h (place_makes (place c) expression) ≡ true
    → takes (chain_takes h c) s ≡ true → begins h (place_makes (place c) s) ≡ true
unfolding GoodChain
chain_fits (begun f) h s g b e = form_fits f h s b e
chain_fits (more c x q) h s g b e = rw (later_makes (place c) q s g.3) at b

pub advance_keeps : (o : Option Place) (c : Chain) (x : Phrase) (fs : List Frame) (ts : List Token) → next_place (place c) ≡ o
    → GoodStack fs → GoodChain c → Good x → takes (chain_takes (hole fs) c) (sort x) ≡ true
    → begins (hole fs) (place_makes (place c) expression) ≡ true
    → stack_words fs ++ (chain_words c ++ (words x ++ (ending_word (ending (place c)) ∷ []))) ≡ ts → ReadsState (advance o c x fs) ts
unfolding words chain_words Good GoodChain GoodStack stack_words
advance_keeps none c x fs ts n g gc gx t b w =
    record {
      stacked = g;
      good = (gc, gx, chain_takes_less c (hole fs) (sort x) b t, n);
      below = below_top fs;
      high = omega linear;
      fits = chain_fits c (hole fs) (sort x) gc b t;
      spelt = w;
    }
advance_keeps (some q) c x fs ts n g gc gx t b w =
    ((g, ((gc, gx, chain_takes_less c (hole fs) (sort x) b t, n), refl, rw (next_makes (place c) q expression n) b)), w)

close_keeps : (e : Ending) (x : Phrase) (fs : List Frame) (ts : List Token) (s : State) {n : ℕ} → Part n x fs ts → close e x fs ≡ some s
    → ReadsState s (ts ++ (ending_word e ∷ []))
unfolding GoodStack stack_words
close_keeps e x [] ts s p q = none_is_not q
close_keeps e x (pending f ∷ fs) ts s p q = none_is_not q
close_keeps e x (open_at h c ∷ fs) ts s p q =
    let on = p.stacked.1 in
    let r = advance (next_place (place c)) c x fs in
    let us = ts ++ (ending_word e ∷ []) in
    let fit = held (takes h (sort x)) (guarded (same_ending e (ending (place c))) (some r)) q in
    let end = held (same_ending e (ending (place c))) (some r) fit.1 in
    let ended : e ≡ ending (place c) = same_is (ending-discrete closer-discrete) e (ending (place c)) end.0 in
    found r us
    (advance_keeps (next_place (place c)) c x fs us refl p.stacked.0 on.0 p.good (rw on.1 at fit.0) on.2
    (rw (← ended) (regrouped (stack_words fs) (chain_words c) (words x) (ending_word e ∷ []) ts p.spelt))) end.1
  where
    regrouped : (us vs ws ends whole : List Token) → (us ++ vs) ++ ws ≡ whole → us ++ (vs ++ (ws ++ ends)) ≡ whole ++ ends
    regrouped us vs ws ends whole e = sym (append_assoc us vs (ws ++ ends)) ∙ sym (append_assoc (us ++ vs) ws ends) ∙ ap (λ l. l ++ ends) e

shift_keeps : (o : Option Infix) (t : Token) (r : Reduced) (ts : List Token) (s : State) → infix_at t (sort r.got) ≡ o
    → Left (token_binds t) ts r → shift t o r.got r.rest ≡ some s → ReadsState s (ts ++ (t ∷ []))
unfolding GoodStack stack_words
shift_keeps (some o) t r ts s k l e =
    let x = r.got in
    let fs = r.rest in
    let p = l.part in
    let q = at operand (pending (infix_after o x) ∷ fs) in
    let known = infix_known t (sort x) o k in
    let bound : token_binds t ≡ infix_binds o = ap token_binds known.0 in
    let h = held (begins (hole fs) (infix_makes o)) (some q) e in
    found q (ts ++ (t ∷ [])) (
      (p.stacked, ((p.good, known.1, rw bound at p.high), rw bound at l.stays, h.0)),
      rw known.0 (sym (append_assoc (stack_words fs) (words x) (infix_word o ∷ [])) ∙ ap (λ ws. ws ++ (infix_word o ∷ [])) p.spelt),
    ) h.1
shift_keeps none t r ts s k l e =
    let h = went_on (ends t) (λ d. close d r.got r.rest) e in
    rw (ends_known t h.0 h.1) (close_keeps h.0 r.got r.rest ts s l.part h.2)

-- ---- steps

pub after_keeps : (x : Phrase) (fs : List Frame) (t : Token) (ts : List Token) (s : State) → Part (token_binds t) x fs ts
    → step_at (after x) fs t ≡ some s → ReadsState s (ts ++ (t ∷ []))
after_keeps x fs t ts s p e =
    let r = went_on (reduce (token_binds t) x fs) (go_on t) e in
    shift_keeps (infix_at t (sort r.0.got)) t r.0 ts s refl (reduce_keeps fs (token_binds t) x ts r.0 p r.1) r.2

pub lower : (n : ℕ) {m : ℕ} {x : Phrase} {fs : List Frame} {ts : List Token} → n ≤ m → Part m x fs ts → Part n x fs ts
lower n l p =
    record { stacked = p.stacked; good = p.good; below = p.below; high = omega (linear, p.high); fits = p.fits; spelt = p.spelt }

pub step_keeps : (m : Mode) (fs : List Frame) (t : Token) (ts : List Token) (s : State) → Reads m fs ts → step_at m fs t ≡ some s
    → ReadsState s (ts ++ (t ∷ []))
step_keeps operand fs t ts s h e = begin_keeps (beginning t (hole fs)) t fs ts s (begun_by t (hole fs)) h.0 h.1 e
step_keeps (after x) fs t ts s h e = after_keeps x fs t ts s (lower (token_binds t) (binds_tight t) h) e
step_keeps (due d f) fs t ts s h e =
    let k = held (is_due d t) (some (at operand (f ∷ fs))) e in
    found (at operand (f ∷ fs)) (ts ++ (t ∷ [])) (h.0, h.1 ∙ ap (λ w. ts ++ (w ∷ [])) (sym (due_known d t k.0))) k.1

pub run_keeps : (us : List Token) (s : State) (ts : List Token) (r : State) → ReadsState s ts → run s us ≡ some r → ReadsState r (ts ++ us)
unfolding run
run_keeps [] s ts r h e = rw (append-nil ts) (found s ts h e)
run_keeps (t ∷ us) s ts r h e =
    let k = went_on (step s t) (λ q. run q us) e in
    rw (← append_assoc ts (t ∷ []) us)
    (run_keeps us k.0 (ts ++ (t ∷ [])) r (step_keeps s.mode s.stack t ts k.0 h k.1) k.2)

pub sound : (ts : List Token) (x : Phrase) → run start ts ≡ some (at (after x) []) → Good x × (sort x ≡ script) × (words x ≡ ts)
unfolding stack_words GoodStack
sound ts x e =
    let p = run_keeps ts start [] (at (after x) []) (tt, refl) e in
    (p.good, sym (same_is sort-discrete script (sort x) p.fits), p.spelt)
