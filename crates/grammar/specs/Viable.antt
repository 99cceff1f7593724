-- What the automaton has taken begins some text (`viable`), and what it refuses begins none (`refused`). A state that
-- is reached is a derivation with a hole, so the first needs no word of the automaton: the hole is filled, and the form
-- around it is closed, from the inside out. Assumes nothing.
use Rattle.std.specs.Prelude.{◌≡◌, refl, List, [], ◌∷◌, ◌++◌, true}
use Rattle.std.proofs.Common.{sym, ap, ◌∙◌, subst, append_assoc, append-nil, arith as linear}
use Rattle.std.proofs.Math.Option.{Option, none, some}
use Rattle.script.specs.Listing.{◌>>=◌}
use Rattle.theorems.specs.Options.{none_is_not}
use Rattle.grammar.specs.Sorts.{sort-discrete, script, Hole, takes}
use Rattle.grammar.specs.Forms.{Place, place_takes, next_place}
use Rattle.grammar.specs.Tokens.{ending, ending_word, due_word, Token}
use Rattle.grammar.specs.Grammar.{Phrase, closed, Chain, more, place, words, chain_words, sort}
use Rattle.grammar.specs.States.{Frame, pending, open_at, wants, apply, hole, Mode, operand, after, due, State, start}
use Rattle.grammar.specs.Automaton.{step, run, advance}
use Rattle.grammar.specs.Tests.{same_is}
use Rattle.grammar.specs.LaterPlaces.{later, Later, later_is}
use Rattle.grammar.specs.Contexts.{stack_words, GoodStack, Part, Reads}
use Rattle.grammar.specs.Reduces.{taken, ReadsState}
use Rattle.grammar.specs.Sound.{lower, run_keeps, advance_keeps}
use Rattle.grammar.specs.Unique.{Derives, derived_read}
use Rattle.grammar.specs.Filling.{fill, fill_takes, filled, fitting}

-- the words begin a text
pub record Extends (ts : List Token) : Type 0 where
  pub more : List Token
  pub text : Phrase
  pub derives : Derives text (ts ++ more)

shorter : (ts us : List Token) → Extends (ts ++ us) → Extends ts
shorter ts us e = record { more = us ++ e.more; text = e.text; derives = rw (← append_assoc ts us e.more) e.derives }

-- ---- a form is closed

record Closed (fs : List Frame) (ts : List Token) : Type 0 where
  then : List Token
  of : Phrase
  part : Part 0 of fs (ts ++ then)

regrouped : (us vs ws ends whole : List Token) → (us ++ vs) ++ ws ≡ whole → us ++ (vs ++ (ws ++ ends)) ≡ whole ++ ends
regrouped us vs ws ends whole e = sym (append_assoc us vs (ws ++ ends)) ∙ sym (append_assoc (us ++ vs) ws ends) ∙ ap (λ l. l ++ ends) e

longer : (fs : List Frame) (ts us : List Token) → Closed fs (ts ++ us) → Closed fs ts
longer fs ts us k =
    record { then = us ++ k.then; of = k.of; part = rw (← append_assoc ts us k.then) k.part }

-- up to the next place, or past the last
advanced : (o : Option Place) (h : Hole) (c : Chain) (x : Phrase) (fs : List Frame) (ts : List Token) → next_place (place c) ≡ o
    → Part 0 x (open_at h c ∷ fs) ts → takes h (sort x) ≡ true
    → ReadsState (advance o c x fs) (ts ++ (ending_word (ending (place c)) ∷ []))
unfolding GoodStack stack_words
advanced o h c x fs ts n p t =
    let on = p.stacked.1 in
    let w = ending_word (ending (place c)) ∷ [] in
    advance_keeps o c x fs (ts ++ w) n p.stacked.0 on.0 p.good (rw on.1 at t) on.2
    (regrouped (stack_words fs) (chain_words c) (words x) w ts p.spelt)

close_form : (qs : List Place) (h : Hole) (c : Chain) (x : Phrase) (fs : List Frame) (ts : List Token) → Later (place c) qs
    → Part 0 x (open_at h c ∷ fs) ts → takes h (sort x) ≡ true → Closed fs ts
close_form [] h c x fs ts n p t =
    record { then = ending_word (ending (place c)) ∷ []; of = closed c x; part = lower 0 (omega linear) (advanced none h c x fs ts n p t) }
close_form (q ∷ qs) h c x fs ts n p t =
    let w = ending_word (ending (place c)) ∷ [] in
    let i = place_takes q in
    let d = more c x q in
    let r = advanced (some q) h c x fs ts n.0 p t in
    longer fs ts w (longer fs (ts ++ w) (words (fill i))
    (close_form qs i d (fill i) fs ((ts ++ w) ++ words (fill i)) (subst (λ l. Later q l) n.1 (later_is q))
    (filled (open_at i d ∷ fs) (ts ++ w) r.0 r.1) (fill_takes i)))

-- ---- a stack is closed

plug : (fs : List Frame) (x : Phrase) (ts : List Token) → Part 0 x fs ts → Extends ts
unfolding GoodStack stack_words
plug [] x ts p =
    record {
      more = [];
      text = x;
      derives = record { good = p.good; whole = sym (same_is sort-discrete script (sort x) p.fits); spelt = p.spelt ∙ sym (append-nil ts) };
    }
plug (pending f ∷ fs) x ts p =
    let k = fitting (pending f ∷ fs) x ts p in
    shorter ts k.then (plug fs (apply f k.of) (ts ++ k.then)
    (taken f fs 0 k.of (ts ++ k.then) k.part (omega linear) (sym (same_is sort-discrete (wants f) (sort k.of) k.taken_in))))
plug (open_at h c ∷ fs) x ts p =
    let k = fitting (open_at h c ∷ fs) x ts p in
    let us = ts ++ k.then in
    let j = close_form (later (place c)) h c k.of fs us (later_is (place c)) k.part k.taken_in in
    shorter ts k.then (shorter us j.then (plug fs j.of (us ++ j.then) j.part))

opened : (fs : List Frame) (ts : List Token) → GoodStack fs → stack_words fs ≡ ts → Extends ts
opened fs ts g e = let x = fill (hole fs) in shorter ts (words x) (plug fs x (ts ++ words x) (filled fs ts g e))

pub state_extends : (m : Mode) (fs : List Frame) (ts : List Token) → Reads m fs ts → Extends ts
state_extends operand fs ts h = opened fs ts h.0 h.1
state_extends (after x) fs ts h = plug fs x ts (lower 0 (omega linear) h)
state_extends (due d f) fs ts h = shorter ts (due_word d ∷ []) (opened (f ∷ fs) (ts ++ (due_word d ∷ [])) h.0 h.1)

pub viable : (ts : List Token) (s : State) → run start ts ≡ some s → Extends ts
unfolding GoodStack stack_words
viable ts s e = state_extends s.mode s.stack ts (run_keeps ts start [] s (tt, refl) e)

run_append : (ts us : List Token) (s : State) → run s (ts ++ us) ≡ (run s ts >>= λ r. run r us)
unfolding run
run_append [] us s = refl
run_append (t ∷ ts) us s = further (λ r. run_append ts us r) (step s t)
  where
    further : ((r : State) → run r (ts ++ us) ≡ (run r ts >>= λ q. run q us)) → (o : Option State) → (o >>= λ r. run r (ts ++ us)) ≡ ((o >>= λ r. run r ts) >>= λ r. run r us)
    further again none = refl
    further again (some r) = again r

pub refused : (ts : List Token) → run start ts ≡ none → Extends ts → ⊥
refused ts e x =
    let read = derived_read x.text (ts ++ x.more) x.derives in
    none_is_not (sym (run_append ts x.more start ∙ ap (λ (o : Option State). o >>= λ r. run r x.more) e) ∙ read)
