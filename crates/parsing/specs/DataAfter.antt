-- A token after a part: operators take it (`after_reduced`), and then an infix operator is pushed or a place ends
-- (`shift_data`); both together in `after_data`. The machine does the same moves (`shift_move`); that it chooses them
-- alike is another matter. Assumes nothing.
use Rattle.std.specs.Prelude.{ℕ, ◌+◌, ◌≤◌, ◌<◌, ◌≡◌, refl, Bool, true, false, cond, List, [], ◌∷◌, leb, length}
use Rattle.std.proofs.Common.{sym, ap, ◌∙◌, subst, arith as linear, length-append}
use Rattle.std.proofs.Math.Option.{Option, none, some}
use Rattle.script.specs.Listing.{guarded}
use Rattle.theorems.specs.Options.{none_is_not, some_inj, held, went_on}
use Rattle.grammar.specs.Sorts.{same_sort, takes, begins}
use Rattle.grammar.specs.Operators.{Infix, infix_makes}
use Rattle.grammar.specs.Forms.{place_takes, next_place}
use Rattle.grammar.specs.Tokens.{Token, Ending, ends, ending, same_ending}
use Rattle.grammar.specs.Grammar.{Phrase, place, sort}
use Rattle.grammar.specs.States.{infix_after, Frame, pending, open_at, wants, holds, apply, hole, operand, after, State, at}
use Rattle.grammar.specs.Automaton.{Reduced, reduce, reduced, token_binds, infix_at, advance, close, shift, go_on, step_at}
use Rattle.grammar.specs.Ranges.{All}
use Rattle.grammar.specs.Outcome.{has_room}
use Rattle.grammar.specs.Numbers.{infix_number}
use Rattle.grammar.specs.Contexts.{GoodStack, Part}
use Rattle.grammar.specs.Reduces.{reduce_keeps}
use Rattle.grammar.specs.Sound.{chain_takes_less}
use Rattle.grammar.specs.StateFlags.{part_flags}
use Rattle.grammar.specs.Written.{part_rows, written_in, ApartOn, advance_rows, advance_writes, shift_writes}
use Rattle.grammar.specs.Adds.{no_body}
use Rattle.parser.specs.Machine.{Config, config, complete, top_frame, reduce as machine-reduce, push_infix, close as machine-close}
use Rattle.parsing.specs.Encoding.{sort_letter, Data}
use Rattle.parsing.specs.DataRows.{room_for_less}
use Rattle.parsing.specs.DataStack.{top_counts}
use Rattle.parsing.specs.DataPart.{PartData}
use Rattle.parsing.specs.DataReduce.{reduce_data}
use Rattle.parsing.specs.DataOpen.{infix_data}
use Rattle.parsing.specs.DataClose.{close_data}

-- what is known where a part is complete
pub record AfterData (x : Phrase) (fs : List Frame) (m : Config) : Type 0 where
  pub holding : Data (at (after x) fs) m
  pub sorted : m.state.sort ≡ sort_letter (sort x)
  pub counted : m.state.rows ≡ length (part_rows x fs)
  pub ranges : All (part_flags x fs)
  pub apart : ApartOn fs x

-- ---- operators take it

-- the machine after its `reduce`
abbrev pub reduced_config : Config → ℕ → Config
reduced_config m b =
    let r = machine-reduce m.stack b m.state.top m.state.sort m.state.rows m.words in
    config (complete m.state r.sort r.rows r.top) m.stack r.words

pub record ReducedData (r : Reduced) (m e : Config) : Type 0 where
  pub left : AfterData r.got r.rest e
  pub lent : length e.words ≡ length m.words

pub after_reduced : (x : Phrase) (fs : List Frame) (n : ℕ) (r : Reduced) (m : Config) → AfterData x fs m
    → reduce n x fs ≡ some r
    → has_room (length m.words) (length (part_rows r.got r.rest)) ≡ true
    → ReducedData r m (reduced_config m (98 + n))
after_reduced x fs n r m a e room =
    let p : PartData m.stack m.state.number x fs m.state.top m.state.rows m.words = record {
      frames = a.holding.frames;
      counted = a.counted;
      words_held = a.holding.words;
      ranges = a.ranges;
      apart = a.apart;
      count = a.holding.count;
    } in
    let l = reduce_data fs n x r m.stack m.state.number m.state.top m.state.rows m.words p e room in
    let is : ReducedData r m (config (complete m.state _ _ _) m.stack _) = record {
      left = record {
        holding = record { words = l.part.words_held; frames = l.part.frames; count = l.part.count };
        sorted = l.sorted;
        counted = l.part.counted;
        ranges = l.part.ranges;
        apart = l.part.apart;
      };
      lent = l.lent;
    } in
    subst (λ (s : ℕ). ReducedData r m
    (let q = machine-reduce m.stack (98 + n) m.state.top s m.state.rows m.words in
    config (complete m.state q.sort q.rows q.top) m.stack q.words)) (sym a.sorted) is

reduce_shorter : (fs : List Frame) (n : ℕ) (x : Phrase) (r : Reduced) → reduce n x fs ≡ some r
    → length r.rest ≤ length fs
unfolding reduce
reduce_shorter [] n x r e = omega (linear, ap (λ (q : Reduced). length q.rest) (some_inj e))
reduce_shorter (open_at i c ∷ fs) n x r e = omega (linear, ap (λ (q : Reduced). length q.rest) (some_inj e))
reduce_shorter (pending f ∷ fs) n x r e = at_test (leb n (holds f)) (λ d. reduce_shorter fs n (apply f x) r d) e
  where
    at_test : (k : Bool) → (reduce n (apply f x) fs ≡ some r → length r.rest ≤ length fs)
        → cond k (guarded (same_sort (sort x) (wants f)) (reduce n (apply f x) fs))
        (reduced x (pending f ∷ fs)) ≡ some r
        → length r.rest ≤ length (pending f ∷ fs)
    at_test true again q =
        let l = again (held (same_sort (sort x) (wants f)) (reduce n (apply f x) fs) q).1 in
        omega linear
    at_test false again q = omega (linear, ap (λ (p : Reduced). length p.rest) (some_inj q))

-- ---- then an operator, or an end

-- the states that were found
pub found_data : {s t : State} {m : Config} → Data s m → some s ≡ some t → Data t m
found_data {s} {t} {m} d e = subst (λ (q : State). Data q m) (some_inj e) d

close_grows : (e : Ending) (x : Phrase) (fs : List Frame) (s : State) → close e x fs ≡ some s
    → length (part_rows x fs) ≤ length (written_in s)
close_grows e x [] s q = none_is_not q
close_grows e x (pending f ∷ fs) s q = none_is_not q
close_grows e x (open_at h c ∷ fs) s q =
    let o = next_place (place c) in
    let r = advance o c x fs in
    let fit = held (takes h (sort x)) (guarded (same_ending e (ending (place c))) (some r)) q in
    let is = some_inj (held (same_ending e (ending (place c))) (some r) fit.1).1 in
    omega (
      linear,
      ap (λ (t : State). length (written_in t)) is,
      ap length (advance_writes o h c x fs (no_body o c refl)),
      length-append (part_rows x (open_at h c ∷ fs)) (advance_rows o c x fs),
    )

pub shift_grows : (o : Option Infix) (t : Token) (x : Phrase) (fs : List Frame) (s : State) → shift t o x fs ≡ some s
    → length (part_rows x fs) ≤ length (written_in s)
shift_grows none t x fs s e = let h = went_on (ends t) (λ d. close d x fs) e in close_grows h.0 x fs s h.2
shift_grows (some o) t x fs s e =
    let q = at operand (pending (infix_after o x) ∷ fs) in
    let is = some_inj (held (begins (hole fs) (infix_makes o)) (some q) e).1 in
    omega (linear, ap (λ (u : State). length (written_in u)) is, ap length (shift_writes o x fs))

abbrev pub shift_move : Option Infix → Config → Config
shift_move none m = machine-close m (top_frame m.stack m.state.top)
shift_move (some o) m = push_infix m (infix_number o)

pub end_data : (e : Ending) (x : Phrase) (fs : List Frame) (s : State) (m : Config) → GoodStack fs → AfterData x fs m
    → close e x fs ≡ some s
    → has_room (length m.words) (length (written_in s)) ≡ true → Data s (shift_move none m)
unfolding GoodStack
end_data e x [] s m g a q room = none_is_not q
end_data e x (pending f ∷ fs) s m g a q room = none_is_not q
end_data e x (open_at h c ∷ fs) s m g a q room =
    let on = g.1 in
    let r = advance (next_place (place c)) c x fs in
    let fit = held (takes h (sort x)) (guarded (same_ending e (ending (place c))) (some r)) q in
    let end = held (same_ending e (ending (place c))) (some r) fit.1 in
    let t : takes (place_takes (place c)) (sort x) ≡ true =
    chain_takes_less c (hole fs) (sort x) on.2 (rw on.1 at fit.0) in
    let is = ap (λ (u : State). has_room (length m.words) (length (written_in u))) (some_inj end.1) in
    found_data (close_data h c x fs m a.holding a.counted a.ranges t (is ∙ room)) end.1

pub shift_data : (o : Option Infix) (t : Token) (x : Phrase) (fs : List Frame) (s : State) (m : Config) → GoodStack fs
    → AfterData x fs m
    → length fs < length m.stack → shift t o x fs ≡ some s
    → has_room (length m.words) (length (written_in s)) ≡ true
    → Data s (shift_move o m)
shift_data none t x fs s m g a l e room =
    let h = went_on (ends t) (λ d. close d x fs) e in
    end_data h.0 x fs s m g a h.2 room
shift_data (some o) t x fs s m g a l e room =
    let top = top_counts m.stack m.state.top fs a.holding.frames in
    found_data (infix_data o x fs m a.holding a.counted (omega linear))
    (held (begins (hole fs) (infix_makes o)) (some (at operand (pending (infix_after o x) ∷ fs))) e).1

-- ---- both

pub record AfterMoved (x : Phrase) (fs : List Frame) (t : Token) (s : State) (m : Config) : Type 0 where
  pub reduced_to : Reduced
  pub reduces : reduce (token_binds t) x fs ≡ some reduced_to
  pub between : ReducedData reduced_to m (reduced_config m (98 + token_binds t))
  pub moved : Data s (shift_move (infix_at t (sort reduced_to.got)) (reduced_config m (98 + token_binds t)))

pub after_data : (x : Phrase) (fs : List Frame) (t : Token) (ts : List Token) (s : State) (m : Config)
    → Part (token_binds t) x fs ts
    → AfterData x fs m → length fs < length m.stack → step_at (after x) fs t ≡ some s
    → has_room (length m.words) (length (written_in s)) ≡ true → AfterMoved x fs t s m
after_data x fs t ts s m p a l e room =
    let n = token_binds t in
    let k = went_on (reduce n x fs) (go_on t) e in
    let r = k.0 in
    let o = infix_at t (sort r.got) in
    let good = (reduce_keeps fs n x ts r p k.1).part.stacked in
    let few = room_for_less (length m.words) (length (part_rows r.got r.rest)) (length (written_in s))
    (shift_grows o t r.got r.rest s k.2) room in
    let d = after_reduced x fs n r m a k.1 few in
    let short = reduce_shorter fs n x r k.1 in
    record {
      reduced_to = r;
      reduces = k.1;
      between = d;
      moved = shift_data o t r.got r.rest s (reduced_config m (98 + n)) good d.left (omega linear) k.2
          (ap (λ (j : ℕ). has_room j (length (written_in s))) d.lent ∙ room);
    }
