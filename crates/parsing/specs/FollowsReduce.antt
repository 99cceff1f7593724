-- Operators that take their part: the machine takes as many as the automaton, and where one does not fit the part,
-- neither does anything else (`reduce_follows`). By induction on the stack. Assumes nothing.
use Rattle.std.specs.Prelude.{ℕ, zero, suc, ◌+◌, ◌%◌, ◌≡◌, refl, Bool, true, false, cond, not, List, [], ◌∷◌, eqb, leb, ltb, ℤ, length, get_or}
use Rattle.std.proofs.Common.{sym, ap, ◌∙◌, subst, arith as linear, leb-true, leb-false, lt-ltb, le-ltb}
use Rattle.std.proofs.Math.Option.{Option, none, some}
use Rattle.script.specs.Listing.{guarded}
use Rattle.theorems.specs.Options.{none_is_not, some_inj}
use Rattle.grammar.specs.Sorts.{same_sort}
use Rattle.grammar.specs.Grammar.{Phrase, place, sort}
use Rattle.grammar.specs.Counts.{size}
use Rattle.grammar.specs.States.{Pending, Frame, pending, open_at, wants, holds as tightness, apply}
use Rattle.grammar.specs.Automaton.{Reduced, reduce, reduced}
use Rattle.grammar.specs.Written.{stack_size, part_rows, pending_row, ApartOn, pop_writes, apart_apply}
use Rattle.parser.specs.Symbols.{holds, holes, makes}
use Rattle.parser.specs.Machine.{top_frame, hold, hole, maker, fits, rows_after, operator_row, Reduced as Machine-reduced, reduced_to, reduce as machine-reduce}
use Rattle.parsing.specs.Encoding.{sort_letter, pending_number, counted_rows}
use Rattle.parsing.specs.DataLetters.{operator_letters}
use Rattle.parsing.specs.DataOperators.{operator_row_length}
use Rattle.parsing.specs.Letters.{same_letters, fits_nothing}
use Rattle.parsing.specs.FrameLetters.{pending_maker, place_letters}
use Rattle.parsing.specs.Stacks.{Stands, stands_top, stands_rest, stands_empty, stands_low}
use Rattle.parsing.specs.Counted.{row_added}
use Rattle.parsing.specs.Beginnings.{one_more}

-- what the machine has of a part and of the stack below it
pub record Left (st : List ℕ) (room : ℕ) (r : Reduced) (m : Machine-reduced) : Type 0 where
  pub sort : m.sort ≡ sort_letter (sort r.got)
  pub stands : Stands r.rest st m.top
  pub rows : m.rows ≡ counted_rows room (length (part_rows r.got r.rest))
  pub words : length m.words ≡ room

pub record Unfit (st : List ℕ) (m : Machine-reduced) : Type 0 where
  pub sort : m.sort ≡ 0
  pub nothing : fits (hole (top_frame st m.top)) 0 ≡ false

pub record Reduces (o : Option Reduced) (st : List ℕ) (room : ℕ) (m : Machine-reduced) : Type 0 where
  pub goes : (r : Reduced) → o ≡ some r → Left st room r m
  pub stops : o ≡ none → Unfit st m

stays : (x : Phrase) (fs : List Frame) (st : List ℕ) (top rows : ℕ) (ws : List ℤ) → Stands fs st top
    → rows ≡ counted_rows (length ws) (length (part_rows x fs))
    → Reduces (reduced x fs) st (length ws) (reduced_to (sort_letter (sort x)) rows top ws)
stays x fs st top rows ws h e =
    let m = reduced_to (sort_letter (sort x)) rows top ws in
    record {
      goes =
          λ r q. subst (λ p. Left st (length ws) p m) (some_inj q)
          (record { sort = refl; stands = h; rows = e; words = refl });
      stops = λ q. none_is_not (sym q);
    }

unfit : (st : List ℕ) (room : ℕ) (m : Machine-reduced) → Unfit st m → Reduces none st room m
unfit st room m u = record { goes = λ r q. none_is_not q; stops = λ q. u }

-- ---- an operator on top

module _ (f : Pending) (w : ℕ) (e : w % 64 ≡ pending_number f) where
  hold_is : hold w ≡ 98 + tightness f
  hold_is = ap (λ (n : ℕ). get_or holds n 0) e ∙ (operator_letters f).1

  hole_is : hole w ≡ sort_letter (wants f)
  hole_is = ap (λ (n : ℕ). get_or holes n 0) e ∙ (operator_letters f).2

  maker_is : (x : Phrase) → maker w ≡ sort_letter (sort (apply f x))
  maker_is x = ap (λ (n : ℕ). get_or makes n 0) e ∙ pending_maker f x

  lets : (n : ℕ) → ltb (hold w) (98 + n) ≡ not (leb n (tightness f))
  lets n = at_test (leb n (tightness f)) refl
    where
      at_test : (k : Bool) → leb n (tightness f) ≡ k → ltb (hold w) (98 + n) ≡ not k
      at_test true q = let l = leb-true n (tightness f) q in le-ltb (hold w) (98 + n) (omega (linear, hold_is))
      at_test false q = let l = leb-false n (tightness f) q in lt-ltb (hold w) (98 + n) (omega (linear, hold_is))

  fit : (x : Phrase) → eqb (sort_letter (sort x)) (hole w) ≡ same_sort (sort x) (wants f)
  fit x = ap (λ (l : ℕ). eqb (sort_letter (sort x)) l) hole_is ∙ same_letters (sort x) (wants f)

place_lets : (n w : ℕ) → hold w ≡ 97 → ltb (hold w) (98 + n) ≡ true
place_lets n w e = lt-ltb (hold w) (98 + n) (omega linear)

-- ---- all of them

pub reduce_follows : (fs : List Frame) (n : ℕ) (x : Phrase) (st : List ℕ) (top rows : ℕ) (ws : List ℤ)
    → Stands fs st top → ApartOn fs x
    → rows ≡ counted_rows (length ws) (length (part_rows x fs))
    → Reduces (reduce n x fs) st (length ws) (machine-reduce st (98 + n) top (sort_letter (sort x)) rows ws)
unfolding reduce machine-reduce
reduce_follows [] n x st zero rows ws h a e = stays x [] st 0 rows ws h e
reduce_follows [] n x st (suc top) rows ws h a e = stands_empty st top h
reduce_follows (open_at i c ∷ fs) n x st zero rows ws h a e = stands_low (open_at i c) fs st h
reduce_follows (open_at i c ∷ fs) n x st (suc top) rows ws h a e =
    let w = get_or st top 0 in
    let number = stands_top (open_at i c ∷ fs) st (suc top) h in
    rw (place_lets n w (ap (λ (k : ℕ). get_or holds k 0) number ∙ (place_letters i (place c)).0))
    (stays x (open_at i c ∷ fs) st (suc top) rows ws h e)
reduce_follows (pending f ∷ fs) n x st zero rows ws h a e = stands_low (pending f) fs st h
reduce_follows (pending f ∷ fs) n x st (suc top) rows ws h a e =
    let w = get_or st top 0 in
    let number = stands_top (pending f ∷ fs) st (suc top) h in
    let more = operator_row_length ws rows w in
    let m = machine-reduce st (98 + n) top (sort_letter (sort (apply f x))) (rows_after ws rows)
    (operator_row ws rows w) in
    let unfit_here : fits (hole w) 0 ≡ false = ap (λ (l : ℕ). fits l 0) (hole_is f w number) ∙ fits_nothing (wants f) in
    rw (lets f w number n, fit f w number x, maker_is f w number x)
    (at_test (leb n (tightness f)) (same_sort (sort x) (wants f)) m
    (record { sort = refl; nothing = unfit_here })
    (subst (λ k. Reduces (reduce n (apply f x) fs) st k m) more
    (reduce_follows fs n (apply f x) st top (rows_after ws rows) (operator_row ws rows w)
    (stands_rest (pending f) fs st top h) (apart_apply f x fs)
    (row_added ws _ rows (length (part_rows x (pending f ∷ fs))) _ e more
    (one_more (part_rows x (pending f ∷ fs)) (pending_row f (stack_size fs) (size x)) (pop_writes f x fs a))))))
  where
    at_test : (k s : Bool) → (m : Machine-reduced) → Unfit st (reduced_to 0 rows (suc top) ws)
        → Reduces (reduce n (apply f x) fs) st (length ws) m
        → Reduces (cond k (guarded s (reduce n (apply f x) fs)) (reduced x (pending f ∷ fs))) st (length ws)
        (cond (not k) (reduced_to (sort_letter (sort x)) rows (suc top) ws) (cond s m (reduced_to 0 rows (suc top) ws)))
    at_test true true m u again = again
    at_test true false m u again = unfit st (length ws) (reduced_to 0 rows (suc top) ws) u
    at_test false s m u again = stays x (pending f ∷ fs) st (suc top) rows ws h e
