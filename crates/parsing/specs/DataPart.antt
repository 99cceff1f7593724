-- What is known of the machine where a part is complete (`PartData`), and that it is known again when an operator has
-- taken the part (`pop_data`). Assumes nothing.
use Rattle.std.specs.Prelude.{ℕ, ◌+◌, ◌≤◌, ◌≡◌, refl, Bool, true, false, cond, List, [], ◌∷◌, ℤ, leb, length}
use Rattle.std.proofs.Common.{sym, ap, ◌∙◌, subst, arith as linear, length-append}
use Rattle.std.proofs.Math.Option.{some}
use Rattle.script.specs.Listing.{guarded}
use Rattle.theorems.specs.Options.{some_inj, held}
use Rattle.grammar.specs.Sorts.{Sort, number, same_sort}
use Rattle.grammar.specs.Operators.{semicolon, connective, relation, operator, not_prefix, minus_prefix, assert_prefix, assign_prefix}
use Rattle.grammar.specs.Grammar.{Phrase, sort}
use Rattle.grammar.specs.Counts.{size}
use Rattle.grammar.specs.Rows.{Quad, counts}
use Rattle.grammar.specs.States.{Pending, prefix, infix_after, Frame, pending, open_at, wants, holds, apply}
use Rattle.grammar.specs.Automaton.{Reduced, reduce, reduced}
use Rattle.grammar.specs.Ranges.{depth, All}
use Rattle.grammar.specs.Outcome.{has_room}
use Rattle.grammar.specs.Tests.{false_is_not}
use Rattle.grammar.specs.AllLaws.{all_parts}
use Rattle.grammar.specs.StateFlags.{frame_flags, stack_flags, part_flags, pop_flags}
use Rattle.grammar.specs.Written.{stack_size, part_rows, pending_row, ApartOn, pop_writes, apart_apply}
use Rattle.parser.specs.Machine.{rows_after, operator_row}
use Rattle.parsing.specs.Encoding.{pending_word, frame_words, framed}
use Rattle.parsing.specs.DataRows.{Held, Writable, row_counted}
use Rattle.parsing.specs.DataSizes.{part_length}
use Rattle.parsing.specs.DataOperators.{operator_held}

-- the machine has the stack st, and k is the mark's number that it read last
pub record PartData (st : List ℕ) (k : ℕ) (x : Phrase) (fs : List Frame) (top rows : ℕ) (ws : List ℤ) : Type 0 where
  pub frames : framed st top ≡ frame_words fs
  pub counted : rows ≡ length (part_rows x fs)
  pub words_held : Held ws (part_rows x fs)
  pub ranges : All (part_flags x fs)
  pub apart : ApartOn fs x
  pub count : sort x ≡ number → k ≡ counts x

-- ---- an operator takes its part

pub pop_length : (f : Pending) (x : Phrase) (fs : List Frame) → ApartOn (pending f ∷ fs) x
    → length (part_rows (apply f x) fs) ≡ length (part_rows x (pending f ∷ fs)) + 1
pop_length f x fs h =
    let row = pending_row f (stack_size fs) (size x) ∷ [] in
    ap length (pop_writes f x fs h) ∙ length-append (part_rows x (pending f ∷ fs)) row

-- rows are only added
pub reduce_grows : (fs : List Frame) (n : ℕ) (x : Phrase) (r : Reduced) → ApartOn fs x → reduce n x fs ≡ some r
    → length (part_rows x fs) ≤ length (part_rows r.got r.rest)
unfolding reduce
reduce_grows [] n x r h e = omega (linear, ap (λ (q : Reduced). length (part_rows q.got q.rest)) (some_inj e))
reduce_grows (open_at i c ∷ fs) n x r h e = omega (
  linear,
  ap (λ (q : Reduced). length (part_rows q.got q.rest))
      (some_inj e),
)
reduce_grows (pending f ∷ fs) n x r h e = at_test (leb n (holds f))
    (λ d. reduce_grows fs n (apply f x) r (apart_apply f x fs) d) e
  where
    at_test : (k : Bool) → (reduce n (apply f x) fs ≡ some r
        → length (part_rows (apply f x) fs) ≤ length (part_rows r.got r.rest))
        → cond k (guarded (same_sort (sort x) (wants f)) (reduce n (apply f x) fs))
        (reduced x (pending f ∷ fs)) ≡ some r
        → length (part_rows x (pending f ∷ fs)) ≤ length (part_rows r.got r.rest)
    at_test true again q =
        let l = again (held (same_sort (sort x) (wants f)) (reduce n (apply f x) fs) q).1 in
        omega (linear, pop_length f x fs h)
    at_test false again q = omega (linear, ap (λ (p : Reduced). length (part_rows p.got p.rest)) (some_inj q))

-- the numbers in a frame are in range
pub frame_ranges : (f : Frame) (x : Phrase) (fs : List Frame) → All (part_flags x (f ∷ fs))
    → All (frame_flags (depth fs) f)
unfolding stack_flags
frame_ranges f x fs h = (all_parts (stack_flags fs) (frame_flags (depth fs) f)
    (all_parts (stack_flags (f ∷ fs)) _ h).0).1

-- no operator makes a mark's number
apply_sort : (f : Pending) (x : Phrase) → same_sort (sort (apply f x)) number ≡ false
apply_sort (prefix not_prefix) x = refl
apply_sort (prefix minus_prefix) x = refl
apply_sort (prefix assert_prefix) x = refl
apply_sort (prefix (assign_prefix v)) x = refl
apply_sort (infix_after semicolon y) x = refl
apply_sort (infix_after (connective c) y) x = refl
apply_sort (infix_after (relation r) y) x = refl
apply_sort (infix_after (operator o) y) x = refl

pub pop_data : (f : Pending) (fs : List Frame) (x : Phrase) (st : List ℕ) (i top rows : ℕ) (ws : List ℤ) (n : ℕ)
    → PartData st i x (pending f ∷ fs) top rows ws → framed st n ≡ frame_words fs
    → has_room (length ws) (length (part_rows (apply f x) fs)) ≡ true
    → PartData st i (apply f x) fs n (rows_after ws rows) (operator_row ws rows (pending_word f (stack_size fs)))
pop_data f fs x st i top rows ws n p e room =
    let qs = part_rows x (pending f ∷ fs) in
    let new = pending_row f (stack_size fs) (size x) in
    let w : Writable ws qs rows = record {
      counted = p.counted;
      holds = p.words_held;
      room = ap (λ (k : ℕ). has_room (length ws) k) (sym (pop_length f x fs p.apart)) ∙ room;
    } in
    let is = pop_writes f x fs p.apart in
    record {
      frames = e;
      counted = row_counted new w ∙ ap length (sym is);
      words_held = subst (λ (k : List Quad). Held (operator_row ws rows (pending_word f (stack_size fs))) k) (sym is)
          (operator_held f fs x ws qs rows w (part_length x (pending f ∷ fs))
          (frame_ranges (pending f) x fs p.ranges));
      ranges = subst All (sym (pop_flags f x fs)) p.ranges;
      apart = apart_apply f x fs;
      count = λ s. false_is_not (sym (apply_sort f x) ∙ ap (λ (t : Sort). same_sort t number) s);
    }
