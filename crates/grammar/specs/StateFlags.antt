-- The flags of the complete parts of a state (`state_flags`), and what a token that begins a part adds to them: its own
-- (`begin_flags`). Assumes nothing.
use Rattle.std.specs.Prelude.{ℕ, ◌≡◌, refl, List, [], ◌∷◌, ◌++◌, Bool, true, false, cond, leb}
use Rattle.std.proofs.Common.{sym, ap, ◌∙◌, append_assoc}
use Rattle.std.proofs.Math.Option.{Option, none, some}
use Rattle.script.specs.Listing.{guarded}
use Rattle.theorems.specs.Options.{none_is_not, some_inj, held}
use Rattle.grammar.specs.Sorts.{number, expression, statement, script, same_sort, Hole, only, either, formula, begins}
use Rattle.grammar.specs.Operators.{not_prefix, minus_prefix, assert_prefix, assign_prefix}
use Rattle.grammar.specs.Tokens.{Token, Leaf, constant_leaf, number_leaf, variable_leaf, truth_leaf, skip_leaf, leaf_makes, leaf_word, Opening, prefix_opening, form_opening, opening_makes, opening_word, opening_due, Due, Beginning, leaf_beginning, opening_beginning, no_beginning}
use Rattle.grammar.specs.Grammar.{Phrase, leaf, sort}
use Rattle.grammar.specs.States.{Pending, prefix, infix_after, Frame, pending, open_at, wants, holds, apply, hole, Mode, operand, after, due, State}
use Rattle.grammar.specs.Automaton.{Reduced, reduce, reduced, constant_on, leaf_on, begin, opening_frame, pushed}
use Rattle.grammar.specs.Ranges.{is_minus, leaf_flags, prefix_flags, flags, chain_flags, depth, after_minus, operand_flag}
use Rattle.grammar.specs.Tests.{false_is_not}
use Rattle.grammar.specs.WordLaws.{Begun}

-- ---- the flags of the complete parts

abbrev pub frame_flags : ℕ → Frame → List Bool
frame_flags d (pending (prefix p)) = prefix_flags p
frame_flags d (pending (infix_after o x)) = flags d false x
frame_flags d (open_at h c) = chain_flags d c

unfoldable pub stack_flags : List Frame → List Bool
stack_flags [] = []
stack_flags (f ∷ fs) = stack_flags fs ++ frame_flags (depth fs) f

abbrev pub part_flags : Phrase → List Frame → List Bool
part_flags x fs = stack_flags fs ++ flags (depth fs) (after_minus fs) x

abbrev pub mode_flags : Mode → List Frame → List Bool
mode_flags operand fs = stack_flags fs
mode_flags (after x) fs = part_flags x fs
mode_flags (due d f) fs = stack_flags (f ∷ fs)

abbrev pub state_flags : State → List Bool
state_flags s = mode_flags s.mode s.stack

-- an operator that takes its part changes nothing
pub pop_flags : (f : Pending) (x : Phrase) (fs : List Frame) → part_flags (apply f x) fs ≡ part_flags x (pending f ∷ fs)
unfolding flags stack_flags depth
pop_flags (prefix p) x fs = sym (append_assoc (stack_flags fs) (prefix_flags p) (flags (depth fs) (is_minus p) x))
pop_flags (infix_after o y) x fs = sym (append_assoc (stack_flags fs) (flags (depth fs) false y) (flags (depth fs) false x))

pub reduce_flags : (fs : List Frame) (n : ℕ) (x : Phrase) (r : Reduced) → reduce n x fs ≡ some r → part_flags r.got r.rest ≡ part_flags x fs
unfolding reduce
reduce_flags [] n x r e = ap (λ (q : Reduced). part_flags q.got q.rest) (sym (some_inj e))
reduce_flags (open_at h c ∷ fs) n x r e = ap (λ (q : Reduced). part_flags q.got q.rest) (sym (some_inj e))
reduce_flags (pending f ∷ fs) n x r e = at_test (leb n (holds f)) (λ d. reduce_flags fs n (apply f x) r d) e
  where
    at_test : (k : Bool) → (reduce n (apply f x) fs ≡ some r → part_flags r.got r.rest ≡ part_flags (apply f x) fs)
        → cond k (guarded (same_sort (sort x) (wants f)) (reduce n (apply f x) fs)) (reduced x (pending f ∷ fs)) ≡ some r
        → part_flags r.got r.rest ≡ part_flags x (pending f ∷ fs)
    at_test true again q = again (held (same_sort (sort x) (wants f)) (reduce n (apply f x) fs) q).1 ∙ pop_flags f x fs
    at_test false again q = ap (λ (p : Reduced). part_flags p.got p.rest) (sym (some_inj q))

-- ---- a token where a part begins

no_number : (h : Hole) → begins h expression ≡ true → begins h number ≡ false
no_number (only number) e = false_is_not e
no_number (only expression) e = refl
no_number (only formula) e = refl
no_number (only statement) e = refl
no_number (only script) e = refl
no_number either e = refl

pub leaf_flag : (l : Leaf) (fs : List Frame) → begins (hole fs) (leaf_makes l) ≡ true
    → leaf_flags (depth fs) (after_minus fs) l ≡ operand_flag fs (leaf_word l)
leaf_flag (constant_leaf n) fs e = rw (no_number (hole fs) e)
leaf_flag (number_leaf k) fs e = rw e
leaf_flag (variable_leaf v) fs e = refl
leaf_flag (truth_leaf b) fs e = refl
leaf_flag skip_leaf fs e = refl

constant_on_flags : (n : ℕ) (fs : List Frame) → state_flags (constant_on n fs) ≡ part_flags (leaf (constant_leaf n)) fs
constant_on_flags n [] = refl
constant_on_flags n (pending (prefix not_prefix) ∷ fs) = refl
constant_on_flags n (pending (prefix minus_prefix) ∷ fs) = pop_flags (prefix minus_prefix) (leaf (constant_leaf n)) fs
constant_on_flags n (pending (prefix assert_prefix) ∷ fs) = refl
constant_on_flags n (pending (prefix (assign_prefix v)) ∷ fs) = refl
constant_on_flags n (pending (infix_after o x) ∷ fs) = refl
constant_on_flags n (open_at h c ∷ fs) = refl

leaf_on_flags : (l : Leaf) (fs : List Frame) → state_flags (leaf_on l fs) ≡ part_flags (leaf l) fs
leaf_on_flags (constant_leaf n) fs = constant_on_flags n fs
leaf_on_flags (number_leaf k) fs = refl
leaf_on_flags (variable_leaf v) fs = refl
leaf_on_flags (truth_leaf b) fs = refl
leaf_on_flags skip_leaf fs = refl

opening_flag : (o : Opening) (d : ℕ) (h : Hole) (fs : List Frame) → frame_flags d (opening_frame h o) ≡ operand_flag fs (opening_word o)
unfolding chain_flags
opening_flag (prefix_opening not_prefix) d h fs = refl
opening_flag (prefix_opening minus_prefix) d h fs = refl
opening_flag (prefix_opening assert_prefix) d h fs = refl
opening_flag (prefix_opening (assign_prefix v)) d h fs = refl
opening_flag (form_opening f) d h fs = refl

pushed_flags : (d : Option Due) (f : Frame) (fs : List Frame) → state_flags (pushed d f fs) ≡ stack_flags (f ∷ fs)
pushed_flags none f fs = refl
pushed_flags (some d) f fs = refl

-- what a state that was found has
pub of_found : {s r : State} {l : List Bool} → state_flags s ≡ l → some s ≡ some r → state_flags r ≡ l
of_found h e = ap state_flags (sym (some_inj e)) ∙ h

pub begin_flags : (b : Beginning) (t : Token) (fs : List Frame) (s : State) → Begun t b → begin b fs ≡ some s
    → state_flags s ≡ stack_flags fs ++ operand_flag fs t
unfolding flags stack_flags
begin_flags no_beginning t fs s b e = none_is_not e
begin_flags (leaf_beginning l) t fs s b e =
    let h = held (begins (hole fs) (leaf_makes l)) (some (leaf_on l fs)) e in
    of_found (leaf_on_flags l fs ∙ ap (λ k. stack_flags fs ++ k) (leaf_flag l fs h.0 ∙ ap (λ (w : Token). operand_flag fs w) b)) h.1
begin_flags (opening_beginning o) t fs s b e =
    let f = opening_frame (hole fs) o in
    let d = opening_due o in
    let h = held (begins (hole fs) (opening_makes o)) (some (pushed d f fs)) e in
    of_found (pushed_flags d f fs
    ∙ ap (λ k. stack_flags fs ++ k) (opening_flag o (depth fs) (hole fs) fs ∙ ap (λ (w : Token). operand_flag fs w) b)) h.1
