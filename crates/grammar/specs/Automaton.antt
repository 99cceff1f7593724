-- The reader as an automaton with a stack: `step` takes a token, where a part begins, after a part, or where a second
-- word is due. `run` takes tokens one after the other. Assumes nothing.
use Rattle.std.specs.Prelude.{ℕ, List, [], ◌∷◌, Bool, true, false, cond, leb}
use Rattle.std.proofs.Math.Option.{Option, none, some}
use Rattle.script.specs.Listing.{◌>>=◌, guarded}
use Rattle.grammar.specs.Sorts.{Sort, same_sort, Hole, takes, wide, begins}
use Rattle.grammar.specs.Operators.{Infix, not_prefix, minus_prefix, assert_prefix, assign_prefix, infix_takes, infix_makes, infix_binds}
use Rattle.grammar.specs.Forms.{Form, group_form, mark_form, when_form, if_form, while_form, script_form, Place, first_place, next_place, place_takes}
use Rattle.grammar.specs.Tokens.{Token, numeral, variable, truth_word, skip_word, not_word, assert_word, becomes, infix_word, form_word, closer_word, Due, bracket_due, becomes_due, Ending, same_ending, ends, ending, Leaf, constant_leaf, number_leaf, variable_leaf, truth_leaf, skip_leaf, leaf_makes, Opening, prefix_opening, form_opening, opening_makes, opening_due, Beginning, leaf_beginning, opening_beginning, no_beginning, beginning}
use Rattle.grammar.specs.Grammar.{Phrase, leaf, before, closed, Chain, begun, more, place, sort}
use Rattle.grammar.specs.States.{prefix, infix_after, Frame, pending, open_at, wants, holds, apply, hole, Mode, operand, after, due, State, at}

-- ---- operators that bind at least as tight as n take what was read

pub record Reduced : Type 0 where
  pub got : Phrase
  pub rest : List Frame

abbrev pub reduced : Phrase → List Frame → Option Reduced
reduced x fs = some (record { got = x; rest = fs })

unfoldable pub reduce : ℕ → Phrase → List Frame → Option Reduced
reduce n x [] = reduced x []
reduce n x (open_at h c ∷ fs) = reduced x (open_at h c ∷ fs)
reduce n x (pending f ∷ fs) =
    cond (leb n (holds f)) (guarded (same_sort (sort x) (wants f)) (reduce n (apply f x) fs)) (reduced x (pending f ∷ fs))

-- ---- a token where a part begins

abbrev pub form_takes : Hole → Form → Hole
form_takes h group_form = wide h
form_takes h mark_form = place_takes (first_place mark_form)
form_takes h when_form = place_takes (first_place when_form)
form_takes h if_form = place_takes (first_place if_form)
form_takes h while_form = place_takes (first_place while_form)
form_takes h script_form = place_takes (first_place script_form)

abbrev pub opening_frame : Hole → Opening → Frame
opening_frame h (prefix_opening p) = pending (prefix p)
opening_frame h (form_opening f) = open_at (form_takes h f) (begun f)

abbrev pub pushed : Option Due → Frame → List Frame → State
pushed none f fs = at operand (f ∷ fs)
pushed (some d) f fs = at (due d f) fs

-- a numeral right after a unary minus makes a constant with it, at once
abbrev pub constant_on : ℕ → List Frame → State
constant_on n [] = at (after (leaf (constant_leaf n))) []
constant_on n (pending (prefix not_prefix) ∷ fs) = at (after (leaf (constant_leaf n))) (pending (prefix not_prefix) ∷ fs)
constant_on n (pending (prefix minus_prefix) ∷ fs) = at (after (before minus_prefix (leaf (constant_leaf n)))) fs
constant_on n (pending (prefix assert_prefix) ∷ fs) = at (after (leaf (constant_leaf n))) (pending (prefix assert_prefix) ∷ fs)
constant_on n (pending (prefix (assign_prefix v)) ∷ fs) = at (after (leaf (constant_leaf n))) (pending (prefix (assign_prefix v)) ∷ fs)
constant_on n (pending (infix_after o x) ∷ fs) = at (after (leaf (constant_leaf n))) (pending (infix_after o x) ∷ fs)
constant_on n (open_at h c ∷ fs) = at (after (leaf (constant_leaf n))) (open_at h c ∷ fs)

abbrev pub leaf_on : Leaf → List Frame → State
leaf_on (constant_leaf n) fs = constant_on n fs
leaf_on (number_leaf n) fs = at (after (leaf (number_leaf n))) fs
leaf_on (variable_leaf v) fs = at (after (leaf (variable_leaf v))) fs
leaf_on (truth_leaf b) fs = at (after (leaf (truth_leaf b))) fs
leaf_on skip_leaf fs = at (after (leaf skip_leaf)) fs

abbrev pub begin : Beginning → List Frame → Option State
begin no_beginning fs = none
begin (leaf_beginning l) fs = guarded (begins (hole fs) (leaf_makes l)) (some (leaf_on l fs))
begin (opening_beginning o) fs =
    guarded (begins (hole fs) (opening_makes o)) (some (pushed (opening_due o) (opening_frame (hole fs) o) fs))

-- ---- a token after a part

abbrev pub token_binds : Token → ℕ
token_binds (numeral n) = 0
token_binds (variable v) = 0
token_binds (truth_word b) = 0
token_binds skip_word = 0
token_binds not_word = 0
token_binds assert_word = 0
token_binds becomes = 0
token_binds (infix_word o) = infix_binds o
token_binds (form_word f) = 0
token_binds (closer_word c) = 0

-- the operator that a token is after a part of this sort
abbrev pub infix_at : Token → Sort → Option Infix
infix_at (numeral n) s = none
infix_at (variable v) s = none
infix_at (truth_word b) s = none
infix_at skip_word s = none
infix_at not_word s = none
infix_at assert_word s = none
infix_at becomes s = none
infix_at (infix_word o) s = guarded (same_sort s (infix_takes o)) (some o)
infix_at (form_word f) s = none
infix_at (closer_word c) s = none

abbrev pub advance : Option Place → Chain → Phrase → List Frame → State
advance none c x fs = at (after (closed c x)) fs
advance (some q) c x fs = at operand (open_at (place_takes q) (more c x q) ∷ fs)

abbrev pub close : Ending → Phrase → List Frame → Option State
close e x [] = none
close e x (pending f ∷ fs) = none
close e x (open_at h c ∷ fs) =
    guarded (takes h (sort x)) (guarded (same_ending e (ending (place c))) (some (advance (next_place (place c)) c x fs)))

abbrev pub shift : Token → Option Infix → Phrase → List Frame → Option State
shift t (some o) x fs = guarded (begins (hole fs) (infix_makes o)) (some (at operand (pending (infix_after o x) ∷ fs)))
shift t none x fs = ends t >>= λ e. close e x fs

abbrev pub go_on : Token → Reduced → Option State
go_on t r = shift t (infix_at t (sort r.got)) r.got r.rest

-- ---- a token that is due

abbrev pub form_due : Due → Form → Bool
form_due bracket_due group_form = true
form_due bracket_due mark_form = false
form_due bracket_due when_form = false
form_due bracket_due if_form = false
form_due bracket_due while_form = false
form_due bracket_due script_form = false
form_due becomes_due f = false

abbrev pub becomes_is : Due → Bool
becomes_is bracket_due = false
becomes_is becomes_due = true

abbrev pub is_due : Due → Token → Bool
is_due d (numeral n) = false
is_due d (variable v) = false
is_due d (truth_word b) = false
is_due d skip_word = false
is_due d not_word = false
is_due d assert_word = false
is_due d becomes = becomes_is d
is_due d (infix_word o) = false
is_due d (form_word f) = form_due d f
is_due d (closer_word c) = false

-- ---- steps

abbrev pub step_at : Mode → List Frame → Token → Option State
step_at operand fs t = begin (beginning t (hole fs)) fs
step_at (after x) fs t = reduce (token_binds t) x fs >>= go_on t
step_at (due d f) fs t = guarded (is_due d t) (some (at operand (f ∷ fs)))

abbrev pub step : State → Token → Option State
step s t = step_at s.mode s.stack t

unfoldable pub run : State → List Token → Option State
run s [] = some s
run s (t ∷ ts) = step s t >>= λ r. run r ts
