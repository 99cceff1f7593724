-- A frame's number has the letters of the frame, beside what `DataLetters` has: what an operator makes of its part,
-- what a place holds and is ended by, and of the frame on top, what may come next (`top_hole`). By cases over one
-- table each. Assumes nothing.
use Rattle.std.specs.Prelude.{ℕ, ◌≡◌, refl, true, false, List, [], ◌∷◌, eqb, get_or}
use Rattle.script.specs.declared.Operator.{Operator}
use Rattle.script.specs.declared.Relation.{Relation}
use Rattle.script.specs.declared.Connective.{Connective}
use Rattle.script.specs.declared.Operator.TheVariants.{Plus, Minus, Times, Div, Mod}
use Rattle.script.specs.declared.Relation.TheVariants.{Less, AtMost, Equal, Unequal}
use Rattle.script.specs.declared.Connective.TheVariants.{And, Or, Implies}
use Rattle.grammar.specs.Sorts.{number, expression, formula, statement, script, Hole, only, either, wide, begins}
use Rattle.grammar.specs.Operators.{semicolon, connective, relation, operator, Prefix, not_prefix, minus_prefix, assert_prefix, assign_prefix}
use Rattle.grammar.specs.Forms.{group_form, mark_form, when_form, if_form, while_form, script_form, Place, place_takes, in_group, in_mark, when_first, when_second, when_third, if_guard, if_then, if_else, while_guard, while_keep, while_fall, while_body, script_pre, script_body, script_post}
use Rattle.grammar.specs.Tokens.{ending}
use Rattle.grammar.specs.Grammar.{Phrase, Chain, begun, more, sort}
use Rattle.grammar.specs.States.{Pending, prefix, infix_after, Frame, pending, open_at, apply, hole as hole-of}
use Rattle.grammar.specs.Numbers.{infix_number}
use Rattle.grammar.specs.Tests.{false_is_not}
use Rattle.grammar.specs.Complete.{chain_takes}
use Rattle.grammar.specs.Contexts.{GoodStack, GoodOn}
use Rattle.parser.specs.Symbols.{holds, holes, makes, ends}
use Rattle.parsing.specs.Encoding.{sort_letter, hole_letter, prefix_number, group_number, place_number, pending_number, frame_number}
use Rattle.parsing.specs.DataLetters.{operator_letters}
use Rattle.parsing.specs.Letters.{ending_letter}

-- ---- operators

pub pending_maker : (f : Pending) (x : Phrase) → get_or makes (pending_number f) 0 ≡ sort_letter (sort (apply f x))
pending_maker (prefix p) x = (operator_letters (prefix p)).3
pending_maker (infix_after o y) x = (operator_letters (infix_after o y)).3

-- an operator is ended by nothing
pub pending_end : (f : Pending) → get_or ends (pending_number f) 0 ≡ 95
unfolding ends
pending_end (prefix not_prefix) = refl
pending_end (prefix minus_prefix) = refl
pending_end (prefix assert_prefix) = refl
pending_end (prefix (assign_prefix v)) = refl
pending_end (infix_after semicolon x) = refl
pending_end (infix_after (connective And) x) = refl
pending_end (infix_after (connective Or) x) = refl
pending_end (infix_after (connective Implies) x) = refl
pending_end (infix_after (relation Less) x) = refl
pending_end (infix_after (relation AtMost) x) = refl
pending_end (infix_after (relation Equal) x) = refl
pending_end (infix_after (relation Unequal) x) = refl
pending_end (infix_after (operator Plus) x) = refl
pending_end (infix_after (operator Minus) x) = refl
pending_end (infix_after (operator Times) x) = refl
pending_end (infix_after (operator Div) x) = refl
pending_end (infix_after (operator Mod) x) = refl

-- but for the semicolon none has its number
pub prefix_apart : (p : Prefix) → eqb (prefix_number p) 34 ≡ false
prefix_apart not_prefix = refl
prefix_apart minus_prefix = refl
prefix_apart assert_prefix = refl
prefix_apart (assign_prefix v) = refl

pub connective_apart : (c : Connective) → eqb (infix_number (connective c)) 34 ≡ false
connective_apart And = refl
connective_apart Or = refl
connective_apart Implies = refl

pub relation_apart : (r : Relation) → eqb (infix_number (relation r)) 34 ≡ false
relation_apart Less = refl
relation_apart AtMost = refl
relation_apart Equal = refl
relation_apart Unequal = refl

pub operator_apart : (o : Operator) → eqb (infix_number (operator o)) 34 ≡ false
operator_apart Plus = refl
operator_apart Minus = refl
operator_apart Times = refl
operator_apart Div = refl
operator_apart Mod = refl

-- ---- places

-- it holds nothing, and what ends it; its number is that of no minus and no semicolon
pub place_letters : (h : Hole) (p : Place)
    → (get_or holds (place_number h p) 0 ≡ 97) × (get_or ends (place_number h p) 0 ≡ ending_letter (ending p))
    × (eqb (place_number h p) 8 ≡ false) × (eqb (place_number h p) 34 ≡ false)
unfolding holds ends
place_letters (only s) in_group = (refl, refl, refl, refl)
place_letters either in_group = (refl, refl, refl, refl)
place_letters h in_mark = (refl, refl, refl, refl)
place_letters h when_first = (refl, refl, refl, refl)
place_letters h when_second = (refl, refl, refl, refl)
place_letters h when_third = (refl, refl, refl, refl)
place_letters h if_guard = (refl, refl, refl, refl)
place_letters h if_then = (refl, refl, refl, refl)
place_letters h if_else = (refl, refl, refl, refl)
place_letters h while_guard = (refl, refl, refl, refl)
place_letters h while_keep = (refl, refl, refl, refl)
place_letters h while_fall = (refl, refl, refl, refl)
place_letters h while_body = (refl, refl, refl, refl)
place_letters h script_pre = (refl, refl, refl, refl)
place_letters h script_body = (refl, refl, refl, refl)
place_letters h script_post = (refl, refl, refl, refl)

later_hole : (q : Place) → get_or holes (place_number (place_takes q) q) 0 ≡ hole_letter (place_takes q)
unfolding holes
later_hole in_group = refl
later_hole in_mark = refl
later_hole when_first = refl
later_hole when_second = refl
later_hole when_third = refl
later_hole if_guard = refl
later_hole if_then = refl
later_hole if_else = refl
later_hole while_guard = refl
later_hole while_keep = refl
later_hole while_fall = refl
later_hole while_body = refl
later_hole script_pre = refl
later_hole script_body = refl
later_hole script_post = refl

-- a group stands where an expression may
group_hole : (h : Hole) → begins h expression ≡ true → get_or holes (group_number (wide h)) 0 ≡ hole_letter (wide h)
unfolding holes
group_hole (only number) e = false_is_not e
group_hole (only expression) e = refl
group_hole (only formula) e = refl
group_hole (only statement) e = false_is_not e
group_hole (only script) e = false_is_not e
group_hole either e = refl

-- ---- the frame on top

-- the bottom is the frame 0
abbrev pub top_number : List Frame → ℕ
top_number [] = 0
top_number (f ∷ fs) = frame_number f

open_hole : (c : Chain) (fs : List Frame) → GoodOn (open_at (chain_takes (hole-of fs) c) c) fs
    → get_or holes (frame_number (open_at (chain_takes (hole-of fs) c) c)) 0 ≡ hole_letter (chain_takes (hole-of fs) c)
unfolding holes
open_hole (begun group_form) fs g = group_hole (hole-of fs) g.2
open_hole (begun mark_form) fs g = refl
open_hole (begun when_form) fs g = refl
open_hole (begun if_form) fs g = refl
open_hole (begun while_form) fs g = refl
open_hole (begun script_form) fs g = refl
open_hole (more c x q) fs g = later_hole q

pub top_hole : (fs : List Frame) → GoodStack fs → get_or holes (top_number fs) 0 ≡ hole_letter (hole-of fs)
unfolding holes GoodStack
top_hole [] g = refl
top_hole (pending f ∷ fs) g = (operator_letters f).2
top_hole (open_at h c ∷ fs) g =
    let taken = g.1.1 in
    rw taken (open_hole c fs (rw taken at g.1))
