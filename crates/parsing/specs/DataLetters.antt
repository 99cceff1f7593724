-- The letters of frames: what the machine knows of an operator that waits (`operator_letters`) and of a place
-- (`place_letters`) is what the automaton knows of it; and a frame's number is in its word (`pending_word_number`,
-- `frame_word_number`). Assumes nothing.
use Rattle.std.specs.Prelude.{ℕ, ◌+◌, ◌%◌, ◌<◌, ◌≡◌, refl, List, [], ◌∷◌, map, get_or}
use Rattle.std.proofs.Common.{ap, ◌∙◌, lit<}
use Rattle.script.specs.declared.Operator.TheVariants.{Plus, Minus, Times, Div, Mod}
use Rattle.script.specs.declared.Relation.TheVariants.{Less, AtMost, Equal, Unequal}
use Rattle.script.specs.declared.Connective.TheVariants.{And, Or, Implies}
use Rattle.grammar.specs.Sorts.{Hole, only, either}
use Rattle.grammar.specs.Operators.{semicolon, connective, relation, operator, not_prefix, minus_prefix, assert_prefix, assign_prefix}
use Rattle.grammar.specs.Forms.{Place, in_group, in_mark, when_first, when_second, when_third, if_guard, if_then, if_else, while_guard, while_keep, while_fall, while_body, script_pre, script_body, script_post}
use Rattle.grammar.specs.Grammar.{Chain, place}
use Rattle.grammar.specs.Counts.{size, last, roots}
use Rattle.grammar.specs.States.{Pending, prefix, infix_after, Frame, pending, open_at, wants, holds as levels}
use Rattle.grammar.specs.Numbers.{infix_number}
use Rattle.grammar.specs.Contexts.{pending_makes}
use Rattle.grammar.specs.Written.{stack_size}
use Rattle.parser.specs.Symbols.{holds, holes, makes}
use Rattle.parser.specs.Machine.{hold, hole, maker}
use Rattle.parsing.specs.Encoding.{sort_letter, prefix_number, assigned, group_number, place_number, pending_number, frame_number, pending_word, frame_word, frame_words}
use Rattle.parsing.specs.DataStack.{frame_number_is}

-- ---- operators

abbrev pub OperatorLetters : Pending → Type 0
OperatorLetters f =
    (pending_number f < 64) × (get_or holds (pending_number f) 0 ≡ 98 + levels f) × (get_or holes
    (pending_number f) 0 ≡ sort_letter (wants f))
    × (get_or makes (pending_number f) 0 ≡ sort_letter (pending_makes f))

pub operator_letters : (f : Pending) → OperatorLetters f
unfolding holds holes makes
operator_letters (prefix not_prefix) = (lit< tt, refl, refl, refl)
operator_letters (prefix minus_prefix) = (lit< tt, refl, refl, refl)
operator_letters (prefix assert_prefix) = (lit< tt, refl, refl, refl)
operator_letters (prefix (assign_prefix v)) = (lit< tt, refl, refl, refl)
operator_letters (infix_after semicolon x) = (lit< tt, refl, refl, refl)
operator_letters (infix_after (connective And) x) = (lit< tt, refl, refl, refl)
operator_letters (infix_after (connective Or) x) = (lit< tt, refl, refl, refl)
operator_letters (infix_after (connective Implies) x) = (lit< tt, refl, refl, refl)
operator_letters (infix_after (relation Less) x) = (lit< tt, refl, refl, refl)
operator_letters (infix_after (relation AtMost) x) = (lit< tt, refl, refl, refl)
operator_letters (infix_after (relation Equal) x) = (lit< tt, refl, refl, refl)
operator_letters (infix_after (relation Unequal) x) = (lit< tt, refl, refl, refl)
operator_letters (infix_after (operator Plus) x) = (lit< tt, refl, refl, refl)
operator_letters (infix_after (operator Minus) x) = (lit< tt, refl, refl, refl)
operator_letters (infix_after (operator Times) x) = (lit< tt, refl, refl, refl)
operator_letters (infix_after (operator Div) x) = (lit< tt, refl, refl, refl)
operator_letters (infix_after (operator Mod) x) = (lit< tt, refl, refl, refl)

pub pending_word_number : (f : Pending) (b : ℕ) → pending_word f b % 64 ≡ pending_number f
pending_word_number (prefix p) b = frame_number_is (prefix_number p) (assigned p) 0 (operator_letters (prefix p)).0
pending_word_number (infix_after o x) b =
    frame_number_is (infix_number o) (last b (size x)) 0 (operator_letters (infix_after o x)).0

pub operator_hold : (f : Pending) (b : ℕ) → hold (pending_word f b) ≡ 98 + levels f
operator_hold f b = ap (λ (n : ℕ). get_or holds n 0) (pending_word_number f b) ∙ (operator_letters f).1

pub operator_hole : (f : Pending) (b : ℕ) → hole (pending_word f b) ≡ sort_letter (wants f)
operator_hole f b = ap (λ (n : ℕ). get_or holes n 0) (pending_word_number f b) ∙ (operator_letters f).2

pub operator_maker : (f : Pending) (b : ℕ) → maker (pending_word f b) ≡ sort_letter (pending_makes f)
operator_maker f b = ap (λ (n : ℕ). get_or makes n 0) (pending_word_number f b) ∙ (operator_letters f).3

-- ---- places

-- a place holds nothing, and has another number than the bottom
abbrev pub PlaceLetters : ℕ → Type 0
PlaceLetters n = (n < 64) × (get_or holds n 0 ≡ 97) × (0 < n)

group_letters : (h : Hole) → PlaceLetters (group_number h)
unfolding holds
group_letters (only s) = (lit< tt, refl, lit< tt)
group_letters either = (lit< tt, refl, lit< tt)

pub place_letters : (h : Hole) (p : Place) → PlaceLetters (place_number h p)
unfolding holds
place_letters h in_group = group_letters h
place_letters h in_mark = (lit< tt, refl, lit< tt)
place_letters h when_first = (lit< tt, refl, lit< tt)
place_letters h when_second = (lit< tt, refl, lit< tt)
place_letters h when_third = (lit< tt, refl, lit< tt)
place_letters h if_guard = (lit< tt, refl, lit< tt)
place_letters h if_then = (lit< tt, refl, lit< tt)
place_letters h if_else = (lit< tt, refl, lit< tt)
place_letters h while_guard = (lit< tt, refl, lit< tt)
place_letters h while_keep = (lit< tt, refl, lit< tt)
place_letters h while_fall = (lit< tt, refl, lit< tt)
place_letters h while_body = (lit< tt, refl, lit< tt)
place_letters h script_pre = (lit< tt, refl, lit< tt)
place_letters h script_body = (lit< tt, refl, lit< tt)
place_letters h script_post = (lit< tt, refl, lit< tt)

pub frame_word_number : (f : Frame) (b : ℕ) → frame_word f b % 64 ≡ frame_number f
frame_word_number (pending f) b = pending_word_number f b
frame_word_number (open_at h c) b =
    frame_number_is (place_number h (place c)) (get_or (roots b c) 1 0) (get_or (roots b c) 0 0)
    (place_letters h (place c)).0

pub place_hold : (h : Hole) (c : Chain) (b : ℕ) → hold (frame_word (open_at h c) b) ≡ 97
place_hold h c b = ap (λ (n : ℕ). get_or holds n 0) (frame_word_number (open_at h c) b) ∙ (place_letters h (place c)).1

-- the numbers of the frames, from their words
pub frame_words_numbers : (fs : List Frame) → map (λ w. w % 64) (frame_words fs) ≡ map frame_number fs
unfolding frame_words
frame_words_numbers [] = refl
frame_words_numbers (f ∷ fs) =
    ap (λ (n : ℕ). n ∷ map (λ w. w % 64) (frame_words fs)) (frame_word_number f (stack_size fs))
    ∙ ap (λ (l : List ℕ). frame_number f ∷ l) (frame_words_numbers fs)
