-- Wrong answers of 02, P6: trailers, the form, 20 and 31 and the output, each told from the right ones at one list and room
-- (`other_answers`). Assumes nothing.
use Rattle.std.specs.Prelude.{ℕ, ◌-◌, List, [], ◌∷◌, ◌++◌, cond, ℤ, pos, eqb, ltb, length, take, drop}
use Rattle.std.proofs.Math.Option.{none, some}
use Rattle.script.specs.Computed.{numbers, counted_down}
use Rattle.script.specs.Rows.{row_of}
use Rattle.script.specs.Words.{rule_number, Form, without_depth, with_depth, depth_words, expr_words, formula_words, line_words, all_lines, list_words}
use Rattle.script.specs.Listing.{read_list, read_expr_within, read_formula_within, spelled_within, found_within, line_before_within, lines_before_within, lines_within}
use Rattle.shortening.specs.Simplify.{arith_node, join_node, not_node, shorten}
use Rattle.shortening.specs.Shortened.{refuse, filled, written}
use Rattle.shortening.specs.Variants.{Trailed, Formed, Answering, shorten_by, lines_by, pass_by, right_rules, right_seen, right_trailed, right_formed, right_answer, Pass, Wrong, OtherAnswers, all_told}
use Rattle.shortening.specs.ListFigures.{padded, three, deep}

-- ---- wrong trailers

abbrev trailing : Trailed → Pass
trailing t = pass_by right_rules right_seen t right_formed right_answer

-- with kind, row, length and depth so
abbrev trailing_words : ℕ → ℕ → ℕ → ℕ → Form → List ℤ
trailing_words k r n d form = pos k ∷ pos r ∷ pos n ∷ depth_words form d

abbrev pub old_length : Pass
old_length =
    trailing λ form c d. trailing_words (rule_number d.rule) d.row (length (formula_words c.claim)) d.depth form

abbrev pub row_lost : Pass
row_lost = trailing λ form c d. trailing_words (rule_number d.rule) 0 (length (formula_words d.claim)) d.depth form

abbrev pub kind_lost : Pass
kind_lost = trailing λ form c d. trailing_words 4 d.row (length (formula_words d.claim)) d.depth form

abbrev pub depth_lost : Pass
depth_lost = trailing λ form c d. trailing_words (rule_number d.rule) d.row (length (formula_words d.claim)) 0 form

-- ---- wrong forms

abbrev forming : Formed → Pass
forming f = pass_by right_rules right_seen right_trailed f right_answer

abbrev pub always_old_form : Pass
always_old_form = forming λ form. without_depth

abbrev pub always_new_form : Pass
always_new_form = forming λ form. with_depth

-- ---- wrong answers

abbrev answering : Answering → Pass
answering = pass_by right_rules right_seen right_trailed right_formed

-- 31 for an output of no words, before 20
abbrev pub room_first : Pass
room_first = answering λ ws l room. cond (eqb room 0) (refuse 31 room) (right_answer ws l room)

-- 31 where the old list would not fit
abbrev room_for_the_old : Answering
room_for_the_old ws none room = refuse 20 room
room_for_the_old ws (some us) room = cond (ltb room (length ws)) (refuse 31 room) (filled us room)

abbrev pub old_list_measured : Pass
old_list_measured = answering room_for_the_old

abbrev room_to_spare : Answering
room_to_spare ws none room = refuse 20 room
room_to_spare ws (some us) room = cond (ltb (length us) room) (filled us room) (refuse 31 room)

abbrev pub exact_fit_refused : Pass
exact_fit_refused = answering room_to_spare

-- the output begins as a copy of the old list, or, refused, holds what went in
abbrev copied : Answering
copied ws none room = refuse 20 room
copied ws (some us) room =
    cond (ltb room (length us)) (refuse 31 room)
    (record { number = 0; used = length us; list = us ++ take (room - length us) (drop (length us) ws) })

abbrev pub old_words_left_behind : Pass
old_words_left_behind = answering copied

abbrev half_written : Answering
half_written ws none room = refuse 20 room
half_written ws (some us) room =
    cond (ltb room (length us)) (record { number = 31; used = 0; list = take room us }) (filled us room)

abbrev pub half_a_list_left : Pass
half_a_list_left = answering half_written

-- ---- each with a list and a room

abbrev at_words : Pass → List ℤ → ℕ → Wrong
at_words p ws n = record { pass = p; words = ws; room = n }

pub wrongs : List Wrong
wrongs =
    at_words old_length padded 5
    ∷ at_words row_lost three 24
    ∷ at_words kind_lost three 24
    ∷ at_words depth_lost deep 27
    ∷ at_words always_old_form deep 27
    ∷ at_words always_new_form padded 6
    ∷ at_words room_first (pos 16 ∷ padded) 0
    ∷ at_words old_list_measured padded 5
    ∷ at_words exact_fit_refused padded 5
    ∷ at_words old_words_left_behind padded 7
    ∷ at_words half_a_list_left padded 4
    ∷ []

pub other_answers : OtherAnswers wrongs
unfolding wrongs padded three deep counted_down numbers row_of list_words all_lines line_words expr_words formula_words read_expr_within read_formula_within spelled_within found_within line_before_within lines_before_within lines_within read_list written shorten arith_node join_node not_node shorten_by lines_by pass_by
other_answers = all_told wrongs tt
