-- Wrong entries over two lists of 02, P6, each told from the right one at two lists and an index (`other_parts`).
-- Assumes nothing.
use Rattle.std.specs.Prelude.{◌-◌, ◌≢◌, List, [], ◌∷◌, Bool, true, cond, ◌&&◌, ℤ, pos, negsuc, T, eqb, ltb}
use Rattle.script.specs.declared.Line.{Line}
use Rattle.script.specs.Computed.{numbers, counted_down}
use Rattle.script.specs.Rows.{row_of}
use Rattle.script.specs.Listing.{trailer_length, form_of, read_expr_within, read_formula_within, spelled_within, found_within, line_before_within, lines_before_within, lines_within, line_at, line_at_within}
use Rattle.theorems.specs.Truths.{both}
use Rattle.theorems.specs.Differ.{other, told}
use Rattle.shortening.specs.Shortened.{Which, old, new, Part, no_part, part, part_for, shorter}
use Rattle.shortening.specs.ListFigures.{padded, plain, three, three_short, deep_short}

abbrev Entry : Type 0
Entry = List ℤ → List ℤ → ℤ → Part

-- of the lines that are found in the two lists
abbrev of_lines : (Line → Line → Part) → Entry
of_lines f us vs i = f (line_at us i) (line_at vs i)

-- of what is found in both, the refusals as they are
abbrev of_both : (Line → Line → Part) → Entry
of_both f =
    of_lines λ a b. cond (eqb a.number 0) (cond (eqb b.number 0) (f a b) (no_part b.number)) (no_part a.number)

abbrev pub new_if_equal : Entry
new_if_equal = of_both λ a b. cond (ltb (a.end - a.start) (b.end - b.start)) (part old a) (part new b)

abbrev pub longer_one : Entry
longer_one = of_both λ a b. cond (ltb (a.end - a.start) (b.end - b.start)) (part new b) (part old a)

abbrev pub always_old : Entry
always_old = of_both λ a b. part old a

abbrev pub always_new : Entry
always_new = of_both λ a b. part new b

-- the new one's place, in the old list
abbrev pub in_the_wrong_list : Entry
in_the_wrong_list = of_both λ a b. cond (ltb (b.end - b.start) (a.end - a.start)) (part old b) (part old a)

-- "with the empty part at the old one's front"
abbrev at_the_new_front : Part → Part
at_the_new_front p = cond (eqb p.number 0) p (record { number = p.number; which = new; start = 0; end = 0 })

abbrev pub refused_at_the_new_front : Entry
refused_at_the_new_front us vs i = at_the_new_front (shorter us vs i)

-- 20 of either list, before 21 of the old one
abbrev pub torn_first : Entry
torn_first = of_lines λ a b. cond (eqb b.number 20) (no_part 20) (part_for a b)

-- 21 for a negative index, before 20
abbrev pub index_first : Entry
index_first us vs (pos i) = shorter us vs (pos i)
index_first us vs (negsuc i) = no_part 21

-- the new list's refusals, before the old one's
abbrev pub new_refused_first : Entry
new_refused_first = of_lines λ a b. cond (eqb b.number 0) (part_for a b) (no_part b.number)

-- a torn new list taken for a longer one
abbrev pub torn_new_is_longer : Entry
torn_new_is_longer =
    of_lines λ a b. cond (eqb a.number 0 && eqb b.number 20) (part old a) (part_for a b)

-- 02, P9: lists of two forms taken for torn
abbrev pub forms_must_agree : Entry
forms_must_agree us vs i =
    cond (eqb (trailer_length (form_of us)) (trailer_length (form_of vs))) (shorter us vs i) (no_part 20)

pub record WrongEntry : Type 0 where
  pub entry : Entry
  pub before : List ℤ
  pub after : List ℤ
  pub index : ℤ

abbrev at_lists : Entry → List ℤ → List ℤ → ℤ → WrongEntry
at_lists e us vs i = record { entry = e; before = us; after = vs; index = i }

pub wrong_entries : List WrongEntry
wrong_entries =
    at_lists new_if_equal plain plain (pos 0)
    ∷ at_lists longer_one padded plain (pos 0)
    ∷ at_lists always_old padded plain (pos 0)
    ∷ at_lists always_new plain padded (pos 0)
    ∷ at_lists in_the_wrong_list three three_short (pos 1)
    ∷ at_lists refused_at_the_new_front padded plain (pos 1)
    ∷ at_lists torn_first padded [] (pos 1)
    ∷ at_lists index_first [] plain (negsuc 0)
    ∷ at_lists new_refused_first [] plain (pos 1)
    ∷ at_lists torn_new_is_longer padded [] (pos 0)
    ∷ at_lists forms_must_agree three deep_short (pos 1)
    ∷ []

-- what it hands back, and what is to be handed back
abbrev given : WrongEntry → Part
given w = w.entry w.before w.after w.index

abbrev due : WrongEntry → Part
due w = shorter w.before w.after w.index

-- each hands back another part than the entry defined
abbrev pub OtherParts : List WrongEntry → Type 0
OtherParts [] = Unit {0}
OtherParts (w ∷ ws) = (given w ≢ due w) × OtherParts ws

abbrev which_word : Which → ℤ
which_word old = pos 0
which_word new = pos 1

abbrev part_told : Part → List ℤ
part_told p = pos p.number ∷ which_word p.which ∷ pos p.start ∷ pos p.end ∷ []

abbrev parts_differ : List WrongEntry → Bool
parts_differ [] = true
parts_differ (w ∷ ws) = other part_told (given w) (due w) && parts_differ ws

all_parts_told : (ws : List WrongEntry) → T (parts_differ ws) → OtherParts ws
all_parts_told [] h = tt
all_parts_told (w ∷ ws) h =
    let k = both (other part_told (given w) (due w)) (parts_differ ws) h in
    (told part_told _ _ k.0, all_parts_told ws k.1)

pub other_parts : OtherParts wrong_entries
unfolding wrong_entries padded plain three three_short deep_short counted_down numbers row_of read_expr_within read_formula_within spelled_within found_within line_before_within lines_before_within lines_within line_at_within shorter
other_parts = all_parts_told wrong_entries tt
