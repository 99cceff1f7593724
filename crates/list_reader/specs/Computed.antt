-- Where an expression or a formula ends, how long a trailer is, and where a reader goes on, computed at one input or a few each: a
-- wrong answer differs there.
-- Assumes nothing.
use Rattle.std.specs.Prelude.{◌≡◌, refl, [], ◌∷◌, pos, negsuc}
use Rattle.script.specs.Rows.{row_of}
use Rattle.script.specs.Listing.{no_line, trailer_length, form_of, read_expr_within, read_formula_within}
use Rattle.script.specs.Computed.{numbers}
use Rattle.list_reader.specs.Lines.{place_after}
use Rattle.list_reader.specs.Ends.{after_expression, after_formula, expression_end, formula_end}

-- a negation takes what it negates, a variable its number; true is no expression, and no expression ends one word past the end
expression_ends : (expression_end (numbers (8 ∷ 2 ∷ 0 ∷ 16 ∷ [])) 0 ≡ 3)
    × ((expression_end (numbers (8 ∷ 2 ∷ 0 ∷ 16 ∷ [])) 1 ≡ 3) × (expression_end (numbers (8 ∷ 2 ∷ 0 ∷ 16 ∷ [])) 3 ≡ 5))
unfolding numbers row_of read_expr_within read_formula_within after_expression expression_end
expression_ends = (refl, (refl, refl))

-- a comparison takes both its sides, and no more; a variable is no formula
formula_ends : (formula_end (numbers (22 ∷ 20 ∷ 2 ∷ 0 ∷ 1 ∷ 0 ∷ 16 ∷ [])) 0 ≡ 6)
    × ((formula_end (numbers (22 ∷ 20 ∷ 2 ∷ 0 ∷ 1 ∷ 0 ∷ 16 ∷ [])) 6 ≡ 7) × (formula_end (numbers (22 ∷ 20 ∷ 2 ∷ 0 ∷ 1 ∷ 0 ∷ 16 ∷ [])) 2 ≡ 8))
unfolding numbers row_of read_expr_within read_formula_within after_formula formula_end
formula_ends = (refl, (refl, refl))

-- the sign of the last word tells a trailer's length: of a count, of none, of minus a count, of the least word; three without words
trailer_lengths : (trailer_length (form_of (pos 1 ∷ [])) ≡ 3)
    × (trailer_length (form_of (pos 0 ∷ [])) ≡ 3)
    × (trailer_length (form_of (negsuc 0 ∷ [])) ≡ 4)
    × (trailer_length (form_of (negsuc 2147483647 ∷ [])) ≡ 4)
    × (trailer_length (form_of []) ≡ 3)
trailer_lengths = (refl, refl, refl, refl, refl)

-- from the place 8: before a line that was read, and where it was after a refusal
goes_on : (place_after (record { number = 0; kind = 4; row = 6; depth = 1; start = 4; end = 5 }) 8 ≡ 4) × (place_after (no_line 20) 8 ≡ 8)
goes_on = (refl, refl)
