-- 02, P6, by computation: lists with their trailers, in the form of 01 and in that of 02, P9, 20 and 31 with their
-- outputs, and the entry over two lists, of one form or of both, with its refusals in order. Assumes nothing.
use Rattle.std.specs.Prelude.{ℕ, ◌≡◌, refl, List, [], ◌∷◌, ◌++◌, map, ℤ, pos, negsuc}
use Rattle.script.specs.Computed.{◌⨾◌, numbers, counted_down, example, example_a}
use Rattle.script.specs.Rows.{row, row_of}
use Rattle.script.specs.Trees.{expr, formula, stmt, expr_at, formula_at, stmt_at, tree}
use Rattle.script.specs.Conditions.{conditions, walk, wp, divisors, divisorsᶠ, subst_expr, subst_formula}
use Rattle.script.specs.Words.{Form, without_depth, with_depth, expr_words, formula_words, line_words, all_lines, list_words}
use Rattle.script.specs.Listing.{read_list, read_expr_within, read_formula_within, spelled_within, found_within, line_before_within, lines_before_within, lines_within, line_at_within}
use Rattle.shortening.specs.Simplify.{order, arith_node, join_node, not_node, shorten}
use Rattle.shortening.specs.Shortened.{Written, refuse, written, old, new, Part, no_part, shorter}

-- ---- one list

-- main, of the script in row 3: true implies true; and its shortened list
unfoldable pub padded : List ℤ
padded = numbers (25 ∷ 16 ∷ 16 ∷ 4 ∷ 3 ∷ 3 ∷ 1 ∷ [])

unfoldable pub plain : List ℤ
plain = numbers (16 ∷ 4 ∷ 3 ∷ 1 ∷ 1 ∷ [])

-- exit of row 7: true and 0 − 0 = v1023; guard of row 2,047: not false; main of row 9: true or m3 < 0
unfoldable pub three : List ℤ
three =
    numbers (23 ∷ 16 ∷ 20 ∷ 4 ∷ 1 ∷ 0 ∷ 1 ∷ 0 ∷ 2 ∷ 1023 ∷ 1 ∷ 7 ∷ 10
    ∷ 22 ∷ 17 ∷ 5 ∷ 2047 ∷ 2
    ∷ 24 ∷ 16 ∷ 18 ∷ 9 ∷ 3 ∷ 1 ∷ 0 ∷ 4 ∷ 9 ∷ 7 ∷ 3 ∷ [])

-- of 0 − 0, `1 0` is left
unfoldable pub three_short : List ℤ
three_short =
    numbers (20 ∷ 1 ∷ 0 ∷ 2 ∷ 1023 ∷ 1 ∷ 7 ∷ 5
    ∷ 16 ∷ 5 ∷ 2047 ∷ 1
    ∷ 24 ∷ 16 ∷ 18 ∷ 9 ∷ 3 ∷ 1 ∷ 0 ∷ 4 ∷ 9 ∷ 7 ∷ 3 ∷ [])

-- the same in the form of 02, P9, with depths 1, 7 and 0
unfoldable pub deep : List ℤ
deep =
    counted_down (23 ∷ 16 ∷ 20 ∷ 4 ∷ 1 ∷ 0 ∷ 1 ∷ 0 ∷ 2 ∷ 1023 ∷ 1 ∷ 7 ∷ 10 ∷ 1
    ∷ 22 ∷ 17 ∷ 5 ∷ 2047 ∷ 2 ∷ 7
    ∷ 24 ∷ 16 ∷ 18 ∷ 9 ∷ 3 ∷ 1 ∷ 0 ∷ 4 ∷ 9 ∷ 7 ∷ 0 ∷ []) 3

unfoldable pub deep_short : List ℤ
deep_short =
    counted_down (20 ∷ 1 ∷ 0 ∷ 2 ∷ 1023 ∷ 1 ∷ 7 ∷ 5 ∷ 1
    ∷ 16 ∷ 5 ∷ 2047 ∷ 1 ∷ 7
    ∷ 24 ∷ 16 ∷ 18 ∷ 9 ∷ 3 ∷ 1 ∷ 0 ∷ 4 ∷ 9 ∷ 7 ∷ 0 ∷ []) 3

-- the list of example A, in which nothing is to be shortened
list_a : Form → List ℤ
list_a form = list_words form (conditions (tree example_a))

-- not true, of a kind and a row; and v = 0, by main of row 0
of_kind : ℕ → ℕ → List ℤ
of_kind k r = numbers (22 ∷ 16 ∷ k ∷ r ∷ 2 ∷ 1 ∷ [])

one_variable : ℕ → List ℤ
one_variable v = numbers (20 ∷ 2 ∷ v ∷ 1 ∷ 0 ∷ 4 ∷ 0 ∷ 5 ∷ 1 ∷ [])

-- not true, by exit of row 7, with a fourth word and a last one
with_words : ℤ → ℤ → List ℤ
with_words d n = numbers (22 ∷ 16 ∷ 1 ∷ 7 ∷ 2 ∷ []) ++ (d ∷ n ∷ [])

-- words and a room, with what is answered and left
list_figures : List ((List ℤ × ℕ) × Written)
list_figures =
    ((padded, 5), record { number = 0; used = 5; list = plain })
    ∷ ((padded, 7), record { number = 0; used = 5; list = plain ++ numbers (0 ∷ 0 ∷ []) })
    -- "31 when the output is too short": by one word, and of no words
    ∷ ((padded, 4), record { number = 31; used = 0; list = numbers (0 ∷ 0 ∷ 0 ∷ 0 ∷ []) })
    ∷ ((padded, 0), record { number = 31; used = 0; list = [] })
    -- "Trailers get the new lengths."
    ∷ ((three, 23), record { number = 0; used = 23; list = three_short })
    ∷ ((three, 22), refuse 31 22)
    ∷ ((three_short, 23), record { number = 0; used = 23; list = three_short })
    ∷ ((list_a without_depth, 94), record { number = 0; used = 94; list = list_a without_depth })
    ∷ ((list_a without_depth, 93), refuse 31 93)
    ∷ ((of_kind 5 2047, 6), record { number = 0; used = 5; list = numbers (17 ∷ 5 ∷ 2047 ∷ 1 ∷ 1 ∷ 0 ∷ []) })
    ∷ ((one_variable 1023, 9), record { number = 0; used = 9; list = one_variable 1023 })
    -- 20: a kind 6, a row 2,048, a variable 1,024, a word at the front, no words; "after 20" 31
    ∷ ((of_kind 6 0, 6), refuse 20 6)
    ∷ ((of_kind 4 2048, 6), refuse 20 6)
    ∷ ((one_variable 1024, 9), refuse 20 9)
    ∷ ((pos 16 ∷ padded, 3), record { number = 20; used = 0; list = numbers (0 ∷ 0 ∷ 0 ∷ []) })
    ∷ ((pos 16 ∷ padded, 0), refuse 20 0)
    ∷ (([], 0), refuse 20 0)
    -- 02, P9: "P6 writing the one it read"
    ∷ ((deep, 26), record { number = 0; used = 26; list = deep_short })
    ∷ ((deep, 27), record { number = 0; used = 26; list = deep_short ++ numbers (0 ∷ []) })
    ∷ ((deep, 25), refuse 31 25)
    ∷ ((deep_short, 26), record { number = 0; used = 26; list = deep_short })
    ∷ ((list_a with_depth, 98), record { number = 0; used = 98; list = list_a with_depth })
    ∷ ((list_a with_depth, 97), refuse 31 97)
    ∷ ((with_words (pos 7) (negsuc 0), 6), record { number = 0; used = 6; list = counted_down (17 ∷ 1 ∷ 7 ∷ 1 ∷ 7 ∷ []) 1 })
    -- "20 when the fourth word is not 0 to 7"; three words with minus the count, four with the count; last words that are none
    ∷ ((with_words (pos 8) (negsuc 0), 7), refuse 20 7)
    ∷ ((with_words (negsuc 0) (negsuc 0), 7), refuse 20 7)
    ∷ ((counted_down (16 ∷ 4 ∷ 3 ∷ 1 ∷ []) 1, 7), refuse 20 7)
    ∷ ((with_words (pos 7) (pos 1), 7), refuse 20 7)
    ∷ ((with_words (pos 7) (pos 0), 7), refuse 20 7)
    ∷ ((with_words (pos 7) (negsuc 2147483647), 7), refuse 20 7)
    ∷ []

lists_hold : map (λ (f : (List ℤ × ℕ) × Written). written order f.0.0 f.0.1) list_figures
    ≡ map (λ (f : (List ℤ × ℕ) × Written). f.1) list_figures
unfolding list_figures padded plain three three_short deep deep_short list_a of_kind one_variable with_words counted_down numbers example_a example ◌⨾◌ row row_of expr formula stmt expr_at formula_at stmt_at tree conditions walk wp divisors divisorsᶠ subst_expr subst_formula list_words all_lines line_words expr_words formula_words read_expr_within read_formula_within spelled_within found_within line_before_within lines_before_within lines_within read_list written shorten arith_node join_node not_node
lists_hold = refl

-- ---- two lists and an index

abbrev Call : Type 0
Call = List ℤ × List ℤ × ℤ

two_list_figures : List (Call × Part)
two_list_figures =
    -- "hands back the shorter of the two as a part of the slice it stands in, the old one if equal"
    ((padded, plain, pos 0), record { number = 0; which = new; start = 0; end = 1 })
    ∷ ((plain, padded, pos 0), record { number = 0; which = old; start = 0; end = 1 })
    ∷ ((plain, plain, pos 0), record { number = 0; which = old; start = 0; end = 1 })
    ∷ ((three, three_short, pos 0), record { number = 0; which = new; start = 0; end = 5 })
    ∷ ((three, three_short, pos 1), record { number = 0; which = new; start = 8; end = 9 })
    ∷ ((three, three_short, pos 2), record { number = 0; which = old; start = 18; end = 25 })
    -- two lists that do not belong together
    ∷ ((three, padded, pos 0), record { number = 0; which = new; start = 0; end = 3 })
    ∷ ((padded, three, pos 0), record { number = 0; which = old; start = 0; end = 3 })
    -- 02, P9: lists of both forms
    ∷ ((deep, deep_short, pos 1), record { number = 0; which = new; start = 9; end = 10 })
    ∷ ((deep, deep_short, pos 2), record { number = 0; which = old; start = 20; end = 27 })
    ∷ ((three, deep_short, pos 1), record { number = 0; which = new; start = 9; end = 10 })
    ∷ ((deep, three_short, pos 1), record { number = 0; which = new; start = 8; end = 9 })
    ∷ ((deep, three_short, pos 2), record { number = 0; which = old; start = 20; end = 27 })
    ∷ ((three, deep, pos 2), record { number = 0; which = old; start = 18; end = 25 })
    -- "20, then 21, for the old list"
    ∷ ((pos 16 ∷ padded, plain, pos 0), no_part 20)
    ∷ ((pos 16 ∷ padded, [], negsuc 0), no_part 20)
    ∷ ((padded, plain, pos 1), no_part 21)
    ∷ ((padded, [], pos 1), no_part 21)
    ∷ ((padded, [], negsuc 2147483647), no_part 21)
    -- "then for the new"
    ∷ ((padded, [], pos 0), no_part 20)
    ∷ ((three, pos 16 ∷ plain, pos 2), no_part 20)
    ∷ ((three, plain, pos 1), no_part 21)
    ∷ ((deep, plain, pos 1), no_part 21)
    ∷ ((plain, deep, pos 1), no_part 21)
    ∷ ((three, with_words (pos 8) (negsuc 0), pos 0), no_part 20)
    -- "with the empty part at the old one's front"
    ∷ ((three, plain, pos 2), record { number = 21; which = old; start = 0; end = 0 })
    ∷ []

two_lists_hold : map (λ (f : Call × Part). shorter f.0.0 f.0.1 f.0.2) two_list_figures
    ≡ map (λ (f : Call × Part). f.1) two_list_figures
unfolding two_list_figures padded plain three three_short deep deep_short with_words counted_down numbers row_of read_expr_within read_formula_within spelled_within found_within line_before_within lines_before_within lines_within line_at_within shorter
two_lists_hold = refl
