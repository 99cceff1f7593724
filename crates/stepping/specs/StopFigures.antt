-- 02, P11, by computation, whole calls: 50 and 53 at each place and in each order, the edges of 64 bits, choose and connectives.
-- Assumes nothing.
use Rattle.std.specs.Prelude.{◌≡◌, refl, List, [], ◌∷◌, map, pos, negsuc}
use Rattle.script.specs.Computed.{◌⨾◌}
use Rattle.script.specs.Rows.{row, row_of}
use Rattle.script.specs.Trees.{expr, formula, stmt, expr_at, formula_at, stmt_at, tree, nesting}
use Rattle.script.specs.Refusals.{lowest, row_fault_within, linked, misread, misreads, length_test, row_test_within, script_test, unlinked_test, target_test, reading_test, nesting_test, verdict_within}
use Rattle.stepping.specs.Machine.{work, judge, due, machine_step, play, called, machine_run, machine_on}
use Rattle.stepping.specs.Figures.{scripted, Trial, runs, observed, expected}

-- ---- 50 and 53

unfoldable pub stops : List Trial
stops =
    -- 50 in an assigned expression
    runs
    (scripted ((2, 0, 0, 0) ⨾ (1, 1, 0, 0) ⨾ (3, 1, 2, 0) ⨾ (33, 2, 3, 0) ⨾ []) 4)
    (pos 9223372036854775807 ∷ []) 9
    50 4 0 (4 ∷ []) (pos 9223372036854775807 ∷ []) []
    -- in the guard of a branch
    ∷ runs
    (scripted ((2, 0, 0, 0) ⨾ (1, 1, 0, 0) ⨾ (3, 1, 2, 0) ⨾ (1, 0, 0, 0) ⨾ (20, 3, 4, 0) ⨾ (32, 0, 0, 0) ⨾ (32, 0, 0, 0)
    ⨾ (35, 5, 6, 7) ⨾ []) 8)
    (pos 9223372036854775807 ∷ []) 9
    50 8 0 (8 ∷ []) (pos 9223372036854775807 ∷ []) []
    -- in the guard of a loop
    ∷ runs
    (scripted ((2, 0, 0, 0) ⨾ (1, 1, 0, 0) ⨾ (3, 1, 2, 0) ⨾ (1, 0, 0, 0) ⨾ (20, 3, 4, 0) ⨾ (16, 0, 0, 0) ⨾ (1, 0, 0, 0)
    ⨾ (37, 6, 7, 0) ⨾ (32, 0, 0, 0) ⨾ (36, 5, 8, 9) ⨾ []) 10)
    (pos 9223372036854775807 ∷ []) 9
    50 10 0 (10 ∷ []) (pos 9223372036854775807 ∷ []) []
    -- in an assertion
    ∷ runs
    (scripted ((2, 0, 0, 0) ⨾ (1, 1, 0, 0) ⨾ (3, 1, 2, 0) ⨾ (1, 0, 0, 0) ⨾ (20, 3, 4, 0) ⨾ (38, 5, 0, 0) ⨾ []) 6)
    (pos 9223372036854775807 ∷ []) 9
    50 6 0 (6 ∷ []) (pos 9223372036854775807 ∷ []) []
    -- in a variant, where the guard is true
    ∷ runs
    (scripted ((16, 0, 0, 0) ⨾ (16, 0, 0, 0) ⨾ (2, 0, 0, 0) ⨾ (1, 1, 0, 0) ⨾ (3, 3, 4, 0) ⨾ (37, 2, 5, 0) ⨾ (32, 0, 0, 0)
    ⨾ (36, 1, 6, 7) ⨾ []) 8)
    (pos 9223372036854775807 ∷ []) 9
    50 8 0 (8 ∷ []) (pos 9223372036854775807 ∷ []) []
    -- where it is false, the variant is not worked out
    ∷ runs
    (scripted ((17, 0, 0, 0) ⨾ (16, 0, 0, 0) ⨾ (2, 0, 0, 0) ⨾ (1, 1, 0, 0) ⨾ (3, 3, 4, 0) ⨾ (37, 2, 5, 0) ⨾ (32, 0, 0, 0)
    ⨾ (36, 1, 6, 7) ⨾ []) 8)
    (pos 9223372036854775807 ∷ []) 9
    0 0 1 [] (pos 9223372036854775807 ∷ []) []
    -- 53 in an assigned expression
    ∷ runs
    (scripted ((1, 1, 0, 0) ⨾ (2, 1, 0, 0) ⨾ (6, 1, 2, 0) ⨾ (33, 2, 3, 0) ⨾ []) 4)
    [] 9
    53 4 0 (4 ∷ []) [] []
    -- in the guard of a branch
    ∷ runs
    (scripted ((1, 1, 0, 0) ⨾ (2, 1, 0, 0) ⨾ (6, 1, 2, 0) ⨾ (1, 0, 0, 0) ⨾ (20, 3, 4, 0) ⨾ (32, 0, 0, 0) ⨾ (32, 0, 0, 0)
    ⨾ (35, 5, 6, 7) ⨾ []) 8)
    [] 9
    53 8 0 (8 ∷ []) [] []
    -- in the guard of a loop
    ∷ runs
    (scripted ((1, 1, 0, 0) ⨾ (2, 1, 0, 0) ⨾ (6, 1, 2, 0) ⨾ (1, 0, 0, 0) ⨾ (20, 3, 4, 0) ⨾ (16, 0, 0, 0) ⨾ (1, 0, 0, 0)
    ⨾ (37, 6, 7, 0) ⨾ (32, 0, 0, 0) ⨾ (36, 5, 8, 9) ⨾ []) 10)
    [] 9
    53 10 0 (10 ∷ []) [] []
    -- mod too
    ∷ runs
    (scripted ((1, 1, 0, 0) ⨾ (2, 1, 0, 0) ⨾ (7, 1, 2, 0) ⨾ (33, 2, 3, 0) ⨾ []) 4)
    [] 9
    53 4 0 (4 ∷ []) [] []
    -- not in an assertion, where 1 div 0 is 0
    ∷ runs
    (scripted ((1, 1, 0, 0) ⨾ (2, 1, 0, 0) ⨾ (6, 1, 2, 0) ⨾ (1, 0, 0, 0) ⨾ (20, 3, 4, 0) ⨾ (38, 5, 0, 0) ⨾ []) 6)
    [] 9
    0 0 1 [] [] []
    -- nor in a variant
    ∷ runs
    (scripted ((16, 0, 0, 0) ⨾ (16, 0, 0, 0) ⨾ (1, 1, 0, 0) ⨾ (2, 1, 0, 0) ⨾ (6, 3, 4, 0) ⨾ (37, 2, 5, 0) ⨾ (32, 0, 0, 0)
    ⨾ (36, 1, 6, 7) ⨾ []) 8)
    [] 1
    54 7 1 (8 ∷ 7 ∷ []) [] ((8, pos 0) ∷ [])
    -- an assertion is false for what it totals to: 52
    ∷ runs
    (scripted ((1, 1, 0, 0) ⨾ (2, 1, 0, 0) ⨾ (6, 1, 2, 0) ⨾ (1, 1, 0, 0) ⨾ (20, 3, 4, 0) ⨾ (38, 5, 0, 0) ⨾ []) 6)
    [] 9
    52 6 0 (6 ∷ []) [] []
    -- operands left first: 50, then 53
    ∷ runs
    (scripted ((2, 0, 0, 0) ⨾ (1, 1, 0, 0) ⨾ (3, 1, 2, 0) ⨾ (1, 1, 0, 0) ⨾ (2, 1, 0, 0) ⨾ (6, 4, 5, 0) ⨾ (3, 3, 6, 0)
    ⨾ (33, 2, 7, 0) ⨾ []) 8)
    (pos 9223372036854775807 ∷ []) 9
    50 8 0 (8 ∷ []) (pos 9223372036854775807 ∷ []) []
    -- 53, then 50
    ∷ runs
    (scripted ((1, 1, 0, 0) ⨾ (2, 1, 0, 0) ⨾ (6, 1, 2, 0) ⨾ (2, 0, 0, 0) ⨾ (1, 1, 0, 0) ⨾ (3, 4, 5, 0) ⨾ (3, 3, 6, 0)
    ⨾ (33, 2, 7, 0) ⨾ []) 8)
    (pos 9223372036854775807 ∷ []) 9
    53 8 0 (8 ∷ []) (pos 9223372036854775807 ∷ []) []
    -- the divisor is looked at after both operands
    ∷ runs
    (scripted ((2, 0, 0, 0) ⨾ (1, 1, 0, 0) ⨾ (3, 1, 2, 0) ⨾ (2, 1, 0, 0) ⨾ (6, 3, 4, 0) ⨾ (33, 2, 5, 0) ⨾ []) 6)
    (pos 9223372036854775807 ∷ []) 9
    50 6 0 (6 ∷ []) (pos 9223372036854775807 ∷ []) []
    ∷ runs
    (scripted ((2, 0, 0, 0) ⨾ (2, 0, 0, 0) ⨾ (1, 1, 0, 0) ⨾ (3, 2, 3, 0) ⨾ (2, 1, 0, 0) ⨾ (6, 4, 5, 0) ⨾ (6, 1, 6, 0)
    ⨾ (33, 2, 7, 0) ⨾ []) 8)
    (pos 9223372036854775807 ∷ []) 9
    50 8 0 (8 ∷ []) (pos 9223372036854775807 ∷ []) []
    -- 50 of the divisor itself
    ∷ runs
    (scripted ((1, 1, 0, 0) ⨾ (2, 0, 0, 0) ⨾ (1, 1, 0, 0) ⨾ (3, 2, 3, 0) ⨾ (6, 1, 4, 0) ⨾ (33, 2, 5, 0) ⨾ []) 6)
    (pos 9223372036854775807 ∷ []) 9
    50 6 0 (6 ∷ []) (pos 9223372036854775807 ∷ []) []
    -- a later step is not reached
    ∷ runs
    (scripted ((1, 1, 0, 0) ⨾ (2, 1, 0, 0) ⨾ (6, 1, 2, 0) ⨾ (33, 2, 3, 0) ⨾ (2, 0, 0, 0) ⨾ (1, 1, 0, 0) ⨾ (3, 5, 6, 0)
    ⨾ (33, 2, 7, 0) ⨾ (34, 4, 8, 0) ⨾ []) 9)
    (pos 9223372036854775807 ∷ []) 9
    53 4 0 (9 ∷ []) (pos 9223372036854775807 ∷ []) []
    -- results count that are not stored: (v0 + 1) - 1
    ∷ runs
    (scripted ((2, 0, 0, 0) ⨾ (1, 1, 0, 0) ⨾ (3, 1, 2, 0) ⨾ (1, 1, 0, 0) ⨾ (4, 3, 4, 0) ⨾ (33, 2, 5, 0) ⨾ []) 6)
    (pos 9223372036854775807 ∷ []) 9
    50 6 0 (6 ∷ []) (pos 9223372036854775807 ∷ []) []
    -- comparisons too
    ∷ runs
    (scripted ((1, 1, 0, 0) ⨾ (2, 1, 0, 0) ⨾ (6, 1, 2, 0) ⨾ (2, 0, 0, 0) ⨾ (1, 1, 0, 0) ⨾ (3, 4, 5, 0) ⨾ (18, 3, 6, 0)
    ⨾ (32, 0, 0, 0) ⨾ (32, 0, 0, 0) ⨾ (35, 7, 8, 9) ⨾ []) 10)
    (pos 9223372036854775807 ∷ []) 9
    53 10 0 (10 ∷ []) (pos 9223372036854775807 ∷ []) []
    ∷ []

pub stops_hold : map observed stops ≡ map expected stops
unfolding ◌⨾◌ stops machine_run machine_on called play machine_step due work judge verdict_within length_test row_test_within script_test unlinked_test target_test reading_test nesting_test lowest row_fault_within linked misread misreads row row_of expr formula stmt expr_at formula_at stmt_at tree nesting
stops_hold = refl

-- ---- the edges of 64 bits

unfoldable pub edges : List Trial
edges =
    runs
    (scripted ((2, 0, 0, 0) ⨾ (1, 1, 0, 0) ⨾ (4, 1, 2, 0) ⨾ (1, 1, 0, 0) ⨾ (3, 3, 4, 0) ⨾ (33, 2, 5, 0) ⨾ []) 6)
    (pos 9223372036854775807 ∷ []) 9
    0 0 1 [] (pos 9223372036854775807 ∷ pos 0 ∷ pos 9223372036854775807 ∷ []) []
    -- least value div -1
    ∷ runs
    (scripted ((2, 0, 0, 0) ⨾ (1, 1, 0, 0) ⨾ (8, 2, 0, 0) ⨾ (6, 1, 3, 0) ⨾ (33, 2, 4, 0) ⨾ []) 5)
    (negsuc 9223372036854775807 ∷ []) 9
    50 5 0 (5 ∷ []) (negsuc 9223372036854775807 ∷ []) []
    -- mod never leaves
    ∷ runs
    (scripted ((2, 0, 0, 0) ⨾ (1, 1, 0, 0) ⨾ (8, 2, 0, 0) ⨾ (7, 1, 3, 0) ⨾ (33, 2, 4, 0) ⨾ []) 5)
    (negsuc 9223372036854775807 ∷ []) 9
    0 0 1 [] (negsuc 9223372036854775807 ∷ pos 0 ∷ pos 0 ∷ []) []
    -- negate
    ∷ runs
    (scripted ((2, 0, 0, 0) ⨾ (8, 1, 0, 0) ⨾ (33, 2, 2, 0) ⨾ []) 3)
    (negsuc 9223372036854775807 ∷ []) 9
    50 3 0 (3 ∷ []) (negsuc 9223372036854775807 ∷ []) []
    ∷ runs
    (scripted ((2, 0, 0, 0) ⨾ (8, 1, 0, 0) ⨾ (33, 2, 2, 0) ⨾ []) 3)
    (pos 9223372036854775807 ∷ []) 9
    0 0 1 [] (pos 9223372036854775807 ∷ pos 0 ∷ negsuc 9223372036854775806 ∷ []) []
    ∷ runs
    (scripted ((2, 0, 0, 0) ⨾ (1, 1, 0, 0) ⨾ (4, 1, 2, 0) ⨾ (33, 2, 3, 0) ⨾ []) 4)
    (negsuc 9223372036854775807 ∷ []) 9
    50 4 0 (4 ∷ []) (negsuc 9223372036854775807 ∷ []) []
    ∷ runs
    (scripted ((2, 0, 0, 0) ⨾ (1, 1, 0, 0) ⨾ (4, 1, 2, 0) ⨾ (33, 2, 3, 0) ⨾ []) 4)
    (negsuc 9223372036854775806 ∷ []) 9
    0 0 1 [] (negsuc 9223372036854775806 ∷ pos 0 ∷ negsuc 9223372036854775807 ∷ []) []
    ∷ runs
    (scripted ((2, 0, 0, 0) ⨾ (2, 3, 0, 0) ⨾ (5, 1, 2, 0) ⨾ (33, 2, 3, 0) ⨾ []) 4)
    (pos 4294967296 ∷ pos 0 ∷ pos 0 ∷ pos 2147483648 ∷ []) 9
    50 4 0 (4 ∷ []) (pos 4294967296 ∷ pos 0 ∷ pos 0 ∷ pos 2147483648 ∷ []) []
    ∷ runs
    (scripted ((2, 0, 0, 0) ⨾ (2, 3, 0, 0) ⨾ (5, 1, 2, 0) ⨾ (33, 2, 3, 0) ⨾ []) 4)
    (negsuc 4294967295 ∷ pos 0 ∷ pos 0 ∷ pos 2147483648 ∷ []) 9
    0 0 1 [] (negsuc 4294967295 ∷ pos 0 ∷ negsuc 9223372036854775807 ∷ pos 2147483648 ∷ []) []
    ∷ runs
    (scripted ((2, 0, 0, 0) ⨾ (2, 3, 0, 0) ⨾ (5, 1, 2, 0) ⨾ (33, 2, 3, 0) ⨾ []) 4)
    (pos 3037000500 ∷ pos 0 ∷ pos 0 ∷ pos 3037000500 ∷ []) 9
    50 4 0 (4 ∷ []) (pos 3037000500 ∷ pos 0 ∷ pos 0 ∷ pos 3037000500 ∷ []) []
    ∷ runs
    (scripted ((2, 0, 0, 0) ⨾ (2, 3, 0, 0) ⨾ (5, 1, 2, 0) ⨾ (33, 2, 3, 0) ⨾ []) 4)
    (pos 3037000499 ∷ pos 0 ∷ pos 0 ∷ pos 3037000499 ∷ []) 9
    0 0 1 [] (pos 3037000499 ∷ pos 0 ∷ pos 9223372030926249001 ∷ pos 3037000499 ∷ []) []
    ∷ runs
    (scripted ((2, 0, 0, 0) ⨾ (1, 2, 0, 0) ⨾ (6, 1, 2, 0) ⨾ (33, 2, 3, 0) ⨾ []) 4)
    (negsuc 6 ∷ []) 9
    0 0 1 [] (negsuc 6 ∷ pos 0 ∷ negsuc 3 ∷ []) []
    ∷ runs
    (scripted ((2, 0, 0, 0) ⨾ (1, 2, 0, 0) ⨾ (8, 2, 0, 0) ⨾ (7, 1, 3, 0) ⨾ (33, 2, 4, 0) ⨾ []) 5)
    (negsuc 6 ∷ []) 9
    0 0 1 [] (negsuc 6 ∷ pos 0 ∷ pos 1 ∷ []) []
    ∷ []

pub edges_hold : map observed edges ≡ map expected edges
unfolding ◌⨾◌ edges machine_run machine_on called play machine_step due work judge verdict_within length_test row_test_within script_test unlinked_test target_test reading_test nesting_test lowest row_fault_within linked misread misreads row row_of expr formula stmt expr_at formula_at stmt_at tree nesting
edges_hold = refl

-- ---- choose and connectives

unfoldable pub choices : List Trial
choices =
    -- the side taken alone is worked out
    runs
    (scripted ((16, 0, 0, 0) ⨾ (1, 1, 0, 0) ⨾ (1, 1, 0, 0) ⨾ (2, 1, 0, 0) ⨾ (6, 3, 4, 0) ⨾ (10, 1, 2, 5) ⨾ (33, 2, 6, 0)
    ⨾ []) 7)
    [] 9
    0 0 1 [] (pos 0 ∷ pos 0 ∷ pos 1 ∷ []) []
    ∷ runs
    (scripted ((17, 0, 0, 0) ⨾ (1, 1, 0, 0) ⨾ (2, 1, 0, 0) ⨾ (6, 2, 3, 0) ⨾ (1, 2, 0, 0) ⨾ (10, 1, 4, 5) ⨾ (33, 2, 6, 0)
    ⨾ []) 7)
    [] 9
    0 0 1 [] (pos 0 ∷ pos 0 ∷ pos 2 ∷ []) []
    ∷ runs
    (scripted ((17, 0, 0, 0) ⨾ (1, 1, 0, 0) ⨾ (1, 1, 0, 0) ⨾ (2, 1, 0, 0) ⨾ (6, 3, 4, 0) ⨾ (10, 1, 2, 5) ⨾ (33, 2, 6, 0)
    ⨾ []) 7)
    [] 9
    53 7 0 (7 ∷ []) [] []
    -- its formula always
    ∷ runs
    (scripted ((1, 1, 0, 0) ⨾ (2, 1, 0, 0) ⨾ (6, 1, 2, 0) ⨾ (1, 0, 0, 0) ⨾ (20, 3, 4, 0) ⨾ (1, 1, 0, 0) ⨾ (1, 1, 0, 0)
    ⨾ (10, 5, 6, 7) ⨾ (33, 2, 8, 0) ⨾ []) 9)
    [] 9
    53 9 0 (9 ∷ []) [] []
    -- both sides of an and
    ∷ runs
    (scripted ((17, 0, 0, 0) ⨾ (1, 1, 0, 0) ⨾ (2, 1, 0, 0) ⨾ (6, 2, 3, 0) ⨾ (1, 0, 0, 0) ⨾ (20, 4, 5, 0) ⨾ (23, 1, 6, 0)
    ⨾ (32, 0, 0, 0) ⨾ (32, 0, 0, 0) ⨾ (35, 7, 8, 9) ⨾ []) 10)
    [] 9
    53 10 0 (10 ∷ []) [] []
    -- of an or
    ∷ runs
    (scripted ((16, 0, 0, 0) ⨾ (1, 1, 0, 0) ⨾ (2, 1, 0, 0) ⨾ (6, 2, 3, 0) ⨾ (1, 0, 0, 0) ⨾ (20, 4, 5, 0) ⨾ (24, 1, 6, 0)
    ⨾ (32, 0, 0, 0) ⨾ (32, 0, 0, 0) ⨾ (35, 7, 8, 9) ⨾ []) 10)
    [] 9
    53 10 0 (10 ∷ []) [] []
    -- of an implies
    ∷ runs
    (scripted ((17, 0, 0, 0) ⨾ (1, 1, 0, 0) ⨾ (2, 1, 0, 0) ⨾ (6, 2, 3, 0) ⨾ (1, 0, 0, 0) ⨾ (20, 4, 5, 0) ⨾ (25, 1, 6, 0)
    ⨾ (32, 0, 0, 0) ⨾ (32, 0, 0, 0) ⨾ (35, 7, 8, 9) ⨾ []) 10)
    [] 9
    53 10 0 (10 ∷ []) [] []
    -- in annotations too
    ∷ runs
    (scripted ((16, 0, 0, 0) ⨾ (2, 0, 0, 0) ⨾ (1, 1, 0, 0) ⨾ (3, 2, 3, 0) ⨾ (1, 0, 0, 0) ⨾ (20, 4, 5, 0) ⨾ (24, 1, 6, 0)
    ⨾ (38, 7, 0, 0) ⨾ []) 8)
    (pos 9223372036854775807 ∷ []) 9
    50 8 0 (8 ∷ []) (pos 9223372036854775807 ∷ []) []
    ∷ runs
    (scripted ((16, 0, 0, 0) ⨾ (1, 1, 0, 0) ⨾ (2, 0, 0, 0) ⨾ (1, 1, 0, 0) ⨾ (3, 3, 4, 0) ⨾ (10, 1, 2, 5) ⨾ (1, 1, 0, 0)
    ⨾ (20, 6, 7, 0) ⨾ (38, 8, 0, 0) ⨾ []) 9)
    (pos 9223372036854775807 ∷ []) 9
    0 0 1 [] (pos 9223372036854775807 ∷ []) []
    ∷ []

pub choices_hold : map observed choices ≡ map expected choices
unfolding ◌⨾◌ choices machine_run machine_on called play machine_step due work judge verdict_within length_test row_test_within script_test unlinked_test target_test reading_test nesting_test lowest row_fault_within linked misread misreads row row_of expr formula stmt expr_at formula_at stmt_at tree nesting
choices_hold = refl
