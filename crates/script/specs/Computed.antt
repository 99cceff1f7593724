-- 01, "Trial rows": the starred ones, and those of the others that computation reaches, as rows of a single statement that
-- the prover settles by computing the definitions. 02, P2, moves one of them, "the case with target 256 becomes planned": within
-- 256 variables it is what 01 says. Beside it stand rows at both limits. 02, P8, moves those with scratch 281, 13 and 0; what
-- they were is in the theorems' `ScratchRules`. 02, P9: "Example A grows to 98 words, the four-row script's list to 8, and their trial
-- rooms move with them." Those of 02, P5, are in `DivisionFigures`, more of P9 in `DepthFigures`. Assumes nothing.
use Rattle.std.specs.Prelude.{ℕ, zero, suc, ◌+◌, ◌*◌, ◌≡◌, refl, Bool, true, false, List, [], ◌∷◌, ◌++◌, map, ℤ, pos, negsuc, neg_ℤ, take}
use Rattle.std.proofs.Common.{lit≤}
use Rattle.script.specs.declared.Answer.{Answer}
use Rattle.script.specs.declared.Line.{Line}
use Rattle.script.specs.Syntax.{const, var, arith, truth, cmp, assign, loop, Tree}
use Rattle.script.specs.declared.Operator.TheVariants.{Minus}
use Rattle.script.specs.declared.Relation.TheVariants.{AtMost}
use Rattle.script.specs.Meaning.{State, divZ, modZ, whole, value, holds, defined, definedᶠ}
use Rattle.script.specs.Run.{Frame, begin, again, Config, at, failed, first_step, step_of, step, after, start, Good}
use Rattle.script.specs.Run as Run
use Rattle.script.specs.Conditions.{conditions, walk, wp, divisors, divisorsᶠ, subst_expr, subst_formula}
use Rattle.script.specs.Words.{list_words, all_lines, line_words, expr_words, formula_words}
use Rattle.script.specs.Rows.{row, row_of}
use Rattle.script.specs.Trees.{expr, formula, stmt, expr_at, formula_at, stmt_at, tree, nesting}
use Rattle.script.specs.Refusals.{Verdict, accepted, refused, bad_length, lowest, row_fault_within, linked, misread, misreads, length_test, row_test_within, script_test, unlinked_test, target_test, reading_test, nesting_test, verdict, verdict_within}
use Rattle.script.specs.Generated.{zeros, outcome_for, outcome, outcome_within, refusal}
use Rattle.script.specs.Listing.{read_expr_within, read_formula_within, spelled_within, found_within, line_before_within, lines_before_within, lines_within, line_at, line_at_within, no_line}

-- ---- tables

infixr 20 ◌⨾◌
abbrev pub Row4 : Type 0
Row4 = ℕ × ℕ × ℕ × ℕ

-- a row, then the words after it
unfoldable pub ◌⨾◌ : Row4 → List ℤ → List ℤ
r ⨾ ws = pos r.0 ∷ pos r.1 ∷ pos r.2 ∷ pos r.3 ∷ ws

-- example A, with its rows 9, 13 and 14
unfoldable pub example : Row4 → Row4 → Row4 → List ℤ
example row-9 row-13 row-14 =
    (1, 0, 0, 0) ⨾ (2, 0, 0, 0) ⨾ (19, 0, 1, 0) ⨾ (1, 0, 0, 0) ⨾ (2, 0, 0, 0) ⨾ (18, 3, 4, 0)
    ⨾ (1, 0, 0, 0) ⨾ (2, 0, 0, 0) ⨾ (19, 6, 7, 0) ⨾ row-9 ⨾ (37, 8, 9, 0)
    ⨾ (2, 0, 0, 0) ⨾ (1, 1, 0, 0) ⨾ row-13 ⨾ row-14 ⨾ (36, 5, 10, 14)
    ⨾ (2, 0, 0, 0) ⨾ (1, 0, 0, 0) ⨾ (20, 16, 17, 0) ⨾ (48, 2, 15, 18) ⨾ []

unfoldable pub example_a : List ℤ
example_a = example (2, 0, 0, 0) (4, 11, 12, 0) (33, 0, 13, 0)

unfoldable pub four_rows : List ℤ
four_rows = (16, 0, 0, 0) ⨾ (32, 0, 0, 0) ⨾ (16, 0, 0, 0) ⨾ (48, 0, 1, 2) ⨾ []

-- skip; skip; skip; skip: its list is as short, and its rows are more than its words
unfoldable pub four_skips : List ℤ
four_skips =
    (16, 0, 0, 0) ⨾ (32, 0, 0, 0) ⨾ (32, 0, 0, 0) ⨾ (34, 1, 2, 0) ⨾ (32, 0, 0, 0) ⨾ (34, 3, 4, 0) ⨾ (32, 0, 0, 0) ⨾ (34, 5, 6, 0)
    ⨾ (16, 0, 0, 0) ⨾ (48, 0, 7, 8) ⨾ []

-- true; if true then while true do skip (invariant true, variant 0) else while false do skip (true, 1); true
unfoldable pub loops_in_branches : List ℤ
loops_in_branches =
    (16, 0, 0, 0) ⨾ (16, 0, 0, 0) ⨾ (16, 0, 0, 0) ⨾ (16, 0, 0, 0) ⨾ (1, 0, 0, 0) ⨾ (37, 3, 4, 0) ⨾ (32, 0, 0, 0) ⨾ (36, 2, 5, 6)
    ⨾ (17, 0, 0, 0) ⨾ (16, 0, 0, 0) ⨾ (1, 1, 0, 0) ⨾ (37, 9, 10, 0) ⨾ (32, 0, 0, 0) ⨾ (36, 8, 11, 12)
    ⨾ (35, 1, 7, 13) ⨾ (16, 0, 0, 0) ⨾ (48, 0, 14, 15) ⨾ []

-- while false (true, 0) do skip, then while false (true, 1) do assert true: the second one's conditions come first
unfoldable pub loops_in_sequence : List ℤ
loops_in_sequence =
    (16, 0, 0, 0) ⨾ (17, 0, 0, 0) ⨾ (16, 0, 0, 0) ⨾ (1, 0, 0, 0) ⨾ (37, 2, 3, 0) ⨾ (32, 0, 0, 0) ⨾ (36, 1, 4, 5)
    ⨾ (17, 0, 0, 0) ⨾ (16, 0, 0, 0) ⨾ (1, 1, 0, 0) ⨾ (37, 8, 9, 0) ⨾ (16, 0, 0, 0) ⨾ (38, 11, 0, 0) ⨾ (36, 7, 10, 12)
    ⨾ (34, 6, 13, 0) ⨾ (16, 0, 0, 0) ⨾ (48, 0, 14, 15) ⨾ []

-- while true (true, 0) do while false (true, 1) do skip: the inner one is walked with what its outer one has to restore
unfoldable pub loop_in_loop : List ℤ
loop_in_loop =
    (16, 0, 0, 0) ⨾ (16, 0, 0, 0) ⨾ (16, 0, 0, 0) ⨾ (1, 0, 0, 0) ⨾ (37, 2, 3, 0)
    ⨾ (17, 0, 0, 0) ⨾ (16, 0, 0, 0) ⨾ (1, 1, 0, 0) ⨾ (37, 6, 7, 0) ⨾ (32, 0, 0, 0) ⨾ (36, 5, 8, 9)
    ⨾ (36, 1, 4, 10) ⨾ (16, 0, 0, 0) ⨾ (48, 0, 11, 12) ⨾ []

-- n branches, each the then part of the next; the last stands at row 3 × n
branches : ℕ → List ℤ
branches zero = (32, 0, 0, 0) ⨾ []
branches (suc n) = branches n ++ ((16, 0, 0, 0) ⨾ (32, 0, 0, 0) ⨾ (35, 3 * n + 1, 3 * n, 3 * n + 2) ⨾ [])

nested : ℕ → List ℤ
nested n = branches n ++ ((16, 0, 0, 0) ⨾ (16, 0, 0, 0) ⨾ (48, 3 * n + 1, 3 * n, 3 * n + 2) ⨾ [])

-- with variable g in a guard, t assigned to and n in annotations: vn = 0; if vg < 0 then vt := 0 else skip; vn = 0
names_in : ℕ → ℕ → ℕ → List ℤ
names_in g t n =
    (2, n, 0, 0) ⨾ (1, 0, 0, 0) ⨾ (20, 0, 1, 0) ⨾ (2, g, 0, 0) ⨾ (1, 0, 0, 0) ⨾ (18, 3, 4, 0) ⨾ (1, 0, 0, 0) ⨾ (33, t, 6, 0)
    ⨾ (32, 0, 0, 0) ⨾ (35, 5, 7, 8) ⨾ (2, n, 0, 0) ⨾ (1, 0, 0, 0) ⨾ (20, 10, 11, 0) ⨾ (48, 2, 9, 12) ⨾ []

-- main, of the script in row 0: v = 0
one_variable : ℕ → List ℤ
one_variable v = pos 20 ∷ pos 2 ∷ pos v ∷ pos 1 ∷ pos 0 ∷ pos 4 ∷ pos 0 ∷ pos 5 ∷ pos 1 ∷ []

unfoldable pub numbers : List ℕ → List ℤ
numbers [] = []
numbers (n ∷ ns) = pos n ∷ numbers ns

-- the words of a list with depths, from those before its last one and the number of its conditions
unfoldable pub counted_down : List ℕ → ℕ → List ℤ
counted_down ws n = numbers ws ++ (neg_ℤ (pos n) ∷ [])

-- ---- trials

pub data Trial : Type 0 where
  -- table, room, scratch, answer
  generates : List ℤ → ℕ → ℕ → Answer → Trial
  -- table, the words of its list but the last, the number of its conditions
  lists : List ℤ → List ℕ → ℕ → Trial
  -- table, verdict
  judges : List ℤ → Verdict → Trial
  -- how many variables there are, table, verdict
  judges_within : ℕ → List ℤ → Verdict → Trial
  -- a number of words, whether the length test refuses it
  measures : ℕ → Bool → Trial
  -- dividend, divisor, quotient, remainder
  divides : ℤ → ℤ → ℤ → ℤ → Trial
  -- words, index, line
  reads : List ℤ → ℤ → Line → Trial
  -- how many variables there are, words, index, line
  reads_within : ℕ → List ℤ → ℤ → Line → Trial

pub data Observed : Type 0 where
  answer : Answer → Observed
  words : List ℤ → Observed
  verdict_is : Verdict → Observed
  test : Bool → Observed
  division : ℤ → ℤ → Observed
  line : Line → Observed

abbrev planned : ℕ → ℕ → Answer
planned n w = record { number = 0; row = 0; conditions = n; words = w }

unfoldable pub observed : Trial → Observed
observed (generates t l s a) = answer (outcome t l s).answer
observed (lists t ws n) = words (take (outcome t 512 5120).answer.words (outcome t 512 5120).list)
observed (judges t v) = verdict_is (verdict t)
observed (judges_within n t v) = verdict_is (verdict_within n t)
observed (measures n b) = test (bad_length n)
observed (divides n d q r) = division (divZ n d) (modZ n d)
observed (reads ws i l) = line (line_at ws i)
observed (reads_within n ws i l) = line (line_at_within n ws i)

unfoldable pub expected : Trial → Observed
expected (generates t l s a) = answer a
expected (lists t ws n) = words (counted_down ws n)
expected (judges t v) = verdict_is v
expected (judges_within n t v) = verdict_is v
expected (measures n b) = test b
expected (divides n d q r) = division q r
expected (reads ws i l) = line l
expected (reads_within n ws i l) = line l

trials : List Trial
trials =
    generates example_a 512 5120 (planned 4 98)
    ∷ generates example_a 97 5120 (refusal 12 0)
    ∷ generates example_a 98 281 (planned 4 98)
    ∷ generates example_a 98 282 (planned 4 98)
    ∷ generates example_a 98 40 (planned 4 98)
    ∷ generates example_a 98 39 (refusal 11 0)
    ∷ generates example_a 97 39 (refusal 11 0)
    ∷ generates example_a 97 40 (refusal 12 0)
    ∷ lists four_rows (25 ∷ 16 ∷ 16 ∷ 4 ∷ 3 ∷ 3 ∷ 0 ∷ []) 1
    ∷ generates four_rows 7 12 (refusal 12 0)
    ∷ generates four_rows 8 13 (planned 1 8)
    ∷ generates four_rows 8 8 (planned 1 8)
    ∷ generates four_rows 8 7 (refusal 11 0)
    ∷ generates four_rows 0 0 (refusal 11 0)
    ∷ generates four_rows 0 7 (refusal 11 0)
    ∷ generates four_rows 0 8 (refusal 12 0)
    ∷ generates four_skips 8 19 (refusal 11 0)
    ∷ generates four_skips 8 20 (planned 1 8)
    ∷ generates [] 512 5120 (refusal 1 0)
    ∷ measures 8192 false
    ∷ measures 8196 true
    ∷ judges (zeros 8192) (refused 2 0)
    ∷ judges (zeros 8196) (refused 1 0)
    ∷ divides (negsuc 6) (pos 2) (negsuc 3) (pos 1)
    ∷ divides (pos 7) (negsuc 1) (negsuc 2) (pos 1)
    ∷ divides (negsuc 6) (negsuc 1) (pos 4) (pos 1)
    ∷ divides (pos 5) (pos 0) (pos 0) (pos 5)
    ∷ generates (example (2, 0, 0, 0) (4, 11, 12, 0) (33, 128, 13, 0)) 512 5120 (refusal 8 14)
    ∷ judges_within 256 (example (2, 0, 0, 0) (4, 11, 12, 0) (33, 256, 13, 0)) (refused 3 14)
    ∷ judges_within 256 (names_in 127 127 255) accepted
    ∷ judges_within 256 (names_in 255 0 0) (refused 9 3)
    ∷ judges_within 256 (names_in 0 255 0) (refused 8 7)
    ∷ judges_within 256 (names_in 256 0 0) (refused 3 3)
    ∷ judges_within 256 (names_in 0 256 0) (refused 3 7)
    ∷ judges_within 256 (names_in 0 0 256) (refused 3 0)
    ∷ generates (example (2, 0, 0, 0) (4, 11, 12, 0) (33, 256, 13, 0)) 512 5120 (planned 4 92)
    ∷ generates (example (2, 0, 0, 0) (4, 11, 12, 0) (33, 255, 13, 0)) 512 5120 (refusal 8 14)
    ∷ generates (example (2, 0, 0, 0) (4, 11, 12, 0) (33, 1024, 13, 0)) 512 5120 (refusal 3 14)
    ∷ judges (names_in 127 127 127) accepted
    ∷ judges (names_in 0 0 128) accepted
    ∷ judges (names_in 0 0 255) accepted
    ∷ judges (names_in 256 256 256) accepted
    ∷ judges (names_in 1023 1023 1023) accepted
    ∷ judges (names_in 128 0 0) (refused 9 3)
    ∷ judges (names_in 255 0 0) (refused 9 3)
    ∷ judges (names_in 1024 0 0) (refused 3 3)
    ∷ judges (names_in 0 128 0) (refused 8 7)
    ∷ judges (names_in 0 255 0) (refused 8 7)
    ∷ judges (names_in 0 1024 0) (refused 3 7)
    ∷ judges (names_in 0 0 1024) (refused 3 0)
    ∷ generates (example (9, 15, 0, 0) (4, 11, 12, 0) (33, 0, 13, 0)) 512 5120 (refusal 9 9)
    ∷ generates (example (2, 0, 0, 0) (4, 11, 11, 0) (33, 0, 13, 0)) 512 5120 (refusal 6 13)
    ∷ generates (example (2, 0, 0, 0) (4, 11, 13, 0) (33, 0, 13, 0)) 512 5120 (refusal 4 13)
    ∷ judges (nested 8) accepted
    ∷ judges (nested 9) (refused 10 0)
    ∷ lists example_a
    (25 ∷ 23 ∷ 19 ∷ 1 ∷ 0 ∷ 2 ∷ 0 ∷ 22 ∷ 18 ∷ 1 ∷ 0 ∷ 2 ∷ 0 ∷ 20 ∷ 2 ∷ 0 ∷ 1 ∷ 0 ∷ 1 ∷ 15 ∷ 18 ∷ 0
    ∷ 25 ∷ 23 ∷ 19 ∷ 1 ∷ 0 ∷ 2 ∷ 0 ∷ 18 ∷ 1 ∷ 0 ∷ 2 ∷ 0 ∷ 19 ∷ 1 ∷ 0 ∷ 2 ∷ 0 ∷ 2 ∷ 15 ∷ 17 ∷ 0
    ∷ 25 ∷ 23 ∷ 23 ∷ 19 ∷ 1 ∷ 0 ∷ 2 ∷ 0 ∷ 18 ∷ 1 ∷ 0 ∷ 2 ∷ 0 ∷ 20 ∷ 2 ∷ 0 ∷ 9 ∷ 15
    ∷ 23 ∷ 19 ∷ 1 ∷ 0 ∷ 4 ∷ 2 ∷ 0 ∷ 1 ∷ 1 ∷ 18 ∷ 4 ∷ 2 ∷ 0 ∷ 1 ∷ 1 ∷ 9 ∷ 15 ∷ 3 ∷ 15 ∷ 35 ∷ 0
    ∷ 25 ∷ 19 ∷ 1 ∷ 0 ∷ 2 ∷ 0 ∷ 19 ∷ 1 ∷ 0 ∷ 2 ∷ 0 ∷ 4 ∷ 19 ∷ 11 ∷ 0 ∷ []) 4
    ∷ lists loops_in_branches
    (25 ∷ 23 ∷ 16 ∷ 22 ∷ 16 ∷ 16 ∷ 1 ∷ 7 ∷ 6 ∷ 0
    ∷ 25 ∷ 23 ∷ 16 ∷ 16 ∷ 19 ∷ 1 ∷ 0 ∷ 1 ∷ 0 ∷ 2 ∷ 7 ∷ 9 ∷ 0
    ∷ 25 ∷ 23 ∷ 23 ∷ 16 ∷ 16 ∷ 20 ∷ 1 ∷ 0 ∷ 9 ∷ 7 ∷ 23 ∷ 16 ∷ 18 ∷ 1 ∷ 0 ∷ 9 ∷ 7 ∷ 3 ∷ 7 ∷ 17 ∷ 0
    ∷ 25 ∷ 23 ∷ 16 ∷ 22 ∷ 17 ∷ 16 ∷ 1 ∷ 13 ∷ 6 ∷ 0
    ∷ 25 ∷ 23 ∷ 16 ∷ 17 ∷ 19 ∷ 1 ∷ 0 ∷ 1 ∷ 1 ∷ 2 ∷ 13 ∷ 9 ∷ 0
    ∷ 25 ∷ 23 ∷ 23 ∷ 16 ∷ 17 ∷ 20 ∷ 1 ∷ 1 ∷ 9 ∷ 13 ∷ 23 ∷ 16 ∷ 18 ∷ 1 ∷ 1 ∷ 9 ∷ 13 ∷ 3 ∷ 13 ∷ 17 ∷ 0
    ∷ 25 ∷ 16 ∷ 23 ∷ 25 ∷ 16 ∷ 16 ∷ 25 ∷ 22 ∷ 16 ∷ 16 ∷ 4 ∷ 16 ∷ 10 ∷ 0 ∷ []) 7
    ∷ lists loops_in_sequence
    (25 ∷ 23 ∷ 16 ∷ 22 ∷ 17 ∷ 16 ∷ 1 ∷ 13 ∷ 6 ∷ 0
    ∷ 25 ∷ 23 ∷ 16 ∷ 17 ∷ 19 ∷ 1 ∷ 0 ∷ 1 ∷ 1 ∷ 2 ∷ 13 ∷ 9 ∷ 0
    ∷ 25 ∷ 23 ∷ 23 ∷ 16 ∷ 17 ∷ 20 ∷ 1 ∷ 1 ∷ 9 ∷ 13 ∷ 23 ∷ 16 ∷ 23 ∷ 16 ∷ 18 ∷ 1 ∷ 1 ∷ 9 ∷ 13 ∷ 3 ∷ 13 ∷ 19 ∷ 0
    ∷ 25 ∷ 23 ∷ 16 ∷ 22 ∷ 17 ∷ 16 ∷ 1 ∷ 6 ∷ 6 ∷ 0
    ∷ 25 ∷ 23 ∷ 16 ∷ 17 ∷ 19 ∷ 1 ∷ 0 ∷ 1 ∷ 0 ∷ 2 ∷ 6 ∷ 9 ∷ 0
    ∷ 25 ∷ 23 ∷ 23 ∷ 16 ∷ 17 ∷ 20 ∷ 1 ∷ 0 ∷ 9 ∷ 6 ∷ 23 ∷ 16 ∷ 18 ∷ 1 ∷ 0 ∷ 9 ∷ 6 ∷ 3 ∷ 6 ∷ 17 ∷ 0
    ∷ 25 ∷ 16 ∷ 16 ∷ 4 ∷ 16 ∷ 3 ∷ 0 ∷ []) 7
    ∷ lists loop_in_loop
    (25 ∷ 23 ∷ 16 ∷ 22 ∷ 16 ∷ 16 ∷ 1 ∷ 11 ∷ 6 ∷ 0
    ∷ 25 ∷ 23 ∷ 16 ∷ 16 ∷ 19 ∷ 1 ∷ 0 ∷ 1 ∷ 0 ∷ 2 ∷ 11 ∷ 9 ∷ 0
    ∷ 25 ∷ 23 ∷ 16 ∷ 22 ∷ 17 ∷ 23 ∷ 16 ∷ 18 ∷ 1 ∷ 0 ∷ 9 ∷ 11 ∷ 1 ∷ 10 ∷ 12 ∷ 1
    ∷ 25 ∷ 23 ∷ 16 ∷ 17 ∷ 19 ∷ 1 ∷ 0 ∷ 1 ∷ 1 ∷ 2 ∷ 10 ∷ 9 ∷ 1
    ∷ 25 ∷ 23 ∷ 23 ∷ 16 ∷ 17 ∷ 20 ∷ 1 ∷ 1 ∷ 9 ∷ 10 ∷ 23 ∷ 16 ∷ 18 ∷ 1 ∷ 1 ∷ 9 ∷ 10 ∷ 3 ∷ 10 ∷ 17 ∷ 1
    ∷ 25 ∷ 23 ∷ 23 ∷ 16 ∷ 16 ∷ 20 ∷ 1 ∷ 0 ∷ 9 ∷ 11 ∷ 16 ∷ 3 ∷ 11 ∷ 11 ∷ 0
    ∷ 25 ∷ 16 ∷ 16 ∷ 4 ∷ 13 ∷ 3 ∷ 0 ∷ []) 7
    ∷ reads (numbers (25 ∷ 16 ∷ 16 ∷ 4 ∷ 3 ∷ 3 ∷ 1 ∷ [])) (pos 0) (record { number = 0; kind = 4; row = 3; depth = 0; start = 0; end = 3 })
    ∷ reads (numbers (25 ∷ 16 ∷ 16 ∷ 4 ∷ 3 ∷ 3 ∷ 1 ∷ [])) (pos 1) (no_line 21)
    ∷ reads (numbers (25 ∷ 16 ∷ 16 ∷ 4 ∷ 3 ∷ 3 ∷ 1 ∷ [])) (negsuc 0) (no_line 21)
    ∷ reads (numbers (25 ∷ 16 ∷ 16 ∷ 4 ∷ 3 ∷ 4 ∷ 1 ∷ [])) (pos 0) (no_line 20)
    ∷ reads [] (pos 0) (no_line 20)
    ∷ reads (numbers (16 ∷ 1 ∷ 2047 ∷ 1 ∷ 1 ∷ [])) (pos 0) (record { number = 0; kind = 1; row = 2047; depth = 0; start = 0; end = 1 })
    ∷ reads (numbers (16 ∷ 1 ∷ 2048 ∷ 1 ∷ 1 ∷ [])) (pos 0) (no_line 20)
    ∷ reads (numbers (16 ∷ 0 ∷ 0 ∷ 1 ∷ 1 ∷ [])) (pos 0) (no_line 20)
    ∷ reads (numbers (16 ∷ 1 ∷ 0 ∷ 0 ∷ 1 ∷ [])) (pos 0) (no_line 20)
    ∷ reads (numbers (16 ∷ 1 ∷ 0 ∷ 1 ∷ 0 ∷ [])) (pos 0) (no_line 20)
    ∷ reads (numbers (16 ∷ 1 ∷ 0 ∷ 1 ∷ 2 ∷ [])) (pos 0) (no_line 20)
    ∷ reads (numbers (16 ∷ 16 ∷ 1 ∷ 0 ∷ 1 ∷ 1 ∷ [])) (pos 0) (no_line 20)
    ∷ reads (numbers (20 ∷ 9 ∷ 2047 ∷ 1 ∷ 0 ∷ 4 ∷ 0 ∷ 5 ∷ 1 ∷ [])) (pos 0) (record { number = 0; kind = 4; row = 0; depth = 0; start = 0; end = 5 })
    ∷ reads (numbers (20 ∷ 9 ∷ 2048 ∷ 1 ∷ 0 ∷ 4 ∷ 0 ∷ 5 ∷ 1 ∷ [])) (pos 0) (no_line 20)
    ∷ reads (one_variable 1023) (pos 0) (record { number = 0; kind = 4; row = 0; depth = 0; start = 0; end = 5 })
    ∷ reads (one_variable 1024) (pos 0) (no_line 20)
    ∷ reads_within 256 (one_variable 255) (pos 0) (record { number = 0; kind = 4; row = 0; depth = 0; start = 0; end = 5 })
    ∷ reads_within 256 (one_variable 256) (pos 0) (no_line 20)
    ∷ []

trials_hold : map observed trials ≡ map expected trials
unfolding trials observed expected names_in one_variable numbers counted_down example example_a four_rows four_skips loops_in_branches loops_in_sequence loop_in_loop branches nested ◌⨾◌ outcome_within outcome_for verdict_within length_test row_test_within script_test unlinked_test target_test reading_test nesting_test lowest row_fault_within linked misread misreads row row_of expr formula stmt expr_at formula_at stmt_at tree nesting conditions walk wp divisors divisorsᶠ subst_expr subst_formula list_words all_lines line_words expr_words formula_words read_expr_within read_formula_within spelled_within found_within line_before_within lines_before_within lines_within line_at_within
trials_hold = refl

-- ---- "With guard 0 ≤ x, variant x and body x := x − 1, a start at 0 makes one pass."

unfoldable pub counting_down : Tree
counting_down = record {
  pre = truth true;
  body = loop 0 (cmp AtMost (const (pos 0)) (var 0)) (truth true) (var 0) (assign 0 (arith Minus (var 0) (const (pos 1))));
  post = truth true;
  row = 1;
}

unfoldable pub zero_state : State
zero_state = record { var = λ v. pos 0; mark = λ m. pos 0 }

-- how often the bodies of the loops that a run is in were begun
passes : List Frame → List ℕ
passes [] = []
passes (begin x ∷ k) = passes k
passes (again m b i v x v₀ n ∷ k) = n ∷ passes k

begun : Config → List ℕ
begun (at k s) = passes k
begun (failed c x) = []

unfoldable pub moment : ℕ → Config
moment n = after whole n (start counting_down zero_state)

-- the first step begins the body, which the bound allows; the third leaves the loop
one_pass : Good (moment 1) × (begun (moment 1) ≡ 1 ∷ []) × (begun (moment 3) ≡ [])
unfolding moment counting_down zero_state passes begun after step step_of first_step Run.test value holds defined definedᶠ
one_pass = ((lit≤ tt, tt), refl, refl)
