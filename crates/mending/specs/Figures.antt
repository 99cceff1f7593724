-- 02, P7, by computation: what becomes of shared parts and marks, unreachable rows, each number, and the edges of 14.
-- Random tables are in `RandomFigures`. Assumes nothing.
use Rattle.std.specs.Prelude.{ℕ, zero, suc, ◌+◌, ◌-◌, ◌≡◌, refl, List, [], ◌∷◌, ◌++◌, map, ℤ, pos, length}
use Rattle.script.specs.Computed.{◌⨾◌, numbers, example, example_a}
use Rattle.script.specs.Rows.{row, row_of}
use Rattle.script.specs.Refusals.{accepted, refused, lowest, linked, row_fault_within, length_test, script_test}
use Rattle.script.specs.Generated.{zeros}
use Rattle.mending.specs.Copies.{each, part_sum, copies, origins, size, capped_at, capped_from, capped_total}
use Rattle.mending.specs.NewTable.{places, renewed, place_of, written, renamed, part_places, new_word, new_table}
use Rattle.mending.specs.Reached.{outside, targets, uncut, sweep, reached, among, reached_rows, escapes}
use Rattle.mending.specs.Mended.{part_fault, mark_fault, part_test, mark_test, too_long, size_test, mend_verdict, Mended, refuse, mended}
use Rattle.mending.specs.Order.{run}

-- how a table is answered
pub data Trial : Type 0 where
  -- table, words of its buffer, words for the old rows; rows dropped and copied again, new table, old rows
  mends : List ℤ → ℕ → ℕ → ℕ → ℕ → List ℤ → List ℕ → Trial
  -- table, lengths; number and row
  refuses : List ℤ → ℕ → ℕ → ℕ → ℕ → Trial

abbrev pub observed : Trial → Mended
observed (mends t l f d c new old) = mended t l f
observed (refuses t l f n r) = mended t l f

abbrev pub expected : Trial → Mended
expected (mends t l f d c new old) = record {
  number = 0;
  row = 0;
  words = length new;
  dropped = d;
  copied = c;
  table = new ++ zeros (l - length new);
  origins = numbers old ++ zeros (f - length old);
}
expected (refuses t l f n r) = refuse n r l f

-- ---- shared parts, marks, unreachable rows

unfoldable pub shared : List Trial
shared =
    -- one constant used four times
    mends
    ((1, 5, 0, 0) ⨾ (19, 0, 0, 0) ⨾ (32, 0, 0, 0) ⨾ (48, 1, 2, 1) ⨾ [])
    64 20 0 4
    ((1, 5, 0, 0) ⨾ (1, 5, 0, 0) ⨾ (19, 0, 1, 0) ⨾ (32, 0, 0, 0) ⨾ (1, 5, 0, 0) ⨾ (1, 5, 0, 0) ⨾ (19, 4, 5, 0)
    ⨾ (48, 2, 3, 6) ⨾ [])
    (0 ∷ 0 ∷ 1 ∷ 2 ∷ 0 ∷ 0 ∷ 1 ∷ 3 ∷ [])
    -- a loop used at two places, with its mark in its body: each copy of the mark names its own loop
    ∷ mends
    ((16, 0, 0, 0) ⨾ (9, 6, 0, 0) ⨾ (1, 1, 0, 0) ⨾ (18, 1, 2, 0) ⨾ (38, 3, 0, 0) ⨾ (37, 0, 2, 0)
    ⨾ (36, 0, 5, 4) ⨾ (34, 6, 6, 0) ⨾ (48, 0, 7, 0) ⨾ [])
    256 64 0 13
    ((16, 0, 0, 0) ⨾ (16, 0, 0, 0) ⨾ (16, 0, 0, 0) ⨾ (1, 1, 0, 0) ⨾ (37, 2, 3, 0) ⨾ (9, 9, 0, 0)
    ⨾ (1, 1, 0, 0) ⨾ (18, 5, 6, 0) ⨾ (38, 7, 0, 0) ⨾ (36, 1, 4, 8) ⨾ (16, 0, 0, 0) ⨾ (16, 0, 0, 0)
    ⨾ (1, 1, 0, 0) ⨾ (37, 11, 12, 0) ⨾ (9, 18, 0, 0) ⨾ (1, 1, 0, 0) ⨾ (18, 14, 15, 0) ⨾ (38, 16, 0, 0)
    ⨾ (36, 10, 13, 17) ⨾ (34, 9, 18, 0) ⨾ (16, 0, 0, 0) ⨾ (48, 0, 19, 20) ⨾ [])
    (0 ∷ 0 ∷ 0 ∷ 2 ∷ 5 ∷ 1 ∷ 2 ∷ 3 ∷ 4 ∷ 6 ∷ 0 ∷ 0 ∷ 2 ∷ 5 ∷ 1 ∷ 2 ∷ 3 ∷ 4 ∷ 6 ∷ 7 ∷ 0 ∷ 8 ∷ [])
    -- a loop used twice in the body of another, with the marks of both inside
    ∷ mends
    ((16, 0, 0, 0) ⨾ (1, 1, 0, 0) ⨾ (9, 7, 0, 0) ⨾ (9, 9, 0, 0) ⨾ (18, 2, 3, 0) ⨾ (38, 4, 0, 0)
    ⨾ (37, 0, 1, 0) ⨾ (36, 0, 6, 5) ⨾ (34, 7, 7, 0) ⨾ (36, 0, 6, 8) ⨾ (48, 0, 9, 0) ⨾ [])
    256 64 0 16
    ((16, 0, 0, 0) ⨾ (16, 0, 0, 0) ⨾ (16, 0, 0, 0) ⨾ (1, 1, 0, 0) ⨾ (37, 2, 3, 0) ⨾ (16, 0, 0, 0)
    ⨾ (16, 0, 0, 0) ⨾ (1, 1, 0, 0) ⨾ (37, 6, 7, 0) ⨾ (9, 13, 0, 0) ⨾ (9, 24, 0, 0) ⨾ (18, 9, 10, 0)
    ⨾ (38, 11, 0, 0) ⨾ (36, 5, 8, 12) ⨾ (16, 0, 0, 0) ⨾ (16, 0, 0, 0) ⨾ (1, 1, 0, 0) ⨾ (37, 15, 16, 0)
    ⨾ (9, 22, 0, 0) ⨾ (9, 24, 0, 0) ⨾ (18, 18, 19, 0) ⨾ (38, 20, 0, 0) ⨾ (36, 14, 17, 21) ⨾ (34, 13, 22, 0)
    ⨾ (36, 1, 4, 23) ⨾ (16, 0, 0, 0) ⨾ (48, 0, 24, 25) ⨾ [])
    (0 ∷ 0 ∷ 0 ∷ 1 ∷ 6 ∷ 0 ∷ 0 ∷ 1 ∷ 6 ∷ 2 ∷ 3 ∷ 4 ∷ 5 ∷ 7 ∷ 0 ∷ 0 ∷ 1 ∷ 6 ∷ 2 ∷ 3 ∷ 4 ∷ 5 ∷ 7 ∷ 8 ∷ 9 ∷ 0
    ∷ 10 ∷ [])
    -- the same, and the outer loop used twice: four copies of the inner one
    ∷ mends
    ((16, 0, 0, 0) ⨾ (1, 1, 0, 0) ⨾ (9, 7, 0, 0) ⨾ (9, 9, 0, 0) ⨾ (18, 2, 3, 0) ⨾ (38, 4, 0, 0)
    ⨾ (37, 0, 1, 0) ⨾ (36, 0, 6, 5) ⨾ (34, 7, 7, 0) ⨾ (36, 0, 6, 8) ⨾ (34, 9, 9, 0) ⨾ (48, 0, 10, 0) ⨾ [])
    256 64 0 40
    ((16, 0, 0, 0) ⨾ (16, 0, 0, 0) ⨾ (16, 0, 0, 0) ⨾ (1, 1, 0, 0) ⨾ (37, 2, 3, 0) ⨾ (16, 0, 0, 0)
    ⨾ (16, 0, 0, 0) ⨾ (1, 1, 0, 0) ⨾ (37, 6, 7, 0) ⨾ (9, 13, 0, 0) ⨾ (9, 24, 0, 0) ⨾ (18, 9, 10, 0)
    ⨾ (38, 11, 0, 0) ⨾ (36, 5, 8, 12) ⨾ (16, 0, 0, 0) ⨾ (16, 0, 0, 0) ⨾ (1, 1, 0, 0) ⨾ (37, 15, 16, 0)
    ⨾ (9, 22, 0, 0) ⨾ (9, 24, 0, 0) ⨾ (18, 18, 19, 0) ⨾ (38, 20, 0, 0) ⨾ (36, 14, 17, 21) ⨾ (34, 13, 22, 0)
    ⨾ (36, 1, 4, 23) ⨾ (16, 0, 0, 0) ⨾ (16, 0, 0, 0) ⨾ (1, 1, 0, 0) ⨾ (37, 26, 27, 0) ⨾ (16, 0, 0, 0)
    ⨾ (16, 0, 0, 0) ⨾ (1, 1, 0, 0) ⨾ (37, 30, 31, 0) ⨾ (9, 37, 0, 0) ⨾ (9, 48, 0, 0) ⨾ (18, 33, 34, 0)
    ⨾ (38, 35, 0, 0) ⨾ (36, 29, 32, 36) ⨾ (16, 0, 0, 0) ⨾ (16, 0, 0, 0) ⨾ (1, 1, 0, 0) ⨾ (37, 39, 40, 0)
    ⨾ (9, 46, 0, 0) ⨾ (9, 48, 0, 0) ⨾ (18, 42, 43, 0) ⨾ (38, 44, 0, 0) ⨾ (36, 38, 41, 45) ⨾ (34, 37, 46, 0)
    ⨾ (36, 25, 28, 47) ⨾ (34, 24, 48, 0) ⨾ (16, 0, 0, 0) ⨾ (48, 0, 49, 50) ⨾ [])
    (0 ∷ 0 ∷ 0 ∷ 1 ∷ 6 ∷ 0 ∷ 0 ∷ 1 ∷ 6 ∷ 2 ∷ 3 ∷ 4 ∷ 5 ∷ 7 ∷ 0 ∷ 0 ∷ 1 ∷ 6 ∷ 2 ∷ 3 ∷ 4 ∷ 5 ∷ 7 ∷ 8 ∷ 9 ∷ 0 ∷ 0
    ∷ 1 ∷ 6 ∷ 0 ∷ 0 ∷ 1 ∷ 6 ∷ 2 ∷ 3 ∷ 4 ∷ 5 ∷ 7 ∷ 0 ∷ 0 ∷ 1 ∷ 6 ∷ 2 ∷ 3 ∷ 4 ∷ 5 ∷ 7 ∷ 8 ∷ 9 ∷ 10 ∷ 0 ∷ 11 ∷ [])
    -- a statement with the mark of the outer loop, used in its body and in that of a loop inside
    ∷ mends
    ((16, 0, 0, 0) ⨾ (1, 1, 0, 0) ⨾ (9, 8, 0, 0) ⨾ (18, 2, 1, 0) ⨾ (38, 3, 0, 0) ⨾ (37, 0, 1, 0)
    ⨾ (36, 0, 5, 4) ⨾ (34, 4, 6, 0) ⨾ (36, 0, 5, 7) ⨾ (48, 0, 8, 0) ⨾ [])
    256 64 0 12
    ((16, 0, 0, 0) ⨾ (16, 0, 0, 0) ⨾ (16, 0, 0, 0) ⨾ (1, 1, 0, 0) ⨾ (37, 2, 3, 0) ⨾ (9, 19, 0, 0)
    ⨾ (1, 1, 0, 0) ⨾ (18, 5, 6, 0) ⨾ (38, 7, 0, 0) ⨾ (16, 0, 0, 0) ⨾ (16, 0, 0, 0) ⨾ (1, 1, 0, 0)
    ⨾ (37, 10, 11, 0) ⨾ (9, 19, 0, 0) ⨾ (1, 1, 0, 0) ⨾ (18, 13, 14, 0) ⨾ (38, 15, 0, 0) ⨾ (36, 9, 12, 16)
    ⨾ (34, 8, 17, 0) ⨾ (36, 1, 4, 18) ⨾ (16, 0, 0, 0) ⨾ (48, 0, 19, 20) ⨾ [])
    (0 ∷ 0 ∷ 0 ∷ 1 ∷ 5 ∷ 2 ∷ 1 ∷ 3 ∷ 4 ∷ 0 ∷ 0 ∷ 1 ∷ 5 ∷ 2 ∷ 1 ∷ 3 ∷ 4 ∷ 6 ∷ 7 ∷ 8 ∷ 0 ∷ 9 ∷ [])
    -- a statement with a mark, in the bodies of two loops: in the second the mark is not inside its own loop
    ∷ refuses
    ((16, 0, 0, 0) ⨾ (1, 1, 0, 0) ⨾ (9, 7, 0, 0) ⨾ (18, 2, 1, 0) ⨾ (38, 3, 0, 0) ⨾ (34, 4, 4, 0)
    ⨾ (37, 0, 1, 0) ⨾ (36, 0, 6, 5) ⨾ (32, 0, 0, 0) ⨾ (34, 8, 4, 0) ⨾ (36, 0, 6, 9) ⨾ (34, 7, 10, 0)
    ⨾ (48, 0, 11, 0) ⨾ [])
    256 64 13 2
    -- two loops with one body, which has the mark of the first
    ∷ refuses
    ((16, 0, 0, 0) ⨾ (1, 1, 0, 0) ⨾ (9, 6, 0, 0) ⨾ (18, 2, 1, 0) ⨾ (38, 3, 0, 0) ⨾ (37, 0, 1, 0)
    ⨾ (36, 0, 5, 4) ⨾ (36, 0, 5, 4) ⨾ (34, 6, 7, 0) ⨾ (48, 0, 8, 0) ⨾ [])
    256 64 13 2
    -- a mark used inside the body of its loop, and in the postcondition: its row
    ∷ refuses
    ((16, 0, 0, 0) ⨾ (1, 1, 0, 0) ⨾ (9, 6, 0, 0) ⨾ (18, 2, 1, 0) ⨾ (38, 3, 0, 0) ⨾ (37, 0, 1, 0)
    ⨾ (36, 0, 5, 4) ⨾ (48, 0, 6, 3) ⨾ [])
    256 64 13 2
    -- a mark in the note of its own loop
    ∷ refuses
    ((16, 0, 0, 0) ⨾ (9, 4, 0, 0) ⨾ (37, 0, 1, 0) ⨾ (32, 0, 0, 0) ⨾ (36, 0, 2, 3) ⨾ (48, 0, 4, 0) ⨾ [])
    256 64 13 1
    -- two marks that name no loop: the lower row
    ∷ refuses
    ((16, 0, 0, 0) ⨾ (9, 0, 0, 0) ⨾ (9, 0, 0, 0) ⨾ (19, 2, 1, 0) ⨾ (32, 0, 0, 0) ⨾ (48, 3, 4, 0) ⨾ [])
    80 20 13 1
    -- an unreachable row
    ∷ mends
    ((1, 7, 0, 0) ⨾ (16, 0, 0, 0) ⨾ (32, 0, 0, 0) ⨾ (16, 0, 0, 0) ⨾ (48, 1, 2, 3) ⨾ [])
    64 64 1 0
    ((16, 0, 0, 0) ⨾ (32, 0, 0, 0) ⨾ (16, 0, 0, 0) ⨾ (48, 0, 1, 2) ⨾ [])
    (1 ∷ 2 ∷ 3 ∷ 4 ∷ [])
    -- an unreachable mark that names no loop
    ∷ mends
    ((9, 0, 0, 0) ⨾ (16, 0, 0, 0) ⨾ (32, 0, 0, 0) ⨾ (16, 0, 0, 0) ⨾ (48, 1, 2, 3) ⨾ [])
    64 64 1 0
    ((16, 0, 0, 0) ⨾ (32, 0, 0, 0) ⨾ (16, 0, 0, 0) ⨾ (48, 0, 1, 2) ⨾ [])
    (1 ∷ 2 ∷ 3 ∷ 4 ∷ [])
    -- an unreachable loop with its mark in its own note
    ∷ mends
    ((16, 0, 0, 0) ⨾ (1, 1, 0, 0) ⨾ (9, 6, 0, 0) ⨾ (18, 2, 1, 0) ⨾ (37, 3, 1, 0) ⨾ (32, 0, 0, 0)
    ⨾ (36, 0, 4, 5) ⨾ (48, 0, 5, 0) ⨾ [])
    64 64 5 1
    ((16, 0, 0, 0) ⨾ (32, 0, 0, 0) ⨾ (16, 0, 0, 0) ⨾ (48, 0, 1, 2) ⨾ [])
    (0 ∷ 5 ∷ 0 ∷ 7 ∷ [])
    -- an accepted table in another order: as many rows
    ∷ mends
    ((16, 0, 0, 0) ⨾ (16, 0, 0, 0) ⨾ (32, 0, 0, 0) ⨾ (48, 1, 2, 0) ⨾ [])
    16 4 0 0
    ((16, 0, 0, 0) ⨾ (32, 0, 0, 0) ⨾ (16, 0, 0, 0) ⨾ (48, 0, 1, 2) ⨾ [])
    (1 ∷ 2 ∷ 0 ∷ 3 ∷ [])
    -- example A is in order
    ∷ mends example_a 80 20 0 0 example_a (run 0 20)
    ∷ []

pub shared_hold : map observed shared ≡ map expected shared
unfolding shared example example_a run numbers ◌⨾◌ row row_of lowest linked row_fault_within length_test script_test each part_sum copies origins size capped_at capped_from capped_total places renewed place_of written renamed part_places new_word new_table outside targets uncut sweep reached among reached_rows escapes part_fault mark_fault part_test mark_test too_long size_test mend_verdict mended
shared_hold = refl

-- ---- the numbers

unfoldable pub numbered : List Trial
numbered =
    -- 1: no words, and not a multiple of 4
    refuses [] 80 20 1 0
    ∷ refuses (pos 16 ∷ []) 80 20 1 0
    -- 2: kind 11 is not listed
    ∷ refuses
    ((11, 0, 0, 0) ⨾ (16, 0, 0, 0) ⨾ (32, 0, 0, 0) ⨾ (48, 1, 2, 1) ⨾ [])
    80 20 2 0
    -- 3: variable 1,024, in a row that is not reached
    ∷ refuses
    ((2, 1024, 0, 0) ⨾ (16, 0, 0, 0) ⨾ (32, 0, 0, 0) ⨾ (48, 1, 2, 1) ⨾ [])
    80 20 3 0
    -- 3: a mark whose row is not in the table
    ∷ refuses
    ((9, 4, 0, 0) ⨾ (16, 0, 0, 0) ⨾ (32, 0, 0, 0) ⨾ (48, 1, 2, 1) ⨾ [])
    80 20 3 0
    -- 3: an unused field
    ∷ refuses
    ((16, 0, 0, 1) ⨾ (32, 0, 0, 0) ⨾ (48, 0, 1, 0) ⨾ [])
    80 20 3 0
    -- 4: a link up
    ∷ refuses
    ((16, 0, 0, 0) ⨾ (22, 5, 0, 0) ⨾ (32, 0, 0, 0) ⨾ (48, 0, 2, 0) ⨾ [])
    80 20 4 1
    -- 5: a statement for a formula, in the row that links to it
    ∷ refuses
    ((32, 0, 0, 0) ⨾ (48, 0, 0, 0) ⨾ [])
    80 20 5 1
    -- the first faulty row decides: 5 in row 1, 2 in row 2
    ∷ refuses
    ((32, 0, 0, 0) ⨾ (22, 0, 0, 0) ⨾ (11, 0, 0, 0) ⨾ (48, 1, 0, 1) ⨾ [])
    80 20 5 1
    -- 7: the last row is no script
    ∷ refuses
    ((16, 0, 0, 0) ⨾ (32, 0, 0, 0) ⨾ [])
    80 20 7 1
    -- 7 before 13: the last row is no script, and is itself a mark that names no loop
    ∷ refuses
    ((16, 0, 0, 0) ⨾ (9, 0, 0, 0) ⨾ [])
    80 20 7 1
    -- 13 before 14: no room
    ∷ refuses
    ((16, 0, 0, 0) ⨾ (9, 0, 0, 0) ⨾ (19, 1, 1, 0) ⨾ (32, 0, 0, 0) ⨾ (48, 2, 3, 0) ⨾ [])
    0 0 13 1
    -- 14: no room at all
    ∷ refuses
    ((16, 0, 0, 0) ⨾ (16, 0, 0, 0) ⨾ (32, 0, 0, 0) ⨾ (48, 1, 2, 0) ⨾ [])
    0 0 14 0
    -- 14: the buffer for the table one word short
    ∷ refuses
    ((16, 0, 0, 0) ⨾ (9, 6, 0, 0) ⨾ (1, 1, 0, 0) ⨾ (18, 1, 2, 0) ⨾ (38, 3, 0, 0) ⨾ (37, 0, 2, 0)
    ⨾ (36, 0, 5, 4) ⨾ (34, 6, 6, 0) ⨾ (48, 0, 7, 0) ⨾ [])
    87 22 14 0
    -- 14: the run of old rows one word short
    ∷ refuses
    ((16, 0, 0, 0) ⨾ (9, 6, 0, 0) ⨾ (1, 1, 0, 0) ⨾ (18, 1, 2, 0) ⨾ (38, 3, 0, 0) ⨾ (37, 0, 2, 0)
    ⨾ (36, 0, 5, 4) ⨾ (34, 6, 6, 0) ⨾ (48, 0, 7, 0) ⨾ [])
    88 21 14 0
    -- both just long enough
    ∷ mends
    ((16, 0, 0, 0) ⨾ (9, 6, 0, 0) ⨾ (1, 1, 0, 0) ⨾ (18, 1, 2, 0) ⨾ (38, 3, 0, 0) ⨾ (37, 0, 2, 0)
    ⨾ (36, 0, 5, 4) ⨾ (34, 6, 6, 0) ⨾ (48, 0, 7, 0) ⨾ [])
    88 22 0 13
    ((16, 0, 0, 0) ⨾ (16, 0, 0, 0) ⨾ (16, 0, 0, 0) ⨾ (1, 1, 0, 0) ⨾ (37, 2, 3, 0) ⨾ (9, 9, 0, 0)
    ⨾ (1, 1, 0, 0) ⨾ (18, 5, 6, 0) ⨾ (38, 7, 0, 0) ⨾ (36, 1, 4, 8) ⨾ (16, 0, 0, 0) ⨾ (16, 0, 0, 0)
    ⨾ (1, 1, 0, 0) ⨾ (37, 11, 12, 0) ⨾ (9, 18, 0, 0) ⨾ (1, 1, 0, 0) ⨾ (18, 14, 15, 0) ⨾ (38, 16, 0, 0)
    ⨾ (36, 10, 13, 17) ⨾ (34, 9, 18, 0) ⨾ (16, 0, 0, 0) ⨾ (48, 0, 19, 20) ⨾ [])
    (0 ∷ 0 ∷ 0 ∷ 2 ∷ 5 ∷ 1 ∷ 2 ∷ 3 ∷ 4 ∷ 6 ∷ 0 ∷ 0 ∷ 2 ∷ 5 ∷ 1 ∷ 2 ∷ 3 ∷ 4 ∷ 6 ∷ 7 ∷ 0 ∷ 8 ∷ [])
    ∷ []

pub numbers_hold : map observed numbered ≡ map expected numbered
unfolding numbered numbers ◌⨾◌ row row_of lowest linked row_fault_within length_test script_test each part_sum copies origins size capped_at capped_from capped_total places renewed place_of written renamed part_places new_word new_table outside targets uncut sweep reached among reached_rows escapes part_fault mark_fault part_test mark_test too_long size_test mend_verdict mended
numbers_hold = refl

-- ---- many rows

-- n additions, each of the one before to itself: one use of the last takes 2 to the n + 1, less 1, rows
unfoldable pub doubling : ℕ → List ℤ
doubling zero = (1, 1, 0, 0) ⨾ []
doubling (suc n) = doubling n ++ ((3, n, n, 0) ⨾ [])

-- under a comparison of the last with itself, which is the precondition and the postcondition
unfoldable pub doubled : ℕ → List ℤ
doubled n = doubling n ++ ((19, n, n, 0) ⨾ (32, 0, 0, 0) ⨾ (48, n + 1, n + 2, n + 1) ⨾ [])

-- the same with the precondition negated: one row more
unfoldable pub doubled_more : ℕ → List ℤ
doubled_more n = doubling n ++ ((19, n, n, 0) ⨾ (22, n + 1, 0, 0) ⨾ (32, 0, 0, 0) ⨾ (48, n + 2, n + 3, n + 1) ⨾ [])

-- 2,048 new rows pass, in buffers that just hold them; 2,049 do not, in buffers of any length; doubled 50 times, and
-- 300 times by the last test alone, is 14
pub sizes_told : (mend_verdict (doubled 8) 8192 2048 ≡ accepted) × (mend_verdict (doubled 8) 8191 2048 ≡ refused 14 0)
    × (mend_verdict (doubled 8) 8192 2047 ≡ refused 14 0) × (mend_verdict (doubled_more 8) 8192 2048 ≡ refused 14 0)
    × (mend_verdict (doubled_more 8) 9000 9000 ≡ refused 14 0) × (mend_verdict (doubled 9) 9000 9000 ≡ refused 14 0)
    × (mend_verdict (doubled 50) 9000 9000 ≡ refused 14 0) × (size_test (doubled 300) 9000 9000 ≡ refused 14 0)
unfolding doubling doubled doubled_more numbers ◌⨾◌ row row_of lowest linked row_fault_within length_test script_test each part_sum copies origins size capped_at capped_from capped_total places renewed place_of written renamed part_places new_word new_table outside targets uncut sweep reached among reached_rows escapes part_fault mark_fault part_test mark_test too_long size_test mend_verdict mended
sizes_told = (refl, refl, refl, refl, refl, refl, refl, refl)

-- the outcome at 2,048 rows, from 12: words, rows dropped, rows copied again
pub most_rows : let m = mended (doubled 8) 8192 2048 in (m.number ≡ 0) × (m.words ≡ 8192) × (m.dropped ≡ 0) × (m.copied ≡ 2036)
unfolding doubling doubled numbers ◌⨾◌ row row_of lowest linked row_fault_within length_test script_test each part_sum copies origins size capped_at capped_from capped_total places renewed place_of written renamed part_places new_word new_table outside targets uncut sweep reached among reached_rows escapes part_fault mark_fault part_test mark_test too_long size_test mend_verdict mended
most_rows = (refl, refl, refl, refl)
