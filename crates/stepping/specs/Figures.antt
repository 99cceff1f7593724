-- 02, P11, by computation, whole calls: when a sequence is split, limits, loops and branches. 50 and 53 are in `StopFigures`, runs that are
-- too short or longer, and calls that go on, in `RoomFigures`. Assumes nothing.
use Rattle.std.specs.Prelude.{ℕ, suc, ◌-◌, ◌≡◌, refl, List, [], ◌∷◌, ◌++◌, map, ℤ, pos, length, set, replicate}
use Rattle.script.specs.Computed.{◌⨾◌}
use Rattle.script.specs.Rows.{row, row_of, rows}
use Rattle.script.specs.Trees.{expr, formula, stmt, expr_at, formula_at, stmt_at, tree, nesting}
use Rattle.script.specs.Refusals.{lowest, row_fault_within, linked, misread, misreads, length_test, row_test_within, script_test, unlinked_test, target_test, reading_test, nesting_test, verdict_within}
use Rattle.script.specs.Generated.{zeros}
use Rattle.stepping.specs.Machine.{mode_64, work, judge, due, machine_step, play, Ran, called, machine_run, machine_on}

-- the script whose statement is the last of these rows, which are n and count from 1: true before and after it
abbrev pub scripted : List ℤ → ℕ → List ℤ
scripted body n = (16, 0, 0, 0) ⨾ (body ++ ((16, 0, 0, 0) ⨾ (48, 0, n, suc n) ⨾ []))

-- so many values, these in front
abbrev pub values : ℕ → List ℤ → List ℤ
values n zs = zs ++ zeros (n - length zs)

abbrev pub marked : List ℤ → List (ℕ × ℤ) → List ℤ
marked zs [] = zs
marked zs (m ∷ ms) = marked (set zs m.0 m.1) ms

pub data Trial : Type 0 where
  -- table, variables, limit; number, row, steps, stack, variables and marks after it. Lent are a stack of one word more than there
  -- are rows, full of nines, and no more values than are asked for
  runs : List ℤ → List ℤ → ℕ → ℕ → ℕ → ℕ → List ℕ → List ℤ → List (ℕ × ℤ) → Trial

abbrev pub observed : Trial → Ran
observed (runs t vars limit n r s stack after marks) =
    machine_run mode_64 t (replicate (suc (rows t)) 9) (values 1024 vars) (zeros 2048) limit

abbrev pub expected : Trial → Ran
expected (runs t vars limit n r s stack after marks) = record {
  number = n;
  row = r;
  steps = s;
  height = length stack;
  stack = stack ++ replicate (suc (rows t) - length stack) 0;
  vars = values 1024 after;
  marks = marked (zeros 2048) marks;
}

-- ---- split

unfoldable pub split : List Trial
split =
    -- nothing is split yet, and a step is due
    runs
    (scripted ((32, 0, 0, 0) ⨾ (32, 0, 0, 0) ⨾ (32, 0, 0, 0) ⨾ (34, 2, 3, 0) ⨾ (34, 1, 4, 0) ⨾ []) 5)
    [] 0
    54 1 0 (5 ∷ []) [] []
    -- split as the step begins; what is left is unsplit
    ∷ runs
    (scripted ((32, 0, 0, 0) ⨾ (32, 0, 0, 0) ⨾ (32, 0, 0, 0) ⨾ (34, 2, 3, 0) ⨾ (34, 1, 4, 0) ⨾ []) 5)
    [] 1
    54 2 1 (4 ∷ []) [] []
    ∷ runs
    (scripted ((32, 0, 0, 0) ⨾ (32, 0, 0, 0) ⨾ (34, 1, 2, 0) ⨾ (32, 0, 0, 0) ⨾ (34, 3, 4, 0) ⨾ []) 5)
    [] 0
    54 1 0 (5 ∷ []) [] []
    -- both are split, down the first parts
    ∷ runs
    (scripted ((32, 0, 0, 0) ⨾ (32, 0, 0, 0) ⨾ (34, 1, 2, 0) ⨾ (32, 0, 0, 0) ⨾ (34, 3, 4, 0) ⨾ []) 5)
    [] 1
    54 2 1 (4 ∷ 2 ∷ []) [] []
    -- a limit of exactly the steps needed
    ∷ runs
    (scripted ((32, 0, 0, 0) ⨾ (32, 0, 0, 0) ⨾ (34, 1, 2, 0) ⨾ (32, 0, 0, 0) ⨾ (34, 3, 4, 0) ⨾ []) 5)
    [] 3
    0 0 3 [] [] []
    -- a step that fails splits nothing
    ∷ runs
    (scripted ((17, 0, 0, 0) ⨾ (38, 1, 0, 0) ⨾ (32, 0, 0, 0) ⨾ (34, 2, 3, 0) ⨾ []) 4)
    [] 9
    52 2 0 (4 ∷ []) [] []
    ∷ runs
    (scripted ((17, 0, 0, 0) ⨾ (38, 1, 0, 0) ⨾ (32, 0, 0, 0) ⨾ (34, 2, 3, 0) ⨾ (32, 0, 0, 0) ⨾ (34, 4, 5, 0) ⨾ []) 6)
    [] 9
    52 2 0 (6 ∷ []) [] []
    ∷ runs
    (scripted ((32, 0, 0, 0) ⨾ (17, 0, 0, 0) ⨾ (38, 2, 0, 0) ⨾ (32, 0, 0, 0) ⨾ (34, 3, 4, 0) ⨾ (34, 1, 5, 0) ⨾ []) 6)
    [] 9
    52 3 1 (5 ∷ []) [] []
    -- 54 goes before what the step would do
    ∷ runs
    (scripted ((17, 0, 0, 0) ⨾ (38, 1, 0, 0) ⨾ (32, 0, 0, 0) ⨾ (34, 2, 3, 0) ⨾ []) 4)
    [] 0
    54 2 0 (4 ∷ []) [] []
    ∷ []

pub split_hold : map observed split ≡ map expected split
unfolding ◌⨾◌ split machine_run machine_on called play machine_step due work judge verdict_within length_test row_test_within script_test unlinked_test target_test reading_test nesting_test lowest row_fault_within linked misread misreads row row_of expr formula stmt expr_at formula_at stmt_at tree nesting
split_hold = refl

-- ---- loops and branches

unfoldable pub loops : List Trial
loops =
    -- no step allowed
    runs
    (scripted ((1, 0, 0, 0) ⨾ (2, 0, 0, 0) ⨾ (18, 1, 2, 0) ⨾ (16, 0, 0, 0) ⨾ (2, 0, 0, 0) ⨾ (37, 4, 5, 0) ⨾ (2, 0, 0, 0)
    ⨾ (1, 1, 0, 0) ⨾ (4, 7, 8, 0) ⨾ (33, 0, 9, 0) ⨾ (36, 3, 6, 10) ⨾ []) 11)
    (pos 3 ∷ []) 0
    54 11 0 (11 ∷ []) (pos 3 ∷ []) []
    -- a guard test with its mark is one step
    ∷ runs
    (scripted ((1, 0, 0, 0) ⨾ (2, 0, 0, 0) ⨾ (18, 1, 2, 0) ⨾ (16, 0, 0, 0) ⨾ (2, 0, 0, 0) ⨾ (37, 4, 5, 0) ⨾ (2, 0, 0, 0)
    ⨾ (1, 1, 0, 0) ⨾ (4, 7, 8, 0) ⨾ (33, 0, 9, 0) ⨾ (36, 3, 6, 10) ⨾ []) 11)
    (pos 3 ∷ []) 1
    54 10 1 (11 ∷ 10 ∷ []) (pos 3 ∷ []) ((11, pos 3) ∷ [])
    ∷ runs
    (scripted ((1, 0, 0, 0) ⨾ (2, 0, 0, 0) ⨾ (18, 1, 2, 0) ⨾ (16, 0, 0, 0) ⨾ (2, 0, 0, 0) ⨾ (37, 4, 5, 0) ⨾ (2, 0, 0, 0)
    ⨾ (1, 1, 0, 0) ⨾ (4, 7, 8, 0) ⨾ (33, 0, 9, 0) ⨾ (36, 3, 6, 10) ⨾ []) 11)
    (pos 3 ∷ []) 2
    54 11 2 (11 ∷ []) (pos 2 ∷ []) ((11, pos 3) ∷ [])
    ∷ runs
    (scripted ((1, 0, 0, 0) ⨾ (2, 0, 0, 0) ⨾ (18, 1, 2, 0) ⨾ (16, 0, 0, 0) ⨾ (2, 0, 0, 0) ⨾ (37, 4, 5, 0) ⨾ (2, 0, 0, 0)
    ⨾ (1, 1, 0, 0) ⨾ (4, 7, 8, 0) ⨾ (33, 0, 9, 0) ⨾ (36, 3, 6, 10) ⨾ []) 11)
    (pos 3 ∷ []) 6
    54 11 6 (11 ∷ []) (pos 0 ∷ []) ((11, pos 1) ∷ [])
    ∷ runs
    (scripted ((1, 0, 0, 0) ⨾ (2, 0, 0, 0) ⨾ (18, 1, 2, 0) ⨾ (16, 0, 0, 0) ⨾ (2, 0, 0, 0) ⨾ (37, 4, 5, 0) ⨾ (2, 0, 0, 0)
    ⨾ (1, 1, 0, 0) ⨾ (4, 7, 8, 0) ⨾ (33, 0, 9, 0) ⨾ (36, 3, 6, 10) ⨾ []) 11)
    (pos 3 ∷ []) 7
    0 0 7 [] (pos 0 ∷ []) ((11, pos 1) ∷ [])
    -- more than needed
    ∷ runs
    (scripted ((1, 0, 0, 0) ⨾ (2, 0, 0, 0) ⨾ (18, 1, 2, 0) ⨾ (16, 0, 0, 0) ⨾ (2, 0, 0, 0) ⨾ (37, 4, 5, 0) ⨾ (2, 0, 0, 0)
    ⨾ (1, 1, 0, 0) ⨾ (4, 7, 8, 0) ⨾ (33, 0, 9, 0) ⨾ (36, 3, 6, 10) ⨾ []) 11)
    (pos 3 ∷ []) 1000
    0 0 7 [] (pos 0 ∷ []) ((11, pos 1) ∷ [])
    -- left at once: no mark is set
    ∷ runs
    (scripted ((1, 0, 0, 0) ⨾ (2, 0, 0, 0) ⨾ (18, 1, 2, 0) ⨾ (16, 0, 0, 0) ⨾ (2, 0, 0, 0) ⨾ (37, 4, 5, 0) ⨾ (2, 0, 0, 0)
    ⨾ (1, 1, 0, 0) ⨾ (4, 7, 8, 0) ⨾ (33, 0, 9, 0) ⨾ (36, 3, 6, 10) ⨾ []) 11)
    (pos 0 ∷ []) 5
    0 0 1 [] (pos 0 ∷ []) []
    ∷ runs
    (scripted ((2, 0, 0, 0) ⨾ (1, 0, 0, 0) ⨾ (18, 1, 2, 0) ⨾ (1, 1, 0, 0) ⨾ (33, 1, 4, 0) ⨾ (1, 2, 0, 0) ⨾ (33, 1, 6, 0)
    ⨾ (35, 3, 5, 7) ⨾ []) 8)
    (pos 5 ∷ []) 1
    54 7 1 (7 ∷ []) (pos 5 ∷ []) []
    ∷ runs
    (scripted ((2, 0, 0, 0) ⨾ (1, 0, 0, 0) ⨾ (19, 1, 2, 0) ⨾ (1, 1, 0, 0) ⨾ (33, 1, 4, 0) ⨾ (1, 2, 0, 0) ⨾ (33, 1, 6, 0)
    ⨾ (35, 3, 5, 7) ⨾ []) 8)
    (pos 0 ∷ []) 2
    0 0 2 [] (pos 0 ∷ pos 1 ∷ []) []
    ∷ runs
    (scripted ((2, 0, 0, 0) ⨾ (1, 0, 0, 0) ⨾ (18, 1, 2, 0) ⨾ (1, 1, 0, 0) ⨾ (33, 1, 4, 0) ⨾ (1, 2, 0, 0) ⨾ (33, 1, 6, 0)
    ⨾ (35, 3, 5, 7) ⨾ []) 8)
    (pos 5 ∷ []) 2
    0 0 2 [] (pos 5 ∷ pos 2 ∷ []) []
    -- a loop in a loop: three rows below the body
    ∷ runs
    (scripted ((1, 0, 0, 0) ⨾ (2, 0, 0, 0) ⨾ (18, 1, 2, 0) ⨾ (16, 0, 0, 0) ⨾ (2, 0, 0, 0) ⨾ (37, 4, 5, 0) ⨾ (1, 1, 0, 0)
    ⨾ (33, 1, 7, 0) ⨾ (1, 0, 0, 0) ⨾ (2, 1, 0, 0) ⨾ (18, 9, 10, 0) ⨾ (16, 0, 0, 0) ⨾ (2, 1, 0, 0) ⨾ (37, 12, 13, 0)
    ⨾ (2, 1, 0, 0) ⨾ (1, 1, 0, 0) ⨾ (4, 15, 16, 0) ⨾ (33, 1, 17, 0) ⨾ (36, 11, 14, 18) ⨾ (2, 0, 0, 0) ⨾ (1, 1, 0, 0)
    ⨾ (4, 20, 21, 0) ⨾ (33, 0, 22, 0) ⨾ (34, 19, 23, 0) ⨾ (34, 8, 24, 0) ⨾ (36, 3, 6, 25) ⨾ []) 26)
    (pos 1 ∷ []) 3
    54 18 3 (26 ∷ 23 ∷ 19 ∷ 18 ∷ []) (pos 1 ∷ pos 1 ∷ []) ((19, pos 1) ∷ (26, pos 1) ∷ [])
    ∷ runs
    (scripted ((1, 0, 0, 0) ⨾ (2, 0, 0, 0) ⨾ (18, 1, 2, 0) ⨾ (16, 0, 0, 0) ⨾ (2, 0, 0, 0) ⨾ (37, 4, 5, 0) ⨾ (1, 1, 0, 0)
    ⨾ (33, 1, 7, 0) ⨾ (1, 0, 0, 0) ⨾ (2, 1, 0, 0) ⨾ (18, 9, 10, 0) ⨾ (16, 0, 0, 0) ⨾ (2, 1, 0, 0) ⨾ (37, 12, 13, 0)
    ⨾ (2, 1, 0, 0) ⨾ (1, 1, 0, 0) ⨾ (4, 15, 16, 0) ⨾ (33, 1, 17, 0) ⨾ (36, 11, 14, 18) ⨾ (2, 0, 0, 0) ⨾ (1, 1, 0, 0)
    ⨾ (4, 20, 21, 0) ⨾ (33, 0, 22, 0) ⨾ (34, 19, 23, 0) ⨾ (34, 8, 24, 0) ⨾ (36, 3, 6, 25) ⨾ []) 26)
    (pos 1 ∷ []) 7
    0 0 7 [] (pos 0 ∷ pos 0 ∷ []) ((19, pos 1) ∷ (26, pos 1) ∷ [])
    -- an assertion reads the mark of its loop
    ∷ runs
    (scripted ((1, 0, 0, 0) ⨾ (2, 0, 0, 0) ⨾ (18, 1, 2, 0) ⨾ (16, 0, 0, 0) ⨾ (2, 0, 0, 0) ⨾ (37, 4, 5, 0) ⨾ (2, 0, 0, 0)
    ⨾ (9, 16, 0, 0) ⨾ (20, 7, 8, 0) ⨾ (38, 9, 0, 0) ⨾ (2, 0, 0, 0) ⨾ (1, 1, 0, 0) ⨾ (4, 11, 12, 0) ⨾ (33, 0, 13, 0)
    ⨾ (34, 10, 14, 0) ⨾ (36, 3, 6, 15) ⨾ []) 16)
    (pos 2 ∷ []) 9
    0 0 7 [] (pos 0 ∷ []) ((16, pos 1) ∷ [])
    ∷ []

pub loops_hold : map observed loops ≡ map expected loops
unfolding ◌⨾◌ loops machine_run machine_on called play machine_step due work judge verdict_within length_test row_test_within script_test unlinked_test target_test reading_test nesting_test lowest row_fault_within linked misread misreads row row_of expr formula stmt expr_at formula_at stmt_at tree nesting
loops_hold = refl
