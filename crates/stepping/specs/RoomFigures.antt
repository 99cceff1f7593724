-- 02, P11, by computation: 1 to 10 and then 51, with all lent words as they were; runs that are as long as they have to be, and
-- longer ones; calls that go on with rows that are lent. Assumes nothing.
use Rattle.std.specs.Prelude.{ℕ, ◌-◌, ◌≡◌, refl, List, [], ◌∷◌, ◌++◌, map, ℤ, pos, length, replicate}
use Rattle.script.specs.Computed.{◌⨾◌}
use Rattle.script.specs.Rows.{row, row_of}
use Rattle.script.specs.Trees.{expr, formula, stmt, expr_at, formula_at, stmt_at, tree, nesting}
use Rattle.script.specs.Refusals.{lowest, row_fault_within, linked, misread, misreads, length_test, row_test_within, script_test, unlinked_test, target_test, reading_test, nesting_test, verdict_within}
use Rattle.script.specs.Generated.{zeros}
use Rattle.stepping.specs.Machine.{mode_64, work, judge, due, machine_step, play, Ran, called, machine_run, machine_on}
use Rattle.stepping.specs.Figures.{scripted, values, marked}

-- skip, in four rows; skip; (skip; skip), in eight; while 0 < v0 (true, v0) do v0 := v0 - 1, whose row is 11 of 14
unfoldable pub skips : List ℤ
skips = scripted ((32, 0, 0, 0) ⨾ []) 1

unfoldable pub three_skips : List ℤ
three_skips = scripted ((32, 0, 0, 0) ⨾ (32, 0, 0, 0) ⨾ (32, 0, 0, 0) ⨾ (34, 2, 3, 0) ⨾ (34, 1, 4, 0) ⨾ []) 5

unfoldable pub counts : List ℤ
counts =
    scripted
    ((1, 0, 0, 0) ⨾ (2, 0, 0, 0) ⨾ (18, 1, 2, 0) ⨾ (16, 0, 0, 0) ⨾ (2, 0, 0, 0) ⨾ (37, 4, 5, 0) ⨾ (2, 0, 0, 0) ⨾ (1, 1, 0, 0)
    ⨾ (4, 7, 8, 0) ⨾ (33, 0, 9, 0) ⨾ (36, 3, 6, 10) ⨾ [])
    11

-- an assignment to a frozen name: 8, row 2
unfoldable pub frozen_target : List ℤ
frozen_target = scripted ((1, 0, 0, 0) ⨾ (33, 128, 1, 0) ⨾ []) 2

pub data Trial : Type 0 where
  -- table, stack, values for variables and marks, all lent, limit; the number and the row of a refusal
  refuses : List ℤ → List ℕ → List ℤ → List ℤ → ℕ → ℕ → ℕ → Trial
  -- table, words of stack, which are nines, values; it ends after so many steps, and the values stay
  ends : List ℤ → ℕ → List ℤ → List ℤ → ℕ → ℕ → Trial
  -- table, stack, how much of it is to do, first variable, limit; number, row, steps, stack, and the first variable and the mark of row 11
  goes_on : List ℤ → List ℕ → ℕ → ℤ → ℕ → ℕ → ℕ → ℕ → List ℕ → ℤ → ℤ → Trial

abbrev nines : ℕ → List ℕ
nines n = replicate n 9

abbrev observed : Trial → Ran
observed (refuses t stack vars marks limit n r) = machine_run mode_64 t stack vars marks limit
observed (ends t room vars marks limit s) = machine_run mode_64 t (nines room) vars marks limit
observed (goes_on t stack height x limit n r s left y m) =
    machine_on mode_64 t stack (values 1024 (x ∷ [])) (zeros 2048) limit height

abbrev expected : Trial → Ran
expected (refuses t stack vars marks limit n r) = record {
  number = n;
  row = r;
  steps = 0;
  height = 0;
  stack = stack;
  vars = vars;
  marks = marks;
}
expected (ends t room vars marks limit s) = record {
  number = 0;
  row = 0;
  steps = s;
  height = 0;
  stack = replicate room 0;
  vars = vars;
  marks = marks;
}
expected (goes_on t stack height x limit n r s left y m) = record {
  number = n;
  row = r;
  steps = s;
  height = length left;
  stack = left ++ replicate (length stack - length left) 0;
  vars = values 1024 (y ∷ []);
  marks = marked (zeros 2048) ((11, m) ∷ []);
}

-- a run of values that is longer than it has to be, with a number at its end
abbrev longer : ℕ → ℤ → List ℤ
longer n z = zeros n ++ (z ∷ [])

unfoldable pub rooms : List Trial
rooms =
    -- "51 when the stack has fewer words than rows or a value run is short"
    refuses skips (nines 3) (zeros 1024) (zeros 2048) 9 51 0
    ∷ refuses skips (nines 4) (zeros 1023) (zeros 2048) 9 51 0
    ∷ refuses skips (nines 4) (zeros 1024) (zeros 2047) 9 51 0
    ∷ refuses skips [] [] [] 0 51 0
    -- as short as they may be
    ∷ ends skips 4 (zeros 1024) (zeros 2048) 1 1
    -- longer ones: "zeros above" the stack, and further values as they were
    ∷ ends skips 20 (longer 1024 (pos 7)) (longer 2049 (pos 8)) 9 1
    -- "1 to 10 come first"
    ∷ refuses [] [] [] [] 9 1 0
    ∷ refuses (pos 5 ∷ []) (nines 3) (zeros 1024) (zeros 2048) 9 1 0
    ∷ refuses frozen_target [] [] [] 9 8 2
    ∷ refuses frozen_target (nines 30) (values 1024 (pos 5 ∷ [])) (zeros 2048) 9 8 2
    ∷ []

pub rooms_hold : map observed rooms ≡ map expected rooms
unfolding ◌⨾◌ rooms skips three_skips counts frozen_target machine_run called play machine_step due verdict_within length_test row_test_within script_test unlinked_test target_test reading_test nesting_test lowest row_fault_within linked misread misreads row row_of stmt stmt_at tree nesting
rooms_hold = refl

-- a call that goes on
unfoldable pub on_figures : List Trial
on_figures =
    -- what a run of one step leaves of three skips, a step on, and to the end
    goes_on three_skips (4 ∷ nines 8) 1 (pos 0) 1 54 3 1 (3 ∷ []) (pos 0) (pos 0)
    ∷ goes_on three_skips (4 ∷ nines 8) 1 (pos 0) 2 0 0 2 [] (pos 0) (pos 0)
    ∷ goes_on three_skips (4 ∷ nines 8) 1 (pos 0) 0 54 2 0 (4 ∷ []) (pos 0) (pos 0)
    -- nothing to do
    ∷ goes_on three_skips (nines 8) 0 (pos 5) 0 0 0 0 [] (pos 5) (pos 0)
    -- at a loop, and in its body
    ∷ goes_on counts (11 ∷ nines 14) 1 (pos 2) 9 0 0 5 [] (pos 0) (pos 1)
    ∷ goes_on counts (11 ∷ 10 ∷ nines 14) 2 (pos 1) 1 54 11 1 (11 ∷ []) (pos 0) (pos 0)
    -- a loop that is to do twice
    ∷ goes_on counts (11 ∷ 11 ∷ nines 14) 2 (pos 1) 9 0 0 4 [] (pos 0) (pos 1)
    -- rows that are no statement, and numbers that are no row, are done in a step
    ∷ goes_on skips (77 ∷ 0 ∷ 1 ∷ nines 4) 3 (pos 0) 1 54 0 1 (77 ∷ 0 ∷ []) (pos 0) (pos 0)
    ∷ goes_on skips (77 ∷ 0 ∷ 1 ∷ nines 4) 3 (pos 0) 2 54 77 2 (77 ∷ []) (pos 0) (pos 0)
    ∷ goes_on skips (77 ∷ 0 ∷ 1 ∷ nines 4) 3 (pos 0) 3 0 0 3 [] (pos 0) (pos 0)
    ∷ []

pub on_figures_hold : map observed on_figures ≡ map expected on_figures
unfolding ◌⨾◌ on_figures skips three_skips counts frozen_target machine_run machine_on called play machine_step due work judge verdict_within length_test row_test_within script_test unlinked_test target_test reading_test nesting_test lowest row_fault_within linked misread misreads row row_of expr formula stmt expr_at formula_at stmt_at tree nesting
on_figures_hold = refl

-- a call that goes on needs a word for each row beside those that are lent
needs : (machine_on mode_64 skips (1 ∷ nines 3) (zeros 1024) (zeros 2048) 9 1).number ≡ 51
unfolding ◌⨾◌ skips machine_on called play machine_step due work judge verdict_within length_test row_test_within script_test unlinked_test target_test reading_test nesting_test lowest row_fault_within linked misread misreads row row_of expr formula stmt expr_at formula_at stmt_at tree nesting
needs = refl
