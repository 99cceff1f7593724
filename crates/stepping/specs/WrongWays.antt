-- Wrong turns of 02, P11, each the right machine but for one part (`Variants`): how values are worked out, what a step does, when the
-- machine stops and what is told there. Each is told from the machine defined in `Wrong`. Assumes nothing.
use Rattle.std.specs.Prelude.{ℕ, suc, List, ◌∷◌, Bool, true, false, cond, ◌&&◌, ℤ, negsuc, eqb, set}
use Rattle.std.proofs.Math.Bool as Bool
use Rattle.script.specs.declared.Operator.{Operator}
use Rattle.script.specs.declared.Operator.TheVariants.{Plus, Minus, Times, Div, Mod}
use Rattle.script.specs.declared.Connective.{Connective}
use Rattle.script.specs.declared.Connective.TheVariants.{And, Or, Implies}
use Rattle.script.specs.declared.StatementRow.{StatementRow}
use Rattle.script.specs.declared.StatementRow.TheVariants.{Skip, Assign, Sequence, If, While, Assert}
use Rattle.script.specs.Meaning.{whole, value, takes, eqZ}
use Rattle.script.specs.Rows.{row}
use Rattle.script.specs.Trees.{expr_at, formula_at}
use Rattle.stepping.specs.Values.{mode_64, by_zero, Worked, got, stop, ◌then◌, judge}
use Rattle.stepping.specs.Machine.{Due, Stepped, carry, fault_number, if_statement, if_note, state_of}
use Rattle.stepping.specs.Variants.{ValueWays, StepWays, StopWays, Ways, right, valuing, acting, stopping}

-- ---- values

abbrev of_values : ValueWays
of_values = right.values

-- the right ones but for one part
abbrev operating : (Bool → (Operator → ℤ → ℤ → Worked ℤ) → Operator → Worked ℤ → Worked ℤ → Worked ℤ) → Ways
operating f = valuing (record {
  operator = f;
  chosen = of_values.chosen;
  joined = of_values.joined;
  annotation = false;
  numbers = of_values.numbers;
  storing = of_values.storing;
})

abbrev judging : (Worked Bool → Worked ℤ → Worked ℤ → Worked ℤ) → (Connective → Worked Bool → Worked Bool → Worked Bool) → Bool → Ways
judging chosen joined annotation = valuing (record {
  operator = of_values.operator;
  chosen = chosen;
  joined = joined;
  annotation = annotation;
  numbers = of_values.numbers;
  storing = of_values.storing;
})

-- an operand that is a zero divisor in code
abbrev zero_divides : Bool → Operator → Worked ℤ → Bool
zero_divides code o (got y) = code && Bool.not (takes o y)
zero_divides code o (stop x) = false

-- a zero divisor stops before the left operand is worked out
abbrev pub divisor_first : Ways
divisor_first = operating (λ code f o a b. cond (zero_divides code o b) (stop by_zero) (a then λ x. b then λ y. f o x y))

-- the right operand is worked out first
abbrev pub right_first : Ways
right_first = operating (λ code f o a b. b then λ y. a then λ x. f o x y)

abbrev lowest : ℤ
lowest = negsuc 9223372036854775807

abbrev divides : Operator → Bool
divides Div = true
divides Plus = false
divides Minus = false
divides Times = false
divides Mod = false

-- the quotient of the lowest number and -1 is let through, as 64 bits wrap it: the lowest number again
abbrev pub lowest_by_minus_one_let_through : Ways
lowest_by_minus_one_let_through =
    operating (λ code f o a b. a then λ x. b then λ y. cond (divides o && (eqZ x lowest && eqZ y (negsuc 0))) (got lowest) (f o x y))

-- only values that are stored are tested for range
abbrev pub results_untested : Ways
results_untested = valuing (record {
  operator = of_values.operator;
  chosen = of_values.chosen;
  joined = of_values.joined;
  annotation = false;
  numbers = λ M. record { arithmetic = M.arithmetic; holds_value = λ z. true };
  storing = λ f w. w then f;
})

abbrev pub both_branches_worked_out : Ways
both_branches_worked_out = judging (λ f a b. f then λ t. a then λ x. b then λ y. got (cond t x y)) of_values.joined false

-- a connective stops where its left side decides
abbrev cut : Connective → Worked Bool → Worked Bool → Worked Bool
cut And f g = f then λ t. cond t g (got false)
cut Or f g = f then λ t. cond t (got true) g
cut Implies f g = f then λ t. cond t g (got true)

abbrev pub connective_cut_short : Ways
connective_cut_short = judging of_values.chosen cut false

-- 53 in an annotation
abbrev pub annotation_divides : Ways
annotation_divides = judging of_values.chosen of_values.joined true

-- ---- steps

abbrev of_steps : StepWays
of_steps = right.steps

abbrev doing : (Worked Bool → ((ℤ → Stepped) → Stepped) → (ℤ → Stepped) → Stepped → Stepped) → (List ℤ → ℕ → ℤ → List ℤ)
    → (ℕ → ℕ → List ℕ → List ℕ) → (Bool → ℕ → ℕ → ℕ) → Ways
doing looped marked passing branch = acting (record { looped = looped; marked = marked; passing = passing; branch = branch })

abbrev pub variant_worked_out_at_exit : Ways
variant_worked_out_at_exit =
    doing (λ b v p l. carry b (λ t. v (λ z. cond t (p z) l))) of_steps.marked of_steps.passing of_steps.branch

abbrev pub mark_not_set : Ways
mark_not_set = doing of_steps.looped (λ zs r z. zs) of_steps.passing of_steps.branch

abbrev pub loop_left_after_a_pass : Ways
loop_left_after_a_pass = doing of_steps.looped of_steps.marked (λ x r rest. x ∷ rest) of_steps.branch

abbrev pub else_branch_taken : Ways
else_branch_taken = doing of_steps.looped of_steps.marked of_steps.passing (λ t x y. cond t y x)

-- ---- where the machine stops

abbrev of_stops : StopWays
of_stops = right.stops

abbrev telling : ℕ → (ℕ → List ℕ → Due → List ℕ) → (ℕ → Due → ℕ) → (Worked Bool → ℕ) → Ways
telling spent_number stack_shown row_shown end_number = stopping (record {
  allowed = of_stops.allowed;
  spent_number = spent_number;
  stack_shown = stack_shown;
  row_shown = row_shown;
  steps_shown = of_stops.steps_shown;
  marks_shown = of_stops.marks_shown;
  end_number = end_number;
})

abbrev counting : (ℕ → ℕ) → (ℕ → ℕ) → (List ℤ → Due → List ℤ → List ℤ → List ℤ) → Ways
counting allowed steps_shown marks_shown = stopping (record {
  allowed = allowed;
  spent_number = 54;
  stack_shown = of_stops.stack_shown;
  row_shown = of_stops.row_shown;
  steps_shown = steps_shown;
  marks_shown = marks_shown;
  end_number = of_stops.end_number;
})

abbrev pub spent_told_as_ended : Ways
spent_told_as_ended = telling 0 of_stops.stack_shown of_stops.row_shown of_stops.end_number

-- a sequence is shown split though its step failed
abbrev pub shown_split : Ways
shown_split = telling 54 (λ r rest d. d.at ∷ d.rest) of_stops.row_shown of_stops.end_number

-- the row of the sequence, not of the statement due
abbrev pub row_of_the_sequence : Ways
row_of_the_sequence = telling 54 of_stops.stack_shown (λ r d. r) of_stops.end_number

abbrev of_truth : Worked Bool → ℕ
of_truth (got t) = cond t 0 52
of_truth (stop x) = fault_number x

abbrev pub postcondition_worked_out : Ways
postcondition_worked_out = telling 54 of_stops.stack_shown of_stops.row_shown of_truth

-- the limit is tested after the step, so that 0 allows one
abbrev pub limit_tested_after_the_step : Ways
limit_tested_after_the_step = counting (λ n. cond (eqb n 0) 1 n) of_stops.steps_shown of_stops.marks_shown

abbrev pub failed_step_counted : Ways
failed_step_counted = counting of_stops.allowed suc of_stops.marks_shown

-- where the guard is true and yet no step was made, the variant overflowed
abbrev written : List ℤ → ℕ → List ℤ → List ℤ → Worked Bool → ℕ → List ℤ
written t r vars marks (got c) i =
    cond c (if_note marks (λ v. set marks r (value whole (state_of vars marks) (expr_at t v))) (row t i)) marks
written t r vars marks (stop x) i = marks

abbrev written_at : List ℤ → ℕ → List ℤ → List ℤ → StatementRow → List ℤ
written_at t r vars marks (While b i x) = written t r vars marks (judge mode_64 (state_of vars marks) true (formula_at t b.0)) i.0
written_at t r vars marks Skip = marks
written_at t r vars marks (Assign v e) = marks
written_at t r vars marks (Sequence a b) = marks
written_at t r vars marks (If b x y) = marks
written_at t r vars marks (Assert f) = marks

-- the mark is set before the variant is tested
abbrev pub mark_set_first : Ways
mark_set_first =
    counting of_stops.allowed of_stops.steps_shown (λ t d vars marks. if_statement marks (written_at t d.at vars marks) (row t d.at))
