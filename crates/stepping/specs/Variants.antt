-- The machine with what a wrong turn changes as arguments (`Ways`): how values are worked out (`valuing`), what a step does (`acting`),
-- when it stops and what is told there (`stopping`). With the right ones it is the machine defined (`RightWay.right_way`). Assumes nothing.
use Rattle.std.specs.Prelude.{ℕ, zero, suc, ◌-◌, List, [], ◌∷◌, Bool, true, false, cond, ℤ, set}
use Rattle.std.proofs.Math.Bool as Bool
use Rattle.script.specs.declared.Operator.{Operator}
use Rattle.script.specs.declared.Connective.{Connective}
use Rattle.script.specs.declared.StatementRow.{StatementRow}
use Rattle.script.specs.declared.StatementRow.TheVariants.{Skip, Assign, Sequence, If, While, Assert}
use Rattle.script.specs.Syntax.{Expr, const, var, mark, arith, neg, choose, Formula, truth, cmp, not, join}
use Rattle.script.specs.Meaning.{State, relate, connect}
use Rattle.script.specs.Rows.{row, rows}
use Rattle.script.specs.Trees.{expr_at, formula_at, tree}
use Rattle.script.specs.Refusals.{accepted, refused, verdict}
use Rattle.stepping.specs.Values.{Mode, Worked, got, ◌then◌, tested, operated}
use Rattle.stepping.specs.Machine.{Held, hold, state_of, Due, next, Stepped, on, faulty, untrue, carry, fault_number, if_statement, if_note, Stopped, stopped, Ran, statement_of, unchanged, shown, too_short}

-- ---- what a wrong turn changes

-- how values are worked out
pub record ValueWays : Type 0 where
  -- an operator, in code or not, from what its operands give
  pub operator : Bool → (Operator → ℤ → ℤ → Worked ℤ) → Operator → Worked ℤ → Worked ℤ → Worked ℤ
  pub chosen : Worked Bool → Worked ℤ → Worked ℤ → Worked ℤ
  pub joined : Connective → Worked Bool → Worked Bool → Worked Bool
  -- whether an annotation is worked out as code
  pub annotation : Bool
  -- the numbers of results
  pub numbers : Mode → Mode
  -- a value that is to be stored, with the test of a result
  pub storing : (ℤ → Worked ℤ) → Worked ℤ → Worked ℤ

-- what a step does
pub record StepWays : Type 0 where
  -- a loop, from its guard and what its variant's value is for: a pass with that value, or the loop is left
  pub looped : Worked Bool → ((ℤ → Stepped) → Stepped) → (ℤ → Stepped) → Stepped → Stepped
  pub marked : List ℤ → ℕ → ℤ → List ℤ
  -- what is to do as a pass begins, from the rows of body and loop
  pub passing : ℕ → ℕ → List ℕ → List ℕ
  pub branch : Bool → ℕ → ℕ → ℕ

-- when the machine stops, and what is told there
pub record StopWays : Type 0 where
  -- how many steps a limit allows
  pub allowed : ℕ → ℕ
  -- the number where the limit is spent
  pub spent_number : ℕ
  -- stack, row, steps and marks where a step is not made, from the next row, the rest and what is due
  pub stack_shown : ℕ → List ℕ → Due → List ℕ
  pub row_shown : ℕ → Due → ℕ
  pub steps_shown : ℕ → ℕ
  pub marks_shown : List ℤ → Due → List ℤ → List ℤ → List ℤ
  -- the number at the end, from what the postcondition gives
  pub end_number : Worked Bool → ℕ

pub record Ways : Type 0 where
  pub values : ValueWays
  pub steps : StepWays
  pub stops : StopWays

abbrev pub right : Ways
right = record {
  values = record {
    operator = λ code f o a b. a then λ x. b then λ y. f o x y;
    chosen = λ f a b. f then λ t. cond t a b;
    joined = λ c f g. f then λ t. g then λ u. got (connect c t u);
    annotation = false;
    numbers = λ M. M;
    storing = λ f w. w;
  };
  steps = record {
    looped = λ b v p l. carry b (λ t. cond t (v p) l);
    marked = set;
    passing = λ x r rest. x ∷ r ∷ rest;
    branch = cond;
  };
  stops = record {
    allowed = λ n. n;
    spent_number = 54;
    stack_shown = λ r rest d. r ∷ rest;
    row_shown = λ r d. d.at;
    steps_shown = λ n. n;
    marks_shown = λ t d vars marks. marks;
    end_number = λ q. 0;
  };
}

-- the right ways but for values, steps or stops
abbrev pub valuing : ValueWays → Ways
valuing w = record { values = w; steps = right.steps; stops = right.stops }

abbrev pub acting : StepWays → Ways
acting w = record { values = right.values; steps = w; stops = right.stops }

abbrev pub stopping : StopWays → Ways
stopping w = record { values = right.values; steps = right.steps; stops = w }

-- ---- the machine by these ways

module _ (W : Ways) (M : Mode) where
  module _ (s : State) (code : Bool) where
    unfoldable mutual
      pub work_by : Expr → Worked ℤ
      work_by (const z) = got z
      work_by (var v) = got (s.var v)
      work_by (mark m) = got (s.mark m)
      work_by (arith o a b) = W.values.operator code (operated (W.values.numbers M) s code) o (work_by a) (work_by b)
      work_by (neg a) = work_by a then λ x. tested (W.values.numbers M) s code (M.arithmetic.neg x)
      work_by (choose f a b) = W.values.chosen (judge_by f) (work_by a) (work_by b)

      pub judge_by : Formula → Worked Bool
      judge_by (truth b) = got b
      judge_by (cmp r a b) = work_by a then λ x. work_by b then λ y. got (relate r x y)
      judge_by (not f) = judge_by f then λ t. got (Bool.not t)
      judge_by (join c f g) = W.values.joined c (judge_by f) (judge_by g)

  module _ (t : List ℤ) where
    module _ (rest : List ℕ) (vars marks : List ℤ) where
      abbrev s : State
      s = state_of vars marks

      abbrev done_by : Stepped
      done_by = on (hold rest vars marks)

      abbrev pub act_by : ℕ → StatementRow → Stepped
      act_by r Skip = done_by
      act_by r (Assign v e) =
          carry (W.values.storing (tested M s true) (work_by s true (expr_at t e.0))) (λ z. on (hold rest (set vars v.0 z) marks))
      act_by r (Assert f) = carry (judge_by s W.values.annotation (formula_at t f.0)) (λ c. cond c done_by untrue)
      act_by r (If b x y) =
          carry (judge_by s true (formula_at t b.0)) (λ c. on (hold (W.steps.branch c x.0 y.0 ∷ rest) vars marks))
      act_by r (While b i x) =
          W.steps.looped (judge_by s true (formula_at t b.0))
          (λ p. if_note done_by (λ v. carry (W.values.storing (tested M s false) (work_by s W.values.annotation (expr_at t v))) p) (row t i.0))
          (λ z. on (hold (W.steps.passing x.0 r rest) vars (W.steps.marked marks r z))) done_by
      act_by r (Sequence a b) = done_by

    abbrev pub step_by : Due → List ℤ → List ℤ → Stepped
    step_by d vars marks =
        if_statement (on (hold d.rest vars marks)) (act_by d.rest vars marks d.at) (row t d.at)

    abbrev pub ended_by : ℕ → List ℤ → List ℤ → Stopped
    ended_by steps vars marks =
        stopped (W.stops.end_number (judge_by (state_of vars marks) false (tree t).post)) 0 steps (hold [] vars marks)

    abbrev pub proceed_by : (Held → Stopped) → ℕ → ℕ → List ℕ → Due → List ℤ → List ℤ → Stepped → Stopped
    proceed_by more steps r rest d vars marks (on h) = more h
    proceed_by more steps r rest d vars marks (faulty x) =
        stopped (fault_number x) (W.stops.row_shown r d) (W.stops.steps_shown steps)
        (hold (W.stops.stack_shown r rest d) vars (W.stops.marks_shown t d vars marks))
    proceed_by more steps r rest d vars marks untrue =
        stopped 52 (W.stops.row_shown r d) (W.stops.steps_shown steps)
        (hold (W.stops.stack_shown r rest d) vars (W.stops.marks_shown t d vars marks))

    abbrev pub spent_by : ℕ → List ℕ → List ℤ → List ℤ → Stopped
    spent_by steps [] vars marks = ended_by steps vars marks
    spent_by steps (r ∷ rest) vars marks =
        let d = next t r rest in
        stopped W.stops.spent_number (W.stops.row_shown r d) steps (hold (r ∷ rest) vars marks)

    abbrev pub onward_by : (Held → Stopped) → ℕ → List ℕ → List ℤ → List ℤ → Stopped
    onward_by more steps [] vars marks = ended_by steps vars marks
    onward_by more steps (r ∷ rest) vars marks =
        let d = next t r rest in
        proceed_by more steps r rest d vars marks (step_by d vars marks)

    unfoldable pub play_by : ℕ → ℕ → List ℕ → List ℤ → List ℤ → Stopped
    play_by zero steps stack vars marks = spent_by steps stack vars marks
    play_by (suc limit) steps stack vars marks =
        onward_by (λ h. play_by limit (suc steps) h.stack h.vars h.marks) steps stack vars marks

    unfoldable pub run_by : List ℕ → List ℤ → List ℤ → ℕ → Ran
    run_by stack vars marks limit =
        elim (verdict t) [
          | refused n r ↦ unchanged M t stack vars marks limit n r
          | accepted ↦ cond (too_short M t stack vars marks limit (rows t)) (unchanged M t stack vars marks limit 51 0)
              (shown M t stack vars marks limit (play_by (W.stops.allowed limit) 0 (statement_of (row t (rows t - 1)) ∷ []) vars marks))
        ]
