-- 02, P11, the lent values: if those lent are in range, and the table's words are, those left are (`play_inside`; of a call
-- `call_inside`): in the first mode 64-bit values (`call_inside_64`).
-- Argument: a value put in is a constant of the table, a value that was there, or a result that passed the test. Assumes nothing.
use Prim.Native.Nat.{ℕ, zero, suc}
use Rattle.std.specs.Prelude.{Bool, true, false, cond, ◌&&◌, ℤ, pos, T, ltb, get_or, set}
use Rattle.std.proofs.Math.Bool as Bool
use mathlib.Core.List.{List, [], ◌∷◌}
use Rattle.script.specs.declared.Operator.{Operator}
use Rattle.script.specs.declared.StatementRow.{StatementRow}
use Rattle.script.specs.declared.StatementRow.TheVariants.{Skip, Assign, Sequence, If, While, Assert}
use Rattle.script.specs.declared.Row.{Row}
use Rattle.script.specs.Syntax.{Expr, const, var, mark, arith, neg, choose}
use Rattle.script.specs.Meaning.{State, takes}
use Rattle.script.specs.Rows.{row, variables}
use Rattle.script.specs.Trees.{expr_at, formula_at}
use Rattle.stepping.specs.Values.{in_64}
use Rattle.stepping.specs.Machine.{Mode, mode_64, Fault, overflow, by_zero, Worked, got, stop, work, judge, Held, hold, mark_values, lent, state_of, next, Stepped, on, faulty, untrue, carry, if_statement, if_note, done, pass, act, Stopped, machine_step, proceed, play, Ran}
use Rattle.stepping.specs.Values.{◌then◌, tested, operated}
use Rattle.stepping.specs.Calls.{Call, table_refused, runs_short, plays}
use Rattle.stepping.specs.Constants.{ConstantsHeld, expr_at_held}

-- what passes the test is in N, where the operands are
pub record Closed (M : Mode) (N : ℤ → Bool) : Type 0 where
  pub nought : T (N (pos 0))
  pub results : (o : Operator) (a b : ℤ) → T (N a) → T (N b) → T (M.holds_value (M.arithmetic.op o a b)) → T (N (M.arithmetic.op o a b))
  pub negated : (a : ℤ) → T (N a) → T (M.holds_value (M.arithmetic.neg a)) → T (N (M.arithmetic.neg a))

pub closed_64 : Closed mode_64 in_64
closed_64 = record { nought = tt; results = λ o a b h k p. p; negated = λ a h p. p }

-- every value in a run
abbrev pub AllIn : (ℤ → Bool) → List ℤ → Type 0
AllIn N zs = (i : ℕ) → T (N (get_or zs i (pos 0)))

pub record LentIn (N : ℤ → Bool) (vars marks : List ℤ) : Type 0 where
  pub all_vars : AllIn N vars
  pub all_marks : AllIn N marks

set_inside : (N : ℤ → Bool) (zs : List ℤ) (k : ℕ) (z : ℤ) → AllIn N zs → T (N z) → AllIn N (set zs k z)
set_inside N [] k z h n i = h i
set_inside N (x ∷ xs) zero z h n zero = n
set_inside N (x ∷ xs) zero z h n (suc i) = h (suc i)
set_inside N (x ∷ xs) (suc k) z h n zero = h zero
set_inside N (x ∷ xs) (suc k) z h n (suc i) = set_inside N xs k z (λ j. h (suc j)) n i

module _ (M : Mode) (N : ℤ → Bool) (closed : Closed M N) where
  data Inside : Worked ℤ → Type 0 where
    within : {z : ℤ} → T (N z) → Inside (got z)
    stops : {x : Fault} → Inside (stop x)

  lent_inside : (size : ℕ) (zs : List ℤ) → AllIn N zs → (i : ℕ) → T (N (lent size zs i))
  lent_inside size zs h i = by (ltb i size)
    where
      by : (b : Bool) → T (N (cond b (get_or zs i (pos 0)) (pos 0)))
      by true = h i
      by false = closed.nought

  module _ (s : State) (code : Bool) (vars : (i : ℕ) → T (N (s.var i))) (marks : (i : ℕ) → T (N (s.mark i))) where
    tested_inside : (b : Bool) (z : ℤ) → (T b → T (N z)) → Inside (cond b (got z) (stop overflow))
    tested_inside true z h = within (h tt)
    tested_inside false z h = stops

    divided_inside : (b : Bool) {w : Worked ℤ} → Inside w → Inside (cond b (stop by_zero) w)
    divided_inside true h = stops
    divided_inside false h = h

    op_inside : (o : Operator) {v w : Worked ℤ} → Inside v → Inside w → Inside (v then λ x. w then λ y. operated M s code o x y)
    op_inside o stops h = stops
    op_inside o (within n) stops = stops
    op_inside o (within {z = x} n) (within {z = y} m) =
        divided_inside (code && Bool.not (takes o y))
        (tested_inside (M.holds_value (M.arithmetic.op o x y)) (M.arithmetic.op o x y) (closed.results o x y n m))

    neg_inside : {v : Worked ℤ} → Inside v → Inside (v then λ x. tested M s code (M.arithmetic.neg x))
    neg_inside stops = stops
    neg_inside (within {z = x} n) = tested_inside (M.holds_value (M.arithmetic.neg x)) (M.arithmetic.neg x) (closed.negated x n)

    chosen_inside : (c : Worked Bool) {v w : Worked ℤ} → Inside v → Inside w → Inside (c then λ t. cond t v w)
    chosen_inside (got true) h k = h
    chosen_inside (got false) h k = k
    chosen_inside (stop x) h k = stops

    work_inside : (e : Expr) → ConstantsHeld N e → Inside (work M s code e)
    unfolding work
    work_inside (const z) h = within h
    work_inside (var v) h = within (vars v)
    work_inside (mark m) h = within (marks m)
    work_inside (arith o a b) h = op_inside o (work_inside a h.0) (work_inside b h.1)
    work_inside (neg a) h = neg_inside (work_inside a h)
    work_inside (choose f a b) h = chosen_inside (judge M s code f) (work_inside a h.0) (work_inside b h.1)

  -- ---- a step, and steps

  data Keeps : Stepped → Type 0 where
    goes : {h : Held} → LentIn N h.vars h.marks → Keeps (on h)
    faults : {x : Fault} → Keeps (faulty x)
    denies : Keeps untrue

  carry_value : (f : ℤ → Stepped) {w : Worked ℤ} → Inside w → ((z : ℤ) → T (N z) → Keeps (f z)) → Keeps (carry w f)
  carry_value f (within {z = z} n) h = h z n
  carry_value f stops h = faults

  carry_truth : (f : Bool → Stepped) (w : Worked Bool) → Keeps (f true) → Keeps (f false) → Keeps (carry w f)
  carry_truth f (got true) h k = h
  carry_truth f (got false) h k = k
  carry_truth f (stop x) h k = faults

  module _ (t : List ℤ) (words : AllIn N t) where
    module _ (rest : List ℕ) (vars marks : List ℤ) (fit : LentIn N vars marks) where
      valued : (code : Bool) (r : ℕ) → Inside (work M (state_of vars marks) code (expr_at t r))
      valued code r =
          work_inside (state_of vars marks) code (lent_inside variables vars fit.all_vars) (lent_inside mark_values marks fit.all_marks)
          (expr_at t r) (expr_at_held N closed.nought t words r)

      note_keeps : (r x : ℕ) (w : Row) → Keeps (if_note (done M t rest vars marks) (pass M t rest vars marks r x) w)
      note_keeps r x (Row.Note i v) =
          carry_value (λ z. on (hold (x ∷ r ∷ rest) vars (set marks r z))) (valued false v.0)
          (λ z n. goes (record { all_vars = fit.all_vars; all_marks = set_inside N marks r z fit.all_marks n }))
      note_keeps r x (Row.Expression w) = goes fit
      note_keeps r x (Row.Formula w) = goes fit
      note_keeps r x (Row.Statement w) = goes fit
      note_keeps r x (Row.Script p s q) = goes fit
      note_keeps r x Row.Unknown = goes fit

      act_keeps : (r : ℕ) (w : StatementRow) → Keeps (act M t rest vars marks r w)
      act_keeps r Skip = goes fit
      act_keeps r (Assign v e) =
          carry_value (λ z. on (hold rest (set vars v.0 z) marks)) (valued true e.0)
          (λ z n. goes (record { all_vars = set_inside N vars v.0 z fit.all_vars n; all_marks = fit.all_marks }))
      act_keeps r (Sequence a b) = goes fit
      act_keeps r (If b x y) = carry_truth _ (judge M (state_of vars marks) true (formula_at t b.0)) (goes fit) (goes fit)
      act_keeps r (While b i x) =
          carry_truth _ (judge M (state_of vars marks) true (formula_at t b.0)) (note_keeps r x.0 (row t i.0)) (goes fit)
      act_keeps r (Assert f) = carry_truth _ (judge M (state_of vars marks) false (formula_at t f.0)) (goes fit) denies

      row_keeps : (r : ℕ) (w : Row) → Keeps (if_statement (done M t rest vars marks) (act M t rest vars marks r) w)
      row_keeps r (Row.Statement w) = act_keeps r w
      row_keeps r (Row.Expression w) = goes fit
      row_keeps r (Row.Formula w) = goes fit
      row_keeps r (Row.Note i v) = goes fit
      row_keeps r (Row.Script p s q) = goes fit
      row_keeps r Row.Unknown = goes fit

    step_keeps : (r : ℕ) (rest : List ℕ) (vars marks : List ℤ) → LentIn N vars marks → Keeps (machine_step M t r rest vars marks)
    unfolding machine_step
    step_keeps r rest vars marks fit = row_keeps (next t r rest).rest vars marks fit (next t r rest).at (row t (next t r rest).at)

    abbrev Left : Stopped → Type 0
    Left p = LentIn N p.held.vars p.held.marks

    proceeds : (more : Held → Stopped) → ((h : Held) → LentIn N h.vars h.marks → Left (more h)) → (steps r : ℕ) (h : Held)
        → LentIn N h.vars h.marks → {w : Stepped} → Keeps w → Left (proceed M t more steps r h w)
    proceeds more rec steps r h fit (goes {h = h'} k) = rec h' k
    proceeds more rec steps r h fit faults = fit
    proceeds more rec steps r h fit denies = fit

    pub play_inside : (limit steps : ℕ) (stack : List ℕ) (vars marks : List ℤ) → LentIn N vars marks → Left (play M t limit steps stack vars marks)
    unfolding play
    play_inside zero steps [] vars marks fit = fit
    play_inside zero steps (r ∷ rest) vars marks fit = fit
    play_inside (suc limit) steps [] vars marks fit = fit
    play_inside (suc limit) steps (r ∷ rest) vars marks fit =
        proceeds (λ h. play M t limit (suc steps) h.stack h.vars h.marks)
        (λ h k. play_inside limit (suc steps) h.stack h.vars h.marks k) steps (next t r rest).at (hold (r ∷ rest) vars marks) fit
        (step_keeps r rest vars marks fit)

    pub call_inside : (stack : List ℕ) (vars marks : List ℤ) (limit need : ℕ) (begun : List ℕ) → LentIn N vars marks → {a : Ran}
        → Call M t stack vars marks limit need begun a → LentIn N a.vars a.marks
    call_inside stack vars marks limit need begun fit (table_refused h) = fit
    call_inside stack vars marks limit need begun fit (runs_short h e) = fit
    call_inside stack vars marks limit need begun fit (plays p) = play_inside limit 0 begun vars marks fit

pub call_inside_64 : (t : List ℤ) → AllIn in_64 t → (stack : List ℕ) (vars marks : List ℤ) (limit need : ℕ) (begun : List ℕ)
    → LentIn in_64 vars marks → {a : Ran} → Call mode_64 t stack vars marks limit need begun a
    → LentIn in_64 a.vars a.marks
call_inside_64 t words stack vars marks limit need begun fit c = call_inside mode_64 in_64 closed_64 t words stack vars marks limit need begun fit c
