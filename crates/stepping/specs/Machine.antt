-- 02, P11: "a plain machine after the small-step rules of source document 002: a stack of rows, 1,024 lent 64-bit values for
-- variables, 2,048 for marks, and a step limit". In this order: what the machine holds, the statement that is due, a step, steps
-- up to the limit, a whole call. Where the rules of 002 differ, 02 decides: docs/DECISIONS.md says where. Assumes nothing.
use Rattle.std.specs.Prelude.{ℕ, zero, suc, ◌+◌, ◌-◌, List, [], ◌∷◌, ◌++◌, reverse, Bool, true, false, cond, ◌||◌, ℤ, pos, ltb, length, get_or, set, take, replicate}
use Rattle.script.specs.declared.StatementRow.{StatementRow}
use Rattle.script.specs.declared.StatementRow.TheVariants.{Skip, Assign, Sequence, If, While, Assert}
use Rattle.script.specs.declared.Row.{Row}
use Rattle.script.specs.Meaning.{State}
use Rattle.script.specs.Rows.{row, rows, variables}
use Rattle.script.specs.Trees.{expr_at, formula_at}
use Rattle.script.specs.Refusals.{accepted, refused, verdict}
pub use Rattle.stepping.specs.Values.{Mode, mode_64, Fault, overflow, by_zero, fault_number, Worked, got, stop}
unfoldable pub use Rattle.stepping.specs.Values.{work, judge}

-- ---- rows, by their sort

-- of a statement what f says, else a
abbrev pub if_statement : {A : Type 0} → A → (StatementRow → A) → Row → A
if_statement a f (Row.Statement w) = f w
if_statement a f (Row.Expression w) = a
if_statement a f (Row.Formula w) = a
if_statement a f (Row.Note i v) = a
if_statement a f (Row.Script p s q) = a
if_statement a f Row.Unknown = a

-- of a note what f says of the row of its variant, else a
abbrev pub if_note : {A : Type 0} → A → (ℕ → A) → Row → A
if_note a f (Row.Note i v) = f v.0
if_note a f (Row.Expression w) = a
if_note a f (Row.Formula w) = a
if_note a f (Row.Statement w) = a
if_note a f (Row.Script p s q) = a
if_note a f Row.Unknown = a

-- ---- what the machine holds between steps

pub record Held : Type 0 where
  -- the rows of what is still to do, the next one first; in the lent words it is the last
  pub stack : List ℕ
  pub vars : List ℤ
  pub marks : List ℤ

abbrev pub hold : List ℕ → List ℤ → List ℤ → Held
hold stack vars marks = record { stack = stack; vars = vars; marks = marks }

-- "1,024 lent 64-bit values for variables, 2,048 for marks"
abbrev pub mark_values : ℕ
mark_values = 2048

-- the state that the lent values are: those of longer runs are no part of it
abbrev pub lent : ℕ → List ℤ → ℕ → ℤ
lent size zs i = cond (ltb i size) (get_or zs i (pos 0)) (pos 0)

abbrev pub state_of : List ℤ → List ℤ → State
state_of vars marks = record { var = lent variables vars; mark = lent mark_values marks }

-- ---- the statement that is due

-- its row, and what is to do after it
pub record Due : Type 0 where
  pub at : ℕ
  pub rest : List ℕ

abbrev pub due_at : ℕ → List ℕ → Due
due_at r rest = record { at = r; rest = rest }

-- "a sequence is none, split only as the next step begins": D says what is due of its first part
abbrev pub due_statement : (ℕ → List ℕ → Due) → ℕ → List ℕ → StatementRow → Due
due_statement D r rest (Sequence a b) = D a.0 (b.0 ∷ rest)
due_statement D r rest Skip = due_at r rest
due_statement D r rest (Assign v e) = due_at r rest
due_statement D r rest (If b x y) = due_at r rest
due_statement D r rest (While b i x) = due_at r rest
due_statement D r rest (Assert f) = due_at r rest

module _ (ws : List ℤ) where
  -- where r is the next row; the first number bounds the depth
  unfoldable pub due : ℕ → ℕ → List ℕ → Due
  due zero r rest = due_at r rest
  due (suc n) r rest = if_statement (due_at r rest) (due_statement (due n) r rest) (row ws r)

  abbrev pub next : ℕ → List ℕ → Due
  next r rest = due (rows ws) r rest

-- ---- a step

pub data Stepped : Type 0 where
  -- a whole step
  on : Held → Stepped
  -- a value was not worked out
  faulty : Fault → Stepped
  -- "52 when an assertion is false"
  untrue : Stepped

abbrev pub carry : {A : Type 0} → Worked A → (A → Stepped) → Stepped
carry (got a) f = f a
carry (stop x) f = faulty x

module _ (M : Mode) (ws : List ℤ) (rest : List ℕ) (vars marks : List ℤ) where
  abbrev pub now : State
  now = state_of vars marks

  -- the statement due is done
  abbrev pub done : Stepped
  done = on (hold rest vars marks)

  -- "guard test with its mark": a pass of the loop at row r, whose variant is at row v and whose body at row x
  abbrev pub pass : ℕ → ℕ → ℕ → Stepped
  pass r x v = carry (work M now false (expr_at ws v)) (λ z. on (hold (x ∷ r ∷ rest) vars (set marks r z)))

  -- "A step is one skip, assignment, assertion or guard test with its mark", of the statement at row r
  abbrev pub act : ℕ → StatementRow → Stepped
  act r Skip = done
  act r (Assign v e) = carry (work M now true (expr_at ws e.0)) (λ z. on (hold rest (set vars v.0 z) marks))
  act r (Assert f) = carry (judge M now false (formula_at ws f.0)) (λ t. cond t done untrue)
  act r (If b x y) = carry (judge M now true (formula_at ws b.0)) (λ t. on (hold (cond t x.0 y.0 ∷ rest) vars marks))
  act r (While b i x) =
      carry (judge M now true (formula_at ws b.0)) (λ t. cond t (if_note done (pass r x.0) (row ws i.0)) done)
  -- a sequence is never due
  act r (Sequence a b) = done

module _ (M : Mode) (ws : List ℤ) where
  -- the step where r is the next row
  unfoldable pub machine_step : ℕ → List ℕ → List ℤ → List ℤ → Stepped
  machine_step r rest vars marks =
      let d = next ws r rest in
      if_statement (done M ws d.rest vars marks) (act M ws d.rest vars marks d.at) (row ws d.at)

-- ---- steps up to the limit

-- what is left when the machine stops: "number, row, whole steps done", and what it holds
pub record Stopped : Type 0 where
  pub number : ℕ
  pub row : ℕ
  pub steps : ℕ
  pub held : Held

abbrev pub stopped : ℕ → ℕ → ℕ → Held → Stopped
stopped number row steps held = record { number = number; row = row; steps = steps; held = held }

module _ (M : Mode) (ws : List ℤ) where
  -- one step of the statement at row r was tried: the steps go on by `more`, or the machine stops, all "as after the last whole
  -- step"
  abbrev pub proceed : (Held → Stopped) → ℕ → ℕ → Held → Stepped → Stopped
  proceed more steps r h (on h') = more h'
  proceed more steps r h (faulty x) = stopped (fault_number x) r steps h
  proceed more steps r h untrue = stopped 52 r steps h

  -- nothing is left to do
  abbrev pub ended : ℕ → List ℤ → List ℤ → Stopped
  ended steps vars marks = stopped 0 0 steps (hold [] vars marks)

  -- "54 when the limit is spent and a step is still due"
  abbrev pub spent : ℕ → List ℕ → List ℤ → List ℤ → Stopped
  spent steps [] vars marks = ended steps vars marks
  spent steps (r ∷ rest) vars marks = stopped 54 (next ws r rest).at steps (hold (r ∷ rest) vars marks)

  abbrev pub onward : (Held → Stopped) → ℕ → List ℕ → List ℤ → List ℤ → Stopped
  onward more steps [] vars marks = ended steps vars marks
  onward more steps (r ∷ rest) vars marks =
      proceed more steps (next ws r rest).at (hold (r ∷ rest) vars marks) (machine_step M ws r rest vars marks)

  -- at most so many more steps, after so many
  unfoldable pub play : ℕ → ℕ → List ℕ → List ℤ → List ℤ → Stopped
  play zero steps stack vars marks = spent steps stack vars marks
  play (suc limit) steps stack vars marks =
      onward (λ h. play limit (suc steps) h.stack h.vars h.marks) steps stack vars marks

-- ---- a whole call

-- "The answer holds number, row, whole steps done and stack height"; and all lent words after the call
pub record Ran : Type 0 where
  pub number : ℕ
  pub row : ℕ
  pub steps : ℕ
  pub height : ℕ
  pub stack : List ℕ
  pub vars : List ℤ
  pub marks : List ℤ

-- the row of the statement of a script
abbrev pub statement_of : Row → ℕ
statement_of (Row.Script p s q) = s.0
statement_of (Row.Expression w) = 0
statement_of (Row.Formula w) = 0
statement_of (Row.Statement w) = 0
statement_of (Row.Note i v) = 0
statement_of Row.Unknown = 0

module _ (M : Mode) (ws : List ℤ) (stack : List ℕ) (vars marks : List ℤ) (limit : ℕ) where
  -- "1 to 10 come first, then 51, all lent words unchanged"
  abbrev pub unchanged : ℕ → ℕ → Ran
  unchanged n r = record {
    number = n;
    row = r;
    steps = 0;
    height = 0;
    stack = stack;
    vars = vars;
    marks = marks;
  }

  -- "the stack lies from word 0, next row last, zeros above"
  abbrev pub shown : Stopped → Ran
  shown p = record {
    number = p.number;
    row = p.row;
    steps = p.steps;
    height = length p.held.stack;
    stack = reverse p.held.stack ++ replicate (length stack - length p.held.stack) 0;
    vars = p.held.vars;
    marks = p.held.marks;
  }

  -- "51 when the stack has fewer words than rows or a value run is short", where so many words are needed
  abbrev pub too_short : ℕ → Bool
  too_short need = ltb (length stack) need || (ltb (length vars) variables || ltb (length marks) mark_values)

  -- a call that begins with these rows to do and needs so many words of stack
  unfoldable pub called : ℕ → List ℕ → Ran
  called need begun =
      elim (verdict ws) [
        | refused n r ↦ unchanged n r
        | accepted ↦ cond (too_short need) (unchanged 51 0) (shown (play M ws limit 0 begun vars marks))
      ]

  -- "starts as the script's statement"
  unfoldable pub machine_run : Ran
  machine_run = called (rows ws) (statement_of (row ws (rows ws - 1)) ∷ [])

  -- a call that goes on with the rows in so many words of the stack, which a call before may have left there
  unfoldable pub machine_on : ℕ → Ran
  machine_on height = called (height + rows ws) (reverse (take height stack))
