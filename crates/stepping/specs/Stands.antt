-- 02, P11: what the machine holds beside what a run has, and that the statement due does the same in both (`act_agrees`).
-- `Stands` is the relation: each row on the stack is a statement to begin, or a loop to test again after its body, so that the
-- stack is what is left of the run's frames without the trees, the variant at the arrival and the number of passes.
-- Argument: by the kind of row; what is worked out is the value, or tells the run's zero divisor (`Told`). Assumes nothing.
use Prim.Native.Nat.{ℕ, zero, ◌<◌, ◌≤◌}
use Rattle.std.specs.Prelude.{◌≡◌, List, [], ◌∷◌, Bool, ◌&&◌, T, ℤ, length, set}
use Rattle.std.proofs.Math.Path.{refl, sym}
use Rattle.std.proofs.Math.Bool.{true, false, cond}
use Rattle.std.proofs.Common.{arith as linear, length-set}
use Rattle.script.specs.declared.RowNumber.{RowNumber}
use Rattle.script.specs.declared.StatementRow.{StatementRow}
use Rattle.script.specs.declared.StatementRow.TheVariants.{Skip, Assign, Sequence, If, While, Assert}
use Rattle.script.specs.declared.Row.{Row}
use Rattle.script.specs.declared.Sort.TheVariants.{Formula, Statement, Note}
use Rattle.script.specs.Syntax.{Stmt, loop}
use Rattle.script.specs.Meaning.{Arithmetic, State, value, holds}
use Rattle.script.specs.Run.{set_var, Frame, begin, again, Config, at, false_assertion, zero_divisor, failed, unless_zero, test, first_step}
use Rattle.script.specs.Rows.{row, rows, fields, parts, sort_of, variables}
use Rattle.script.specs.Trees.{loop_node, stmt_node, expr_at, formula_at, stmt_at}
use Rattle.script.specs.Refusals.{same_sort, well_sorted, in_range}
use Rattle.theorems.specs.Accepted.{Accepted}
use Rattle.theorems.specs.Truths.{both as each}
use Rattle.theorems.specs.RowTrees.{lower₁}
use Rattle.stepping.specs.Machine.{Mode, overflow, by_zero, Worked, judge, Held, hold, mark_values, state_of, Stepped, on, faulty, untrue, carry, if_note, pass, act}
use Rattle.stepping.specs.Told.{Tells, right, divides, unsaid, value_told, truth_told}
use Rattle.stepping.specs.LentState.{state_var, state_mark}

-- a statement that a step is made of
abbrev pub Single : StatementRow → Type 0
Single Skip = Unit {0}
Single (Assign v e) = Unit {0}
Single (Sequence a b) = ⊥
Single (If b x y) = Unit {0}
Single (While b i x) = Unit {0}
Single (Assert f) = Unit {0}

pub second_of : (a b c : Bool) → T (a && (b && (c && true))) → T b
second_of a b c h = (each b (c && true) (each a (b && (c && true)) h).1).0

-- the second part of a loop is a note
pub loop_sorted : (t : List ℤ) (b i x : RowNumber) → T (well_sorted t (parts (Row.Statement (While b i x))))
    → T (same_sort (sort_of (row t i.0)) Note)
loop_sorted t b i x h =
    second_of (same_sort (sort_of (row t b.0)) Formula) (same_sort (sort_of (row t i.0)) Note)
    (same_sort (sort_of (row t x.0)) Statement) h

pub still_long : {n : ℕ} (zs : List ℤ) (i : ℕ) (z : ℤ) → n ≤ length zs → n ≤ length (set zs i z)
still_long zs i z h = rw (length-set zs i z) h

module _ (t : List ℤ) where
  -- the rows of what a run has still to do
  pub data Stands : List ℕ → List Frame → Type 0 where
    nothing : Stands [] []
    begins : {r : ℕ} {rs : List ℕ} {k : List Frame} → Stands rs k → Stands (r ∷ rs) (begin (stmt_at t r) ∷ k)
    tests_again : {r n : ℕ} {b i x f v : RowNumber} {v₀ : ℤ} {rs : List ℕ} {k : List Frame} → r < rows t
        → row t r ≡ Row.Statement (While b i x) → row t i.0 ≡ Row.Note f v → Stands rs k
        → Stands (r ∷ rs) (again r (formula_at t b.0) (formula_at t f.0) (expr_at t v.0) (stmt_at t x.0) v₀ n ∷ k)

  -- the machine holds what the run has: what to do, and the state
  pub record Follows (h : Held) (k : List Frame) (s : State) : Type 0 where
    pub stands : Stands h.stack k
    pub state : s ≡ state_of h.vars h.marks
    pub vars_size : variables ≤ length h.vars
    pub marks_size : mark_values ≤ length h.marks

  -- a step of the machine and one of a run where the statement x is due; where a value left the range nothing is said
  pub data Agrees (x : Stmt) : Stepped → Config → Type 0 where
    both : {h : Held} {k : List Frame} {s : State} → Follows h k s → Agrees x (on h) (at k s)
    denies : Agrees x untrue (failed false_assertion x)
    divides_zero : Agrees x (faulty by_zero) (failed zero_divisor x)
    leaves : {y : Config} → Agrees x (faulty overflow) y

  carries : {x : Stmt} {A : Type 0} (f : A → Stepped) {w : Worked A} {a : A} {d : Bool} (y : Config) → Tells w a d → Agrees x (f a) y
      → Agrees x (carry w f) (unless_zero d x y)
  carries f y right h = h
  carries f y divides h = divides_zero
  carries f y unsaid h = leaves

  either : {x : Stmt} (b : Bool) {v w : Stepped} {y z : Config} → Agrees x v y → Agrees x w z → Agrees x (cond b v w) (cond b y z)
  either true h k = h
  either false h k = k

  -- ---- what is due does the same

  module _ (M : Mode) (ok : Accepted t) (rest : List ℕ) (k : List Frame) (st : Stands rest k)
      (vars marks : List ℤ) (vs : variables ≤ length vars) (ms : mark_values ≤ length marks) where
    abbrev s : State
    s = state_of vars marks

    abbrev 𝔸 : Arithmetic
    𝔸 = M.arithmetic

    pub kept : {x : Stmt} → Agrees x (on (hold rest vars marks)) (at k s)
    kept = both (record { stands = st; state = refl; vars_size = vs; marks_size = ms })

    assigned : {x : Stmt} (v : ℕ) (z : ℤ) → v < variables → Agrees x (on (hold rest (set vars v z) marks)) (at k (set_var s v z))
    assigned v z h = both (record {
      stands = st;
      state = sym (state_var vars marks v z h vs);
      vars_size = still_long vars v z vs;
      marks_size = ms;
    })

    branches : (x y : ℕ) (b : Bool) → Stands (cond b x y ∷ rest) (begin (cond b (stmt_at t x) (stmt_at t y)) ∷ k)
    branches x y true = begins st
    branches x y false = begins st

    -- the test of the loop at row r, at its arrival or after its body
    pub tested : (r : ℕ) (b i x f v : RowNumber) (v₀ : ℤ) (n : ℕ) → r < rows t → row t r ≡ Row.Statement (While b i x)
        → row t i.0 ≡ Row.Note f v
        → Agrees (loop r (formula_at t b.0) (formula_at t f.0) (expr_at t v.0) (stmt_at t x.0))
        (carry (judge M s true (formula_at t b.0)) (λ c. cond c (pass M t rest vars marks r x.0 v.0) (on (hold rest vars marks))))
        (test 𝔸 r (formula_at t b.0) (formula_at t f.0) (expr_at t v.0) (stmt_at t x.0) v₀ n k s)
    unfolding test
    tested r b i x f v v₀ n h e e' =
        carries (λ c. cond c (pass M t rest vars marks r x.0 v.0) (on (hold rest vars marks))) _
        (truth_told M true s (formula_at t b.0))
        (either (holds 𝔸 s (formula_at t b.0))
        (carries (λ z. on (hold (x.0 ∷ r ∷ rest) vars (set marks r z))) _ (value_told M false s (expr_at t v.0)) (both (record {
          stands = begins (tests_again h e e' st);
          state = sym (state_mark vars marks r (value 𝔸 s (expr_at t v.0)) (let short = ok.short in omega linear) ms);
          vars_size = vs;
          marks_size = still_long marks r (value 𝔸 s (expr_at t v.0)) ms;
        })))
        kept)

    -- the loop at row r, with its note's row
    loops : (r : ℕ) (b i x : RowNumber) → r < rows t → row t r ≡ Row.Statement (While b i x) → (w : Row) → row t i.0 ≡ w
        → T (same_sort (sort_of w) Note)
        → Agrees (loop_node (expr_at t) (formula_at t) r (formula_at t b.0) w (stmt_at t x.0))
        (carry (judge M s true (formula_at t b.0))
        (λ c. cond c (if_note (on (hold rest vars marks)) (pass M t rest vars marks r x.0) w) (on (hold rest vars marks))))
        (first_step 𝔸 (loop_node (expr_at t) (formula_at t) r (formula_at t b.0) w (stmt_at t x.0)) k s)
    unfolding first_step
    loops r b i x h e (Row.Note f v) e' g = tested r b i x f v (value 𝔸 s (expr_at t v.0)) zero h e e'
    loops r b i x h e (Row.Expression w) e' g = absurd g
    loops r b i x h e (Row.Formula w) e' g = absurd g
    loops r b i x h e (Row.Statement w) e' g = absurd g
    loops r b i x h e (Row.Script p a q) e' g = absurd g
    loops r b i x h e Row.Unknown e' g = absurd g

    pub act_agrees : (r : ℕ) → r < rows t → (w : StatementRow) → row t r ≡ Row.Statement w → Single w
        → T (well_sorted t (parts (Row.Statement w))) → T (in_range t (fields (Row.Statement w)))
        → Agrees (stmt_node (expr_at t) (formula_at t) (stmt_at t) (row t) r (Row.Statement w)) (act M t rest vars marks r w)
        (first_step 𝔸 (stmt_node (expr_at t) (formula_at t) (stmt_at t) (row t) r (Row.Statement w)) k s)
    unfolding first_step
    act_agrees r h Skip e one l g = kept
    act_agrees r h (Assign v x) e one l g =
        carries (λ z. on (hold rest (set vars v.0 z) marks)) _ (value_told M true s (expr_at t x.0))
        (assigned v.0 (value 𝔸 s (expr_at t x.0)) (lower₁ v.0 variables g))
    act_agrees r h (Sequence a b) e one l g = absurd one
    act_agrees r h (If b x y) e one l g =
        carries (λ c. on (hold (cond c x.0 y.0 ∷ rest) vars marks)) _ (truth_told M true s (formula_at t b.0))
        (both (record {
          stands = branches x.0 y.0 (holds 𝔸 s (formula_at t b.0));
          state = refl;
          vars_size = vs;
          marks_size = ms;
        }))
    act_agrees r h (While b i x) e one l g =
        loops r b i x h e (row t i.0) refl (loop_sorted t b i x l)
    act_agrees r h (Assert f) e one l g =
        carries (λ c. cond c (on (hold rest vars marks)) untrue) _ (truth_told M false s (formula_at t f.0))
        (either (holds 𝔸 s (formula_at t f.0)) kept denies)
