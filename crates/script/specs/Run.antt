-- 01, "Meaning of a run": the steps of a run, and what demand 3 promises of a whole one. 02, P5: a guard or an assigned
-- expression that works out a zero divisor fails the run; annotations keep 01's totals.
-- In this order: states changed, what is still to do, a step, a run, the bound on passes, total correctness. Assumes nothing.
use Rattle.std.specs.Prelude.{ℕ, zero, suc, ◌≤◌, ◌≡◌, List, [], ◌∷◌, Bool, cond, ℤ, pos, negsuc, T, eqb}
use Rattle.script.specs.Syntax.{Expr, Formula, Stmt, skip, assign, seq, branch, loop, assert, Tree}
use Rattle.script.specs.Meaning.{Arithmetic, State, value, holds, defined, definedᶠ}

abbrev pub put : (ℕ → ℤ) → ℕ → ℤ → ℕ → ℤ
put f k z i = cond (eqb i k) z (f i)

abbrev pub set_var : State → ℕ → ℤ → State
set_var s v z = record { var = put s.var v z; mark = s.mark }

abbrev pub set_mark : State → ℕ → ℤ → State
set_mark s m z = record { var = s.var; mark = put s.mark m z }

-- what is still to do
pub data Frame : Type 0 where
  -- a statement to begin
  begin : Stmt → Frame
  -- a loop to test again after its body: row, guard, invariant, variant, body; then the variant's value at the arrival and
  -- how often the body was begun since. "An arrival at a while is its beginning as a statement, not a later test after its
  -- body. A body begun counts, finished or not, up to the time its loop is left."
  again : ℕ → Formula → Formula → Expr → Stmt → ℤ → ℕ → Frame

-- why a run failed
pub data Cause : Type 0 where
  false_assertion : Cause
  zero_divisor : Cause

pub data Config : Type 0 where
  at : List Frame → State → Config
  -- for a cause, at a statement
  failed : Cause → Stmt → Config

-- "a guard or assigned expression that works out a div or mod by zero is a failed run": the step of a statement, where it
-- works out none
abbrev pub unless_zero : Bool → Stmt → Config → Config
unless_zero no_zero x c = cond no_zero c (failed zero_divisor x)

module _ (𝔸 : Arithmetic) where
  -- "The mark of a loop is the variant's value when the present pass of its body began."
  -- "it tests its guard. True: its mark takes the variant's value, the body runs, and it tests again. False: the loop is left."
  unfoldable pub test : ℕ → Formula → Formula → Expr → Stmt → ℤ → ℕ → List Frame → State → Config
  test m b i v x v₀ n k s =
      unless_zero (definedᶠ 𝔸 s b) (loop m b i v x)
      (cond (holds 𝔸 s b)
      (at (begin x ∷ again m b i v x v₀ (suc n) ∷ k) (set_mark s m (value 𝔸 s v)))
      (at k s))

  unfoldable pub first_step : Stmt → List Frame → State → Config
  -- "nothing changes"
  first_step skip k s = at k s
  -- "the variable takes the value of its expression in the old state"
  first_step (assign v e) k s = unless_zero (defined 𝔸 s e) (assign v e) (at k (set_var s v (value 𝔸 s e)))
  -- "the first part, then the second"
  first_step (seq a b) k s = first_step a (begin b ∷ k) s
  -- "its then part where the guard is true, otherwise its else part"
  first_step (branch b x y) k s = unless_zero (definedᶠ 𝔸 s b) (branch b x y) (at (begin (cond (holds 𝔸 s b) x y) ∷ k) s)
  first_step (loop m b i v x) k s = test m b i v x (value 𝔸 s v) zero k s
  -- "nothing changes where true; where false the run stops there as failed"
  first_step (assert a) k s = cond (holds 𝔸 s a) (at k s) (failed false_assertion (assert a))

  unfoldable pub step_of : List Frame → State → Config
  step_of [] s = at [] s
  step_of (begin x ∷ k) s = first_step x k s
  step_of (again m b i v x v₀ n ∷ k) s = test m b i v x v₀ n k s

  unfoldable pub step : Config → Config
  step (at k s) = step_of k s
  step (failed c x) = failed c x

  unfoldable pub after : ℕ → Config → Config
  after zero x = x
  after (suc n) x = after n (step x)

-- "A run is fed the rows and a start, nothing of the list. It runs the script's statement, each statement from the state the
-- one before left". "a start is any state"
abbrev pub start : Tree → State → Config
start t s = at (begin t.body ∷ []) s

-- n bodies begun since an arrival with variant v: at most v + 1, and none if v < 0
abbrev pub Bounded : ℤ → ℕ → Type 0
Bounded (pos v) n = n ≤ suc v
Bounded (negsuc v) n = n ≡ zero

-- of each loop that the run is in
abbrev pub PassesBounded : List Frame → Type 0
PassesBounded [] = Unit {0}
PassesBounded (begin x ∷ k) = PassesBounded k
PassesBounded (again m b i v x v₀ n ∷ k) = Bounded v₀ n × PassesBounded k

-- no assertion has failed, no zero divisor was worked out, and the passes are bounded
abbrev pub Good : Config → Type 0
Good (at k s) = PassesBounded k
Good (failed c x) = ⊥

-- what demand 3 promises of the run of a script from s: it fails no assertion, divides by no zero, ends, meets the
-- postcondition, and begins a loop's body at most v + 1 times on each arrival with variant v (not at all if v < 0)
pub record TotalCorrectness (𝔸 : Arithmetic) (t : Tree) (s : State) : Type 0 where
  pub steps : ℕ
  pub end : State
  -- "A run ends when, after finitely many of these steps, the script's statement is done."
  pub ends : after 𝔸 steps (start t s) ≡ at [] end
  pub post : T (holds 𝔸 end t.post)
  -- at every moment
  pub good : (n : ℕ) → Good (after 𝔸 n (start t s))
