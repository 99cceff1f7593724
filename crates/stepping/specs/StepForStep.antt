-- 02, P11: "It agrees with the meaning of a run step for step." `step_agrees`: in an accepted table, where the machine holds what
-- the run has, a whole step of the machine is the run's step, "an assertion is false" is a run failed by a false assertion, and
-- "a script divides by zero" one failed by a zero divisor, both at the statement at the row that is answered. And back: where no
-- value leaves the range, the run's step decides the machine's (`steps_on`, `steps_denied`, `steps_divided`).
-- Argument: sequences are split alike (`Ready`), and what is then due does the same (`Stands`). Assumes nothing.
use Rattle.std.specs.Prelude.{ℕ, ◌≤◌, ◌≡◌, refl, ◌≢◌, List, [], ◌∷◌, ℤ, length}
use Rattle.std.proofs.Common.{sym, subst}
use Rattle.std.proofs.Math.Path.{subst⁻¹}
use Rattle.script.specs.Syntax.{Stmt}
use Rattle.script.specs.Meaning.{State}
use Rattle.script.specs.Run.{Frame, begin, again, false_assertion, zero_divisor, Config, at, failed, test, first_step, step_of}
use Rattle.script.specs.Rows.{row, variables}
use Rattle.script.specs.Trees.{stmt_at}
use Rattle.theorems.specs.Accepted.{Accepted}
use Rattle.theorems.specs.RowTrees.{stmt_is}
use Rattle.stepping.specs.Machine.{Mode, overflow, by_zero, Held, hold, mark_values, state_of, Due, next, Stepped, on, faulty, untrue, if_statement, done, act, machine_step}
pub use Rattle.stepping.specs.Stands.{Stands, nothing, begins, tests_again, Follows, Agrees, both, denies, divides_zero, leaves}
use Rattle.stepping.specs.Stands.{kept, tested, act_agrees}
use Rattle.stepping.specs.Within.{clash, differ}
use Rattle.stepping.specs.Ready.{idle_gives, idle_skip, Ready, single, idle, split, due_loop}

module _ (t : List ℤ) where
  module _ (M : Mode) (ok : Accepted t) (vars marks : List ℤ) (vs : variables ≤ length vars) (ms : mark_values ≤ length marks) where
    abbrev s : State
    s = state_of vars marks

    abbrev acts : Due → Stepped
    acts d = if_statement (done M t d.rest vars marks) (act M t d.rest vars marks d.at) (row t d.at)

    -- what is ready to be done
    ready_agrees : (d : Due) (k : List Frame) → Stands t d.rest k → Ready t d.at
        → Agrees t (stmt_at t d.at) (acts d) (first_step M.arithmetic (stmt_at t d.at) k s)
    unfolding first_step
    ready_agrees d k st (single {w} h e one) =
        rw (stmt_is t ok d.at h e, e)
        (act_agrees t M ok d.rest k st vars marks vs ms d.at h w e one (rw e at (ok.sorted d.at h)) (rw e at (ok.ranged d.at h)))
    ready_agrees d k st (idle {w} e h) =
        rw (idle_skip t d.at w e h, e, idle_gives (done M t d.rest vars marks) (act M t d.rest vars marks d.at) w h)
        (kept t M ok d.rest k st vars marks vs ms)

    top_agrees : (r : ℕ) (rest : List ℕ) (k : List Frame) → Stands t (r ∷ rest) k
        → Agrees t (stmt_at t (next t r rest).at) (machine_step M t r rest vars marks) (step_of M.arithmetic k s)
    unfolding machine_step step_of
    top_agrees r rest [] x' = elim x' [ ]
    top_agrees r rest (begin x ∷ k) (begins st) =
        let p = split t ok r rest k st in
        let d = next t r rest in
        subst⁻¹ (λ (y : Config). Agrees t (stmt_at t d.at) (acts d) y) (p.same M.arithmetic s)
        (ready_agrees d p.frames p.stands p.ready)
    top_agrees r rest (again m b i v x v₀ n ∷ k) (tests_again {b = b'} {i = i'} {x = x'} {f = f} {v = v'} h e e' st) =
        subst⁻¹ (λ (d : Due). Agrees t (stmt_at t d.at) (acts d) (test M.arithmetic m b i v x v₀ n k s)) (due_loop t ok r rest e)
        (rw (stmt_is t ok r h e, e, e') (tested t M ok rest k st vars marks vs ms r b' i' x' f v' v₀ n h e e'))

  pub step_agrees : (M : Mode) → Accepted t → (r : ℕ) (rest : List ℕ) (vars marks : List ℤ) (k : List Frame) (s : State)
      → Follows t (hold (r ∷ rest) vars marks) k s
      → Agrees t (stmt_at t (next t r rest).at) (machine_step M t r rest vars marks) (step_of M.arithmetic k s)
  step_agrees M ok r rest vars marks k s f =
      subst⁻¹ (λ (z : State). Agrees t (stmt_at t (next t r rest).at) (machine_step M t r rest vars marks) (step_of M.arithmetic k z))
      f.state (top_agrees M ok vars marks f.vars_size f.marks_size r rest k f.stands)

-- ---- and back

module _ (t : List ℤ) where
  -- where the run goes on, so does the machine, to what follows it
  pub record Goes_on (w : Stepped) (k : List Frame) (s : State) : Type 0 where
    pub held : Held
    pub is : w ≡ on held
    pub follows : Follows t held k s

  pub steps_on : {x : Stmt} {w : Stepped} {y : Config} → Agrees t x w y → w ≢ faulty overflow → (k : List Frame) (s : State) → y ≡ at k s
      → Goes_on w k s
  steps_on (both {h = h} {k = k'} {s = s'} f) m k s e =
      let frames : k' ≡ k = cc in
      let state : s' ≡ s = cc in
      record { held = h; is = refl; follows = subst (λ z. Follows t h z s) frames (subst (λ z. Follows t h k' z) state f) }
  steps_on denies m k s e = clash (sym e)
  steps_on divides_zero m k s e = clash (sym e)
  steps_on leaves m k s e = absurd (m refl)

  pub steps_denied : {x : Stmt} {w : Stepped} {y : Config} → Agrees t x w y → w ≢ faulty overflow → (z : Stmt) → y ≡ failed false_assertion z
      → w ≡ untrue
  steps_denied (both f) m z e = clash e
  steps_denied denies m z e = refl
  steps_denied divides_zero m z e = differ e
  steps_denied leaves m z e = absurd (m refl)

  pub steps_divided : {x : Stmt} {w : Stepped} {y : Config} → Agrees t x w y → w ≢ faulty overflow → (z : Stmt) → y ≡ failed zero_divisor z
      → w ≡ faulty by_zero
  steps_divided (both f) m z e = clash e
  steps_divided denies m z e = differ (sym e)
  steps_divided divides_zero m z e = refl
  steps_divided leaves m z e = absurd (m refl)
