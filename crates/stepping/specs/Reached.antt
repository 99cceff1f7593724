-- 02, P11: wherever the machine stops, the run has come there in as many steps (`reached`): the stack and the values are those of
-- the run, the row is that of the statement due (at the end 0), and there are at most `limit` steps. `Stops` has the five ways:
-- number 0 is an ended run, 50 a step whose value leaves the range, 52 and 53 a run that fails with the next step by a false
-- assertion or a zero divisor at the statement at the row, 54 a limit that is spent with something still to do.
-- Argument: step for step (`StepForStep`), by induction on the limit. Assumes nothing.
use Prim.Native.Nat.{ℕ, zero, suc, ◌+◌, ◌≤◌, ◌<◌}
use Rattle.std.specs.Prelude.{◌≡◌, ◌≢◌, ℤ}
use Rattle.std.proofs.Math.Path.{refl, ap}
use Rattle.std.proofs.Common.{◌∙◌, arith as linear}
use Rattle.std.proofs.Math.Option.{some}
use mathlib.Core.List.{List, [], ◌∷◌}
use Rattle.script.specs.Meaning.{Arithmetic, State}
use Rattle.script.specs.Run.{Frame, begin, again, false_assertion, zero_divisor, Config, at, failed, step_of, step, after}
use Rattle.script.specs.Trees.{stmt_at}
use Rattle.theorems.specs.Accepted.{Accepted}
use Rattle.theorems.specs.Due as Run
use Rattle.stepping.specs.Machine.{Mode, overflow, by_zero, Held, hold, next, Stepped, on, faulty, untrue, Stopped, stopped, machine_step, proceed, play}
use Rattle.stepping.specs.Ready.{is_due}
use Rattle.stepping.specs.StepForStep.{Stands, nothing, begins, tests_again, Follows, Agrees, denies, divides_zero, leaves, step_agrees}
use Rattle.stepping.specs.StepForStep as Step

-- a step counted before or after
pub moved : (m n : ℕ) → suc m + n ≡ m + suc n
moved m n = omega linear

module _ (t : List ℤ) (M : Mode) where
  abbrev 𝔸 : Arithmetic
  𝔸 = M.arithmetic

  -- the row that is answered
  abbrev pub RowDue : List Frame → ℕ → Type 0
  RowDue [] r = r ≡ 0
  RowDue (f ∷ k) r = Run.due (f ∷ k) ≡ some (stmt_at t r)

  -- the ways to stop, with the run at these frames and this state after so many of the steps allowed
  pub data Stops (frames : List Frame) (state : State) (more limit : ℕ) (p : Stopped) : Type 0 where
    ends : p.number ≡ 0 → frames ≡ [] → Stops frames state more limit p
    leaves_range : {r : ℕ} {rest : List ℕ} → p.number ≡ 50 → p.held.stack ≡ r ∷ rest → more < limit
        → machine_step M t r rest p.held.vars p.held.marks ≡ faulty overflow → Stops frames state more limit p
    denied : p.number ≡ 52 → more < limit → step 𝔸 (at frames state) ≡ failed false_assertion (stmt_at t p.row)
        → Stops frames state more limit p
    divided : p.number ≡ 53 → more < limit → step 𝔸 (at frames state) ≡ failed zero_divisor (stmt_at t p.row)
        → Stops frames state more limit p
    waits : p.number ≡ 54 → more ≡ limit → frames ≢ [] → Stops frames state more limit p

  -- where the run from k and s has come when the machine stops with p, with so many steps allowed, after so many before
  pub record Reached (k : List Frame) (s : State) (limit steps : ℕ) (p : Stopped) : Type 0 where
    pub more : ℕ
    pub counted : p.steps ≡ steps + more
    pub allowed : more ≤ limit
    pub frames : List Frame
    pub state : State
    pub comes : after 𝔸 more (at k s) ≡ at frames state
    pub follows : Follows t p.held frames state
    pub row_due : RowDue frames p.row
    pub stops : Stops frames state more limit p

  pub ended_frames : {k : List Frame} {s : State} {more limit : ℕ} {p : Stopped} → Stops k s more limit p → p.number ≡ 0 → k ≡ []
  ended_frames (ends z e) n = e
  ended_frames (leaves_range z e l g) n = absurd (omega linear)
  ended_frames (denied z l e) n = absurd (omega linear)
  ended_frames (divided z l e) n = absurd (omega linear)
  ended_frames (waits z e l) n = absurd (omega linear)

  pub no_frames : {k : List Frame} → Stands t [] k → k ≡ []
  no_frames nothing = refl

  some_frames : {r : ℕ} {rest : List ℕ} {k : List Frame} → Stands t (r ∷ rest) k → k ≢ []
  some_frames (begins st) e = let z : ◌≡◌ {A = ℕ} 0 1 = cc in omega linear
  some_frames (tests_again h g g' st) e = let z : ◌≡◌ {A = ℕ} 0 1 = cc in omega linear

  module _ (ok : Accepted t) where
    none_due : (k : List Frame) → Stands t [] k → RowDue k 0
    none_due (_ ∷ _) x3 = elim x3 [ ]
    none_due [] nothing = refl

    some_due : (r : ℕ) (rest : List ℕ) (k : List Frame) → Stands t (r ∷ rest) k → RowDue k (next t r rest).at
    some_due r rest [] x' = elim x' [ ]
    some_due r rest (begin x ∷ k) (begins st) = is_due t ok r rest (begin x ∷ k) (begins st)
    some_due r rest (again m b i v x v₀ n ∷ k) (tests_again h e e' st) =
        is_due t ok r rest (again m b i v x v₀ n ∷ k) (tests_again h e e' st)

    -- stopped at once
    here : (k : List Frame) (s : State) (n r limit steps : ℕ) (h : Held) → Follows t h k s → RowDue k r
        → Stops k s 0 limit (stopped n r steps h) → Reached k s limit steps (stopped n r steps h)
    unfolding after
    here k s n r limit steps h f d e = record {
      more = 0;
      counted = omega linear;
      allowed = omega linear;
      frames = k;
      state = s;
      comes = refl;
      follows = f;
      row_due = d;
      stops = e;
    }

    finished : (limit steps : ℕ) (vars marks : List ℤ) (k : List Frame) (s : State) → Follows t (hold [] vars marks) k s
        → Reached k s limit steps (stopped 0 0 steps (hold [] vars marks))
    finished limit steps vars marks k s f =
        here k s 0 0 limit steps (hold [] vars marks) f (none_due k f.stands) (ends refl (no_frames f.stands))

    -- one step more
    later : {k : List Frame} {s : State} {more limit : ℕ} {p : Stopped} → Stops k s more limit p → Stops k s (suc more) (suc limit) p
    later (ends z e) = ends z e
    later (leaves_range z e l g) = leaves_range z e (omega linear) g
    later (denied z l e) = denied z (omega linear) e
    later (divided z l e) = divided z (omega linear) e
    later (waits z e n) = waits z (ap suc e) n

    module _ (r : ℕ) (rest : List ℕ) (vars marks : List ℤ) (k : List Frame) (s : State) (f : Follows t (hold (r ∷ rest) vars marks) k s) where
      abbrev row : ℕ
      row = (next t r rest).at

      abbrev stays : (n limit steps : ℕ) → Stops k s 0 limit (stopped n row steps (hold (r ∷ rest) vars marks))
          → Reached k s limit steps (stopped n row steps (hold (r ∷ rest) vars marks))
      stays n limit steps e = here k s n row limit steps (hold (r ∷ rest) vars marks) f (some_due r rest k f.stands) e

      -- one step, then the rest of the play
      stepped : (limit steps : ℕ) (more : Held → Stopped)
          → ((h : Held) (k' : List Frame) (s' : State) → Follows t h k' s' → Reached k' s' limit (suc steps) (more h))
          → (w : Stepped) (y : Config) → machine_step M t r rest vars marks ≡ w → step_of 𝔸 k s ≡ y → Agrees t (stmt_at t row) w y
          → Reached k s (suc limit) steps (proceed M t more steps row (hold (r ∷ rest) vars marks) w)
      unfolding after step
      stepped limit steps more rec (on h) (failed _ _) q e x8 = elim x8 [ ]
      stepped limit steps more rec (on h) (at k' s') q e (Step.both g) =
          let p = rec h k' s' g in
          record {
            more = suc p.more;
            counted = p.counted ∙ moved steps p.more;
            allowed = let l = p.allowed in omega linear;
            frames = p.frames;
            state = p.state;
            comes = ap (after 𝔸 p.more) e ∙ p.comes;
            follows = p.follows;
            row_due = p.row_due;
            stops = later p.stops;
          }
      stepped limit steps more rec untrue y q e denies = stays 52 (suc limit) steps (denied refl (omega linear) e)
      stepped limit steps more rec (faulty by_zero) y q e divides_zero = stays 53 (suc limit) steps (divided refl (omega linear) e)
      stepped limit steps more rec (faulty overflow) y q e leaves =
          stays 50 (suc limit) steps (leaves_range refl refl (omega linear) q)

    pub reached : (limit steps : ℕ) (stack : List ℕ) (vars marks : List ℤ) (k : List Frame) (s : State)
        → Follows t (hold stack vars marks) k s → Reached k s limit steps (play M t limit steps stack vars marks)
    unfolding play
    reached zero steps [] vars marks k s f = finished zero steps vars marks k s f
    reached zero steps (r ∷ rest) vars marks k s f =
        stays r rest vars marks k s f 54 zero steps (waits refl refl (some_frames f.stands))
    reached (suc limit) steps [] vars marks k s f = finished (suc limit) steps vars marks k s f
    reached (suc limit) steps (r ∷ rest) vars marks k s f =
        stepped r rest vars marks k s f limit steps (λ h. play M t limit (suc steps) h.stack h.vars h.marks)
        (λ h k' s' g. reached limit (suc steps) h.stack h.vars h.marks k' s' g)
        (machine_step M t r rest vars marks) (step_of 𝔸 k s) refl refl (step_agrees t M ok r rest vars marks k s f)
