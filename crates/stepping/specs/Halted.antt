-- 02, P11: a call that is played stops after the last step that can be made (`StoppedAt`; `run_stops`, `on_stops`). The run is there
-- after the steps answered, the row is that of the statement due, and (`Halts`) at 0 nothing is to do, which with fewer steps was not so;
-- at 50 that statement works out a result outside the range; at 52 and 53 the run's next step fails at it; at 54 the limit is spent
-- with something to do.
-- Argument: a play is `Reached`; that a run with fewer steps has not ended: a call with that limit would settle the answer
-- (`Watching.settled`). Assumes nothing.
use Rattle.std.specs.Prelude.{ℕ, ◌+◌, ◌-◌, ◌<◌, ◌≡◌, refl, ◌≢◌, Bool, true, false, List, [], ◌∷◌, reverse, eqb, ℤ, take}
use Rattle.std.proofs.Common.{sym, ap, ◌∙◌, arith as linear, eqb-true}
use Rattle.std.proofs.Math.Path.{subst, subst⁻¹}
use Rattle.std.proofs.Math.Option.{some}
use Rattle.std.proofs.lemmas.Bool.{eqb-false}
use Rattle.script.specs.Meaning.{Arithmetic, State}
use Rattle.script.specs.Run.{Frame, false_assertion, zero_divisor, Config, at, failed, start, step, after}
use Rattle.script.specs.Rows.{row, rows}
use Rattle.script.specs.Trees.{tree, stmt_at}
use Rattle.script.specs.Refusals.{accepted, verdict}
use Rattle.theorems.specs.Accepted.{passed}
use Rattle.theorems.specs.Options.{some_inj}
use Rattle.theorems.specs.Due as Run
use Rattle.stepping.specs.Machine.{Mode, state_of, Ran, statement_of, shown, too_short, called, machine_run, machine_on}
use Rattle.stepping.specs.Ready.{is_due}
use Rattle.stepping.specs.StepForStep.{Stands, begins, tests_again}
use Rattle.stepping.specs.Reached.{RowDue, Reached, Stops, ends, leaves_range, denied, divided, waits}
use Rattle.stepping.specs.Within.{EndsWithin, not_waiting}
use Rattle.stepping.specs.Answers.{spent_at}
use Rattle.stepping.specs.Calls.{frames_of, start_frames, played, begins_at, Played, plays, calls, accepted_plays, called_plays}
use Rattle.stepping.specs.CallAnswers.{call_steps, call_place}
use Rattle.stepping.specs.Watching.{settled}
use Rattle.stepping.specs.StepOverflow.{Overflows, step_overflow_iff}

module _ (M : Mode) (t : List ℤ) (limit : ℕ) where
  abbrev 𝔸 : Arithmetic
  𝔸 = M.arithmetic

  -- why the call that answers a makes no more steps of the run from x, which is at these frames
  pub data Halts (x : Config) (a : Ran) (frames : List Frame) : Type 0 where
    at_end : a.number ≡ 0 → frames ≡ [] → ((n : ℕ) → n < a.steps → ¬ EndsWithin 𝔸 x n) → Halts x a frames
    out_of_range : a.number ≡ 50 → a.steps < limit → Run.due frames ≡ some (stmt_at t a.row)
        → Overflows M (state_of a.vars a.marks) (stmt_at t a.row) → Halts x a frames
    at_false : a.number ≡ 52 → a.steps < limit
        → step 𝔸 (at frames (state_of a.vars a.marks)) ≡ failed false_assertion (stmt_at t a.row) → Halts x a frames
    at_zero : a.number ≡ 53 → a.steps < limit
        → step 𝔸 (at frames (state_of a.vars a.marks)) ≡ failed zero_divisor (stmt_at t a.row) → Halts x a frames
    at_limit : a.number ≡ 54 → a.steps ≡ limit → frames ≢ [] → Halts x a frames

  -- where the run from x is when a call answers a
  pub record StoppedAt (x : Config) (a : Ran) : Type 0 where
    pub frames : List Frame
    pub comes : after 𝔸 a.steps x ≡ at frames (state_of a.vars a.marks)
    pub row_due : RowDue t M frames a.row
    pub halts : Halts x a frames

-- with rows on the stack the row due is that of a statement
due_there : (M : Mode) (n : ℕ) {t : List ℤ} {r : ℕ} {rest : List ℕ} {k : List Frame} → Stands t (r ∷ rest) k → RowDue t M k n
    → Run.due k ≡ some (stmt_at t n)
due_there M n (begins st) d = d
due_there M n (tests_again h e e' st) d = d

module _ (M : Mode) (t : List ℤ) (stack : List ℕ) (vars marks : List ℤ) (accepts : verdict t ≡ accepted) (limit : ℕ) where
  module _ (need : ℕ) (begun : List ℕ) (room : too_short M t stack vars marks limit need ≡ false) where
    abbrev x : Config
    x = begins_at M t stack vars marks limit need begun

    abbrev with_limit : ℕ → Ran
    with_limit n = called M t stack vars marks n need begun

    abbrev is_played : (n : ℕ) → Played M t stack vars marks n need begun
    is_played n = accepted_plays M t stack vars marks n need begun accepts room

    -- the answer that is shown
    abbrev a : Ran
    a = shown M t stack vars marks limit (played M t stack vars marks limit need begun)

    -- a limit below the steps made was spent
    too_few : (n : ℕ) → n < a.steps → (with_limit n).number ≡ 54
    too_few n l = by (eqb (with_limit n).number 54) refl
      where
        by : (b : Bool) → eqb (with_limit n).number 54 ≡ b → (with_limit n).number ≡ 54
        by true e = eqb-true (with_limit n).number 54 e
        by false e =
            let most = call_steps M t stack vars marks limit need begun (plays (is_played limit)) in
            let fewer = call_steps M t stack vars marks n need begun (calls M t stack vars marks n need begun) in
            let sum : limit ≡ n + (limit - n) = omega linear in
            let same = ap (λ (r : Ran). r.steps)
            (sym (called_plays M t stack vars marks limit need begun accepts room) ∙ ap with_limit sum
            ∙ settled M t stack vars marks n (limit - n) need begun (eqb-false (with_limit n).number 54 e)) in
            absurd (omega linear)

    not_ended : (n : ℕ) → n < a.steps → ¬ EndsWithin M.arithmetic x n
    not_ended n l e =
        let p = is_played n in
        let same = ap (λ (r : Ran). r.number) (called_plays M t stack vars marks n need begun accepts room) in
        not_waiting M.arithmetic x n e
        (spent_at t M.arithmetic x n (played M t stack vars marks n need begun).number (played M t stack vars marks n need begun).row
        (call_place M t stack vars marks n need begun p) (sym same ∙ too_few n l))

    play_stops : StoppedAt M t limit x a
    play_stops = record {
      frames = q.frames;
      comes = ap (λ j. after M.arithmetic j x) counted ∙ q.comes ∙ ap (at q.frames) q.follows.state;
      row_due = q.row_due;
      halts = by q.stops;
    }
      where
        q : Reached t M (frames_of t begun) (state_of vars marks) limit 0 (played M t stack vars marks limit need begun)
        q = (is_played limit).reaches

        counted : a.steps ≡ q.more
        counted = q.counted ∙ omega linear

        by : Stops t M q.frames q.state q.more limit (played M t stack vars marks limit need begun) → Halts M t limit x a q.frames
        by (ends z e) = at_end z e not_ended
        by (leaves_range {r} {rest} z e l g) =
            let st = subst (λ (rs : List ℕ). Stands t rs q.frames) e q.follows.stands in
            let d = due_there M a.row st q.row_due in
            let one = some_inj (sym (is_due t (is_played limit).accepts r rest q.frames st) ∙ d) in
            out_of_range z (let c = counted in omega linear) d
            (subst (Overflows M (state_of a.vars a.marks)) one
            ((step_overflow_iff M t (is_played limit).accepts a.vars a.marks r rest).0 g))
        by (denied z l e) =
            at_false z (let c = counted in omega linear) (ap (λ (y : State). step M.arithmetic (at q.frames y)) (sym q.follows.state) ∙ e)
        by (divided z l e) =
            at_zero z (let c = counted in omega linear) (ap (λ (y : State). step M.arithmetic (at q.frames y)) (sym q.follows.state) ∙ e)
        by (waits z l e) = at_limit z (counted ∙ l) e

    pub called_stops : StoppedAt M t limit x (with_limit limit)
    called_stops = subst⁻¹ (StoppedAt M t limit x) (called_plays M t stack vars marks limit need begun accepts room) play_stops

  -- ---- the two entries

  pub run_stops : too_short M t stack vars marks limit (rows t) ≡ false
      → StoppedAt M t limit (start (tree t) (state_of vars marks)) (machine_run M t stack vars marks limit)
  unfolding machine_run
  run_stops room =
      subst (λ y. StoppedAt M t limit y (machine_run M t stack vars marks limit)) (start_frames t (passed t accepts) (state_of vars marks))
      (called_stops (rows t) (statement_of (row t (rows t - 1)) ∷ []) room)

  pub on_stops : (height : ℕ) → too_short M t stack vars marks limit (height + rows t) ≡ false
      → StoppedAt M t limit (at (frames_of t (reverse (take height stack))) (state_of vars marks))
      (machine_on M t stack vars marks limit height)
  unfolding machine_on
  on_stops height room = called_stops (height + rows t) (reverse (take height stack)) room
