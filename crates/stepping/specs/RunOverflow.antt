-- 02, P11: "50 when a value leaves 64 bits", told of the run alone: a call that is played answers 50 exactly where after some number
-- of the run's steps, fewer than the limit, the statement due works out a result outside the range (`LeavesWithin`; `run_leaves_iff`,
-- `on_leaves_iff`). So where there is no such moment the number says where the run is (`run_answers_within`, `on_answers_within`).
-- Argument: a play that stops with 50 is where the run is (`Reached`); one with that moment as its limit has come there, and a
-- higher limit goes on (`Onward`). Assumes nothing.
use Rattle.std.specs.Prelude.{ℕ, suc, ◌+◌, ◌-◌, ◌<◌, ◌≡◌, refl, ◌↔◌, false, cond, List, [], ◌∷◌, reverse, ℤ, take}
use Rattle.std.proofs.Common.{sym, ap, ◌∙◌, arith as linear, eq-eqb, ne_eqb}
use Rattle.std.proofs.Math.Path.{subst, subst⁻¹}
use Rattle.std.proofs.Math.Option.{some}
use Rattle.script.specs.Syntax.{Stmt}
use Rattle.script.specs.Meaning.{Arithmetic, State}
use Rattle.script.specs.Run.{Frame, Cause, Config, at, failed, start, step, after}
use Rattle.script.specs.Rows.{row, rows}
use Rattle.script.specs.Trees.{tree, stmt_at}
use Rattle.script.specs.Refusals.{accepted, verdict}
use Rattle.theorems.specs.Accepted.{Accepted, passed}
use Rattle.theorems.specs.Options.{none_is_not, some_inj}
use Rattle.theorems.specs.Due as Run
use Rattle.stepping.specs.Machine.{Mode, hold, state_of, next, Stopped, play, Ran, statement_of, too_short, called, machine_run, machine_on}
use Rattle.stepping.specs.Ready.{is_due}
use Rattle.stepping.specs.StepForStep.{Stands, Follows}
use Rattle.stepping.specs.Reached.{Stops, ends, leaves_range, denied, divided, waits, Reached, no_frames, reached}
use Rattle.stepping.specs.Within.{Answers, next_moment, later, end_rests, failed_rests, clash, same_frames, same_state}
use Rattle.stepping.specs.Calls.{frames_of, stands_begun, start_frames, begins_at, accepted_plays, called_plays}
use Rattle.stepping.specs.CallAnswers.{run_answers, on_answers}
use Rattle.stepping.specs.Onward.{resumed, play_sum}
use Rattle.stepping.specs.StepOverflow.{Overflows, step_overflow_iff}
use Rattle.stepping.specs.PlayOverflow.{stops_there}

-- the run from x comes, with fewer than `limit` steps, to where a result is outside the range
pub record LeavesWithin (M : Mode) (x : Config) (limit : ℕ) : Type 0 where
  pub steps : ℕ
  pub earlier : steps < limit
  pub frames : List Frame
  pub state : State
  pub comes : after M.arithmetic steps x ≡ at frames state
  pub statement : Stmt
  pub is_next : Run.due frames ≡ some statement
  pub leaves : Overflows M state statement

-- where nothing is to do nothing is due
none_due : {X : Type 0} {k : List Frame} {y : Stmt} → k ≡ [] → Run.due k ≡ some y → X
none_due e d = absurd (none_is_not (sym (ap Run.due e) ∙ d))

module _ (M : Mode) (t : List ℤ) (ok : Accepted t) (stack : List ℕ) (vars marks : List ℤ) (k : List Frame) (s : State)
    (f : Follows t (hold stack vars marks) k s) (limit : ℕ) where
  abbrev 𝔸 : Arithmetic
  𝔸 = M.arithmetic

  abbrev with_limit : ℕ → Stopped
  with_limit n = play M t n 0 stack vars marks

  abbrev come : (n : ℕ) → Reached t M k s n 0 (with_limit n)
  come n = reached t M ok n 0 stack vars marks k s f

  abbrev Way : ℕ → Type 0
  Way n = Stops t M (come n).frames (come n).state (come n).more n (with_limit n)

  leaves_so : (with_limit limit).number ≡ 50 → Way limit → LeavesWithin M (at k s) limit
  leaves_so n (leaves_range {r} {rest} z e l g) =
      let q = come limit in
      record {
        steps = q.more;
        earlier = l;
        frames = q.frames;
        state = q.state;
        comes = q.comes;
        statement = stmt_at t (next t r rest).at;
        is_next = is_due t ok r rest q.frames (subst (λ (rs : List ℕ). Stands t rs q.frames) e q.follows.stands);
        leaves = subst⁻¹ (λ (y : State). Overflows M y (stmt_at t (next t r rest).at)) q.follows.state
            ((step_overflow_iff M t ok (with_limit limit).held.vars (with_limit limit).held.marks r rest).0 g);
      }
  leaves_so n (ends z e) = absurd (omega linear)
  leaves_so n (denied z l e) = absurd (omega linear)
  leaves_so n (divided z l e) = absurd (omega linear)
  leaves_so n (waits z l e) = absurd (omega linear)

  module _ (w : LeavesWithin M (at k s) limit) where
    abbrev n : ℕ
    n = w.steps

    -- what is left of the limit after the step that is not made
    abbrev left : ℕ
    left = limit - suc n

    goes_on : with_limit limit ≡ resumed M t (suc left) (with_limit n)
    goes_on =
        let l = w.earlier in
        let sum : limit ≡ n + suc left = omega linear in
        ap with_limit sum ∙ play_sum M t n (suc left) 0 stack vars marks

    not_failed : {X : Type 0} {c : Cause} {y : Stmt} → (come n).more < n → step 𝔸 (at (come n).frames (come n).state) ≡ failed c y → X
    not_failed {c = c} {y = y} l e =
        let q = come n in
        clash (sym w.comes ∙ later 𝔸 (suc q.more) n l (at k s) (next_moment 𝔸 q.more (at k s) q.comes ∙ e) (failed_rests 𝔸 c y))

    -- the play with this limit has come there, and its next step is not made
    next_fails : (with_limit n).number ≡ 54 → at w.frames w.state ≡ at (come n).frames (come n).state
        → (rs : List ℕ) → (with_limit n).held.stack ≡ rs → (with_limit limit).number ≡ 50
    next_fails z same [] e =
        let st = subst (λ (rs : List ℕ). Stands t rs (come n).frames) e (come n).follows.stands in
        none_due (same_frames same ∙ no_frames t M st) w.is_next
    next_fails z same (r ∷ rest) e =
        let q = come n in
        let p = with_limit n in
        let st = subst (λ (rs : List ℕ). Stands t rs q.frames) e q.follows.stands in
        let one = some_inj (sym w.is_next ∙ ap Run.due (same_frames same) ∙ is_due t ok r rest q.frames st) in
        let there = subst (Overflows M (state_of p.held.vars p.held.marks)) one
        (subst (λ (y : State). Overflows M y w.statement) (same_state same ∙ q.follows.state) w.leaves) in
        let fails = (step_overflow_iff M t ok p.held.vars p.held.marks r rest).1 there in
        ap (λ (y : Stopped). y.number)
        (goes_on ∙ ap (λ c. cond c (play M t (suc left) p.steps p.held.stack p.held.vars p.held.marks) p) (eq-eqb p.number 54 z)
        ∙ ap (λ rs. play M t (suc left) p.steps rs p.held.vars p.held.marks) e
        ∙ stops_there M t ok left p.steps r rest p.held.vars p.held.marks fails)

    stops_so : Way n → (with_limit limit).number ≡ 50
    stops_so (leaves_range z e l g) =
        let p = with_limit n in
        ap (λ (y : Stopped). y.number)
        (goes_on ∙ ap (λ c. cond c (play M t (suc left) p.steps p.held.stack p.held.vars p.held.marks) p)
        (ne_eqb p.number 54 (λ h. omega linear)))
        ∙ z
    stops_so (ends z e) =
        let q = come n in
        let ended = q.comes ∙ ap (λ (y : List Frame). at y q.state) e in
        none_due (same_frames (sym w.comes ∙ later 𝔸 q.more n q.allowed (at k s) ended (end_rests 𝔸 q.state))) w.is_next
    stops_so (denied z l e) = not_failed l e
    stops_so (divided z l e) = not_failed l e
    stops_so (waits z l e) =
        next_fails z (sym w.comes ∙ ap (λ j. after 𝔸 j (at k s)) (sym l) ∙ (come n).comes) (with_limit n).held.stack refl

  pub play_leaves_iff : ((with_limit limit).number ≡ 50) ↔ LeavesWithin M (at k s) limit
  play_leaves_iff = (λ z. leaves_so z (come limit).stops, λ w. stops_so w (come w.steps).stops)

-- ---- calls

module _ (M : Mode) (t : List ℤ) (stack : List ℕ) (vars marks : List ℤ) (limit : ℕ) (accepts : verdict t ≡ accepted) where
  pub called_leaves_iff : (need : ℕ) (begun : List ℕ) → too_short M t stack vars marks limit need ≡ false
      → ((called M t stack vars marks limit need begun).number ≡ 50) ↔ LeavesWithin M (begins_at M t stack vars marks limit need begun) limit
  called_leaves_iff need begun e =
      let p = accepted_plays M t stack vars marks limit need begun accepts e in
      let same = ap (λ (a : Ran). a.number) (called_plays M t stack vars marks limit need begun accepts e) in
      let i = play_leaves_iff M t p.accepts begun vars marks (frames_of t begun) (state_of vars marks)
      (record { stands = stands_begun t begun; state = refl; vars_size = p.vars_room; marks_size = p.marks_room }) limit in
      (λ z. i.0 (sym same ∙ z), λ w. same ∙ i.1 w)

  module _ (e : too_short M t stack vars marks limit (rows t) ≡ false) where
    abbrev x : Config
    x = start (tree t) (state_of vars marks)

    pub run_leaves_iff : ((machine_run M t stack vars marks limit).number ≡ 50) ↔ LeavesWithin M x limit
    unfolding machine_run
    run_leaves_iff =
        subst (λ y. ((machine_run M t stack vars marks limit).number ≡ 50) ↔ LeavesWithin M y limit)
        (start_frames t (passed t accepts) (state_of vars marks))
        (called_leaves_iff (rows t) (statement_of (row t (rows t - 1)) ∷ []) e)

    pub run_answers_within : ¬ LeavesWithin M x limit
        → Answers M.arithmetic x limit (machine_run M t stack vars marks limit).number
    run_answers_within kept = run_answers M t stack vars marks limit accepts e (λ z. kept (run_leaves_iff.0 z))

  module _ (height : ℕ) (e : too_short M t stack vars marks limit (height + rows t) ≡ false) where
    abbrev y : Config
    y = at (frames_of t (reverse (take height stack))) (state_of vars marks)

    pub on_leaves_iff : ((machine_on M t stack vars marks limit height).number ≡ 50) ↔ LeavesWithin M y limit
    unfolding machine_on
    on_leaves_iff = called_leaves_iff (height + rows t) (reverse (take height stack)) e

    pub on_answers_within : ¬ LeavesWithin M y limit
        → Answers M.arithmetic y limit (machine_on M t stack vars marks limit height).number
    on_answers_within kept = on_answers M t stack vars marks limit accepts height e (λ z. kept (on_leaves_iff.0 z))
