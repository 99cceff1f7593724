-- 02, P11: "50 when a value leaves 64 bits", of a whole play: it ends with 50 exactly where after some number of whole steps, fewer than
-- the limit, the statement due works out a result outside the range (`play_overflow_iff`). So where that is at no moment, the number says
-- where the run is (`Answers`). The same of a call that is played (`run_overflow_iff`).
-- Argument: a play that stops with 50 had come there with the limit spent; a play with a higher limit goes on from there
-- (`Onward`). Assumes nothing.
use Prim.Native.Nat.{ℕ, zero, suc, ◌+◌, ◌-◌, ◌<◌}
use Rattle.std.specs.Prelude.{◌≡◌, ◌↔◌, false, ℤ}
use Rattle.std.proofs.Math.Path.{refl, ap}
use Rattle.std.proofs.Common.{sym, ◌∙◌}
use mathlib.Core.List.{List, [], ◌∷◌}
use native.Mathlib.Omega.{arith as linear}
use Rattle.script.specs.Rows.{row, rows}
use Rattle.script.specs.Trees.{stmt_at}
use Rattle.script.specs.Refusals.{accepted, verdict}
use Rattle.theorems.specs.Accepted.{Accepted, passed}
use Rattle.stepping.specs.Machine.{Mode, overflow, by_zero, Held, hold, state_of, next, Stepped, on, faulty, untrue, Stopped, stopped, proceed, machine_step, play, Ran, statement_of, too_short, machine_run}
use Rattle.stepping.specs.Reached.{moved}
use Rattle.stepping.specs.Calls.{called_plays}
use Rattle.stepping.specs.Onward.{resumed, play_sum}
use Rattle.stepping.specs.StepOverflow.{Overflows, step_overflow_iff}

module _ (M : Mode) (t : List ℤ) (ok : Accepted t) where
  -- after so many steps before, the play comes with fewer than `limit` more to where a result is outside the range
  pub record LeavesRange (limit steps : ℕ) (stack : List ℕ) (vars marks : List ℤ) : Type 0 where
    pub more : ℕ
    pub earlier : more < limit
    pub at : ℕ
    pub rest : List ℕ
    pub vars_then : List ℤ
    pub marks_then : List ℤ
    pub comes : play M t more steps stack vars marks ≡ stopped 54 (next t at rest).at (steps + more) (hold (at ∷ rest) vars_then marks_then)
    pub leaves : Overflows M (state_of vars_then marks_then) (stmt_at t (next t at rest).at)

  -- one step, then the rest of the play
  stepped : (limit steps r : ℕ) (rest : List ℕ) (vars marks : List ℤ)
      → ((h : Held) → (play M t limit (suc steps) h.stack h.vars h.marks).number ≡ 50
      → LeavesRange limit (suc steps) h.stack h.vars h.marks)
      → (w : Stepped) → machine_step M t r rest vars marks ≡ w
      → (proceed M t (λ h. play M t limit (suc steps) h.stack h.vars h.marks) steps (next t r rest).at (hold (r ∷ rest) vars marks) w
      ).number ≡ 50
      → LeavesRange (suc limit) steps (r ∷ rest) vars marks
  unfolding play
  stepped limit steps r rest vars marks rec (on h) e z =
      let p = rec h z in
      record {
        more = suc p.more;
        earlier = let l = p.earlier in omega linear;
        at = p.at;
        rest = p.rest;
        vars_then = p.vars_then;
        marks_then = p.marks_then;
        comes = ap (proceed M t (λ h. play M t p.more (suc steps) h.stack h.vars h.marks) steps (next t r rest).at
            (hold (r ∷ rest) vars marks)) e
            ∙ p.comes
            ∙ ap (λ n. stopped 54 (next t p.at p.rest).at n (hold (p.at ∷ p.rest) p.vars_then p.marks_then)) (moved steps p.more);
        leaves = p.leaves;
      }
  stepped limit steps r rest vars marks rec (faulty overflow) e z = record {
    more = 0;
    earlier = omega linear;
    at = r;
    rest = rest;
    vars_then = vars;
    marks_then = marks;
    comes = ap (λ n. stopped 54 (next t r rest).at n (hold (r ∷ rest) vars marks)) (let n : steps ≡ steps + 0 = omega linear in n);
    leaves = (step_overflow_iff M t ok vars marks r rest).0 e;
  }
  stepped limit steps r rest vars marks rec (faulty by_zero) e z = absurd (omega linear)
  stepped limit steps r rest vars marks rec untrue e z = absurd (omega linear)

  leaves_at : (limit steps : ℕ) (stack : List ℕ) (vars marks : List ℤ) → (play M t limit steps stack vars marks).number ≡ 50
      → LeavesRange limit steps stack vars marks
  unfolding play
  leaves_at zero steps [] vars marks z = absurd (omega linear)
  leaves_at zero steps (r ∷ rest) vars marks z = absurd (omega linear)
  leaves_at (suc limit) steps [] vars marks z = absurd (omega linear)
  leaves_at (suc limit) steps (r ∷ rest) vars marks z =
      stepped limit steps r rest vars marks (λ h. leaves_at limit (suc steps) h.stack h.vars h.marks) (machine_step M t r rest vars marks)
      refl z

  -- the step that is not made
  pub stops_there : (limit steps r : ℕ) (rest : List ℕ) (vars marks : List ℤ) → machine_step M t r rest vars marks ≡ faulty overflow
      → play M t (suc limit) steps (r ∷ rest) vars marks ≡ stopped 50 (next t r rest).at steps (hold (r ∷ rest) vars marks)
  unfolding play
  stops_there limit steps r rest vars marks e =
      ap (proceed M t (λ h. play M t limit (suc steps) h.stack h.vars h.marks) steps (next t r rest).at (hold (r ∷ rest) vars marks)) e

  overflow_stops : (limit steps : ℕ) (stack : List ℕ) (vars marks : List ℤ) → LeavesRange limit steps stack vars marks
      → (play M t limit steps stack vars marks).number ≡ 50
  overflow_stops limit steps stack vars marks p =
      let l = p.earlier in
      let left = limit - suc p.more in
      let sum : limit ≡ p.more + suc left = omega linear in
      let e = (step_overflow_iff M t ok p.vars_then p.marks_then p.at p.rest).1 p.leaves in
      ap (λ (q : Stopped). q.number)
      (ap (λ n. play M t n steps stack vars marks) sum ∙ play_sum M t p.more (suc left) steps stack vars marks
      ∙ ap (resumed M t (suc left)) p.comes
      ∙ stops_there left (steps + p.more) p.at p.rest p.vars_then p.marks_then e)

  pub play_overflow_iff : (limit steps : ℕ) (stack : List ℕ) (vars marks : List ℤ)
      → ((play M t limit steps stack vars marks).number ≡ 50) ↔ LeavesRange limit steps stack vars marks
  play_overflow_iff limit steps stack vars marks = (leaves_at limit steps stack vars marks, overflow_stops limit steps stack vars marks)

pub run_overflow_iff : (M : Mode) (t : List ℤ) (stack : List ℕ) (vars marks : List ℤ) (limit : ℕ) (accepts : verdict t ≡ accepted)
    → too_short M t stack vars marks limit (rows t) ≡ false
    → ((machine_run M t stack vars marks limit).number ≡ 50)
    ↔ LeavesRange M t (passed t accepts) limit 0 (statement_of (row t (rows t - 1)) ∷ []) vars marks
unfolding machine_run
run_overflow_iff M t stack vars marks limit accepts e =
    let begun = statement_of (row t (rows t - 1)) ∷ [] in
    let same = ap (λ (a : Ran). a.number) (called_plays M t stack vars marks limit (rows t) begun accepts e) in
    let i = play_overflow_iff M t (passed t accepts) limit 0 begun vars marks in
    (λ z. i.0 (sym same ∙ z), λ p. same ∙ i.1 p)
