-- 02, P11: "It agrees with the meaning of a run step for step", both ways. Where its number is not 50, a play ends with 0
-- exactly where the run ends within the limit, with 52 exactly where it fails by a false assertion within the limit, with 53
-- exactly where it fails by a zero divisor within the limit, and with 54 exactly where something is still to do when the limit is
-- spent (`answers`). With each number comes where the run is, and at which statement it failed (`place`).
-- Argument: the machine stops where the run is (`Reached`), and the run is determined (`Within`). Assumes nothing.
use Rattle.std.specs.Prelude.{ℕ, suc, ◌<◌, ◌≡◌, ◌≢◌, List, ℤ}
use Rattle.std.proofs.Common.{sym, ap, ◌∙◌, arith as linear}
use Rattle.script.specs.Syntax.{Stmt}
use Rattle.script.specs.Meaning.{Arithmetic, State}
use Rattle.script.specs.Run.{Frame, Cause, false_assertion, zero_divisor, Config, at, failed, step, after}
use Rattle.script.specs.Trees.{stmt_at}
use Rattle.stepping.specs.Machine.{Mode, Stopped}
use Rattle.stepping.specs.Reached.{Stops, ends, leaves_range, denied, divided, waits, Reached}
use Rattle.stepping.specs.Within.{EndsWithin, FailsWithin, Waits, Answers, next_moment, later, failed_rests, differ, not_failed, not_waiting, not_both}

-- with a number and a row comes where the run is: it has ended within the limit, or failed within it, or waits at it
pub data Place (t : List ℤ) (𝔸 : Arithmetic) (x : Config) (limit number row : ℕ) : Type 0 where
  at_end : number ≡ 0 → EndsWithin 𝔸 x limit → Place t 𝔸 x limit number row
  out_of_range : number ≡ 50 → Place t 𝔸 x limit number row
  at_false : number ≡ 52 → after 𝔸 limit x ≡ failed false_assertion (stmt_at t row) → Place t 𝔸 x limit number row
  at_zero : number ≡ 53 → after 𝔸 limit x ≡ failed zero_divisor (stmt_at t row) → Place t 𝔸 x limit number row
  at_limit : number ≡ 54 → Waits 𝔸 x limit → Place t 𝔸 x limit number row

module _ (t : List ℤ) (M : Mode) (k : List Frame) (s : State) (limit : ℕ) (p : Stopped) (q : Reached t M k s limit 0 p) where
  abbrev 𝔸 : Arithmetic
  𝔸 = M.arithmetic

  abbrev x : Config
  x = at k s

  has_failed : {c : Cause} {y : Stmt} → q.more < limit → step 𝔸 (at q.frames q.state) ≡ failed c y → after 𝔸 limit x ≡ failed c y
  has_failed {c} {y} l e = later 𝔸 (suc q.more) limit l x (next_moment 𝔸 q.more x q.comes ∙ e) (failed_rests 𝔸 c y)

  placed : Stops t M q.frames q.state q.more limit p → Place t 𝔸 x limit p.number p.row
  placed (ends z e) =
      at_end z (record {
        steps = q.more;
        allowed = q.allowed;
        end = q.state;
        ends = q.comes ∙ ap (λ (f : List Frame). at f q.state) e;
      })
  placed (leaves_range z e l g) = out_of_range z
  placed (denied z l e) = at_false z (has_failed l e)
  placed (divided z l e) = at_zero z (has_failed l e)
  placed (waits z l n) =
      at_limit z (record {
        frames = q.frames;
        state = q.state;
        comes = ap (λ j. after 𝔸 j x) (sym l) ∙ q.comes;
        some = n;
      })

  pub place : Place t 𝔸 x limit p.number p.row
  place = placed q.stops

-- ---- the numbers

module _ (t : List ℤ) (𝔸 : Arithmetic) (x : Config) (limit n r : ℕ) where
  abbrev P : Type 0
  P = Place t 𝔸 x limit n r

  pub ended_at : P → n ≡ 0 → EndsWithin 𝔸 x limit
  ended_at (at_end e h) z = h
  ended_at (out_of_range e) z = absurd (omega linear)
  ended_at (at_false e h) z = absurd (omega linear)
  ended_at (at_zero e h) z = absurd (omega linear)
  ended_at (at_limit e h) z = absurd (omega linear)

  pub denied_at : P → n ≡ 52 → after 𝔸 limit x ≡ failed false_assertion (stmt_at t r)
  denied_at (at_end e h) z = absurd (omega linear)
  denied_at (out_of_range e) z = absurd (omega linear)
  denied_at (at_false e h) z = h
  denied_at (at_zero e h) z = absurd (omega linear)
  denied_at (at_limit e h) z = absurd (omega linear)

  pub divided_at : P → n ≡ 53 → after 𝔸 limit x ≡ failed zero_divisor (stmt_at t r)
  divided_at (at_end e h) z = absurd (omega linear)
  divided_at (out_of_range e) z = absurd (omega linear)
  divided_at (at_false e h) z = absurd (omega linear)
  divided_at (at_zero e h) z = h
  divided_at (at_limit e h) z = absurd (omega linear)

  pub spent_at : P → n ≡ 54 → Waits 𝔸 x limit
  spent_at (at_end e h) z = absurd (omega linear)
  spent_at (out_of_range e) z = absurd (omega linear)
  spent_at (at_false e h) z = absurd (omega linear)
  spent_at (at_zero e h) z = absurd (omega linear)
  spent_at (at_limit e h) z = h

  module _ (kept : n ≢ 50) where
    is_ended : P → EndsWithin 𝔸 x limit → n ≡ 0
    is_ended (at_end e h) w = e
    is_ended (out_of_range e) w = absurd (kept e)
    is_ended (at_false e h) w = not_failed 𝔸 x limit w h
    is_ended (at_zero e h) w = not_failed 𝔸 x limit w h
    is_ended (at_limit e h) w = not_waiting 𝔸 x limit w h

    is_denied : P → FailsWithin 𝔸 x limit false_assertion → n ≡ 52
    is_denied (at_end e h) w = not_failed 𝔸 x limit h w.fails
    is_denied (out_of_range e) w = absurd (kept e)
    is_denied (at_false e h) w = e
    is_denied (at_zero e h) w = differ (sym h ∙ w.fails)
    is_denied (at_limit e h) w = not_both 𝔸 x limit h w.fails

    is_divided : P → FailsWithin 𝔸 x limit zero_divisor → n ≡ 53
    is_divided (at_end e h) w = not_failed 𝔸 x limit h w.fails
    is_divided (out_of_range e) w = absurd (kept e)
    is_divided (at_false e h) w = differ (sym w.fails ∙ h)
    is_divided (at_zero e h) w = e
    is_divided (at_limit e h) w = not_both 𝔸 x limit h w.fails

    is_spent : P → Waits 𝔸 x limit → n ≡ 54
    is_spent (at_end e h) w = not_waiting 𝔸 x limit h w
    is_spent (out_of_range e) w = absurd (kept e)
    is_spent (at_false e h) w = not_both 𝔸 x limit w h
    is_spent (at_zero e h) w = not_both 𝔸 x limit w h
    is_spent (at_limit e h) w = e

    pub answers : P → Answers 𝔸 x limit n
    answers p = record {
      ended = (ended_at p, is_ended p);
      denied = (λ z. record { statement = stmt_at t r; fails = denied_at p z }, is_denied p);
      divided = (λ z. record { statement = stmt_at t r; fails = divided_at p z }, is_divided p);
      spent = (spent_at p, is_spent p);
    }
