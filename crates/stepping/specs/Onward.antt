-- 02, P11, plays with higher limits: a play with a higher limit goes on where one with a lower limit stopped with 54, and is the same
-- where it stopped otherwise (`play_sum`); steps before a play are only counted (`play_counted`).
-- Argument: by induction on the first limit. Assumes nothing.
use Prim.Native.Nat.{ℕ, zero, suc, ◌+◌}
use Rattle.std.specs.Prelude.{◌≡◌, cond, ℤ, eqb}
use Rattle.std.proofs.Math.Path.{refl, ap}
use Rattle.std.proofs.Common.{◌∙◌}
use mathlib.Core.List.{List, [], ◌∷◌}
use native.Mathlib.Omega.{arith as linear}
use Rattle.stepping.specs.Machine.{Mode, overflow, by_zero, Held, hold, next, Stepped, on, faulty, untrue, Stopped, stopped, machine_step, proceed, ended, play}

module _ (M : Mode) (t : List ℤ) where
  -- at most b more steps from where p stopped, if its limit was spent
  abbrev pub resumed : ℕ → Stopped → Stopped
  resumed b p = cond (eqb p.number 54) (play M t b p.steps p.held.stack p.held.vars p.held.marks) p

  play_empty : (b steps : ℕ) (vars marks : List ℤ) → play M t b steps [] vars marks ≡ ended M t steps vars marks
  unfolding play
  play_empty zero steps vars marks = refl
  play_empty (suc b) steps vars marks = refl

  step_resumed : (b steps r : ℕ) (h : Held) (f g : Held → Stopped) → ((h' : Held) → f h' ≡ resumed b (g h')) → (w : Stepped)
      → proceed M t f steps r h w ≡ resumed b (proceed M t g steps r h w)
  step_resumed b steps r h f g rec (on h') = rec h'
  step_resumed b steps r h f g rec (faulty overflow) = refl
  step_resumed b steps r h f g rec (faulty by_zero) = refl
  step_resumed b steps r h f g rec untrue = refl

  pub play_sum : (a b steps : ℕ) (stack : List ℕ) (vars marks : List ℤ)
      → play M t (a + b) steps stack vars marks ≡ resumed b (play M t a steps stack vars marks)
  unfolding play
  play_sum zero b steps [] vars marks =
      ap (λ n. play M t n steps [] vars marks) (let e : 0 + b ≡ b = omega linear in e) ∙ play_empty b steps vars marks
  play_sum zero b steps (r ∷ rest) vars marks =
      ap (λ n. play M t n steps (r ∷ rest) vars marks) (let e : 0 + b ≡ b = omega linear in e)
  play_sum (suc a) b steps [] vars marks = play_empty (suc a + b) steps vars marks
  play_sum (suc a) b steps (r ∷ rest) vars marks =
      ap (λ n. play M t n steps (r ∷ rest) vars marks) (let e : suc a + b ≡ suc (a + b) = omega linear in e)
      ∙ step_resumed b steps (next t r rest).at (hold (r ∷ rest) vars marks)
      (λ h. play M t (a + b) (suc steps) h.stack h.vars h.marks) (λ h. play M t a (suc steps) h.stack h.vars h.marks)
      (λ h. play_sum a b (suc steps) h.stack h.vars h.marks) (machine_step M t r rest vars marks)

  -- steps counted from n
  abbrev pub counted_from : ℕ → Stopped → Stopped
  counted_from n p = stopped p.number p.row (n + p.steps) p.held

  step_counted : (n steps r : ℕ) (h : Held) (f g : Held → Stopped) → ((h' : Held) → f h' ≡ counted_from n (g h')) → (w : Stepped)
      → proceed M t f (n + steps) r h w ≡ counted_from n (proceed M t g steps r h w)
  step_counted n steps r h f g rec (on h') = rec h'
  step_counted n steps r h f g rec (faulty x) = refl
  step_counted n steps r h f g rec untrue = refl

  pub play_counted : (b n steps : ℕ) (stack : List ℕ) (vars marks : List ℤ)
      → play M t b (n + steps) stack vars marks ≡ counted_from n (play M t b steps stack vars marks)
  unfolding play
  play_counted zero n steps [] vars marks = refl
  play_counted zero n steps (r ∷ rest) vars marks = refl
  play_counted (suc b) n steps [] vars marks = refl
  play_counted (suc b) n steps (r ∷ rest) vars marks =
      step_counted n steps (next t r rest).at (hold (r ∷ rest) vars marks)
      (λ h. play M t b (suc (n + steps)) h.stack h.vars h.marks) (λ h. play M t b (suc steps) h.stack h.vars h.marks)
      (λ h. ap (λ j. play M t b j h.stack h.vars h.marks) (let e : suc (n + steps) ≡ n + suc steps = omega linear in e)
      ∙ play_counted b n (suc steps) h.stack h.vars h.marks) (machine_step M t r rest vars marks)
