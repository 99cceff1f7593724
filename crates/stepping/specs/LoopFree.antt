-- 02, P11: the run of a script without loops takes at most as many steps as there are statements in it, proved or not: with such a
-- limit 54 never comes (`free_never_spent`).
-- Argument: the run is never in a loop (`after_free`), so nothing is asked of passes and variants (`StepBound`). Assumes nothing.
use Prim.Native.Nat.{ℕ, zero, suc, ◌+◌, ◌≤◌}
use Rattle.std.specs.Prelude.{◌≢◌, Bool, true, false, cond, ℤ}
use mathlib.Core.List.{List, [], ◌∷◌}
use Rattle.std.proofs.Common.{arith as linear}
use Rattle.script.specs.Syntax.{Stmt, skip, assign, seq, branch, loop, assert}
use Rattle.script.specs.Meaning.{Arithmetic, State, holds, defined, definedᶠ}
use Rattle.script.specs.Run.{Frame, begin, again, Config, at, failed, unless_zero, first_step, step_of, step, after, start, PassesBounded}
use Rattle.script.specs.Trees.{tree}
use Rattle.stepping.specs.Machine.{Mode, state_of, machine_run}
use Rattle.stepping.specs.StepBound.{most_steps, ArrivedWithin, Fine}
use Rattle.stepping.specs.EnoughSteps.{never_spent}

abbrev pub LoopFree : Stmt → Type 0
LoopFree skip = Unit {0}
LoopFree (assign v e) = Unit {0}
LoopFree (seq a b) = LoopFree a × LoopFree b
LoopFree (branch b x y) = LoopFree x × LoopFree y
LoopFree (loop m b i v x) = ⊥
LoopFree (assert a) = Unit {0}

-- how many statements there are, sequences apart
unfoldable pub statements : Stmt → ℕ
statements skip = 1
statements (assign v e) = 1
statements (seq a b) = statements a + statements b
statements (branch b x y) = suc (statements x + statements y)
statements (loop m b i v x) = suc (statements x)
statements (assert a) = 1

-- with no loop there is no variant to bound
pub steps_counted : (top : ℕ) (x : Stmt) → LoopFree x → most_steps top x ≤ statements x
unfolding most_steps statements
steps_counted top skip h = omega linear
steps_counted top (assign v e) h = omega linear
steps_counted top (seq a b) h = let p = steps_counted top a h.0 in let q = steps_counted top b h.1 in omega linear
steps_counted top (branch b x y) h = let p = steps_counted top x h.0 in let q = steps_counted top y h.1 in omega linear
steps_counted top (loop m b i v x) h = absurd h
steps_counted top (assert a) h = omega linear

-- ---- the run is never in a loop

abbrev Free : List Frame → Type 0
Free [] = Unit {0}
Free (begin x ∷ k) = LoopFree x × Free k
Free (again m b i v x v₀ n ∷ k) = ⊥

abbrev Freeᶜ : Config → Type 0
Freeᶜ (at k s) = Free k
Freeᶜ (failed c x) = Unit {0}

module _ (𝔸 : Arithmetic) where
  unless_free : (b : Bool) (x : Stmt) (g : Config) → Freeᶜ g → Freeᶜ (unless_zero b x g)
  unless_free true x g h = h
  unless_free false x g h = tt

  chosen_free : (b : Bool) (x y : Stmt) → LoopFree x → LoopFree y → LoopFree (cond b x y)
  chosen_free true x y h k = h
  chosen_free false x y h k = k

  held_free : (b : Bool) (g h : Config) → Freeᶜ g → Freeᶜ h → Freeᶜ (cond b g h)
  held_free true g h p q = p
  held_free false g h p q = q

  first_free : (x : Stmt) (k : List Frame) (s : State) → LoopFree x → Free k → Freeᶜ (first_step 𝔸 x k s)
  unfolding first_step
  first_free skip k s h f = f
  first_free (assign v e) k s h f = unless_free (defined 𝔸 s e) (assign v e) _ f
  first_free (seq a b) k s h f = first_free a (begin b ∷ k) s h.0 (h.1, f)
  first_free (branch b x y) k s h f =
      unless_free (definedᶠ 𝔸 s b) (branch b x y) (at (begin (cond (holds 𝔸 s b) x y) ∷ k) s)
      (chosen_free (holds 𝔸 s b) x y h.0 h.1, f)
  first_free (loop m b i v x) k s h f = absurd h
  first_free (assert a) k s h f = held_free (holds 𝔸 s a) (at k s) (failed _ _) f tt

  step_free : (g : Config) → Freeᶜ g → Freeᶜ (step 𝔸 g)
  unfolding step step_of
  step_free (failed c x) h = tt
  step_free (at [] s) h = tt
  step_free (at (begin x ∷ k) s) h = first_free x k s h.0 h.1
  step_free (at (again m b i v x v₀ n ∷ k) s) h = absurd h

  after_free : (n : ℕ) (g : Config) → Freeᶜ g → Freeᶜ (after 𝔸 n g)
  unfolding after
  after_free zero g h = h
  after_free (suc n) g h = after_free n (step 𝔸 g) (step_free g h)

free_fine : (top : ℕ) (k : List Frame) → Free k → PassesBounded k × ArrivedWithin top k
free_fine top [] h = (tt, tt)
free_fine top (begin x ∷ k) h = free_fine top k h.1
free_fine top (again m b i v x v₀ n ∷ k) h = absurd h

fine_moment : (top : ℕ) (g : Config) → Freeᶜ g → Fine top g
fine_moment top (at k s) h = free_fine top k h
fine_moment top (failed c x) h = tt

pub free_never_spent : (M : Mode) (t : List ℤ) (stack : List ℕ) (vars marks : List ℤ) (limit : ℕ) → LoopFree (tree t).body
    → statements (tree t).body ≤ limit → (machine_run M t stack vars marks limit).number ≢ 54
free_never_spent M t stack vars marks limit free enough =
    let counted = steps_counted 0 (tree t).body free in
    let x = start (tree t) (state_of vars marks) in
    never_spent M t stack vars marks limit 0
    (λ n. fine_moment 0 (after M.arithmetic n x) (after_free M.arithmetic n x (free, tt))) (omega linear)
