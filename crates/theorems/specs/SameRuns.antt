-- 02, P5: the runs of a script whose guards and assigned expressions have no div or mod (`Undivided`) are what they were before
-- P5, step for step, for any arithmetic (`same_runs`, with the former steps stated again, which fail for a false assertion only).
-- Argument: nothing that is still to do divides (`UndividedFrames`), which a step keeps; so each step is the former one.
-- Assumes nothing.
use Prim.Native.Nat.{ℕ, zero, suc}
use Rattle.std.specs.Prelude.{◌≡◌, Bool, cond, ℤ}
use Rattle.std.proofs.Math.Path.{refl, ap}
use Rattle.std.proofs.Common.{◌∙◌}
use mathlib.Core.List.{List, [], ◌∷◌}
use Rattle.std.proofs.Math.Bool.{true, false}
use Rattle.script.specs.Syntax.{Expr, Formula, Stmt, skip, assign, seq, branch, loop, assert, Tree}
use Rattle.script.specs.Meaning.{Arithmetic, State, value, holds}
use Rattle.script.specs.Run.{set_var, set_mark, Frame, begin, again, false_assertion, Config, at, failed, test, first_step, step_of, step, after, start}
use Rattle.theorems.specs.Unchanged.{dividesᶠ, Undivided, always_defined, always_definedᶠ}
use Rattle.theorems.specs.Traces.{no_zero_divisor}

module _ (𝔸 : Arithmetic) where
  -- ---- the steps before P5

  unfoldable pub test₀ : ℕ → Formula → Formula → Expr → Stmt → ℤ → ℕ → List Frame → State → Config
  test₀ m b i v x v₀ n k s =
      cond (holds 𝔸 s b)
      (at (begin x ∷ again m b i v x v₀ (suc n) ∷ k) (set_mark s m (value 𝔸 s v)))
      (at k s)

  unfoldable pub first_step₀ : Stmt → List Frame → State → Config
  first_step₀ skip k s = at k s
  first_step₀ (assign v e) k s = at k (set_var s v (value 𝔸 s e))
  first_step₀ (seq a b) k s = first_step₀ a (begin b ∷ k) s
  first_step₀ (branch b x y) k s = at (begin (cond (holds 𝔸 s b) x y) ∷ k) s
  first_step₀ (loop m b i v x) k s = test₀ m b i v x (value 𝔸 s v) zero k s
  first_step₀ (assert a) k s = cond (holds 𝔸 s a) (at k s) (failed false_assertion (assert a))

  unfoldable pub step₀ : Config → Config
  step₀ (at [] s) = at [] s
  step₀ (at (begin x ∷ k) s) = first_step₀ x k s
  step₀ (at (again m b i v x v₀ n ∷ k) s) = test₀ m b i v x v₀ n k s
  step₀ (failed c x) = failed c x

  unfoldable pub after₀ : ℕ → Config → Config
  after₀ zero x = x
  after₀ (suc n) x = after₀ n (step₀ x)

  -- ---- nothing that is still to do divides

  abbrev UndividedFrames : List Frame → Type 0
  UndividedFrames [] = Unit {0}
  UndividedFrames (begin x ∷ k) = Undivided x × UndividedFrames k
  UndividedFrames (again m b i v x v₀ n ∷ k) = (dividesᶠ b ≡ false) × Undivided x × UndividedFrames k

  abbrev UndividedAt : Config → Type 0
  UndividedAt (at k s) = UndividedFrames k
  UndividedAt (failed c x) = Unit {0}

  -- ---- a step keeps that, and is the former one

  kept_test : (m : ℕ) (b i : Formula) (v : Expr) (x : Stmt) (v₀ : ℤ) (n : ℕ) (k : List Frame) (s : State) → dividesᶠ b ≡ false → Undivided x
      → UndividedFrames k → UndividedAt (test₀ m b i v x v₀ n k s)
  unfolding test₀
  kept_test m b i v x v₀ n k s g u w = one (holds 𝔸 s b)
    where
      one : (t : Bool) → UndividedAt (cond t (at (begin x ∷ again m b i v x v₀ (suc n) ∷ k) (set_mark s m (value 𝔸 s v))) (at k s))
      one true = (u, (g, u, w))
      one false = w

  kept_first : (x : Stmt) (k : List Frame) (s : State) → Undivided x → UndividedFrames k → UndividedAt (first_step₀ x k s)
  unfolding first_step₀
  kept_first skip k s u w = w
  kept_first (assign v e) k s u w = w
  kept_first (seq a b) k s u w = kept_first a (begin b ∷ k) s u.0 (u.1, w)
  kept_first (branch b x y) k s u w = (one (holds 𝔸 s b), w)
    where
      one : (t : Bool) → Undivided (cond t x y)
      one true = u.1
      one false = u.2
  kept_first (loop m b i v x) k s u w = kept_test m b i v x (value 𝔸 s v) zero k s u.0 u.1 w
  kept_first (assert a) k s u w = one (holds 𝔸 s a)
    where
      one : (t : Bool) → UndividedAt (cond t (at k s) (failed false_assertion (assert a)))
      one true = w
      one false = tt

  kept_step : (c : Config) → UndividedAt c → UndividedAt (step₀ c)
  unfolding step₀
  kept_step (at [] s) w = tt
  kept_step (at (begin x ∷ k) s) w = kept_first x k s w.0 w.1
  kept_step (at (again m b i v x v₀ n ∷ k) s) w = kept_test m b i v x v₀ n k s w.0 w.1 w.2
  kept_step (failed c x) w = tt

  same_test : (m : ℕ) (b i : Formula) (v : Expr) (x : Stmt) (v₀ : ℤ) (n : ℕ) (k : List Frame) (s : State) → dividesᶠ b ≡ false
      → test 𝔸 m b i v x v₀ n k s ≡ test₀ m b i v x v₀ n k s
  unfolding test test₀
  same_test m b i v x v₀ n k s g = no_zero_divisor _ _ (always_definedᶠ 𝔸 s b g)

  same_first : (x : Stmt) (k : List Frame) (s : State) → Undivided x → first_step 𝔸 x k s ≡ first_step₀ x k s
  unfolding first_step first_step₀
  same_first skip k s u = refl
  same_first (assign v e) k s u = no_zero_divisor _ _ (always_defined 𝔸 s e u)
  same_first (seq a b) k s u = same_first a (begin b ∷ k) s u.0
  same_first (branch b x y) k s u = no_zero_divisor _ _ (always_definedᶠ 𝔸 s b u.0)
  same_first (loop m b i v x) k s u = same_test m b i v x (value 𝔸 s v) zero k s u.0
  same_first (assert a) k s u = refl

  same_step : (c : Config) → UndividedAt c → step 𝔸 c ≡ step₀ c
  unfolding step step_of step₀
  same_step (at [] s) w = refl
  same_step (at (begin x ∷ k) s) w = same_first x k s w.0
  same_step (at (again m b i v x v₀ n ∷ k) s) w = same_test m b i v x v₀ n k s w.0
  same_step (failed c x) w = refl

  same_after : (n : ℕ) (c : Config) → UndividedAt c → after 𝔸 n c ≡ after₀ n c
  unfolding after after₀
  same_after zero c w = refl
  same_after (suc n) c w = ap (λ x. after 𝔸 n x) (same_step c w) ∙ same_after n (step₀ c) (kept_step c w)

  pub same_runs : (t : Tree) (s : State) (n : ℕ) → Undivided t.body → after 𝔸 n (start t s) ≡ after₀ n (start t s)
  same_runs t s n u = same_after n (start t s) (u, tt)
