-- How many steps a run takes at most (`most_steps`), where every loop is arrived at with a variant of at most `top`. `run_bounded`: where at
-- every moment the passes of each loop that the run is in are bounded by its variant at the arrival (`PassesBounded`) and these
-- variants are at most `top` (`ArrivedWithin`), the run has ended or failed after so many steps.
-- Argument: what is still to do has a potential, that of a loop to test again counting the passes that are left, and each step
-- makes it less (`falls`). Assumes nothing.
use Prim.Native.Nat.{ℕ, zero, suc, ◌+◌, ◌*◌, ◌-◌, ◌≤◌, ◌<◌, max}
use Rattle.std.specs.Prelude.{◌≡◌, Bool, cond, ℤ, pos, negsuc}
use Rattle.std.proofs.Math.Path.{refl}
use Rattle.std.proofs.Common.{subst}
use Rattle.std.proofs.Math.Bool.{true, false}
use mathlib.Core.List.{List, [], ◌∷◌}
use native.Mathlib.Omega.{arith as linear}
use Rattle.script.specs.Syntax.{Expr, Formula, Stmt, skip, assign, seq, branch, loop, assert}
use Rattle.script.specs.Meaning.{Arithmetic, State, value, holds, defined, definedᶠ}
use Rattle.script.specs.Run.{set_var, Frame, begin, again, Cause, Config, at, failed, unless_zero, test, first_step, step_of, step, after, Bounded, PassesBounded}
use Rattle.stepping.specs.Within.{still, failed_rests, end_rests}

-- ---- the bound

module _ (top : ℕ) where
  -- a loop's guard is tested once more than its body is begun, which is at most top + 1 times
  unfoldable pub most_steps : Stmt → ℕ
  most_steps skip = 1
  most_steps (assign v e) = 1
  most_steps (seq a b) = most_steps a + most_steps b
  most_steps (branch b x y) = suc (max (most_steps x) (most_steps y))
  most_steps (loop m b i v x) = suc (suc top * suc (most_steps x))
  most_steps (assert a) = 1

  -- a variant at an arrival is at most top
  abbrev pub AtMostTop : ℤ → Type 0
  AtMostTop (pos v) = v ≤ top
  AtMostTop (negsuc v) = Unit {0}

  -- of each loop that the run is in
  abbrev pub ArrivedWithin : List Frame → Type 0
  ArrivedWithin [] = Unit {0}
  ArrivedWithin (begin x ∷ k) = ArrivedWithin k
  ArrivedWithin (again m b i v x v₀ n ∷ k) = AtMostTop v₀ × ArrivedWithin k

  -- passes are bounded, and variants at arrivals are at most top; of a failed run nothing is asked
  abbrev pub Fine : Config → Type 0
  Fine (at k s) = PassesBounded k × ArrivedWithin k
  Fine (failed c x) = Unit {0}

  -- ---- what is still to do

  unfoldable pub potential : List Frame → ℕ
  potential [] = 0
  potential (begin x ∷ k) = most_steps x + potential k
  potential (again m b i v x v₀ n ∷ k) = suc ((suc top - n) * suc (most_steps x)) + potential k

  some_steps : (x : Stmt) → 1 ≤ most_steps x
  unfolding most_steps
  some_steps skip = omega linear
  some_steps (assign v e) = omega linear
  some_steps (seq a b) = let p = some_steps a in omega linear
  some_steps (branch b x y) = omega linear
  some_steps (loop m b i v x) = omega linear
  some_steps (assert a) = omega linear

  pub spent_potential : (k : List Frame) → potential k ≤ 0 → k ≡ []
  unfolding potential
  spent_potential [] h = refl
  spent_potential (begin x ∷ k) h = let p = some_steps x in absurd (omega linear)
  spent_potential (again m b i v x v₀ n ∷ k) h = absurd (omega linear)

  passes_left : (v₀ : ℤ) (n : ℕ) → Bounded v₀ (suc n) → AtMostTop v₀ → suc n ≤ suc top
  passes_left (pos v) n h l = omega linear
  passes_left (negsuc v) n h l = absurd (omega linear)

  -- the run fails, or goes on with less to do than p, if it is fine there
  pub data Falls (p : ℕ) : Config → Type 0 where
    less : {k : List Frame} {s : State} → (Fine (at k s) → potential k < p) → Falls p (at k s)
    fails : {c : Cause} {x : Stmt} → Falls p (failed c x)

  unless_falls : {p : ℕ} (b : Bool) (x : Stmt) {g : Config} → Falls p g → Falls p (unless_zero b x g)
  unless_falls true x h = h
  unless_falls false x h = fails

  less_left : {p : ℕ} (k : List Frame) (s : State) → potential k < p → Falls p (at k s)
  less_left k s h = less (λ f. h)

  either_falls : {p : ℕ} (b : Bool) {g h : Config} → Falls p g → Falls p h → Falls p (cond b g h)
  either_falls true x y = x
  either_falls false x y = y

  module _ (𝔸 : Arithmetic) (s : State) where
    -- with c passes left, where k is what is to do after the loop
    pass_falls : (p c B K : ℕ) → suc (suc c * suc B) + K ≤ p → B + (suc (c * suc B) + K) < p
    pass_falls p c B K h = omega linear

    test_falls : (m : ℕ) (b i : Formula) (v : Expr) (x : Stmt) (v₀ : ℤ) (n : ℕ) (k : List Frame) (p : ℕ)
        → suc ((suc top - n) * suc (most_steps x)) + potential k ≤ p → Falls p (test 𝔸 m b i v x v₀ n k s)
    unfolding test potential
    test_falls m b i v x v₀ n k p h =
        unless_falls (definedᶠ 𝔸 s b) (loop m b i v x)
        (either_falls (holds 𝔸 s b)
        (less (λ f.
        let left = passes_left v₀ n f.0.0 f.1.0 in
        let one : suc top - n ≡ suc (suc top - suc n) = omega linear in
        pass_falls p (suc top - suc n) (most_steps x) (potential k)
        (subst (λ c. suc (c * suc (most_steps x)) + potential k ≤ p) one h)))
        (less_left k s (omega linear)))

    first_falls : (x : Stmt) (k : List Frame) (p : ℕ) → most_steps x + potential k ≤ p → Falls p (first_step 𝔸 x k s)
    unfolding first_step most_steps potential
    first_falls skip k p h = less_left k s (omega linear)
    first_falls (assign v e) k p h =
        unless_falls (defined 𝔸 s e) (assign v e) (less_left k (set_var s v (value 𝔸 s e)) (omega linear))
    first_falls (seq a b) k p h = first_falls a (begin b ∷ k) p (omega linear)
    first_falls (branch b x y) k p h =
        unless_falls (definedᶠ 𝔸 s b) (branch b x y) (less_left (begin (cond (holds 𝔸 s b) x y) ∷ k) s (chosen (holds 𝔸 s b)))
      where
        chosen : (c : Bool) → most_steps (cond c x y) + potential k < p
        chosen true = omega linear
        chosen false = omega linear
    first_falls (loop m b i v x) k p h = test_falls m b i v x (value 𝔸 s v) zero k p (rw (let e : suc top - 0 ≡ suc top = omega linear in e) h)
    first_falls (assert a) k p h = either_falls (holds 𝔸 s a) (less_left k s (omega linear)) fails

    pub falls : (f : Frame) (k : List Frame) → Falls (potential (f ∷ k)) (step_of 𝔸 (f ∷ k) s)
    unfolding step_of potential
    falls (begin x) k = first_falls x k (most_steps x + potential k) (omega linear)
    falls (again m b i v x v₀ n) k =
        test_falls m b i v x v₀ n k (suc ((suc top - n) * suc (most_steps x)) + potential k) (omega linear)

-- ---- a run

-- it has ended or failed
pub data Over : Config → Type 0 where
  has_ended : {s : State} → Over (at [] s)
  has_failed : {c : Cause} {x : Stmt} → Over (failed c x)

module _ (𝔸 : Arithmetic) (top : ℕ) where
  abbrev pub AlwaysFine : Config → Type 0
  AlwaysFine g = (m : ℕ) → Fine top (after 𝔸 m g)

  stays_over : (n : ℕ) {g : Config} → Over g → Over (after 𝔸 n g)
  stays_over n (has_ended {s}) = rw (still 𝔸 n (at [] s) (end_rests 𝔸 s)) has_ended
  stays_over n (has_failed {c} {x}) = rw (still 𝔸 n (failed c x) (failed_rests 𝔸 c x)) has_failed

  no_frames : (k : List Frame) (s : State) → k ≡ [] → Over (at k s)
  no_frames [] s e = has_ended
  no_frames (f ∷ k) s e = absurd (let z : ◌≡◌ {A = ℕ} 0 1 = cc in omega linear)

  goes_down : (n p : ℕ) → p ≤ suc n → ((l : List Frame) (r : State) → AlwaysFine (at l r) → potential top l ≤ n → Over (after 𝔸 n (at l r)))
      → {g : Config} → Falls top p g → AlwaysFine g → Over (after 𝔸 n g)
  unfolding after
  goes_down n p l rec (less {k} {s} h) fine = let q = h (fine 0) in rec k s fine (omega linear)
  goes_down n p l rec fails fine = stays_over n has_failed

  pub run_bounded : (n : ℕ) (k : List Frame) (s : State) → AlwaysFine (at k s) → potential top k ≤ n → Over (after 𝔸 n (at k s))
  unfolding after step
  run_bounded zero k s fine h = no_frames k s (spent_potential top k h)
  run_bounded (suc n) [] s fine h = stays_over (suc n) has_ended
  run_bounded (suc n) (f ∷ k) s fine h =
      goes_down n (potential top (f ∷ k)) h (λ l r q e. run_bounded n l r q e) (falls top 𝔸 s f k) (λ m. fine (suc m))
