-- Where a run is within a limit of steps: it has ended (`EndsWithin`), failed (`FailsWithin`) or waits (`Waits`), and these exclude
-- one another; what the number of an answer says of that (`Answers`). A run stays where it ended or failed (`later`), and is
-- determined (`one_rest`). Assumes nothing.
use Prim.Native.Nat.{ℕ, zero, suc, ◌+◌, ◌-◌, ◌≤◌}
use Rattle.std.specs.Prelude.{◌≡◌, ◌↔◌, ◌≢◌, List, []}
use Rattle.std.proofs.Math.Path.{refl, ap}
use Rattle.std.proofs.Common.{sym, ◌∙◌}
use native.Mathlib.Omega.{arith as linear}
use Rattle.script.specs.Syntax.{Stmt}
use Rattle.script.specs.Meaning.{Arithmetic, State}
use Rattle.script.specs.Run.{Frame, Cause, false_assertion, zero_divisor, Config, at, failed, step_of, step, after}

-- ---- where a run is within a limit

module _ (𝔸 : Arithmetic) (x : Config) (limit : ℕ) where
  -- the run from x ends within so many steps
  pub record EndsWithin : Type 0 where
    pub steps : ℕ
    pub allowed : steps ≤ limit
    pub end : State
    pub ends : after 𝔸 steps x ≡ at [] end

  -- it fails for a cause within so many steps
  pub record FailsWithin (c : Cause) : Type 0 where
    pub statement : Stmt
    pub fails : after 𝔸 limit x ≡ failed c statement

  -- after so many steps there is something to do
  pub record Waits : Type 0 where
    pub frames : List Frame
    pub state : State
    pub comes : after 𝔸 limit x ≡ at frames state
    pub some : frames ≢ []

  -- what the number of an answer says of the run
  pub record Answers (number : ℕ) : Type 0 where
    pub ended : (number ≡ 0) ↔ EndsWithin
    pub denied : (number ≡ 52) ↔ FailsWithin false_assertion
    pub divided : (number ≡ 53) ↔ FailsWithin zero_divisor
    pub spent : (number ≡ 54) ↔ Waits

-- ---- where a run stays

module _ (𝔸 : Arithmetic) where
  pub after_sum : (n m : ℕ) (x : Config) → after 𝔸 (n + m) x ≡ after 𝔸 m (after 𝔸 n x)
  unfolding after
  after_sum zero m x = ap (λ j. after 𝔸 j x) (let e : 0 + m ≡ m = omega linear in e)
  after_sum (suc n) m x =
      ap (λ j. after 𝔸 j x) (let e : suc n + m ≡ suc (n + m) = omega linear in e) ∙ after_sum n m (step 𝔸 x)

  -- a moment later
  pub next_moment : (n : ℕ) (x : Config) {y : Config} → after 𝔸 n x ≡ y → after 𝔸 (suc n) x ≡ step 𝔸 y
  unfolding after
  next_moment zero x e = ap (step 𝔸) e
  next_moment (suc n) x e = next_moment n (step 𝔸 x) e

  -- where nothing moves any more
  abbrev Rests : Config → Type 0
  Rests y = step 𝔸 y ≡ y

  pub still : (n : ℕ) (y : Config) → Rests y → after 𝔸 n y ≡ y
  unfolding after
  still zero y h = refl
  still (suc n) y h = ap (after 𝔸 n) h ∙ still n y h

  pub later : (n m : ℕ) → n ≤ m → (x : Config) {y : Config} → after 𝔸 n x ≡ y → Rests y → after 𝔸 m x ≡ y
  later n m l x {y} h rests =
      ap (λ (j : ℕ). after 𝔸 j x) (let e : m ≡ n + (m - n) = omega linear in e) ∙ after_sum n (m - n) x ∙ ap (after 𝔸 (m - n)) h
      ∙ still (m - n) y rests

  pub end_rests : (s : State) → Rests (at [] s)
  unfolding step step_of
  end_rests s = refl

  pub failed_rests : (c : Cause) (y : Stmt) → Rests (failed c y)
  unfolding step
  failed_rests c y = refl

  -- a run rests in one place
  pub one_rest : (n m : ℕ) (x : Config) {y z : Config} → after 𝔸 n x ≡ y → Rests y → after 𝔸 m x ≡ z → Rests z → y ≡ z
  one_rest n m x h r k q = sym (later n (n + m) (omega linear) x h r) ∙ later m (n + m) (omega linear) x k q

pub clash : {X : Type 0} {k : List Frame} {s : State} {c : Cause} {y : Stmt} → at k s ≡ failed c y → X
clash e = absurd (let z : ◌≡◌ {A = ℕ} 0 1 = cc in omega linear)

pub differ : {X : Type 0} {x y : Stmt} → failed zero_divisor x ≡ failed false_assertion y → X
differ e = absurd (let z : ◌≡◌ {A = ℕ} 0 1 = cc in omega linear)

pub same_frames : {k l : List Frame} {r s : State} → at k r ≡ at l s → k ≡ l
same_frames e = cc

pub same_state : {k l : List Frame} {r s : State} → at k r ≡ at l s → r ≡ s
same_state e = cc

-- ---- these exclude one another

module _ (𝔸 : Arithmetic) (x : Config) (limit : ℕ) where
  pub not_failed : {X : Type 0} {c : Cause} {y : Stmt} → EndsWithin 𝔸 x limit → after 𝔸 limit x ≡ failed c y → X
  not_failed {X} {c} {y} r e =
      clash (one_rest 𝔸 r.steps limit x r.ends (end_rests 𝔸 r.end) e (failed_rests 𝔸 c y))

  pub not_waiting : {X : Type 0} → EndsWithin 𝔸 x limit → Waits 𝔸 x limit → X
  not_waiting r w =
      let h : at w.frames w.state ≡ at [] r.end =
      sym w.comes ∙ later 𝔸 r.steps limit r.allowed x r.ends (end_rests 𝔸 r.end) in
      absurd (w.some (cc))

  pub not_both : {X : Type 0} {c : Cause} {y : Stmt} → Waits 𝔸 x limit → after 𝔸 limit x ≡ failed c y → X
  not_both w e = clash (sym w.comes ∙ e)
