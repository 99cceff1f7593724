-- A run that is good all the way, as a chain of steps; that such a chain which leads to the end is good at every moment;
-- and what it means that a statement terminates. Assumes nothing.
use Prim.Native.Nat.{ℕ, zero, suc, ◌≤◌}
use Rattle.std.specs.Prelude.{◌≡◌, List, [], Bool, true, T}
use Rattle.std.proofs.Math.Path.{refl, subst⁻¹}
use Rattle.std.proofs.Common.{ap}
use Rattle.script.specs.Syntax.{Formula, Stmt}
use Rattle.script.specs.Meaning.{Arithmetic, State, holds}
use Rattle.script.specs.Run.{Frame, Config, at, unless_zero, step_of, step, after, Good}
use Rattle.theorems.specs.Scoping.{LoopsBelow}
use Rattle.theorems.specs.Truths.{is_true}

-- where no zero divisor is worked out, the run goes on
pub no_zero_divisor : {d : Bool} (x : Stmt) (c : Config) → d ≡ true → unless_zero d x c ≡ c
no_zero_divisor x c e = ap (λ d. unless_zero d x c) e

module _ (𝔸 : Arithmetic) where
  pub data Trace : Config → Config → Type 0 where
    stay : {x : Config} → Trace x x
    go : {x y : Config} → Good x → Trace (step 𝔸 x) y → Trace x y

  pub join_traces : {x y z : Config} → Trace x y → Trace y z → Trace x z
  join_traces stay q = q
  join_traces (go g p) q = go g (join_traces p q)

  -- from x, begun at s, the run comes to k with q met, and has changed no mark but those of the loops of t
  pub record Terminates (k : List Frame) (x : Config) (s : State) (q : Formula) (t : Stmt) : Type 0 where
    pub end : State
    pub meets : T (holds 𝔸 end q)
    pub leads : Trace x (at k end)
    pub kept : (r : ℕ) → LoopsBelow r t → (m : ℕ) → r ≤ m → end.mark m ≡ s.mark m

  pub no_zero_terminates : {k : List Frame} {x : Config} {s : State} {q : Formula} {t : Stmt} (due : Stmt) (d : Bool) → T d
      → Terminates k x s q t → Terminates k (unless_zero d due x) s q t
  no_zero_terminates {k} {x} {s} {q} {t} due d h r = subst⁻¹ (λ (c : Config). Terminates k c s q t) (no_zero_divisor due x (is_true d h)) r

  -- ---- a run that leads to its end is good at every moment

  ended : (n : ℕ) (e : State) → after 𝔸 n (at [] e) ≡ at [] e
  unfolding after step step_of
  ended zero e = refl
  ended (suc n) e = ended n e

  pub good_after : {x y : Config} → Trace x y → (e : State) → y ≡ at [] e → (n : ℕ) → Good (after 𝔸 n x)
  unfolding after
  good_after stay e p n = subst⁻¹ (λ (w : Config). Good (after 𝔸 n w)) p (subst⁻¹ Good (ended n e) tt)
  good_after (go g l) e p zero = g
  good_after (go g l) e p (suc n) = good_after l e p n

  pub count : {x y : Config} → Trace x y → (n : ℕ) × (after 𝔸 n x ≡ y)
  unfolding after
  count stay = (zero, refl)
  count (go g l) = let r = count l in (suc r.0, r.1)
