-- The two laws of states that the rules rest on: replacing a variable is setting it, and setting a mark that is not read
-- changes nothing. Assumes nothing.
use Rattle.std.specs.Prelude.{ℕ, ◌≡◌, refl, Bool, true, false, cond, ℤ, T, eqb}
use Rattle.std.proofs.Common.{ap, ap₂}
use Rattle.std.proofs.Math.Bool as Bool
use Rattle.script.specs.Syntax.{Expr, const, var, mark, arith, neg, choose, Formula, truth, cmp, not, join}
use Rattle.script.specs.Meaning.{Arithmetic, State, value, holds, relate, connect}
use Rattle.script.specs.Run.{put, set_var, set_mark}
use Rattle.script.specs.Conditions.{subst_expr, subst_formula}
use Rattle.theorems.specs.Scoping.{MarkFree, MarkFreeᶠ}

ap₃ : {b b' : Bool} {x x' y y' : ℤ} → b ≡ b' → x ≡ x' → y ≡ y' → cond b x y ≡ cond b' x' y'
ap₃ p q r = λ i. cond (p i) (q i) (r i)

module _ (𝔸 : Arithmetic) where
  -- ---- replacing a variable is setting it
  value_cond : (s : State) (b : Bool) (e x : Expr) → value 𝔸 s (cond b e x) ≡ cond b (value 𝔸 s e) (value 𝔸 s x)
  value_cond s true e x = refl
  value_cond s false e x = refl

  module _ (s : State) (v : ℕ) (e : Expr) where
    mutual
      unfolding value holds subst_expr subst_formula

      pub substᵉ : (x : Expr) → value 𝔸 s (subst_expr v e x) ≡ value 𝔸 (set_var s v (value 𝔸 s e)) x
      substᵉ (const z) = refl
      substᵉ (var w) = value_cond s (eqb w v) e (var w)
      substᵉ (mark k) = refl
      substᵉ (arith o a b) = ap₂ (𝔸.op o) (substᵉ a) (substᵉ b)
      substᵉ (neg a) = ap 𝔸.neg (substᵉ a)
      substᵉ (choose f a b) = ap₃ (substᶠ f) (substᵉ a) (substᵉ b)

      pub substᶠ : (f : Formula) → holds 𝔸 s (subst_formula v e f) ≡ holds 𝔸 (set_var s v (value 𝔸 s e)) f
      substᶠ (truth b) = refl
      substᶠ (cmp r a b) = ap₂ (relate r) (substᵉ a) (substᵉ b)
      substᶠ (not f) = ap Bool.not (substᶠ f)
      substᶠ (join c f g) = ap₂ (connect c) (substᶠ f) (substᶠ g)

  -- ---- setting a mark that is not mentioned changes nothing
  other : (f : ℕ → ℤ) (m k : ℕ) (z : ℤ) → T (Bool.not (eqb k m)) → put f m z k ≡ f k
  other f m k z t = no (eqb k m) t
    where
      no : (b : Bool) → T (Bool.not b) → cond b z (f k) ≡ f k
      no true t = absurd t
      no false t = refl

  module _ (s : State) (m : ℕ) (z : ℤ) where
    mutual
      unfolding value holds

      pub mark_free : (x : Expr) → MarkFree m x → value 𝔸 (set_mark s m z) x ≡ value 𝔸 s x
      mark_free (const c) u = refl
      mark_free (var w) u = refl
      mark_free (mark k) u = other s.mark m k z u
      mark_free (arith o a b) u = ap₂ (𝔸.op o) (mark_free a u.0) (mark_free b u.1)
      mark_free (neg a) u = ap 𝔸.neg (mark_free a u)
      mark_free (choose f a b) u = ap₃ (mark_freeᶠ f u.0) (mark_free a u.1) (mark_free b u.2)

      pub mark_freeᶠ : (f : Formula) → MarkFreeᶠ m f → holds 𝔸 (set_mark s m z) f ≡ holds 𝔸 s f
      mark_freeᶠ (truth b) u = refl
      mark_freeᶠ (cmp r a b) u = ap₂ (relate r) (mark_free a u.0) (mark_free b u.1)
      mark_freeᶠ (not f) u = ap Bool.not (mark_freeᶠ f u)
      mark_freeᶠ (join c f g) u = ap₂ (connect c) (mark_freeᶠ f u.0) (mark_freeᶠ g u.1)
