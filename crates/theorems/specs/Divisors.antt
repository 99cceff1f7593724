-- D of 02, P5, for any arithmetic: it is true in a state exactly where no zero divisor is worked out there (`divisors_say`,
-- `divisors_sayᶠ`); what W and the guard condition then tell of a run (`expr_worked`, `formula_worked`, `guard_worked`).
-- By induction on the expression, with the laws of joined items first. That D's names are those of what it speaks of is in
-- `DivisorNames`, and where it stands in `Unchanged`. Assumes nothing.
use Rattle.std.specs.Prelude.{ℕ, ◌≡◌, Bool, true, false, cond, ◌&&◌, ◌||◌, T}
use Rattle.std.proofs.Math.Path.{refl, ap}
use Rattle.std.proofs.Common.{sym, ap₂, ◌∙◌, subst}
use Rattle.std.proofs.Math.Bool as Bool
use Rattle.std.proofs.Math.Option.{Option, none, some}
use Rattle.script.specs.declared.Operator.{Operator}
use Rattle.script.specs.declared.Operator.TheVariants.{Plus, Minus, Times, Div, Mod}
use Rattle.script.specs.Syntax.{Expr, const, var, mark, arith, neg, choose, Formula, truth, cmp, not, join}
use Rattle.script.specs.Meaning.{Arithmetic, State, value, holds, takes, defined, definedᶠ}
use Rattle.script.specs.Conditions.{◌joined◌, behind, divisor, divisors, divisorsᶠ, ◌and◌, guard}
use Rattle.script.specs.Promise.{AllValid}
use Rattle.theorems.specs.Truths.{both, hold_then}

and_true : (b : Bool) → b ≡ (b && true)
and_true true = refl
and_true false = refl

implies_true : (b : Bool) → true ≡ (Bool.not b || true)
implies_true true = refl
implies_true false = refl

-- a choose works out the branch taken
taken : (p t x y : Bool) → ((p && (Bool.not t || x)) && (Bool.not (Bool.not t) || y)) ≡ (p && cond t x y)
taken true true x y = sym (and_true x)
taken true false x y = refl
taken false t x y = refl

module _ (𝔸 : Arithmetic) (s : State) where
  -- what items say: nothing where there is none
  abbrev pub says : Option Formula → Bool
  says none = true
  says (some f) = holds 𝔸 s f

  joined_says : (x y : Option Formula) → says (x joined y) ≡ (says x && says y)
  unfolding holds
  joined_says none y = refl
  joined_says (some f) none = and_true (holds 𝔸 s f)
  joined_says (some f) (some g) = refl

  behind_says : (f : Formula) (x : Option Formula) → says (behind f x) ≡ (Bool.not (holds 𝔸 s f) || says x)
  unfolding holds
  behind_says f none = implies_true (holds 𝔸 s f)
  behind_says f (some g) = refl

  divisor_says : (o : Operator) (d : Expr) → says (divisor o d) ≡ takes o (value 𝔸 s d)
  unfolding holds value
  divisor_says Plus d = refl
  divisor_says Minus d = refl
  divisor_says Times d = refl
  divisor_says Div d = refl
  divisor_says Mod d = refl

  -- two items that say p and q say both
  two_say : (x y : Option Formula) {p q : Bool} → says x ≡ p → says y ≡ q → says (x joined y) ≡ (p && q)
  two_say x y h k = joined_says x y ∙ ap₂ ◌&&◌ h k

  choose_says : (f : Formula) (p x y : Option Formula) {d a b : Bool} → says p ≡ d → says x ≡ a → says y ≡ b
      → says (p joined behind f x joined behind (not f) y) ≡ (d && cond (holds 𝔸 s f) a b)
  unfolding holds
  choose_says f p x y {d} {a} {b} h k l =
      two_say (p joined behind f x) (behind (not f) y)
      (two_say p (behind f x) h (behind_says f x ∙ ap (λ z. Bool.not (holds 𝔸 s f) || z) k))
      (behind_says (not f) y ∙ ap (λ z. Bool.not (Bool.not (holds 𝔸 s f)) || z) l)
      ∙ taken d (holds 𝔸 s f) a b

  mutual
    unfolding divisors divisorsᶠ defined definedᶠ

    pub divisors_say : (e : Expr) → says (divisors e) ≡ defined 𝔸 s e
    divisors_say (const z) = refl
    divisors_say (var v) = refl
    divisors_say (mark m) = refl
    divisors_say (arith o a b) =
        two_say (divisors a joined divisors b) (divisor o b)
        (two_say (divisors a) (divisors b) (divisors_say a) (divisors_say b))
        (divisor_says o b)
    divisors_say (neg a) = divisors_say a
    divisors_say (choose f a b) =
        choose_says f (divisorsᶠ f) (divisors a) (divisors b) (divisors_sayᶠ f) (divisors_say a) (divisors_say b)

    pub divisors_sayᶠ : (f : Formula) → says (divisorsᶠ f) ≡ definedᶠ 𝔸 s f
    divisors_sayᶠ (truth b) = refl
    divisors_sayᶠ (cmp r a b) = two_say (divisors a) (divisors b) (divisors_say a) (divisors_say b)
    divisors_sayᶠ (not f) = divisors_sayᶠ f
    divisors_sayᶠ (join c f g) = two_say (divisorsᶠ f) (divisorsᶠ g) (divisors_sayᶠ f) (divisors_sayᶠ g)

  -- D and the old formula is true exactly where both are
  pub and_says : (x : Option Formula) (q : Formula) → holds 𝔸 s (x and q) ≡ (says x && holds 𝔸 s q)
  unfolding holds
  and_says none q = refl
  and_says (some d) q = refl

  and_holds : (x : Option Formula) (q : Formula) → T (holds 𝔸 s (x and q)) → T (says x) × T (holds 𝔸 s q)
  and_holds x q h = both (says x) (holds 𝔸 s q) (subst T (and_says x q) h)

  pub expr_worked : (e : Expr) (q : Formula) → T (holds 𝔸 s (divisors e and q)) → T (defined 𝔸 s e) × T (holds 𝔸 s q)
  expr_worked e q h = let k = and_holds (divisors e) q h in (subst T (divisors_say e) k.0, k.1)

  pub formula_worked : (f q : Formula) → T (holds 𝔸 s (divisorsᶠ f and q)) → T (definedᶠ 𝔸 s f) × T (holds 𝔸 s q)
  formula_worked f q h = let k = and_holds (divisorsᶠ f) q h in (subst T (divisors_sayᶠ f) k.0, k.1)

  guard_says : (m depth : ℕ) (i : Formula) (x : Option Formula) → AllValid 𝔸 (guard m depth i x) → T (holds 𝔸 s i) → T (says x)
  guard_says m depth i none all h = tt
  guard_says m depth i (some d) all h = hold_then 𝔸 s i d (all.0 s) h

  -- where the guard condition of a loop is valid, its guard is worked out wherever the invariant is true
  pub guard_worked : (m depth : ℕ) (i b : Formula) → AllValid 𝔸 (guard m depth i (divisorsᶠ b)) → T (holds 𝔸 s i) → T (definedᶠ 𝔸 s b)
  guard_worked m depth i b all h = subst T (divisors_sayᶠ b) (guard_says m depth i (divisorsᶠ b) all h)
