-- What it is to work out a div or mod by zero, as 02, P5 words it (`Zero`, `Zeroᶠ`), for any arithmetic: a divisor whose value
-- is 0, in a part that is worked out. The test of a run says exactly that (`zero_iff`, `zero_iffᶠ`), so D is true exactly
-- where none is (`divisors_exact`, `divisors_exactᶠ`). Both ways by induction. Assumes nothing.
use Rattle.std.specs.Prelude.{◌≡◌, refl, ◌↔◌, ◌⊎◌, Bool, true, false, cond, ◌&&◌, ℤ, pos, negsuc, T, eqb}
use Rattle.std.proofs.Common.{sym, ap, ◌∙◌, inl, inr, ⊎_elim, eqb-true}
use Rattle.std.proofs.lemmas.Bool.{false≢true}
use Rattle.std.proofs.Math.Bool as Bool
use Rattle.script.specs.declared.Operator.{Operator}
use Rattle.script.specs.declared.Operator.TheVariants.{Plus, Minus, Times, Div, Mod}
use Rattle.script.specs.declared.Relation.{Relation}
use Rattle.script.specs.declared.Connective.{Connective}
use Rattle.script.specs.Syntax.{Expr, const, var, mark, arith, neg, choose, Formula, truth, cmp, not, join}
use Rattle.script.specs.Meaning.{Arithmetic, State, value, holds, eqZ, takes, defined, definedᶠ}
use Rattle.script.specs.Conditions.{divisors, divisorsᶠ}
use Rattle.theorems.specs.Divisors.{says, divisors_say, divisors_sayᶠ}

pub data Division : Operator → Type 0 where
  by_div : Division Div
  by_mod : Division Mod

-- ---- tests

and_false : (p q : Bool) → (p && q) ≡ false → (p ≡ false) ⊎ (q ≡ false)
and_false true q h = inr h
and_false false q h = inl refl

left_false : {p : Bool} (q : Bool) → p ≡ false → (p && q) ≡ false
left_false q h = ap (λ x. x && q) h

right_false : (p : Bool) {q : Bool} → q ≡ false → (p && q) ≡ false
right_false true h = h
right_false false h = refl

true_iff : (p q : Bool) {Z : Type 0} → p ≡ q → (q ≡ false) ↔ Z → T p ↔ (¬ Z)
true_iff p true e h = (λ t z. false≢true (sym (h.1 z)), λ n. rw e tt)
true_iff p false e h = (λ t z. rw e at t, λ n. absurd (n (h.0 refl)))

is_zero : (z : ℤ) → Bool.not (eqZ z (pos 0)) ≡ false → z ≡ pos 0
is_zero (pos n) h = ap pos (eqb-true n 0 (denied_false (eqb n 0) h))
  where
    denied_false : (b : Bool) → Bool.not b ≡ false → b ≡ true
    denied_false true h = refl
    denied_false false h = sym h
is_zero (negsuc n) h = absurd (false≢true (sym h))

refused_zero : (o : Operator) (z : ℤ) → takes o z ≡ false → Division o × (z ≡ pos 0)
refused_zero Plus z h = absurd (false≢true (sym h))
refused_zero Minus z h = absurd (false≢true (sym h))
refused_zero Times z h = absurd (false≢true (sym h))
refused_zero Div z h = (by_div, is_zero z h)
refused_zero Mod z h = (by_mod, is_zero z h)

zero_refused : {o : Operator} {z : ℤ} → Division o → z ≡ pos 0 → takes o z ≡ false
zero_refused by_div e = ap (λ z. takes Div z) e
zero_refused by_mod e = ap (λ z. takes Mod z) e

-- ---- a zero divisor worked out

module _ (𝔸 : Arithmetic) (s : State) where
  mutual
    pub data Zero : Expr → Type 0 where
      -- "a div or mod by zero"
      divided : {o : Operator} {a b : Expr} → Division o → value 𝔸 s b ≡ pos 0 → Zero (arith o a b)
      -- both operands are worked out
      left : {o : Operator} {a b : Expr} → Zero a → Zero (arith o a b)
      right : {o : Operator} {a b : Expr} → Zero b → Zero (arith o a b)
      negated : {a : Expr} → Zero a → Zero (neg a)
      -- "choose works out only the branch taken"
      chosen_by : {f : Formula} {a b : Expr} → Zeroᶠ f → Zero (choose f a b)
      first : {f : Formula} {a b : Expr} → holds 𝔸 s f ≡ true → Zero a → Zero (choose f a b)
      second : {f : Formula} {a b : Expr} → holds 𝔸 s f ≡ false → Zero b → Zero (choose f a b)

    pub data Zeroᶠ : Formula → Type 0 where
      compared : {r : Relation} {a b : Expr} → Zero a → Zeroᶠ (cmp r a b)
      compared_with : {r : Relation} {a b : Expr} → Zero b → Zeroᶠ (cmp r a b)
      denied : {f : Formula} → Zeroᶠ f → Zeroᶠ (not f)
      -- "connectives both sides"
      one_side : {c : Connective} {f g : Formula} → Zeroᶠ f → Zeroᶠ (join c f g)
      other_side : {c : Connective} {f g : Formula} → Zeroᶠ g → Zeroᶠ (join c f g)

  -- ---- the test of a run says so

  in_branch : (f : Formula) (a b : Expr) (t : Bool) → holds 𝔸 s f ≡ t → cond t (defined 𝔸 s a) (defined 𝔸 s b) ≡ false
      → (defined 𝔸 s a ≡ false → Zero a) → (defined 𝔸 s b ≡ false → Zero b) → Zero (choose f a b)
  in_branch f a b true e h x y = first e (x h)
  in_branch f a b false e h x y = second e (y h)

  mutual
    unfolding defined definedᶠ

    found : (e : Expr) → defined 𝔸 s e ≡ false → Zero e
    found (const z) h = absurd (false≢true (sym h))
    found (var v) h = absurd (false≢true (sym h))
    found (mark m) h = absurd (false≢true (sym h))
    found (arith o a b) h =
        ⊎_elim (λ k. ⊎_elim (λ l. left (found a l)) (λ l. right (found b l)) (and_false (defined 𝔸 s a) (defined 𝔸 s b) k))
        (λ k. let d = refused_zero o (value 𝔸 s b) k in divided d.0 d.1)
        (and_false (defined 𝔸 s a && defined 𝔸 s b) (takes o (value 𝔸 s b)) h)
    found (neg a) h = negated (found a h)
    found (choose f a b) h =
        ⊎_elim (λ k. chosen_by (foundᶠ f k)) (λ k. in_branch f a b (holds 𝔸 s f) refl k (λ l. found a l) (λ l. found b l))
        (and_false (definedᶠ 𝔸 s f) (cond (holds 𝔸 s f) (defined 𝔸 s a) (defined 𝔸 s b)) h)

    foundᶠ : (f : Formula) → definedᶠ 𝔸 s f ≡ false → Zeroᶠ f
    foundᶠ (truth b) h = absurd (false≢true (sym h))
    foundᶠ (cmp r a b) h =
        ⊎_elim (λ k. compared (found a k)) (λ k. compared_with (found b k)) (and_false (defined 𝔸 s a) (defined 𝔸 s b) h)
    foundᶠ (not f) h = denied (foundᶠ f h)
    foundᶠ (join c f g) h =
        ⊎_elim (λ k. one_side (foundᶠ f k)) (λ k. other_side (foundᶠ g k)) (and_false (definedᶠ 𝔸 s f) (definedᶠ 𝔸 s g) h)

  mutual
    unfolding defined definedᶠ

    stops : {e : Expr} → Zero e → defined 𝔸 s e ≡ false
    stops (divided {o} {a} {b} d z) = right_false (defined 𝔸 s a && defined 𝔸 s b) (zero_refused d z)
    stops (left {o} {a} {b} z) = left_false (takes o (value 𝔸 s b)) (left_false (defined 𝔸 s b) (stops z))
    stops (right {o} {a} {b} z) = left_false (takes o (value 𝔸 s b)) (right_false (defined 𝔸 s a) (stops z))
    stops (negated z) = stops z
    stops (chosen_by {f} {a} {b} z) = left_false (cond (holds 𝔸 s f) (defined 𝔸 s a) (defined 𝔸 s b)) (stopsᶠ z)
    stops (first {f} {a} {b} h z) = right_false (definedᶠ 𝔸 s f) (ap (λ t. cond t (defined 𝔸 s a) (defined 𝔸 s b)) h ∙ stops z)
    stops (second {f} {a} {b} h z) = right_false (definedᶠ 𝔸 s f) (ap (λ t. cond t (defined 𝔸 s a) (defined 𝔸 s b)) h ∙ stops z)

    stopsᶠ : {f : Formula} → Zeroᶠ f → definedᶠ 𝔸 s f ≡ false
    stopsᶠ (compared {r} {a} {b} z) = left_false (defined 𝔸 s b) (stops z)
    stopsᶠ (compared_with {r} {a} {b} z) = right_false (defined 𝔸 s a) (stops z)
    stopsᶠ (denied z) = stopsᶠ z
    stopsᶠ (one_side {c} {f} {g} z) = left_false (definedᶠ 𝔸 s g) (stopsᶠ z)
    stopsᶠ (other_side {c} {f} {g} z) = right_false (definedᶠ 𝔸 s f) (stopsᶠ z)

  pub zero_iff : (e : Expr) → (defined 𝔸 s e ≡ false) ↔ Zero e
  zero_iff e = (found e, λ z. stops z)

  pub zero_iffᶠ : (f : Formula) → (definedᶠ 𝔸 s f ≡ false) ↔ Zeroᶠ f
  zero_iffᶠ f = (foundᶠ f, λ z. stopsᶠ z)

  -- ---- and D says that there is none

  pub divisors_exact : (e : Expr) → T (says 𝔸 s (divisors e)) ↔ (¬ Zero e)
  divisors_exact e = true_iff (says 𝔸 s (divisors e)) (defined 𝔸 s e) (divisors_say 𝔸 s e) (zero_iff e)

  pub divisors_exactᶠ : (f : Formula) → T (says 𝔸 s (divisorsᶠ f)) ↔ (¬ Zeroᶠ f)
  divisors_exactᶠ f = true_iff (says 𝔸 s (divisorsᶠ f)) (definedᶠ 𝔸 s f) (divisors_sayᶠ 𝔸 s f) (zero_iffᶠ f)
