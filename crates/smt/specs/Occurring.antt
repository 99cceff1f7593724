-- The numbers that occur with a kind of name are those in range that are referred to (`occurring_in`, `in_occurring`), and
-- they rise (`occurring_rising`). Assumes nothing.
use Prim.Native.Nat.{ℕ, zero, suc, ◌<◌}
use Rattle.std.specs.Prelude.{◌≡◌, Bool, cond, ◌||◌}
use Rattle.std.proofs.Math.Path.{refl}
use Rattle.std.proofs.Common.{ap}
use Rattle.std.proofs.Math.Bool.{true, false}
use mathlib.Core.List.Memᴰ
use mathlib.Core.List.{List, [], ◌∷◌, ◌++◌, append-nil, Memᴰ}
use native.Mathlib.Omega.{arith as linear}
use borrow.Author.Tests.{eq-eqb, eqb-true, eqb-false}
use Rattle.std.proofs.Math.Dec.{eqb}
use Rattle.smt.specs.Translate.{Reference, variable, mark, same_reference, refers, occurring}
use Rattle.smt.specs.Symbols.{either}
use Rattle.smt.specs.Once.{Rising, rising_last}

same_is : (r q : Reference) → same_reference r q ≡ true → r ≡ q
same_is (variable v) (variable w) e = ap variable (eqb-true v w e)
same_is (variable v) (mark m) e = cc
same_is (mark m) (variable v) e = cc
same_is (mark m) (mark n) e = ap mark (eqb-true m n e)

same_self : (r q : Reference) → r ≡ q → same_reference r q ≡ true
same_self r q e = rw e (self q)
  where
    self : (q : Reference) → same_reference q q ≡ true
    self (variable v) = eq-eqb v v refl
    self (mark m) = eq-eqb m m refl

pub refers_in : (r : Reference) (rs : List Reference) → refers r rs ≡ true → Memᴰ r rs
refers_in r [] e = let z : ◌≡◌ {A = ℕ} 0 1 = cc in absurd (omega linear)
refers_in r (q ∷ qs) e = of_test (same_reference r q) refl e (refers_in r qs)
  where
    of_test : (b : Bool) → same_reference r q ≡ b → (b || refers r qs) ≡ true → (refers r qs ≡ true → Memᴰ r qs) → Memᴰ r (q ∷ qs)
    of_test true p h g = Memᴰ.head (same_is r q p)
    of_test false p h g = Memᴰ.tail (g h)

pub in_refers : (r : Reference) (rs : List Reference) → Memᴰ r rs → refers r rs ≡ true
in_refers r [] m = absurd (Memᴰ.not-nil m)
in_refers r (q ∷ qs) m =
    either (Memᴰ.cases_cons m) (λ e. rw (same_self r q e)) (λ l. or_true (same_reference r q) (in_refers r qs l))
  where
    or_true : (a : Bool) {b : Bool} → b ≡ true → (a || b) ≡ true
    or_true true e = refl
    or_true false e = e

-- n at the end, where it occurs
module _ (kind : ℕ → Reference) (rs : List Reference) where
  abbrev last : ℕ → Bool → List ℕ
  last n b = cond b (n ∷ []) []

  last_in : (n k : ℕ) (b : Bool) → refers (kind n) rs ≡ b → Memᴰ k (last n b) → (k ≡ n) × (refers (kind k) rs ≡ true)
  last_in n k true e m = let p = Memᴰ.eq_of_singleton m in (p, rw p e)
  last_in n k false e m = absurd (Memᴰ.not-nil m)

  pub occurring_in : (n k : ℕ) → Memᴰ k (occurring kind n rs) → (k < n) × (refers (kind k) rs ≡ true)
  unfolding occurring
  occurring_in zero k m = absurd (Memᴰ.not-nil m)
  occurring_in (suc n) k m =
      either (Memᴰ.append_cases (occurring kind n rs) m) (λ l. let h = occurring_in n k l in (omega linear, h.1))
      (λ l. let h = last_in n k (refers (kind n) rs) refl l in (omega linear, h.1))

  pub in_occurring : (n k : ℕ) → k < n → refers (kind k) rs ≡ true → Memᴰ k (occurring kind n rs)
  unfolding occurring
  in_occurring zero k l e = absurd (omega linear)
  in_occurring (suc n) k l e = of_test (eqb k n) refl (λ h. in_occurring n k h e)
    where
      of_test : (b : Bool) → eqb k n ≡ b → (k < n → Memᴰ k (occurring kind n rs))
          → Memᴰ k (occurring kind n rs ++ last n (refers (kind n) rs))
      of_test true p g = Memᴰ.append_right (occurring kind n rs) (rw (← eqb-true k n p, e) (Memᴰ.head refl))
      of_test false p g = Memᴰ.append_left (last n (refers (kind n) rs)) (g (omega (linear, eqb-false k n p)))

  -- "in rising number"
  pub occurring_rising : (n : ℕ) → Rising (occurring kind n rs)
  unfolding occurring
  occurring_rising zero = tt
  occurring_rising (suc n) = of_test (refers (kind n) rs) (occurring_rising n)
    where
      of_test : (b : Bool) → Rising (occurring kind n rs) → Rising (occurring kind n rs ++ last n b)
      of_test true h = rising_last (occurring kind n rs) n h (λ y m. (occurring_in n y m).0)
      of_test false h = rw append-nil h
