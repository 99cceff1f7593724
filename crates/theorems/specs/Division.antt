-- 01, "Meaning of a run": "Div and mod are those of SMT-LIB Ints: n = d × q + r with 0 ≤ r < |d|. Here n div 0 is 0 and
-- n mod 0 is n." `division`: they are such a quotient and remainder; `only_division`: no other pair is; `by_zero`.
-- A negative divisor is the positive one with the sign of the quotient changed. A negative dividend -(a + 1), where a is
-- d k + r, has the quotient -(k + 1) and the remainder d - 1 - r. Assumes nothing.
use Rattle.std.specs.Prelude.{ℕ, zero, suc, ◌+◌, ◌*◌, ◌-◌, ◌/◌, ◌%◌, ◌≤◌, ◌<◌, ◌≡◌, refl, ◌≢◌, ℤ, pos, negsuc, neg_ℤ, nat_abs, ◌+ℤ◌, ◌*ℤ◌, T}
use Rattle.std.proofs.Common.{mul-zero, mul-suc, mod-lt, mod-eq_of_lt, arith, sym, ap, ◌∙◌, lt→ltb, ltb→lt, le→leb, lt-ltb}
use Rattle.std.proofs.Math.Nat.{div-add-mod, mul-add-div, div-eq_of_lt, mul-add-mod_self_left}
use Rattle.std.proofs.Math.IntN.{neg_ℤ-neg_ℤ}
use Rattle.std.specs.Int.Signed.{le_z, lt_z}
use Rattle.script.specs.Meaning.{divZ, modZ}

-- "n = d × q + r with 0 ≤ r < |d|"
pub record Divided (n d q r : ℤ) : Type 0 where
  pub equation : n ≡ d *ℤ q +ℤ r
  pub low : T (le_z (pos 0) r)
  pub high : T (lt_z r (pos (nat_abs d)))

-- q is n div d, and r is n mod d
abbrev pub QuotientOf : ℤ → ℤ → ℤ → ℤ → Type 0
QuotientOf n d q r = (q ≡ divZ n d) × (r ≡ modZ n d)

-- ---- sums and products of the two signs

-- -m + b is -(a + 1) where m is a + 1 + b
below_zero : (m a b : ℕ) → m ≡ suc a + b → neg_ℤ (pos m) +ℤ pos b ≡ negsuc a
below_zero zero a b e = absurd (omega arith)
below_zero (suc m) a b e = rw (lt-ltb b (suc m) under) (ap negsuc left)
  where
    under : b < suc m
    under = omega arith

    left : suc m - suc b ≡ a
    left = omega arith

-- the product with a negative divisor
flipped : (e : ℕ) (q : ℤ) → negsuc e *ℤ q ≡ pos (suc e) *ℤ neg_ℤ q
flipped e (pos zero) = rw (mul-zero (suc e))
flipped e (pos (suc k)) = refl
flipped e (negsuc k) = refl

-- ---- the natural numbers

quotient : (e k r : ℕ) → r ≤ e → (suc e * k + r) / suc e ≡ k
quotient e k r h = mul-add-div {m = suc e} (omega arith) k r ∙ ap (λ (x : ℕ). k + x) (div-eq_of_lt small) ∙ omega arith
  where
    small : r < suc e
    small = omega arith

remainder : (e k r : ℕ) → r ≤ e → (suc e * k + r) % suc e ≡ r
remainder e k r h = mul-add-mod_self_left (suc e) k r ∙ mod-eq_of_lt small
  where
    small : r < suc e
    small = omega arith

-- -(a + 1) with a divided by e + 1
downward : (e a : ℕ) → suc e * suc (a / suc e) ≡ suc a + (e - a % suc e)
downward e a = omega (arith, mul-suc (suc e) (a / suc e), div-add-mod a (suc e), mod-lt a {m = suc e} (omega arith))

-- ---- a positive divisor

at_positive : (n : ℤ) (e : ℕ) → Divided n (pos (suc e)) (divZ n (pos (suc e))) (modZ n (pos (suc e)))
at_positive (pos a) e = record {
  equation = ap pos (sym (div-add-mod a (suc e)));
  low = le→leb 0 (a % suc e) (omega arith);
  high = lt→ltb (a % suc e) (suc e) (mod-lt a (omega arith));
}
at_positive (negsuc a) e = record {
  equation = sym (below_zero (suc e * suc (a / suc e)) a (e - a % suc e) (downward e a));
  low = le→leb 0 (e - a % suc e) (omega arith);
  high = lt→ltb (e - a % suc e) (suc e) (omega arith);
}

only_positive : (n : ℤ) (e : ℕ) (q : ℤ) (r : ℕ) → r ≤ e → n ≡ pos (suc e) *ℤ q +ℤ pos r → QuotientOf n (pos (suc e)) q (pos r)
only_positive n e (pos k) r h eq = rw eq (ap pos (sym (quotient e k r h)), ap pos (sym (remainder e k r h)))
only_positive n e (negsuc k) r h eq =
    rw (eq ∙ below_zero (suc e * suc k) (suc e * k + (e - r)) r sum)
    (ap negsuc (sym (quotient e k (e - r) under)), ap pos (back ∙ ap (λ (x : ℕ). e - x) (sym (remainder e k (e - r) under))))
  where
    sum : suc e * suc k ≡ suc (suc e * k + (e - r)) + r
    sum = omega (arith, mul-suc (suc e) k)

    under : e - r ≤ e
    under = omega arith

    back : r ≡ e - (e - r)
    back = omega arith

-- ---- the sentence

pub division : (n d : ℤ) → d ≢ pos 0 → Divided n d (divZ n d) (modZ n d)
division n (pos zero) h = absurd (h refl)
division n (pos (suc e)) h = at_positive n e
division n (negsuc e) h = record { equation = D.equation ∙ ap (λ (x : ℤ). x +ℤ modZ n (negsuc e)) times; low = D.low; high = D.high }
  where
    D : Divided n (pos (suc e)) (divZ n (pos (suc e))) (modZ n (pos (suc e)))
    D = at_positive n e

    times : pos (suc e) *ℤ divZ n (pos (suc e)) ≡ negsuc e *ℤ divZ n (negsuc e)
    times = sym (flipped e (divZ n (negsuc e)) ∙ ap (λ (x : ℤ). pos (suc e) *ℤ x) (neg_ℤ-neg_ℤ (divZ n (pos (suc e)))))

pub only_division : (n d q r : ℤ) → Divided n d q r → QuotientOf n d q r
only_division n d q (negsuc r) D = absurd D.low
only_division n (pos zero) q (pos r) D = absurd (omega (arith, ltb→lt r 0 D.high))
only_division n (pos (suc e)) q (pos r) D = only_positive n e q r (omega (arith, ltb→lt r (suc e) D.high)) D.equation
only_division n (negsuc e) q (pos r) D =
    (sym (neg_ℤ-neg_ℤ q) ∙ ap neg_ℤ found.0, found.1)
  where
    found : QuotientOf n (pos (suc e)) (neg_ℤ q) (pos r)
    found = only_positive n e (neg_ℤ q) r (omega (arith, ltb→lt r (suc e) D.high))
        (D.equation ∙ ap (λ (x : ℤ). x +ℤ pos r) (flipped e q))

-- "Here n div 0 is 0 and n mod 0 is n."
pub by_zero : (n : ℤ) → (divZ n (pos 0) ≡ pos 0) × (modZ n (pos 0) ≡ n)
by_zero n = (refl, refl)
