-- Two words with the same number are the same: the bytes are found again in the number, from the last one on. So words
-- are compared by their numbers. Assumes nothing.
use Prim.Native.Nat.{ℕ, zero, suc, ◌+◌, ◌*◌, ◌/◌, ◌%◌, ◌<◌}
use mathlib.Core.Path.{◌≡◌, refl, ap, sym, ◌∙◌}
use mathlib.Core.List.{List, [], ◌∷◌, ◌++◌, append-nil}
use mathlib.Core.Bool.{Bool, true, false, cond, ◌&&◌}
use native.Mathlib.Omega.{arith}
use lib.Dec.{eqb, ltb}
use borrow.Author.Tests.{eq-eqb, ne_eqb, ltb-true}
use lib.ListN.{length}
use Rattle.grammar.specs.Tests.{false_is_not, both}
use Rattle.grammar.specs.Fronts.{same_refl, same_true}
use Rattle.grammar.specs.Scanning.{same_bytes}
use Rattle.scanner.specs.Words.{packed, longest, word_number}

-- every byte is one, and none is 0
abbrev pub proper : List ℕ → Bool
proper [] = true
proper (b ∷ bs) = (ltb 0 b && ltb b 256) && proper bs

pub proper_range : (b : ℕ) (bs : List ℕ) → proper (b ∷ bs) ≡ true → (0 < b) × (b < 256) × (proper bs ≡ true)
proper_range b bs e =
    let h = both (ltb 0 b && ltb b 256) (proper bs) e in
    let r = both (ltb 0 b) (ltb b 256) h.0 in
    (ltb-true 0 b r.0, ltb-true b 256 r.1, h.1)

-- the bytes of a number, before those that were found; the first number bounds them
abbrev unpacked : ℕ → ℕ → List ℕ → List ℕ
unpacked zero n bs = bs
unpacked (suc k) n bs = cond (eqb n 0) bs (unpacked k (n / 256) (n % 256 ∷ bs))

unpacked_none : (k : ℕ) (bs : List ℕ) → unpacked k 0 bs ≡ bs
unpacked_none zero bs = refl
unpacked_none (suc k) bs = refl

unpacked_one : (k n b : ℕ) (bs : List ℕ) → 0 < b → b < 256 → unpacked (suc k) (256 * n + b) bs ≡ unpacked k n (b ∷ bs)
unpacked_one k n b bs h l = rw (ne_eqb (256 * n + b) 0 (omega arith), quotient, remainder)
  where
    quotient : (256 * n + b) / 256 ≡ n
    quotient = omega arith

    remainder : (256 * n + b) % 256 ≡ b
    remainder = omega arith

unpacked_packed : (w : List ℕ) (f k n : ℕ) (bs : List ℕ) → proper w ≡ true → f ≡ length w + k
    → unpacked f (packed n w) bs ≡ unpacked k n (w ++ bs)
unpacked_packed [] f k n bs h e =
    let q : f ≡ k = omega arith in
    rw q
unpacked_packed (b ∷ w) f k n bs h e =
    let r = proper_range b w h in
    unpacked_packed w f (suc k) (256 * n + b) bs r.2 (omega arith) ∙ unpacked_one k n b (w ++ bs) r.0 r.1

module _ (v w : List ℕ) (pv : proper v ≡ true) (pw : proper w ≡ true) where
  pub packed_injective : packed 0 v ≡ packed 0 w → v ≡ w
  packed_injective e =
      sym (found v (length w) pv (omega arith))
      ∙ ap (λ n. unpacked (length v + length w) n []) e
      ∙ found w (length v) pw (omega arith)
    where
      found : (u : List ℕ) (k : ℕ) → proper u ≡ true → length v + length w ≡ length u + k
          → unpacked (length v + length w) (packed 0 u) [] ≡ u
      found u k p f = unpacked_packed u (length v + length w) k 0 [] p f ∙ unpacked_none k (u ++ []) ∙ append-nil u

-- ---- the test

pub same_packed : (v w : List ℕ) → proper v ≡ true → proper w ≡ true → packed 0 w < longest
    → same_bytes v w ≡ eqb (word_number v) (packed 0 w)
same_packed v w pv pw l = by_test (same_bytes v w) refl
  where
    equal : word_number v ≡ packed 0 w → same_bytes v w ≡ true
    equal q = rw (← packed_injective v w pv pw (omega arith)) (same_refl v)

    by_test : (t : Bool) → same_bytes v w ≡ t → t ≡ eqb (word_number v) (packed 0 w)
    by_test true e = sym (eq-eqb (word_number v) (packed 0 w) (omega (arith, ap (λ u. packed 0 u) (same_true v w e))))
    by_test false e = sym (ne_eqb (word_number v) (packed 0 w) (λ q. false_is_not (sym e ∙ equal q)))
