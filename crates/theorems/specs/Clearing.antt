-- A loop that fills a run with one element from the front on, one place a turn; a run that is cleared, or cleared behind a
-- list (`cleared_at`, `padded`); and what was written into one (`wrote_cleared`). Assumes nothing.
use Rattle.std.specs.Prelude.{◌≡◌, length, get_or, set, drop, replicate}
use Rattle.std.proofs.Math.Path.{refl, ap}
use Rattle.std.proofs.Common.{sym, ◌∙◌, arith, add-one, length-append}
use mathlib.Core.List.{List, [], ◌∷◌, ◌++◌}
use Prim.Native.Nat.{ℕ, zero, suc, ◌+◌, ◌-◌, ◌≤◌, ◌<◌}
use Rattle.std.proofs.Math.Nat.{sub-zero, zero-sub, suc-sub-suc}
use Rattle.std.proofs.lemmas.List.{length-replicate}
use Rattle.std.proofs.lemmas.List.Edits.{sets-eq}
use Rattle.theorems.specs.Writing.{Wrote, wrote_whole}

module _ {A : Type 0} (z : A) where
  -- n places filled
  unfoldable pub cleared : ℕ → List A → List A
  cleared zero l = l
  cleared (suc n) [] = []
  cleared (suc n) (w ∷ l) = z ∷ cleared n l

  pub cleared_none : (l : List A) → l ≡ cleared 0 l
  unfolding cleared
  cleared_none l = refl

  one_more : (n : ℕ) (l : List A) → n < length l → set (cleared n l) n z ≡ cleared (suc n) l
  unfolding cleared
  one_more n [] h = absurd (omega arith)
  one_more zero (w ∷ l) h = refl
  one_more (suc n) (w ∷ l) h = ap (λ (k : List A). z ∷ k) (one_more n l (omega arith))

  pub cleared_more : (n : ℕ) (l m : List A) → n < length l → m ≡ cleared n l → set m n z ≡ cleared (n + 1) l
  cleared_more n l m h e = rw (e, add-one) (one_more n l h)

  pub cleared_all : (n : ℕ) (l : List A) → length l ≤ n → cleared n l ≡ replicate (length l) z
  unfolding cleared
  cleared_all zero [] h = refl
  cleared_all zero (w ∷ l) h = absurd (omega arith)
  cleared_all (suc n) [] h = refl
  cleared_all (suc n) (w ∷ l) h = ap (λ (k : List A). z ∷ k) (cleared_all n l (omega arith))

  -- ---- a run that is cleared

  -- also past its end
  pub cleared_at : (n i : ℕ) → get_or (replicate n z) i z ≡ z
  cleared_at zero i = refl
  cleared_at (suc n) zero = refl
  cleared_at (suc n) (suc i) = cleared_at n i

  -- so what is cleared behind a list changes none of its places
  pub padded : (l : List A) (n i : ℕ) → get_or (l ++ replicate n z) i z ≡ get_or l i z
  padded [] n i = cleared_at n i
  padded (x ∷ l) n zero = refl
  padded (x ∷ l) n (suc i) = padded l n i

  -- and a list of n elements is filled up to m
  pub padded_length : (l : List A) (n m : ℕ) → length l ≡ n → n ≤ m → length (l ++ replicate (m - n) z) ≡ m
  padded_length l n m e h = omega (arith, length-append l (replicate (m - n) z), length-replicate (m - n) z)

  pub drop_replicate : (n m : ℕ) → drop n (replicate m z) ≡ replicate (m - n) z
  drop_replicate zero m = rw sub-zero
  drop_replicate (suc n) zero = rw zero-sub
  drop_replicate (suc n) (suc m) = rw suc-sub-suc (drop_replicate n m)

  pub all_cleared : {l : List A} (n : ℕ) → l ≡ replicate n z → l ≡ replicate (length l) z
  all_cleared n e = e ∙ ap (λ k. replicate k z) (sym (ap length e ∙ length-replicate n z))

  -- what was written stands at its front
  pub wrote_cleared : {l ts l' : List A} {p : ℕ} → l ≡ replicate (length l) z → Wrote l 0 ts p l' → p ≤ length l
      → (length ts ≤ length l) × (p ≡ length ts) × (l' ≡ ts ++ replicate (length l - length ts) z)
  wrote_cleared {l} {ts} zeros w h =
      let whole = wrote_whole w h in (
        whole.0,
        whole.1,
        whole.2
            ∙ sets-eq ts l 0 (omega (arith, whole.0))
            ∙ ap (λ (k : List A). ts ++ k) (ap (drop (0 + length ts)) zeros ∙ drop_replicate (0 + length ts) (length l) ∙ ap (λ n. replicate (length l - n) z) (omega arith)),
      )
