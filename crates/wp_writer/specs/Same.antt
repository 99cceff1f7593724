-- `Same m n` says that two scratches agree below n and from m on, and what depends on the first n entries of a path only.
-- Assumes nothing.
use Rattle.std.specs.Prelude.{ℕ, zero, suc, ◌≤◌, ◌<◌, ◌≡◌, refl, List, ℤ, pos, length, get_or, set, drop}
use Rattle.std.proofs.Common.{◌∙◌, arith as linear, lt_of_lt_of_le, length-set, get_or-set_other, drop-set-lt}
use Rattle.formula_writer.specs.Paths.{under}
use Rattle.formula_writer.specs.Nodes.{OnPath}

pub record Same (m n : ℕ) (xs ys : List ℤ) : Type 0 where
  pub long : length ys ≡ length xs
  pub at : (i : ℕ) → i < n → get_or ys i (pos 0) ≡ get_or xs i (pos 0)
  pub behind : drop m ys ≡ drop m xs

pub same_refl : (m n : ℕ) (xs : List ℤ) → Same m n xs xs
same_refl m n xs = record { long = refl; at = λ i h. refl; behind = refl }

pub same_trans : {m n : ℕ} {xs ys zs : List ℤ} → Same m n xs ys → Same m n ys zs → Same m n xs zs
same_trans a b = record { long = b.long ∙ a.long; at = λ i h. b.at i h ∙ a.at i h; behind = b.behind ∙ a.behind }

pub same_less : {m n k : ℕ} {xs ys : List ℤ} → k ≤ n → Same m n xs ys → Same m k xs ys
same_less h a = record { long = a.long; at = λ i k. a.at i (lt_of_lt_of_le k h); behind = a.behind }

apart : (k i : ℕ) → k < i → k ≡ i → ⊥
apart k i h e = omega linear

pub same_set : (m n : ℕ) (xs : List ℤ) (z : ℤ) → n < m → Same m n xs (set xs n z)
same_set m n xs z h = record {
  long = length-set xs n z;
  at = λ k l. get_or-set_other xs n k z (pos 0) (apart k n l);
  behind = drop-set-lt m xs n z h;
}

pub under_same : (t : List ℤ) (j : ℕ) {m : ℕ} {xs ys : List ℤ} → Same m j xs ys → under t ys j ≡ under t xs j
unfolding under
under_same t zero s = refl
under_same t (suc j) s = rw (s.at j (omega linear), under_same t j (same_less (omega linear) s))

pub along_same : (t : List ℤ) (j : ℕ) {m : ℕ} {xs ys : List ℤ} → Same m j xs ys → OnPath t xs j → OnPath t ys j
along_same t j {xs = xs} {ys = ys} s o =
    let b = o.bound in
    let e = s.long in
    record {
      bound = omega linear;
      passed = λ i h. let p = o.passed i h in record { assigns = rw (s.at i h) p.assigns; entered = rw (s.at i h) p.entered };
    }
