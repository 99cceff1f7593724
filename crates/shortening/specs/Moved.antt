-- What comes out under P6's order and under P10's is the same, or shorter under P10's (`Moved`), of whatever has a size:
-- an expression, a formula, a list. A node of two parts moves with them (`two_moved`). Assumes nothing.
use Rattle.std.specs.Prelude.{ℕ, ◌+◌, ◌≤◌, ◌<◌, ◌≡◌, Bool, true, false, ◌||◌}
use Rattle.std.proofs.Common.{sym, ap, ◌∙◌, inl, inr, true≢false, arith as linear}
use Rattle.theorems.specs.Tests.{or_iff}

-- ---- the same, or shorter

-- x comes out under P6's order, y under P10's; k says that one is kept
pub data Moved {A : Type 0} (size : A → ℕ) (k : Bool) (x y : A) : Type 0 where
  same : k ≡ false → y ≡ x → Moved size k x y
  less : k ≡ true → size y < size x → Moved size k x y

pub or_left : {a : Bool} (b : Bool) → a ≡ true → (a || b) ≡ true
or_left {a} b e = (or_iff a b).1 (inl e)

pub or_right : (a : Bool) {b : Bool} → b ≡ true → (a || b) ≡ true
or_right a {b} e = (or_iff a b).1 (inr e)

neither : {a b : Bool} → a ≡ false → b ≡ false → (a || b) ≡ false
neither {a} {b} d e = rw (d, e)

pub no : {A : Type 0} {k : Bool} → k ≡ true → k ≡ false → A
no d e = absurd (true≢false (sym d ∙ e))

pub kept_less : {A : Type 0} {size : A → ℕ} {k : Bool} {x y : A} → Moved size k x y → k ≡ true → size y < size x
kept_less (same d e) t = no t d
kept_less (less d h) t = h

pub else_same : {A : Type 0} {size : A → ℕ} {k : Bool} {x y : A} → Moved size k x y → k ≡ false → y ≡ x
else_same (same d e) f = e
else_same (less d h) f = no d f

pub not_longer : {A : Type 0} {size : A → ℕ} {k : Bool} {x y : A} → Moved size k x y → size y ≤ size x
not_longer {size = size} (same d e) = omega (linear, ap size e)
not_longer (less d h) = omega linear

-- a node of two parts, n words more than they have
pub two_moved : {A B C : Type 0} (sa : A → ℕ) (sb : B → ℕ) (sc : C → ℕ) (n : ℕ) (mk : A → B → C)
    → ((a : A) (b : B) → sc (mk a b) ≡ n + (sa a + sb b)) → {k l : Bool} {a c : A} {b d : B}
    → Moved sa k a c → Moved sb l b d → Moved sc (k || l) (mk a b) (mk c d)
two_moved sa sb sc n mk law (same d e) (same f g) = same (neither d f) (λ i. mk (e i) (g i))
two_moved sa sb sc n mk law {k = k} {a = a} {c} {b} {d} (same x e) (less f h) =
    less (or_right k f) (omega (linear, law a b, law c d, ap sa e))
two_moved sa sb sc n mk law {l = l} {a} {c} {b} {d} (less x h) m =
    less (or_left l x) (omega (linear, law a b, law c d, not_longer m))
