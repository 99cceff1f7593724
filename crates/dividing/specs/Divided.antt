-- What an entry of the run `follow` means, by the sort of its row. A statement: the row of the statement that comes after it, or
-- 2048 where there is none (`Follow.Followed`). An expression or a formula: 0 where its D does not stand, and else 1 more than
-- the row of its source (`Entry`, `Divided`). A note and the script: nothing.
-- Assumes nothing.
use Rattle.std.specs.Prelude.{ℕ, ◌+◌, ◌≤◌, ◌<◌, ◌≡◌, Bool, true, false, List, ltb, ℤ}
use Rattle.std.proofs.Common.{sym, ap, ◌∙◌, arith as linear, lt-ltb}
use Rattle.script.specs.Rows.{row, rows, parts}
use Rattle.theorems.specs.Unchanged.{stands}
use Rattle.following.specs.Follow.{row_on}
use Rattle.following.specs.Filling.{Every}
use Rattle.dividing.specs.Nodes.{Node, divisors_at}
use Rattle.dividing.specs.Sizes.{size}

-- whether the entry of row r says that D stands
abbrev pub marked : List ℤ → ℕ → Bool
marked follow r = ltb 0 (row_on follow r)

-- D of the node at row r has more words than D of each of its parts: it has a word of its own
abbrev pub Own : List ℤ → ℕ → Type 0
Own t r = Every (λ k. size (divisors_at t k) < size (divisors_at t r)) (parts (row t r))

-- the source s of the node at row r: the row where its D has a word of its own
pub record Source (t : List ℤ) (r s : ℕ) : Type 0 where
  pub within : s ≤ r
  pub node : Node t s
  pub same : divisors_at t s ≡ divisors_at t r
  pub stood : stands (divisors_at t s) ≡ true
  pub own : Own t s

-- what the entry e of the node at row r says
pub data Entry (t : List ℤ) (r e : ℕ) : Type 0 where
  nothing : e ≡ 0 → stands (divisors_at t r) ≡ false → Entry t r e
  from : (s : ℕ) → e ≡ s + 1 → Source t r s → Entry t r e

pub record Divided (t follow : List ℤ) : Type 0 where
  pub at : (r : ℕ) → r < rows t → Node t r → Entry t r (row_on follow r)

pub entry_stands : {t : List ℤ} {r e : ℕ} → Entry t r e → ltb 0 e ≡ stands (divisors_at t r)
entry_stands (nothing i h) = rw i (sym h)
entry_stands {e = e} (from s i h) = lt-ltb 0 e (omega linear) ∙ sym (ap stands (sym h.same) ∙ h.stood)

-- so the entry says whether D stands
pub marked_stands : (t follow : List ℤ) (r : ℕ) → Divided t follow → r < rows t → Node t r → marked follow r ≡ stands (divisors_at t r)
marked_stands t follow r d h n = entry_stands (d.at r h n)

-- where it does, s is the source
pub source_is : {t : List ℤ} {r e s : ℕ} → Entry t r e → s + 1 ≡ e → Source t r s
source_is (nothing i h) k = absurd (omega linear)
source_is {t} {r} {s = s} (from m i h) k = rw (same_source s m (omega linear)) h
  where
    same_source : (s m : ℕ) → s + 1 ≡ m + 1 → s ≡ m
    same_source s m e = omega linear
