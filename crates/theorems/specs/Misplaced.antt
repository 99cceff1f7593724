-- Number 9 of 01, as it is worded: "a frozen name in a guard or assigned expression, or a mark where it may not stand (one
-- whose row is no while stands nowhere); lowest such variable or mark row" (`misplaced_name`).
-- What `misread` finds stands there (`reached`, by induction over its bound), and what stands there is found (`kept`, by
-- induction over the path from the script: links go down, so the bound stays above the row). Assumes nothing.
use Prim.Native.Nat.{ℕ, zero, suc, ◌-◌, ◌≤◌, ◌<◌}
use native.Mathlib.Omega.{arith}
use Rattle.std.specs.Prelude.{◌≡◌, refl, ◌↔◌, Bool, true, ℤ}
use Rattle.std.proofs.Common.{inl, inr}
use mathlib.Core.List.{List, []}
use Rattle.std.proofs.Math.Bool.{false}
use Rattle.std.proofs.lemmas.Bool.{false≢true}
use Rattle.script.specs.Rows.{Part, parts, rows, row}
use Rattle.script.specs.Refusals.{accepted, member, row_fault, misread, misreads, reading_fault, row_test, row_test_within, reading_test}
use Rattle.theorems.specs.Lowest.{Says, Lowest, lowest_with, lowest_accepts, where_true}
use Rattle.theorems.specs.Links.{Link, here, there}
use Rattle.theorems.specs.Faults.{Some, RisingLink, whole_row}
use Rattle.theorems.specs.Standing.{code_at, inside_at, Stands, script, link, Wrong}
use Rattle.theorems.specs.Misread.{HereOrBelow, here_or_below}

-- a row that stands where it may not
abbrev pub Misplaced : List ℤ → ℕ → Type 0
Misplaced ws q = (code : Bool) × (inside : List ℕ) × Stands ws q code inside × Wrong code inside (row ws q)

-- what is found below a row that stands in the script is misplaced
reached : (ws : List ℤ) (q n : ℕ) (code : Bool) (inside : List ℕ) (r : ℕ) → Stands ws r code inside
    → member q (misread ws n code inside r) ≡ true → Misplaced ws q
unfolding misread
reached ws q zero code inside r S e = absurd (false≢true e)
reached ws q (suc n) code inside r S e = go (reached ws q n) ((here_or_below ws q n code inside r).0 e)
  where
    go : ((c : Bool) (l : List ℕ) (k : ℕ) → Stands ws k c l → member q (misread ws n c l k) ≡ true → Misplaced ws q)
        → HereOrBelow ws q n code inside r → Misplaced ws q
    go further (inl h) = rw h.0 (code, inside, S, h.1)
    go further (inr h) =
        let (i, k, l, e) = h in
        further (code_at (row ws r) i code) (inside_at r (row ws r) i inside) k (link S l) e

link_falls : (r : ℕ) {k i : ℕ} {ps : List Part} → Link k i ps → ¬ Some (λ p. r ≤ p.at) ps → k < r
link_falls r (here {p = p} e) f = rw e at (under (λ h. f (inl h)))
  where
    under : ¬ (r ≤ p.at) → p.at < r
    under n = omega arith
link_falls r (there l) f = link_falls r l (λ s. f (inr s))

module _ (ws : List ℤ) (ok : row_test ws ≡ accepted) (q : ℕ) (in_table : q < rows ws) where
  falls : (r : ℕ) → r < rows ws → ¬ RisingLink ws r
  unfolding row_test_within
  falls r h = ((whole_row ws r).0 ((lowest_accepts (row_fault ws) (rows ws) 0).0 ok r (omega arith) (omega arith))).0.falls

  -- a bound that reaches below row r, with which what is found at r or below is found in the script
  record Kept (r : ℕ) (code : Bool) (inside : List ℕ) : Type 0 where
    bound : ℕ
    above : r ≤ bound
    within : bound < rows ws
    found : HereOrBelow ws q bound code inside r → member q (misreads ws) ≡ true

  deeper : {r i k : ℕ} {code : Bool} {inside : List ℕ} → Link k i (parts (row ws r)) → Kept r code inside
      → Kept k (code_at (row ws r) i code) (inside_at r (row ws r) i inside)
  deeper {r} {i} {k} {code} {inside} l K = go K.bound K.above K.within K.found
    where
      under : k < r
      under = link_falls r l (falls r (omega arith))

      go : (n : ℕ) → r ≤ n → n < rows ws → (HereOrBelow ws q n code inside r → member q (misreads ws) ≡ true)
          → Kept k (code_at (row ws r) i code) (inside_at r (row ws r) i inside)
      go zero a w f = absurd (omega (arith, under))
      go (suc n) a w f = record {
        bound = n;
        above = omega (arith, under);
        within = omega arith;
        found = λ h. f (inr (i, k, l, (here_or_below ws q n (code_at (row ws r) i code) (inside_at r (row ws r) i inside) k).1 h));
      }

  kept : {r : ℕ} {code : Bool} {inside : List ℕ} → Stands ws r code inside → Kept r code inside
  unfolding misreads
  kept script = record {
    bound = rows ws - 1;
    above = omega arith;
    within = omega arith;
    found = λ h. whole ((here_or_below ws q (rows ws - 1) false [] (rows ws - 1)).1 h);
  }
    where
      filled : suc (rows ws - 1) ≡ rows ws
      filled = omega arith

      whole : member q (misread ws (suc (rows ws - 1)) false [] (rows ws - 1)) ≡ true → member q (misreads ws) ≡ true
      whole h = rw filled at h
  kept (link S l) = deeper l (kept S)

  pub misread_iff : (member q (misreads ws) ≡ true) ↔ Misplaced ws q
  unfolding misreads
  misread_iff = (reached ws q (rows ws) false [] (rows ws - 1) script, λ M. (kept M.2).found (inl (refl, M.3)))

pub misplaced_name : (ws : List ℤ) → row_test ws ≡ accepted → Says (reading_test ws) (λ k r. (k ≡ 9) × Lowest (Misplaced ws) (rows ws) r)
unfolding reading_test
misplaced_name ws ok = lowest_with (Misplaced ws) (reading_fault ws) 9 (rows ws) (omega arith)
    (λ j h. where_true (member j (misreads ws)) 9 (omega arith) (misread_iff ws ok j h))
