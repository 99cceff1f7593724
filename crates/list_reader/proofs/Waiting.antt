-- Parts read one after another, the present one first and those that wait after it: what a loop over them keeps, and how
-- each kind of node changes it. A part is an expression or a formula, by where it begins and ends. Assumes nothing.
use Prim.Native.Nat.{ℕ, zero, suc, ◌+◌, ◌-◌, ◌≤◌, ◌<◌}
use native.Mathlib.Omega.{arith as linear}
use native.Mathlib.Numerals.{add-one}
use mathlib.Core.Path.{◌≡◌}

-- the part at a place and n more end at e
pub data Parts (Part : ℕ → ℕ → Type 0) : ℕ → ℕ → ℕ → Type 0 where
  last : {at e : ℕ} → Part at e → Parts Part 0 at e
  first : {n at m e : ℕ} → Part at m → Parts Part n m e → Parts Part (suc n) at e

-- whatever ends the parts from the present place ends the part from the first place
pub record Waiting (Part : ℕ → ℕ → Type 0) (begin at waiting : ℕ) : Type 0 where
  pub ends : {e : ℕ} → Parts Part waiting at e → Part begin e
  pub after : begin ≤ at
  pub few : waiting ≤ at

module _ {Part : ℕ → ℕ → Type 0} where
  pub begun : (at : ℕ) → Waiting Part at at 0
  begun at = record { ends = only; after = omega linear; few = omega linear }
    where
      only : {e : ℕ} → Parts Part 0 at e → Part at e
      only (last p) = p

  one : {n at k e : ℕ} → ((m : ℕ) → Part k m → Part at m) → Parts Part n k e → Parts Part n at e
  one f (last p) = last (f _ p)
  one f (first p r) = first (f _ p) r

  two : {n at k e : ℕ} → ((m z : ℕ) → Part k m → Part m z → Part at z) → Parts Part (suc n) k e → Parts Part n at e
  two f (first p (last q)) = last (f _ _ p q)
  two f (first p (first q r)) = first (f _ _ p q) r

  none_of : {at z : ℕ} → Part at z → Part z z → (n : ℕ) → Parts Part n at z
  none_of p q zero = last p
  none_of p q (suc n) = first p (none_of q q n)

module _ {Part : ℕ → ℕ → Type 0} {begin at : ℕ} where
  -- the present part is the last
  pub ended : {n m : ℕ} → Waiting Part begin at n → n ≡ 0 → Part at m → Part begin m
  ended {n} w z p = w.ends (rw z (last p))

  -- a part is read, and another waits
  pub passed : {m : ℕ} (n : ℕ) → Waiting Part begin at n → (n ≡ 0 → ⊥) → Part at m → at < m → Waiting Part begin m (n - 1)
  passed zero w z p l = absurd (omega linear)
  passed {m} (suc n) w z p l =
      let q : suc n - 1 ≡ n = omega linear in
      rw q (record { ends = λ r. w.ends (first p r); after = omega (linear, w.after); few = omega (linear, w.few) })

  -- the node has one part, at k
  pub unary : {k n : ℕ} → Waiting Part begin at n → at < k → ((m : ℕ) → Part k m → Part at m) → Waiting Part begin k n
  unary w l f = record { ends = λ r. w.ends (one f r); after = omega (linear, w.after); few = omega (linear, w.few) }

  -- the node has two parts more, the first of them at k
  pub binary : {k n : ℕ} → Waiting Part begin at n → at < k → ((m z : ℕ) → Part k m → Part m z → Part at z) → Waiting Part begin k (n + 1)
  binary {k} {n} w l f =
      rw (add-one n) (record { ends = λ r. w.ends (two f r); after = omega (linear, w.after); few = omega (linear, w.few) })

  -- no part begins here, nor at z
  pub missed : {n z : ℕ} → Waiting Part begin at n → Part at z → Part z z → Part begin z
  missed {n} w p q = w.ends (none_of p q n)
