-- The first fault of a row from those of its fields, in the order of the tests 3 to 6.
-- Argument: the first of two faults is that of the tests over both fields (`step`), and a field after one that has a fault
-- changes nothing. Where no field has a fault but 6, the rows linked are those of all fields (`afters_same`). Assumes nothing.
use Rattle.std.specs.Prelude.{ℕ, zero, suc, ◌≤◌, ◌<◌, ◌≡◌, refl, ◌⊎◌, Bool, true, false, cond, not, ◌&&◌, ◌||◌, List, [], ◌∷◌, eqb, ltb, ℤ}
use Rattle.std.proofs.Common.{ap, inl, inr, ⊎_elim, true≢false, arith as linear, eq-eqb, eqb-true, le-ltb, lt-ltb, ne_eqb}
use Rattle.std.proofs.Math.Decide.{ℕ_discrete, dec_lt}
use Rattle.script.specs.Rows.{rows}
use Rattle.script.specs.Refusals.{member}
use Rattle.rows.specs.Patterns.{Cell, all, all_fresh, add, adds, below, blank, limited, linking, new, sorted}

-- ---- the first of two faults, where 0 is none

abbrev pub first : ℕ → ℕ → ℕ
first a b = cond (eqb a 0) b (cond (eqb b 0) a (cond (ltb a b) a b))

pub first_none : (a : ℕ) → first a 0 ≡ a
first_none zero = refl
first_none (suc a) = rw (ne_eqb (suc a) 0 (λ e. omega linear))

-- the first of the tests 3 to 6 that fails
abbrev tests : Bool → Bool → Bool → Bool → ℕ
tests p q s n = cond (not p) 3 (cond (not q) 4 (cond (not s) 5 (cond (not n) 6 0)))

module _ (m : Bool) where
  first_3 : (p q s n : Bool) → first 3 (tests p q s n) ≡ 3
  first_3 false q s n = refl
  first_3 true false s n = refl
  first_3 true true false n = refl
  first_3 true true true false = refl
  first_3 true true true true = refl

  first_4 : (p q s n : Bool) → first 4 (tests p q s n) ≡ tests p false s m
  first_4 false q s n = refl
  first_4 true false s n = refl
  first_4 true true false n = refl
  first_4 true true true false = refl
  first_4 true true true true = refl

  first_5 : (p q s n : Bool) → first 5 (tests p q s n) ≡ tests p q false m
  first_5 false q s n = refl
  first_5 true false s n = refl
  first_5 true true false n = refl
  first_5 true true true false = refl
  first_5 true true true true = refl

  first_6 : (p q s n : Bool) → first 6 (tests p q s n) ≡ tests p q s false
  first_6 false q s n = refl
  first_6 true false s n = refl
  first_6 true true false n = refl
  first_6 true true true false = refl
  first_6 true true true true = refl

-- N is asked of ys where the field has no fault, and of xs where it has one
step : (p q s n p' q' s' : Bool) (N : List ℕ → Bool) (xs ys : List ℕ)
    → first (tests p q s n) (tests p' q' s' (N (cond (eqb (tests p q s n) 0) ys xs))) ≡ tests (p && p') (q && q') (s && s') (n && N ys)
step false q s n p' q' s' N xs ys = first_3 n p' q' s' (N xs)
step true false s n p' q' s' N xs ys = first_4 (n && N ys) p' q' s' (N xs)
step true true false n p' q' s' N xs ys = first_5 (n && N ys) p' q' s' (N xs)
step true true true false p' q' s' N xs ys = first_6 false p' q' s' (N xs)
step true true true true p' q' s' N xs ys = refl

-- ---- the fault of a field, and those of some fields in a row

all_both : (f g : Cell → Bool) (cs : List Cell) → all (λ x. f x && g x) cs ≡ all f cs && all g cs
all_both f g [] = refl
all_both f g (x ∷ cs) = go (f x) (g x) (all f cs) (all g cs) (all_both f g cs)
  where
    go : (a b c d : Bool) {e : Bool} → e ≡ c && d → (a && b) && e ≡ (a && c) && (b && d)
    go true true c d h = h
    go true false true d h = refl
    go true false false d h = refl
    go false b c d h = refl

module _ (t : List ℤ) (r : ℕ) where
  abbrev pub fault : List ℕ → Cell → ℕ
  fault xs x = tests (limited (rows t) x && blank x) (below r x) (sorted t x) (new xs x)

  -- the rows linked so far, after a field
  abbrev pub after : List ℕ → Cell → List ℕ
  after xs x = cond (eqb (fault xs x) 0) (add xs x) xs

  abbrev pub faults : List ℕ → List Cell → ℕ
  faults xs [] = 0
  faults xs (x ∷ cs) = first (fault xs x) (faults (after xs x) cs)

  abbrev pub afters : List ℕ → List Cell → List ℕ
  afters xs [] = xs
  afters xs (x ∷ cs) = afters (after xs x) cs

  pub faults_are : (xs : List ℕ) (cs : List Cell)
      → faults xs cs ≡ tests (all (limited (rows t)) cs && all blank cs) (all (below r) cs) (all (sorted t) cs) (all_fresh xs cs)
  faults_are xs cs = rw (← all_both (limited (rows t)) blank cs) (go xs cs)
    where
      go : (xs : List ℕ) (cs : List Cell)
          → faults xs cs ≡ tests (all (λ x. limited (rows t) x && blank x) cs) (all (below r) cs) (all (sorted t) cs) (all_fresh xs cs)
      go xs [] = refl
      go xs (x ∷ cs) =
          rw (go (after xs x) cs)
          (step (limited (rows t) x && blank x) (below r x) (sorted t x) (new xs x)
          (all (λ y. limited (rows t) y && blank y) cs) (all (below r) cs) (all (sorted t) cs) (λ ys. all_fresh ys cs) xs (add xs x))

-- ---- the rows linked, where a row has no fault, or 6 alone

abbrev pub Passed : ℕ → Type 0
Passed f = (f ≡ 0) ⊎ (f ≡ 6)

tests_small : (p q s n : Bool) → tests p q s n ≤ 6
tests_small false q s n = omega linear
tests_small true false s n = omega linear
tests_small true true false n = omega linear
tests_small true true true false = omega linear
tests_small true true true true = omega linear

tests_new : (p q s n : Bool) → tests p q s n ≡ 6 → n ≡ false
tests_new false q s n e = absurd (omega linear)
tests_new true false s n e = absurd (omega linear)
tests_new true true false n e = absurd (omega linear)
tests_new true true true false e = refl
tests_new true true true true e = absurd (omega linear)

-- 6 is the last of the tests
first_passed : (a b : ℕ) → a ≤ 6 → b ≤ 6 → Passed (first a b) → Passed a × Passed b
first_passed a b i j h = go (ℕ_discrete a 0) (ℕ_discrete b 0) (dec_lt a b)
  where
    go : Dec (a ≡ 0) → Dec (b ≡ 0) → Dec (a < b) → Passed a × Passed b
    go (yes x) y l = (inl x, rw (eq-eqb a 0 x) at h)
    go (no x) (yes y) l = (rw (ne_eqb a 0 x, eq-eqb b 0 y) at h, inl y)
    go (no x) (no y) (yes l) =
        ⊎_elim (λ z. absurd (x z)) (λ z. absurd (omega linear))
        (let g : Passed a = rw (ne_eqb a 0 x, ne_eqb b 0 y, lt-ltb a b l) at h in g)
    go (no x) (no y) (no l) =
        ⊎_elim (λ z. absurd (y z)) (λ z. (inr (omega linear), inr z))
        (let g : Passed b = rw (ne_eqb a 0 x, ne_eqb b 0 y, le-ltb a b (omega linear)) at h in g)

first_small : (a b : ℕ) → a ≤ 6 → b ≤ 6 → first a b ≤ 6
first_small a b i j = go (eqb a 0) (eqb b 0) (ltb a b)
  where
    go : (x y z : Bool) → cond x b (cond y a (cond z a b)) ≤ 6
    go true y z = j
    go false true z = i
    go false false true = i
    go false false false = j

-- the same rows
abbrev pub Same : List ℕ → List ℕ → Type 0
Same xs ys = (k : ℕ) → member k xs ≡ member k ys

module _ (t : List ℤ) (r : ℕ) where
  faults_small : (xs : List ℕ) (cs : List Cell) → faults t r xs cs ≤ 6
  faults_small xs [] = omega linear
  faults_small xs (x ∷ cs) =
      first_small (fault t r xs x) (faults t r (after t r xs x) cs)
      (tests_small (limited (rows t) x && blank x) (below r x) (sorted t x) (new xs x)) (faults_small (after t r xs x) cs)

  -- a row linked again is among them already
  after_same : (xs ys : List ℕ) (x : Cell) → Same xs ys → Passed (fault t r xs x) → Same (after t r xs x) (add ys x)
  after_same xs ys x same (inl z) k = rw (eq-eqb (fault t r xs x) 0 z) (go (linking x.letter))
    where
      go : (b : Bool) → member k (cond b (x.number ∷ xs) xs) ≡ member k (cond b (x.number ∷ ys) ys)
      go true = ap (λ (m : Bool). eqb k x.number || m) (same k)
      go false = same k
  after_same xs ys x same (inr s) k =
      rw (ne_eqb (fault t r xs x) 0 (λ z. omega linear))
      (go (linking x.letter) (tests_new (limited (rows t) x && blank x) (below r x) (sorted t x) (new xs x) s))
    where
      old : (m : Bool) → not m ≡ false → m ≡ true
      old true e = refl
      old false e = absurd (true≢false e)

      here : (b : Bool) → eqb k x.number ≡ b → member x.number xs ≡ true → member k xs ≡ b || member k ys
      here true e m = rw (eqb-true k x.number e) m
      here false e m = same k

      go : (b : Bool) → cond b (not (member x.number xs)) true ≡ false → member k xs ≡ member k (cond b (x.number ∷ ys) ys)
      go true e = here (eqb k x.number) refl (old (member x.number xs) e)
      go false e = absurd (true≢false e)

  pub afters_same : (xs ys : List ℕ) (cs : List Cell) → Same xs ys → Passed (faults t r xs cs) → Same (afters t r xs cs) (adds ys cs)
  afters_same xs ys [] same h = same
  afters_same xs ys (x ∷ cs) same h =
      let p = first_passed (fault t r xs x) (faults t r (after t r xs x) cs)
      (tests_small (limited (rows t) x && blank x) (below r x) (sorted t x) (new xs x)) (faults_small (after t r xs x) cs) h in
      afters_same (after t r xs x) (add ys x) cs (after_same xs ys x same p.0) p.1
