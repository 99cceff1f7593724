-- `lowest` of `Refusals`: it refuses with the first row that has a fault, and accepts where no row has one.
-- `Lowest` says the same of a property of rows: the tests 7, 8 and 9 each give one number to the rows that have theirs.
-- By induction over the number of rows. Assumes nothing.
use Prim.Native.Nat.{ℕ, zero, suc, ◌+◌, ◌≤◌, ◌<◌}
use Rattle.std.proofs.Common.{arith, sym, ◌∙◌, eq-eqb, ne_eqb}
use Rattle.std.proofs.Math.Decide.{ℕ_discrete}
use Rattle.std.specs.Prelude.{◌≡◌, refl, ◌↔◌, ◌≢◌, Bool, true, false, cond, not}
use Rattle.std.proofs.Math.Logic.Iff
use Rattle.std.proofs.lemmas.Bool.{false≢true}
use Rattle.theorems.specs.Tests.{not_iff, turned}
use Rattle.script.specs.Refusals.{Verdict, accepted, refused, lowest}

-- of the n rows from r up, q is the lowest with a fault, and its fault is k
pub record FirstFault (fault : ℕ → ℕ) (n r k q : ℕ) : Type 0 where
  pub from : r ≤ q
  pub below : q < r + n
  pub number : fault q ≡ k
  pub some : k ≢ 0
  pub lower : (j : ℕ) → r ≤ j → j < q → fault j ≡ 0

-- none of the n rows from r up has a fault
abbrev pub Faultless : (ℕ → ℕ) → ℕ → ℕ → Type 0
Faultless fault n r = (j : ℕ) → r ≤ j → j < r + n → fault j ≡ 0

module _ (fault : ℕ → ℕ) where
  -- the two answers, each with what it says
  data Outcome (n r : ℕ) : Verdict → Type 0 where
    none : Faultless fault n r → Outcome n r accepted
    first : {k q : ℕ} → FirstFault fault n r k q → Outcome n r (refused k q)

  pub passed : (n r : ℕ) → fault r ≡ 0 → lowest fault (suc n) r ≡ lowest fault n (suc r)
  unfolding lowest
  passed n r h = rw (eq-eqb (fault r) 0 h, lowest)

  pub stopped : (n r : ℕ) → fault r ≢ 0 → lowest fault (suc n) r ≡ refused (fault r) r
  unfolding lowest
  stopped n r h = rw (ne_eqb (fault r) 0 h, lowest)

  -- a row without a fault put before others
  before : (r q : ℕ) → fault r ≡ 0 → ((j : ℕ) → suc r ≤ j → j < q → fault j ≡ 0) → (j : ℕ) → r ≤ j → j < q → fault j ≡ 0
  before r q z f j h₁ h₂ = go (ℕ_discrete r j)
    where
      go : Dec (r ≡ j) → fault j ≡ 0
      go (yes s) = rw s at z
      go (no d) = f j (omega arith) h₂

  extend : (n r : ℕ) {v : Verdict} → fault r ≡ 0 → Outcome n (suc r) v → Outcome (suc n) r v
  extend n r z (none f) = none (before r (r + suc n) z (λ j h₁ h₂. f j h₁ (omega arith)))
  extend n r z (first {q = q} F) = first {q = q} (record {
    from = omega arith;
    below = omega arith;
    number = F.number;
    some = F.some;
    lower = before r q z F.lower;
  })

  outcome : (n r : ℕ) → Outcome n r (lowest fault n r)
  unfolding lowest
  outcome zero r = none (λ j h₁ h₂. omega arith)
  outcome (suc n) r = go (ℕ_discrete (fault r) 0) (outcome n (suc r))
    where
      go : Dec (fault r ≡ 0) → Outcome n (suc r) (lowest fault n (suc r)) → Outcome (suc n) r (lowest fault (suc n) r)
      go (yes z) o = rw (passed n r z) (extend n r z o)
      go (no f) o = rw (stopped n r f) (first {q = r} (record {
        from = omega arith;
        below = omega arith;
        number = refl;
        some = f;
        lower = λ j h₁ h₂. omega arith;
      }))

  -- there is one lowest row
  lone : (n r k q k' q' : ℕ) → FirstFault fault n r k q → FirstFault fault n r k' q' → refused k q ≡ refused k' q'
  lone n r k q k' q' F G = cc (F.number, G.number, same (not_under F G) (not_under G F))
    where
      not_under : {k q k' q' : ℕ} → FirstFault fault n r k q → FirstFault fault n r k' q' → q < q' → ⊥
      not_under {q = q} F G h = F.some (sym F.number ∙ G.lower q F.from h)

      same : (q < q' → ⊥) → (q' < q → ⊥) → q ≡ q'
      same f g = omega arith

  pub lowest_refuses : (n r k q : ℕ) → (lowest fault n r ≡ refused k q) ↔ FirstFault fault n r k q
  lowest_refuses n r k q = (λ e. told (rw e at (outcome n r)), λ F. shown F (outcome n r))
    where
      told : Outcome n r (refused k q) → FirstFault fault n r k q
      told (first F) = F

      shown : {v : Verdict} → FirstFault fault n r k q → Outcome n r v → v ≡ refused k q
      shown F (none f) = absurd (F.some (sym F.number ∙ f q F.from F.below))
      shown F (first {k = k'} {q = q'} G) = lone n r k' q' k q G F

  pub lowest_accepts : (n r : ℕ) → (lowest fault n r ≡ accepted) ↔ Faultless fault n r
  lowest_accepts n r = (λ e. told (rw e at (outcome n r)), λ f. shown f (outcome n r))
    where
      told : Outcome n r accepted → Faultless fault n r
      told (none f) = f

      shown : {v : Verdict} → Faultless fault n r → Outcome n r v → v ≡ accepted
      shown f (none g) = refl
      shown f (first {k = k} {q = q} G) = absurd (G.some (sym G.number ∙ f q G.from G.below))

-- ---- one number for the rows that have a property

-- q is the lowest of the rows below n that has the property
pub record Lowest (P : ℕ → Type 0) (n q : ℕ) : Type 0 where
  pub within : q < n
  pub has : P q
  pub lower : (j : ℕ) → j < q → ¬ P j

-- the fault f is k where P holds, and 0 elsewhere
abbrev pub Gives : Type 0 → ℕ → ℕ → Type 0
Gives P k f = ((f ≡ k) ↔ P) × ((f ≡ 0) ↔ ¬ P)

pub where_true : {P : Type 0} (b : Bool) (k : ℕ) → k ≢ 0 → (b ≡ true) ↔ P → Gives P k (cond b k 0)
where_true true k n h = ((λ e. h.0 refl, λ p. refl), (λ e. absurd (n e), λ f. absurd (f (h.0 refl))))
where_true false k n h = ((λ e. absurd (n (sym e)), λ p. absurd (false≢true (h.1 p))), (λ e p. false≢true (h.1 p), λ f. refl))

pub where_false : {P : Type 0} (b : Bool) (k : ℕ) → k ≢ 0 → (b ≡ false) ↔ P → Gives P k (cond b 0 k)
where_false b k n h = rw (turned b 0 k) (where_true (not b) k n (Iff.trans (not_iff b) h))

-- what a verdict says: the number and the row of its refusal
abbrev pub Says : Verdict → (ℕ → ℕ → Type 0) → Type 0
Says v Occasion = (k r : ℕ) → (v ≡ refused k r) ↔ Occasion k r

-- where the fault of each row below n is c if it has the property, and 0 if not, the verdict is c and the lowest such row
pub lowest_with : (P : ℕ → Type 0) (fault : ℕ → ℕ) (c n : ℕ) → c ≢ 0 → ((j : ℕ) → j < n → Gives (P j) c (fault j))
    → Says (lowest fault n 0) (λ k q. (k ≡ c) × Lowest P n q)
lowest_with P fault c n some G k q = (λ e. told ((lowest_refuses fault n 0 k q).0 e), λ h. (lowest_refuses fault n 0 k q).1 (shown h.0 h.1))
  where
    told : FirstFault fault n 0 k q → (k ≡ c) × Lowest P n q
    told F =
        let in_table : q < n = omega arith in
        let number : fault q ≡ c = go in_table (ℕ_discrete (fault q) c) in (
          sym F.number ∙ number,
          record {
            within = in_table;
            has = (G q in_table).0.0 number;
            lower = λ j h. (G j (omega arith)).1.0 (F.lower j (omega arith) h);
          },
        )
      where
        go : q < n → Dec (fault q ≡ c) → fault q ≡ c
        go h (yes e) = e
        go h (no f) = absurd (F.some (sym F.number ∙ (G q h).1.1 (λ p. f ((G q h).0.1 p))))

    shown : k ≡ c → Lowest P n q → FirstFault fault n 0 k q
    shown e L = record {
      from = omega arith;
      below = omega arith;
      number = (G q L.within).0.1 L.has ∙ sym e;
      some = λ z. some (sym e ∙ z);
      lower = λ j h₁ h₂. (G j (omega (arith, L.within))).1.1 (L.lower j h₂);
    }
