-- The machine of source document 002, as it prints its rules, of the statements that scripts have (`step1`), and what a step of a run is
-- by them (`step_by_rules`): the rule for sequences as long as one stands first, then one other rule; the lists are what is still to
-- do, without variants at arrivals and counts of passes, and the states are the same but for the mark that a loop sets, which 002
-- does not have. A false assertion is its ERROR. It has no zero divisor: where the run fails by one nothing is said. Where nothing
-- is to do 002 gives ERROR, while a run has ended there.
-- Argument: by the statement due. Assumes nothing.
use Prim.Native.Nat.{ℕ, zero, suc}
use Rattle.std.specs.Prelude.{◌≡◌, List, [], ◌∷◌, Bool, cond, ℤ}
use Rattle.std.proofs.Math.Path.{refl}
use Rattle.std.proofs.Common.{sym, ap}
use Rattle.std.proofs.Math.Bool.{true, false}
use Rattle.script.specs.Syntax.{Expr, Formula, Stmt, skip, assign, seq, branch, loop, assert}
use Rattle.script.specs.Meaning.{Arithmetic, State, value, holds, defined, definedᶠ}
use Rattle.script.specs.Run.{set_var, set_mark, Frame, begin, again, false_assertion, zero_divisor, Config, at, failed, unless_zero, test, first_step, step_of, step}
use Rattle.theorems.specs.Due.{Sequence, first_of}

pub data Result : Type 0 where
  RESULT : State → Result
  ERROR : State → Result

module _ (𝔸 : Arithmetic) where
  unfoldable pub step1 : List Stmt → State → List Stmt × Result
  -- STEP1 ([], s) = ([], ERROR s)
  step1 [] s = ([], ERROR s)
  -- Skip :: l gives (l, RESULT s)
  step1 (skip ∷ l) s = (l, RESULT s)
  -- Assign v e :: l gives (l, RESULT (s + (v, neval e s)))
  step1 (assign v e ∷ l) s = (l, RESULT (set_var s v (value 𝔸 s e)))
  -- Seq c1 c2 :: l gives (c1 :: c2 :: l, RESULT s)
  step1 (seq c₁ c₂ ∷ l) s = (c₁ ∷ c₂ ∷ l, RESULT s)
  -- Cond b c1 c2 :: l gives if beval b s then (c1 :: l, RESULT s) else (c2 :: l, RESULT s)
  step1 (branch b c₁ c₂ ∷ l) s = cond (holds 𝔸 s b) (c₁ ∷ l, RESULT s) (c₂ ∷ l, RESULT s)
  -- While b c :: l gives if beval b s then (c :: While b c :: l, RESULT s) else (l, RESULT s)
  step1 (loop m b i v c ∷ l) s = cond (holds 𝔸 s b) (c ∷ loop m b i v c ∷ l, RESULT s) (l, RESULT s)
  -- Assert p :: l gives if p s then (l, RESULT s) else (l, ERROR s)
  step1 (assert p ∷ l) s = cond (holds 𝔸 s p) (l, RESULT s) (l, ERROR s)

  -- the rule for sequences as long as one stands first, then one other rule
  pub data Moves : List Stmt → State → List Stmt × Result → Type 0 where
    by_seq : {x : Stmt} {l l₁ : List Stmt} {s s₁ : State} {r : List Stmt × Result} → Sequence x → step1 (x ∷ l) s ≡ (l₁, RESULT s₁)
        → Moves l₁ s₁ r → Moves (x ∷ l) s r
    by_other : {x : Stmt} {l : List Stmt} {s : State} {r : List Stmt × Result} → ¬ Sequence x → step1 (x ∷ l) s ≡ r → Moves (x ∷ l) s r

  -- ---- beside a run

  -- what is still to do: a loop that is tested again is to do as it was
  abbrev pub todo : List Frame → List Stmt
  todo [] = []
  todo (begin x ∷ k) = x ∷ todo k
  todo (again m b i v x v₀ n ∷ k) = loop m b i v x ∷ todo k

  -- the state with the mark that a loop sets as a pass begins
  abbrev pub marked : Stmt → State → State
  marked skip s = s
  marked (assign v e) s = s
  marked (seq a b) s = s
  marked (branch b x y) s = s
  marked (loop m b i v x) s = cond (holds 𝔸 s b) (set_mark s m (value 𝔸 s v)) s
  marked (assert a) s = s

  -- what a run's step is beside what the rules give, where the statement x is due
  pub data Beside (x : Stmt) : Config → List Stmt × Result → Type 0 where
    goes_on : {k : List Frame} {s s₁ : State} {l : List Stmt} → todo k ≡ l → s ≡ marked x s₁ → Beside x (at k s) (l, RESULT s₁)
    denied : {l : List Stmt} {s : State} → Beside x (failed false_assertion x) (l, ERROR s)
    divides : {r : List Stmt × Result} → Beside x (failed zero_divisor x) r

  unless_beside : (b : Bool) {x : Stmt} {g : Config} {r : List Stmt × Result} → Beside x g r → Beside x (unless_zero b x g) r
  unless_beside true h = h
  unless_beside false h = divides

  -- what is answered: the rules lead from the list l somewhere beside g
  pub record ByRules (x : Stmt) (l : List Stmt) (s : State) (g : Config) : Type 0 where
    pub gives : List Stmt × Result
    pub moves : Moves l s gives
    pub beside : Beside x g gives

  test_by_rules : (m : ℕ) (b i : Formula) (v : Expr) (x : Stmt) (v₀ : ℤ) (n : ℕ) (k : List Frame) (s : State)
      → ByRules (loop m b i v x) (loop m b i v x ∷ todo k) s (test 𝔸 m b i v x v₀ n k s)
  unfolding test step1
  test_by_rules m b i v x v₀ n k s = record {
    gives = step1 (loop m b i v x ∷ todo k) s;
    moves = by_other (λ h. h) refl;
    beside = unless_beside (definedᶠ 𝔸 s b) (either (holds 𝔸 s b) refl);
  }
    where
      pass : State
      pass = set_mark s m (value 𝔸 s v)

      either : (t : Bool) → holds 𝔸 s b ≡ t
          → Beside (loop m b i v x) (cond t (at (begin x ∷ again m b i v x v₀ (suc n) ∷ k) pass) (at k s))
          (cond t (x ∷ loop m b i v x ∷ todo k, RESULT s) (todo k, RESULT s))
      either true e = goes_on refl (sym (ap (λ t. cond t pass s) e))
      either false e = goes_on refl (sym (ap (λ t. cond t pass s) e))

  first_by_rules : (x : Stmt) (k : List Frame) (s : State) → ByRules (first_of x) (x ∷ todo k) s (first_step 𝔸 x k s)
  unfolding first_step step1
  first_by_rules skip k s = record { gives = (todo k, RESULT s); moves = by_other (λ h. h) refl; beside = goes_on refl refl }
  first_by_rules (assign v e) k s = record {
    gives = (todo k, RESULT (set_var s v (value 𝔸 s e)));
    moves = by_other (λ h. h) refl;
    beside = unless_beside (defined 𝔸 s e) (goes_on refl refl);
  }
  first_by_rules (seq a b) k s =
      let r = first_by_rules a (begin b ∷ k) s in
      record { gives = r.gives; moves = by_seq tt refl r.moves; beside = r.beside }
  first_by_rules (branch b x y) k s = record {
    gives = step1 (branch b x y ∷ todo k) s;
    moves = by_other (λ h. h) refl;
    beside = unless_beside (definedᶠ 𝔸 s b) (either (holds 𝔸 s b));
  }
    where
      either : (t : Bool) → Beside (branch b x y) (at (begin (cond t x y) ∷ k) s) (cond t (x ∷ todo k, RESULT s) (y ∷ todo k, RESULT s))
      either true = goes_on refl refl
      either false = goes_on refl refl
  first_by_rules (loop m b i v x) k s = test_by_rules m b i v x (value 𝔸 s v) zero k s
  first_by_rules (assert a) k s = record {
    gives = step1 (assert a ∷ todo k) s;
    moves = by_other (λ h. h) refl;
    beside = either (holds 𝔸 s a);
  }
    where
      either : (t : Bool)
          → Beside (assert a) (cond t (at k s) (failed false_assertion (assert a))) (cond t (todo k, RESULT s) (todo k, ERROR s))
      either true = goes_on refl refl
      either false = denied

  -- the statement that a frame begins with
  abbrev pub due_of : Frame → Stmt
  due_of (begin x) = first_of x
  due_of (again m b i v x v₀ n) = loop m b i v x

  pub step_by_rules : (f : Frame) (k : List Frame) (s : State) → ByRules (due_of f) (todo (f ∷ k)) s (step 𝔸 (at (f ∷ k) s))
  unfolding step step_of
  step_by_rules (begin x) k s = first_by_rules x k s
  step_by_rules (again m b i v x v₀ n) k s = test_by_rules m b i v x v₀ n k s
