-- Why a run fails, and at which statement, for any arithmetic. `Fails` has the four ways: an assigned expression, an if's guard
-- or a while's guard that works out a zero divisor, and an assertion that is false. The next step fails for a cause at a
-- statement exactly where that statement is due and fails so (`fails_iff`); so a run has failed for a cause at a statement after
-- n steps exactly where at some moment before n that statement was due and failed so (`failed_run`; from any configuration
-- `failed_from`), never at a sequence (`failed_no_sequence`).
-- Argument: a statement due has one test and one cause; its step goes on where the test passes and else fails for the cause
-- (`steps`). Assumes nothing.
use Prim.Native.Nat.{ℕ, zero, suc, ◌<◌}
use Rattle.std.proofs.Common.{arith as linear, ap₂, ◌∙◌, subst}
use Rattle.std.specs.Prelude.{◌≡◌, ◌↔◌, Bool, cond, ℤ}
use Rattle.std.proofs.Math.Path.{refl, sym, ap}
use Rattle.std.proofs.Math.Option.{Option, none, some}
use mathlib.Core.List.{List, [], ◌∷◌}
use Rattle.std.proofs.Math.Bool.{true, false}
use Rattle.std.proofs.lemmas.Bool.{false≢true}
use Rattle.script.specs.Syntax.{Expr, Formula, Stmt, skip, assign, seq, branch, loop, assert, Tree}
use Rattle.script.specs.Meaning.{Arithmetic, State, value, holds, defined, definedᶠ}
use Rattle.script.specs.Run.{set_mark, Frame, begin, again, Cause, false_assertion, zero_divisor, Config, at, failed, unless_zero, test, first_step, step_of, step, after, start}
use Rattle.theorems.specs.Options.{none_is_not, some_inj}
use Rattle.theorems.specs.Due.{first_of, due, Sequence, due_no_sequence}
use Rattle.theorems.specs.ZeroDivisors.{Zero, Zeroᶠ, zero_iff, zero_iffᶠ}

-- ---- configurations

going : {X : Type 0} {k : List Frame} {s : State} {c : Cause} {x : Stmt} → at k s ≡ failed c x → X
going e = absurd (let z : ◌≡◌ {A = ℕ} 0 1 = cc in omega linear)

cause_of : Config → Cause
cause_of (at k s) = zero_divisor
cause_of (failed c x) = c

statement_of : Config → Stmt
statement_of (at k s) = skip
statement_of (failed c x) = x

same_cause : {c d : Cause} {x y : Stmt} → failed c x ≡ failed d y → c ≡ d
unfolding cause_of
same_cause e = ap cause_of e

same_statement : {c d : Cause} {x y : Stmt} → failed c x ≡ failed d y → x ≡ y
unfolding statement_of
same_statement e = ap statement_of e

-- ---- the ways to fail

module _ (𝔸 : Arithmetic) (s : State) where
  pub data Fails : Cause → Stmt → Type 0 where
    -- "a guard or assigned expression that works out a div or mod by zero"
    assigned : {v : ℕ} {e : Expr} → Zero 𝔸 s e → Fails zero_divisor (assign v e)
    if_guard : {b : Formula} {x y : Stmt} → Zeroᶠ 𝔸 s b → Fails zero_divisor (branch b x y)
    while_guard : {m : ℕ} {b i : Formula} {v : Expr} {x : Stmt} → Zeroᶠ 𝔸 s b → Fails zero_divisor (loop m b i v x)
    -- "where false the run stops there as failed"
    asserted : {a : Formula} → holds 𝔸 s a ≡ false → Fails false_assertion (assert a)

  -- the test of a statement due
  abbrev passes : Stmt → Bool
  passes skip = true
  passes (assign v e) = defined 𝔸 s e
  passes (seq a b) = true
  passes (branch b x y) = definedᶠ 𝔸 s b
  passes (loop m b i v x) = definedᶠ 𝔸 s b
  passes (assert a) = holds 𝔸 s a

  -- the cause for which it can fail
  abbrev cause_for : Stmt → Cause
  cause_for skip = zero_divisor
  cause_for (assign v e) = zero_divisor
  cause_for (seq a b) = zero_divisor
  cause_for (branch b x y) = zero_divisor
  cause_for (loop m b i v x) = zero_divisor
  cause_for (assert a) = false_assertion

  its_cause : {c : Cause} {x : Stmt} → Fails c x → cause_for x ≡ c
  its_cause (assigned z) = refl
  its_cause (if_guard z) = refl
  its_cause (while_guard z) = refl
  its_cause (asserted h) = refl

  its_test : {c : Cause} {x : Stmt} → Fails c x → passes x ≡ false
  its_test (assigned {v} {e} z) = (zero_iff 𝔸 s e).1 z
  its_test (if_guard {b} z) = (zero_iffᶠ 𝔸 s b).1 z
  its_test (while_guard {m} {b} z) = (zero_iffᶠ 𝔸 s b).1 z
  its_test (asserted h) = h

  not_passed : (x : Stmt) → passes x ≡ false → Fails (cause_for x) x
  not_passed skip h = absurd (false≢true (sym h))
  not_passed (assign v e) h = assigned ((zero_iff 𝔸 s e).0 h)
  not_passed (seq a b) h = absurd (false≢true (sym h))
  not_passed (branch b x y) h = if_guard ((zero_iffᶠ 𝔸 s b).0 h)
  not_passed (loop m b i v x) h = while_guard ((zero_iffᶠ 𝔸 s b).0 h)
  not_passed (assert a) h = asserted h

  -- ---- a step

  -- what a step comes to: nothing was due, or a statement was and had its test
  data Steps (g : Config) : Option Stmt → Type 0 where
    none_due : {r : State} → g ≡ at [] r → Steps g none
    tested : {y : Stmt} (k : List Frame) (r : State) → g ≡ cond (passes y) (at k r) (failed (cause_for y) y) → Steps g (some y)

  guard_tested : (m : ℕ) (b i : Formula) (v : Expr) (x : Stmt) (v₀ : ℤ) (n : ℕ) (k : List Frame)
      → Steps (test 𝔸 m b i v x v₀ n k s) (some (loop m b i v x))
  unfolding test
  guard_tested m b i v x v₀ n k = either (holds 𝔸 s b)
    where
      either : (t : Bool)
          → Steps
          (unless_zero (definedᶠ 𝔸 s b) (loop m b i v x)
          (cond t (at (begin x ∷ again m b i v x v₀ (suc n) ∷ k) (set_mark s m (value 𝔸 s v))) (at k s)))
          (some (loop m b i v x))
      either true = tested _ _ refl
      either false = tested _ _ refl

  first_steps : (x : Stmt) (k : List Frame) → Steps (first_step 𝔸 x k s) (some (first_of x))
  unfolding first_step
  first_steps skip k = tested _ _ refl
  first_steps (assign v e) k = tested _ _ refl
  first_steps (seq a b) k = first_steps a (begin b ∷ k)
  first_steps (branch b x y) k = tested _ _ refl
  first_steps (loop m b i v x) k = guard_tested m b i v x (value 𝔸 s v) zero k
  first_steps (assert a) k = tested _ _ refl

  steps : (k : List Frame) → Steps (step 𝔸 (at k s)) (due k)
  unfolding step step_of
  steps [] = none_due refl
  steps (begin x ∷ k) = first_steps x k
  steps (again m b i v x v₀ n ∷ k) = guard_tested m b i v x v₀ n k

  fails_at : (c : Cause) (x : Stmt) {g : Config} {o : Option Stmt} → Steps g o → (g ≡ failed c x) ↔ ((o ≡ some x) × Fails c x)
  fails_at c x (none_due e) = (λ q. going (sym e ∙ q), λ h. none_is_not h.0)
  fails_at c x (tested {y} k r e) = (λ q. told (passes y) refl (sym e ∙ q), λ h. e ∙ stops (some_inj h.0) h.1)
    where
      told : (t : Bool) → passes y ≡ t → cond t (at k r) (failed (cause_for y) y) ≡ failed c x → (some y ≡ some x) × Fails c x
      told true p q = going q
      told false p q =
          let same = same_statement q in
          (ap some same, subst (λ (z : Stmt). Fails c z) same (subst (λ (d : Cause). Fails d y) (same_cause q) (not_passed y p)))

      stops : y ≡ x → Fails c x → cond (passes y) (at k r) (failed (cause_for y) y) ≡ failed c x
      stops same f =
          let here = subst (λ (z : Stmt). Fails c z) (sym same) f in
          ap (λ t. cond t (at k r) (failed (cause_for y) y)) (its_test here) ∙ ap₂ failed (its_cause here) same

  pub fails_iff : (k : List Frame) (c : Cause) (x : Stmt) → (step 𝔸 (at k s) ≡ failed c x) ↔ ((due k ≡ some x) × Fails c x)
  fails_iff k c x = fails_at c x (steps k)

-- ---- a run that has failed

module _ (𝔸 : Arithmetic) where
  -- from g, at a moment before n, the run was in a state in which the statement x was due and fails for the cause c
  pub record FailedAt (n : ℕ) (g : Config) (c : Cause) (x : Stmt) : Type 0 where
    pub moment : ℕ
    pub earlier : moment < n
    pub frames : List Frame
    pub state : State
    pub comes : after 𝔸 moment g ≡ at frames state
    pub is_due : due frames ≡ some x
    pub fails : Fails 𝔸 state c x

  stays : (n : ℕ) (c : Cause) (x : Stmt) → after 𝔸 n (failed c x) ≡ failed c x
  unfolding after step
  stays zero c x = refl
  stays (suc n) c x = stays n c x

  fell : (n : ℕ) (k : List Frame) (s : State) (c : Cause) (x : Stmt) → after 𝔸 n (at k s) ≡ failed c x → FailedAt n (at k s) c x
  unfolding after
  fell zero k s c x e = going e
  fell (suc n) k s c x e = by_step (λ l r h. fell n l r c x h) (step 𝔸 (at k s)) refl
    where
      by_step : ((l : List Frame) (r : State) → after 𝔸 n (at l r) ≡ failed c x → FailedAt n (at l r) c x)
          → (g : Config) → step 𝔸 (at k s) ≡ g → FailedAt (suc n) (at k s) c x
      by_step rest (at l r) q =
          let later = rest l r (ap (λ h. after 𝔸 n h) (sym q) ∙ e) in
          let before = later.earlier in
          record {
            moment = suc later.moment;
            earlier = omega linear;
            frames = later.frames;
            state = later.state;
            comes = ap (λ h. after 𝔸 later.moment h) q ∙ later.comes;
            is_due = later.is_due;
            fails = later.fails;
          }
      by_step rest (failed d y) q =
          let told = (fails_iff 𝔸 s k c x).0 (q ∙ sym (stays n d y) ∙ ap (λ h. after 𝔸 n h) (sym q) ∙ e) in
          record { moment = 0; earlier = omega linear; frames = k; state = s; comes = refl; is_due = told.0; fails = told.1 }

  -- from a moment whose step fails, the run has failed
  falls : (m n : ℕ) (g : Config) {k : List Frame} {s : State} {c : Cause} {x : Stmt} → m < n → after 𝔸 m g ≡ at k s
      → step 𝔸 (at k s) ≡ failed c x → after 𝔸 n g ≡ failed c x
  unfolding after
  falls m zero g l e f = absurd (omega linear)
  falls zero (suc n) g {k} {s} {c} {x} l e f = ap (λ h. after 𝔸 n (step 𝔸 h)) e ∙ ap (λ h. after 𝔸 n h) f ∙ stays n c x
  falls (suc m) (suc n) g l e f = falls m n (step 𝔸 g) (omega linear) e f

  -- from any frames and state
  pub failed_from : (k : List Frame) (s : State) (n : ℕ) (c : Cause) (x : Stmt)
      → (after 𝔸 n (at k s) ≡ failed c x) ↔ FailedAt n (at k s) c x
  failed_from k s n c x = (fell n k s c x, fallen)
    where
      fallen : FailedAt n (at k s) c x → after 𝔸 n (at k s) ≡ failed c x
      fallen h =
          falls h.moment n (at k s) h.earlier h.comes
          ((fails_iff 𝔸 h.state h.frames c x).1 (h.is_due, h.fails))

  pub failed_run : (t : Tree) (s : State) (n : ℕ) (c : Cause) (x : Stmt)
      → (after 𝔸 n (start t s) ≡ failed c x) ↔ FailedAt n (start t s) c x
  failed_run t s n c x = failed_from _ s n c x

  pub failed_no_sequence : (t : Tree) (s : State) (n : ℕ) (c : Cause) (x : Stmt) → after 𝔸 n (start t s) ≡ failed c x → ¬ Sequence x
  failed_no_sequence t s n c x e = let f = (failed_run t s n c x).0 e in due_no_sequence f.frames x f.is_due
