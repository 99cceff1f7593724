-- Shapes and changes as small numbers, and what a node with one or two parts becomes, by its kind and the numbers of its
-- parts' shapes. Assumes nothing.
use Rattle.std.specs.Prelude.{ℕ, zero, suc, ◌<◌, ◌≡◌, refl, Bool, true, false, cond, eqb}
use Rattle.std.proofs.Common.{arith, ne_eqb}
use Rattle.script.specs.declared.Operator.TheVariants.{Plus, Minus, Times}
use Rattle.script.specs.declared.Connective.TheVariants.{And, Implies}
use Rattle.shortening.specs.Simplify.{Shape, constant_0, constant_1, is_true, is_false, other, shape_number, Change, TruthChange, order, arith_change, join_change}
use Rattle.shortening.specs.Simplify as Simplify
use Rattle.shortening.specs.Shapes.{not_change, changed_shape, truth_changed_shape}

-- an entry by its numbers: where the node ends, its shape when it is shortened, and what it becomes
pub record Coded : Type 0 where
  pub end : ℕ
  pub shape : ℕ
  pub change : ℕ

-- the shape that a number stands for
abbrev pub shaped : ℕ → Shape
shaped zero = constant_0
shaped (suc zero) = constant_1
shaped (suc (suc zero)) = is_true
shaped (suc (suc (suc zero))) = is_false
shaped (suc (suc (suc (suc n)))) = other

pub shaped_number : (x : Shape) → shaped (shape_number x) ≡ x
shaped_number constant_0 = refl
shaped_number constant_1 = refl
shaped_number is_true = refl
shaped_number is_false = refl
shaped_number other = refl

-- a number that is not k, where k is that of one shape, stands for another shape
pub is_not : (x k : ℕ) → k < 4 → (x ≡ k → ⊥) → eqb (shape_number (shaped x)) k ≡ false
is_not zero k h n = ne_eqb 0 k n
is_not (suc zero) k h n = ne_eqb 1 k n
is_not (suc (suc zero)) k h n = ne_eqb 2 k n
is_not (suc (suc (suc zero))) k h n = ne_eqb 3 k n
is_not (suc (suc (suc (suc m)))) k h n = ne_eqb 4 k (λ e. omega arith)

-- ---- what becomes of a node

-- it stays
abbrev pub kept_code : ℕ
kept_code = 0

-- it stays, and has a number
abbrev pub numbered_code : ℕ
numbered_code = 1

abbrev pub first_code : ℕ
first_code = 2

abbrev pub second_code : ℕ
second_code = 3

abbrev pub negated_code : ℕ
negated_code = 4

abbrev pub truth_code : Bool → ℕ
truth_code b = cond b 5 6

-- its parent drops it
abbrev pub passed_code : ℕ
passed_code = 7

abbrev pub change_code : Change → ℕ
change_code Simplify.kept = kept_code
change_code Simplify.first = first_code
change_code Simplify.second = second_code
change_code Simplify.negated_second = negated_code

abbrev pub truth_change_code : TruthChange → ℕ
truth_change_code Simplify.kept = kept_code
truth_change_code Simplify.first = first_code
truth_change_code Simplify.second = second_code
truth_change_code (Simplify.value b) = truth_code b

abbrev pub other_code : ℕ
other_code = shape_number other

-- of a not
unfoldable pub not_code : ℕ → ℕ
not_code x = truth_change_code (not_change (shaped x))

-- of a node of two parts, by its kind; that of an operator or a connective without rules stays
unfoldable pub pair_code : ℕ → ℕ → ℕ → ℕ
pair_code k x y =
    cond (eqb k 3) (change_code (arith_change order Plus (shaped x) (shaped y)))
    (cond (eqb k 4) (change_code (arith_change order Minus (shaped x) (shaped y)))
    (cond (eqb k 5) (change_code (arith_change order Times (shaped x) (shaped y)))
    (cond (eqb k 23) (truth_change_code (join_change And (shaped x) (shaped y)))
    (cond (eqb k 25) (truth_change_code (join_change Implies (shaped x) (shaped y))) kept_code))))

pub other_pair : (k : ℕ) → (k ≡ 3 → ⊥) → (k ≡ 4 → ⊥) → (k ≡ 5 → ⊥) → (k ≡ 23 → ⊥) → (k ≡ 25 → ⊥) → (x y : ℕ) → kept_code ≡ pair_code k x y
unfolding pair_code
other_pair k h₃ h₄ h₅ h₂₃ h₂₅ x y = rw (ne_eqb k 3 h₃, ne_eqb k 4 h₄, ne_eqb k 5 h₅, ne_eqb k 23 h₂₃, ne_eqb k 25 h₂₅)

-- the shape of what a node becomes
unfoldable pub changed_shape_code : ℕ → ℕ → ℕ → ℕ
changed_shape_code t x y =
    cond (eqb t first_code) x
    (cond (eqb t second_code) y
    (cond (eqb t (truth_code true)) (shape_number is_true)
    (cond (eqb t (truth_code false)) (shape_number is_false) other_code)))

pub changed_shape_is : (t : Change) (x y : Shape)
    → changed_shape_code (change_code t) (shape_number x) (shape_number y) ≡ shape_number (changed_shape t x y)
unfolding changed_shape_code
changed_shape_is Simplify.kept x y = refl
changed_shape_is Simplify.first x y = refl
changed_shape_is Simplify.second x y = refl
changed_shape_is Simplify.negated_second x y = refl

pub truth_changed_shape_is : (t : TruthChange) (x y : Shape)
    → changed_shape_code (truth_change_code t) (shape_number x) (shape_number y) ≡ shape_number (truth_changed_shape t x y)
unfolding changed_shape_code
truth_changed_shape_is Simplify.kept x y = refl
truth_changed_shape_is Simplify.first x y = refl
truth_changed_shape_is Simplify.second x y = refl
truth_changed_shape_is (Simplify.value true) x y = refl
truth_changed_shape_is (Simplify.value false) x y = refl

pub not_kept : (x : ℕ) → (x ≡ 2 → ⊥) → (x ≡ 3 → ⊥) → 0 ≡ not_code x
unfolding not_code
not_kept zero h k = refl
not_kept (suc zero) h k = refl
not_kept (suc (suc zero)) h k = absurd (h refl)
not_kept (suc (suc (suc zero))) h k = absurd (k refl)
not_kept (suc (suc (suc (suc n)))) h k = refl
