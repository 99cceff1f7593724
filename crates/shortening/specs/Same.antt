-- "Each new condition holds in the same states as its old one": `holds_same`, for any arithmetic, in the states of its
-- values; `same_everywhere`, in every state, where every number is a value; `whole_same`, for the whole numbers. Of an
-- arithmetic it asks six laws, on the values that its states, constants and results can be (`Laws.Lawful`). Argument:
-- each rule keeps the value at a node, so the rule picked does; then by induction. Assumes nothing.
use Rattle.std.specs.Prelude.{◌≡◌, Bool, cond, ℤ, pos}
use Rattle.std.proofs.Math.Path.{refl, ap}
use Rattle.std.proofs.Common.{sym, ◌∙◌, subst}
use Rattle.std.proofs.Math.Bool.{true, false}
use Rattle.std.proofs.Math.Bool as Bool
use Rattle.script.specs.declared.Operator.{Operator}
use Rattle.script.specs.declared.Operator.TheVariants.{Plus, Minus, Times, Div, Mod}
use Rattle.script.specs.declared.Connective.{Connective}
use Rattle.script.specs.declared.Connective.TheVariants.{And, Or, Implies}
use Rattle.script.specs.Syntax.{Expr, const, var, mark, arith, neg, choose, Formula, truth, cmp, not, join}
use Rattle.script.specs.Meaning.{State, Arithmetic, whole, relate, connect, value, holds}
use Rattle.shortening.specs.Simplify.{constant_0, constant_1, shape, truth_shape, only, fits, Change, TruthChange, Order, zero_minus_first, minus_zero_first, arith_rules, join_rules, arith_changed, join_changed, arith_node, join_node, not_node, shorten, shortenᶠ}
use Rattle.shortening.specs.Simplify as Simplify
use Rattle.shortening.specs.Leaves.{Constants, Constantsᶠ}
use Rattle.shortening.specs.Picked.{Each, picked, zero_is, one_is, true_is, false_is}
use Rattle.shortening.specs.Laws.{Lawful, StateIn, All, whole_law}

-- ---- formulas at a node

module _ (𝔸 : Arithmetic) (s : State) where
  truth_of : (f : Formula) (b : Bool) → f ≡ truth b → holds 𝔸 s f ≡ b
  unfolding holds
  truth_of f b e = ap (holds 𝔸 s) e

  abbrev Keeps : Connective → Formula → Formula → TruthChange → Type 0
  Keeps c f g t = holds 𝔸 s (join_changed t c f g) ≡ connect c (holds 𝔸 s f) (holds 𝔸 s g)

  join_each : (c : Connective) (f g : Formula) → Each (Keeps c f g) (join_rules c) (truth_shape f) (truth_shape g)
  unfolding holds
  join_each And f g = (
    λ h k. rw (truth_of f true (true_is f h)),
    (
      λ h k. rw (truth_of g true (true_is g k)) (sym (Bool.and-true (holds 𝔸 s f))),
      (
        λ h k. rw (truth_of f false (false_is f h)),
        (λ h k. rw (truth_of g false (false_is g k)) (sym (Bool.and-false (holds 𝔸 s f))), tt),
      ),
    ),
  )
  join_each Or f g = tt
  join_each Implies f g = (
    λ h k. rw (truth_of f true (true_is f h)),
    (
      λ h k. rw (truth_of f false (false_is f h)),
      (λ h k. rw (truth_of g true (true_is g k)) (sym (Bool.or-true (Bool.not (holds 𝔸 s f)))), tt),
    ),
  )

  join_same : (c : Connective) (f g : Formula) → holds 𝔸 s (join_node c f g) ≡ connect c (holds 𝔸 s f) (holds 𝔸 s g)
  unfolding join_node holds
  join_same c f g =
      picked (Keeps c f g) Simplify.kept (join_rules c) (truth_shape f) (truth_shape g) refl (join_each c f g)

  not_same : (f : Formula) → holds 𝔸 s (not_node f) ≡ Bool.not (holds 𝔸 s f)
  unfolding not_node holds
  not_same (truth b) = refl
  not_same (cmp r a b) = refl
  not_same (not f) = refl
  not_same (join c f g) = refl

-- ---- expressions at a node, and the trees

module _ (𝔸 : Arithmetic) (In : ℤ → Type 0) (law : Lawful 𝔸 In) (s : State) (inside : StateIn In s) where
  mutual
    unfolding value

    pub value_in : (e : Expr) → Constants In e → In (value 𝔸 s e)
    value_in (const z) k = k
    value_in (var v) k = inside.vars v
    value_in (mark m) k = inside.marks m
    value_in (arith p a b) k = law.op_in p (value 𝔸 s a) (value 𝔸 s b) (value_in a k.0) (value_in b k.1)
    value_in (neg a) k = law.neg_in (value 𝔸 s a) (value_in a k)
    value_in (choose f a b) k = chosen (holds 𝔸 s f) (value 𝔸 s a) (value 𝔸 s b) (value_in a k.1) (value_in b k.2)
      where
        chosen : (t : Bool) (x y : ℤ) → In x → In y → In (cond t x y)
        chosen true x y h l = h
        chosen false x y h l = l

  zero_value : (e : Expr) → fits (only constant_0) (shape e) ≡ true → value 𝔸 s e ≡ pos 0
  unfolding value
  zero_value e h = ap (value 𝔸 s) (zero_is e h)

  one_value : (e : Expr) → fits (only constant_1) (shape e) ≡ true → value 𝔸 s e ≡ pos 1
  unfolding value
  one_value e h = ap (value 𝔸 s) (one_is e h)

  module _ (a b : Expr) (ha : In (value 𝔸 s a)) (hb : In (value 𝔸 s b)) where
    abbrev KeepsValue : Operator → Change → Type 0
    KeepsValue p t = value 𝔸 s (arith_changed t p a b) ≡ 𝔸.op p (value 𝔸 s a) (value 𝔸 s b)

    zero_minus_keeps : fits (only constant_0) (shape a) ≡ true → KeepsValue Minus Simplify.negated_second
    unfolding value
    zero_minus_keeps h = rw (zero_value a h) (sym (law.zero_minus (value 𝔸 s b) hb))

    minus_zero_keeps : fits (only constant_0) (shape b) ≡ true → KeepsValue Minus Simplify.first
    minus_zero_keeps h = rw (zero_value b h) (sym (law.minus_zero (value 𝔸 s a) ha))

    arith_each : (o : Order) (p : Operator) → Each (KeepsValue p) (arith_rules o p) (shape a) (shape b)
    arith_each o Plus = (
      λ h k. rw (zero_value b k) (sym (law.plus_zero (value 𝔸 s a) ha)),
      (λ h k. rw (zero_value a h) (sym (law.zero_plus (value 𝔸 s b) hb)), tt),
    )
    arith_each zero_minus_first Minus = (λ h k. zero_minus_keeps h, (λ h k. minus_zero_keeps k, tt))
    arith_each minus_zero_first Minus = (λ h k. minus_zero_keeps k, (λ h k. zero_minus_keeps h, tt))
    arith_each o Times = (
      λ h k. rw (one_value b k) (sym (law.times_one (value 𝔸 s a) ha)),
      (λ h k. rw (one_value a h) (sym (law.one_times (value 𝔸 s b) hb)), tt),
    )
    arith_each o Div = tt
    arith_each o Mod = tt

    arith_same : (o : Order) (p : Operator) → value 𝔸 s (arith_node o p a b) ≡ 𝔸.op p (value 𝔸 s a) (value 𝔸 s b)
    unfolding arith_node value
    arith_same o p = picked (KeepsValue p) Simplify.kept (arith_rules o p) (shape a) (shape b) refl (arith_each o p)

  module _ (o : Order) where
    mutual
      unfolding value shorten

      pub value_same : (e : Expr) → Constants In e → value 𝔸 s (shorten o e) ≡ value 𝔸 s e
      value_same (const z) k = refl
      value_same (var v) k = refl
      value_same (mark m) k = refl
      value_same (arith p a b) k =
          let x = value_same a k.0 in
          let y = value_same b k.1 in
          let ha = subst In (sym x) (value_in a k.0) in
          let hb = subst In (sym y) (value_in b k.1) in
          arith_same (shorten o a) (shorten o b) ha hb o p ∙ λ i. 𝔸.op p (x i) (y i)
      value_same (neg a) k = λ i. 𝔸.neg (value_same a k i)
      value_same (choose f a b) k = λ i. cond (holds_same f k.0 i) (value_same a k.1 i) (value_same b k.2 i)

      pub holds_same : (f : Formula) → Constantsᶠ In f → holds 𝔸 s (shortenᶠ o f) ≡ holds 𝔸 s f
      holds_same (truth b) k = refl
      holds_same (cmp r a b) k = λ i. relate r (value_same a k.0 i) (value_same b k.1 i)
      holds_same (not f) k = not_same 𝔸 s (shortenᶠ o f) ∙ λ i. Bool.not (holds_same f k i)
      holds_same (join c f g) k =
          join_same 𝔸 s c (shortenᶠ o f) (shortenᶠ o g) ∙ λ i. connect c (holds_same f k.0 i) (holds_same g k.1 i)

-- ---- where every number is a value, as it is of the whole numbers

mutual
  any_constants : (e : Expr) → Constants All e
  any_constants (const z) = tt
  any_constants (var v) = tt
  any_constants (mark m) = tt
  any_constants (arith p a b) = (any_constants a, any_constants b)
  any_constants (neg a) = any_constants a
  any_constants (choose f a b) = (any_constantsᶠ f, any_constants a, any_constants b)

  any_constantsᶠ : (f : Formula) → Constantsᶠ All f
  any_constantsᶠ (truth b) = tt
  any_constantsᶠ (cmp r a b) = (any_constants a, any_constants b)
  any_constantsᶠ (not f) = any_constantsᶠ f
  any_constantsᶠ (join c f g) = (any_constantsᶠ f, any_constantsᶠ g)

pub same_everywhere : (𝔸 : Arithmetic) → Lawful 𝔸 All → (o : Order) (s : State) (f : Formula)
    → holds 𝔸 s (shortenᶠ o f) ≡ holds 𝔸 s f
same_everywhere 𝔸 law o s f = holds_same 𝔸 All law s (record { vars = λ v. tt; marks = λ m. tt }) o f (any_constantsᶠ f)

pub whole_same : (o : Order) (s : State) (f : Formula) → holds whole s (shortenᶠ o f) ≡ holds whole s f
whole_same = same_everywhere whole whole_law
