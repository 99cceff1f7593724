-- 02, P10, what becomes of the results that change, told by P6's order alone: P10's result is P6's of the formula in which
-- every subtraction whose two sides become constant 0 is that constant (`as_zero`, `as_zeroᶠ`). So 0 − 0 "is now `1 0`,
-- and nodes around it may shrink further", and nothing else happens. Argument: the two orders differ at a node only where
-- both rules fit. Assumes nothing.
use Rattle.std.specs.Prelude.{◌≡◌, refl, Bool, true, false, cond, ◌&&◌, pos}
use Rattle.std.proofs.Common.{sym, ◌∙◌, true≢false}
use Rattle.std.proofs.lemmas.Bool.{false≢true}
use Rattle.script.specs.declared.Operator.{Operator}
use Rattle.script.specs.declared.Operator.TheVariants.{Plus, Minus, Times, Div, Mod}
use Rattle.script.specs.Syntax.{Expr, const, var, mark, arith, neg, choose, Formula, truth, cmp, not, join}
use Rattle.shortening.specs.Simplify.{constant_0, shape, only, fits, Change, zero_minus_first, minus_zero_first, arith_changed, arith_node, join_node, not_node, shorten}
use Rattle.shortening.specs.Simplify as Simplify
use Rattle.shortening.specs.Picked.{zero_is}
use Rattle.shortening.specs.Kept.{old, oldᶠ, new, newᶠ, zero_less_zero}

unfoldable mutual
  pub zeroed : Expr → Expr
  zeroed (const z) = const z
  zeroed (var v) = var v
  zeroed (mark m) = mark m
  zeroed (arith p a b) =
      cond (zero_less_zero p (shape (old (zeroed a))) (shape (old (zeroed b)))) (const (pos 0)) (arith p (zeroed a) (zeroed b))
  zeroed (neg a) = neg (zeroed a)
  zeroed (choose f a b) = choose (zeroedᶠ f) (zeroed a) (zeroed b)

  pub zeroedᶠ : Formula → Formula
  zeroedᶠ (truth b) = truth b
  zeroedᶠ (cmp r a b) = cmp r (zeroed a) (zeroed b)
  zeroedᶠ (not f) = not (zeroedᶠ f)
  zeroedᶠ (join c f g) = join c (zeroedᶠ f) (zeroedᶠ g)

-- ---- a node whose parts are shortened

-- both rules fit
node_zero : (p : Operator) (a b : Expr) → zero_less_zero p (shape a) (shape b) ≡ true
    → const (pos 0) ≡ arith_node minus_zero_first p a b
unfolding arith_node
node_zero Minus a b h = of_tests (fits (only constant_0) (shape a)) (fits (only constant_0) (shape b)) (zero_is a) h
  where
    of_tests : (x y : Bool) → (x ≡ true → a ≡ const (pos 0)) → (x && y) ≡ true
        → const (pos 0)
        ≡ arith_changed (cond y Simplify.first (cond (x && true) Simplify.negated_second Simplify.kept)) Minus a b
    of_tests true true f e = sym (f refl)
    of_tests true false f e = absurd (false≢true e)
    of_tests false y f e = absurd (false≢true e)
node_zero Plus a b h = absurd (false≢true h)
node_zero Times a b h = absurd (false≢true h)
node_zero Div a b h = absurd (false≢true h)
node_zero Mod a b h = absurd (false≢true h)

-- one of them at most
node_same : (p : Operator) (a b : Expr) → zero_less_zero p (shape a) (shape b) ≡ false
    → arith_node zero_minus_first p a b ≡ arith_node minus_zero_first p a b
unfolding arith_node
node_same Minus a b h = of_tests (fits (only constant_0) (shape a)) (fits (only constant_0) (shape b)) h
  where
    of_tests : (x y : Bool) → (x && y) ≡ false
        → arith_changed (cond (x && true) Simplify.negated_second (cond y Simplify.first Simplify.kept)) Minus a b
        ≡ arith_changed (cond y Simplify.first (cond (x && true) Simplify.negated_second Simplify.kept)) Minus a b
    of_tests true true e = absurd (true≢false e)
    of_tests true false e = refl
    of_tests false true e = refl
    of_tests false false e = refl
node_same Plus a b h = refl
node_same Times a b h = refl
node_same Div a b h = refl
node_same Mod a b h = refl

of_test : (p : Operator) (a b : Expr) (z : Bool) → zero_less_zero p (shape (old a)) (shape (old b)) ≡ z
    → arith_node minus_zero_first p (old a) (old b) ≡ old (cond z (const (pos 0)) (arith p a b))
unfolding shorten
of_test p a b true e = sym (node_zero p (old a) (old b) e)
of_test p a b false e = sym (node_same p (old a) (old b) e)

-- ---- expressions and formulas

mutual
  unfolding zeroed shorten

  pub as_zero : (e : Expr) → new e ≡ old (zeroed e)
  as_zero (const z) = refl
  as_zero (var v) = refl
  as_zero (mark m) = refl
  as_zero (arith p a b) =
      let x = old (zeroed a) in
      let y = old (zeroed b) in
      (λ i. arith_node minus_zero_first p (as_zero a i) (as_zero b i))
      ∙ of_test p (zeroed a) (zeroed b) (zero_less_zero p (shape x) (shape y)) refl
  as_zero (neg a) = λ i. neg (as_zero a i)
  as_zero (choose f a b) = λ i. choose (as_zeroᶠ f i) (as_zero a i) (as_zero b i)

  pub as_zeroᶠ : (f : Formula) → newᶠ f ≡ oldᶠ (zeroedᶠ f)
  as_zeroᶠ (truth b) = refl
  as_zeroᶠ (cmp r a b) = λ i. cmp r (as_zero a i) (as_zero b i)
  as_zeroᶠ (not f) = λ i. not_node (as_zeroᶠ f i)
  as_zeroᶠ (join c f g) = λ i. join_node c (as_zeroᶠ f i) (as_zeroᶠ g i)
