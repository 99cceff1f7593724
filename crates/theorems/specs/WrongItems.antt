-- D of 02, P5, with what a wrong turn changes as fields (`Items`); with the right fields it is D (`right_divisors`,
-- `right_divisorsᶠ`). Assumes nothing.
use Rattle.std.specs.Prelude.{◌≡◌, refl}
use Rattle.std.proofs.Common.{ap, ap₂, ◌∙◌}
use Rattle.std.proofs.Math.Option.{Option, none}
use Rattle.script.specs.declared.Operator.{Operator}
use Rattle.script.specs.declared.Connective.{Connective}
use Rattle.script.specs.Syntax.{Expr, const, var, mark, arith, neg, choose, Formula, truth, cmp, not, join}
use Rattle.script.specs.Conditions.{◌joined◌, behind, divisor, divisors, divisorsᶠ}

pub record Items : Type 0 where
  -- of an operator and its second operand
  pub divided_by : Operator → Expr → Option Formula
  -- the D of two operands, and the item of the divisor
  pub operands : Option Formula → Option Formula → Option Formula → Option Formula
  -- the formula of a choose, its D, and the D of the branches
  pub chosen : Formula → Option Formula → Option Formula → Option Formula → Option Formula
  -- a connective, its first side, and the D of both sides
  pub sides : Connective → Formula → Option Formula → Option Formula → Option Formula

module _ (I : Items) where
  unfoldable mutual
    pub divisors_by : Expr → Option Formula
    divisors_by (const z) = none
    divisors_by (var v) = none
    divisors_by (mark m) = none
    divisors_by (arith o a b) = I.operands (divisors_by a) (divisors_by b) (I.divided_by o b)
    divisors_by (neg a) = divisors_by a
    divisors_by (choose f a b) = I.chosen f (divisors_byᶠ f) (divisors_by a) (divisors_by b)

    pub divisors_byᶠ : Formula → Option Formula
    divisors_byᶠ (truth b) = none
    divisors_byᶠ (cmp r a b) = divisors_by a joined divisors_by b
    divisors_byᶠ (not f) = divisors_byᶠ f
    divisors_byᶠ (join c f g) = I.sides c f (divisors_byᶠ f) (divisors_byᶠ g)

abbrev pub right_items : Items
right_items = record {
  divided_by = divisor;
  operands = λ x y d. x joined y joined d;
  chosen = λ f p x y. p joined behind f x joined behind (not f) y;
  sides = λ c f x y. x joined y;
}

mutual
  unfolding divisors_by divisors_byᶠ divisors divisorsᶠ

  pub right_divisors : (e : Expr) → divisors_by right_items e ≡ divisors e
  right_divisors (const z) = refl
  right_divisors (var v) = refl
  right_divisors (mark m) = refl
  right_divisors (arith o a b) = ap₂ (λ x y. x joined y joined divisor o b) (right_divisors a) (right_divisors b)
  right_divisors (neg a) = right_divisors a
  right_divisors (choose f a b) =
      ap₂ (λ x y. x joined behind f y joined behind (not f) (divisors_by right_items b)) (right_divisorsᶠ f) (right_divisors a)
      ∙ ap (λ y. divisorsᶠ f joined behind f (divisors a) joined behind (not f) y) (right_divisors b)

  pub right_divisorsᶠ : (f : Formula) → divisors_byᶠ right_items f ≡ divisorsᶠ f
  right_divisorsᶠ (truth b) = refl
  right_divisorsᶠ (cmp r a b) = ap₂ ◌joined◌ (right_divisors a) (right_divisors b)
  right_divisorsᶠ (not f) = right_divisorsᶠ f
  right_divisorsᶠ (join c f g) = ap₂ ◌joined◌ (right_divisorsᶠ f) (right_divisorsᶠ g)
