-- 02, P10: which results, in P6's order, "kept a subtraction whose two sides had both become constant 0" (`keeps`,
-- `keepsᶠ`; of a list `some_keeps`). P6's order makes a negated zero, `8 1 0`, of such a subtraction; it is kept where
-- that is left in the result, and not in a part that a rule dropped. A side is looked at as it became. A negate of 0 that
-- stands in the condition itself is no subtraction. Assumes nothing.
use Rattle.std.specs.Prelude.{List, [], ◌∷◌, Bool, false, ◌&&◌, ◌||◌}
use Rattle.script.specs.declared.Operator.{Operator}
use Rattle.script.specs.declared.Operator.TheVariants.{Plus, Minus, Times, Div, Mod}
use Rattle.script.specs.declared.Connective.{Connective}
use Rattle.script.specs.Syntax.{Expr, const, var, mark, arith, neg, choose, Formula, truth, cmp, not, join}
use Rattle.script.specs.Conditions.{Condition}
use Rattle.shortening.specs.Simplify.{Shape, constant_0, shape, truth_shape, only, fits, Change, TruthChange, zero_minus_first, minus_zero_first, arith_change, join_change, shorten, shortenᶠ, shorten_all}
use Rattle.shortening.specs.Simplify as Simplify

-- ---- P6's results, and P10's

abbrev pub old : Expr → Expr
old e = shorten zero_minus_first e

abbrev pub oldᶠ : Formula → Formula
oldᶠ f = shortenᶠ zero_minus_first f

abbrev pub old_all : List Condition → List Condition
old_all cs = shorten_all zero_minus_first cs

abbrev pub new : Expr → Expr
new e = shorten minus_zero_first e

abbrev pub newᶠ : Formula → Formula
newᶠ f = shortenᶠ minus_zero_first f

abbrev pub new_all : List Condition → List Condition
new_all cs = shorten_all minus_zero_first cs

-- ---- a node, by the shapes that its parts became, and by whether each keeps one

-- "a subtraction whose two sides had both become constant 0"
abbrev pub zero_less_zero : Operator → Shape → Shape → Bool
zero_less_zero Minus x y = fits (only constant_0) x && fits (only constant_0) y
zero_less_zero Plus x y = false
zero_less_zero Times x y = false
zero_less_zero Div x y = false
zero_less_zero Mod x y = false

-- "kept": in the parts that are left in what the node became
abbrev pub in_parts : Change → Bool → Bool → Bool
in_parts Simplify.kept k l = k || l
in_parts Simplify.first k l = k
in_parts Simplify.second k l = l
in_parts Simplify.negated_second k l = l

abbrev pub in_partsᶠ : TruthChange → Bool → Bool → Bool
in_partsᶠ Simplify.kept k l = k || l
in_partsᶠ Simplify.first k l = k
in_partsᶠ Simplify.second k l = l
in_partsᶠ (Simplify.value b) k l = false

abbrev pub node_keeps : Operator → Shape → Shape → Bool → Bool → Bool
node_keeps p x y k l = zero_less_zero p x y || in_parts (arith_change zero_minus_first p x y) k l

abbrev pub node_keepsᶠ : Connective → Shape → Shape → Bool → Bool → Bool
node_keepsᶠ c x y k l = in_partsᶠ (join_change c x y) k l

-- ---- expressions, formulas, conditions

unfoldable mutual
  pub keeps : Expr → Bool
  keeps (const z) = false
  keeps (var v) = false
  keeps (mark m) = false
  keeps (arith p a b) = node_keeps p (shape (old a)) (shape (old b)) (keeps a) (keeps b)
  keeps (neg a) = keeps a
  keeps (choose f a b) = keepsᶠ f || (keeps a || keeps b)

  pub keepsᶠ : Formula → Bool
  keepsᶠ (truth b) = false
  keepsᶠ (cmp r a b) = keeps a || keeps b
  keepsᶠ (not f) = keepsᶠ f
  keepsᶠ (join c f g) = node_keepsᶠ c (truth_shape (oldᶠ f)) (truth_shape (oldᶠ g)) (keepsᶠ f) (keepsᶠ g)

abbrev pub some_keeps : List Condition → Bool
some_keeps [] = false
some_keeps (c ∷ cs) = keepsᶠ c.claim || some_keeps cs
