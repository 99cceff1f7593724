-- The shape of a shortened node, from the shapes of its shortened parts alone (`arith_shape`, `join_shape`, `not_shape`):
-- what the code keeps of a part when it has read it. Assumes nothing.
use Rattle.std.specs.Prelude.{◌≡◌, refl, Bool, true, false, cond}
use Rattle.script.specs.declared.Operator.{Operator}
use Rattle.script.specs.declared.Connective.{Connective}
use Rattle.script.specs.Syntax.{Expr, Formula, truth, cmp, not, join}
use Rattle.shortening.specs.Simplify.{Shape, constant_0, constant_1, is_true, is_false, other, shape, truth_shape, Change, TruthChange, Order, arith_change, join_change, arith_changed, join_changed, arith_node, join_node, not_node}
use Rattle.shortening.specs.Simplify as Simplify

abbrev pub truth_is : Bool → Shape
truth_is b = cond b is_true is_false

abbrev pub changed_shape : Change → Shape → Shape → Shape
changed_shape Simplify.kept x y = other
changed_shape Simplify.first x y = x
changed_shape Simplify.second x y = y
changed_shape Simplify.negated_second x y = other

abbrev pub truth_changed_shape : TruthChange → Shape → Shape → Shape
truth_changed_shape Simplify.kept x y = other
truth_changed_shape Simplify.first x y = x
truth_changed_shape Simplify.second x y = y
truth_changed_shape (Simplify.value b) x y = truth_is b

-- what not becomes: the value, where its part has one
abbrev pub not_change : Shape → TruthChange
not_change is_true = Simplify.value false
not_change is_false = Simplify.value true
not_change constant_0 = Simplify.kept
not_change constant_1 = Simplify.kept
not_change other = Simplify.kept

pub arith_shape : (o : Order) (p : Operator) (a b : Expr)
    → shape (arith_node o p a b) ≡ changed_shape (arith_change o p (shape a) (shape b)) (shape a) (shape b)
unfolding arith_node
arith_shape o p a b = of_change (arith_change o p (shape a) (shape b))
  where
    of_change : (t : Change) → shape (arith_changed t p a b) ≡ changed_shape t (shape a) (shape b)
    of_change Simplify.kept = refl
    of_change Simplify.first = refl
    of_change Simplify.second = refl
    of_change Simplify.negated_second = refl

pub join_shape : (c : Connective) (f g : Formula)
    → truth_shape (join_node c f g)
    ≡ truth_changed_shape (join_change c (truth_shape f) (truth_shape g)) (truth_shape f) (truth_shape g)
unfolding join_node
join_shape c f g = of_change (join_change c (truth_shape f) (truth_shape g))
  where
    of_change : (t : TruthChange)
        → truth_shape (join_changed t c f g) ≡ truth_changed_shape t (truth_shape f) (truth_shape g)
    of_change Simplify.kept = refl
    of_change Simplify.first = refl
    of_change Simplify.second = refl
    of_change (Simplify.value b) = refl

pub not_shape : (f : Formula)
    → truth_shape (not_node f) ≡ truth_changed_shape (not_change (truth_shape f)) (truth_shape f) other
unfolding not_node
not_shape (truth true) = refl
not_shape (truth false) = refl
not_shape (cmp r a b) = refl
not_shape (not f) = refl
not_shape (join c f g) = refl
