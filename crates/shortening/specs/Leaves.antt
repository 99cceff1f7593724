-- Shortening puts in no number: what holds of every variable, mark and constant that went in holds of those that come out
-- (`shorten_leaves`). So what is in range stays so (`shorten_in_rangeᶠ`), and constants stay values of an arithmetic
-- (`shorten_constants`). Assumes nothing.
use Rattle.std.specs.Prelude.{ℕ, ◌<◌, ◌≡◌, refl, ℤ}
use Rattle.std.proofs.Common.{sym, subst}
use Rattle.script.specs.declared.Operator.{Operator}
use Rattle.script.specs.declared.Connective.{Connective}
use Rattle.script.specs.Syntax.{Expr, const, var, mark, arith, neg, choose, Formula, truth, cmp, not, join}
use Rattle.script.specs.Rows.{variables}
use Rattle.script.specs.Listing.{row_limit}
use Rattle.script.specs.WellFormed.{InRange, InRangeᶠ}
use Rattle.shortening.specs.Simplify.{shape, truth_shape, Change, TruthChange, Order, arith_change, join_change, arith_changed, join_changed, arith_node, join_node, not_node, shorten, shortenᶠ}
use Rattle.shortening.specs.Simplify as Simplify

-- P of each constant, Q of each variable, R of each mark
module _ (P : ℤ → Type 0) (Q R : ℕ → Type 0) where
  abbrev mutual
    pub Leaves : Expr → Type 0
    Leaves (const z) = P z
    Leaves (var v) = Q v
    Leaves (mark m) = R m
    Leaves (arith p a b) = Leaves a × Leaves b
    Leaves (neg a) = Leaves a
    Leaves (choose f a b) = Leavesᶠ f × Leaves a × Leaves b

    pub Leavesᶠ : Formula → Type 0
    Leavesᶠ (truth b) = Unit {0}
    Leavesᶠ (cmp r a b) = Leaves a × Leaves b
    Leavesᶠ (not f) = Leavesᶠ f
    Leavesᶠ (join c f g) = Leavesᶠ f × Leavesᶠ g

  arith_leaves : (t : Change) (p : Operator) (a b : Expr) → Leaves a → Leaves b → Leaves (arith_changed t p a b)
  arith_leaves Simplify.kept p a b h k = (h, k)
  arith_leaves Simplify.first p a b h k = h
  arith_leaves Simplify.second p a b h k = k
  arith_leaves Simplify.negated_second p a b h k = k

  join_leaves : (t : TruthChange) (c : Connective) (f g : Formula) → Leavesᶠ f → Leavesᶠ g
      → Leavesᶠ (join_changed t c f g)
  join_leaves Simplify.kept c f g h k = (h, k)
  join_leaves Simplify.first c f g h k = h
  join_leaves Simplify.second c f g h k = k
  join_leaves (Simplify.value b) c f g h k = tt

  not_leaves : (f : Formula) → Leavesᶠ f → Leavesᶠ (not_node f)
  unfolding not_node
  not_leaves (truth b) h = tt
  not_leaves (cmp r a b) h = h
  not_leaves (not f) h = h
  not_leaves (join c f g) h = h

  module _ (o : Order) where
    mutual
      unfolding shorten arith_node join_node

      pub shorten_leaves : (e : Expr) → Leaves e → Leaves (shorten o e)
      shorten_leaves (const z) h = h
      shorten_leaves (var v) h = h
      shorten_leaves (mark m) h = h
      shorten_leaves (arith p a b) h =
          arith_leaves (arith_change o p (shape (shorten o a)) (shape (shorten o b))) p (shorten o a) (shorten o b)
          (shorten_leaves a h.0) (shorten_leaves b h.1)
      shorten_leaves (neg a) h = shorten_leaves a h
      shorten_leaves (choose f a b) h = (shorten_leavesᶠ f h.0, shorten_leaves a h.1, shorten_leaves b h.2)

      pub shorten_leavesᶠ : (f : Formula) → Leavesᶠ f → Leavesᶠ (shortenᶠ o f)
      shorten_leavesᶠ (truth b) h = tt
      shorten_leavesᶠ (cmp r a b) h = (shorten_leaves a h.0, shorten_leaves b h.1)
      shorten_leavesᶠ (not f) h = not_leaves (shortenᶠ o f) (shorten_leavesᶠ f h)
      shorten_leavesᶠ (join c f g) h =
          join_leaves (join_change c (truth_shape (shortenᶠ o f)) (truth_shape (shortenᶠ o g))) c
          (shortenᶠ o f) (shortenᶠ o g) (shorten_leavesᶠ f h.0) (shorten_leavesᶠ g h.1)

-- ---- what is in range

abbrev InBounds : Formula → Type 0
InBounds f = Leavesᶠ (λ z. Unit {0}) (λ v. v < variables) (λ m. m < row_limit) f

abbrev InBoundsᵉ : Expr → Type 0
InBoundsᵉ e = Leaves (λ z. Unit {0}) (λ v. v < variables) (λ m. m < row_limit) e

-- the names of `Syntax`, and nothing of constants
mutual
  same : (e : Expr) → InRange e ≡ InBoundsᵉ e
  same (const z) = refl
  same (var v) = refl
  same (mark m) = refl
  same (arith p a b) = λ i. same a i × same b i
  same (neg a) = same a
  same (choose f a b) = λ i. sameᶠ f i × same a i × same b i

  sameᶠ : (f : Formula) → InRangeᶠ f ≡ InBounds f
  sameᶠ (truth b) = refl
  sameᶠ (cmp r a b) = λ i. same a i × same b i
  sameᶠ (not f) = sameᶠ f
  sameᶠ (join c f g) = λ i. sameᶠ f i × sameᶠ g i

pub shorten_in_rangeᶠ : (o : Order) (f : Formula) → InRangeᶠ f → InRangeᶠ (shortenᶠ o f)
shorten_in_rangeᶠ o f h =
    subst (λ X. X) (sym (sameᶠ (shortenᶠ o f)))
    (shorten_leavesᶠ (λ z. Unit {0}) (λ v. v < variables) (λ m. m < row_limit) o f (subst (λ X. X) (sameᶠ f) h))

-- ---- constants

-- each is a value of an arithmetic
abbrev pub Constants : (ℤ → Type 0) → Expr → Type 0
Constants In e = Leaves In (λ v. Unit {0}) (λ m. Unit {0}) e

abbrev pub Constantsᶠ : (ℤ → Type 0) → Formula → Type 0
Constantsᶠ In f = Leavesᶠ In (λ v. Unit {0}) (λ m. Unit {0}) f

pub shorten_constants : (In : ℤ → Type 0) (o : Order) (f : Formula) → Constantsᶠ In f → Constantsᶠ In (shortenᶠ o f)
shorten_constants In o f h = shorten_leavesᶠ In (λ v. Unit {0}) (λ m. Unit {0}) o f h
