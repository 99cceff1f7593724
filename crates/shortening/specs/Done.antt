-- Nothing is left to shorten: in what comes out under an order, no rule applies at any node (`shorten_done`), under the
-- other order as well (`done_under`). So a second pass changes nothing, whichever order either pass has
-- (`shorten_again`, `all_again`; of answers `Answers.written_again`): of what P6's order left, `8 1 0` stays. Argument: a
-- node that a rule changed becomes one of its parts, a negation or a value; a node that is kept is one at which no rule
-- applies. Assumes nothing.
use Rattle.std.specs.Prelude.{◌≡◌, refl, List, [], ◌∷◌, Bool, true, false, cond, ◌&&◌}
use Rattle.std.proofs.Math.Path.{ap}
use Rattle.std.proofs.Common.{◌∙◌}
use Rattle.script.specs.declared.Operator.{Operator}
use Rattle.script.specs.declared.Operator.TheVariants.{Plus, Minus, Times, Div, Mod}
use Rattle.script.specs.declared.Connective.{Connective}
use Rattle.script.specs.Syntax.{Expr, const, var, mark, arith, neg, choose, Formula, truth, cmp, not, join}
use Rattle.script.specs.Conditions.{Condition, condition}
use Rattle.shortening.specs.Simplify.{Shape, constant_0, shape, truth_shape, only, fits, Change, TruthChange, Order, zero_minus_first, minus_zero_first, arith_change, join_change, arith_changed, join_changed, arith_node, join_node, not_node, shorten, shortenᶠ, shorten_all}
use Rattle.shortening.specs.Simplify as Simplify

module _ (o : Order) where
  -- no rule applies at any node
  abbrev mutual
    pub Done : Expr → Type 0
    Done (const z) = Unit {0}
    Done (var v) = Unit {0}
    Done (mark m) = Unit {0}
    Done (arith p a b) = (arith_change o p (shape a) (shape b) ≡ Simplify.kept) × Done a × Done b
    Done (neg a) = Done a
    Done (choose f a b) = Doneᶠ f × Done a × Done b

    pub Doneᶠ : Formula → Type 0
    Doneᶠ (truth b) = Unit {0}
    Doneᶠ (cmp r a b) = Done a × Done b
    Doneᶠ (not f) = (not_node f ≡ not f) × Doneᶠ f
    Doneᶠ (join c f g) = (join_change c (truth_shape f) (truth_shape g) ≡ Simplify.kept) × Doneᶠ f × Doneᶠ g

  arith_done : (p : Operator) (a b : Expr) → Done a → Done b
      → (t : Change) → arith_change o p (shape a) (shape b) ≡ t → Done (arith_changed t p a b)
  arith_done p a b h k Simplify.kept e = (e, h, k)
  arith_done p a b h k Simplify.first e = h
  arith_done p a b h k Simplify.second e = k
  arith_done p a b h k Simplify.negated_second e = k

  join_done : (c : Connective) (f g : Formula) → Doneᶠ f → Doneᶠ g
      → (t : TruthChange) → join_change c (truth_shape f) (truth_shape g) ≡ t → Doneᶠ (join_changed t c f g)
  join_done c f g h k Simplify.kept e = (e, h, k)
  join_done c f g h k Simplify.first e = h
  join_done c f g h k Simplify.second e = k
  join_done c f g h k (Simplify.value b) e = tt

  not_done : (f : Formula) → Doneᶠ f → Doneᶠ (not_node f)
  unfolding not_node
  not_done (truth b) h = tt
  not_done (cmp r a b) h = (refl, h)
  not_done (not f) h = (refl, h)
  not_done (join c f g) h = (refl, h)

  mutual
    unfolding shorten arith_node join_node

    pub shorten_done : (e : Expr) → Done (shorten o e)
    shorten_done (const z) = tt
    shorten_done (var v) = tt
    shorten_done (mark m) = tt
    shorten_done (arith p a b) = arith_done p (shorten o a) (shorten o b) (shorten_done a) (shorten_done b) _ refl
    shorten_done (neg a) = shorten_done a
    shorten_done (choose f a b) = (shorten_doneᶠ f, shorten_done a, shorten_done b)

    pub shorten_doneᶠ : (f : Formula) → Doneᶠ (shortenᶠ o f)
    shorten_doneᶠ (truth b) = tt
    shorten_doneᶠ (cmp r a b) = (shorten_done a, shorten_done b)
    shorten_doneᶠ (not f) = not_done (shortenᶠ o f) (shorten_doneᶠ f)
    shorten_doneᶠ (join c f g) = join_done c (shortenᶠ o f) (shortenᶠ o g) (shorten_doneᶠ f) (shorten_doneᶠ g) _ refl

  -- where no rule applies, shortening changes nothing
  kept_node : (p : Operator) (a b : Expr) → arith_change o p (shape a) (shape b) ≡ Simplify.kept
      → arith_node o p a b ≡ arith p a b
  unfolding arith_node
  kept_node p a b e = ap (λ t. arith_changed t p a b) e

  kept_nodeᶠ : (c : Connective) (f g : Formula) → join_change c (truth_shape f) (truth_shape g) ≡ Simplify.kept
      → join_node c f g ≡ join c f g
  unfolding join_node
  kept_nodeᶠ c f g e = ap (λ t. join_changed t c f g) e

  mutual
    unfolding shorten

    pub done_stays : (e : Expr) → Done e → shorten o e ≡ e
    done_stays (const z) h = refl
    done_stays (var v) h = refl
    done_stays (mark m) h = refl
    done_stays (arith p a b) h =
        (λ i. arith_node o p (done_stays a h.1 i) (done_stays b h.2 i)) ∙ kept_node p a b h.0
    done_stays (neg a) h = λ i. neg (done_stays a h i)
    done_stays (choose f a b) h = λ i. choose (done_staysᶠ f h.0 i) (done_stays a h.1 i) (done_stays b h.2 i)

    pub done_staysᶠ : (f : Formula) → Doneᶠ f → shortenᶠ o f ≡ f
    done_staysᶠ (truth b) h = refl
    done_staysᶠ (cmp r a b) h = λ i. cmp r (done_stays a h.0 i) (done_stays b h.1 i)
    done_staysᶠ (not f) h = (λ i. not_node (done_staysᶠ f h.1 i)) ∙ h.0
    done_staysᶠ (join c f g) h =
        (λ i. join_node c (done_staysᶠ f h.1 i) (done_staysᶠ g h.2 i)) ∙ kept_nodeᶠ c f g h.0

-- ---- under another order

-- x and y say that the first and the second part are 0
first_rules : (x y : Bool)
    → cond (x && true) Simplify.negated_second (cond y Simplify.first Simplify.kept) ≡ Simplify.kept
    → cond y Simplify.first (cond (x && true) Simplify.negated_second Simplify.kept) ≡ Simplify.kept
first_rules true y e = cc
first_rules false true e = cc
first_rules false false e = refl

last_rules : (x y : Bool)
    → cond y Simplify.first (cond (x && true) Simplify.negated_second Simplify.kept) ≡ Simplify.kept
    → cond (x && true) Simplify.negated_second (cond y Simplify.first Simplify.kept) ≡ Simplify.kept
last_rules x true e = cc
last_rules true false e = cc
last_rules false false e = refl

-- both orders have the same rules
kept_under : (p : Operator) (o u : Order) (x y : Shape) → arith_change o p x y ≡ Simplify.kept
    → arith_change u p x y ≡ Simplify.kept
kept_under Plus o u x y e = e
kept_under Times o u x y e = e
kept_under Div o u x y e = e
kept_under Mod o u x y e = e
kept_under Minus zero_minus_first zero_minus_first x y e = e
kept_under Minus minus_zero_first minus_zero_first x y e = e
kept_under Minus zero_minus_first minus_zero_first x y e =
    first_rules (fits (only constant_0) x) (fits (only constant_0) y) e
kept_under Minus minus_zero_first zero_minus_first x y e =
    last_rules (fits (only constant_0) x) (fits (only constant_0) y) e

module _ (o u : Order) where
  mutual
    pub done_under : (e : Expr) → Done o e → Done u e
    done_under (const z) h = tt
    done_under (var v) h = tt
    done_under (mark m) h = tt
    done_under (arith p a b) h = (kept_under p o u (shape a) (shape b) h.0, done_under a h.1, done_under b h.2)
    done_under (neg a) h = done_under a h
    done_under (choose f a b) h = (done_underᶠ f h.0, done_under a h.1, done_under b h.2)

    pub done_underᶠ : (f : Formula) → Doneᶠ o f → Doneᶠ u f
    done_underᶠ (truth b) h = tt
    done_underᶠ (cmp r a b) h = (done_under a h.0, done_under b h.1)
    done_underᶠ (not f) h = (h.0, done_underᶠ f h.1)
    done_underᶠ (join c f g) h = (h.0, done_underᶠ f h.1, done_underᶠ g h.2)

  pub shorten_again : (f : Formula) → shortenᶠ u (shortenᶠ o f) ≡ shortenᶠ o f
  shorten_again f = done_staysᶠ u (shortenᶠ o f) (done_underᶠ (shortenᶠ o f) (shorten_doneᶠ o f))

  pub all_again : (cs : List Condition) → shorten_all u (shorten_all o cs) ≡ shorten_all o cs
  all_again [] = refl
  all_again (c ∷ cs) = λ i. condition c.rule c.row c.depth (shorten_again c.claim i) ∷ all_again cs i
