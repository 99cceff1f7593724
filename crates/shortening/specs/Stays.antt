-- Where none of the sentences of 02, P6, applies, a node stays, with its parts shortened: for each kind of node, by what its
-- parts have become. Or, div, mod, negate, choose and comparisons always stay. Assumes nothing.
use Rattle.std.specs.Prelude.{ℕ, ◌≡◌, refl, ◌≢◌, Bool, true, false, cond, ◌&&◌, ℤ}
use Rattle.std.proofs.Common.{ap, ◌∙◌}
use Rattle.script.specs.declared.Operator.TheVariants.{Plus, Minus, Times, Div, Mod}
use Rattle.script.specs.declared.Relation.{Relation}
use Rattle.script.specs.declared.Connective.TheVariants.{And, Or, Implies}
use Rattle.script.specs.Syntax.{Expr, const, var, mark, arith, neg, choose, Formula, truth, cmp, not, join}
use Rattle.shortening.specs.Simplify.{constant_1, is_true, is_false, shape, truth_shape, only, fits, Change, TruthChange, arith_changed, join_changed, arith_node, join_node, not_node, shorten}
use Rattle.shortening.specs.Picked.{one_is, true_is, false_is}
use Rattle.shortening.specs.Sentences.{𝟎, 𝟏, E, F, is_not, not_0}

-- ---- tests

not_1 : (e : Expr) → e ≢ 𝟏 → fits (only constant_1) (shape e) ≡ false
not_1 e h = is_not (fits (only constant_1) (shape e)) (one_is e) h

not_true! : (f : Formula) → f ≢ truth true → fits (only is_true) (truth_shape f) ≡ false
not_true! f h = is_not (fits (only is_true) (truth_shape f)) (true_is f) h

not_false! : (f : Formula) → f ≢ truth false → fits (only is_false) (truth_shape f) ≡ false
not_false! f h = is_not (fits (only is_false) (truth_shape f)) (false_is f) h

-- ---- nodes

-- neither of two rules fits, the one that asks of the first part, the other of the second
neither : {R : Type 0} (x y k : R) (b c : Bool) → b ≡ false → c ≡ false → cond (b && true) x (cond c y k) ≡ k
neither x y k b c h l = rw (h, l)

-- .. the one that asks of the second part goes first
nor : {R : Type 0} (x y k : R) (b c : Bool) → b ≡ false → c ≡ false → cond c y (cond (b && true) x k) ≡ k
nor x y k b c h l = rw (h, l)

pub minus_stays : (a b : Expr) → E a ≢ 𝟎 → E b ≢ 𝟎 → E (arith Minus a b) ≡ arith Minus (E a) (E b)
unfolding shorten arith_node
minus_stays a b h k =
    ap (λ (t : Change). arith_changed t Minus (E a) (E b)) (nor _ _ _ _ _ (not_0 (E a) h) (not_0 (E b) k))

pub plus_stays : (a b : Expr) → E a ≢ 𝟎 → E b ≢ 𝟎 → E (arith Plus a b) ≡ arith Plus (E a) (E b)
unfolding shorten arith_node
plus_stays a b h k =
    ap (λ (t : Change). arith_changed t Plus (E a) (E b)) (nor _ _ _ _ _ (not_0 (E a) h) (not_0 (E b) k))

pub times_stays : (a b : Expr) → E a ≢ 𝟏 → E b ≢ 𝟏 → E (arith Times a b) ≡ arith Times (E a) (E b)
unfolding shorten arith_node
times_stays a b h k =
    ap (λ (t : Change). arith_changed t Times (E a) (E b)) (nor _ _ _ _ _ (not_1 (E a) h) (not_1 (E b) k))

pub div_stays : (a b : Expr) → E (arith Div a b) ≡ arith Div (E a) (E b)
unfolding shorten arith_node
div_stays a b = refl

pub mod_stays : (a b : Expr) → E (arith Mod a b) ≡ arith Mod (E a) (E b)
unfolding shorten arith_node
mod_stays a b = refl

pub and_stays : (f g : Formula) → F f ≢ truth true → F f ≢ truth false → F g ≢ truth true → F g ≢ truth false
    → F (join And f g) ≡ join And (F f) (F g)
unfolding shorten join_node
and_stays f g h k l m =
    ap (λ (t : TruthChange). join_changed t And (F f) (F g))
    (neither _ _ _ _ _ (not_true! (F f) h) (not_true! (F g) l) ∙ neither _ _ _ _ _ (not_false! (F f) k) (not_false! (F g) m))

pub implies_stays : (f g : Formula) → F f ≢ truth true → F f ≢ truth false → F g ≢ truth true
    → F (join Implies f g) ≡ join Implies (F f) (F g)
unfolding shorten join_node
implies_stays f g h k l =
    ap (λ (t : TruthChange). join_changed t Implies (F f) (F g))
    (none_of _ _ _ _ _ _ _ (not_true! (F f) h) (not_false! (F f) k) (not_true! (F g) l))
  where
    none_of : {R : Type 0} (x y z k : R) (a b c : Bool) → a ≡ false → b ≡ false → c ≡ false
        → cond (a && true) x (cond (b && true) y (cond c z k)) ≡ k
    none_of x y z k a b c h l m = rw (h, l, m)

pub or_stays : (f g : Formula) → F (join Or f g) ≡ join Or (F f) (F g)
unfolding shorten join_node
or_stays f g = refl

pub not_stays : (f : Formula) → F f ≢ truth true → F f ≢ truth false → F (not f) ≡ not (F f)
unfolding shorten not_node
not_stays f h k = of_part (F f) h k
  where
    of_part : (g : Formula) → g ≢ truth true → g ≢ truth false → not_node g ≡ not g
    of_part (truth true) h k = absurd (h refl)
    of_part (truth false) h k = absurd (k refl)
    of_part (cmp r a b) h k = refl
    of_part (not g) h k = refl
    of_part (join c g₁ g₂) h k = refl

pub compare_stays : (r : Relation) (a b : Expr) → F (cmp r a b) ≡ cmp r (E a) (E b)
unfolding shorten
compare_stays r a b = refl

pub negate_stays : (a : Expr) → E (neg a) ≡ neg (E a)
unfolding shorten
negate_stays a = refl

pub choose_stays : (f : Formula) (a b : Expr) → E (choose f a b) ≡ choose (F f) (E a) (E b)
unfolding shorten
choose_stays f a b = refl

-- ---- and what has no parts

pub constant_stays : (z : ℤ) → E (const z) ≡ const z
unfolding shorten
constant_stays z = refl

pub variable_stays : (v : ℕ) → E (var v) ≡ var v
unfolding shorten
variable_stays v = refl

pub mark_stays : (m : ℕ) → E (mark m) ≡ mark m
unfolding shorten
mark_stays m = refl

pub truth_stays : (b : Bool) → F (truth b) ≡ truth b
unfolding shorten
truth_stays b = refl
