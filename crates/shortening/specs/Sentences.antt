-- The sentences of 02, P6, as equations, without the lists of rules: what becomes of a node, in the order of 02, P10, for
-- every E and F, by what its parts have become; of 0 − 0, 0 is left. That every other node stays is in `Stays`; with
-- these equations it says all of `shorten`. Assumes nothing.
use Rattle.std.specs.Prelude.{◌≡◌, refl, ◌≢◌, Bool, true, false, cond, ◌&&◌, pos}
use Rattle.std.proofs.Common.{sym, ap, ◌∙◌}
use Rattle.script.specs.declared.Operator.{Operator}
use Rattle.script.specs.declared.Operator.TheVariants.{Plus, Minus, Times}
use Rattle.script.specs.declared.Connective.TheVariants.{And, Implies}
use Rattle.script.specs.Syntax.{Expr, const, arith, neg, Formula, truth, not, join}
use Rattle.shortening.specs.Simplify.{constant_0, constant_1, is_true, is_false, shape, truth_shape, only, fits, order, arith_changed, join_changed, arith_node, join_node, not_node, shorten, shortenᶠ}
use Rattle.shortening.specs.Simplify as Simplify
use Rattle.shortening.specs.Picked.{zero_is, one_is, true_is}

abbrev pub 𝟎 : Expr
𝟎 = const (pos 0)

abbrev pub 𝟏 : Expr
𝟏 = const (pos 1)

-- "parts first": what a part becomes
abbrev pub E : Expr → Expr
E e = shorten order e

abbrev pub F : Formula → Formula
F f = shortenᶠ order f

pub is_not : {A : Type 0} (b : Bool) → (b ≡ true → A) → ¬ A → b ≡ false
is_not true f h = absurd (h (f refl))
is_not false f h = refl

pub not_0 : (e : Expr) → e ≢ 𝟎 → fits (only constant_0) (shape e) ≡ false
not_0 e h = is_not (fits (only constant_0) (shape e)) (zero_is e) h

-- ---- "E − 0 becomes E", before "0 − E becomes negate E"

pub minus_zero : (e z : Expr) → E z ≡ 𝟎 → E (arith Minus e z) ≡ E e
unfolding shorten arith_node
minus_zero e z h = ap (λ x. arith_node order Minus (E e) x) h

pub zero_minus : (z e : Expr) → E z ≡ 𝟎 → E e ≢ 𝟎 → E (arith Minus z e) ≡ neg (E e)
unfolding shorten arith_node
zero_minus z e h k =
    ap (λ x. arith_node order Minus x (E e)) h
    ∙ ap (λ b. arith_changed (cond b Simplify.first Simplify.negated_second) Minus 𝟎 (E e)) (not_0 (E e) k)

-- ---- "E + 0 and 0 + E become E; E × 1 and 1 × E become E"

-- the first rule that fits, of two
either : (p : Operator) (a e : Expr) (b : Bool) → (b ≡ true → e ≡ a)
    → arith_changed (cond b Simplify.first Simplify.second) p a e ≡ e
either p a e true f = sym (f refl)
either p a e false f = refl

pub plus_zero : (e z : Expr) → E z ≡ 𝟎 → E (arith Plus e z) ≡ E e
unfolding shorten arith_node
plus_zero e z h = ap (λ x. arith_node order Plus (E e) x) h

pub zero_plus : (z e : Expr) → E z ≡ 𝟎 → E (arith Plus z e) ≡ E e
unfolding shorten arith_node
zero_plus z e h =
    ap (λ x. arith_node order Plus x (E e)) h ∙ either Plus 𝟎 (E e) (fits (only constant_0) (shape (E e))) (zero_is (E e))

pub times_one : (e i : Expr) → E i ≡ 𝟏 → E (arith Times e i) ≡ E e
unfolding shorten arith_node
times_one e i h = ap (λ x. arith_node order Times (E e) x) h

pub one_times : (i e : Expr) → E i ≡ 𝟏 → E (arith Times i e) ≡ E e
unfolding shorten arith_node
one_times i e h =
    ap (λ x. arith_node order Times x (E e)) h ∙ either Times 𝟏 (E e) (fits (only constant_1) (shape (E e))) (one_is (E e))

-- ---- "true and F, F and true become F; false and F, F and false become false"

pub true_and : (t f : Formula) → F t ≡ truth true → F (join And t f) ≡ F f
unfolding shorten join_node
true_and t f h = ap (λ x. join_node And x (F f)) h

pub and_true : (f t : Formula) → F t ≡ truth true → F (join And f t) ≡ F f
unfolding shorten join_node
and_true f t h =
    ap (λ x. join_node And (F f) x) h ∙ of_test (fits (only is_true) (truth_shape (F f))) (true_is (F f))
  where
    of_test : (b : Bool) → (b ≡ true → F f ≡ truth true)
        → join_changed (cond (b && true) Simplify.second Simplify.first) And (F f) (truth true) ≡ F f
    of_test true k = sym (k refl)
    of_test false k = refl

pub false_and : (n f : Formula) → F n ≡ truth false → F (join And n f) ≡ truth false
unfolding shorten join_node
false_and n f h = ap (λ x. join_node And x (F f)) h ∙ of_test (fits (only is_true) (truth_shape (F f)))
  where
    of_test : (b : Bool)
        → join_changed (cond b Simplify.first (Simplify.value false)) And (truth false) (F f) ≡ truth false
    of_test true = refl
    of_test false = refl

pub and_false : (f n : Formula) → F n ≡ truth false → F (join And f n) ≡ truth false
unfolding shorten join_node
and_false f n h =
    ap (λ x. join_node And (F f) x) h
    ∙ of_tests (fits (only is_true) (truth_shape (F f))) (fits (only is_false) (truth_shape (F f)))
  where
    of_tests : (b c : Bool)
        → join_changed (cond (b && true) Simplify.second (cond (c && true) (Simplify.value false) (Simplify.value false)))
        And (F f) (truth false) ≡ truth false
    of_tests true c = refl
    of_tests false true = refl
    of_tests false false = refl

-- ---- "true implies F becomes F; false implies F and F implies true become true"

pub true_implies : (t f : Formula) → F t ≡ truth true → F (join Implies t f) ≡ F f
unfolding shorten join_node
true_implies t f h = ap (λ x. join_node Implies x (F f)) h

pub false_implies : (n f : Formula) → F n ≡ truth false → F (join Implies n f) ≡ truth true
unfolding shorten join_node
false_implies n f h = ap (λ x. join_node Implies x (F f)) h

pub implies_true : (f t : Formula) → F t ≡ truth true → F (join Implies f t) ≡ truth true
unfolding shorten join_node
implies_true f t h =
    ap (λ x. join_node Implies (F f) x) h
    ∙ of_tests (fits (only is_true) (truth_shape (F f))) (fits (only is_false) (truth_shape (F f)))
  where
    of_tests : (b c : Bool)
        → join_changed (cond (b && true) Simplify.second (cond (c && true) (Simplify.value true) (Simplify.value true)))
        Implies (F f) (truth true) ≡ truth true
    of_tests true c = refl
    of_tests false true = refl
    of_tests false false = refl

-- ---- "not true and not false are exchanged for their values"

pub not_true : (f : Formula) → F f ≡ truth true → F (not f) ≡ truth false
unfolding shorten not_node
not_true f h = ap not_node h

pub not_false : (f : Formula) → F f ≡ truth false → F (not f) ≡ truth true
unfolding shorten not_node
not_false f h = ap not_node h
