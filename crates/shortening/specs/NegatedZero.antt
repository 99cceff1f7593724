-- 02, P10: "The first two rules of P6 both match 0 − 0, and the first leaves a negated zero": P6's order as equations
-- (`zero_minus`, `minus_zero`; P10's are in `Sentences`). "it was `8 1 0` and is now `1 0`": of every subtraction whose
-- two sides had both become constant 0 (`was`, `is`). In every result that changes some negated zero stood (`shows`,
-- `showsᶠ`). Assumes nothing.
use Rattle.std.specs.Prelude.{ℕ, ◌≡◌, refl, ◌≢◌, ◌⊎◌, [], ◌∷◌, Bool, true, false, cond, ◌&&◌, ◌||◌, pos}
use Rattle.std.proofs.Common.{ap, ◌∙◌, inl, inr, ⊎_elim}
use Rattle.std.proofs.Math.Logic.{⊎_map}
use Rattle.std.proofs.lemmas.Bool.{false≢true}
use Rattle.script.specs.declared.Operator.{Operator}
use Rattle.script.specs.declared.Operator.TheVariants.{Plus, Minus, Times, Div, Mod}
use Rattle.script.specs.declared.Connective.{Connective}
use Rattle.script.specs.Syntax.{Expr, const, var, mark, arith, neg, choose, Formula, truth, cmp, not, join}
use Rattle.script.specs.Words.{expr_words}
use Rattle.theorems.specs.Tests.{or_iff}
use Rattle.shortening.specs.Simplify.{constant_0, other, shape, truth_shape, only, fits, Change, TruthChange, zero_minus_first, minus_zero_first, arith_change, join_change, arith_changed, join_changed, arith_node, join_node, not_node, shorten}
use Rattle.shortening.specs.Simplify as Simplify
use Rattle.shortening.specs.Picked.{zero_is}
use Rattle.shortening.specs.Sentences.{𝟎, not_0}
use Rattle.shortening.specs.Kept.{old, oldᶠ, new, zero_less_zero, in_parts, in_partsᶠ, keeps, keepsᶠ}
use Rattle.shortening.specs.Moved.{Moved, same, less, no}
use Rattle.shortening.specs.Orders.{status}

-- ---- "0 − E becomes negate E", before "E − 0 becomes E"

pub zero_minus : (z e : Expr) → old z ≡ 𝟎 → old (arith Minus z e) ≡ neg (old e)
unfolding shorten arith_node
zero_minus z e h = ap (λ x. arith_node zero_minus_first Minus x (old e)) h

pub minus_zero : (e z : Expr) → old z ≡ 𝟎 → old e ≢ 𝟎 → old (arith Minus e z) ≡ old e
unfolding shorten arith_node
minus_zero e z h k =
    ap (λ x. arith_node zero_minus_first Minus (old e) x) h
    ∙ ap (λ b. arith_changed (cond (b && true) Simplify.negated_second Simplify.first) Minus (old e) 𝟎) (not_0 (old e) k)

-- ---- "it was `8 1 0` and is now `1 0`"

pub was : (a b : Expr) → old a ≡ 𝟎 → old b ≡ 𝟎 → expr_words (old (arith Minus a b)) ≡ pos 8 ∷ pos 1 ∷ pos 0 ∷ []
unfolding expr_words
was a b h k = ap expr_words (zero_minus a b h ∙ ap neg k)

-- what P6's order made 0, P10's makes 0
zero_stays : (e : Expr) → old e ≡ 𝟎 → new e ≡ 𝟎
zero_stays e h = of_status (status e).moved (status e).shaped ∙ h
  where
    is_zero : fits (only constant_0) (shape (old e)) ≡ true
    is_zero = ap (λ x. fits (only constant_0) (shape x)) h

    of_status : {k : Bool} {size : Expr → ℕ} → Moved size k (old e) (new e) → (k ≡ true → shape (old e) ≡ other)
        → new e ≡ old e
    of_status (same d g) f = g
    of_status (less d g) f = no is_zero (ap (fits (only constant_0)) (f d))

pub is : (a b : Expr) → old a ≡ 𝟎 → old b ≡ 𝟎 → expr_words (new (arith Minus a b)) ≡ pos 1 ∷ pos 0 ∷ []
unfolding shorten arith_node expr_words
is a b h k = λ i. expr_words (arith_node minus_zero_first Minus (zero_stays a h i) (zero_stays b k i))

-- ---- what shows in the result

-- a negated zero stands in it
abbrev mutual
  pub Has : Expr → Type 0
  Has (const z) = ⊥
  Has (var v) = ⊥
  Has (mark m) = ⊥
  Has (arith p a b) = Has a ⊎ Has b
  Has (neg a) = (a ≡ 𝟎) ⊎ Has a
  Has (choose f a b) = Hasᶠ f ⊎ (Has a ⊎ Has b)

  pub Hasᶠ : Formula → Type 0
  Hasᶠ (truth b) = ⊥
  Hasᶠ (cmp r a b) = Has a ⊎ Has b
  Hasᶠ (not f) = Hasᶠ f
  Hasᶠ (join c f g) = Hasᶠ f ⊎ Hasᶠ g

either : {A B : Type 0} {k l : Bool} → (k || l) ≡ true → (k ≡ true → A) → (l ≡ true → B) → A ⊎ B
either {k = k} {l} e f g = ⊎_map f g ((or_iff k l).0 e)

arith_shows : (t : Change) (p : Operator) (a b : Expr) (k l : Bool) → in_parts t k l ≡ true → (k ≡ true → Has a)
    → (l ≡ true → Has b) → Has (arith_changed t p a b)
arith_shows Simplify.kept p a b k l e f g = either e f g
arith_shows Simplify.first p a b k l e f g = f e
arith_shows Simplify.second p a b k l e f g = g e
arith_shows Simplify.negated_second p a b k l e f g = inr (g e)

join_shows : (t : TruthChange) (c : Connective) (a b : Formula) (k l : Bool) → in_partsᶠ t k l ≡ true
    → (k ≡ true → Hasᶠ a) → (l ≡ true → Hasᶠ b) → Hasᶠ (join_changed t c a b)
join_shows Simplify.kept c a b k l e f g = either e f g
join_shows Simplify.first c a b k l e f g = f e
join_shows Simplify.second c a b k l e f g = g e
join_shows (Simplify.value v) c a b k l e f g = absurd (false≢true e)

not_shows : (f : Formula) → Hasᶠ f → Hasᶠ (not_node f)
unfolding not_node
not_shows (truth b) h = h
not_shows (cmp r a b) h = h
not_shows (not f) h = h
not_shows (join c f g) h = h

-- the subtraction itself
zero_shows : (p : Operator) (x y : Expr) → zero_less_zero p (shape x) (shape y) ≡ true
    → Has (arith_node zero_minus_first p x y)
unfolding arith_node
zero_shows Minus x y h = of_tests (fits (only constant_0) (shape x)) (fits (only constant_0) (shape y)) (zero_is y) h
  where
    of_tests : (k l : Bool) → (l ≡ true → y ≡ 𝟎) → (k && l) ≡ true
        → Has (arith_changed (cond (k && true) Simplify.negated_second (cond l Simplify.first Simplify.kept)) Minus x y)
    of_tests true true f e = inl (f refl)
    of_tests true false f e = absurd (false≢true e)
    of_tests false l f e = absurd (false≢true e)
zero_shows Plus x y h = absurd (false≢true h)
zero_shows Times x y h = absurd (false≢true h)
zero_shows Div x y h = absurd (false≢true h)
zero_shows Mod x y h = absurd (false≢true h)

mutual
  unfolding keeps shorten arith_node join_node

  pub shows : (e : Expr) → keeps e ≡ true → Has (old e)
  shows (const z) e = absurd (false≢true e)
  shows (var v) e = absurd (false≢true e)
  shows (mark m) e = absurd (false≢true e)
  shows (arith p a b) e =
      let t = arith_change zero_minus_first p (shape (old a)) (shape (old b)) in
      ⊎_elim (zero_shows p (old a) (old b))
      (λ h. arith_shows t p (old a) (old b) (keeps a) (keeps b) h (λ k. shows a k) (λ k. shows b k))
      ((or_iff (zero_less_zero p (shape (old a)) (shape (old b))) (in_parts t (keeps a) (keeps b))).0 e)
  shows (neg a) e = inr (shows a e)
  shows (choose f a b) e = either e (λ h. showsᶠ f h) (λ h. either h (λ k. shows a k) (λ k. shows b k))

  pub showsᶠ : (f : Formula) → keepsᶠ f ≡ true → Hasᶠ (oldᶠ f)
  showsᶠ (truth b) e = absurd (false≢true e)
  showsᶠ (cmp r a b) e = either e (λ h. shows a h) (λ h. shows b h)
  showsᶠ (not f) e = not_shows (oldᶠ f) (showsᶠ f e)
  showsᶠ (join c f g) e =
      join_shows (join_change c (truth_shape (oldᶠ f)) (truth_shape (oldᶠ g))) c (oldᶠ f) (oldᶠ g) (keepsᶠ f) (keepsᶠ g) e
      (λ h. showsᶠ f h) (λ h. showsᶠ g h)
