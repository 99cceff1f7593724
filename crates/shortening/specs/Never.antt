-- Shortening never makes longer: an expression or a formula comes back as it was, or with fewer words (`as_it_was`,
-- `as_it_wasᶠ`, `never_longer`). Whatever the rules are: it is shown of every change that a rule could ask for. Assumes
-- nothing.
use Rattle.std.specs.Prelude.{ℕ, suc, ◌+◌, ◌≤◌, ◌<◌, ◌≡◌, refl, ◌⊎◌, ◌++◌, length}
use Rattle.std.proofs.Common.{ap, inl, inr, ⊎_elim, arith as linear, length-append}
use Rattle.script.specs.declared.Operator.{Operator}
use Rattle.script.specs.declared.Relation.{Relation}
use Rattle.script.specs.declared.Connective.{Connective}
use Rattle.script.specs.Syntax.{Expr, const, var, mark, arith, neg, choose, Formula, truth, cmp, not, join}
use Rattle.script.specs.Words.{expr_words, formula_words}
use Rattle.theorems.specs.WordsAt.{expression, formula, node_size}
use Rattle.shortening.specs.Simplify.{shape, truth_shape, Change, TruthChange, Order, arith_change, join_change, arith_changed, join_changed, arith_node, join_node, not_node, shorten, shortenᶠ}
use Rattle.shortening.specs.Simplify as Simplify

-- ---- lengths

abbrev pub size : Expr → ℕ
size e = length (expr_words e)

abbrev pub sizeᶠ : Formula → ℕ
sizeᶠ f = length (formula_words f)

pub arith_size : (p : Operator) (a b : Expr) → size (arith p a b) ≡ suc (size a + size b)
unfolding expr_words
arith_size p a b = ap suc (length-append (expr_words a) (expr_words b))

pub join_size : (c : Connective) (f g : Formula) → sizeᶠ (join c f g) ≡ suc (sizeᶠ f + sizeᶠ g)
unfolding formula_words
join_size c f g = ap suc (length-append (formula_words f) (formula_words g))

pub cmp_size : (r : Relation) (a b : Expr) → sizeᶠ (cmp r a b) ≡ suc (size a + size b)
unfolding formula_words
cmp_size r a b = ap suc (length-append (expr_words a) (expr_words b))

pub choose_size : (f : Formula) (a b : Expr) → size (choose f a b) ≡ suc (sizeᶠ f + size a + size b)
unfolding expr_words
choose_size f a b =
    let all = length-append (formula_words f) (expr_words a ++ expr_words b) in
    omega (linear, all, length-append (expr_words a) (expr_words b))

some_words : (e : Expr) → 0 < size e
some_words e = node_size (expression e)

pub some_wordsᶠ : (f : Formula) → 0 < sizeᶠ f
some_wordsᶠ f = node_size (formula f)

-- ---- as it was, or shorter

abbrev pub Shorter : Expr → Expr → Type 0
Shorter a b = (a ≡ b) ⊎ (size a < size b)

abbrev pub Shorterᶠ : Formula → Formula → Type 0
Shorterᶠ f g = (f ≡ g) ⊎ (sizeᶠ f < sizeᶠ g)

pub at_most : {a b : Expr} → Shorter a b → size a ≤ size b
at_most (inl e) = omega (linear, ap size e)
at_most (inr h) = omega linear

pub at_mostᶠ : {f g : Formula} → Shorterᶠ f g → sizeᶠ f ≤ sizeᶠ g
at_mostᶠ (inl e) = omega (linear, ap sizeᶠ e)
at_mostᶠ (inr h) = omega linear

-- two parts, and one that is another part's only one
both_parts : (p : Operator) {a b x y : Expr} → Shorter a x → Shorter b y → Shorter (arith p a b) (arith p x y)
both_parts p (inl d) (inl e) = inl (λ i. arith p (d i) (e i))
both_parts p {a} {b} {x} {y} (inl d) (inr h) = inr (omega (linear, arith_size p a b, arith_size p x y, ap size d))
both_parts p {a} {b} {x} {y} (inr h) k = inr (omega (linear, arith_size p a b, arith_size p x y, at_most k))

pub arith_shorter : (t : Change) (p : Operator) {a b x y : Expr} → Shorter a x → Shorter b y
    → Shorter (arith_changed t p a b) (arith p x y)
unfolding expr_words
arith_shorter Simplify.kept p h k = both_parts p h k
arith_shorter Simplify.first p {a} {b} {x} {y} h k = inr (omega (linear, arith_size p x y, at_most h))
arith_shorter Simplify.second p {a} {b} {x} {y} h k = inr (omega (linear, arith_size p x y, at_most k))
arith_shorter Simplify.negated_second p {a} {b} {x} {y} h k =
    inr (omega (linear, arith_size p x y, at_most k, some_words x))

join_shorter : (t : TruthChange) (c : Connective) {a b x y : Formula} → Shorterᶠ a x → Shorterᶠ b y
    → Shorterᶠ (join_changed t c a b) (join c x y)
unfolding formula_words
join_shorter Simplify.kept c (inl d) (inl e) = inl (λ i. join c (d i) (e i))
join_shorter Simplify.kept c {a} {b} {x} {y} (inl d) (inr h) =
    inr (omega (linear, join_size c a b, join_size c x y, ap sizeᶠ d))
join_shorter Simplify.kept c {a} {b} {x} {y} (inr h) k =
    inr (omega (linear, join_size c a b, join_size c x y, at_mostᶠ k))
join_shorter Simplify.first c {a} {b} {x} {y} h k = inr (omega (linear, join_size c x y, at_mostᶠ h))
join_shorter Simplify.second c {a} {b} {x} {y} h k = inr (omega (linear, join_size c x y, at_mostᶠ k))
join_shorter (Simplify.value t) c {a} {b} {x} {y} h k = inr (omega (linear, join_size c x y, some_wordsᶠ x))

not_shorter : (a : Formula) {x : Formula} → Shorterᶠ a x → Shorterᶠ (not_node a) (not x)
unfolding not_node formula_words
not_shorter (truth b) {x} h = inr (omega (linear, some_wordsᶠ x))
not_shorter (cmp r a b) h = ⊎_elim (λ e. inl (ap not e)) (λ l. inr (omega linear)) h
not_shorter (not f) h = ⊎_elim (λ e. inl (ap not e)) (λ l. inr (omega linear)) h
not_shorter (join c f g) h = ⊎_elim (λ e. inl (ap not e)) (λ l. inr (omega linear)) h

neg_shorter : {a x : Expr} → Shorter a x → Shorter (neg a) (neg x)
unfolding expr_words
neg_shorter (inl e) = inl (ap neg e)
neg_shorter (inr h) = inr (omega linear)

choose_shorter : {f g : Formula} {a b x y : Expr} → Shorterᶠ f g → Shorter a x → Shorter b y
    → Shorter (choose f a b) (choose g x y)
choose_shorter (inl c) (inl d) (inl e) = inl (λ i. choose (c i) (d i) (e i))
choose_shorter {f} {g} {a} {b} {x} {y} (inl c) (inl d) (inr h) =
    inr (omega (linear, choose_size f a b, choose_size g x y, ap sizeᶠ c, ap size d))
choose_shorter {f} {g} {a} {b} {x} {y} (inl c) (inr h) k =
    inr (omega (linear, choose_size f a b, choose_size g x y, ap sizeᶠ c, at_most k))
choose_shorter {f} {g} {a} {b} {x} {y} (inr h) k l =
    inr (omega (linear, choose_size f a b, choose_size g x y, at_most k, at_most l))

cmp_shorter : (r : Relation) {a b x y : Expr} → Shorter a x → Shorter b y → Shorterᶠ (cmp r a b) (cmp r x y)
cmp_shorter r (inl d) (inl e) = inl (λ i. cmp r (d i) (e i))
cmp_shorter r {a} {b} {x} {y} (inl d) (inr h) = inr (omega (linear, cmp_size r a b, cmp_size r x y, ap size d))
cmp_shorter r {a} {b} {x} {y} (inr h) k = inr (omega (linear, cmp_size r a b, cmp_size r x y, at_most k))

module _ (o : Order) where
  mutual
    unfolding shorten arith_node join_node

    pub as_it_was : (e : Expr) → Shorter (shorten o e) e
    as_it_was (const z) = inl refl
    as_it_was (var v) = inl refl
    as_it_was (mark m) = inl refl
    as_it_was (arith p a b) =
        arith_shorter (arith_change o p (shape (shorten o a)) (shape (shorten o b))) p (as_it_was a) (as_it_was b)
    as_it_was (neg a) = neg_shorter (as_it_was a)
    as_it_was (choose f a b) = choose_shorter (as_it_wasᶠ f) (as_it_was a) (as_it_was b)

    pub as_it_wasᶠ : (f : Formula) → Shorterᶠ (shortenᶠ o f) f
    as_it_wasᶠ (truth b) = inl refl
    as_it_wasᶠ (cmp r a b) = cmp_shorter r (as_it_was a) (as_it_was b)
    as_it_wasᶠ (not f) = not_shorter (shortenᶠ o f) (as_it_wasᶠ f)
    as_it_wasᶠ (join c f g) =
        join_shorter (join_change c (truth_shape (shortenᶠ o f)) (truth_shape (shortenᶠ o g))) c
        (as_it_wasᶠ f) (as_it_wasᶠ g)

  pub never_longer : (f : Formula) → sizeᶠ (shortenᶠ o f) ≤ sizeᶠ f
  never_longer f = at_mostᶠ (as_it_wasᶠ f)
