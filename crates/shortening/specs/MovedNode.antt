-- A node of two expressions under the two orders (`arith_status`): the same where no part moved and it is not 0 − 0;
-- shorter under P10's where it is 0 − 0 or a part is shorter. For at such a part P6 could use no rule but one that asks
-- for the other part; P10 can use that rule too, or a better one. Assumes nothing.
use Rattle.std.specs.Prelude.{suc, ◌+◌, ◌≤◌, ◌<◌, ◌≡◌, Bool, cond, ◌&&◌, ◌||◌}
use Rattle.std.proofs.Math.Path.{refl, ap}
use Rattle.std.proofs.Common.{◌∙◌, inl, inr, arith as linear}
use Rattle.std.proofs.Math.Bool.{true, false, and-true}
use Rattle.script.specs.declared.Operator.{Operator}
use Rattle.script.specs.declared.Operator.TheVariants.{Plus, Minus, Times, Div, Mod}
use Rattle.script.specs.Syntax.{Expr, arith, Formula}
use Rattle.script.specs.Words.{expr_words}
use Rattle.theorems.specs.Tests.{and_false}
use Rattle.shortening.specs.Simplify.{Shape, constant_0, constant_1, other, shape, truth_shape, only, fits, Change, zero_minus_first, minus_zero_first, arith_change, arith_changed, arith_node}
use Rattle.shortening.specs.Simplify as Simplify
use Rattle.shortening.specs.Picked.{zero_is, one_is}
use Rattle.shortening.specs.Never.{size, sizeᶠ, arith_size, Shorter, at_most, arith_shorter}
use Rattle.shortening.specs.Kept.{zero_less_zero, in_parts, node_keeps}
use Rattle.shortening.specs.Moved.{Moved, same, less, or_left, or_right, no, not_longer}

-- ---- what is known of a part

-- where one is kept, P6's result is neither constant 0 nor constant 1
pub record Status (k : Bool) (x y : Expr) : Type 0 where
  pub moved : Moved size k x y
  pub shaped : k ≡ true → shape x ≡ other

-- no truth moves
pub record Statusᶠ (k : Bool) (x y : Formula) : Type 0 where
  pub moved : Moved sizeᶠ k x y
  pub shaped : truth_shape y ≡ truth_shape x

pub stays : {k : Bool} {x : Expr} → k ≡ false → Status k x x
stays e = record { moved = same e refl; shaped = λ f. no f e }

-- ---- a part is shorter

changed_at_most : (t : Change) (p : Operator) (a b : Expr) → size (arith_changed t p a b) ≤ suc (size a + size b)
changed_at_most t p a b =
    let h : Shorter (arith_changed t p a b) (arith p a b) = arith_shorter t p (inl refl) (inl refl) in
    omega (linear, at_most h, arith_size p a b)

-- P6 kept the node
kept_node : {k : Bool} (p : Operator) (t : Change) (a b c d : Expr) → k ≡ true → size c + size d < size a + size b
    → Status k (arith p a b) (arith_changed t p c d)
kept_node p t a b c d e h =
    record { moved = less e (omega (linear, arith_size p a b, changed_at_most t p c d)); shaped = λ f. refl }

-- a constant of shape z is looked for
module _ (p : Operator) (z : Shape) (apart : fits (only z) other ≡ false) (a b c d : Expr) where
  -- the first part is shorter; P6 drops the second where it is the constant, and P10 tries that first
  first_less : {k l : Bool} (t u : Change) → k ≡ true → shape a ≡ other → size c < size a → Status l b d
      → t ≡ cond (fits (only z) (shape b)) Simplify.first Simplify.kept
      → (fits (only z) (shape d) ≡ true → u ≡ Simplify.first)
      → Status (in_parts t k l) (arith_changed t p a b) (arith_changed u p c d)
  first_less {k} {l} t u e q h m f g = rw f (of_test (fits (only z) (shape b)) refl m.moved)
    where
      of_test : (y : Bool) → fits (only z) (shape b) ≡ y → Moved size l b d
          → let w : Change = cond y Simplify.first Simplify.kept in
          Status (in_parts w k l) (arith_changed w p a b) (arith_changed u p c d)
      of_test true y (same i j) =
          rw (g (ap (λ x. fits (only z) (shape x)) j ∙ y)) (record { moved = less e h; shaped = λ f. q })
      of_test true y (less i j) = no y (ap (fits (only z)) (m.shaped i) ∙ apart)
      of_test false y n = kept_node p u a b c d (or_left l e) (omega (linear, not_longer n))

  -- the second part is shorter; P6 drops the first where it is the constant
  second_less : {k l : Bool} (n : Bool) (t u : Change) → ((e : Expr) → fits (only z) (shape e) ≡ true → size e ≡ 2)
      → k ≡ false → c ≡ a → l ≡ true → shape b ≡ other → size d < size b
      → let s : Change = cond n Simplify.negated_second Simplify.second in
      t ≡ cond (fits (only z) (shape a)) s Simplify.kept
      → u ≡ cond (fits (only z) (shape d)) Simplify.first (cond (fits (only z) (shape c)) s Simplify.kept)
      → Status (in_parts t k l) (arith_changed t p a b) (arith_changed u p c d)
  unfolding expr_words
  second_less {k} {l} n t u two x y e q h f g =
      rw (f, g) (of_tests n (fits (only z) (shape a)) (fits (only z) (shape d)) refl refl)
    where
      still : fits (only z) (shape c) ≡ fits (only z) (shape a)
      still = ap (λ i. fits (only z) (shape i)) y

      of_tests : (n i j : Bool) → fits (only z) (shape a) ≡ i → fits (only z) (shape d) ≡ j
          → let s : Change = cond n Simplify.negated_second Simplify.second in
          let w : Change = cond i s Simplify.kept in
          Status (in_parts w k l) (arith_changed w p a b)
          (arith_changed (cond j Simplify.first (cond (fits (only z) (shape c)) s Simplify.kept)) p c d)
      of_tests n false j r o =
          let s : Change = cond n Simplify.negated_second Simplify.second in
          kept_node p (cond j Simplify.first (cond (fits (only z) (shape c)) s Simplify.kept)) a b c d
          (or_right k e) (omega (linear, ap size y))
      of_tests true true true r o =
          record { moved = less e (omega (linear, two d o, two c (still ∙ r))); shaped = λ f. refl }
      of_tests true true false r o = rw (still ∙ r) (record { moved = less e (omega linear); shaped = λ f. refl })
      of_tests false true true r o =
          record { moved = less e (omega (linear, two d o, two c (still ∙ r))); shaped = λ f. q }
      of_tests false true false r o = rw (still ∙ r) (record { moved = less e h; shaped = λ f. q })

zero_size : (e : Expr) → fits (only constant_0) (shape e) ≡ true → size e ≡ 2
unfolding expr_words
zero_size e h = ap size (zero_is e h)

one_size : (e : Expr) → fits (only constant_1) (shape e) ≡ true → size e ≡ 2
unfolding expr_words
one_size e h = ap size (one_is e h)

-- ---- both parts the same

nothing_left : (t : Change) → in_parts t false false ≡ false
nothing_left Simplify.kept = refl
nothing_left Simplify.first = refl
nothing_left Simplify.second = refl
nothing_left Simplify.negated_second = refl

-- x and y say that the first and the second part are 0
minus_same : (a b : Expr) (x y : Bool) → fits (only constant_0) (shape a) ≡ x → fits (only constant_0) (shape b) ≡ y
    → let t : Change = cond (x && true) Simplify.negated_second (cond y Simplify.first Simplify.kept) in
    let u : Change = cond y Simplify.first (cond (x && true) Simplify.negated_second Simplify.kept) in
    Status ((x && y) || in_parts t false false) (arith_changed t Minus a b) (arith_changed u Minus a b)
unfolding expr_words
minus_same a b true true h k =
    record { moved = less refl (omega (linear, zero_size a h, zero_size b k)); shaped = λ f. refl }
minus_same a b true false h k = stays refl
minus_same a b false true h k = stays refl
minus_same a b false false h k = stays refl

both_same : (p : Operator) (a b : Expr)
    → Status (node_keeps p (shape a) (shape b) false false) (arith_node zero_minus_first p a b)
    (arith_node minus_zero_first p a b)
unfolding arith_node
both_same Plus a b = stays (nothing_left (arith_change zero_minus_first Plus (shape a) (shape b)))
both_same Minus a b = minus_same a b (fits (only constant_0) (shape a)) (fits (only constant_0) (shape b)) refl refl
both_same Times a b = stays (nothing_left (arith_change zero_minus_first Times (shape a) (shape b)))
both_same Div a b = stays refl
both_same Mod a b = stays refl

-- ---- a node of two expressions

unless : {k : Bool} {x y : Expr} (z : Bool) → z ≡ false → Status k x y → Status (z || k) x y
unless z e s = rw e s

module _ (k l : Bool) (a b c d : Expr) where
  abbrev Goal : Operator → Type 0
  Goal p =
      Status (node_keeps p (shape a) (shape b) k l) (arith_node zero_minus_first p a b) (arith_node minus_zero_first p c d)

  on_first : (p : Operator) → k ≡ true → size c < size a → Status k a c → Status l b d → Goal p
  unfolding arith_node
  on_first Plus e h m n =
      first_less Plus constant_0 refl a b c d (arith_change zero_minus_first Plus (shape a) (shape b))
      (arith_change minus_zero_first Plus (shape c) (shape d)) e (m.shaped e) h n (rw (m.shaped e)) (λ x. rw x)
  on_first Minus e h m n =
      unless (zero_less_zero Minus (shape a) (shape b))
      ((and_false (fits (only constant_0) (shape a)) (fits (only constant_0) (shape b))).1
      (inl (ap (fits (only constant_0)) (m.shaped e))))
      (first_less Minus constant_0 refl a b c d (arith_change zero_minus_first Minus (shape a) (shape b))
      (arith_change minus_zero_first Minus (shape c) (shape d)) e (m.shaped e) h n (rw (m.shaped e)) (λ x. rw x))
  on_first Times e h m n =
      first_less Times constant_1 refl a b c d (arith_change zero_minus_first Times (shape a) (shape b))
      (arith_change minus_zero_first Times (shape c) (shape d)) e (m.shaped e) h n (rw (m.shaped e)) (λ x. rw x)
  on_first Div e h m n = kept_node Div Simplify.kept a b c d (or_left l e) (omega (linear, not_longer n.moved))
  on_first Mod e h m n = kept_node Mod Simplify.kept a b c d (or_left l e) (omega (linear, not_longer n.moved))

  on_second : (p : Operator) → k ≡ false → c ≡ a → l ≡ true → size d < size b → Status l b d → Goal p
  unfolding arith_node
  on_second Plus x y e h n =
      let q = n.shaped e in
      second_less Plus constant_0 refl a b c d false (arith_change zero_minus_first Plus (shape a) (shape b))
      (arith_change minus_zero_first Plus (shape c) (shape d)) zero_size x y e q h
      (rw (q, and-true (fits (only constant_0) (shape a)))) (rw (and-true (fits (only constant_0) (shape c))))
  on_second Minus x y e h n =
      let q = n.shaped e in
      unless (zero_less_zero Minus (shape a) (shape b))
      ((and_false (fits (only constant_0) (shape a)) (fits (only constant_0) (shape b))).1
      (inr (ap (fits (only constant_0)) q)))
      (second_less Minus constant_0 refl a b c d true (arith_change zero_minus_first Minus (shape a) (shape b))
      (arith_change minus_zero_first Minus (shape c) (shape d)) zero_size x y e q h
      (rw (q, and-true (fits (only constant_0) (shape a)))) (rw (and-true (fits (only constant_0) (shape c)))))
  on_second Times x y e h n =
      let q = n.shaped e in
      second_less Times constant_1 refl a b c d false (arith_change zero_minus_first Times (shape a) (shape b))
      (arith_change minus_zero_first Times (shape c) (shape d)) one_size x y e q h
      (rw (q, and-true (fits (only constant_1) (shape a)))) (rw (and-true (fits (only constant_1) (shape c))))
  on_second Div x y e h n = kept_node Div Simplify.kept a b c d (or_right k e) (omega (linear, ap size y))
  on_second Mod x y e h n = kept_node Mod Simplify.kept a b c d (or_right k e) (omega (linear, ap size y))

  pub arith_status : (p : Operator) → Status k a c → Status l b d → Goal p
  arith_status p m n = of_moved m.moved n.moved
    where
      of_moved : Moved size k a c → Moved size l b d → Goal p
      of_moved (same x y) (same v w) = rw (x, y, v, w) (both_same p a b)
      of_moved (same x y) (less v h) = on_second p x y v h n
      of_moved (less x h) r = on_first p x h m n
