-- Two parts worked out one after the other: either stops, or both have values. Assumes nothing.
use mathlib.Core.Path.{◌≡◌, ap, ◌∙◌}
use Rattle.stepping.specs.Values.{Worked, got, stop, ◌then◌, Fault}

-- ---- one part

module _ {A B : Type 0} (f : A → Worked B) where
  pub then_stops : {w : Worked A} {x : Fault} → stop x ≡ w → stop x ≡ w then f
  then_stops h = ap (λ (w : Worked A). w then f) h

  pub then_goes : {w : Worked A} {a : A} → got a ≡ w → f a ≡ w then f
  then_goes h = ap (λ (w : Worked A). w then f) h

-- ---- two parts

-- w is what f makes of a and b, in this order
pub record Pair {A B C : Type 0} (a : Worked A) (b : Worked B) (f : A → B → Worked C) (w : Worked C) : Type 0 where
  pub is : a then (λ x. b then λ y. f x y) ≡ w

module _ {A B C : Type 0} {a : Worked A} {b : Worked B} {f : A → B → Worked C} {w : Worked C} (p : Pair a b f w) where
  pub first_stops : {x : Fault} → stop x ≡ a → stop x ≡ w
  first_stops h = then_stops (λ x. b then λ y. f x y) h ∙ p.is

  pub second_stops : {x : A} {z : Fault} → got x ≡ a → stop z ≡ b → stop z ≡ w
  second_stops {x} h i = then_stops (λ y. f x y) i ∙ then_goes (λ x. b then λ y. f x y) h ∙ p.is

  pub both_go : {x : A} {y : B} → got x ≡ a → got y ≡ b → f x y ≡ w
  both_go {x} {y} h i = then_goes (λ y. f x y) i ∙ then_goes (λ x. b then λ y. f x y) h ∙ p.is
