-- What it tells that a test held (`false_is_not`, `same_is`, `both`), and when one does (`same_refl`). Assumes nothing.
use Rattle.std.specs.Prelude.{◌≡◌, refl, Bool, true, false, ◌&&◌}
use Rattle.std.proofs.Common.{sym, subst}
use Rattle.grammar.specs.Sorts.{same, Sort, sort-discrete, same_sort}

abbrev IsTrue : Bool → Type 0
IsTrue true = Unit {0}
IsTrue false = ⊥

pub false_is_not : {X : Type 0} → ◌≡◌ {A = Bool} false true → X
false_is_not e = absurd (subst IsTrue (sym e) tt)

pub same_refl : {A : Type 0} (d : Discrete A) (x : A) → same d x x ≡ true
same_refl {A} d x = at (d x x)
  where
    at : (k : Dec (x ≡ x)) → ◌≡◌ {A = Bool} (elim k [ yes p ↦ true | no n ↦ false ]) true
    at (yes p) = refl
    at (no n) = absurd (n refl)

pub same_is : {A : Type 0} (d : Discrete A) (x y : A) → same d x y ≡ true → x ≡ y
same_is {A} d x y = at (d x y)
  where
    at : (k : Dec (x ≡ y)) → ◌≡◌ {A = Bool} (elim k [ yes p ↦ true | no n ↦ false ]) true → x ≡ y
    at (yes p) e = p
    at (no n) e = false_is_not e

pub same_sorts : {s t : Sort} → s ≡ t → same_sort s t ≡ true
same_sorts {s} e = subst (λ (u : Sort). same_sort s u ≡ true) e (same_refl sort-discrete s)

pub both : (a b : Bool) → (a && b) ≡ true → (a ≡ true) × (b ≡ true)
both true b e = (refl, e)
both false b e = false_is_not e
