-- What it tells that a computation found something: of "go on where something was found", and of "go on where a test
-- holds". Assumes nothing.
use Rattle.std.specs.Prelude.{◌≡◌, refl, Bool, true, false}
use Rattle.std.proofs.Common.{sym, subst}
use Rattle.std.proofs.Math.Option.{Option, none, some}
use Rattle.script.specs.Listing.{◌>>=◌, guarded}

abbrev IsSome : {A : Type 0} → Option A → Type 0
IsSome (some a) = Unit {0}
IsSome none = ⊥

pub none_is_not : {A X : Type 0} {a : A} → ◌≡◌ {A = Option A} none (some a) → X
none_is_not e = absurd (subst IsSome (sym e) tt)

pub some_inj : {A : Type 0} {a b : A} → ◌≡◌ {A = Option A} (some a) (some b) → a ≡ b
some_inj e = cc

module _ {A B : Type 0} where
  -- the first part found something, with which the second found the answer
  pub went_on : (o : Option A) (f : A → Option B) {b : B} → (o >>= f) ≡ some b → (a : A) × (o ≡ some a) × (f a ≡ some b)
  went_on none f e = none_is_not e
  went_on (some a) f e = (a, refl, e)

  -- what is done with what was found is replaced
  pub goes_on : (o : Option A) {f g : A → Option B} {b : B} → (o >>= f) ≡ some b → ((a : A) → f a ≡ some b → g a ≡ some b)
      → (o >>= g) ≡ some b
  goes_on none e h = none_is_not e
  goes_on (some a) e h = h a e

  -- nothing was found, where it would have been answered
  pub stopped : (o : Option A) (f : A → B) → ◌≡◌ {A = Option B} (o >>= λ a. some (f a)) none → o ≡ none
  stopped none f e = refl
  stopped (some a) f e = none_is_not (sym e)

-- the test held
pub held : {A : Type 0} (t : Bool) (o : Option A) {a : A} → guarded t o ≡ some a → (t ≡ true) × (o ≡ some a)
held true o e = (refl, e)
held false o e = none_is_not e
