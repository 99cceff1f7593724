-- What tests, conjunctions, implications and lists of valid conditions say. Assumes nothing.
use Rattle.std.specs.Prelude.{◌≡◌, refl, List, [], ◌∷◌, ◌++◌, Bool, true, false, ◌&&◌, ◌||◌, T}
use Rattle.std.proofs.Math.Bool as Bool
use Rattle.script.specs.Syntax.{Formula, join}
use Rattle.script.specs.declared.Connective.TheVariants.{And, Implies}
use Rattle.script.specs.Meaning.{Arithmetic, State, holds}
use Rattle.script.specs.Conditions.{Condition}
use Rattle.script.specs.Promise.{AllValid}

pub is_true : (b : Bool) → T b → b ≡ true
is_true true h = refl
is_true false h = absurd h

pub both : (a b : Bool) → T (a && b) → T a × T b
both true b t = (tt, t)
both false b t = absurd t

pub pair : (a b : Bool) → T a → T b → T (a && b)
pair true b x y = y
pair false b x y = x

-- what is implied and true
pub implies_true : (b : Bool) → T (Bool.not b || true)
implies_true true = tt
implies_true false = tt

follow : (a b : Bool) → T (Bool.not a || b) → T a → T b
follow true b t x = t
follow false b t x = absurd x

module _ (𝔸 : Arithmetic) where
  pub all_left : (xs ys : List Condition) → AllValid 𝔸 (xs ++ ys) → AllValid 𝔸 xs
  all_left [] ys a = tt
  all_left (x ∷ xs) ys a = (a.0, all_left xs ys a.1)

  pub all_right : (xs ys : List Condition) → AllValid 𝔸 (xs ++ ys) → AllValid 𝔸 ys
  all_right [] ys a = a
  all_right (x ∷ xs) ys a = all_right xs ys a.1

  module _ (s : State) (f g : Formula) where
    pub both_hold : T (holds 𝔸 s (join And f g)) → T (holds 𝔸 s f) × T (holds 𝔸 s g)
    unfolding holds
    both_hold t = both (holds 𝔸 s f) (holds 𝔸 s g) t

    pub hold_both : T (holds 𝔸 s f) → T (holds 𝔸 s g) → T (holds 𝔸 s (join And f g))
    unfolding holds
    hold_both x y = pair (holds 𝔸 s f) (holds 𝔸 s g) x y

    pub hold_then : T (holds 𝔸 s (join Implies f g)) → T (holds 𝔸 s f) → T (holds 𝔸 s g)
    unfolding holds
    hold_then t x = follow (holds 𝔸 s f) (holds 𝔸 s g) t x
