-- D(E) of 02, P5, has no name, variable or mark, that E has not (`divisors_names`; of a formula `divisors_namesᶠ`): whatever
-- holds of every variable and every mark of E holds of those of D(E). So its numbers are in range where E's are, and it reads
-- no mark that E does not. By induction on the expression. Assumes nothing.
use Rattle.std.specs.Prelude.{ℕ}
use Rattle.std.proofs.Math.Option.{Option, none, some}
use Rattle.script.specs.declared.Operator.{Operator}
use Rattle.script.specs.declared.Operator.TheVariants.{Plus, Minus, Times, Div, Mod}
use Rattle.script.specs.Syntax.{Expr, const, var, mark, arith, neg, choose, Formula, truth, cmp, not, join, Names, Namesᶠ}
use Rattle.script.specs.Conditions.{◌joined◌, behind, divisor, divisors, divisorsᶠ}

module _ (P Q : ℕ → Type 0) where
  abbrev pub Namesᵒ : Option Formula → Type 0
  Namesᵒ none = Unit {0}
  Namesᵒ (some f) = Namesᶠ P Q f

  joined_names : (x y : Option Formula) → Namesᵒ x → Namesᵒ y → Namesᵒ (x joined y)
  joined_names none y h k = k
  joined_names (some f) none h k = h
  joined_names (some f) (some g) h k = (h, k)

  behind_names : (f : Formula) (x : Option Formula) → Namesᶠ P Q f → Namesᵒ x → Namesᵒ (behind f x)
  behind_names f none h k = tt
  behind_names f (some g) h k = (h, k)

  divisor_names : (o : Operator) (d : Expr) → Names P Q d → Namesᵒ (divisor o d)
  divisor_names Plus d h = tt
  divisor_names Minus d h = tt
  divisor_names Times d h = tt
  divisor_names Div d h = (h, tt)
  divisor_names Mod d h = (h, tt)

  mutual
    unfolding divisors divisorsᶠ

    pub divisors_names : (e : Expr) → Names P Q e → Namesᵒ (divisors e)
    divisors_names (const z) h = tt
    divisors_names (var v) h = tt
    divisors_names (mark m) h = tt
    divisors_names (arith o a b) h =
        joined_names (divisors a joined divisors b) (divisor o b)
        (joined_names (divisors a) (divisors b) (divisors_names a h.0) (divisors_names b h.1))
        (divisor_names o b h.1)
    divisors_names (neg a) h = divisors_names a h
    divisors_names (choose f a b) h =
        joined_names (divisorsᶠ f joined behind f (divisors a)) (behind (not f) (divisors b))
        (joined_names (divisorsᶠ f) (behind f (divisors a)) (divisors_namesᶠ f h.0)
        (behind_names f (divisors a) h.0 (divisors_names a h.1)))
        (behind_names (not f) (divisors b) h.0 (divisors_names b h.2))

    pub divisors_namesᶠ : (f : Formula) → Namesᶠ P Q f → Namesᵒ (divisorsᶠ f)
    divisors_namesᶠ (truth b) h = tt
    divisors_namesᶠ (cmp r a b) h =
        joined_names (divisors a) (divisors b) (divisors_names a h.0) (divisors_names b h.1)
    divisors_namesᶠ (not f) h = divisors_namesᶠ f h
    divisors_namesᶠ (join c f g) h =
        joined_names (divisorsᶠ f) (divisorsᶠ g) (divisors_namesᶠ f h.0) (divisors_namesᶠ g h.1)
