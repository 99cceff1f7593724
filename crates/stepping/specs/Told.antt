-- What is told where something is worked out (`Tells`): a value that is given is right, and a zero divisor is told of code alone, and
-- only where the run's own test finds one (`value_told`, `truth_told`); of an overflow nothing is said of the run.
-- Argument: the run's test says that no event is a div or mod by zero (`free_defined`). Assumes nothing.
use Rattle.std.specs.Prelude.{◌≡◌, refl, List, [], ◌∷◌, ◌++◌, Bool, true, false, cond, ◌&&◌}
use Rattle.std.proofs.Common.{ap₂, ◌∙◌, subst}
use Rattle.std.proofs.Math.Option.{Option, none, some}
use Rattle.std.proofs.Math.Bool as Bool
use Rattle.script.specs.Syntax.{Expr, const, var, mark, arith, neg, choose, Formula, truth, cmp, not, join}
use Rattle.script.specs.Meaning.{Arithmetic, State, value, holds, takes, defined, definedᶠ}
use Rattle.stepping.specs.Values.{Mode, Fault, overflow, by_zero, Worked, got, stop, work, judge}
use Rattle.stepping.specs.Events.{Event, result, divisor, events, eventsᶠ, or_later, first_fault, given}
use Rattle.stepping.specs.Working.{worked, judged}

-- ---- zero divisors among the events

abbrev pub taken_divisor : Event → Bool
taken_divisor (result z) = true
taken_divisor (divisor o y) = takes o y

-- no event is a div or mod by zero
abbrev pub zero_free : List Event → Bool
zero_free [] = true
zero_free (x ∷ xs) = taken_divisor x && zero_free xs

zero_free_both : (xs ys : List Event) → zero_free (xs ++ ys) ≡ (zero_free xs && zero_free ys)
zero_free_both [] ys = refl
zero_free_both (x ∷ xs) ys = by (taken_divisor x) (zero_free_both xs ys)
  where
    by : (b : Bool) → zero_free (xs ++ ys) ≡ (zero_free xs && zero_free ys)
        → (b && zero_free (xs ++ ys)) ≡ ((b && zero_free xs) && zero_free ys)
    by true h = h
    by false h = refl

module _ (𝔸 : Arithmetic) (s : State) where
  grouped : (a b c : Bool) → (a && (b && (c && true))) ≡ ((a && b) && c)
  grouped true true true = refl
  grouped true true false = refl
  grouped true false c = refl
  grouped false b c = refl

  unended : (a : Bool) → (a && true) ≡ a
  unended true = refl
  unended false = refl

  branch_free : (t : Bool) (xs ys : List Event) {p q : Bool} → zero_free xs ≡ p → zero_free ys ≡ q → zero_free (cond t xs ys) ≡ cond t p q
  branch_free true xs ys h k = h
  branch_free false xs ys h k = k

  both_free : (xs ys : List Event) {p q : Bool} → zero_free xs ≡ p → zero_free ys ≡ q → zero_free (xs ++ ys) ≡ (p && q)
  both_free xs ys h k = zero_free_both xs ys ∙ ap₂ (λ p q. p && q) h k

  mutual
    unfolding defined events value

    pub free_defined : (e : Expr) → zero_free (events 𝔸 s e) ≡ defined 𝔸 s e
    free_defined (const z) = refl
    free_defined (var v) = refl
    free_defined (mark m) = refl
    free_defined (arith o a b) =
        both_free (events 𝔸 s a) _ (free_defined a) (both_free (events 𝔸 s b) _ (free_defined b) refl)
        ∙ grouped (defined 𝔸 s a) (defined 𝔸 s b) (takes o (value 𝔸 s b))
    free_defined (neg a) = both_free (events 𝔸 s a) _ (free_defined a) refl ∙ unended (defined 𝔸 s a)
    free_defined (choose f a b) =
        both_free (eventsᶠ 𝔸 s f) _ (free_definedᶠ f)
        (branch_free (holds 𝔸 s f) (events 𝔸 s a) (events 𝔸 s b) (free_defined a) (free_defined b))

    pub free_definedᶠ : (f : Formula) → zero_free (eventsᶠ 𝔸 s f) ≡ definedᶠ 𝔸 s f
    free_definedᶠ (truth b) = refl
    free_definedᶠ (cmp r a b) = both_free (events 𝔸 s a) (events 𝔸 s b) (free_defined a) (free_defined b)
    free_definedᶠ (not f) = free_definedᶠ f
    free_definedᶠ (join c f g) = both_free (eventsᶠ 𝔸 s f) (eventsᶠ 𝔸 s g) (free_definedᶠ f) (free_definedᶠ g)

-- ---- what is told

-- where something is worked out it is a, and where the test `no_zero` fails a zero divisor is told; of an overflow nothing is said
pub data Tells {A : Type 0} : Worked A → A → Bool → Type 0 where
  right : {a : A} → Tells (got a) a true
  divides : {a : A} → Tells (stop by_zero) a false
  unsaid : {a : A} {no_zero : Bool} → Tells (stop overflow) a no_zero

-- the run's test, of which annotations know nothing
abbrev pub tests : Bool → Bool → Bool
tests code no_zero = cond code no_zero true

module _ (M : Mode) (code : Bool) where
  events_tell : {A : Type 0} (xs : List Event) (a : A) → Tells (given (first_fault M code xs) a) a (tests code (zero_free xs))
  events_tell [] a = nothing code
    where
      nothing : (c : Bool) → Tells (got a) a (tests c true)
      nothing true = right
      nothing false = right
  events_tell (result z ∷ xs) a = by (M.holds_value z) (events_tell xs a)
    where
      by : (b : Bool) → Tells (given (first_fault M code xs) a) a (tests code (zero_free xs))
          → Tells (given (or_later M code (cond b none (some overflow)) (first_fault M code xs)) a) a (tests code (zero_free xs))
      by true h = h
      by false h = unsaid
  events_tell (divisor o y ∷ xs) a = by code (takes o y) (first_fault M code xs) (events_tell xs a)
    where
      by : (c t : Bool) (p : Option Fault) → Tells (given p a) a (tests c (zero_free xs))
          → Tells (given (or_later M code (cond (c && Bool.not t) (some by_zero) none) p) a) a (tests c (t && zero_free xs))
      by true true p h = h
      by true false p h = divides
      by false t p h = h

  module _ (s : State) where
    pub value_told : (e : Expr) → Tells (work M s code e) (value M.arithmetic s e) (tests code (defined M.arithmetic s e))
    value_told e =
        rw (worked M s code e)
        (subst (λ b. Tells (given (first_fault M code (events M.arithmetic s e)) (value M.arithmetic s e)) (value M.arithmetic s e)
        (tests code b))
        (free_defined M.arithmetic s e) (events_tell (events M.arithmetic s e) (value M.arithmetic s e)))

    pub truth_told : (f : Formula) → Tells (judge M s code f) (holds M.arithmetic s f) (tests code (definedᶠ M.arithmetic s f))
    truth_told f =
        rw (judged M s code f)
        (subst (λ b. Tells (given (first_fault M code (eventsᶠ M.arithmetic s f)) (holds M.arithmetic s f)) (holds M.arithmetic s f)
        (tests code b))
        (free_definedᶠ M.arithmetic s f) (events_tell (eventsᶠ M.arithmetic s f) (holds M.arithmetic s f)))
