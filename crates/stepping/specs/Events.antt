-- 02, P11: what an expression or a formula works out, in order, each thing once, whether or not something stops it: "Operands
-- go left first; in annotations too, choose works out only the branch taken, connectives both sides" (`events`, `eventsᶠ`); what
-- stops there first (`first_fault`), and what is then given (`given`). Assumes nothing.
use Rattle.std.proofs.Math.Option.{Option, none, some}
use Rattle.std.specs.Prelude.{List, [], ◌∷◌, ◌++◌, Bool, cond, ◌&&◌, ℤ}
use Rattle.std.proofs.Math.Bool as Bool
use Rattle.script.specs.declared.Operator.{Operator}
use Rattle.script.specs.Syntax.{Expr, const, var, mark, arith, neg, choose, Formula, truth, cmp, not, join}
use Rattle.script.specs.Meaning.{Arithmetic, State, value, holds, takes}
use Rattle.stepping.specs.Values.{Mode, Fault, overflow, by_zero, Worked, got, stop}

pub data Event : Type 0 where
  -- an operator or a negate has this result
  result : ℤ → Event
  -- an operator looks at its second operand
  divisor : Operator → ℤ → Event

module _ (𝔸 : Arithmetic) (s : State) where
  unfoldable mutual
    pub events : Expr → List Event
    events (const z) = []
    events (var v) = []
    events (mark m) = []
    events (arith o a b) =
        events a ++ (events b ++ (divisor o (value 𝔸 s b) ∷ result (𝔸.op o (value 𝔸 s a) (value 𝔸 s b)) ∷ []))
    events (neg a) = events a ++ (result (𝔸.neg (value 𝔸 s a)) ∷ [])
    events (choose f a b) = eventsᶠ f ++ cond (holds 𝔸 s f) (events a) (events b)

    pub eventsᶠ : Formula → List Event
    eventsᶠ (truth b) = []
    eventsᶠ (cmp r a b) = events a ++ events b
    eventsᶠ (not f) = eventsᶠ f
    eventsᶠ (join c f g) = eventsᶠ f ++ eventsᶠ g

module _ (M : Mode) (code : Bool) where
  -- what stops at an event: a result that is not let through, and in code a divisor that is not taken
  abbrev pub fault_of : Event → Option Fault
  fault_of (result z) = cond (M.holds_value z) none (some overflow)
  fault_of (divisor o y) = cond (code && Bool.not (takes o y)) (some by_zero) none

  abbrev pub or_later : Option Fault → Option Fault → Option Fault
  or_later (some x) p = some x
  or_later none p = p

  abbrev pub first_fault : List Event → Option Fault
  first_fault [] = none
  first_fault (x ∷ xs) = or_later (fault_of x) (first_fault xs)

-- a where nothing stops
abbrev pub given : {A : Type 0} → Option Fault → A → Worked A
given none a = got a
given (some x) a = stop x
