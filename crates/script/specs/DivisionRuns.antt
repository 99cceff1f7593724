-- 02, P5, by computation: runs that divide by zero, and runs that have such a division where they do not work it out or where
-- it stands in an annotation. Each is one step from the state of zeros, but for a loop whose second test divides by zero.
-- Assumes nothing.
use Rattle.std.specs.Prelude.{ℕ, ◌≡◌, refl, true, false, List, [], ◌∷◌, map, pos}
use Rattle.std.proofs.Math.Option.{Option, none, some}
use Rattle.script.specs.declared.Operator.TheVariants.{Div, Mod}
use Rattle.script.specs.declared.Relation.TheVariants.{Equal, Unequal}
use Rattle.script.specs.declared.Connective.TheVariants.{And, Or, Implies}
use Rattle.script.specs.Syntax.{Expr, const, var, arith, choose, Formula, truth, cmp, not, join, Stmt, skip, assign, seq, branch, loop, assert}
use Rattle.script.specs.Meaning.{State, whole, value, holds, defined, definedᶠ}
use Rattle.script.specs.Run.{begin, again, Cause, false_assertion, zero_divisor, Config, at, failed, test, first_step, step_of, step, after, start}
use Rattle.script.specs.Computed.{zero_state}

-- 1 div v1, which divides by zero there; by 01's totals it is 0
zero_division : Expr
zero_division = arith Div (const (pos 1)) (var 1)

is_zero : Expr → Formula
is_zero e = cmp Equal e (const (pos 0))

steps_of : ℕ → Stmt → Config
steps_of n x = after whole n (start (record { pre = truth true; body = x; post = truth true; row = 0 }) zero_state)

run_of : Stmt → Config
run_of = steps_of 1

-- why it failed, if it did
cause : Config → Option Cause
cause (at k s) = none
cause (failed c x) = some c

if : Formula → Stmt
if b = branch b skip skip

-- ---- "a guard or assigned expression that works out a div or mod by zero is a failed run"

divided : List Stmt
divided =
    assign 0 zero_division
    ∷ assign 0 (arith Mod (const (pos 1)) (var 1))
    ∷ if (is_zero zero_division)
    ∷ loop 0 (is_zero zero_division) (truth true) (var 0) skip
    -- "choose works out only the branch taken": that one, and the formula
    ∷ assign 1 (choose (truth false) (var 1) zero_division)
    ∷ assign 1 (choose (is_zero zero_division) (var 1) (var 1))
    -- "connectives both sides", where the first side decides
    ∷ if (join And (cmp Unequal (var 1) (const (pos 0))) (is_zero zero_division))
    ∷ if (join Or (is_zero (var 1)) (is_zero zero_division))
    ∷ if (join Implies (truth false) (not (is_zero zero_division)))
    ∷ []

all_fail : map (λ x. cause (run_of x)) divided ≡ map (λ x. some zero_divisor) divided
unfolding divided if is_zero cause run_of steps_of zero_division zero_state after step step_of first_step test value holds defined definedᶠ
all_fail = refl

-- v1 := 1; while 1 div v1 = 1 do v1 := 0: the first test divides by 1, the second, after the body, by 0
tested_twice : Stmt
tested_twice =
    seq (assign 1 (const (pos 1))) (loop 0 (cmp Equal zero_division (const (pos 1))) (truth true) (var 0) (assign 1 (const (pos 0))))

second_fails : (cause (steps_of 3 tested_twice) ≡ none) × (cause (steps_of 4 tested_twice) ≡ some zero_divisor)
unfolding tested_twice cause steps_of zero_division zero_state after step step_of first_step test value holds defined definedᶠ
second_fails = (refl, refl)

-- ---- not worked out, or "in annotations 01's totals stay"

undivided : List Stmt
undivided =
    assign 1 (choose (truth true) (var 1) zero_division)
    ∷ assign 1 (choose (is_zero (var 1)) (var 1) zero_division)
    ∷ assert (is_zero zero_division)
    ∷ []

none_fails : map (λ x. cause (run_of x)) undivided ≡ map (λ x. none) undivided
unfolding undivided is_zero cause run_of steps_of zero_division zero_state after step step_of first_step test value holds defined definedᶠ
none_fails = refl

-- the invariant and the variant of a loop whose body is begun: the arrival is with variant 0
annotated : (s : State)
    × (run_of (loop 0 (is_zero (var 1)) (is_zero zero_division) zero_division skip)
    ≡ at (begin skip ∷ again 0 (is_zero (var 1)) (is_zero zero_division) zero_division skip (pos 0) 1 ∷ []) s)
unfolding is_zero run_of steps_of zero_division zero_state after step step_of first_step test value holds defined definedᶠ
annotated = (_, refl)

-- where an assertion is false by 01's totals, it is for that
asserted : cause (run_of (assert (not (is_zero zero_division)))) ≡ some false_assertion
unfolding is_zero cause run_of steps_of zero_division zero_state after step step_of first_step test value holds
asserted = refl
