-- 02, P11: the values that the machine works out, or what stops it: "50 when a value leaves 64 bits", "53 when a script divides
-- by zero". In this order: the machine's numbers, what stops a step, values and truths worked out. Assumes nothing.
use Rattle.std.specs.Prelude.{ℕ, Bool, cond, ◌&&◌, ℤ, ltb}
use Rattle.std.proofs.Math.Bool as Bool
use Rattle.std.specs.Int.Signed.{mag}
use Rattle.script.specs.declared.Operator.{Operator}
use Rattle.script.specs.Syntax.{Expr, const, var, mark, arith, neg, choose, Formula, truth, cmp, not, join}
use Rattle.script.specs.Meaning.{Arithmetic, State, whole, relate, connect, takes}

-- ---- the machine's numbers

pub record Mode : Type 0 where
  pub arithmetic : Arithmetic
  -- the results that are let through
  pub holds_value : ℤ → Bool

-- whether z is a 64-bit number: -2 to the 63rd up to 2 to the 63rd less 1
abbrev pub in_64 : ℤ → Bool
in_64 z = ltb (mag z) 9223372036854775808

-- whole numbers, as long as 64 bits hold them
abbrev pub mode_64 : Mode
mode_64 = record { arithmetic = whole; holds_value = in_64 }

-- ---- what stops a step

pub data Fault : Type 0 where
  -- "a value leaves 64 bits"
  overflow : Fault
  -- "a script divides by zero"
  by_zero : Fault

abbrev pub fault_number : Fault → ℕ
fault_number overflow = 50
fault_number by_zero = 53

pub data Worked (A : Type 0) : Type 0 where
  got : A → Worked A
  stop : Fault → Worked A

infixl 10 ◌then◌
abbrev pub ◌then◌ : {A B : Type 0} → Worked A → (A → Worked B) → Worked B
got a then f = f a
stop x then f = stop x

-- ---- values and truths worked out

-- "Operands go left first; in annotations too, choose works out only the branch taken, connectives both sides." 02, P5: "a guard
-- or assigned expression that works out a div or mod by zero is a failed run"; "in annotations 01's totals stay": the Bool says
-- whether code is worked out, a guard or an assigned expression, or else an annotation.
module _ (M : Mode) (s : State) (code : Bool) where
  abbrev pub tested : ℤ → Worked ℤ
  tested z = cond (M.holds_value z) (got z) (stop overflow)

  -- an operator's result; the divisor is looked at after both operands
  abbrev pub operated : Operator → ℤ → ℤ → Worked ℤ
  operated o x y = cond (code && Bool.not (takes o y)) (stop by_zero) (tested (M.arithmetic.op o x y))

  unfoldable mutual
    pub work : Expr → Worked ℤ
    work (const z) = got z
    work (var v) = got (s.var v)
    work (mark m) = got (s.mark m)
    work (arith o a b) = work a then λ x. work b then λ y. operated o x y
    work (neg a) = work a then λ x. tested (M.arithmetic.neg x)
    work (choose f a b) = judge f then λ t. cond t (work a) (work b)

    pub judge : Formula → Worked Bool
    judge (truth b) = got b
    judge (cmp r a b) = work a then λ x. work b then λ y. got (relate r x y)
    judge (not f) = judge f then λ t. got (Bool.not t)
    judge (join c f g) = judge f then λ t. judge g then λ u. got (connect c t u)
