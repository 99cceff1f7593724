-- The numbers that 01 gives to faults. Assumes nothing.
use Rattle.std.specs.Prelude.{ℕ, ◌≢◌, Option, Some, None}
use Rattle.std.proofs.Common.{arith as linear}
use Rattle.rows.specs.declared.Fault.{Fault}
use Rattle.rows.specs.declared.Fault.TheVariants.{BadLength, UnlistedKind, OutOfRange, LinkNotLower, WrongSort, LinkedTwice, Loose, FrozenTarget, Misplaced, TooDeep}

abbrev pub number : Fault → ℕ
number BadLength = 1
number UnlistedKind = 2
number OutOfRange = 3
number LinkNotLower = 4
number WrongSort = 5
number LinkedTwice = 6
number Loose = 7
number FrozenTarget = 8
number Misplaced = 9
number TooDeep = 10

-- 0 where there is none
abbrev pub number_of : Option Fault → ℕ
number_of None = 0
number_of (Some f) = number f

-- a fault has a number
pub not_none : (f : Fault) → number f ≢ 0
not_none BadLength e = omega linear
not_none UnlistedKind e = omega linear
not_none OutOfRange e = omega linear
not_none LinkNotLower e = omega linear
not_none WrongSort e = omega linear
not_none LinkedTwice e = omega linear
not_none Loose e = omega linear
not_none FrozenTarget e = omega linear
not_none Misplaced e = omega linear
not_none TooDeep e = omega linear
