-- Numbers that locals hold as bits are the numbers that they were. Assumes nothing.
use mathlib.Core.Path.{◌≡◌, ◌∙◌}
use mathlib.Core.Bool.{Bool}
use mathlib.Core.List.{[]}
use Prim.Native.Nat.{ℕ, ◌<◌, ◌^◌}
use native.Mathlib.Omega.{arith}
use lib.IntN.{ℤ}
use lib.Signed.{mag}
use mir.Facts.{to_z-of_z}
use mir.Val.{to_z, of_z, SFits}
use mir.Syntax.{w32, w64}
use Rattle.script.specs.declared.Operator.{Operator}
use Rattle.script.specs.Laws.{back}
use Rattle.script.specs.Meaning.{relate}
use Rattle.stepping.specs.Values.{Worked, got, mode_64, operated}
use Rattle.stepping.specs.Machine.{state_of}
use Rattle.evaluation.specs.Worked.{opposite}
use Rattle.evaluation.specs.Kinds.{relation_of}

-- a word of 32 bits as a number of 64
pub wide_fits : (z : ℤ) → mag z < 2 ^ 31 → SFits w64 (to_z w32 (of_z w32 z))
wide_fits z h = rw (back h) (record { sfits = omega arith })

pub widened : (z : ℤ) → mag z < 2 ^ 31 → to_z w64 (of_z w64 (to_z w32 (of_z w32 z))) ≡ z
widened z h = to_z-of_z (wide_fits z h) ∙ back h

-- of two numbers as bits, with the operator that was found
pub operated_as : (code : Bool) {o p : Operator} {a b : ℤ} {w : Worked ℤ} → SFits w64 a → SFits w64 b → p ≡ o
    → w ≡ operated mode_64 (state_of [] []) code p (to_z w64 (of_z w64 a)) (to_z w64 (of_z w64 b)) → w ≡ operated mode_64 (state_of [] []) code o a b
operated_as code fa fb e h = rw (← e) (rw (to_z-of_z fa, to_z-of_z fb) at h)

pub related_as : (k : ℕ) {a b : ℤ} {t : Bool} → SFits w64 a → SFits w64 b
    → t ≡ relate (relation_of k) (to_z w64 (of_z w64 a)) (to_z w64 (of_z w64 b)) → t ≡ relate (relation_of k) a b
related_as k fa fb h = rw (to_z-of_z fa, to_z-of_z fb) at h

pub opposite_as : (a : ℤ) {w : Worked ℤ} → SFits w64 a → w ≡ opposite (got (to_z w64 (of_z w64 a))) → w ≡ opposite (got a)
opposite_as a fa h = rw (to_z-of_z fa) at h
