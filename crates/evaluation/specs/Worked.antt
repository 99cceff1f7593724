-- What the functions' answers stand for among the values worked out, and what the two functions ask. Assumes nothing.
use Rattle.std.specs.Prelude.{ℕ, ◌<◌, ◌≤◌, ◌≡◌, Bool, true, List, [], ℤ, pos, length, Option, Some, None, Result, Ok, Err}
use Rattle.std.proofs.Common.{sym, ap, ◌∙◌}
use Rattle.std.proofs.Math.Bool as Bool
use Rattle.script.specs.Rows.{rows, variables}
use Rattle.script.specs.Refusals.{verdict, accepted}
use Rattle.stepping.specs.Values.{Worked, got, stop, ◌then◌, Fault, overflow, by_zero, mode_64, tested}
use Rattle.stepping.specs.Machine.{state_of, mark_values}
use Rattle.evaluation.specs.declared.Stop.{Stop}
use Rattle.evaluation.specs.declared.Stop.TheVariants.{Overflow, ByZero}

-- ---- the answers

abbrev pub fault_of : Stop → Fault
fault_of Overflow = overflow
fault_of ByZero = by_zero

abbrev pub worked : {A : Type 0} → Result A Stop → Worked A
worked (Ok z) = got z
worked (Err e) = stop (fault_of e)

-- what is known of an answer, of one of its cases
pub worked_is : {A : Type 0} {x y : Result A Stop} {w : Worked A} → x ≡ y → worked x ≡ w → worked y ≡ w
worked_is e h = sym (ap worked e) ∙ h

-- ---- one node

abbrev pub worked_checked : Option ℤ → Worked ℤ
worked_checked (Some z) = got z
worked_checked None = stop overflow

abbrev pub opposite : Worked ℤ → Worked ℤ
opposite x = x then λ a. tested mode_64 (state_of [] []) true (mode_64.arithmetic.neg a)

abbrev pub denial : Worked Bool → Worked Bool
denial t = t then λ a. got (Bool.not a)

-- what stopped a value stops a truth, and the other way
abbrev pub stop_truth : Worked ℤ → Worked Bool
stop_truth x = x then λ a. got true

abbrev pub stop_value : Worked Bool → Worked ℤ
stop_value t = t then λ a. got (pos 0)

-- ---- what is asked: an accepted table with a row r, and all the values of variables and marks

pub record Lent (t vars marks : List ℤ) (r : ℕ) : Type 0 where
  pub accepted : verdict t ≡ accepted
  pub inside : r < rows t
  pub all_variables : variables ≤ length vars
  pub all_marks : mark_values ≤ length marks
