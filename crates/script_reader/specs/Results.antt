-- What a result tells: the number of a refusal with its place, or how many words were used. Assumes nothing.
use Rattle.std.specs.Prelude.{ℕ, List, ℤ, Result, Ok, Err}
use Rattle.grammar.specs.Answer.{Answer}
use Rattle.script_reader.specs.declared.refusals.Fault.{Fault}
use Rattle.script_reader.specs.declared.refusals.Fault.TheVariants.{NoToken, NoText, OutOfRange, NoRoom, TooLong}
use Rattle.script_reader.specs.declared.refusals.Refusal.{Refusal}

abbrev pub fault_number : Fault → ℕ
fault_number NoToken = 40
fault_number NoText = 41
fault_number OutOfRange = 42
fault_number NoRoom = 43
fault_number TooLong = 44

-- the answer, with the words that are left
abbrev pub answer_of : Result ℕ Refusal → List ℤ → Answer
answer_of (Ok n) ws = record { number = 0; place = 0; used = n; words = ws }
answer_of (Err e) ws = record { number = fault_number e.fault; place = e.place; used = 0; words = ws }
