-- What is answered, as the number of a refusal, 0 for none, and how many bytes were used. Assumes nothing.
use Rattle.std.specs.Prelude.{ℕ, Result, Ok, Err}
use Rattle.list_reader.specs.declared.lines.Missing.{Missing}
use Rattle.list_reader.specs.declared.lines.Missing.TheVariants as M
use Rattle.smt_writer.specs.declared.Refusal.{Refusal}
use Rattle.smt_writer.specs.declared.Refusal.TheVariants.{NoList, NoCondition, NoRoom}

abbrev pub refusal_number : Refusal → ℕ
refusal_number NoList = 20
refusal_number NoCondition = 21
refusal_number NoRoom = 30

-- what the list reader refuses
abbrev pub refusal_of : Missing → Refusal
refusal_of M.NoList = NoList
refusal_of M.NoLine = NoCondition

abbrev pub number_told : Result ℕ Refusal → ℕ
number_told (Ok used) = 0
number_told (Err refusal) = refusal_number refusal

abbrev pub used_told : Result ℕ Refusal → ℕ
used_told (Ok used) = used
used_told (Err refusal) = 0
