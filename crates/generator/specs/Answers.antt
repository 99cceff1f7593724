-- What the generator tells, as the four numbers of 01: a refusal's number and row, and the answer of a call. Assumes nothing.
use Rattle.std.specs.Prelude.{ℕ, ◌≡◌, refl, Result, Ok, Err}
use Rattle.script.specs.declared.Answer.{Answer}
use Rattle.script.specs.Generated.{refusal}
use Rattle.rows.specs.Numbers as Numbers
use Rattle.generator.specs.declared.Plan.{Plan}
use Rattle.generator.specs.declared.Refusal.{Refusal}
use Rattle.generator.specs.declared.Refusal.TheVariants.{Table, Scratch, Room}

abbrev pub number : Refusal → ℕ
number (Table e) = Numbers.number e.fault
number Scratch = 11
number Room = 12

abbrev pub row : Refusal → ℕ
row (Table e) = e.row.0
row Scratch = 0
row Room = 0

abbrev pub answer_of : Result Plan Refusal → Answer
answer_of (Ok p) = record { number = 0; row = 0; conditions = p.conditions; words = p.words }
answer_of (Err e) = refusal (number e) (row e)

-- ---- computed at the two that are no table's, and at a list

told : (answer_of (Err Scratch) ≡ refusal 11 0) × (answer_of (Err Room) ≡ refusal 12 0)
    × (answer_of (Ok (record { conditions = 4; words = 98 })) ≡ record { number = 0; row = 0; conditions = 4; words = 98 })
told = (refl, refl, refl)
