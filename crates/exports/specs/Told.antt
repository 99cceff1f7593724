-- An answer as four numbers. Assumes nothing.
use Rattle.std.specs.Prelude.{ℕ, ◌≡◌, List, ℤ}
use Rattle.std.proofs.Common.{subst}
use Rattle.script.specs.declared.Answer.{Answer}
use Rattle.script.specs.Promise.{Demand3}

abbrev pub Told : Answer → ℕ → ℕ → ℕ → ℕ → Type 0
Told a number row conditions words =
    (number ≡ a.number) × ((row ≡ a.row) × ((conditions ≡ a.conditions) × (words ≡ a.words)))

pub told_as : {a b : Answer} {number row conditions words : ℕ} → a ≡ b → Told a number row conditions words → Told b number row conditions words
told_as {number = number} {row = row} {conditions = conditions} {words = words} e t = subst (λ (x : Answer). Told x number row conditions words) e t

abbrev pub answer_of : ℕ → ℕ → ℕ → ℕ → Answer
answer_of number row conditions words = record { number = number; row = row; conditions = conditions; words = words }

-- demand 3 of an answer is demand 3 of its numbers
pub told_demand : (t l : List ℤ) {a : Answer} {number row conditions words : ℕ} → Told a number row conditions words → Demand3 t a l
    → Demand3 t (answer_of number row conditions words) l
told_demand t l {a} {number} {row} {conditions} {words} (n, (r, (c, w))) d =
    let e : a ≡ answer_of number row conditions words = rw (n, r, c, w) in
    subst (λ (x : Answer). Demand3 t x l) e d
