-- Demand 3: if every condition of the list left is true in all states, every run from a start that meets the precondition
-- fails no assertion, divides by no zero (02, P5: "The rule about proved scripts now also excludes a zero divisor"), ends,
-- meets the postcondition, and begins a loop's body at most v + 1 times on each arrival with variant v (not at all if
-- v < 0). 01: "Demand 3 is a single claim on table, list and whole run". Assumes nothing.
use Rattle.std.specs.Prelude.{◌≡◌, List, [], ◌∷◌, ℤ, T, take}
use Rattle.std.proofs.Math.Option.{some}
use Rattle.script.specs.declared.Answer.{Answer}
use Rattle.script.specs.Syntax.{Formula}
use Rattle.script.specs.Meaning.{Arithmetic, State, whole, holds}
use Rattle.script.specs.Run.{TotalCorrectness}
use Rattle.script.specs.Conditions.{Condition}
use Rattle.script.specs.Trees.{tree}
use Rattle.script.specs.Listing.{read_list}

-- true in all states
abbrev pub Valid : Arithmetic → Formula → Type 0
Valid 𝔸 f = (s : State) → T (holds 𝔸 s f)

abbrev pub AllValid : Arithmetic → List Condition → Type 0
AllValid 𝔸 [] = Unit {0}
AllValid 𝔸 (c ∷ cs) = Valid 𝔸 c.claim × AllValid 𝔸 cs

-- every condition that is read from the words: "A condition of a list is true in a state when the formula its words spell
-- is."
abbrev pub ListValid : Arithmetic → List ℤ → Type 0
ListValid 𝔸 ws = (cs : List Condition) → read_list ws ≡ some cs → AllValid 𝔸 cs

-- demand 3 of a table, an answer, and the list left with it
unfoldable pub Demand3 : List ℤ → Answer → List ℤ → Type 0
Demand3 table answer list =
    answer.number ≡ 0
    → ListValid whole (take answer.words list)
    → (s : State) → T (holds whole s (tree table).pre) → TotalCorrectness whole (tree table) s
