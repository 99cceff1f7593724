-- 01, "The program": the text of an answer. Assumes nothing.
use Rattle.std.specs.Prelude.{ℕ, suc, List, [], ◌∷◌, ◌++◌, cond, eqb, ℤ, pos, negsuc}
use Rattle.std.proofs.Math.Option.{none, some}
use Rattle.script.specs.declared.Answer.{Answer}
use Rattle.script.specs.declared.Rule.{Rule}
use Rattle.script.specs.declared.Rule.TheVariants.{Exit, Floor, Step, Main, Guard}
use Rattle.script.specs.Conditions.{Condition}
use Rattle.script.specs.Words.{formula_words}
use Rattle.script.specs.Listing.{read_list}
use Rattle.script.specs.WellFormed.{WellFormed}
use Rattle.text.specs.Ascii.{bytes}
use Rattle.text.specs.Decimal.{decimal}

-- a number in decimal, a minus sign before a negative one
unfoldable pub signed_decimal : ℤ → List ℕ
signed_decimal (pos n) = decimal n
signed_decimal (negsuc n) = 45 ∷ decimal (suc n)

-- "All split by single spaces, each line ended by a line feed": what stands after the first word of a line
unfoldable pub rest_of_line : List ℤ → List ℕ
rest_of_line [] = bytes "\n"
rest_of_line (w ∷ ws) = bytes " " ++ (signed_decimal w ++ rest_of_line ws)

unfoldable pub line : List ℕ → List ℤ → List ℕ
line name ws = name ++ rest_of_line ws

abbrev pub name : Rule → List ℕ
name Exit = bytes "exit"
name Floor = bytes "floor"
name Step = bytes "step"
name Main = bytes "main"
-- 02, P5
name Guard = bytes "guard"

-- the name of a rule by its number, as a trailer has it
unfoldable pub name_of : ℕ → List ℕ
name_of n =
    cond (eqb n 1) (name Exit)
    (cond (eqb n 2) (name Floor)
    (cond (eqb n 3) (name Step)
    (cond (eqb n 5) (name Guard) (name Main))))

-- "Then per condition: name, row, formula words."
unfoldable pub lines : List Condition → List ℕ
lines [] = []
lines (c ∷ cs) = line (name c.rule) (pos c.row ∷ formula_words c.claim) ++ lines cs

-- "First line: `planned`, conditions, words; or `refused`, number, row."
unfoldable pub answer_text : Answer → List Condition → List ℕ
answer_text a cs =
    cond (eqb a.number 0)
    (line (bytes "planned") (pos a.conditions ∷ pos a.words ∷ []) ++ lines cs)
    (line (bytes "refused") (pos a.number ∷ pos a.row ∷ []))

-- the conditions of a list; none where the words are not a list
unfoldable pub conditions_in : List ℤ → List Condition
conditions_in ws = elim (read_list ws) [ some cs ↦ cs | none ↦ [] ]

-- the words are a list
pub record Listed (ws : List ℤ) : Type 0 where
  pub conditions : List Condition
  pub well_formed : WellFormed ws conditions
