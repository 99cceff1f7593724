-- The text of a line in the order in which it is written, and the name that goes with a condition kind. Assumes nothing.
use Prim.Native.Nat.{ℕ, ◌+◌, ◌≤◌, ◌<◌}
use mathlib.Core.Path.{◌≡◌, refl, ap}
use mathlib.Core.List.{List, [], ◌∷◌, ◌++◌}
use lib.IntN.{ℤ, pos}
use lib.ListN.{length, get_or, drop, drop_of_length-le}
use lib.Seq.{drop-cons}
use native.Mathlib.Numerals.{add-one}
use borrow.Author.Tests.{eq-eqb, ne_eqb}
use Rattle.script.specs.declared.Answer.{Answer}
use Rattle.script.specs.declared.Rule.{Rule}
use Rattle.script.specs.declared.Rule.TheVariants.{Exit, Floor, Step, Main, Guard}
use Rattle.script.specs.Conditions.{Condition}
use Rattle.script.specs.Words.{rule_number}
use Rattle.text.specs.Ascii.{bytes}
use Rattle.text.specs.Decimal.{decimal}
use Rattle.printer.specs.Text.{signed_decimal, rest_of_line, line, name, name_of, lines, answer_text}

-- a space and a word, then what stands after them
pub next_field : (ws : List ℤ) {i : ℕ} → i < length ws
    → rest_of_line (drop i ws) ≡ (32 ∷ signed_decimal (get_or ws i (pos 0))) ++ rest_of_line (drop (i + 1) ws)
unfolding rest_of_line
next_field ws {i} h = rw (add-one, drop-cons ws i (pos 0) h)

pub no_field : (ws : List ℤ) {i : ℕ} → length ws ≤ i → rest_of_line (drop i ws) ≡ 10 ∷ []
unfolding rest_of_line
no_field ws h = ap rest_of_line (drop_of_length-le ws h)

pub line_is : (name : List ℕ) (w : ℤ) (ws : List ℤ) → line name (w ∷ ws) ≡ name ++ ((32 ∷ signed_decimal w) ++ rest_of_line ws)
unfolding line rest_of_line
line_is name w ws = refl

pub heading_is : (name : List ℕ) (m n : ℕ)
    → line name (pos m ∷ pos n ∷ []) ≡ name ++ ((32 ∷ decimal m) ++ ((32 ∷ decimal n) ++ (10 ∷ [])))
unfolding line rest_of_line signed_decimal
heading_is name m n = refl

pub name_is : (r : Rule) → name_of (rule_number r) ≡ name r
unfolding name_of
name_is Exit = refl
name_is Floor = refl
name_is Step = refl
name_is Main = refl
name_is Guard = refl

-- ---- an answer, by its number

pub planned_is : (a : Answer) (cs : List Condition) → a.number ≡ 0
    → answer_text a cs ≡ line (bytes "planned") (pos a.conditions ∷ pos a.words ∷ []) ++ lines cs
unfolding answer_text
planned_is a cs h = rw (eq-eqb a.number 0 h)

pub refused_is : (a : Answer) (cs : List Condition) → (a.number ≡ 0 → ⊥)
    → answer_text a cs ≡ line (bytes "refused") (pos a.number ∷ pos a.row ∷ [])
unfolding answer_text
refused_is a cs h = rw (ne_eqb a.number 0 h)
