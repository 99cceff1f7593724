-- What the reader of a text answers, and what it leaves in the words that are lent: "Rows come out", with zeros behind
-- them; on a refusal only zeros. Assumes nothing.
use Rattle.std.specs.Prelude.{ℕ, ◌-◌, List, ◌++◌, ℤ, length}
use Rattle.script.specs.Generated.{zeros}
use Rattle.grammar.specs.Outcome.{Outcome, refused, given, outcome}

-- number and place, both 0 for a text that is read; how many words its table has; and the words that are left
pub record Answer : Type 0 where
  pub number : ℕ
  pub place : ℕ
  pub used : ℕ
  pub words : List ℤ

unfoldable pub told : ℕ → Outcome → Answer
told room (refused n p) = record { number = n; place = p; used = 0; words = zeros room }
told room (given ws) = record { number = 0; place = 0; used = length ws; words = ws ++ zeros (room - length ws) }

-- for a text of these bytes and so many words
unfoldable pub answer : List ℕ → ℕ → Answer
answer bs room = told room (outcome room bs)
