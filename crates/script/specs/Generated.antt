-- 01, "Room and scratch", with 02, P8, on scratch: what the generator answers and leaves in both buffers, for every table, list
-- length and scratch length; at the end with a limit in place of the number of variables. Assumes nothing.
use Rattle.std.specs.Prelude.{ℕ, ◌*◌, ◌-◌, min, List, ◌++◌, cond, ℤ, pos, ltb, length, replicate}
use Rattle.script.specs.declared.Answer.{Answer}
use Rattle.script.specs.Conditions.{Condition, conditions}
use Rattle.script.specs.Words.{with_depth, list_words}
use Rattle.script.specs.Trees.{tree}
use Rattle.script.specs.Rows.{rows, variables}
use Rattle.script.specs.Refusals.{accepted, refused, verdict_within}

-- an answer ("An answer holds: number, row, conditions, words used."), and every word that the list and scratch then hold
pub record Outcome : Type 0 where
  pub answer : Answer
  pub list : List ℤ
  pub scratch : List ℤ

abbrev pub zeros : ℕ → List ℤ
zeros n = replicate n (pos 0)

abbrev pub refusal : ℕ → ℕ → Answer
refusal n r = record { number = n; row = r; conditions = 0; words = 0 }

-- "After a refusal the last two are 0, both buffers are all zeros, and the row is 0 unless the table below says otherwise."
abbrev pub refuse : ℕ → ℕ → ℕ → ℕ → Outcome
refuse n r list scratch = record { answer = refusal n r; list = zeros list; scratch = zeros scratch }

-- "After every call scratch is all zeros, and so is every list word past the last one used." 02, P9: "Every trailer gains a fourth
-- word"
abbrev pub plan : List Condition → ℕ → ℕ → Outcome
plan cs list scratch = record {
  answer = record { number = 0; row = 0; conditions = length cs; words = length (list_words with_depth cs) };
  list = list_words with_depth cs ++ zeros (list - length (list_words with_depth cs));
  scratch = zeros scratch;
}

-- "Room is the length of the list buffer or 16,384, the smaller."
abbrev pub room : ℕ → ℕ
room list = min list 16384

-- 02, P8: "from 2 × rows scratch words, whatever the room"
abbrev pub scratch_need : List ℤ → ℕ
scratch_need table = 2 * rows table

-- where the conditions are to be listed and so much scratch is needed. 11: "when scratch is below that"; 12: "the list is longer
-- than room"; 0: "list written; row 0"
unfoldable pub outcome_for : ℕ → List Condition → ℕ → ℕ → Outcome
outcome_for need cs list scratch =
    cond (ltb scratch need) (refuse 11 0 list scratch)
    (cond (ltb (room list) (length (list_words with_depth cs))) (refuse 12 0 list scratch)
    (plan cs list scratch))

-- where the variables are those below a limit
unfoldable pub outcome_within : ℕ → List ℤ → ℕ → ℕ → Outcome
outcome_within limit table list scratch =
    elim (verdict_within limit table) [
      | refused n r ↦ refuse n r list scratch
      | accepted ↦ outcome_for (scratch_need table) (conditions (tree table)) list scratch
    ]

abbrev pub outcome : List ℤ → ℕ → ℕ → Outcome
outcome = outcome_within variables
