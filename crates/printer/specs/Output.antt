-- 01, "The program": what it writes for the bytes that it reads. It is the text of the generator's answer with the
-- conditions in the words that were used of the list that it left (`used_text`), which are a list (`used_list`): what
-- `render` asks, and what it writes then. Assumes nothing.
use Rattle.std.specs.Prelude.{ℕ, ◌%◌, ◌-◌, ◌≤◌, ◌≡◌, ◌≢◌, List, [], cond, eqb, ℤ, length, take}
use Rattle.std.proofs.Common.{ne_eqb}
use Rattle.std.proofs.Math.Seq.{take-append_seam}
use Rattle.script.specs.Conditions.{Condition, conditions}
use Rattle.script.specs.Words.{with_depth, list_words}
use Rattle.script.specs.Trees.{tree}
use Rattle.script.specs.WellFormed.{WellFormed}
use Rattle.script.specs.Generated.{Outcome, zeros, refusal, refuse, plan, room, outcome}
use Rattle.script.specs.Refusals.{accepted, verdict}
use Rattle.theorems.specs.ReadBack.{read_written}
use Rattle.theorems.specs.Outcomes.{outcome_cases}
use Rattle.theorems.specs.Demand.{well_formed}
use Rattle.printer.specs.Input.{words_of}
use Rattle.printer.specs.Text.{answer_text, conditions_in, Listed}

-- "with room 512 and scratch 5,120"
unfoldable pub table_output : List ℤ → List ℕ
table_output table = answer_text (outcome table 512 5120).answer (conditions (tree table))

-- "A byte count that is no multiple of 4 is number 1."
unfoldable pub output : List ℕ → List ℕ
output input = cond (eqb (length input % 4) 0) (table_output (words_of input)) (answer_text (refusal 1 0) [])

-- the conditions of a list are read as they were written
pub conditions_back : (ws : List ℤ) (cs : List Condition) → WellFormed ws cs → conditions_in ws ≡ cs
unfolding conditions_in
conditions_back ws cs w = rw (read_written ws cs w, conditions_in)

-- ---- the words that were used of the list that the generator leaves

abbrev pub used : Outcome → List ℤ
used o = take o.answer.words o.list

module _ (table : List ℤ) (list scratch : ℕ) where
  record Rendered (o : Outcome) : Type 0 where
    listed : o.answer.number ≡ 0 → Listed (used o)
    text : answer_text o.answer (conditions_in (used o)) ≡ answer_text o.answer (conditions (tree table))

  refused_rendered : (n r : ℕ) → n ≢ 0 → Rendered (refuse n r list scratch)
  unfolding answer_text
  refused_rendered n r h = record { listed = λ e. absurd (h e); text = rw (ne_eqb n 0 h) }

  plan_rendered : verdict table ≡ accepted → length (list_words with_depth (conditions (tree table))) ≤ room list
      → Rendered (plan (conditions (tree table)) list scratch)
  plan_rendered h fits =
      let cs = conditions (tree table) in
      let w = well_formed table list h fits in
      let words = take-append_seam (list_words with_depth cs) (zeros (list - length (list_words with_depth cs))) in
      record {
        listed = λ e. rw words (record { conditions = cs; well_formed = w });
        text = rw (words, conditions_back (list_words with_depth cs) cs w);
      }

  rendered : Rendered (outcome table list scratch)
  rendered = outcome_cases Rendered table list scratch refused_rendered plan_rendered

  pub used_list : (outcome table list scratch).answer.number ≡ 0 → Listed (used (outcome table list scratch))
  used_list = rendered.listed

  pub used_text : answer_text (outcome table list scratch).answer (conditions_in (used (outcome table list scratch)))
      ≡ answer_text (outcome table list scratch).answer (conditions (tree table))
  used_text = rendered.text
