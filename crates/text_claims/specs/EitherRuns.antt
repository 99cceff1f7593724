-- From a text to the runs of its script by a list that was stored in either form of 02, P9: the list of the conditions of the text's
-- table. Where it is true in all states (`either_text_runs`), or for each index a text was written whose script has no model
-- (`refuted_either_text_runs`), or the list that the pass of P6 leaves for it is true in all states (`short_either_text_runs`), every run of
-- the text's script, begun where its precondition holds, keeps demand 3's promise. Example A's text with a list in the form of 01
-- meets the hypotheses (`old_list_promised`). Assumes nothing.
use Rattle.std.specs.Prelude.{ℕ, ◌≤◌, ◌<◌, ◌≡◌, refl, List, ℤ, length}
use Rattle.std.proofs.Common.{arith as linear, subst}
use Rattle.script.specs.Meaning.{Arithmetic, whole}
use Rattle.script.specs.Conditions.{conditions, walk, wp, divisors, divisorsᶠ, subst_expr, subst_formula}
use Rattle.script.specs.Rows.{row, row_of}
use Rattle.script.specs.Trees.{expr, formula, stmt, expr_at, formula_at, stmt_at, tree, nesting}
use Rattle.script.specs.Words.{Form, without_depth, with_depth, list_words, all_lines, line_words, expr_words, formula_words}
use Rattle.script.specs.Refusals.{accepted, verdict, lowest, row_fault_within, linked, misread, misreads, length_test, row_test_within, script_test, unlinked_test, target_test, reading_test, nesting_test, verdict_within}
use Rattle.script.specs.Computed.{◌⨾◌, example, example_a}
use Rattle.script.specs.Promise.{ListValid}
use Rattle.theorems.specs.Demand.{planned_list}
use Rattle.theorems.specs.EitherForm.{table_list, valid_either, keeps_either}
use Rattle.smt.specs.Witness.{planned, list_valid}
use Rattle.smt.specs.Refutations.{Refuted, verdicts_either}
use Rattle.grammar.specs.Grammar.{Phrase}
use Rattle.grammar.specs.Meaning.{text_tree}
use Rattle.grammar.specs.Outcome.{given, outcome}
use Rattle.shortening.specs.Simplify.{Order}
use Rattle.shortening.specs.Laws.{Lawful, All}
use Rattle.shortening.specs.Shortened.{written, used_words}
use Rattle.shortening.specs.Through.{list_valid_iff}
use Rattle.text_claims.specs.Reading.{Reading}
use Rattle.text_claims.specs.Runs.{KeepsPromise, same_script}
use Rattle.text_claims.specs.Witness.{text, is_read}

module _ (room : ℕ) (bytes : List ℕ) (table : List ℤ) (read : outcome room bytes ≡ given table)
    (form : Form) (ok : verdict table ≡ accepted) (short : length (table_list form table) ≤ 16384) where
  -- for any arithmetic, in which the conditions are true and the script runs
  pub either_text_runs : (𝔸 : Arithmetic) → ListValid 𝔸 (table_list form table)
      → (x : Phrase) → Reading bytes x → KeepsPromise 𝔸 (text_tree x)
  either_text_runs 𝔸 valid x r =
      subst (KeepsPromise 𝔸) (same_script room bytes table read x r) (keeps_either 𝔸 form table ok short valid)

  pub refuted_either_text_runs : ((i : ℕ) → i < length (conditions (tree table)) → Refuted (table_list form table) i)
      → (x : Phrase) → Reading bytes x → KeepsPromise whole (text_tree x)
  refuted_either_text_runs refuted x r =
      subst (KeepsPromise whole) (same_script room bytes table read x r) (verdicts_either form table ok short refuted)

  -- for any arithmetic with the laws that the rules use
  pub short_either_text_runs : (o : Order) (𝔸 : Arithmetic) → Lawful 𝔸 All → (output : ℕ)
      → (written o (table_list form table) output).number ≡ 0 → ListValid 𝔸 (used_words (written o (table_list form table) output))
      → (x : Phrase) → Reading bytes x → KeepsPromise 𝔸 (text_tree x)
  short_either_text_runs o 𝔸 law output fits valid =
      either_text_runs 𝔸 ((list_valid_iff o 𝔸 law (table_list form table) output fits).0 valid)

-- ---- the hypotheses can hold: example A with a list in the form of 01, of 94 words, as it was stored before P9

old_list : (verdict example_a ≡ accepted) × (length (table_list without_depth example_a) ≡ 94) × (length (table_list with_depth example_a) ≡ 98)
unfolding example_a example ◌⨾◌ verdict_within length_test row_test_within script_test unlinked_test target_test reading_test nesting_test lowest row_fault_within linked misread misreads nesting row row_of expr formula stmt expr_at formula_at stmt_at tree conditions walk wp divisors divisorsᶠ subst_expr subst_formula list_words all_lines line_words expr_words formula_words
old_list = (refl, refl, refl)

old_valid : ListValid whole (table_list without_depth example_a)
old_valid =
    let p = planned_list example_a 98 282 planned.0 in
    let long : length (table_list with_depth example_a) ≤ 16384 = omega (linear, old_list.2) in
    let short : length (table_list without_depth example_a) ≤ 16384 = omega (linear, old_list.1) in
    (valid_either whole with_depth without_depth example_a old_list.0 long short).0
    (subst (ListValid whole) p.words list_valid)

pub old_list_promised : (x : Phrase) → Reading text x → KeepsPromise whole (text_tree x)
old_list_promised = either_text_runs 80 text example_a is_read without_depth old_list.0 (omega (linear, old_list.1)) whole old_valid
