-- The hypotheses of `text_runs`, `solved_text_runs` and `refuted_text_runs` can hold, with a loop whose body is begun: 01's example A
-- as a text is read into 01's rows, planned in 98 words, and its four conditions are true in all states, so that each has a text
-- whose script has no model (the `Witness` of `smt`). So every run of its script from a start with 0 <= v0 keeps the promise
-- (`promised`, `solved_promised`, `refuted_promised`); from the start with v0 = 1 the body is begun (`run`). Assumes nothing.
use Rattle.std.specs.Prelude.{ℕ, ◌≡◌, refl, List, T}
use Rattle.std.proofs.Common.{subst}
use Rattle.script.specs.Computed.{◌⨾◌, example, example_a}
use Rattle.script.specs.Syntax.{Tree}
use Rattle.script.specs.Meaning.{whole, holds}
use Rattle.script.specs.Run.{TotalCorrectness}
use Rattle.smt.specs.Verdicts.{unsatisfiable_iff}
use Rattle.smt.specs.Witness.{planned, list_valid, refuted, ones, begins, BodyBegun, is_begun}
use Rattle.grammar.specs.Scanning.{bytes, token_at, scan_from, scan}
use Rattle.grammar.specs.Grammar.{Phrase}
use Rattle.grammar.specs.Counts.{size, roots}
use Rattle.grammar.specs.Rows.{table}
use Rattle.grammar.specs.Meaning.{flat, text_rows, text_table, text_tree}
use Rattle.grammar.specs.Automaton.{reduce}
use Rattle.grammar.specs.Reader.{read}
use Rattle.grammar.specs.Ranges.{depth}
use Rattle.grammar.specs.Outcome.{given, out_of_range, outcome, stuck}
use Rattle.text_claims.specs.Reading.{Reading}
use Rattle.text_claims.specs.Runs.{KeepsPromise, has_reading, same_script, text_runs, solved_text_runs, refuted_text_runs}

abbrev pub text : List ℕ
text = bytes "pre 0 <= v0; while 0 < v0 keep 0 <= v0 fall v0 do v0 := v0 - 1 end; post v0 = 0"

pub is_read : outcome 80 text ≡ given example_a
unfolding example_a example ◌⨾◌ outcome scan scan_from token_at stuck out_of_range read reduce depth text_table text_rows table size roots flat
is_read = refl

-- ---- so the promise is kept

pub promised : (x : Phrase) → Reading text x → KeepsPromise whole (text_tree x)
promised = text_runs 80 text example_a is_read 98 282 planned.0 whole list_valid

pub solved_promised : (x : Phrase) → Reading text x → KeepsPromise whole (text_tree x)
solved_promised = solved_text_runs 80 text example_a is_read 98 282 planned.0 λ cs r. (unsatisfiable_iff cs).1 (list_valid cs r)

pub refuted_promised : (x : Phrase) → Reading text x → KeepsPromise whole (text_tree x)
refuted_promised = refuted_text_runs 80 text example_a is_read 98 282 planned.0 refuted

pub run : (x : Phrase) × Reading text x × TotalCorrectness whole (text_tree x) ones × BodyBegun (text_tree x)
run =
    let h = has_reading 80 text example_a is_read in
    let same = same_script 80 text example_a is_read h.0 h.1 in
    let meets = subst (λ (t : Tree). T (holds whole ones t.pre)) same begins in
    (h.0, h.1, promised h.0 h.1 ones meets, subst BodyBegun same is_begun)
