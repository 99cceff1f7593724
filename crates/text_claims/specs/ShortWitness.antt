-- The hypotheses of `short_text_runs`, `solved_short_text_runs` and `refuted_short_text_runs` can hold, with a list that
-- does shorten and a loop whose body is begun: the text is read into the rows of the `Witness` of `shortening`, whose
-- list of 80 words is shortened to 61. So every run of its script keeps the promise (`promised`, `solved_promised`,
-- `refuted_promised`); from the start with v0 = 1 the body is begun (`run`). Assumes nothing.
use Rattle.std.specs.Prelude.{ℕ, ◌≡◌, refl, List, T}
use Rattle.std.proofs.Common.{subst}
use Rattle.script.specs.Computed.{◌⨾◌}
use Rattle.script.specs.Syntax.{Tree}
use Rattle.script.specs.Meaning.{whole, holds}
use Rattle.script.specs.Run.{TotalCorrectness}
use Rattle.smt.specs.Verdicts.{unsatisfiable_iff}
use Rattle.smt.specs.Witness.{ones}
use Rattle.grammar.specs.Scanning.{bytes, token_at, scan_from, scan}
use Rattle.grammar.specs.Grammar.{Phrase}
use Rattle.grammar.specs.Counts.{size, roots}
use Rattle.grammar.specs.Rows.{table}
use Rattle.grammar.specs.Meaning.{flat, text_rows, text_table, text_tree}
use Rattle.grammar.specs.Automaton.{reduce}
use Rattle.grammar.specs.Reader.{read}
use Rattle.grammar.specs.Ranges.{depth}
use Rattle.grammar.specs.Outcome.{given, out_of_range, outcome, stuck}
use Rattle.shortening.specs.Simplify.{order}
use Rattle.shortening.specs.Laws.{whole_law}
use Rattle.shortening.specs.Witness.{rows, planned, shortened, list_valid, refuted, begins, BodyBegun, is_begun}
use Rattle.text_claims.specs.Reading.{Reading}
use Rattle.text_claims.specs.Runs.{KeepsPromise, has_reading, same_script}
use Rattle.text_claims.specs.ShortRuns.{short_text_runs, solved_short_text_runs, refuted_short_text_runs}

abbrev pub text : List ℕ
text = bytes "pre true; while 0 < v0 keep true fall v0 - 0 do v0 := v0 - 1 end; post v0 <= 0"

is_read : outcome 72 text ≡ given rows
unfolding rows ◌⨾◌ outcome scan scan_from token_at stuck out_of_range read reduce depth text_table text_rows table size roots flat
is_read = refl

-- ---- so the promise is kept

pub promised : (x : Phrase) → Reading text x → KeepsPromise whole (text_tree x)
promised = short_text_runs order 72 text rows is_read 80 228 planned.0 61 shortened.0 whole whole_law list_valid

pub solved_promised : (x : Phrase) → Reading text x → KeepsPromise whole (text_tree x)
solved_promised =
    solved_short_text_runs order 72 text rows is_read 80 228 planned.0 61 shortened.0
    λ cs r. (unsatisfiable_iff cs).1 (list_valid cs r)

pub refuted_promised : (x : Phrase) → Reading text x → KeepsPromise whole (text_tree x)
refuted_promised = refuted_short_text_runs order 72 text rows is_read 80 228 planned.0 61 shortened.0 refuted

pub run : (x : Phrase) × Reading text x × TotalCorrectness whole (text_tree x) ones × BodyBegun (text_tree x)
run =
    let h = has_reading 72 text rows is_read in
    let same = same_script 72 text rows is_read h.0 h.1 in
    let meets = subst (λ (t : Tree). T (holds whole ones t.pre)) same begins in
    (h.0, h.1, promised h.0 h.1 ones meets, subst BodyBegun same is_begun)
