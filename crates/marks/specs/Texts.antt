-- The rows that were written when a text was read, their marks named, are the words of the text's table (`text_named`).
-- Assumes nothing.
use Rattle.std.specs.Prelude.{ℕ, ◌≡◌, List, [], ◌++◌, ℤ, length}
use Rattle.std.proofs.Common.{sym, ap, ◌∙◌}
use Rattle.grammar.specs.Grammar.{Phrase, Good}
use Rattle.grammar.specs.States.{at, after}
use Rattle.grammar.specs.Counts.{size}
use Rattle.grammar.specs.Meaning.{flat, text_table}
use Rattle.grammar.specs.Sizes.{table_length}
use Rattle.grammar.specs.Written.{by_count, written_in, stack_rows, stack_size}
use Rattle.grammar.specs.Result.{rows_of_text}
use Rattle.marks.specs.Quads.{marks_named, rows_named}

written_length : (x : Phrase) → length (written_in (at (after x) [])) ≡ size x
unfolding stack_rows stack_size
written_length x = table_length by_count x tt 0

pub text_named : (x : Phrase) → Good x → (rest : List ℤ)
    → marks_named (size x) (flat (written_in (at (after x) [])) ++ rest) ≡ text_table x ++ rest
unfolding text_table
text_named x g rest =
    let qs = written_in (at (after x) []) in
    ap (λ (n : ℕ). marks_named n (flat qs ++ rest)) (sym (written_length x)) ∙ rows_named qs rest
    ∙ ap (λ l. flat l ++ rest) (rows_of_text x g)
