-- A text, put together: the rows that were written when it was read, after the pass over the marks, are its rows
-- (`rows_of_text`), and the table of these has its tree (`tree_of_text`). Assumes nothing.
use Rattle.std.specs.Prelude.{◌≡◌, List, []}
use Rattle.std.proofs.Common.{ap, ◌∙◌}
use Rattle.script.specs.Trees.{tree}
use Rattle.grammar.specs.Tokens.{Token}
use Rattle.grammar.specs.Grammar.{Phrase, Good}
use Rattle.grammar.specs.Text.{Spells}
use Rattle.grammar.specs.Meaning.{text_rows, text_table, text_tree, flat}
use Rattle.grammar.specs.States.{at, after}
use Rattle.grammar.specs.TextTree.{text_tree_is}
use Rattle.grammar.specs.Written.{written_in, stack_rows, stack_size}
use Rattle.grammar.specs.Renamed.{pass_rows}
use Rattle.grammar.specs.Passed.{passed}

pub rows_of_text : (x : Phrase) → Good x → pass_rows (written_in (at (after x) [])) 0 [] ≡ text_rows x
unfolding text_rows stack_rows stack_size
rows_of_text x g = (passed x g 0 []).1

pub tree_of_text : (x : Phrase) (ts : List Token) → Spells x ts → tree (flat (pass_rows (written_in (at (after x) [])) 0 [])) ≡ text_tree x
tree_of_text x ts h = ap (λ l. tree (flat l)) (rows_of_text x h.good) ∙ whole
  where
    whole : tree (flat (text_rows x)) ≡ text_tree x
    whole = unfold text_table in text_tree_is x h.good h.whole
