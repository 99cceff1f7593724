-- What a whole text stands for: its rows (`text_rows`), the words of its table (`text_table`) and its tree
-- (`text_tree`). Assumes nothing.
use Rattle.std.specs.Prelude.{List, [], ◌∷◌, ℤ}
use Rattle.script.specs.Syntax.{Tree}
use Rattle.grammar.specs.Grammar.{Phrase}
use Rattle.grammar.specs.Rows.{Quad, by_row, table}
use Rattle.grammar.specs.Trees.{to_tree, value}

-- ---- a whole text

unfoldable pub text_rows : Phrase → List Quad
text_rows x = table by_row [] 0 x

-- "four to a row: kind, first, second, third"
unfoldable pub flat : List Quad → List ℤ
flat [] = []
flat (q ∷ qs) = q.kind ∷ q.first ∷ q.second ∷ q.third ∷ flat qs

-- the words of the table
unfoldable pub text_table : Phrase → List ℤ
text_table x = flat (text_rows x)

unfoldable pub text_tree : Phrase → Tree
text_tree x = to_tree (value [] 0 x)
