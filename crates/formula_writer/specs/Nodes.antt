-- What the writers of expressions and formulas ask, and what is known from it of an assignment on the path and of a node. The
-- measure of a node at row r under j assignments is `base j + (r + 1)`. Assumes nothing.
use Rattle.std.specs.Prelude.{ℕ, ◌+◌, ◌*◌, ◌≤◌, ◌<◌, ◌≡◌, Bool, true, ◌&&◌, List, T, ltb, ℤ, pos, length, get_or}
use Rattle.std.proofs.Common.{◌∙◌, arith as linear, ltb→lt}
use Rattle.script.specs.declared.RowNumber.{RowNumber}
use Rattle.script.specs.declared.VariableNumber.{VariableNumber}
use Rattle.script.specs.declared.ExpressionRow.TheVariants.{Variable, Mark}
use Rattle.script.specs.declared.StatementRow.TheVariants.{Assign}
use Rattle.script.specs.declared.Row.{Row}
use Rattle.script.specs.declared.Sort.{Sort}
use Rattle.script.specs.Words.{expr_words, formula_words}
use Rattle.script.specs.Rows.{field_number, row_no, var_no, word, row, rows, parts, fields, sort_of, variables}
use Rattle.script.specs.Laws.{row_is}
use Rattle.script.specs.Trees.{expr_node, formula_node, expr_at, formula_at}
use Rattle.script.specs.Refusals.{same_sort, in_range}
use Rattle.theorems.specs.Accepted.{Accepted, both}
use Rattle.theorems.specs.Kinds.{assigned}
use Rattle.theorems.specs.RowTrees.{expr_is, formula_is}
use Rattle.output.specs.declared.Output.{Output}
use Rattle.output.specs.Written.{Written}
use Rattle.formula_writer.specs.Links.{Links, links_of}
use Rattle.formula_writer.specs.Paths.{replaceᵉ, replaceᶠ, entry, passed_row, under, expr_under, formula_under}

-- ---- what the writers ask

-- an assignment stands at row r
pub record Assignment (t : List ℤ) (r : ℕ) : Type 0 where
  pub inside : r < rows t
  pub target : VariableNumber
  pub value : RowNumber
  pub is : row t r ≡ Row.Statement (Assign target value)

-- the entry at place i of a path is that of an assignment
pub record Passed (t path : List ℤ) (i : ℕ) : Type 0 where
  pub assigns : Assignment t (passed_row path i)
  pub entered : get_or path i (pos 0) ≡ entry t (passed_row path i)

-- and so are the first j
pub record OnPath (t path : List ℤ) (j : ℕ) : Type 0 where
  pub bound : j ≤ length path
  pub passed : (i : ℕ) → i < j → Passed t path i

-- a node of sort s at row r
pub record Ready (t path : List ℤ) (j r : ℕ) (s : Sort) : Type 0 where
  pub table : Accepted t
  pub along : OnPath t path j
  pub inside : r < rows t
  pub sort : T (same_sort (sort_of (row t r)) s)

abbrev pub base : ℕ → ℕ
base j = j * 4096

ranged_as : (t : List ℤ) → Accepted t → (r : ℕ) {w : Row} → r < rows t → row t r ≡ w → T (in_range t (fields w))
ranged_as t ok r h e = rw e at (ok.ranged r h)

first_below : (n limit : ℕ) (rest : Bool) → T (ltb n limit && rest) → n < limit
first_below n limit rest h = ltb→lt n limit (both (ltb n limit) rest h).0

-- ---- an assignment

module _ (t : List ℤ) (ok : Accepted t) {r : ℕ} (a : Assignment t r) where
  -- its row, by its words
  pub assignment_is : row t r ≡ Row.Statement (Assign (var_no (word t r 1)) (row_no (word t r 2)))
  assignment_is =
      let f = assigned (word t r 0) (word t r 1) (word t r 2) (word t r 3) (row_is t r ∙ a.is) in
      a.is ∙ rw (f.0, f.1)

  -- its entry fits a word
  pub entry_fits : {v : ℕ} → v ≡ field_number (word t r 1) → 2048 * v + r < 2147483648
  entry_fits h =
      let v = first_below (field_number (word t r 1)) variables true (ranged_as t ok r a.inside assignment_is) in
      let i = a.inside in
      let s = ok.short in
      omega linear

-- ---- a node

module _ {t path : List ℤ} {j r : ℕ} {s : Sort} (g : Ready t path j r s) where
  pub variable_small : {v : VariableNumber} → row t r ≡ Row.Expression (Variable v) → v.0 < variables
  variable_small {v} e = first_below v.0 variables true (ranged_as t g.table r g.inside e)

  pub mark_small : {m : RowNumber} → row t r ≡ Row.Expression (Mark m) → m.0 < 2048
  mark_small {m} e =
      let b = first_below m.0 (rows t) true (ranged_as t g.table r g.inside e) in
      let n = g.table.short in
      omega linear

  pub links_at : {w : Row} → row t r ≡ w → Links t r (parts w)
  links_at e = links_of t g.table r g.inside e

  -- what is written at a row that is known
  pub at_expr : {w : Row} {o o' : Output ℤ} → row t r ≡ w
      → Written o (expr_words (replaceᵉ (under t path j) (expr_node (expr_at t) (formula_at t) w))) o'
      → Written o (expr_under t path j r) o'
  at_expr e w = rw (expr_is t g.table r g.inside e) w

  pub at_formula : {w : Row} {o o' : Output ℤ} → row t r ≡ w
      → Written o (formula_words (replaceᶠ (under t path j) (formula_node (expr_at t) (formula_at t) w))) o'
      → Written o (formula_under t path j r) o'
  at_formula e w = rw (formula_is t g.table r g.inside e) w
