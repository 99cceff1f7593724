-- The rows of the parts of a loop and of a script, by their words, and what is known of them: their sorts, and the loop's tree
-- (`loop_is`). Assumes nothing.
use Rattle.std.specs.Prelude.{ℕ, ◌+◌, ◌*◌, ◌<◌, ◌≡◌, refl, List, ℤ, length}
use Rattle.std.proofs.Common.{ap, ◌∙◌, arith as linear}
use Rattle.script.specs.declared.StatementRow.TheVariants.{While}
use Rattle.script.specs.declared.Row.{Row}
use Rattle.script.specs.declared.Sort.{Sort}
use Rattle.script.specs.Syntax.{Expr, Formula, Stmt, loop}
use Rattle.script.specs.Rows.{field_number, row, rows, word}
use Rattle.script.specs.Trees.{loop_node, expr_at, formula_at, stmt_at}
use Rattle.theorems.specs.Accepted.{Accepted}
use Rattle.theorems.specs.RowTrees.{stmt_is}
use Rattle.formula_writer.specs.Links.{Linked, links_of}
use Rattle.following.specs.Kinds.{number, while_row, note_row, script_row}

-- ---- the rows of a loop's parts

module _ (t : List ℤ) (k : ℕ) where
  abbrev pub guard_row : ℕ
  guard_row = field_number (word t k 1)

  abbrev pub note : ℕ
  note = field_number (word t k 2)

  abbrev pub body_row : ℕ
  body_row = field_number (word t k 3)

  abbrev pub invariant_row : ℕ
  invariant_row = field_number (word t note 1)

  abbrev pub variant_row : ℕ
  variant_row = field_number (word t note 2)

  -- ---- their trees

  abbrev pub guard_at : Formula
  guard_at = formula_at t guard_row

  abbrev pub invariant_at : Formula
  invariant_at = formula_at t invariant_row

  abbrev pub variant_at : Expr
  variant_at = expr_at t variant_row

  abbrev pub body_at : Stmt
  body_at = stmt_at t body_row

-- ---- the loop at row k of an accepted table, or the script at row r

pub record Loop (t : List ℤ) (k : ℕ) : Type 0 where
  pub table : Accepted t
  pub inside : k < rows t
  pub while : field_number (word t k 0) ≡ 36

-- the rows of a script's parts

module _ (t : List ℤ) (r : ℕ) where
  abbrev pub pre_row : ℕ
  pre_row = field_number (word t r 1)

  abbrev pub statement_row : ℕ
  statement_row = field_number (word t r 2)

  abbrev pub post_row : ℕ
  post_row = field_number (word t r 3)

pub record Script (t : List ℤ) (r : ℕ) : Type 0 where
  pub table : Accepted t
  pub inside : r < rows t
  pub script : field_number (word t r 0) ≡ 48

pub in_table : (t : List ℤ) {r : ℕ} → Accepted t → r < rows t → 4 * r + 3 < length t
in_table t ok h = let f = ok.fours in omega linear

pub low : (t : List ℤ) {r : ℕ} → Accepted t → r < rows t → r < 2048
low t ok h = let s = ok.short in omega linear

-- a link from a row of the table is one from its end
pub wider : (t : List ℤ) (r a : ℕ) (s : Sort) → r < rows t → Linked t r a s → Linked t (rows t) a s
wider t r a s h l = let i = l.0 in (omega linear, l.1)

module _ (t : List ℤ) (k : ℕ) (g : Loop t k) where
  pub while_is : row t k ≡ Row.Statement (While (number (guard_row t k)) (number (note t k)) (number (body_row t k)))
  while_is = while_row t k refl g.while refl refl refl

  note_link : Linked t k (note t k) Sort.Note
  note_link = (links_of t g.table k g.inside while_is).1.0

  note_inside : note t k < rows t
  note_inside = (wider t k (note t k) Sort.Note g.inside note_link).0

  note_is : row t (note t k) ≡ Row.Note (number (invariant_row t k)) (number (variant_row t k))
  note_is = note_row t (note t k) note_link.1 refl refl

  pub loop_in_table : 4 * k + 3 < length t
  loop_in_table = in_table t g.table g.inside

  pub note_in_table : {n : ℕ} → n ≡ note t k → 4 * n + 3 < length t
  note_in_table e = rw e (in_table t g.table note_inside)

  pub guard_linked : Linked t (rows t) (guard_row t k) Sort.Formula
  guard_linked = wider t k (guard_row t k) Sort.Formula g.inside (links_of t g.table k g.inside while_is).0

  pub invariant_linked : Linked t (rows t) (invariant_row t k) Sort.Formula
  invariant_linked = wider t (note t k) (invariant_row t k) Sort.Formula note_inside (links_of t g.table (note t k) note_inside note_is).0

  pub variant_linked : Linked t (rows t) (variant_row t k) Sort.Expression
  variant_linked = wider t (note t k) (variant_row t k) Sort.Expression note_inside (links_of t g.table (note t k) note_inside note_is).1.0

  pub body_below : Linked t k (body_row t k) Sort.Statement
  body_below = (links_of t g.table k g.inside while_is).1.1.0

  pub body_linked : Linked t (rows t) (body_row t k) Sort.Statement
  body_linked = wider t k (body_row t k) Sort.Statement g.inside body_below

  pub loop_is : stmt_at t k ≡ loop k (guard_at t k) (invariant_at t k) (variant_at t k) (body_at t k)
  loop_is =
      stmt_is t g.table k g.inside while_is
      ∙ ap (λ (w : Row). loop_node (expr_at t) (formula_at t) k (guard_at t k) w (body_at t k)) note_is

module _ (t : List ℤ) (r : ℕ) (g : Script t r) where
  pub script_is : row t r ≡ Row.Script (number (pre_row t r)) (number (statement_row t r)) (number (post_row t r))
  script_is = script_row t r refl g.script refl refl refl

  pub pre_linked : Linked t (rows t) (pre_row t r) Sort.Formula
  pre_linked = wider t r (pre_row t r) Sort.Formula g.inside (links_of t g.table r g.inside script_is).0

  pub statement_linked : Linked t (rows t) (statement_row t r) Sort.Statement
  statement_linked = wider t r (statement_row t r) Sort.Statement g.inside (links_of t g.table r g.inside script_is).1.0

  pub post_linked : Linked t (rows t) (post_row t r) Sort.Formula
  post_linked = wider t r (post_row t r) Sort.Formula g.inside (links_of t g.table r g.inside script_is).1.1.0
