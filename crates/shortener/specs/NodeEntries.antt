-- The entries of nodes: of each node that stands in some words, where it ends, its shape when it is shortened, and what it becomes
-- (`Right`, `Known`). Assumes nothing.
use Rattle.std.specs.Prelude.{ℕ, ◌+◌, ◌≤◌, ◌≡◌, List, ℤ, get_or}
use Rattle.script.specs.declared.Operator.{Operator}
use Rattle.script.specs.declared.Connective.{Connective}
use Rattle.script.specs.Syntax.{Expr, const, var, mark, arith, neg, choose, Formula, truth, cmp, not, join}
use Rattle.theorems.specs.WordsAt.{Stands, Node, expression, formula, words_of, size}
use Rattle.shortening.specs.Simplify.{Shape, shape, truth_shape, shape_number, Change, TruthChange, order, arith_change, join_change, shorten, shortenᶠ}
use Rattle.shortening.specs.Shapes.{not_change}
use Rattle.shortener.specs.Codes.{Coded}
use Rattle.shortener.specs.Codes.{kept_code, numbered_code, change_code, truth_change_code}
use Rattle.shortener.specs.Entries.{entry}

-- ---- what becomes of a node

abbrev pub node_shape : Node → Shape
node_shape (expression e) = shape (shorten order e)
node_shape (formula f) = truth_shape (shortenᶠ order f)

abbrev pub arith_step : Operator → Expr → Expr → Change
arith_step p a b = arith_change order p (shape (shorten order a)) (shape (shorten order b))

abbrev pub join_step : Connective → Formula → Formula → TruthChange
join_step c f g = join_change c (truth_shape (shortenᶠ order f)) (truth_shape (shortenᶠ order g))

abbrev pub not_step : Formula → TruthChange
not_step f = not_change (truth_shape (shortenᶠ order f))

abbrev pub node_change : Node → ℕ
node_change (expression (const z)) = numbered_code
node_change (expression (var v)) = numbered_code
node_change (expression (mark m)) = numbered_code
node_change (expression (arith p a b)) = change_code (arith_step p a b)
node_change (expression (neg a)) = kept_code
node_change (expression (choose f a b)) = kept_code
node_change (formula (truth b)) = kept_code
node_change (formula (cmp r a b)) = kept_code
node_change (formula (not f)) = truth_change_code (not_step f)
node_change (formula (join c f g)) = truth_change_code (join_step c f g)

-- ---- right entries

pub record Right (at : ℕ) (x : Node) (e : Coded) : Type 0 where
  pub end : e.end ≡ at + size x
  pub shape : e.shape ≡ shape_number (node_shape x)
  pub change : e.change ≡ node_change x

-- of all nodes that stand at a place or after it
pub record Known (ws : List ℤ) (es ss ks : List ℕ) (from : ℕ) : Type 0 where
  pub right : (at : ℕ) (x : Node) → from ≤ at → Stands ws at (words_of x) → Right at x (entry (get_or es at 0) (get_or ss at 0) (get_or ks at 0))
