-- The measures of the two writers, and what holds at each turn: whatever writes the node at hand writes the whole. Links fall, and a
-- value stands under fewer assignments.
use Rattle.std.proofs.Common.{◌+◌}
use Rattle.script.specs.declared.Sort.TheVariants.{Expression, Formula}
use Rattle.formula_writer.specs.Nodes.{base}
use Rattle.formula_writer.specs.Paths.{expr_under, formula_under}
use Rattle.formula_writer.specs.Turns.{Turn}
use Rattle.formula_writer.proofs.+write_expression_write_formula.Given as goal

abbrev pub decreases-write_expression : goal.decreases-write_expression
decreases-write_expression l = base l.j + (l.r.0 + 1)

abbrev pub decreases-write_formula : goal.decreases-write_formula
decreases-write_formula l = base l.j + (l.r.0 + 1)

abbrev pub invariant-write_expression-loop-number : goal.invariant-write_expression-loop-number
invariant-write_expression-loop-number l =
    Turn l.table l.path Expression (base l.initial.seen + (l.initial.row + 1)) (expr_under l.table l.path l.initial.seen l.initial.row)
    l.initial.out (expr_under l.table l.path l.seen l.row) l.seen l.row l.out

abbrev pub decreases-write_expression-loop-number : goal.decreases-write_expression-loop-number
decreases-write_expression-loop-number l = base l.seen + (l.row + 1)

abbrev pub invariant-write_formula-loop-number : goal.invariant-write_formula-loop-number
invariant-write_formula-loop-number l =
    Turn l.table l.path Formula (base l.j + (l.initial.row + 1)) (formula_under l.table l.path l.j l.initial.row)
    l.initial.out (formula_under l.table l.path l.j l.row) l.j l.row l.out

abbrev pub decreases-write_formula-loop-number : goal.decreases-write_formula-loop-number
decreases-write_formula-loop-number l = base l.j + (l.row + 1)
