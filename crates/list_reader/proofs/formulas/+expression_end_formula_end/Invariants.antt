-- `list_reader::formulas::expression_end` and `formula_end`, which call each other. The measure is the number of words left, which
-- falls at each turn and at each call. At each turn, whatever ends the present part and those that wait ends the first.
use Rattle.std.proofs.Common.{◌-◌, length}
use Rattle.list_reader.specs.Ends.{ExpressionEnds, FormulaEnds}
use Rattle.list_reader.proofs.Waiting.{Waiting}
use Rattle.list_reader.proofs.formulas.+expression_end_formula_end.Given as goal

abbrev pub decreases-expression_end : goal.decreases-expression_end
decreases-expression_end l = length l.words.now - l.first

abbrev pub decreases-formula_end : goal.decreases-formula_end
decreases-formula_end l = length l.words.now - l.first

abbrev pub invariant-expression_end-loop-at : goal.invariant-expression_end-loop-at
invariant-expression_end-loop-at l = Waiting (ExpressionEnds l.words) l.first l.at l.waiting

abbrev pub decreases-expression_end-loop-at : goal.decreases-expression_end-loop-at
decreases-expression_end-loop-at l = length l.words - l.at

abbrev pub invariant-formula_end-loop-at : goal.invariant-formula_end-loop-at
invariant-formula_end-loop-at l = Waiting (FormulaEnds l.all) l.first l.at l.waiting

abbrev pub decreases-formula_end-loop-at : goal.decreases-formula_end-loop-at
decreases-formula_end-loop-at l = length l.all - l.at
