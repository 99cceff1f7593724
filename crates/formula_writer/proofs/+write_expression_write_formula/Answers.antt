-- Each turn of the two writers goes on by the law of its kind.
use Rattle.std.proofs.Common.{rules, refl, ◌+◌, ◌*◌, get_or, pos}
use Rattle.script.specs.Kinds.{number_read}
use Rattle.script.specs.Laws.{back}
use Rattle.formula_writer.specs.Kinds.{past_expressions, past_formulas, relation_kind, past_relations}
use Rattle.formula_writer.specs.Turns.{full, part_falls, part_ready, constant_written, variable_fits, variable_written, value_falls, value_turn, negated, negate_turn, mark_fits, mark_written, chosen, choose_turn, operator_fits, operands, operator_turn, true_written, false_written, denied, not_turn, pair_fits, compared, relation_written, joined, connective_turn}
use Rattle.formula_writer.proofs.+write_expression_write_formula.Goals as goal

-- ---- a constant

pub write_expression-returns-in-Constant : goal.write_expression-returns-in-Constant
write_expression-returns-in-Constant t c =
    constant_written c.loop-number.invariant c.field-number.ensures (number_read c.from.ensures c.in-Constant.is refl) (rw (back {z = get_or c.args.table.now (4 * c.loop-number.row + 1) (pos 0)} (search rules)) at c.push_constant.ensures)

-- ---- a variable, and the value that stands in its place

pub write_expression-replace_variable-requires : goal.write_expression-replace_variable-requires
write_expression-replace_variable-requires t c =
    let g = c.loop-number.invariant in
    (g.ready.table, g.ready.along, variable_fits g c.field-number.ensures (number_read c.from.ensures c.in-Variable.is refl) c.field.ensures)

pub write_expression-returns-in-None : goal.write_expression-returns-in-None
write_expression-returns-in-None t c =
    variable_written c.loop-number.invariant c.field-number.ensures (number_read c.from.ensures c.in-Variable.is refl) c.field.ensures c.replace_variable.ensures c.in-None.is

pub write_expression-loop-number-smaller-in-Some : goal.write_expression-loop-number-smaller-in-Some
write_expression-loop-number-smaller-in-Some t c =
    value_falls c.loop-number.invariant c.field-number.ensures (number_read c.from.ensures c.in-Variable.is refl) c.field.ensures c.replace_variable.ensures c.in-Some.is

pub write_expression-loop-number-preserved-in-Some : goal.write_expression-loop-number-preserved-in-Some
write_expression-loop-number-preserved-in-Some t c =
    value_turn c.loop-number.invariant c.field-number.ensures (number_read c.from.ensures c.in-Variable.is refl) c.field.ensures c.replace_variable.ensures c.in-Some.is

-- ---- a negation

pub write_expression-loop-number-smaller-in-Negate : goal.write_expression-loop-number-smaller-in-Negate
write_expression-loop-number-smaller-in-Negate t c =
    let g = c.loop-number.invariant in part_falls g _ (negated g c.field-number.ensures (number_read c.from.ensures c.in-Negate.is refl) c.field-row.ensures).0

pub write_expression-loop-number-preserved-in-Negate : goal.write_expression-loop-number-preserved-in-Negate
write_expression-loop-number-preserved-in-Negate t c =
    negate_turn c.loop-number.invariant c.field-number.ensures (number_read c.from.ensures c.in-Negate.is refl) c.field-row.ensures c.push_kind.ensures

-- ---- a mark

pub write_expression-push_mark-requires : goal.write_expression-push_mark-requires
write_expression-push_mark-requires t c = mark_fits c.loop-number.invariant c.field-number.ensures (number_read c.from.ensures c.in-Mark.is refl) c.field-in-Mark.ensures

pub write_expression-returns-in-Mark : goal.write_expression-returns-in-Mark
write_expression-returns-in-Mark t c =
    mark_written c.loop-number.invariant c.field-number.ensures (number_read c.from.ensures c.in-Mark.is refl) c.field-in-Mark.ensures c.push_mark.ensures

-- ---- a choice

pub write_expression-write_formula-requires : goal.write_expression-write_formula-requires
write_expression-write_formula-requires t c =
    let g = c.loop-number.invariant in part_ready g c.decreases (chosen g c.field-number.ensures (number_read c.from.ensures c.in-Choose.is refl) c.field-in-Choose.ensures refl refl).0

pub write_expression-write_expression-requires : goal.write_expression-write_expression-requires
write_expression-write_expression-requires t c =
    let g = c.loop-number.invariant in part_ready g c.decreases (chosen g c.field-number.ensures (number_read c.from.ensures c.in-Choose.is refl) refl c.field-in-Choose-2.ensures refl).1

pub write_expression-loop-number-smaller-in-Choose : goal.write_expression-loop-number-smaller-in-Choose
write_expression-loop-number-smaller-in-Choose t c =
    let g = c.loop-number.invariant in part_falls g _ (chosen g c.field-number.ensures (number_read c.from.ensures c.in-Choose.is refl) refl refl c.field-row-in-Choose.ensures).2.0

pub write_expression-loop-number-preserved-in-Choose : goal.write_expression-loop-number-preserved-in-Choose
write_expression-loop-number-preserved-in-Choose t c =
    choose_turn c.loop-number.invariant c.field-number.ensures (number_read c.from.ensures c.in-Choose.is refl) c.field-in-Choose.ensures c.field-in-Choose-2.ensures c.field-row-in-Choose.ensures
    c.push_kind-in-Choose.ensures c.write_formula.ensures c.write_expression.ensures

-- ---- an operator

pub write_expression-push_kind-requires-in_default :
    goal.write_expression-push_kind-requires-in_default
write_expression-push_kind-requires-in_default t c =
    operator_fits c.loop-number.invariant c.field-number.ensures (past_expressions c.from.ensures c.in_default.not-Constant c.in_default.not-Variable c.in_default.not-Negate c.in_default.not-Mark c.in_default.not-Choose)

pub write_expression-write_expression-requires-in_default :
    goal.write_expression-write_expression-requires-in_default
write_expression-write_expression-requires-in_default t c =
    let g = c.loop-number.invariant in part_ready g c.decreases (operands g c.field-number.ensures (past_expressions c.from.ensures c.in_default.not-Constant c.in_default.not-Variable c.in_default.not-Negate c.in_default.not-Mark c.in_default.not-Choose) c.field-in_default.ensures refl).0

pub write_expression-loop-number-smaller : goal.write_expression-loop-number-smaller
write_expression-loop-number-smaller t c =
    let g = c.loop-number.invariant in
    part_falls g _ (operands g c.field-number.ensures (past_expressions c.from.ensures c.in_default.not-Constant c.in_default.not-Variable c.in_default.not-Negate c.in_default.not-Mark c.in_default.not-Choose) refl c.field-row-in_default.ensures).1.0

pub write_expression-loop-number-preserved : goal.write_expression-loop-number-preserved
write_expression-loop-number-preserved t c =
    operator_turn c.loop-number.invariant c.field-number.ensures (past_expressions c.from.ensures c.in_default.not-Constant c.in_default.not-Variable c.in_default.not-Negate c.in_default.not-Mark c.in_default.not-Choose) c.field-in_default.ensures c.field-row-in_default.ensures
    c.push_kind-in_default.ensures c.write_expression-in_default.ensures

-- ---- no room is left

pub write_expression-returns : goal.write_expression-returns
write_expression-returns t c = full c.loop-number.invariant (c.fits.ensures.1 c.loop-number-test.false)

-- ---- true and false

pub write_formula-returns-in-True : goal.write_formula-returns-in-True
write_formula-returns-in-True t c = true_written c.loop-number.invariant c.field-number.ensures (number_read c.from.ensures c.in-True.is refl) c.push_kind.ensures

pub write_formula-returns-in-False : goal.write_formula-returns-in-False
write_formula-returns-in-False t c = false_written c.loop-number.invariant c.field-number.ensures (number_read c.from.ensures c.in-False.is refl) c.push_kind-in-False.ensures

-- ---- a negation

pub write_formula-loop-number-smaller-in-Not : goal.write_formula-loop-number-smaller-in-Not
write_formula-loop-number-smaller-in-Not t c =
    let g = c.loop-number.invariant in part_falls g _ (denied g c.field-number.ensures (number_read c.from.ensures c.in-Not.is refl) c.field-row.ensures).0

pub write_formula-loop-number-preserved-in-Not : goal.write_formula-loop-number-preserved-in-Not
write_formula-loop-number-preserved-in-Not t c =
    not_turn c.loop-number.invariant c.field-number.ensures (number_read c.from.ensures c.in-Not.is refl) c.field-row.ensures c.push_kind-in-Not.ensures

-- ---- a relation

pub write_formula-push_kind-requires-in-Less : goal.write_formula-push_kind-requires-in-Less
write_formula-push_kind-requires-in-Less t c =
    pair_fits c.loop-number.invariant c.field-number.ensures (relation_kind c.from.ensures c.in-Less.is).0

pub write_formula-write_expression-requires : goal.write_formula-write_expression-requires
write_formula-write_expression-requires t c =
    let g = c.loop-number.invariant in
    let k = relation_kind c.from.ensures c.in-Less.is in
    part_ready g c.decreases (compared g c.field-number.ensures k.0 c.field.ensures refl k.1).0

pub write_formula-write_expression-requires-in-Less : goal.write_formula-write_expression-requires-in-Less
write_formula-write_expression-requires-in-Less t c =
    let g = c.loop-number.invariant in
    let k = relation_kind c.from.ensures c.in-Less.is in
    part_ready g c.decreases (compared g c.field-number.ensures k.0 c.field.ensures c.field-in-Less.ensures k.1).1

pub write_formula-returns-in-Less : goal.write_formula-returns-in-Less
write_formula-returns-in-Less t c =
    let k = relation_kind c.from.ensures c.in-Less.is in
    relation_written c.loop-number.invariant c.field-number.ensures k.0 c.field.ensures c.field-in-Less.ensures k.1
    c.push_kind-in-Less.ensures c.write_expression.ensures c.write_expression-in-Less.ensures

-- ---- a connective

pub write_formula-push_kind-requires-in_default :
    goal.write_formula-push_kind-requires-in_default
write_formula-push_kind-requires-in_default t c =
    let k = past_formulas c.from.ensures c.in_default.not-True c.in_default.not-False c.in_default.not-Not in
    pair_fits c.loop-number.invariant c.field-number.ensures k

pub write_formula-write_formula-requires : goal.write_formula-write_formula-requires
write_formula-write_formula-requires t c =
    let g = c.loop-number.invariant in
    let k = past_formulas c.from.ensures c.in_default.not-True c.in_default.not-False c.in_default.not-Not in
    let h = past_relations c.args.table.now c.loop-number.row _ c.field-number.ensures g.ready.sort k c.from.ensures c.in_default.not-Less c.in_default.not-AtMost c.in_default.not-Equal c.in_default.not-Unequal in
    part_ready g c.decreases (joined g c.field-number.ensures k c.field-in_default.ensures refl h).0

pub write_formula-loop-number-smaller : goal.write_formula-loop-number-smaller
write_formula-loop-number-smaller t c =
    let g = c.loop-number.invariant in
    let k = past_formulas c.from.ensures c.in_default.not-True c.in_default.not-False c.in_default.not-Not in
    let h = past_relations c.args.table.now c.loop-number.row _ c.field-number.ensures g.ready.sort k c.from.ensures c.in_default.not-Less c.in_default.not-AtMost c.in_default.not-Equal c.in_default.not-Unequal in
    part_falls g _ (joined g c.field-number.ensures k c.field-in_default.ensures c.field-row-in_default.ensures h).1.0

pub write_formula-loop-number-preserved : goal.write_formula-loop-number-preserved
write_formula-loop-number-preserved t c =
    let g = c.loop-number.invariant in
    let k = past_formulas c.from.ensures c.in_default.not-True c.in_default.not-False c.in_default.not-Not in
    let h = past_relations c.args.table.now c.loop-number.row _ c.field-number.ensures g.ready.sort k c.from.ensures c.in_default.not-Less c.in_default.not-AtMost c.in_default.not-Equal c.in_default.not-Unequal in
    connective_turn g c.field-number.ensures k c.field-in_default.ensures c.field-row-in_default.ensures h
    c.push_kind-in_default.ensures c.write_formula.ensures

-- ---- no room is left

pub write_formula-returns : goal.write_formula-returns
write_formula-returns t c = full c.loop-number.invariant (c.fits.ensures.1 c.loop-number-test.false)
