-- Each kind of row has its law (`AtExpression`, `AtFormula`).
use Rattle.std.proofs.Common.{rules, ◌∙◌, ap, sym, refl, arith}
use Rattle.std.proofs.lemmas.Result.{err_from_is_err_and}
use Rattle.stepping.specs.Values.{got}
use Rattle.script.specs.Kinds.{number}
use Rattle.script.specs.Rows.{word}
use Rattle.evaluation.proofs.Nodes.{related_as, operated_as, opposite_as, widened}
use Rattle.evaluation.proofs.Stops.{first_stops, second_stops, both_go}
use Rattle.evaluation.proofs.AtRow.{part_ready}
use Rattle.evaluation.proofs.AtFormula.{falsehood, denied_low, denial_is, compared_low, compared, joined_low, joined, no_truth}
use Rattle.evaluation.proofs.AtExpression.{constant, variable_low, variable_fits, variable, negated_low, negation, mark_low, mark_fits, mark, choice_low, first_low, second_low, choice_stops, first_chosen, second_chosen, operands_low, operands, no_value}
use Rattle.evaluation.proofs.State.+truth_at_value_at.Goals as goal

pub truth_at-returns-in-False : goal.truth_at-returns-in-False
truth_at-returns-in-False t c = falsehood c.requires c.args.self.now.code c.kind_at-kind.ensures c.in-False.is

-- ---- a relation

pub truth_at-value_at-requires : goal.truth_at-value_at-requires
truth_at-value_at-requires t c =
    part_ready c.requires c.decreases (compared_low c.requires c.args.self.now.code c.kind_at-kind.ensures c.field.ensures refl c.in-Less.is).0

pub truth_at-returns-in_err-x-in-Less : goal.truth_at-returns-in_err-x-in-Less
truth_at-returns-in_err-x-in-Less t c =
    let p = err_from_is_err_and c.from_residual.result c.from_residual.ensures.1 in
    rw (p.1, p.2) (first_stops (compared c.requires c.args.self.now.code c.kind_at-kind.ensures c.field.ensures refl c.in-Less.is) c.in_err-x-in-Less.ensures)

pub truth_at-value_at-requires-in-Less : goal.truth_at-value_at-requires-in-Less
truth_at-value_at-requires-in-Less t c =
    part_ready c.requires c.decreases (compared_low c.requires c.args.self.now.code c.kind_at-kind.ensures refl c.field-in-Less.ensures c.in-Less.is).1

pub truth_at-returns-in_err-y-in-Less : goal.truth_at-returns-in_err-y-in-Less
truth_at-returns-in_err-y-in-Less t c =
    let p = err_from_is_err_and c.from_residual-in_err-y-in-Less.result c.from_residual-in_err-y-in-Less.ensures.1 in
    rw (p.1, p.2) (second_stops (compared c.requires c.args.self.now.code c.kind_at-kind.ensures c.field.ensures c.field-in-Less.ensures c.in-Less.is)
    c.in_ok-x-in-Less.ensures c.in_err-y-in-Less.ensures)

pub truth_at-returns-in_ok-y-in-Less : goal.truth_at-returns-in_ok-y-in-Less
truth_at-returns-in_ok-y-in-Less t c =
    ap got (related_as (number c.kind_at-kind.result) (search rules) (search rules) c.related.ensures)
    ∙ both_go (compared c.requires c.args.self.now.code c.kind_at-kind.ensures c.field.ensures c.field-in-Less.ensures c.in-Less.is)
    c.in_ok-x-in-Less.ensures c.in_ok-y-in-Less.ensures

-- ---- not

pub truth_at-truth_at-requires : goal.truth_at-truth_at-requires
truth_at-truth_at-requires t c =
    part_ready c.requires c.decreases (denied_low c.requires c.args.self.now.code c.kind_at-kind.ensures c.in-Not.is c.field-in-Not.ensures)

pub truth_at-returns-in_err-truth_at-in-Not : goal.truth_at-returns-in_err-truth_at-in-Not
truth_at-returns-in_err-truth_at-in-Not t c =
    let p = err_from_is_err_and c.from_residual-in_err-truth_at-in-Not.result c.from_residual-in_err-truth_at-in-Not.ensures.1 in
    rw (p.1, p.2) (denial_is c.requires c.args.self.now.code c.kind_at-kind.ensures c.in-Not.is c.field-in-Not.ensures c.in_err-truth_at-in-Not.ensures)

pub truth_at-returns-in_ok-truth_at-in-Not : goal.truth_at-returns-in_ok-truth_at-in-Not
truth_at-returns-in_ok-truth_at-in-Not t c =
    denial_is c.requires c.args.self.now.code c.kind_at-kind.ensures c.in-Not.is c.field-in-Not.ensures c.in_ok-truth_at-in-Not.ensures

-- ---- a connective

pub truth_at-truth_at-requires-in-And : goal.truth_at-truth_at-requires-in-And
truth_at-truth_at-requires-in-And t c =
    part_ready c.requires c.decreases (joined_low c.requires c.args.self.now.code c.kind_at-kind.ensures c.field-in-And.ensures refl c.in-And.is).0

pub truth_at-returns-in_err-a-in-And : goal.truth_at-returns-in_err-a-in-And
truth_at-returns-in_err-a-in-And t c =
    let p = err_from_is_err_and c.from_residual-in_err-a-in-And.result c.from_residual-in_err-a-in-And.ensures.1 in
    rw (p.1, p.2) (first_stops (joined c.requires c.args.self.now.code c.kind_at-kind.ensures c.field-in-And.ensures refl c.in-And.is) c.in_err-a-in-And.ensures)

pub truth_at-truth_at-requires-in-And-2 : goal.truth_at-truth_at-requires-in-And-2
truth_at-truth_at-requires-in-And-2 t c =
    part_ready c.requires c.decreases (joined_low c.requires c.args.self.now.code c.kind_at-kind.ensures refl c.field-in-And-2.ensures c.in-And.is).1

pub truth_at-returns-in_err-b-in-And : goal.truth_at-returns-in_err-b-in-And
truth_at-returns-in_err-b-in-And t c =
    let p = err_from_is_err_and c.from_residual-in_err-b-in-And.result c.from_residual-in_err-b-in-And.ensures.1 in
    rw (p.1, p.2) (second_stops (joined c.requires c.args.self.now.code c.kind_at-kind.ensures c.field-in-And.ensures c.field-in-And-2.ensures c.in-And.is)
    c.in_ok-a-in-And.ensures c.in_err-b-in-And.ensures)

pub truth_at-returns-in_ok-b-in-And : goal.truth_at-returns-in_ok-b-in-And
truth_at-returns-in_ok-b-in-And t c =
    ap got c.connected.ensures
    ∙ both_go (joined c.requires c.args.self.now.code c.kind_at-kind.ensures c.field-in-And.ensures c.field-in-And-2.ensures c.in-And.is)
    c.in_ok-a-in-And.ensures c.in_ok-b-in-And.ensures

pub truth_at-returns-in_default : goal.truth_at-returns-in_default
truth_at-returns-in_default t c = no_truth c.requires c.args.self.now.code c.kind_at-kind.ensures (search rules)

-- ---- a constant, a variable, a mark

pub value_at-returns-in-Constant : goal.value_at-returns-in-Constant
value_at-returns-in-Constant t c =
    ap got (widened (word c.args.self.now.table.now c.args.r 1) (search rules)) ∙ constant c.requires c.args.self.now.code c.kind_at-kind.ensures c.in-Constant.is

pub value_at-offset_bounds-self-field : goal.value_at-offset_bounds-self-field
value_at-offset_bounds-self-field t c =
    record { fits = omega (arith, variable_low c.requires c.args.self.now.code c.kind_at-kind.ensures c.in-Variable.is c.field.ensures) }

pub value_at-bounds-self-field : goal.value_at-bounds-self-field
value_at-bounds-self-field t c = variable_fits c.requires c.args.self.now.code c.kind_at-kind.ensures c.in-Variable.is c.field.ensures

pub value_at-returns-in-Variable : goal.value_at-returns-in-Variable
value_at-returns-in-Variable t c =
    ap got (search rules) ∙ variable c.requires c.args.self.now.code c.kind_at-kind.ensures c.in-Variable.is c.field.ensures

pub value_at-offset_bounds-self-field-in-Mark : goal.value_at-offset_bounds-self-field-in-Mark
value_at-offset_bounds-self-field-in-Mark t c =
    record { fits = omega (arith, mark_low c.requires c.args.self.now.code c.kind_at-kind.ensures c.in-Mark.is c.field-in-Mark.ensures) }

pub value_at-bounds-self-field-in-Mark : goal.value_at-bounds-self-field-in-Mark
value_at-bounds-self-field-in-Mark t c = mark_fits c.requires c.args.self.now.code c.kind_at-kind.ensures c.in-Mark.is c.field-in-Mark.ensures

pub value_at-returns-in-Mark : goal.value_at-returns-in-Mark
value_at-returns-in-Mark t c =
    ap got (search rules) ∙ mark c.requires c.args.self.now.code c.kind_at-kind.ensures c.in-Mark.is c.field-in-Mark.ensures

-- ---- an operator

pub value_at-value_at-requires : goal.value_at-value_at-requires
value_at-value_at-requires t c =
    part_ready c.requires c.decreases (operands_low c.requires c.args.self.now.code c.kind_at-kind.ensures c.in-Plus.is c.field-in-Plus.ensures refl).0

pub value_at-returns-in_err-a-in-Plus : goal.value_at-returns-in_err-a-in-Plus
value_at-returns-in_err-a-in-Plus t c =
    let p = err_from_is_err_and c.from_residual.result c.from_residual.ensures.1 in
    rw (p.1, p.2) (first_stops (operands c.requires c.args.self.now.code c.kind_at-kind.ensures c.in-Plus.is c.field-in-Plus.ensures refl) c.in_err-a-in-Plus.ensures)

pub value_at-value_at-requires-in-Plus : goal.value_at-value_at-requires-in-Plus
value_at-value_at-requires-in-Plus t c =
    part_ready c.requires c.decreases (operands_low c.requires c.args.self.now.code c.kind_at-kind.ensures c.in-Plus.is refl c.field-in-Plus-2.ensures).1

pub value_at-returns-in-Err : goal.value_at-returns-in-Err
value_at-returns-in-Err t c =
    second_stops (operands c.requires c.args.self.now.code c.kind_at-kind.ensures c.in-Plus.is c.field-in-Plus.ensures c.field-in-Plus-2.ensures)
    c.in_ok-a-in-Plus.ensures c.in-Err.ensures

pub value_at-returns-in-Ok : goal.value_at-returns-in-Ok
value_at-returns-in-Ok t c =
    operated_as c.args.self.now.code (search rules) (search rules) c.operator_of.ensures c.combined.ensures
    ∙ both_go (operands c.requires c.args.self.now.code c.kind_at-kind.ensures c.in-Plus.is c.field-in-Plus.ensures c.field-in-Plus-2.ensures)
    c.in_ok-a-in-Plus.ensures c.in-Ok.ensures

-- ---- a negation

pub value_at-value_at-requires-in-Negate : goal.value_at-value_at-requires-in-Negate
value_at-value_at-requires-in-Negate t c =
    part_ready c.requires c.decreases (negated_low c.requires c.args.self.now.code c.kind_at-kind.ensures c.in-Negate.is c.field-in-Negate.ensures)

pub value_at-returns-in_err-value_at-in-Negate : goal.value_at-returns-in_err-value_at-in-Negate
value_at-returns-in_err-value_at-in-Negate t c =
    let p = err_from_is_err_and c.from_residual-in_err-value_at-in-Negate.result c.from_residual-in_err-value_at-in-Negate.ensures.1 in
    rw (p.1, p.2) (negation c.requires c.args.self.now.code c.kind_at-kind.ensures c.in-Negate.is c.field-in-Negate.ensures c.in_err-value_at-in-Negate.ensures)

pub value_at-returns-in_ok-value_at-in-Negate : goal.value_at-returns-in_ok-value_at-in-Negate
value_at-returns-in_ok-value_at-in-Negate t c =
    opposite_as c.in_ok-value_at-in-Negate.field-0 (search rules) c.negated.ensures
    ∙ negation c.requires c.args.self.now.code c.kind_at-kind.ensures c.in-Negate.is c.field-in-Negate.ensures c.in_ok-value_at-in-Negate.ensures

-- ---- a choice

pub value_at-truth_at-requires : goal.value_at-truth_at-requires
value_at-truth_at-requires t c =
    part_ready c.requires c.decreases (choice_low c.requires c.args.self.now.code c.kind_at-kind.ensures c.in-Choose.is c.field-in-Choose.ensures)

pub value_at-returns-in_err-truth_at-in-Choose : goal.value_at-returns-in_err-truth_at-in-Choose
value_at-returns-in_err-truth_at-in-Choose t c =
    let p = err_from_is_err_and c.from_residual-in_err-truth_at-in-Choose.result c.from_residual-in_err-truth_at-in-Choose.ensures.1 in
    rw (p.1, p.2) (choice_stops c.requires c.args.self.now.code c.kind_at-kind.ensures c.in-Choose.is c.field-in-Choose.ensures c.in_err-truth_at-in-Choose.ensures)

pub value_at-value_at-requires-then-branch : goal.value_at-value_at-requires-then-branch
value_at-value_at-requires-then-branch t c =
    part_ready c.requires c.decreases (first_low c.requires c.args.self.now.code c.kind_at-kind.ensures c.in-Choose.is c.field-then-branch.ensures)

pub value_at-value_at-requires-else-branch : goal.value_at-value_at-requires-else-branch
value_at-value_at-requires-else-branch t c =
    part_ready c.requires c.decreases (second_low c.requires c.args.self.now.code c.kind_at-kind.ensures c.in-Choose.is c.field-else-branch.ensures)

pub value_at-returns-then-branch : goal.value_at-returns-then-branch
value_at-returns-then-branch t c =
    first_chosen c.requires c.args.self.now.code c.kind_at-kind.ensures c.in-Choose.is c.field-in-Choose.ensures
    (sym (ap got c.if-branch.true) ∙ c.in_ok-truth_at-in-Choose.ensures) c.field-then-branch.ensures c.value_at-then-branch.ensures

pub value_at-returns-else-branch : goal.value_at-returns-else-branch
value_at-returns-else-branch t c =
    second_chosen c.requires c.args.self.now.code c.kind_at-kind.ensures c.in-Choose.is c.field-in-Choose.ensures
    (sym (ap got c.if-branch.false) ∙ c.in_ok-truth_at-in-Choose.ensures) c.field-else-branch.ensures c.value_at-else-branch.ensures

pub value_at-returns-in_default : goal.value_at-returns-in_default
value_at-returns-in_default t c = no_value c.requires c.args.self.now.code c.kind_at-kind.ensures (search rules)
