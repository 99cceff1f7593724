use Rattle.table.specs.Kinds.{assign_frozen, other_assigns}
use Rattle.table.proofs.tests.assigns_frozen.Goals as goal

pub returns-in-Assign : goal.returns-in-Assign
returns-in-Assign c = assign_frozen _ _ c.kind_at.ensures c.field.ensures c.is_frozen.ensures c.in-Assign.is

pub returns-in_default : goal.returns-in_default
returns-in_default c = other_assigns _ _ c.kind_at.ensures c.in_default.not-Assign
