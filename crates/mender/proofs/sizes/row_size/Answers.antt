-- One more than the sizes of its parts, capped.
use Rattle.std.proofs.Common.{arith, ◌∙◌}
use Rattle.mender.specs.Checked.{field_at, listed_kind}
use Rattle.mender.specs.Sizing.{first_sized, second_sized, sized, sum_small, third_sized}
use Rattle.mender.proofs.sizes.row_size.Goals as goal

pub overflow_mul-of : goal.overflow_mul-of
overflow_mul-of c = record { fits = omega (arith, listed_kind c.requires.0 c.requires.1.0 c.field-of.ensures) }

pub part_size-a-requires : goal.part_size-a-requires
part_size-a-requires c = (
  field_at c.requires.0 c.requires.1.0 c.field-of.ensures 1 c.requires.1.1.1 (omega arith),
  first_sized c.requires.0 c.requires.1.1.0 c.requires.1.0 c.field-of.ensures,
)

pub part_size-b-requires : goal.part_size-b-requires
part_size-b-requires c = (
  field_at c.requires.0 c.requires.1.0 c.field-of.ensures 2 c.requires.1.1.1 (omega arith),
  second_sized c.requires.0 c.requires.1.1.0 c.requires.1.0 c.field-of.ensures,
)

pub part_size-c-requires : goal.part_size-c-requires
part_size-c-requires c = (
  field_at c.requires.0 c.requires.1.0 c.field-of.ensures 3 c.requires.1.1.1 (omega arith),
  third_sized c.requires.0 c.requires.1.1.0 c.requires.1.0 c.field-of.ensures,
)

pub overflow_add-a : goal.overflow_add-a
overflow_add-a c = record { fits = omega (arith, sum_small c.requires.0 c.requires.1.1.0 c.requires.1.0 c.field-of.ensures c.part_size-a.ensures c.part_size-b.ensures c.part_size-c.ensures) }

pub overflow_add-a-2 : goal.overflow_add-a-2
overflow_add-a-2 c = record { fits = omega (arith, sum_small c.requires.0 c.requires.1.1.0 c.requires.1.0 c.field-of.ensures c.part_size-a.ensures c.part_size-b.ensures c.part_size-c.ensures) }

pub overflow_add-a-3 : goal.overflow_add-a-3
overflow_add-a-3 c = record { fits = omega (arith, sum_small c.requires.0 c.requires.1.1.0 c.requires.1.0 c.field-of.ensures c.part_size-a.ensures c.part_size-b.ensures c.part_size-c.ensures) }

pub returns : goal.returns
returns c =
    c.min.ensures ∙ sized c.requires.0 c.requires.1.1.0 c.requires.1.0 c.field-of.ensures c.part_size-a.ensures c.part_size-b.ensures c.part_size-c.ensures
