use Rattle.std.proofs.Common.{refl}
use Rattle.table.specs.Kinds.{named_at}
use Rattle.table.proofs.tests.is_named.Goals as goal

pub returns : goal.returns
returns c = rw (named_at, ← c.field-kind.ensures, ← c.field.ensures, ← c.is_frozen-frozen.ensures) refl
