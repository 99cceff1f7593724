-- What the latest assignment to the variable says.
use Rattle.std.proofs.Common.{arith}
use Rattle.formula_writer.specs.Search.{fewer_entries}
use Rattle.formula_writer.specs.Replacing.{entries}
use Rattle.formula_writer.proofs.replace_variable.Goals as goal

pub latest-requires : goal.latest-requires
latest-requires c = (entries c.requires.0 c.requires.1, c.requires.2)

pub row_at-r-requires : goal.row_at-r-requires
row_at-r-requires c =
    let found = rw c.in-Some.is at c.latest.ensures in
    let within = found.within in
    fewer_entries _ (omega arith) (entries c.requires.0 c.requires.1)
