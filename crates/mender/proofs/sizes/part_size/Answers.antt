use Rattle.mender.specs.Sizing.{part_linked, part_none}
use Rattle.mender.proofs.sizes.part_size.Goals as goal

pub returns-then-kinds-of-lt95 : goal.returns-then-kinds-of-lt95
returns-then-kinds-of-lt95 c =
    rw c.field.ensures (part_linked _ _ _ (rw c.requires.0.letters at c.if-kinds-of-lt95.true))

pub returns-else-kinds-of-lt95 : goal.returns-else-kinds-of-lt95
returns-else-kinds-of-lt95 c = part_none _ _ _ (rw c.requires.0.letters at c.if-kinds-of-lt95.false)
