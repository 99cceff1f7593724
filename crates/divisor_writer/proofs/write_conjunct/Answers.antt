use Rattle.following.specs.Follow.{lent_whole}
use Rattle.divisor_writer.specs.Ready.{no_conjunct}
use Rattle.divisor_writer.proofs.write_conjunct.Goals as goal

pub returns-else-divides : goal.returns-else-divides
returns-else-divides c =
    no_conjunct c.requires (rw (c.row_count-rows.ensures, lent_whole c.args.table.now c.args.scratch.now) at c.divides.ensures) c.if-divides.false
