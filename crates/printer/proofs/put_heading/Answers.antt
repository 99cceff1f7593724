-- What is written, one after the other, is the line.
use Rattle.output.specs.Written.{then}
use Rattle.printer.proofs.Lines.{heading_is}
use Rattle.printer.proofs.put_heading.Goals as goal

pub returns : goal.returns
returns c =
    rw (heading_is c.args.name.now c.args.first c.args.second)
    (then c.push_text.ensures (then c.put_count.ensures (then c.put_count-2.ensures c.push_byte.ensures)))
