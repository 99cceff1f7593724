use Rattle.output.specs.Written.{then}
use Rattle.divisor_writer.proofs.write_nonzero.Goals as goal

pub returns : goal.returns
returns c = then c.push_kind.ensures (then c.write_expression.ensures c.push_constant.ensures)
