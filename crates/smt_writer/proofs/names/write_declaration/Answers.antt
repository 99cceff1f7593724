-- `smt_writer::names::write_declaration` meets its contract.
use Rattle.output.specs.Written.{then}
use Rattle.smt_writer.proofs.names.write_declaration.Goals as goal

pub returns : goal.returns
returns c = then c.push_text.ensures (then c.write_name.ensures c.push_text-2.ensures)
