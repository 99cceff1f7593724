-- `smt_writer::write_script` meets its contract, piece by piece.
use Rattle.output.specs.Written.{then}
use Rattle.smt.specs.Pieces.{script_pieces}
use Rattle.theorems.specs.WordsAt.{formula}
use Rattle.smt_writer.specs.Nodes.{at_front}
use Rattle.smt_writer.proofs.write_script.Goals as goal

pub write_node-requires : goal.write_node-requires
write_node-requires c room = record { node = formula c.requires.claim; stands = at_front c.requires.spells }

pub returns : goal.returns
returns c f s =
    rw (script_pieces f)
    (then c.push_text.ensures
    (then (c.write_declarations.ensures f s)
    (then c.push_text-2.ensures
    (then (c.write_node.ensures.reaches (formula f) (at_front s)).wrote c.push_text-3.ensures))))
