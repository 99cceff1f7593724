-- `list_reader::formulas::expression_node_of` meets its contract: an operator stands between the kinds 3 and 7.
use Rattle.std.proofs.Common.{◌≡◌, pos, get_or, arith, false, true}
use lib.Signed.{lt_z}
use Rattle.std.proofs.lemmas.Int.{ints}
use Rattle.list_reader.proofs.NodeKinds.{arithmetic_kind}
use Rattle.list_reader.proofs.KindWords.{at_least, less_than}
use Rattle.list_reader.proofs.formulas.expression_node_of.Goals as goal

pub returns-in-3-to-7 : goal.returns-in-3-to-7
returns-in-3-to-7 c =
    let z = c.args.kind in
    let from : lt_z z (pos 3) ≡ false = grind (arith, ints) in
    let to : lt_z z (pos 8) ≡ true = grind (arith, ints) in
    arithmetic_kind (get_or c.args.words.now c.args.at (pos 0)) (at_least z 3 from) (less_than z 3 8 from to)
