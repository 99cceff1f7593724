-- `list_reader::formulas::formula_node_of` meets its contract: the runs of kinds by their ends, then every other number.
use Rattle.std.proofs.Common.{◌≡◌, pos, arith, false, true}
use lib.Signed.{lt_z}
use Rattle.std.proofs.lemmas.Int.{ints}
use Rattle.script.specs.Rows.{row_of}
use Rattle.list_reader.proofs.NodeKinds.{truth_kind, comparison_kind, junction_kind, no_formula_kind}
use Rattle.list_reader.proofs.KindWords.{at_least, less_than, other, out_below}
use Rattle.list_reader.proofs.formulas.formula_node_of.Goals as goal

pub returns-in-22 : goal.returns-in-22
unfolding row_of
returns-in-22 c next = let e : c.args.kind ≡ pos 22 = omega (arith, ints) in rw e

pub returns-in-16-to-17 : goal.returns-in-16-to-17
returns-in-16-to-17 c next =
    let z = c.args.kind in
    let from : lt_z z (pos 16) ≡ false = grind (arith, ints) in
    let to : lt_z z (pos 18) ≡ true = grind (arith, ints) in
    truth_kind next (at_least z 16 from) (less_than z 16 18 from to)

pub returns-in-18-to-21 : goal.returns-in-18-to-21
returns-in-18-to-21 c next =
    let z = c.args.kind in
    let from : lt_z z (pos 18) ≡ false = grind (arith, ints) in
    let to : lt_z z (pos 22) ≡ true = grind (arith, ints) in
    comparison_kind next (at_least z 18 from) (less_than z 18 22 from to)

pub returns-in-23-to-25 : goal.returns-in-23-to-25
returns-in-23-to-25 c next =
    let z = c.args.kind in
    let from : lt_z z (pos 22) ≡ false = grind (arith, ints) in
    let to : lt_z z (pos 26) ≡ true = grind (arith, ints) in
    junction_kind next (other z 22 (omega arith) (λ e. omega (arith, ints)) (at_least z 22 from)) (less_than z 22 26 from to)

pub returns-in_default : goal.returns-in_default
returns-in_default c next =
    let z = c.args.kind in
    let to : lt_z z (pos 16) ≡ true = grind (arith, ints) in
    no_formula_kind next (out_below z 16 26 (omega arith) to)

pub returns-in_default-2 : goal.returns-in_default-2
returns-in_default-2 c next =
    let z = c.args.kind in
    let from : lt_z z (pos 26) ≡ false = grind (arith, ints) in
    no_formula_kind next λ h. at_least z 26 from
