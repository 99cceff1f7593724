-- `list_reader::formulas::other_node_of` meets its contract: each kind by its number, then every other number.
use Rattle.std.proofs.Common.{◌≡◌, pos, get_or, arith}
use Rattle.std.proofs.lemmas.Int.{ints}
use Rattle.script.specs.Rows.{row_of}
use Rattle.list_reader.proofs.NodeKinds.{no_expression_kind}
use Rattle.list_reader.proofs.KindWords.{other}
use Rattle.list_reader.proofs.formulas.other_node_of.Goals as goal

pub returns-in-1 : goal.returns-in-1
unfolding row_of
returns-in-1 c = let e : c.args.kind ≡ pos 1 = omega (arith, ints) in rw e

pub returns-in-2 : goal.returns-in-2
unfolding row_of
returns-in-2 c = let e : c.args.kind ≡ pos 2 = omega (arith, ints) in rw e c.number_below.ensures

pub returns-in-8 : goal.returns-in-8
unfolding row_of
returns-in-8 c = let e : c.args.kind ≡ pos 8 = omega (arith, ints) in rw e

pub returns-in-9 : goal.returns-in-9
unfolding row_of
returns-in-9 c = let e : c.args.kind ≡ pos 9 = omega (arith, ints) in rw e c.number_below-in-9.ensures

pub returns-in-10 : goal.returns-in-10
unfolding row_of
returns-in-10 c = let e : c.args.kind ≡ pos 10 = omega (arith, ints) in rw e

pub returns-in_default : goal.returns-in_default
returns-in_default c =
    let z = c.args.kind in
    no_expression_kind (get_or c.args.words.now c.args.at (pos 0)) λ h.
    let two = other z 1 (omega arith) (λ e. omega (arith, ints)) h in
    let three = other z 2 (omega arith) (λ e. omega (arith, ints)) two in
    let nine = other z 8 (omega arith) (λ e. omega (arith, ints)) (c.requires three) in
    other z 10 (omega arith) (λ e. omega (arith, ints)) (other z 9 (omega arith) (λ e. omega (arith, ints)) nine)
