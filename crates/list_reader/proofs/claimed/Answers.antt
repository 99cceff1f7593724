-- `list_reader::claimed` meets its contract.
use Rattle.std.proofs.Common.{◌≡◌, arith, to_z, of_z, w32}
use Rattle.std.proofs.lemmas.Int.{ints}
use Rattle.list_reader.proofs.Entries.{claimed_long, claimed_told}
use Rattle.list_reader.proofs.claimed.Goals as goal

pub returns-then-words-gt16384 : goal.returns-then-words-gt16384
returns-then-words-gt16384 c = claimed_long c.args.words.now c.if-words-gt16384.true

pub returns-else-words-gt16384 : goal.returns-else-words-gt16384
returns-else-words-gt16384 c =
    let w = c.last_word.result in
    let q : to_z w32 (of_z w32 w) ≡ w = omega (arith, ints) in
    claimed_told c.args.words.now c.if-words-gt16384.false c.last_word.ensures c.last_word.type_inv
    (rw q at c.count_told.ensures)
