-- A turn writes the word that the next four bytes spell.
use Rattle.std.proofs.Common.{◌≡◌, [], length, subst, arith, ◌∙◌}
use Rattle.script.specs.Laws.{back}
use Rattle.theorems.specs.Writing.{Wrote, wrote_nothing}
use Rattle.printer.proofs.Bytes.{word_of_four, word_turn, no_word}
use Rattle.printer.proofs.decode.Goals as goal

pub loop-i-preserved : goal.loop-i-preserved
loop-i-preserved c =
    let bytes = c.args.bytes.now in
    let i = c.loop-i.i in
    let cut = c.as_chunks.ensures in
    let word = word_of_four bytes i cut.front (omega arith) (omega arith) c.from_le_bytes.ensures in
    word_turn bytes i (omega arith) (omega arith) (back c.from_le_bytes.type_inv ∙ word) c.loop-i.invariant

pub returns-clause-wrote : goal.returns-clause-wrote
returns-clause-wrote c =
    let bytes = c.args.bytes.now in
    let words = c.loop-i.words in
    let i = c.loop-i.i in
    let fours = length c.as_chunks.result.0.now in
    let all : i ≡ fours = omega arith in
    let none = no_word bytes i (omega (arith, c.as_chunks.ensures.front_len)) in
    c.loop-i.invariant _ _ (rw none (subst (λ q. Wrote words i [] q words) all (wrote_nothing words i)))
