-- A turn writes a space and the next word, and the last byte is the line feed.
use Rattle.std.proofs.Common.{arith, rules, get_or, pos, ◌<◌, ◌^◌}
use lib.Signed.{mag}
use Rattle.script.specs.Laws.{back}
use Rattle.output.specs.Written.{then}
use Rattle.printer.proofs.Lines.{next_field, no_field}
use Rattle.printer.proofs.Short.{field_short}
use Rattle.printer.proofs.put_fields.Goals as goal

pub loop-word-preserved : goal.loop-word-preserved
loop-word-preserved c =
    let words = c.args.words.now in
    let here = c.loop-word-test.true in
    let word : mag (get_or words c.loop-word.word-index (pos 0)) < 2 ^ 31 = search rules in
    let wrote = rw (back word) at c.put_field.ensures in (
      omega (arith, c.loop-word.invariant.0, field_short words here word),
      λ o w. c.loop-word.invariant.1 o (rw (next_field words here) (then wrote w)),
    )

pub returns-clause-wrote : goal.returns-clause-wrote
returns-clause-wrote c =
    let none = no_field c.args.words.now c.loop-word-test.false in
    c.loop-word.invariant.1 _ (rw none c.push_byte.ensures)

pub returns-clause-words_len_bound : goal.returns-clause-words_len_bound
returns-clause-words_len_bound c =
    let none = no_field c.args.words.now c.loop-word-test.false in
    omega (arith, rw none at c.loop-word.invariant.0)
