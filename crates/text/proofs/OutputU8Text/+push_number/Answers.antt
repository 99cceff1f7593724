-- The digits before the last one are those of a tenth of the number.
use Rattle.output.specs.Written.{then}
use Rattle.text.proofs.Digits.{one_digit, more_digits}
use Rattle.text.proofs.OutputU8Text.+push_number.Goals as goal

pub returns-then-n-lt10 : goal.returns-then-n-lt10
returns-then-n-lt10 t c = rw (one_digit c.args.n _ c.digit-last.ensures c.if-n-lt10.true) c.push_byte.ensures

pub returns-else-n-lt10 : goal.returns-else-n-lt10
returns-else-n-lt10 t c =
    rw (more_digits c.args.n _ c.digit-last.ensures c.if-n-lt10.false) (then c.push_number.ensures c.push_byte-else-n-lt10.ensures)
