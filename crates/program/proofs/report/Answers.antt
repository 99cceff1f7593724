-- A byte count that is no multiple of 4 or over 32,768 is number 1.
use Rattle.std.proofs.Common.{inl, inr}
use Rattle.program.specs.Answers.{not_fours, too_long, fours}
use Rattle.program.proofs.report.Goals as goal

pub returns-then-input-gt32768-clause-wrote : goal.returns-then-input-gt32768-clause-wrote
returns-then-input-gt32768-clause-wrote c = elim c.if-input-gt32768.either [
  | inl h ↦ rw (not_fours c.args.input.now h) c.report_length.ensures.wrote
  | inr h ↦ rw (too_long c.args.input.now h.0 h.1) c.report_length.ensures.wrote
]

pub returns-else-input-gt32768-clause-wrote : goal.returns-else-input-gt32768-clause-wrote
returns-else-input-gt32768-clause-wrote c =
    rw (fours c.args.input.now c.if-input-gt32768.false.0) c.report_words.ensures.wrote
