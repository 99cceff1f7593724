-- What is left of the text comes to what the whole text comes to. Assumes nothing.
use Rattle.std.proofs.Common.{◌-◌, length}
use Rattle.parser.specs.Machine.{config, start}
use Rattle.script_reader.specs.Going.{Going}
use Rattle.script_reader.proofs.tokens.take_tokens.Given as goal

abbrev pub invariant-loop-at : goal.invariant-loop-at
invariant-loop-at l = Going l.text (start l.initial.stack l.initial.words) (config l.s l.stack l.words) l.at

abbrev pub decreases-loop-at : goal.decreases-loop-at
decreases-loop-at l = length l.text - l.at
