-- No loop.
use Rattle.std.proofs.Common.{refl}
use Rattle.marks.specs.Stack.{stacked}
use Rattle.marks.proofs.loops.Loops.new.Goals as goal

pub returns : goal.returns
unfolding stacked
returns c = refl
