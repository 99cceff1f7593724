-- The last place is given up.
use Rattle.std.proofs.Common.{◌∙◌, ap}
use Rattle.grammar.specs.Renamed.{outer}
use Rattle.marks.specs.Stack.{dropped}
use Rattle.marks.proofs.loops.Loops.leave.Goals as goal

pub returns : goal.returns
returns c = rw c.saturating_sub-self-inside.ensures (dropped c.self.inside.rows c.self.inside.count ∙ ap outer c.self.view_is)
