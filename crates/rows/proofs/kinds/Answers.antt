use Rattle.std.proofs.Common.{refl}
use Rattle.rows.specs.Patterns.{patterns}
use Rattle.rows.proofs.kinds.Goals as goal

pub returns : goal.returns
unfolding patterns
returns c = refl
