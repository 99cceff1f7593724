-- Links fall: the row is the measure.
use Rattle.evaluation.proofs.State.+truth_at_value_at.Given as goal

abbrev pub decreases-truth_at : goal.decreases-truth_at
decreases-truth_at l = l.r

abbrev pub decreases-value_at : goal.decreases-value_at
decreases-value_at l = l.r
