-- The measure is the number, which falls at the call.
use Rattle.text.proofs.OutputU8Text.+push_number.Given as goal

abbrev pub decreases-push_number : goal.decreases-push_number
decreases-push_number l = l.n
