-- The measure is the row number: each link that is followed is lower.
use Rattle.table.proofs.names.+lowest_misread.Given as goal

abbrev pub decreases-lowest_misread : goal.decreases-lowest_misread
decreases-lowest_misread l = l.r.0
