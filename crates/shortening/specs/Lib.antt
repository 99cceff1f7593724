-- 02, P6 and P10: shorter conditions. First what is to be believed: the rules, what the two entries answer and leave, and
-- which results P10 speaks of. Then that the rules say 02's sentences; that conditions hold in the same states, and are
-- never longer; what the entries answer, by occasions; what P10 changed; demand 3 and verdicts through the shortened list,
-- with a witness; last figures, and wrong turns.

-- ---- the rules, and the answers

pub mod Simplify
pub mod Shortened
pub mod Kept
-- ---- the rules as equations; shapes, for the code

pub mod Picked
pub mod Sentences
pub mod Stays
pub mod Shapes
-- ---- the same states, no new number, never longer, nothing left to shorten

pub mod Laws
pub mod Leaves
pub mod Constants
pub mod Same
pub mod Never
pub mod Done
-- ---- lists, and the entry over two

pub mod Lists
pub mod Answers
pub mod TwoLists
pub mod Handed
-- ---- P10's order of the first two rules, beside P6's

pub mod Moved
pub mod MovedNode
pub mod Orders
pub mod NegatedZero
pub mod Zeroed
pub mod Changed
-- ---- from conditions and verdicts to runs

pub mod Through
pub mod ValidIn
pub mod Witness
-- ---- figures and wrong turns

pub mod Figures
pub mod ListFigures
pub mod OrderFigures
pub mod Variants
pub mod Wrong
pub mod WrongAnswers
pub mod WrongParts
