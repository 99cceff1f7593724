-- Theorems that speak of the definitions of `script` alone; docs/CLAIMS.md has the sentence that each proves. First small laws that
-- many cite; then the rules' soundness; division by zero; what the refusals of a table mean, and what an accepted table has; lists;
-- the whole answer, demand 3 and depths; last the wrong answers, each refuted.

-- ---- small laws

pub mod Truths
pub mod Tests
pub mod Options
pub mod Members
pub mod Induction
pub mod Sets
pub mod Writing
pub mod Clearing
pub mod WordsAt
-- ---- div and mod; the rules are sound

pub mod Division
pub mod Scoping
pub mod Substitution
pub mod Traces
pub mod LoopRule
pub mod Sound
-- ---- division by zero (02, P5): D, runs that fail, what stays as it was

pub mod Divisors
pub mod DivisorNames
pub mod DivisorWords
pub mod ZeroDivisors
pub mod Due
pub mod Failures
pub mod Unchanged
pub mod SameRuns
pub mod NoDivision
-- ---- the refusals 1 to 10, in the words of 01

pub mod Lowest
pub mod Links
pub mod Faults
pub mod Occasions
pub mod Standing
pub mod Misread
pub mod Misplaced
pub mod Numbers
-- ---- an accepted table: its trees, scopes, ranges, sizes and nesting

pub mod Accepted
pub mod Kinds
pub mod RowTrees
pub mod Marks
pub mod Scoped
pub mod Ranges
pub mod InRange
pub mod Counting
pub mod Nesting
pub mod RowPaths
-- ---- lists: written, and read back

pub mod Reading
pub mod Spelling
pub mod Line
pub mod ReadBack
pub mod Lookup
-- ---- the whole answer, demand 3, the rules for scratch (02, P8), depths (02, P9), and stored tables and lists (02, P2 and P9)

pub mod Outcomes
pub mod WholeAnswer
pub mod ScratchRules
pub mod Demand
pub mod Depths
pub mod FormerReader
pub mod EitherForm
pub mod StoredTables
pub mod StoredLists
-- ---- wrong answers: bodies, readers, rules, reads

pub mod Differ
pub mod Bodies
pub mod Attempts
pub mod ReaderAttempts
pub mod DividedAttempts
pub mod WrongItems
pub mod WrongRules
pub mod WrongTurns
pub mod WrongDivisors
pub mod Reads
