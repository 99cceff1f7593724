-- The reader's machine (crate `parser`) does what the automaton of the grammar does. First how it holds a state
-- (`Encoding`); then what is known of its words and stack is kept by every token that is taken (`Data...`); the letters
-- that stand for sorts and endings (`...Letters`); then that it follows the automaton, token by token (`Follows...`),
-- and what it leaves of a whole text (`Followed`, `Answers`). Assumes nothing.
pub mod Encoding
pub mod DataRows
pub mod DataStack
pub mod DataSizes
pub mod DataLetters
pub mod DataOperators
pub mod DataPart
pub mod DataReduce
pub mod DataLeaf
pub mod DataOpen
pub mod DataPlace
pub mod DataForms
pub mod DataClose
pub mod DataAfter
pub mod DataBegin
pub mod Letters
pub mod FrameLetters
pub mod TokenLetters
pub mod DueLetters
pub mod Stacks
pub mod DataTake
pub mod DataRun
pub mod Counted
pub mod Capped
pub mod Following
pub mod Beginnings
pub mod Openings
pub mod FollowsNumbers
pub mod FollowsBegin
pub mod FollowsReduce
pub mod Closings
pub mod FollowsGoOn
pub mod FollowsAfter
pub mod Follows
pub mod Heights
pub mod FollowsRun
pub mod Followed
pub mod Lexemes
pub mod Answers
