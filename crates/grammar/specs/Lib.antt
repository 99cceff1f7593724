-- Scripts as text (P4). First what is to be believed, in the order of the request: what a script is made of and how it
-- is spelled; the rows and the tree that it stands for; the reader and the answer. Then the theorems: each text has one
-- reading and exactly those texts are read; the productions derive exactly those texts, grouped as they are read; the places of 40, 41 and 42; the
-- rows that are written are those of the text, and have its tree; a table is given exactly where it should be. Texts
-- tried by computation stand in `text_claims`. Assumes nothing.

-- ---- a script and its spelling

pub mod Sorts
pub mod Operators
pub mod Forms
pub mod Tokens
pub mod Scanning
pub mod Pieces
pub mod Productions
pub mod Grammar
pub mod PhraseOf
pub mod Text
-- ---- what it stands for

pub mod Counts
pub mod Rows
pub mod Trees
pub mod Meaning
-- ---- the reader and the answer

pub mod States
pub mod Automaton
pub mod Reader
pub mod Ranges
pub mod Outcome
pub mod Answer
pub mod Numbers
-- ---- laws of the tables

pub mod Tests
pub mod HoleLaws
pub mod LevelLaws
pub mod PlaceLaws
pub mod LaterPlaces
pub mod WordLaws
-- ---- one reading, and exactly those texts

pub mod Complete
pub mod Contexts
pub mod Reduces
pub mod Sound
pub mod Unique
pub mod Filling
pub mod Viable
pub mod TextSound
pub mod TextRead
pub mod TextViable
pub mod Stops
-- ---- the productions derive exactly the texts that have a phrase

pub mod Shapes
pub mod FormTexts
pub mod DerivedParts
pub mod DerivedPhrases
pub mod PhraseLevels
pub mod PhraseParts
pub mod Derivations
-- ---- bytes into tokens, and the places of refusals

pub mod Fronts
pub mod Finding
pub mod Longest
pub mod Covers
pub mod OneToken
pub mod CoversOnce
pub mod LexemePlaces
pub mod ZeroLed
pub mod Scans
pub mod Places
-- ---- ranges

pub mod AllLaws
pub mod StateFlags
pub mod InRange
-- ---- rows and trees

pub mod Sizes
pub mod Lengths
pub mod SameRows
pub mod SameForms
pub mod SameTree
pub mod TextTree
pub mod Written
pub mod Adds
pub mod Renamed
pub mod Passed
pub mod Result
-- ---- the whole answer

pub mod Given
