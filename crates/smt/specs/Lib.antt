-- Conditions as SMT-LIB 2 scripts (P1). First what is to be believed: scripts and their meaning, the script of a condition, its text, and
-- what is answered; then that the script means that the condition is false, and what it declares; a reader of scripts, which
-- reads the text back; from a solver's verdicts to runs; last the text piece by piece, for the writer, and figures.

-- ---- a script, its text, and the answer

pub mod Smt
pub mod Translate
pub mod Text
pub mod Written
-- ---- its meaning, and its names

pub mod Agreement
pub mod Symbols
pub mod Once
pub mod Occurring
pub mod Declared
-- ---- the text is read back

pub mod Sexp
pub mod Lexicon
pub mod Reader
pub mod Spaced
pub mod Blanks
pub mod Atoms
pub mod TermBack
pub mod ReadBack
-- ---- from verdicts to runs; stored lists (02, P2), and lists in two forms (P9)

pub mod Verdicts
pub mod Refutations
pub mod StoredScripts
pub mod Forms
-- ---- pieces and figures

pub mod Pieces
pub mod Examples
pub mod Computed
pub mod Witness
