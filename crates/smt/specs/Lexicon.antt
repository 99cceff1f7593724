-- The lexicon of SMT-LIB 2, as far as it is read here: numerals, symbols, and the names that a script may declare. Words are
-- bytes. Assumes nothing.
use Rattle.std.specs.Prelude.{ℕ, List, [], ◌∷◌, Bool, true, false, not, ◌&&◌, ◌||◌, eqb, leb}
use Rattle.script.specs.Refusals.{member}
use Rattle.text.specs.Ascii.{bytes}
use Rattle.text.specs.Decimal.{digit, all}

-- ---- bytes

abbrev pub same : List ℕ → List ℕ → Bool
same [] [] = true
same [] (d ∷ ds) = false
same (c ∷ cs) [] = false
same (c ∷ cs) (d ∷ ds) = eqb c d && same cs ds

abbrev pub among : List ℕ → List (List ℕ) → Bool
among w [] = false
among w (v ∷ vs) = same w v || among w vs

-- ---- numerals and symbols

abbrev pub empty : List ℕ → Bool
empty [] = true
empty (c ∷ cs) = false

-- "the digit 0 or a non-empty sequence of digits not starting with 0"
abbrev pub is_numeral : List ℕ → Bool
is_numeral [] = false
is_numeral (c ∷ cs) = all digit (c ∷ cs) && (not (eqb c 48) || empty cs)

-- letters, digits, and ~ ! @ $ % ^ & * _ - + = < > . ? /
abbrev pub symbol_byte : ℕ → Bool
symbol_byte c = digit c || (leb 97 c && leb c 122) || (leb 65 c && leb c 90) || member c (bytes "~!@$%^&*_-+=<>.?/")

-- "a non-empty sequence of letters, digits and the characters .. that does not start with a digit"
abbrev pub is_symbol : List ℕ → Bool
is_symbol [] = false
is_symbol (c ∷ cs) = not (digit c) && all symbol_byte (c ∷ cs)

-- the standard's reserved words, and the symbols of the theories Core and Ints
abbrev pub reserved : List (List ℕ)
reserved =
    bytes "!" ∷ bytes "_" ∷ bytes "as" ∷ bytes "exists" ∷ bytes "forall" ∷ bytes "let" ∷ bytes "match" ∷ bytes "par"
    ∷ bytes "BINARY" ∷ bytes "DECIMAL" ∷ bytes "HEXADECIMAL" ∷ bytes "NUMERAL" ∷ bytes "STRING"
    ∷ bytes "assert" ∷ bytes "check-sat" ∷ bytes "check-sat-assuming" ∷ bytes "declare-const" ∷ bytes "declare-datatype"
    ∷ bytes "declare-datatypes" ∷ bytes "declare-fun" ∷ bytes "declare-sort" ∷ bytes "define-fun" ∷ bytes "define-fun-rec"
    ∷ bytes "define-funs-rec" ∷ bytes "define-sort" ∷ bytes "echo" ∷ bytes "exit" ∷ bytes "get-assertions"
    ∷ bytes "get-assignment" ∷ bytes "get-info" ∷ bytes "get-model" ∷ bytes "get-option" ∷ bytes "get-proof"
    ∷ bytes "get-unsat-assumptions" ∷ bytes "get-unsat-core" ∷ bytes "get-value" ∷ bytes "pop" ∷ bytes "push" ∷ bytes "reset"
    ∷ bytes "reset-assertions" ∷ bytes "set-info" ∷ bytes "set-logic" ∷ bytes "set-option"
    ∷ bytes "true" ∷ bytes "false" ∷ bytes "not" ∷ bytes "=>" ∷ bytes "and" ∷ bytes "or" ∷ bytes "xor" ∷ bytes "="
    ∷ bytes "distinct" ∷ bytes "ite" ∷ bytes "-" ∷ bytes "+" ∷ bytes "*" ∷ bytes "div" ∷ bytes "mod" ∷ bytes "abs"
    ∷ bytes "<=" ∷ bytes "<" ∷ bytes ">=" ∷ bytes ">" ∷ []

-- symbols that begin with . or @ are the solver's
abbrev pub solvers_own : List ℕ → Bool
solvers_own [] = false
solvers_own (c ∷ cs) = member c (bytes ".@")

-- a symbol that a script may declare
abbrev pub is_name : List ℕ → Bool
is_name w = is_symbol w && (not (solvers_own w) && not (among w reserved))
