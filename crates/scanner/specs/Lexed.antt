-- What the scanner tells of a token: its number, the value of a numeral or a variable up to `most`, and the place
-- after it. Then the words and the symbols that `token_at` knows, by themselves. Assumes nothing.
use Rattle.std.specs.Prelude.{ℕ, ◌+◌, List, Option as Option', None, Some}
use Rattle.std.proofs.Math.Option.{Option, none, some}
use Rattle.grammar.specs.Scanning.{Found, is_word_byte, keywords, word_of, symbols, symbol_of}
use Rattle.grammar.specs.Fronts.{run}
use Rattle.grammar.specs.Numbers.{token_number, token_value}
use Rattle.scanner.specs.declared.Token.{Token}

-- no token: the place after it is the place itself
abbrev pub none_at : ℕ → Token
none_at at = record { kind = 0; value = 0; end = at }

-- what was found at a place
unfoldable pub lexed : ℕ → Option Found → Token
lexed at none = none_at at
lexed at (some f) = record { kind = token_number f.token; value = token_value f.token; end = at + f.size }

-- what is told of it: nothing where there is no token
abbrev pub told_at : ℕ → Option Found → Option' Token
told_at at none = None
told_at at (some f) = Some (lexed at (some f))

-- the word at the front, where that begins with a letter
unfoldable pub word_at : List ℕ → Option Found
word_at bs = word_of keywords (run is_word_byte bs)

-- the symbol at the front
unfoldable pub symbol_at : List ℕ → Option Found
symbol_at bs = symbol_of symbols bs
