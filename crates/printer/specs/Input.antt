-- 01, "The program": "It reads the table from standard input, four bytes a two's complement word, low byte first".
-- Assumes nothing.
use Rattle.std.specs.Prelude.{ℕ, ◌+◌, ◌*◌, ◌-◌, List, [], ◌∷◌, cond, ltb, ℤ, pos, negsuc}

-- "low byte first"
abbrev pub unsigned : ℕ → ℕ → ℕ → ℕ → ℕ
unsigned a b c d = a + 256 * b + 65536 * c + 16777216 * d

-- "a two's complement word": from 2,147,483,648 on a number stands for itself less 4,294,967,296
abbrev pub twos_complement : ℕ → ℤ
twos_complement n = cond (ltb n 2147483648) (pos n) (negsuc (4294967295 - n))

-- "four bytes a .. word"; what is left past the last whole word gives none
unfoldable pub words_of : List ℕ → List ℤ
words_of [] = []
words_of (a ∷ []) = []
words_of (a ∷ b ∷ []) = []
words_of (a ∷ b ∷ c ∷ []) = []
words_of (a ∷ b ∷ c ∷ d ∷ bytes) = twos_complement (unsigned a b c d) ∷ words_of bytes
