-- What the reader knows of frames and of tokens, a letter for each number from 0 to 63. Tokens have the numbers of
-- `Numbers` in `grammar`, frames those of `Encoding` in `parsing`. Assumes nothing.
use Rattle.std.specs.Prelude.{ℕ, List}
use Rattle.grammar.specs.Scanning.{bytes}

-- a frame: how tight it holds the part left of the next token, from `b` on; `a` holds nothing
unfoldable pub holds : List ℕ
holds = bytes "aaaiijjjkaaaaaaaaahhhhgfedaaaaaaacbaaacaaaaaaaaaaaaaaaaaaaaaaaaa"

-- a frame: what sort the part has that it waits for
unfoldable pub holes : List ℕ
holes = bytes "X__EEEEEEN________EEEEFFFF_______ES___F__________FEEFSSFFESFSFBE"

-- a frame: what sort it makes
unfoldable pub makes : List ℕ
makes = bytes "___EEEEEEE________FFFFFFFF_______SS___S__________EEESSSSSSSXXX__"

-- a place: what ends it
unfoldable pub ends : List ℕ
ends = bytes "_________)_______________________________________,,)tlekfde;p$))"

-- a token: from which letter on operators take the part before it
unfoldable pub binds : List ℕ
binds = bytes "bbbiijjjbbbbbbbbbbhhhhbfeebbbbbbbbcbbbbbbbbbbbbbbbbbbbbbbbbbbbbb"

-- an infix operator: what sort it has on both sides
unfoldable pub takes : List ℕ
takes = bytes "___EEEEE__________EEEE_FFF________S_____________________________"

-- a token: what sort it begins
unfoldable pub begins : List ℕ
begins = bytes "____E____EE_____FF____F_________S__SS_S_E_______X_______________"

-- a token: the end that it is
unfoldable pub closes : List ℕ
closes = bytes "----------------------------------;------),tlekf-dp$------------"
