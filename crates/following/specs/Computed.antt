-- The two runs in a scratch, computed: for the script of four rows the first four words are the path, the next four what follows its
-- rows; the last word is past both. What follows row 1 is read at word 5, and neither from the path nor a word off. Assumes nothing.
use Rattle.std.specs.Prelude.{◌≡◌, refl, List, [], ◌∷◌, ℤ}
use Rattle.script.specs.Computed.{◌⨾◌, four_rows, numbers}
use Rattle.following.specs.Follow.{follow_in, row_on}

abbrev scratch : List ℤ
scratch = numbers (10 ∷ 11 ∷ 12 ∷ 13 ∷ 20 ∷ 21 ∷ 22 ∷ 23 ∷ 30 ∷ [])

runs : (row_on (follow_in four_rows scratch) 0 ≡ 20) × ((row_on (follow_in four_rows scratch) 1 ≡ 21) × (row_on (follow_in four_rows scratch) 3 ≡ 23))
unfolding four_rows ◌⨾◌ numbers
runs = (refl, (refl, refl))
