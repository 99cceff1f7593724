-- 02, P7: the words of the new table, row by row. New row k is the old row that it came from, with its links and its
-- mark renewed.
-- In this order: the places of a row's parts; the fields of a row renewed; the place of a loop's copy, to which a mark
-- is renamed; the words of a new row, and of all. Assumes nothing.
use Rattle.std.specs.Prelude.{ℕ, zero, suc, ◌+◌, ◌-◌, List, [], ◌∷◌, cond, ℤ, pos, eqb, drop, get_or}
use Rattle.script.specs.Rows.{Field, value, variable, target, loop, link, Part, fields, parts, word, row}
use Rattle.mending.specs.Copies.{part_sum, origins, size}

-- "parts left to right before their parent": the places of the last rows of parts that stand one after the other from
-- `lo` up, where S gives the size of each
unfoldable pub places : (ℕ → ℕ) → ℕ → List Part → List ℕ
places S lo [] = []
places S lo (p ∷ ps) = (lo + S p.at - 1) ∷ places S (lo + S p.at) ps

-- the words of a row's fields, renewed: a link goes to the copy of its part, of which the next is number i of `at`; "a
-- mark is renamed", by ρ; the other words are kept
unfoldable pub renewed : (ℕ → ℕ) → List ℕ → ℕ → List Field → List ℤ → List ℤ
renewed ρ at i [] ws = ws
renewed ρ at i (f ∷ fs) [] = []
renewed ρ at i (value ∷ fs) (w ∷ ws) = w ∷ renewed ρ at i fs ws
renewed ρ at i (variable v ∷ fs) (w ∷ ws) = w ∷ renewed ρ at i fs ws
renewed ρ at i (target v ∷ fs) (w ∷ ws) = w ∷ renewed ρ at i fs ws
renewed ρ at i (loop m ∷ fs) (w ∷ ws) = pos (ρ m) ∷ renewed ρ at i fs ws
renewed ρ at i (link s r ∷ fs) (w ∷ ws) = pos (get_or at i 0) ∷ renewed ρ at (suc i) fs ws

-- the place of the first m in a list whose first place is k, or 0
unfoldable pub place_of : ℕ → ℕ → List ℕ → ℕ
place_of m k [] = 0
place_of m k (x ∷ xs) = cond (eqb m x) k (place_of m (suc k) xs)

-- four words for each row r, the next one being number k
unfoldable pub written : (ℕ → ℕ → ℕ → ℤ) → ℕ → List ℕ → List ℤ
written W k [] = []
written W k (r ∷ rs) = W k r 0 ∷ W k r 1 ∷ W k r 2 ∷ W k r 3 ∷ written W (suc k) rs

module _ (t : List ℤ) where
  -- "A mark is renamed to the copy of its loop whose body it stands in": for a mark at new row k and its loop m, the
  -- next row above k that is a copy of m. Links fall, so no copy of m stands in the body of another; a copy's row comes
  -- right after its body.
  unfoldable pub renamed : ℕ → ℕ → ℕ
  renamed k m = place_of m (suc k) (drop (suc k) (origins t))

  -- the places of the parts of row r, whose copy is new row k: they end right before k
  unfoldable pub part_places : ℕ → ℕ → List ℕ
  part_places k r = places (size t) (k - part_sum (size t) (parts (row t r))) (parts (row t r))

  -- word f of new row k, a copy of row r: its kind, then its fields
  unfoldable pub new_word : ℕ → ℕ → ℕ → ℤ
  new_word k r zero = word t r 0
  new_word k r (suc f) =
      get_or (renewed (renamed k) (part_places k r) 0 (fields (row t r)) (word t r 1 ∷ word t r 2 ∷ word t r 3 ∷ [])) f
      (pos 0)

  unfoldable pub new_table : List ℤ
  new_table = written new_word 0 (origins t)
