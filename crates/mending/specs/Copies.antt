-- 02, P7: "A mender writes a new table: from the last row down, parts left to right before their parent, a copy for
-- every use, unreachable rows dropped." The order, as a list of old rows; then how many they are, without unfolding.
-- In this order: what is gathered from parts; the old rows in the order of the new ones, and the size of a row; sizes
-- capped at one more than a table holds. Assumes nothing.
use Rattle.std.specs.Prelude.{ℕ, zero, suc, ◌+◌, ◌-◌, min, List, [], ◌∷◌, ◌++◌, ℤ, length, get_or}
use Rattle.script.specs.Rows.{Part, parts, rows, row}

-- ---- gathered from parts

-- "parts left to right": what C gives for each part
unfoldable pub each : (ℕ → List ℕ) → List Part → List ℕ
each C [] = []
each C (p ∷ ps) = C p.at ++ each C ps

-- the sum of what f gives for each part
unfoldable pub part_sum : (ℕ → ℕ) → List Part → ℕ
part_sum f [] = 0
part_sum f (p ∷ ps) = f p.at + part_sum f ps

-- ---- the order

module _ (t : List ℤ) where
  -- "parts left to right before their parent, a copy for every use": row r and the rows below it, each as often as it
  -- is used there, in the order in which their copies stand; the first number bounds the depth
  unfoldable pub copies : ℕ → ℕ → List ℕ
  copies zero r = []
  copies (suc n) r = each (copies n) (parts (row t r)) ++ (r ∷ [])

  -- "for each new row, the old row it came from"; "from the last row down", so "unreachable rows" do not occur
  unfoldable pub origins : List ℕ
  origins = copies (rows t) (rows t - 1)

  -- how many new rows one use of row r takes
  unfoldable pub size : ℕ → ℕ
  size r = length (copies (rows t) r)

-- ---- the same numbers without unfolding: one pass upward, in which every sum stops at 2,049

-- one more than the rows of the longest table: enough to tell when "the result passes 2,048 rows"
abbrev pub cap : ℕ
cap = 2049

module _ (t : List ℤ) where
  -- the capped size of row r, from those of the rows below it
  unfoldable pub capped_at : List ℕ → ℕ → ℕ
  capped_at sizes r = min cap (suc (part_sum (λ k. get_or sizes k 0) (parts (row t r))))

  -- the capped sizes of the n rows from r up, after those of the rows below r
  unfoldable pub capped_from : ℕ → ℕ → List ℕ → List ℕ
  capped_from zero r sizes = sizes
  capped_from (suc n) r sizes = capped_from n (suc r) (sizes ++ (capped_at sizes r ∷ []))

  -- the number of new rows, or 2,049 where they are more
  unfoldable pub capped_total : ℕ
  capped_total = get_or (capped_from (rows t) 0 []) (rows t - 1) 0
