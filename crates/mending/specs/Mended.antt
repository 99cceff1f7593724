-- 02, P7: the mender of "old editor tables with shared parts": what it answers, and what it leaves in the two lent
-- buffers.
-- In this order: the tests of one row; the tests of a table, and the verdict; the outcome. The order of the new rows is
-- in `Copies`, their words in `NewTable`, what the script reaches in `Reached`. Assumes nothing.
use Rattle.std.specs.Prelude.{ℕ, ◌*◌, ◌-◌, List, ◌++◌, map, Bool, cond, ◌||◌, ℤ, pos, eqb, ltb, length}
use Rattle.script.specs.Rows.{rows, row}
use Rattle.script.specs.Refusals.{Verdict, accepted, refused, ◌and_then◌, lowest, row_fault, length_test, script_test}
use Rattle.script.specs.Generated.{zeros}
use Rattle.mending.specs.Copies.{origins, capped_total}
use Rattle.mending.specs.NewTable.{new_table}
use Rattle.mending.specs.Reached.{reached_rows, escapes}

module _ (t : List ℤ) where
  -- ---- the tests of one row

  -- "1 to 5 come as in document 01": the first fault of row r there, unless that is 6, which is the last in a row and
  -- is none here: "two rows may link to one"
  unfoldable pub part_fault : ℕ → ℕ
  part_fault r = cond (eqb (row_fault t r) 6) 0 (row_fault t r)

  -- 13, "when some use of a mark that the script reaches is not inside the body of its loop"
  unfoldable pub mark_fault : ℕ → ℕ
  mark_fault r = cond (escapes t r (row t r)) 13 0

  -- ---- the tests of a table

  unfoldable pub part_test : Verdict
  part_test = lowest part_fault (rows t) 0

  -- 13, "with the lowest such old row"
  unfoldable pub mark_test : Verdict
  mark_test = lowest mark_fault (rows t) 0

-- "when the result passes 2,048 rows or either buffer", where it has n rows: the lengths are those of the buffer for
-- the new table, four words a row, and of the run of old rows, one word a row
unfoldable pub too_long : ℕ → ℕ → ℕ → Bool
too_long table_room origins_room n = ltb 2048 n || (ltb table_room (4 * n) || ltb origins_room n)

module _ (t : List ℤ) (table_room origins_room : ℕ) where
  -- "and last 14"
  unfoldable pub size_test : Verdict
  size_test = cond (too_long table_room origins_room (capped_total t)) (refused 14 0) accepted

  -- "1 to 5 come as in document 01, then 7 only for a last row that is no script, 13 ..., and last 14"
  unfoldable pub mend_verdict : Verdict
  mend_verdict = length_test t and_then part_test t and_then script_test t and_then mark_test t and_then size_test

-- ---- the outcome

pub record Mended : Type 0 where
  pub number : ℕ
  pub row : ℕ
  -- words of the new table
  pub words : ℕ
  -- "the answer counts rows dropped and rows copied again"
  pub dropped : ℕ
  pub copied : ℕ
  -- all words of both buffers
  pub table : List ℤ
  pub origins : List ℤ

-- 01: "refusing, it leaves zeros in all it writes and gives zeros for counts and any row not named"
abbrev pub refuse : ℕ → ℕ → ℕ → ℕ → Mended
refuse n r table_room origins_room = record {
  number = n;
  row = r;
  words = 0;
  dropped = 0;
  copied = 0;
  table = zeros table_room;
  origins = zeros origins_room;
}

-- "rows dropped and rows copied again (new rows less old ones reached)"; "A lent run says, for each new row, the old
-- row it came from". 01: "it gives 0 and the words or bytes used, with zeros after them"
abbrev pub mend : List ℤ → ℕ → ℕ → Mended
mend t table_room origins_room = record {
  number = 0;
  row = 0;
  words = 4 * length (origins t);
  dropped = rows t - reached_rows t;
  copied = length (origins t) - reached_rows t;
  table = new_table t ++ zeros (table_room - 4 * length (origins t));
  origins = map pos (origins t) ++ zeros (origins_room - length (origins t));
}

unfoldable pub mended : List ℤ → ℕ → ℕ → Mended
mended t table_room origins_room =
    elim (mend_verdict t table_room origins_room) [
      | refused n r ↦ refuse n r table_room origins_room
      | accepted ↦ mend t table_room origins_room
    ]
