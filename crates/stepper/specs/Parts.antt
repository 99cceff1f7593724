-- What is read of the statement that is due: its row from the number in its first word, and that its parts are where they are looked
-- for. Assumes nothing.
use Rattle.std.specs.Prelude.{ℕ, ◌+◌, ◌*◌, ◌-◌, ◌<◌, ◌≡◌, true, ◌&&◌, List, ltb, ℤ, length}
use Rattle.std.proofs.Math.Path.{refl}
use Rattle.std.proofs.Common.{arith as linear, ltb→lt}
use Rattle.std.proofs.Math.Dec.{T}
use Rattle.script.specs.declared.Sort.TheVariants.{Formula, Statement, Note, Script}
use Rattle.script.specs.declared.StatementRow.{StatementRow}
use Rattle.script.specs.declared.StatementRow.TheVariants.{Assign, If, While, Assert}
use Rattle.script.specs.declared.Row.{Row}
use Rattle.script.specs.Rows.{field_number, row_no, var_no, row_of, row, rows, word, sort_of, variables}
use Rattle.script.specs.Refusals.{verdict, accepted, same_sort}
use Rattle.theorems.specs.Accepted.{Accepted, passed, both}
use Rattle.theorems.specs.RowTrees.{below, lower₁, lower₂, lower₃}
use Rattle.stepping.specs.Places.{statement_inside}
use Rattle.stepper.specs.Kinds.{Numbered, of_number, row_numbered}

-- the number in the first word of row r is k
abbrev pub HasKind : List ℤ → ℕ → ℕ → Type 0
HasKind t r k = field_number (word t r 0) ≡ k

abbrev field : List ℤ → ℕ → ℕ → ℕ
field t r f = field_number (word t r f)

module _ (t : List ℤ) (r : ℕ) where
  pub assign_row : HasKind t r 33 → row t r ≡ Row.Statement (Assign (var_no (word t r 1)) (row_no (word t r 2)))
  unfolding row_of
  assign_row k = of_number t r refl 33 k

  pub if_row : HasKind t r 35 → row t r ≡ Row.Statement (If (row_no (word t r 1)) (row_no (word t r 2)) (row_no (word t r 3)))
  unfolding row_of
  if_row k = of_number t r refl 35 k

  pub while_row : HasKind t r 36 → row t r ≡ Row.Statement (While (row_no (word t r 1)) (row_no (word t r 2)) (row_no (word t r 3)))
  unfolding row_of
  while_row k = of_number t r refl 36 k

  pub assert_row : HasKind t r 38 → row t r ≡ Row.Statement (Assert (row_no (word t r 1)))
  unfolding row_of
  assert_row k = of_number t r refl 38 k

  -- a note and a script, by their sorts
  pub note_row : T (same_sort (sort_of (row t r)) Note) → row t r ≡ Row.Note (row_no (word t r 1)) (row_no (word t r 2))
  unfolding row_of
  note_row s = of_number t r refl 37 (by (row t r) (row_numbered t r refl) s)
    where
      by : (w : Row) → Numbered (field t r 0) w → T (same_sort (sort_of w) Note) → field t r 0 ≡ 37
      by (Row.Note i v) h k = h
      by (Row.Statement w) h k = absurd k
      by (Row.Expression w) h k = absurd k
      by (Row.Formula w) h k = absurd k
      by (Row.Script p x q) h k = absurd k
      by Row.Unknown h k = absurd k

  pub script_row : T (same_sort (sort_of (row t r)) Script) → row t r ≡ Row.Script (row_no (word t r 1)) (row_no (word t r 2)) (row_no (word t r 3))
  unfolding row_of
  script_row s = of_number t r refl 48 (by (row t r) (row_numbered t r refl) s)
    where
      by : (w : Row) → Numbered (field t r 0) w → T (same_sort (sort_of w) Script) → field t r 0 ≡ 48
      by (Row.Script p x q) h k = h
      by (Row.Note i v) h k = absurd k
      by (Row.Statement w) h k = absurd k
      by (Row.Expression w) h k = absurd k
      by (Row.Formula w) h k = absurd k
      by Row.Unknown h k = absurd k

-- the fields of row r are in the table
abbrev Read : List ℤ → ℕ → Type 0
Read t r = 4 * r + 3 < length t

pub record AssignParts (t : List ℤ) (r : ℕ) : Type 0 where
  pub read : Read t r
  pub variable : field t r 1 < variables
  pub value : field t r 2 < rows t

pub record AssertParts (t : List ℤ) (r : ℕ) : Type 0 where
  pub read : Read t r
  pub formula : field t r 1 < rows t

pub record IfParts (t : List ℤ) (r : ℕ) : Type 0 where
  pub read : Read t r
  pub guard : field t r 1 < rows t
  pub true_side : field t r 2 < 2048
  pub false_side : field t r 3 < 2048

pub record WhileParts (t : List ℤ) (r : ℕ) : Type 0 where
  pub read : Read t r
  pub here : r < 2048
  pub guard : field t r 1 < rows t
  pub body : field t r 3 < 2048
  pub note_read : Read t (field t r 2)
  pub note : row t (field t r 2) ≡ Row.Note (row_no (word t (field t r 2) 1)) (row_no (word t (field t r 2) 2))
  pub variant : field t (field t r 2) 2 < rows t

pub record ScriptParts (t : List ℤ) : Type 0 where
  pub filled : 0 < rows t
  pub read : Read t (rows t - 1)
  pub statement : field t (rows t - 1) 2 < 2048
  pub row_is : row t (rows t - 1)
      ≡ Row.Script (row_no (word t (rows t - 1) 1)) (row_no (word t (rows t - 1) 2)) (row_no (word t (rows t - 1) 3))

module _ (t : List ℤ) (v : verdict t ≡ accepted) where
  ok : Accepted t
  ok = passed t v

  inside : (r : ℕ) {w : StatementRow} → row t r ≡ Row.Statement w → r < rows t
  inside r e = statement_inside t ok r e

  read_at : (k : ℕ) → k < rows t → Read t k
  read_at k h = let f = ok.fours in omega linear

  pub assign_parts : (r : ℕ) → HasKind t r 33 → AssignParts t r
  assign_parts r k =
      let e = assign_row t r k in
      let i = inside r e in
      let l = lower₁ (field t r 2) r (below t ok r i e) in
      let g = rw e at (ok.ranged r i) in
      record { read = read_at r i; variable = ltb→lt (field t r 1) variables (both (ltb (field t r 1) variables) true g).0; value = omega linear }

  pub assert_parts : (r : ℕ) → HasKind t r 38 → AssertParts t r
  assert_parts r k =
      let e = assert_row t r k in
      let i = inside r e in
      let l = lower₁ (field t r 1) r (below t ok r i e) in
      record { read = read_at r i; formula = omega linear }

  pub if_parts : (r : ℕ) → HasKind t r 35 → IfParts t r
  if_parts r k =
      let e = if_row t r k in
      let i = inside r e in
      let l = lower₃ (field t r 1) (field t r 2) (field t r 3) r (below t ok r i e) in
      let s = ok.short in
      record { read = read_at r i; guard = omega linear; true_side = omega linear; false_side = omega linear }

  pub while_parts : (r : ℕ) → HasKind t r 36 → WhileParts t r
  while_parts r k =
      let e = while_row t r k in
      let i = inside r e in
      let l = lower₃ (field t r 1) (field t r 2) (field t r 3) r (below t ok r i e) in
      let s = ok.short in
      let sorts = rw e at (ok.sorted r i) in
      let n = note_row t (field t r 2) (note_sort sorts) in
      let j : field t r 2 < rows t = omega linear in
      let m = lower₂ (field t (field t r 2) 1) (field t (field t r 2) 2) (field t r 2) (below t ok (field t r 2) j n) in
      record {
        read = read_at r i;
        here = omega linear;
        guard = omega linear;
        body = omega linear;
        note_read = read_at (field t r 2) j;
        note = n;
        variant = omega linear;
      }
    where
      note_sort : T (same_sort (sort_of (row t (field t r 1))) Formula
          && (same_sort (sort_of (row t (field t r 2))) Note && (same_sort (sort_of (row t (field t r 3))) Statement && true)))
          → T (same_sort (sort_of (row t (field t r 2))) Note)
      note_sort g =
          (both (same_sort (sort_of (row t (field t r 2))) Note) _
          (both (same_sort (sort_of (row t (field t r 1))) Formula) _ g).1).0

  -- the statement of the script, which is the last row
  pub script_parts : ScriptParts t
  script_parts =
      let f = ok.filled in
      let e = script_row t (rows t - 1) ok.script in
      let l = lower₃ (field t (rows t - 1) 1) (field t (rows t - 1) 2) (field t (rows t - 1) 3) (rows t - 1) (below t ok (rows t - 1) (omega linear) e) in
      let s = ok.short in
      record { filled = f; read = read_at (rows t - 1) (omega linear); statement = omega linear; row_is = e }
