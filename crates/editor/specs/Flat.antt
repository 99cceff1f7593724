-- The words of a run of row records, four to a row, and the copy of them into a table. Assumes nothing.
use Rattle.std.specs.Prelude.{ℕ, zero, suc, ◌+◌, ◌*◌, ◌≡◌, refl, List, [], ◌∷◌, Bool, cond, leb, ℤ, pos, get_or, set}
use Rattle.editor.specs.declared.Record.{Record}

abbrev pub none : Record
none = record { kind = pos 0; first = pos 0; second = pos 0; third = pos 0 }

-- "four words to a row"
abbrev pub flat : List Record → List ℤ
flat [] = []
flat (r ∷ rs) = r.kind ∷ r.first ∷ r.second ∷ r.third ∷ flat rs

abbrev pub put_row : List ℤ → ℕ → Record → List ℤ
put_row t i r = set (set (set (set t (4 * i) r.kind) (4 * i + 1) r.first) (4 * i + 2) r.second) (4 * i + 3) r.third

abbrev pub copy_first : List Record → ℕ → List ℤ → List ℤ
copy_first rs zero t = t
copy_first rs (suc i) t = copy_first rs i (put_row t i (get_or rs i none))

-- the records that a table of 8,192 words has room for: all of at most 2,048, and else none
abbrev pub few : ℕ → Bool
few n = leb n 2048

abbrev pub rows_copied : ℕ → ℕ
rows_copied n = cond (few n) n 0

-- ---- computed: one record's words in order, and 2,048 records copied, 2,049 not

one_record : flat (record { kind = pos 37; first = pos 8; second = pos 9; third = pos 0 } ∷ []) ≡ pos 37 ∷ pos 8 ∷ pos 9 ∷ pos 0 ∷ []
one_record = refl

at_the_limit : (rows_copied 2048 ≡ 2048) × (rows_copied 2049 ≡ 0)
at_the_limit = (refl, refl)
