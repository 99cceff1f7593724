-- What a table has that passed 1 to 5 (`Checked`), and what that says of the kind and the links of a row. Assumes nothing.
use Rattle.std.specs.Prelude.{ℕ, ◌+◌, ◌*◌, ◌<◌, ◌≡◌, List, [], T, ℤ, length, get_or}
use Rattle.std.proofs.Common.{sym, ap, ◌∙◌, arith as linear, lt-ltb, ltb→lt}
use Rattle.std.proofs.Math.Decide.{dec_lt}
use Rattle.script.specs.declared.Sort.TheVariants.{Unknown}
use Rattle.script.specs.Laws.{row_is}
use Rattle.script.specs.Rows.{field_number, fields, row, row_of, rows, sort_of, word}
use Rattle.script.specs.Refusals.{in_range}
use Rattle.theorems.specs.Accepted.{both}
use Rattle.rows.specs.Patterns.{Asked, by_kind, below, cell, limited, pattern, patterns, unlisted}
use Rattle.rows.specs.States.{Sized, in_table}
use Rattle.mending.specs.Falling.{Falls}

-- the letter of field i of a kind, whose letters stand from `of` on
abbrev pub letter_at : ℕ → ℕ → ℕ
letter_at of i = get_or patterns (of + i) 0

-- field i of row r, and its letter, can be read
pub record FieldAt (t : List ℤ) (ks : List ℕ) (r of i : ℕ) : Type 0 where
  pub row : 4 * r + 3 < length t
  pub letters : ks ≡ patterns
  pub kind : of + 3 < 196
  pub field : i < 4

pub record Checked (t : List ℤ) : Type 0 where
  pub size : Sized t
  pub known : (r : ℕ) → r < rows t → sort_of (row t r) ≡ Unknown → ⊥
  pub ranged : (r : ℕ) → r < rows t → T (in_range t (fields (row t r)))
  pub falls : Falls t

module _ {t : List ℤ} (ok : Checked t) {r n : ℕ} (h : r < rows t) (k : n ≡ field_number (word t r 0)) where
  pub listed_kind : n < 49
  listed_kind = go (dec_lt n 49)
    where
      go : Dec (n < 49) → n < 49
      go (yes l) = l
      go (no d) =
          let l : 48 < field_number (word t r 0) = omega linear in
          let u = sym (row_is t r) ∙ unlisted (field_number (word t r 0)) (word t r 1) (word t r 2) (word t r 3) l in
          absurd (ok.known r h (ap sort_of u))

  pub field_at : {ks : List ℕ} (i : ℕ) → ks ≡ patterns → i < 4 → FieldAt t ks r (4 * n) i
  field_at i e l = record { row = in_table ok.size h; letters = e; kind = (let d = listed_kind in omega linear); field = l }

  -- where a letter is that of a link, the row is lower
  abbrev Low : ℕ → Type 0
  Low i = pattern n i < 95 → field_number (word t r i) < r

  low : (x a : ℕ) → T (below r (cell x a)) → x < 95 → a < r
  low x a b l = ltb→lt a r (rw (lt-ltb x 95 l) at b)

  pub links_low : Low 1 × (Low 2 × Low 3)
  links_low =
      let is : row_of n (word t r 1) (word t r 2) (word t r 3) ≡ row t r = rw k (row_is t r) in
      let rule = rw is at (by_kind t r [] n (word t r 1) (word t r 2) (word t r 3) listed_kind) in
      let all = rw (ap (λ (q : Asked t r []). q.lower) rule) at (ok.falls r h) in
      let p = both (below r (cell (pattern n 1) (field_number (word t r 1)))) _ all in
      let q = both (below r (cell (pattern n 2) (field_number (word t r 2)))) _ p.1 in
      let s = both (below r (cell (pattern n 3) (field_number (word t r 3)))) _ q.1 in
      (low (pattern n 1) _ p.0, (low (pattern n 2) _ q.0, low (pattern n 3) _ s.0))

  -- where a letter is that of a mark, its loop is a row of the table
  abbrev KnownLoop : ℕ → Type 0
  KnownLoop i = pattern n i ≡ 108 → field_number (word t r i) < rows t

  loop_in : (x a : ℕ) → T (limited (rows t) (cell x a)) → x ≡ 108 → a < rows t
  loop_in x a b e = ltb→lt a (rows t) (rw e at b)

  pub loops_in : KnownLoop 1 × (KnownLoop 2 × KnownLoop 3)
  loops_in =
      let is : row_of n (word t r 1) (word t r 2) (word t r 3) ≡ row t r = rw k (row_is t r) in
      let rule = rw is at (by_kind t r [] n (word t r 1) (word t r 2) (word t r 3) listed_kind) in
      let all = rw (ap (λ (q : Asked t r []). q.ranges) rule) at (ok.ranged r h) in
      let p = both (limited (rows t) (cell (pattern n 1) (field_number (word t r 1)))) _ all in
      let q = both (limited (rows t) (cell (pattern n 2) (field_number (word t r 2)))) _ p.1 in
      let s = both (limited (rows t) (cell (pattern n 3) (field_number (word t r 3)))) _ q.1 in
      (loop_in (pattern n 1) _ p.0, (loop_in (pattern n 2) _ q.0, loop_in (pattern n 3) _ s.0))

  pub mark_in : n ≡ 9 → field_number (word t r 1) < rows t
  unfolding patterns
  mark_in e = loops_in.0 (rw e)
