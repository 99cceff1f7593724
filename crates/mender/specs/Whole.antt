-- The whole answer: each way out of the entry is the outcome that `Mended.mended` defines (`told_refused`, `told_mended`).
-- Assumes nothing.
use Rattle.std.specs.Prelude.{ℕ, ◌*◌, ◌-◌, ◌≤◌, ◌<◌, ◌≡◌, Bool, true, false, cond, ltb, ℤ, length, get_or, Option, Some, None, Result, Ok, Err}
use Rattle.std.proofs.Math.Path.{refl, ap}
use Rattle.std.proofs.Common.{sym, subst, ◌∙◌, arith as linear}
use mathlib.Core.List.{List, ◌++◌, map}
use borrow.Author.Tests.{lt-ltb, le-ltb}
use Rattle.std.proofs.Math.IntN.{pos}
use Rattle.script.specs.Generated.{zeros}
use Rattle.script.specs.Rows.{rows}
use Rattle.script.specs.Refusals.{Verdict, accepted, refused, ◌and_then◌, bad_length, length_test, script_test}
use Rattle.theorems.specs.Accepted.{both_accept, clash, pass_false}
use Rattle.table.specs.Check.{sized}
use Rattle.mending.specs.Copies.{origins, capped_total}
use Rattle.mending.specs.NewTable.{new_table}
use Rattle.mending.specs.Reached.{reached_rows}
use Rattle.mending.specs.Mended.{Mended, mend_verdict, mended, mark_test, part_test, size_test, too_long}
use Rattle.mending.specs.Mendable.{Mendable, Fits, mendable, fits}
use Rattle.mending.specs.Capped.{capped_exact}
use Rattle.mending.specs.Counts.{among_length, reached_are}
use Rattle.script.specs.declared.RowNumber.{RowNumber}
use Rattle.mender.specs.declared.Counts.{Counts}
use Rattle.mender.specs.declared.Unmendable.{Unmendable}
use Rattle.mender.specs.Answers.{number, row, number_of, row_of, words_of, dropped_of, copied_of}
use Rattle.mender.specs.Checked.{Checked}
use Rattle.mender.specs.Reaching.{ReachTold}
use Rattle.mender.specs.Parts.{checked_of}
use Rattle.mender.specs.Sizing.{Sizings, total_at}
use Rattle.mender.specs.TableWritten.{TableReady}

-- a run of zeros
abbrev pub Cleared : List ℤ → Type 0
Cleared ws = ws ≡ zeros (length ws)

-- the answer and both runs are those of the outcome
pub record Told (m : Mended) (a : Result Counts Unmendable) (new os : List ℤ) : Type 0 where
  pub number : number_of a ≡ m.number
  pub row : row_of a ≡ m.row
  pub words : words_of a ≡ m.words
  pub dropped : dropped_of a ≡ m.dropped
  pub copied : copied_of a ≡ m.copied
  pub table : new ≡ m.table
  pub run : os ≡ m.origins

pub told_as : (t : List ℤ) {a a' b b' : ℕ} {r : Result Counts Unmendable} {new os : List ℤ} → a ≡ a' → b ≡ b'
    → Told (mended t a b) r new os → Told (mended t a' b') r new os
told_as t {a} {a'} {b} {b'} {r} {new} {os} ea eb T =
    subst (λ (n : ℕ). Told (mended t n b') r new os) ea (subst (λ (n : ℕ). Told (mended t a n) r new os) eb T)

-- clause by clause
pub clauses : {m : Mended} {a : Result Counts Unmendable} {new os : List ℤ} → Told m a new os
    → (number_of a ≡ m.number) × ((row_of a ≡ m.row) × ((words_of a ≡ m.words) × ((dropped_of a ≡ m.dropped)
    × ((copied_of a ≡ m.copied) × ((new ≡ m.table) × (os ≡ m.origins))))))
clauses T = (T.number, (T.row, (T.words, (T.dropped, (T.copied, (T.table, T.run))))))

-- a table that passes the tests before 14, and how many rows its script reaches
pub record Counting (t : List ℤ) (count : ℕ) : Type 0 where
  pub checked : Checked t
  pub passed : (a b : ℕ) → mend_verdict t a b ≡ size_test t a b
  pub counted : count ≡ reached_rows t
  pub few : count ≤ rows t

-- ---- ways out

pub told_refused : (t : List ℤ) {new os : List ℤ} (table_room origins_room : ℕ) (e : Unmendable)
    → mend_verdict t table_room origins_room ≡ refused (number e) (row e)
    → new ≡ zeros table_room → os ≡ zeros origins_room → Told (mended t table_room origins_room) (Err e) new os
unfolding mended
told_refused t table_room origins_room e v en eo =
    rw (v, mended) (record { number = refl; row = refl; words = refl; dropped = refl; copied = refl; table = en; run = eo })

module _ {t : List ℤ} {count n : ℕ} {s : List ℕ} {new os : List ℤ} (C : Counting t count) (z : Sizings t (rows t) s)
    (e : n ≡ get_or s (rows t - 1) 0) (cn : Cleared new) (co : Cleared os) where
  counted_is : n ≡ capped_total t
  counted_is = e ∙ total_at C.checked z

  verdict_is : {b : Bool} → b ≡ too_long (length new) (length os) n
      → mend_verdict t (length new) (length os) ≡ cond b (refused 14 0) accepted
  unfolding size_test
  verdict_is {b} d = C.passed (length new) (length os) ∙ rw (← counted_is, ← d)

  pub told_too_long : true ≡ too_long (length new) (length os) n → Told (mended t (length new) (length os)) (Err Unmendable.TooLong) new os
  told_too_long d = told_refused t (length new) (length os) Unmendable.TooLong (verdict_is d) cn co

  module _ (d : false ≡ too_long (length new) (length os) n) where
    ok : Mendable t
    ok = mendable t (length new) (length os) (verdict_is d)

    held : Fits t (length new) (length os) (verdict_is d)
    held = fits t (length new) (length os) (verdict_is d)

    total : n ≡ length (origins t)
    total = omega (linear, counted_is, capped_exact t C.checked.falls C.checked.size.filled, held.few)

    pub table_ready : TableReady t s n new os
    table_ready = record {
      checked = C.checked;
      mendable = ok;
      sizes = z;
      counted = total;
      table_held = let a = total in let b = held.table in omega linear;
      origins_held = let a = total in let b = held.run in omega linear;
      table_cleared = cn;
      origins_cleared = co;
    }

    -- no more rows are reached than written
    pub enough : (count ≤ n) × (n ≤ 2048)
    enough =
        let a = total in
        let b = reached_are t ok in
        let c = among_length (rows t) (origins t) in
        let f = C.counted in
        let g = held.few in
        (omega linear, omega linear)

    pub told_mended : {m : ℕ} {new' os' : List ℤ} → m ≡ rows t → new' ≡ new_table t ++ zeros (length new - 4 * n)
        → os' ≡ map pos (origins t) ++ zeros (length os - n)
        → Told (mended t (length new) (length os))
        (Ok (record { words = 4 * n; dropped = m - count; copied = n - count })) new' os'
    unfolding mended
    told_mended em en eo =
        rw (verdict_is d, mended) (record {
          number = refl;
          row = refl;
          words = ap (λ (k : ℕ). 4 * k) total;
          dropped = rw (em, C.counted);
          copied = rw (total, C.counted);
          table = en ∙ ap (λ (k : ℕ). new_table t ++ zeros (length new - 4 * k)) total;
          run = eo ∙ ap (λ (k : ℕ). map pos (origins t) ++ zeros (length os - k)) total;
        })

pub total_small : {t : List ℤ} {s : List ℕ} → Checked t → Sizings t (rows t) s → get_or s (rows t - 1) 0 ≤ 2049
total_small {t} ok z =
    let f = ok.size.filled in
    let e = z.at (rows t - 1) (omega linear) in
    omega linear

-- ---- 14

module _ (words places n : ℕ) where
  pub told_many : 2048 < n → true ≡ too_long words places n
  unfolding too_long
  told_many h = rw (lt-ltb 2048 n h)

  pub told_words : n ≤ 2048 → words < 4 * n → true ≡ too_long words places n
  unfolding too_long
  told_words h i = rw (le-ltb 2048 n h, lt-ltb words (4 * n) i)

  pub told_places : n ≤ 2048 → 4 * n ≤ words → ltb places n ≡ too_long words places n
  unfolding too_long
  told_places h i = rw (le-ltb 2048 n h, le-ltb words (4 * n) i)

-- ---- 1 to 5 and 7

module _ (t : List ℤ) where
  pub told_length : bad_length (length t) ≡ true → refused 1 0 ≡ length_test t and_then part_test t and_then script_test t
  unfolding length_test
  told_length e = rw e

  module _ (e : bad_length (length t) ≡ false) where
    pub told_part : {n r : ℕ} → part_test t ≡ refused n r → refused n r ≡ length_test t and_then part_test t and_then script_test t
    unfolding length_test
    told_part p = rw (e, p)

    pub told_script : {v : Verdict} → part_test t ≡ accepted → v ≡ script_test t → v ≡ length_test t and_then part_test t and_then script_test t
    unfolding length_test
    told_script p s = rw (e, p) s

-- ---- the tests before 14

pub record Passed (t : List ℤ) : Type 0 where
  pub length : length_test t ≡ accepted
  pub part : part_test t ≡ accepted
  pub script : script_test t ≡ accepted

module _ (t : List ℤ) where
  pub all_passed : length_test t and_then part_test t and_then script_test t ≡ accepted → Passed t
  all_passed e =
      let a = both_accept (length_test t) _ e in
      let b = both_accept (part_test t) _ a.1 in
      record { length = a.0; part = b.0; script = b.1 }

  pub passed_checked : Passed t → Checked t
  unfolding length_test
  passed_checked p = checked_of (sized t refl (pass_false (bad_length (length t)) 1 0 p.length)) p.part

  -- the first that refuses
  pub first_refused : {n r : ℕ} (a b : ℕ) → length_test t and_then part_test t and_then script_test t ≡ refused n r → mend_verdict t a b ≡ refused n r
  unfolding mend_verdict
  first_refused a b e = go (length_test t) (part_test t) (script_test t) (mark_test t and_then size_test t a b) e
    where
      go : {n r : ℕ} (u v w x : Verdict) → u and_then v and_then w ≡ refused n r → u and_then v and_then w and_then x ≡ refused n r
      go accepted accepted accepted x h = clash (sym h)
      go accepted accepted (refused m q) x h = h
      go accepted (refused m q) w x h = h
      go (refused m q) v w x h = h

  module _ (p : Passed t) {count : ℕ} (mark : Option RowNumber) (R : ReachTold t count mark) where
    pub marks_refused : {r : RowNumber} → mark ≡ Some r → (a b : ℕ) → mend_verdict t a b ≡ refused 13 r.0
    unfolding mend_verdict
    marks_refused h a b = rw (p.length, p.part, p.script, R.tested, h)

    pub counting : mark ≡ None → Counting t count
    unfolding mend_verdict
    counting h = record {
      checked = passed_checked p;
      passed = λ a b. rw (p.length, p.part, p.script, R.tested, h);
      counted = R.counted;
      few = R.few;
    }
