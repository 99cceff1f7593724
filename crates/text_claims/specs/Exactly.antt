-- `read_exactly`: every text gets the answer whose occasion arises, and no other (`Occasions`).
-- Argument: the tests of `outcome` are gone through in their order, and each answer comes with its occasion (`told`);
-- an occasion settles the tests in turn (`long_told` to `full_told`). Assumes nothing.
use Rattle.std.specs.Prelude.{ℕ, ◌*◌, ◌≤◌, ◌<◌, ◌≡◌, List, [], Bool, cond, ◌&&◌, eqb, leb, ℤ, length}
use Rattle.std.proofs.Math.Path.{refl, subst}
use Rattle.std.proofs.Common.{sym, ap, ◌∙◌, lit≤, leb-true, leb-false, le-leb}
use Rattle.std.proofs.Math.Option.{Option, none, some}
use Rattle.std.proofs.Math.Bool.{true, false}
use Rattle.std.proofs.lemmas.Bool.{lt-leb}
use Rattle.grammar.specs.Grammar.{Phrase}
use Rattle.grammar.specs.States.{after, at, start}
use Rattle.grammar.specs.Counts.{size}
use Rattle.grammar.specs.Meaning.{text_table}
use Rattle.grammar.specs.Tests.{false_is_not}
use Rattle.grammar.specs.Reader.{read}
use Rattle.grammar.specs.TextRead.{text_read}
use Rattle.grammar.specs.TextSound.{read_text}
use Rattle.grammar.specs.Scanning.{Lexeme, tokens_of, Scanned, no_token, lexemes, scan}
use Rattle.grammar.specs.Outcome.{stuck}
use Rattle.grammar.specs.CoversOnce.{stops_exactly}
use Rattle.grammar.specs.Ranges.{All}
use Rattle.grammar.specs.InRange.{text_flags}
use Rattle.grammar.specs.Outcome.{Outcome, refused, given, out_of_range, has_room, range_out, stuck_out, scanned_out, outcome}
use Rattle.grammar.specs.Given.{gives_table, read_to_end}
use Rattle.text_claims.specs.Reading.{Reading, InRange, Fits, Read, scan_of}
use Rattle.text_claims.specs.Ranges.{out_exactly, none_out}
use Rattle.text_claims.specs.Stuck.{stuck_iff, derived_not_stuck}
use Rattle.text_claims.specs.Occasions.{NoTokenAt, NoTextAt, OutOfRangeAt, NoRoom, ReadExactly}

-- ---- room

module _ (room : ℕ) (x : Phrase) where
  fits_tested : Fits room x → has_room room (size x) ≡ true
  fits_tested h = rw (le-leb _ room h.0, le-leb (size x) 2048 h.1)

  tested_fits : has_room room (size x) ≡ true → Fits room x
  tested_fits e = at_tests (leb (4 * size x) room) refl (leb (size x) 2048) refl e
    where
      at_tests : (a : Bool) → leb (4 * size x) room ≡ a → (b : Bool) → leb (size x) 2048 ≡ b
          → (a && b) ≡ true → Fits room x
      at_tests true h true k q = (leb-true _ room h, leb-true (size x) 2048 k)
      at_tests true h false k q = false_is_not q
      at_tests false h b k q = false_is_not q

-- ---- from an occasion to the answer

module _ (room : ℕ) (bytes : List ℕ) where
  long_told : 32768 < length bytes → outcome room bytes ≡ refused 44 0
  unfolding outcome
  long_told h = rw (lt-leb (length bytes) 32768 h)

  no_token_told : (p : ℕ) → NoTokenAt bytes p → outcome room bytes ≡ refused 40 p
  unfolding outcome
  no_token_told p h = rw (le-leb (length bytes) 32768 h.short, (stops_exactly bytes p).1 h.stopped)

  no_text_told : (p : ℕ) → NoTextAt bytes p → outcome room bytes ≡ refused 41 p
  unfolding outcome
  no_text_told p h = rw (le-leb (length bytes) 32768 h.short, (scan_of bytes h.found).0 h.covered, (stuck_iff h.found p).1 h.stuck_at)

  out_told : (p : ℕ) → OutOfRangeAt bytes p → outcome room bytes ≡ refused 42 p
  unfolding outcome
  out_told p h =
      let r = h.reading in
      let x = h.of in
      let free = derived_not_stuck x r.found r.spells in
      rw (le-leb (length bytes) 32768 h.short, (scan_of bytes r.found).0 r.covered, free, (out_exactly x r.found r.spells p).1 h.first)

  full_told : NoRoom room bytes → outcome room bytes ≡ refused 43 0
  unfolding outcome
  full_told h =
      let r = h.reading in
      let x = h.of in
      let free = derived_not_stuck x r.found r.spells in
      let within = (none_out x r.found r.spells).1 h.in_range in
      let whole = text_read x (tokens_of r.found) r.spells in
      rw (le-leb (length bytes) 32768 h.short, (scan_of bytes r.found).0 r.covered, free, within, whole, not_room (has_room room (size x)) refl)
    where
      not_room : (k : Bool) → has_room room (size h.of) ≡ k → k ≡ false
      not_room true e = absurd (h.full (tested_fits room h.of e))
      not_room false e = refl

  read_told : (table : List ℤ) → Read room bytes table → outcome room bytes ≡ given table
  read_told table h =
      let r = h.reading in
      let x = h.of in
      gives_table room bytes x (record {
        short = le-leb (length bytes) 32768 h.short;
        found = r.found;
        scanned = (scan_of bytes r.found).0 r.covered;
        spells = r.spells;
        ranges = subst All (text_flags x (tokens_of r.found) r.spells) h.in_range;
        room_for = fits_tested room x h.fits;
      }) ∙ ap given (sym h.table_of)

-- ---- from the answer to its occasion

abbrev choice : Bool → Type 0 → Type 0 → Type 0
choice true A B = A
choice false A B = B

module _ (room : ℕ) (bytes : List ℕ) where
  -- the occasion of an answer
  abbrev Occasion : Outcome → Type 0
  Occasion (given table) = Read room bytes table
  Occasion (refused n p) =
      ((40 ≤ n) × (n ≤ 44))
      × choice (eqb n 44) ((p ≡ 0) × (32768 < length bytes))
      (choice (eqb n 40) (NoTokenAt bytes p)
      (choice (eqb n 41) (NoTextAt bytes p)
      (choice (eqb n 42) (OutOfRangeAt bytes p)
      (choice (eqb n 43) ((p ≡ 0) × NoRoom room bytes) ⊥))))

  module _ (short : length bytes ≤ 32768) where
    at_room : (x : Phrase) → Reading bytes x → InRange x → (k : Bool) → has_room room (size x) ≡ k
        → Occasion (cond k (given (text_table x)) (refused 43 0))
    at_room x r h true e =
        record { short = short; of = x; reading = r; in_range = h; fits = tested_fits room x e; table_of = refl }
    at_room x r h false e = let not_fits : ¬ Fits room x = λ f. false_is_not (sym e ∙ fits_tested room x f) in (
      (lit≤ tt, lit≤ tt),
      (refl, record { short = short; of = x; reading = r; in_range = h; full = not_fits }),
    )

    module _ (ls : List Lexeme) (scanned : scan bytes ≡ lexemes ls) where
      at_range : (x : Phrase) → read start (tokens_of ls) ≡ some (at (after x) [])
          → (o : Option ℕ) → out_of_range start ls ≡ o → Occasion (range_out room ls o)
      at_range x e (some p) h =
          let spells = read_text x (tokens_of ls) e in
          let r : Reading bytes x = record { found = ls; covered = (scan_of bytes ls).1 scanned; spells = spells } in
          ((lit≤ tt, lit≤ tt), record { short = short; of = x; reading = r; first = (out_exactly x ls spells p).0 h })
      at_range x e none h =
          let spells = read_text x (tokens_of ls) e in
          let r : Reading bytes x = record { found = ls; covered = (scan_of bytes ls).1 scanned; spells = spells } in
          rw e (at_room x r ((none_out x ls spells).0 h) (has_room room (size x)) refl)

      at_stuck : (o : Option ℕ) → stuck start ls ≡ o → Occasion (stuck_out room ls o)
      at_stuck (some p) h =
          ((lit≤ tt, lit≤ tt), record { short = short; found = ls; covered = (scan_of bytes ls).1 scanned; stuck_at = (stuck_iff ls p).0 h })
      at_stuck none h = let w = read_to_end bytes ls scanned h in at_range w.0 w.1 (out_of_range start ls) refl

    at_scan : (o : Scanned) → scan bytes ≡ o → Occasion (scanned_out room o)
    at_scan (no_token p) h = ((lit≤ tt, lit≤ tt), record { short = short; stopped = (stops_exactly bytes p).0 h })
    at_scan (lexemes ls) h = at_stuck ls h (stuck start ls) refl

  at_length : (k : Bool) → leb (length bytes) 32768 ≡ k
      → Occasion (cond k (scanned_out room (scan bytes)) (refused 44 0))
  at_length true h = at_scan (leb-true (length bytes) 32768 h) (scan bytes) refl
  at_length false h = ((lit≤ tt, lit≤ tt), (refl, leb-false (length bytes) 32768 h))

  told : (o : Outcome) → outcome room bytes ≡ o → Occasion o
  unfolding outcome
  told o e = subst Occasion e (at_length (leb (length bytes) 32768) refl)

  pub read_exactly : ReadExactly room bytes
  read_exactly = record {
    read = λ table. (told (given table), read_told room bytes table);
    too_long = λ p. (λ e. (told (refused 44 p) e).1, λ h. long_told room bytes h.1 ∙ ap (refused 44) (sym h.0));
    no_token_at = λ p. (λ e. (told (refused 40 p) e).1, no_token_told room bytes p);
    no_text_at = λ p. (λ e. (told (refused 41 p) e).1, no_text_told room bytes p);
    out_of_range_at = λ p. (λ e. (told (refused 42 p) e).1, out_told room bytes p);
    no_room = λ p. (λ e. (told (refused 43 p) e).1, λ h. full_told room bytes h.1 ∙ ap (refused 43) (sym h.0));
    no_other = λ n p e. (told (refused n p) e).0;
  }
