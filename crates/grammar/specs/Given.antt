-- A text gives a table exactly where its tokens have a derivation, its numbers are in range and the rows have room
-- (`gives_table`, `table_given`); one that is stuck nowhere is read to its end (`read_to_end`). Assumes nothing.
use Rattle.std.specs.Prelude.{ℕ, ◌≡◌, refl, List, [], ◌∷◌, ◌++◌, Bool, true, false, cond, ℤ, leb, length}
use Rattle.std.proofs.Common.{sym, ap, ◌∙◌, subst}
use Rattle.std.proofs.Math.Option.{Option, none, some}
use Rattle.script.specs.Listing.{◌>>=◌}
use Rattle.theorems.specs.Options.{none_is_not}
use Rattle.grammar.specs.Scanning.{Lexeme, tokens_of, Scanned, no_token, lexemes, scan}
use Rattle.grammar.specs.Grammar.{Phrase}
use Rattle.grammar.specs.Text.{Spells}
use Rattle.grammar.specs.Counts.{size}
use Rattle.grammar.specs.Meaning.{text_table}
use Rattle.grammar.specs.States.{Frame, Mode, operand, after, due, State, at, start}
use Rattle.grammar.specs.Reader.{take, read}
use Rattle.grammar.specs.Ranges.{flag, onward, read_flags, All, all_of}
use Rattle.grammar.specs.Outcome.{Outcome, refused, given, out_after, out_of_range, has_room, phrase_out, read_out, range_out, stuck_out, scanned_out, outcome, or_at, stuck}
use Rattle.grammar.specs.TextSound.{read_text}
use Rattle.grammar.specs.TextRead.{text_read}
use Rattle.grammar.specs.Stops.{ended}
use Rattle.grammar.specs.Scans.{scan_ends}
use Rattle.grammar.specs.Places.{not_stuck}
use Rattle.grammar.specs.AllLaws.{all_parts, all_join, all_true, true_all}

-- ---- in range, both ways

in_range : (ls : List Lexeme) (s : State) → out_of_range s ls ≡ none → All (read_flags s (tokens_of ls))
unfolding out_of_range read_flags
in_range [] s e = tt
in_range (l ∷ ls) s e = at_test (all_of (flag s.mode s.stack l.token)) refl (take s l.token) (λ r d. in_range ls r d) e
  where
    at_test : (k : Bool) → all_of (flag s.mode s.stack l.token) ≡ k → (o : Option State)
        → ((r : State) → out_of_range r ls ≡ none → All (read_flags r (tokens_of ls)))
        → cond k (out_after o (λ r. out_of_range r ls)) (some l.place) ≡ none
        → All (flag s.mode s.stack l.token ++ onward o (λ r. read_flags r (tokens_of ls)))
    at_test true k none again q = all_join (flag s.mode s.stack l.token) [] (all_true (flag s.mode s.stack l.token) k) tt
    at_test true k (some r) again q = all_join (flag s.mode s.stack l.token) (read_flags r (tokens_of ls)) (all_true (flag s.mode s.stack l.token) k) (again r q)
    at_test false k o again q = none_is_not (sym q)

range_in : (ls : List Lexeme) (s : State) → All (read_flags s (tokens_of ls)) → out_of_range s ls ≡ none
unfolding out_of_range read_flags
range_in [] s h = refl
range_in (l ∷ ls) s h =
    let f = flag s.mode s.stack l.token in
    let p = all_parts f (onward (take s l.token) (λ r. read_flags r (tokens_of ls))) h in
    rw (true_all f p.0) (at_test (take s l.token) (λ r d. range_in ls r d) p.1)
  where
    at_test : (o : Option State) → ((r : State) → All (read_flags r (tokens_of ls)) → out_of_range r ls ≡ none)
        → All (onward o (λ r. read_flags r (tokens_of ls))) → out_after o (λ r. out_of_range r ls) ≡ none
    at_test none again k = refl
    at_test (some r) again k = again r k

-- a text that is read is stuck nowhere
pub read_not_stuck : (ls : List Lexeme) (s r : State) → read s (tokens_of ls) ≡ some r → stuck s ls ≡ none
unfolding read stuck
read_not_stuck [] s r e = refl
read_not_stuck (l ∷ ls) s r e = at_test (take s l.token) (λ q d. read_not_stuck ls q r d) e
  where
    at_test : (o : Option State) → ((q : State) → read q (tokens_of ls) ≡ some r → stuck q ls ≡ none)
        → (o >>= λ q. read q (tokens_of ls)) ≡ some r → or_at o l.place (λ q. stuck q ls) ≡ none
    at_test none again q = none_is_not q
    at_test (some t) again q = again t q

-- ---- a table, both ways

pub record TextOf (room : ℕ) (bs : List ℕ) (x : Phrase) : Type 0 where
  pub short : leb (length bs) 32768 ≡ true
  pub found : List Lexeme
  pub scanned : scan bs ≡ lexemes found
  pub spells : Spells x (tokens_of found)
  pub ranges : All (read_flags start (tokens_of found))
  pub room_for : has_room room (size x) ≡ true

pub gives_table : (room : ℕ) (bs : List ℕ) (x : Phrase) → TextOf room bs x → outcome room bs ≡ given (text_table x)
unfolding outcome
gives_table room bs x h =
    let ls = h.found in
    let whole = text_read x (tokens_of ls) h.spells in
    rw (h.short, h.scanned, read_not_stuck ls start (at (after x) []) whole, range_in ls start h.ranges, whole, h.room_for)

abbrev IsGiven : Outcome → Type 0
IsGiven (refused n p) = ⊥
IsGiven (given ws) = Unit {0}

not_given : {X : Type 0} {n p : ℕ} {ws : List ℤ} → refused n p ≡ given ws → X
not_given e = absurd (subst IsGiven (sym e) tt)

-- the state that a table was given from
record From (room : ℕ) (ws : List ℤ) (s : State) : Type 0 where
  of : Phrase
  state : s ≡ at (after of) []
  fits : has_room room (size of) ≡ true
  table : ws ≡ text_table of

from_phrase : (room : ℕ) (ws : List ℤ) (m : Mode) (fs : List Frame) → phrase_out room m fs ≡ given ws → From room ws (at m fs)
from_phrase room ws operand fs e = not_given e
from_phrase room ws (after x) [] e = at_test (has_room room (size x)) refl e
  where
    at_test : (k : Bool) → has_room room (size x) ≡ k → cond k (given (text_table x)) (refused 43 0) ≡ given ws → From room ws (at (after x) [])
    at_test true k q = record { of = x; state = refl; fits = k; table = cc }
    at_test false k q = not_given q
from_phrase room ws (after x) (f ∷ fs) e = not_given e
from_phrase room ws (due d f) fs e = not_given e

pub record Given (room : ℕ) (bs : List ℕ) (ws : List ℤ) : Type 0 where
  pub of : Phrase
  pub is : TextOf room bs of
  pub table : ws ≡ text_table of

module _ (room : ℕ) (bs : List ℕ) (ws : List ℤ) (short : leb (length bs) 32768 ≡ true) (ls : List Lexeme) (scanned : scan bs ≡ lexemes ls) where
  from_read : (o : Option State) → read start (tokens_of ls) ≡ o → All (read_flags start (tokens_of ls)) → read_out room o ≡ given ws → Given room bs ws
  from_read none h r e = not_given e
  from_read (some s) h r e =
      let f = from_phrase room ws s.mode s.stack e in
      record {
        of = f.of;
        is = record {
          short = short;
          found = ls;
          scanned = scanned;
          spells = read_text f.of (tokens_of ls) (h ∙ ap some f.state);
          ranges = r;
          room_for = f.fits;
        };
        table = f.table;
      }

  from_range : (o : Option ℕ) → out_of_range start ls ≡ o → range_out room ls o ≡ given ws → Given room bs ws
  from_range (some p) h e = not_given e
  from_range none h e = from_read (read start (tokens_of ls)) refl (in_range ls start h) e

  from_stuck : (o : Option ℕ) → stuck_out room ls o ≡ given ws → Given room bs ws
  from_stuck (some p) e = not_given e
  from_stuck none e = from_range (out_of_range start ls) refl e

from_scan : (room : ℕ) (bs : List ℕ) (ws : List ℤ) → leb (length bs) 32768 ≡ true → (o : Scanned) → scan bs ≡ o → scanned_out room o ≡ given ws
    → Given room bs ws
from_scan room bs ws short (no_token p) h e = not_given e
from_scan room bs ws short (lexemes ls) h e = from_stuck room bs ws short ls h (stuck start ls) e

pub table_given : (room : ℕ) (bs : List ℕ) (ws : List ℤ) → outcome room bs ≡ given ws → Given room bs ws
unfolding outcome
table_given room bs ws e = at_test (leb (length bs) 32768) refl e
  where
    at_test : (k : Bool) → leb (length bs) 32768 ≡ k → cond k (scanned_out room (scan bs)) (refused 44 0) ≡ given ws → Given room bs ws
    at_test true k q = from_scan room bs ws k (scan bs) refl q
    at_test false k q = not_given q

-- a text that is stuck nowhere is read to its end, so that no other case of `phrase_out` is ever met
pub read_to_end : (bs : List ℕ) (ls : List Lexeme) → scan bs ≡ lexemes ls → stuck start ls ≡ none
    → (x : Phrase) × (read start (tokens_of ls) ≡ some (at (after x) []))
read_to_end bs ls e n =
    let r = not_stuck ls start n in
    let f = scan_ends bs ls e in
    let x = ended f.before r.0 (ap (λ ts. read start ts) (sym f.is) ∙ r.1) in
    (x.0, r.1 ∙ ap some x.1)
