-- From what the machine leaves of a text, its outcome (`answers`): 41 where it was refused, 42 where it has a place
-- of a number out of range, 43 where it counts too many rows, and otherwise the table, of which it has the rows, with
-- the number of each mark in place of its loop. Assumes nothing.
use Rattle.std.specs.Prelude.{ℕ, ◌*◌, ◌-◌, ◌<◌, ◌≡◌, refl, Bool, true, false, cond, List, [], ◌∷◌, ◌++◌, leb, ℤ, pos, length, replicate}
use Rattle.std.proofs.Common.{sym, ap, ◌∙◌, subst, arith as linear, leb-true}
use Rattle.std.proofs.Math.Option.{Option, none, some}
use Rattle.theorems.specs.Options.{none_is_not, some_inj}
use Rattle.grammar.specs.Scanning.{Lexeme, tokens_of, Scanned, lexemes, scan}
use Rattle.grammar.specs.Grammar.{Phrase}
use Rattle.grammar.specs.Counts.{size}
use Rattle.grammar.specs.Rows.{table}
use Rattle.grammar.specs.Meaning.{flat, text_table}
use Rattle.grammar.specs.States.{State, start, at, after}
use Rattle.grammar.specs.Reader.{take, read}
use Rattle.grammar.specs.Ranges.{flag, all_of}
use Rattle.grammar.specs.Outcome.{has_room, out_after, out_of_range, refused, given, read_out, range_out, stuck_out, outcome, stuck}
use Rattle.grammar.specs.TextRead.{text_read}
use Rattle.grammar.specs.Written.{by_count}
use Rattle.grammar.specs.Given.{TextOf, gives_table, table_given, read_to_end}
use Rattle.parser.specs.Machine.{Config, nowhere, full, start as machine-start, run}
use Rattle.parsing.specs.Encoding.{counted_rows}
use Rattle.parsing.specs.DataRows.{room_is}
use Rattle.parsing.specs.FollowsRun.{out_with, Placed}
use Rattle.parsing.specs.Followed.{Whole, Followed, followed}
use Rattle.parsing.specs.Lexemes.{scan_spread, placed}

pub record Table (room : ℕ) (bs : List ℕ) (c : Config) : Type 0 where
  pub of : Phrase
  pub is : TextOf room bs of
  pub gives : outcome room bs ≡ given (text_table of)
  pub rows : c.state.rows ≡ size of
  pub words : c.words ≡ flat (table by_count tt 0 of) ++ replicate (room - 4 * size of) (pos 0)

pub record Answers (room : ℕ) (bs : List ℕ) (c : Config) : Type 0 where
  pub stuck_there : c.state.mode ≡ 4 → outcome room bs ≡ refused 41 c.state.place
  pub out_there : (c.state.mode ≡ 4 → ⊥) → (c.state.out ≡ nowhere → ⊥)
      → outcome room bs ≡ refused 42 c.state.out
  pub too_many : (c.state.mode ≡ 4 → ⊥) → c.state.out ≡ nowhere → c.state.rows ≡ full
      → outcome room bs ≡ refused 43 0
  pub whole : (c.state.mode ≡ 4 → ⊥) → c.state.out ≡ nowhere → (c.state.rows ≡ full → ⊥) → Table room bs c

out_low : (ls : List Lexeme) (s : State) (p : ℕ) → Placed ls → out_of_range s ls ≡ some p → p < nowhere
unfolding out_of_range
out_low [] s p low e = none_is_not e
out_low (l ∷ ls) s p low e =
    at_test (all_of (flag s.mode s.stack l.token)) (take s l.token) (λ r q. out_low ls r p low.1 q) e
  where
    at_test : (b : Bool) (o : Option State) → ((r : State) → out_of_range r ls ≡ some p → p < nowhere)
        → cond b (out_after o (λ r. out_of_range r ls)) (some l.place) ≡ some p → p < nowhere
    at_test true none again q = none_is_not q
    at_test true (some r) again q = again r q
    at_test false o again q = subst (λ (n : ℕ). n < nowhere) (some_inj q) low.0

-- rows that have room are fewer than full
not_full : (room n : ℕ) → has_room room n ≡ true → counted_rows room n ≡ full → ⊥
not_full room n e f =
    let l = (room_is room n e).most in
    let same : n ≡ full = ap (λ b. cond b n full) (sym e) ∙ f in
    omega linear

module _ (room : ℕ) (bs : List ℕ) (ws : List ℤ) (lent : length ws ≡ room) (ls : List Lexeme) (c : Config)
    (short : leb (length bs) 32768 ≡ true) (scanned : scan bs ≡ lexemes ls) (low : Placed ls) (f : Followed ws ls c)
  where
    scanned_is : (u : Option ℕ) → stuck start ls ≡ u → outcome room bs ≡ stuck_out room ls u
    unfolding outcome
    scanned_is u e = rw (short, scanned, e)

    same_lexemes : (found : List Lexeme) → scan bs ≡ lexemes found → found ≡ ls
    same_lexemes found e = lexemes_same (sym e ∙ scanned)
      where
        lexemes_same : {us vs : List Lexeme} → ◌≡◌ {A = Scanned} (lexemes us) (lexemes vs) → us ≡ vs
        lexemes_same q = cc

    -- the table that is given, and the machine's rows
    table_of : (x : Phrase) → out_of_range start ls ≡ none → outcome room bs ≡ given (text_table x) → Table room bs c
    table_of x sure e =
        let g = table_given room bs (text_table x) e in
        let y = g.of in
        let spelt : read start (tokens_of ls) ≡ some (at (after y) []) =
        subst (λ us. read start (tokens_of us) ≡ some (at (after y) [])) (same_lexemes g.is.found g.is.scanned)
        (text_read y (tokens_of g.is.found) g.is.spells) in
        let w = f.reads y spelt in
        let fits : has_room (length ws) (size y) ≡ true = rw lent g.is.room_for in
        record {
          of = y;
          is = g.is;
          gives = gives_table room bs y g.is;
          rows = w.rows ∙ rw fits;
          words = w.words sure fits ∙ rw lent;
        }

    -- ---- a text that is stuck nowhere

    module _ (free : stuck start ls ≡ none) (x : Phrase) (reads : read start (tokens_of ls) ≡ some (at (after x) []))
        (w : Whole ws ls x c) where
      not_refused : {X : Type 0} → c.state.mode ≡ 4 → X
      not_refused m = let one = w.mode in absurd (omega linear)

      counted : (k : Bool) → has_room room (size x) ≡ k → c.state.rows ≡ cond k (size x) full
      counted k h = w.rows ∙ rw (lent, h)

      out_of : (p : ℕ) → out_of_range start ls ≡ some p → Answers room bs c
      out_of p o =
          let there : c.state.out ≡ p = w.out ∙ ap (λ v. out_with nowhere v) o in
          let before = out_low ls start p low o in
          record {
            stuck_there = not_refused;
            out_there =
                λ m b. scanned_is none free ∙ ap (λ v. range_out room ls v) o ∙ ap (λ n. refused 42 n) (sym there);
            too_many = λ m b e. absurd (omega linear);
            whole = λ m b e. absurd (omega linear);
          }

      within : out_of_range start ls ≡ none → (k : Bool) → has_room room (size x) ≡ k → Answers room bs c
      within o k h =
          let there : c.state.out ≡ nowhere = w.out ∙ ap (λ v. out_with nowhere v) o in
          let is : outcome room bs ≡ cond k (given (text_table x)) (refused 43 0) =
          scanned_is none free ∙ ap (λ v. range_out room ls v) o ∙ ap (λ q. read_out room q) reads
          ∙ ap (λ b. cond b (given (text_table x)) (refused 43 0)) h in
          at_test k h is (λ b. absurd (b there))
        where
          at_test : (j : Bool) → has_room room (size x) ≡ j
              → outcome room bs ≡ cond j (given (text_table x)) (refused 43 0)
              → ((c.state.out ≡ nowhere → ⊥) → outcome room bs ≡ refused 42 c.state.out) → Answers room bs c
          at_test true e q none_out =
              record {
                stuck_there = not_refused;
                out_there = λ m b. none_out b;
                too_many =
                    λ m b r. absurd (not_full room (size x) e
                    (ap (λ b. cond b (size x) full) e ∙ sym (counted true e) ∙ r));
                whole = λ m b r. table_of x o q;
              }
          at_test false e q none_out =
              record {
                stuck_there = not_refused;
                out_there = λ m b. none_out b;
                too_many = λ m b r. q;
                whole = λ m b r. absurd (r (counted false e));
              }

      unstuck : (v : Option ℕ) → out_of_range start ls ≡ v → Answers room bs c
      unstuck none o = within o (has_room room (size x)) refl
      unstuck (some p) o = out_of p o

    pub answers : Answers room bs c
    answers = at_result (stuck start ls) refl
      where
        at_result : (u : Option ℕ) → stuck start ls ≡ u → Answers room bs c
        at_result none e =
            let x = read_to_end bs ls scanned e in
            unstuck e x.0 x.1 (f.reads x.0 x.1) (out_of_range start ls) refl
        at_result (some p) e =
            let stop = f.stops p e in
            record {
              stuck_there = λ m. scanned_is (some p) e ∙ ap (λ n. refused 41 n) (sym stop.place);
              out_there = λ m b. absurd (m stop.mode);
              too_many = λ m b r. absurd (m stop.mode);
              whole = λ m b r. absurd (m stop.mode);
            }

-- ---- from the bytes

-- a text of allowed length, a stack with a place for each token, and words that are all 0
pub text_answers : (st bs : List ℕ) (ws : List ℤ) (ls : List Lexeme) → leb (length bs) 32768 ≡ true
    → scan bs ≡ lexemes ls
    → length bs < length st → ws ≡ replicate (length ws) (pos 0) → Answers (length ws) bs (run (machine-start st ws) ls)
text_answers st bs ws ls short scanned room zeros =
    let spread = scan_spread bs ls scanned in
    let few = spread.0 in
    let least = leb-true (length bs) 32768 short in
    let low = placed (length bs) ls (omega linear) spread.1 in
    answers (length ws) bs ws refl ls (run (machine-start st ws) ls) short scanned low
    (followed st ws ls (omega linear) (omega linear) low zeros)
