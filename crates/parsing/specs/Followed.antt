-- What the machine leaves of a whole text (`followed`): it is refused where the text is stuck; otherwise it has the
-- place of the first number out of range, the rows counted, and where they have room their words. Assumes nothing.
use Rattle.std.specs.Prelude.{ℕ, ◌*◌, ◌-◌, ◌≤◌, ◌<◌, ◌≡◌, refl, true, List, [], ◌++◌, ℤ, pos, length, replicate}
use Rattle.std.proofs.Common.{◌∙◌, arith as linear, le-leb}
use Rattle.std.proofs.Math.Option.{none, some}
use Rattle.grammar.specs.Scanning.{Lexeme, tokens_of}
use Rattle.grammar.specs.Grammar.{Phrase}
use Rattle.grammar.specs.Counts.{size}
use Rattle.grammar.specs.Rows.{table}
use Rattle.grammar.specs.Meaning.{flat}
use Rattle.grammar.specs.States.{start, at, after}
use Rattle.grammar.specs.Reader.{read}
use Rattle.grammar.specs.Ranges.{depth}
use Rattle.grammar.specs.Outcome.{has_room, out_of_range, stuck}
use Rattle.grammar.specs.TextSound.{came}
use Rattle.grammar.specs.StateFlags.{stack_flags}
use Rattle.grammar.specs.Sizes.{table_length}
use Rattle.grammar.specs.Written.{by_count, stack_size, stack_rows, part_rows}
use Rattle.parser.specs.Machine.{Config, nowhere, start as machine-start, run}
use Rattle.parsing.specs.Encoding.{framed, counted_rows, Control}
use Rattle.parsing.specs.DataBegin.{start_data}
use Rattle.parsing.specs.Following.{Refused}
use Rattle.parsing.specs.FollowsRun.{out_with, Placed, run_follows}

-- a text that is read as x
pub record Whole (ws : List ℤ) (ls : List Lexeme) (x : Phrase) (c : Config) : Type 0 where
  pub mode : c.state.mode ≡ 1
  pub out : c.state.out ≡ out_with nowhere (out_of_range start ls)
  pub rows : c.state.rows ≡ counted_rows (length ws) (size x)
  pub lent : length c.words ≡ length ws
  -- the rows of x, where a mark's row has the mark's number, and zeros
  pub words : out_of_range start ls ≡ none → has_room (length ws) (size x) ≡ true
      → c.words ≡ flat (table by_count tt 0 x) ++ replicate (length ws - 4 * size x) (pos 0)

pub record Followed (ws : List ℤ) (ls : List Lexeme) (c : Config) : Type 0 where
  pub stops : (p : ℕ) → stuck start ls ≡ some p → Refused p c
  pub reads : (x : Phrase) → read start (tokens_of ls) ≡ some (at (after x) []) → Whole ws ls x c

start_control : (st : List ℕ) (ws : List ℤ) → Control start (machine-start st ws)
unfolding framed depth stack_rows
start_control st ws =
    record {
      mode = refl;
      numbers = refl;
      sort = tt;
      bodies = refl;
      rows = rw (le-leb 0 (length ws) (omega linear));
    }

pub followed : (st : List ℕ) (ws : List ℤ) (ls : List Lexeme) → length ls ≤ length st → length ls < 65536 → Placed ls
    → ws ≡ replicate (length ws) (pos 0) → Followed ws ls (run (machine-start st ws) ls)
unfolding stack_rows stack_size stack_flags
followed st ws ls room small low zeros =
    let ran = run_follows ls start [] (machine-start st ws) came tt (start_control st ws) (omega linear)
    (omega linear) low in
    record {
      stops = ran.stops;
      reads = λ x e.
          let r = ran.reaches (at (after x) []) e in
          let rows : length (part_rows x []) ≡ size x = table_length by_count x tt 0 in
          record {
            mode = r.control.mode;
            out = r.out;
            rows = r.control.rows ∙ (rw (r.words, rows) refl);
            lent = r.words;
            words = λ sure fits.
                (r.holding (start_data st ws zeros) tt sure (rw rows fits)).words ∙ rw (r.words, rows) refl;
          };
    }
