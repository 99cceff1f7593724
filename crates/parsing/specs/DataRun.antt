-- Beside `take_data`, what goes from token to token: the numbers so far are in range (`take_ranges`), and where there
-- is room at the end there is room before (`read_room`). At the end the words hold the text's rows (`whole_words`).
-- Assumes nothing.
use Rattle.std.specs.Prelude.{ℕ, ◌≡◌, Bool, true, false, cond, List, [], length}
use Rattle.std.proofs.Common.{sym, subst}
use Rattle.std.proofs.Math.Option.{some}
use Rattle.grammar.specs.Tokens.{Token}
use Rattle.grammar.specs.Grammar.{Phrase}
use Rattle.grammar.specs.Text.{is_post}
use Rattle.grammar.specs.Rows.{table}
use Rattle.grammar.specs.States.{State, at, after}
use Rattle.grammar.specs.Automaton.{step}
use Rattle.grammar.specs.Reader.{at_post, take, read}
use Rattle.grammar.specs.Ranges.{flag, All}
use Rattle.grammar.specs.Outcome.{has_room}
use Rattle.grammar.specs.TextSound.{Came}
use Rattle.grammar.specs.AllLaws.{all_join}
use Rattle.grammar.specs.StateFlags.{state_flags}
use Rattle.grammar.specs.InRange.{step_flags}
use Rattle.grammar.specs.Written.{by_count, stack_size, stack_rows, written_in, Settled}
use Rattle.grammar.specs.Adds.{read_adds}
use Rattle.parser.specs.Machine.{Config}
use Rattle.parsing.specs.Encoding.{Data}
use Rattle.parsing.specs.DataRows.{Held}
use Rattle.parsing.specs.DataTake.{room_before, post_ranges}

pub take_ranges : (s : State) (t : Token) (ts : List Token) (r : State) → Came s ts → All (state_flags s)
    → All (flag s.mode s.stack t) → take s t ≡ some r → All (state_flags r)
take_ranges s t ts r h a g e = at_test (is_post t) e
  where
    at_test : (b : Bool) → cond b (at_post s.mode s.stack) (step s t) ≡ some r → All (state_flags r)
    at_test true q = post_ranges s.mode s.stack h.through r h.reads a q
    at_test false q =
        subst All (sym (step_flags s.mode s.stack t h.through r h.reads q))
        (all_join (state_flags s) (flag s.mode s.stack t) a g)

-- for all tokens that are to come
pub read_room : (us : List Token) (s : State) (ts : List Token) (r : State) (n : ℕ) → Came s ts
    → Settled s.mode s.stack
    → read s us ≡ some r → has_room n (length (written_in r)) ≡ true → has_room n (length (written_in s)) ≡ true
read_room us s ts r n h z e room = room_before n (read_adds us s ts r h z e).adds room

pub whole_words : (x : Phrase) (c : Config) → Data (at (after x) []) c → Held c.words (table by_count tt 0 x)
unfolding stack_rows stack_size
whole_words x c d = d.words
