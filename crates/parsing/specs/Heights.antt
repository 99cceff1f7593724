-- A token makes one frame at most: the stack of a state has no more frames than tokens were read (`stack_low`).
-- Assumes nothing.
use Rattle.std.specs.Prelude.{suc, ◌≤◌, Bool, true, false, cond, List, [], ◌∷◌, ◌++◌, length}
use Rattle.std.proofs.Common.{ap, arith as linear, length-append}
use Rattle.grammar.specs.Operators.{semicolon}
use Rattle.grammar.specs.Tokens.{Token, infix_word, due_word}
use Rattle.grammar.specs.Grammar.{words}
use Rattle.grammar.specs.Text.{is_post, text}
use Rattle.grammar.specs.States.{Frame, Mode, operand, after, due, State}
use Rattle.grammar.specs.Contexts.{stack_words, Reads}
use Rattle.grammar.specs.TextSound.{Came}
use Rattle.grammar.specs.Lengths.{stack_fits}

text_longer : (us : List Token) → length us ≤ length (text us)
unfolding text
text_longer [] = omega linear
text_longer (u ∷ us) = at_test (is_post u) (text_longer us)
  where
    at_test : (b : Bool) → length us ≤ length (text us)
        → suc (length us) ≤ length (cond b (infix_word semicolon ∷ u ∷ []) (u ∷ []) ++ text us)
    at_test true l = omega linear
    at_test false l = omega linear

reads_low : (m : Mode) (fs : List Frame) (us : List Token) → Reads m fs us → length fs ≤ length us
reads_low operand fs us h = omega (linear, stack_fits fs, ap length h.1)
reads_low (after x) fs us h =
    omega (linear, stack_fits fs, ap length h.spelt, length-append (stack_words fs) (words x))
reads_low (due d f) fs us h =
    omega (linear, stack_fits (f ∷ fs), ap length h.1, length-append us (due_word d ∷ []))

pub stack_low : (s : State) (ts : List Token) → Came s ts → length s.stack ≤ length ts
stack_low s ts h =
    omega (
      linear,
      reads_low s.mode s.stack h.through h.reads,
      text_longer h.through,
      ap length
          h.spelt,
    )
