-- The reader of a text's tokens (`read`): a semicolon is taken as an operator, and `post` after it gives the operator
-- up again; any other token is a step of the automaton. Assumes nothing.
use Rattle.std.proofs.Math.Option.{Option, none, some}
use Rattle.std.specs.Prelude.{List, [], ◌∷◌, cond}
use Rattle.script.specs.Listing.{◌>>=◌}
use Rattle.grammar.specs.Operators.{Infix, semicolon, connective, relation, operator}
use Rattle.grammar.specs.Tokens.{Token}
use Rattle.grammar.specs.Grammar.{Phrase}
use Rattle.grammar.specs.Text.{is_post, post}
use Rattle.grammar.specs.States.{prefix, infix_after, Frame, pending, open_at, Mode, operand, after, due, State, at}
use Rattle.grammar.specs.Automaton.{step}

-- ---- the reader

-- post, where the operator that waits is a semicolon
abbrev pub given_up : Infix → Phrase → List Frame → Option State
given_up semicolon x fs = step (at (after x) fs) post
given_up (connective c) x fs = none
given_up (relation r) x fs = none
given_up (operator o) x fs = none

abbrev pub at_post : Mode → List Frame → Option State
at_post operand [] = none
at_post operand (pending (prefix p) ∷ fs) = none
at_post operand (pending (infix_after o x) ∷ fs) = given_up o x fs
at_post operand (open_at h c ∷ fs) = none
at_post (after x) fs = none
at_post (due d f) fs = none

abbrev pub take : State → Token → Option State
take s t = cond (is_post t) (at_post s.mode s.stack) (step s t)

unfoldable pub read : State → List Token → Option State
read s [] = some s
read s (t ∷ ts) = take s t >>= λ r. read r ts
