-- What the reader's automaton remembers. A frame is an operator that waits for the part right of it, or the chain of a
-- form that waits for the part at its place; a state is a stack of frames with what may come next. Assumes nothing.
use Rattle.std.specs.Prelude.{ℕ, List, [], ◌∷◌}
use Rattle.grammar.specs.Sorts.{Sort, script, Hole, only}
use Rattle.grammar.specs.Operators.{Infix, Prefix, infix_takes, prefix_takes, infix_level, prefix_level}
use Rattle.grammar.specs.Tokens.{Due}
use Rattle.grammar.specs.Grammar.{Phrase, before, between, Chain}

-- ---- frames

pub data Pending : Type 0 where
  prefix : Prefix → Pending
  infix_after : Infix → Phrase → Pending

pub data Frame : Type 0 where
  pending : Pending → Frame
  -- what the place takes here, and what stands before it
  open_at : Hole → Chain → Frame

abbrev pub wants : Pending → Sort
wants (prefix p) = prefix_takes p
wants (infix_after o x) = infix_takes o

abbrev pub holds : Pending → ℕ
holds (prefix p) = prefix_level p
holds (infix_after o x) = infix_level o

abbrev pub apply : Pending → Phrase → Phrase
apply (prefix p) y = before p y
apply (infix_after o x) y = between o x y

abbrev pub hole : List Frame → Hole
hole [] = only script
hole (pending f ∷ fs) = only (wants f)
hole (open_at h c ∷ fs) = h

-- ---- states

pub data Mode : Type 0 where
  -- a part begins
  operand : Mode
  -- a part is complete, as far as it was read
  after : Phrase → Mode
  -- a word is due, and then the frame
  due : Due → Frame → Mode

pub record State : Type 0 where
  pub mode : Mode
  pub stack : List Frame

abbrev pub at : Mode → List Frame → State
at m fs = record { mode = m; stack = fs }

abbrev pub start : State
start = at operand []
