-- A reader as the machine has it. Assumes nothing.
use Rattle.std.specs.Prelude.{◌≡◌}
use Rattle.parser.specs.declared.reader.Reader.{Reader}
use Rattle.parser.specs.Machine.{Config, config}

abbrev pub machine : Reader → Config
machine r = config r.state r.stack.now r.words.now

-- the stack and the words are those that were lent before
abbrev pub SameRuns : Reader → Reader → Type 0
SameRuns r r' = (r'.stack.ghost_name ≡ r.stack.ghost_name) × (r'.words.ghost_name ≡ r.words.ghost_name)
