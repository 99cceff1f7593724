-- The operators of a script: what each takes and makes, and how tight it binds. Everything that tells one operator from
-- another stands here; the other files speak of all operators at once. A level is a number, 0 the loosest. Assumes
-- nothing.
use Rattle.std.specs.Prelude.{ℕ}
use Rattle.script.specs.declared.Operator.{Operator}
use Rattle.script.specs.declared.Operator.TheVariants.{Plus, Minus, Times, Div, Mod}
use Rattle.script.specs.declared.Relation.{Relation}
use Rattle.script.specs.declared.Connective.{Connective}
use Rattle.script.specs.declared.Connective.TheVariants.{And, Or, Implies}
use Rattle.grammar.specs.Sorts.{Sort, expression, formula, statement}

-- ---- operators

pub data Infix : Type 0 where
  semicolon : Infix
  connective : Connective → Infix
  relation : Relation → Infix
  operator : Operator → Infix

pub data Prefix : Type 0 where
  not_prefix : Prefix
  minus_prefix : Prefix
  assert_prefix : Prefix
  -- v :=
  assign_prefix : ℕ → Prefix

-- what it takes on both sides
abbrev pub infix_takes : Infix → Sort
infix_takes semicolon = statement
infix_takes (connective c) = formula
infix_takes (relation r) = expression
infix_takes (operator o) = expression

abbrev pub infix_makes : Infix → Sort
infix_makes semicolon = statement
infix_makes (connective c) = formula
infix_makes (relation r) = formula
infix_makes (operator o) = expression

abbrev pub prefix_takes : Prefix → Sort
prefix_takes not_prefix = formula
prefix_takes minus_prefix = expression
prefix_takes assert_prefix = formula
prefix_takes (assign_prefix v) = expression

abbrev pub prefix_makes : Prefix → Sort
prefix_makes not_prefix = formula
prefix_makes minus_prefix = expression
prefix_makes assert_prefix = statement
prefix_makes (assign_prefix v) = statement

-- "Binding from loosest: implies (to the right); or, then and (to the left); not; one comparison <, <=, = or <>;
-- + and -, then *, div and mod (to the left); unary minus"; looser than all of them are statements, "joined by
-- semicolons to the right"
abbrev pub infix_level : Infix → ℕ
infix_level semicolon = 0
infix_level (connective Implies) = 2
infix_level (connective Or) = 3
infix_level (connective And) = 4
infix_level (relation r) = 6
infix_level (operator Plus) = 7
infix_level (operator Minus) = 7
infix_level (operator Times) = 8
infix_level (operator Div) = 8
infix_level (operator Mod) = 8

-- the level from which on what stands left of it is complete: its own, or the next where it groups "to the right"
abbrev pub infix_binds : Infix → ℕ
infix_binds semicolon = 1
infix_binds (connective Implies) = 3
infix_binds (connective Or) = 3
infix_binds (connective And) = 4
infix_binds (relation r) = 6
infix_binds (operator Plus) = 7
infix_binds (operator Minus) = 7
infix_binds (operator Times) = 8
infix_binds (operator Div) = 8
infix_binds (operator Mod) = 8

abbrev pub prefix_level : Prefix → ℕ
prefix_level not_prefix = 5
prefix_level minus_prefix = 9
prefix_level assert_prefix = 1
prefix_level (assign_prefix v) = 1

-- of the tightest infix operators
abbrev pub tight : ℕ
tight = 8

-- the level of what is no operator's
abbrev pub top : ℕ
top = 10
