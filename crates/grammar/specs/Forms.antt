-- The closed forms of a script, which words open and close, and the places in them: a bracketed group, mark, when, if,
-- while, and the whole script. Everything that tells one place from another stands here and in `ending` of `Tokens`;
-- the other files speak of all places at once. Assumes nothing.
use Rattle.std.proofs.Math.Option.{Option, none, some}
use Rattle.grammar.specs.Sorts.{Sort, number, expression, formula, statement, script, Hole, only, either}

-- ---- closed forms, and the places in them

-- "if F then S else S end, and while F keep F fall E do S end"; "the whole is pre F; S; post F"; "when(F, E, E)";
-- "mark(k)"; "parentheses"
pub data Form : Type 0 where
  group_form mark_form when_form if_form while_form script_form : Form

pub data Place : Type 0 where
  in_group in_mark : Place
  when_first when_second when_third : Place
  if_guard if_then if_else : Place
  while_guard while_keep while_fall while_body : Place
  script_pre script_body script_post : Place

abbrev pub first_place : Form → Place
first_place group_form = in_group
first_place mark_form = in_mark
first_place when_form = when_first
first_place if_form = if_guard
first_place while_form = while_guard
first_place script_form = script_pre

-- none after the last
abbrev pub next_place : Place → Option Place
next_place in_group = none
next_place in_mark = none
next_place when_first = some when_second
next_place when_second = some when_third
next_place when_third = none
next_place if_guard = some if_then
next_place if_then = some if_else
next_place if_else = none
next_place while_guard = some while_keep
next_place while_keep = some while_fall
next_place while_fall = some while_body
next_place while_body = none
next_place script_pre = some script_body
next_place script_body = some script_post
next_place script_post = none

abbrev pub place_takes : Place → Hole
place_takes in_group = either
place_takes in_mark = only number
place_takes when_first = only formula
place_takes when_second = only expression
place_takes when_third = only expression
place_takes if_guard = only formula
place_takes if_then = only statement
place_takes if_else = only statement
place_takes while_guard = only formula
place_takes while_keep = only formula
place_takes while_fall = only expression
place_takes while_body = only statement
place_takes script_pre = only formula
place_takes script_body = only statement
place_takes script_post = only formula

-- a group makes what it holds; as a beginning it counts as an expression, which may stand wherever a group may
abbrev pub place_makes : Place → Sort → Sort
place_makes in_group s = s
place_makes in_mark s = expression
place_makes when_first s = expression
place_makes when_second s = expression
place_makes when_third s = expression
place_makes if_guard s = statement
place_makes if_then s = statement
place_makes if_else s = statement
place_makes while_guard s = statement
place_makes while_keep s = statement
place_makes while_fall s = statement
place_makes while_body s = statement
place_makes script_pre s = script
place_makes script_body s = script
place_makes script_post s = script
