-- How many rows a phrase makes (`size`), and at which rows the parts of a form end (`roots`). A unary minus before a
-- numeral is one constant with it (`negated`). Assumes nothing.
use Rattle.std.specs.Prelude.{ℕ, zero, suc, ◌+◌, ◌-◌, List, [], ◌∷◌, Bool, true, false, cond, ℤ, pos, negsuc}
use Rattle.std.proofs.Math.Option.{Option, none, some}
use Rattle.grammar.specs.Operators.{Prefix, not_prefix, minus_prefix, assert_prefix, assign_prefix}
use Rattle.grammar.specs.Forms.{Place, in_group, in_mark, when_first, when_second, when_third, if_guard, if_then, if_else, while_guard, while_keep, while_fall, while_body, script_pre, script_body, script_post}
use Rattle.grammar.specs.Tokens.{Leaf, constant_leaf, number_leaf, variable_leaf, truth_leaf, skip_leaf}
use Rattle.grammar.specs.Grammar.{Phrase, leaf, before, between, closed, Chain, begun, more, place}

-- ---- numbers

abbrev pub leaf_number : Leaf → Option ℕ
leaf_number (constant_leaf n) = some n
leaf_number (number_leaf n) = none
leaf_number (variable_leaf v) = none
leaf_number (truth_leaf b) = none
leaf_number skip_leaf = none

abbrev pub constant_in : Phrase → Option ℕ
constant_in (leaf l) = leaf_number l
constant_in (before p x) = none
constant_in (between o x y) = none
constant_in (closed c x) = none

-- the numeral that a unary minus stands before: "unary minus, which before a numeral makes a constant"
abbrev pub negated : Prefix → Phrase → Option ℕ
negated not_prefix x = none
negated minus_prefix x = constant_in x
negated assert_prefix x = none
negated (assign_prefix v) x = none

abbrev pub minus : ℕ → ℤ
minus zero = pos 0
minus (suc n) = negsuc n

-- ---- size

abbrev pub leaf_size : Leaf → ℕ
leaf_size (constant_leaf n) = 1
leaf_size (number_leaf n) = 0
leaf_size (variable_leaf v) = 1
leaf_size (truth_leaf b) = 1
leaf_size skip_leaf = 1

abbrev pub prefix_size : Option ℕ → ℕ → ℕ
prefix_size none n = suc n
prefix_size (some z) n = 1

-- a group makes no row
abbrev pub form_size : Place → ℕ
form_size in_group = 0
form_size in_mark = 1
form_size when_first = 1
form_size when_second = 1
form_size when_third = 1
form_size if_guard = 1
form_size if_then = 1
form_size if_else = 1
form_size while_guard = 1
form_size while_keep = 1
form_size while_fall = 1
form_size while_body = 1
form_size script_pre = 1
form_size script_body = 1
form_size script_post = 1

-- where a body begins, the note is written
abbrev pub begins_body : Place → Bool
begins_body in_group = false
begins_body in_mark = false
begins_body when_first = false
begins_body when_second = false
begins_body when_third = false
begins_body if_guard = false
begins_body if_then = false
begins_body if_else = false
begins_body while_guard = false
begins_body while_keep = false
begins_body while_fall = false
begins_body while_body = true
begins_body script_pre = false
begins_body script_body = false
begins_body script_post = false

abbrev pub note_size : Place → ℕ
note_size q = cond (begins_body q) 1 0

unfoldable mutual
  pub size : Phrase → ℕ
  size (leaf l) = leaf_size l
  size (before p x) = prefix_size (negated p x) (size x)
  size (between o x y) = size x + size y + 1
  size (closed c x) = chain_size c + size x + form_size (place c)

  pub chain_size : Chain → ℕ
  chain_size (begun f) = 0
  chain_size (more c x q) = chain_size c + size x + note_size q

-- the last of n rows from b on
abbrev pub last : ℕ → ℕ → ℕ
last b n = b + n - 1

-- the rows of the parts so far, latest first; a note stands for its two parts
abbrev pub with_note : Bool → ℕ → List ℕ → List ℕ
with_note false r rs = r ∷ rs
with_note true r [] = suc r ∷ []
with_note true r (i ∷ rs) = suc r ∷ rs

unfoldable pub roots : ℕ → Chain → List ℕ
roots b (begun f) = []
roots b (more c x q) = with_note (begins_body q) (last (b + chain_size c) (size x)) (roots b c)
