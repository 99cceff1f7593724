-- Number 42: each numeral and variable of a text is within its range or not, in the order of the tokens. `flags` says
-- it of a phrase, `flag` of a token that is taken in a state, `read_flags` along a text. Assumes nothing.
use Rattle.std.specs.Prelude.{ℕ, suc, ◌≡◌, List, [], ◌∷◌, ◌++◌, Bool, true, false, cond, ◌&&◌, leb, ltb}
use Rattle.std.proofs.Math.Option.{Option, none, some}
use Rattle.grammar.specs.Sorts.{number, begins}
use Rattle.grammar.specs.Operators.{Prefix, not_prefix, minus_prefix, assert_prefix, assign_prefix}
use Rattle.grammar.specs.Forms.{Place}
use Rattle.grammar.specs.Tokens.{Token, numeral, variable, truth_word, skip_word, not_word, assert_word, becomes, infix_word, form_word, closer_word, Leaf, constant_leaf, number_leaf, variable_leaf, truth_leaf, skip_leaf}
use Rattle.grammar.specs.Grammar.{Phrase, leaf, before, between, closed, Chain, begun, more, place}
use Rattle.grammar.specs.Counts.{begins_body}
use Rattle.grammar.specs.States.{prefix, infix_after, Frame, pending, open_at, hole, Mode, operand, after, due, State}
use Rattle.grammar.specs.Reader.{take}

-- ---- ranges

-- "up to 2147483648 after a unary minus and 2147483647 elsewhere"
abbrev pub limit : Bool → ℕ
limit minus = cond minus 2147483648 2147483647

-- "v0 to v1023"
abbrev pub variable_fits : ℕ → Bool
variable_fits v = ltb v 1024

-- with d loops around: "mark(k) names the k-th loop, outward from 1, whose body it stands in"
abbrev pub mark_fits : ℕ → ℕ → Bool
mark_fits d k = leb 1 k && leb k d

abbrev pub is_minus : Prefix → Bool
is_minus not_prefix = false
is_minus minus_prefix = true
is_minus assert_prefix = false
is_minus (assign_prefix v) = false

abbrev pub leaf_flags : ℕ → Bool → Leaf → List Bool
leaf_flags d m (constant_leaf n) = leb n (limit m) ∷ []
leaf_flags d m (number_leaf k) = mark_fits d k ∷ []
leaf_flags d m (variable_leaf v) = variable_fits v ∷ []
leaf_flags d m (truth_leaf b) = []
leaf_flags d m skip_leaf = []

abbrev pub prefix_flags : Prefix → List Bool
prefix_flags not_prefix = []
prefix_flags minus_prefix = []
prefix_flags assert_prefix = []
prefix_flags (assign_prefix v) = variable_fits v ∷ []

abbrev pub deeper : Place → ℕ → ℕ
deeper p d = cond (begins_body p) (suc d) d

-- of a phrase with d loops around, right after a unary minus or not
unfoldable mutual
  pub flags : ℕ → Bool → Phrase → List Bool
  flags d m (leaf l) = leaf_flags d m l
  flags d m (before p x) = prefix_flags p ++ flags d (is_minus p) x
  flags d m (between o x y) = flags d false x ++ flags d false y
  flags d m (closed c x) = chain_flags d c ++ flags (deeper (place c) d) false x

  pub chain_flags : ℕ → Chain → List Bool
  chain_flags d (begun f) = []
  chain_flags d (more c x q) = chain_flags d c ++ flags d false x

-- ---- of a state

-- how many bodies are open
unfoldable pub depth : List Frame → ℕ
depth [] = 0
depth (pending f ∷ fs) = depth fs
depth (open_at h c ∷ fs) = deeper (place c) (depth fs)

abbrev pub after_minus : List Frame → Bool
after_minus [] = false
after_minus (pending (prefix p) ∷ fs) = is_minus p
after_minus (pending (infix_after o x) ∷ fs) = false
after_minus (open_at h c ∷ fs) = false

-- of a token that is taken
abbrev pub operand_flag : List Frame → Token → List Bool
operand_flag fs (numeral n) = cond (begins (hole fs) number) (mark_fits (depth fs) n) (leb n (limit (after_minus fs))) ∷ []
operand_flag fs (variable v) = variable_fits v ∷ []
operand_flag fs (truth_word b) = []
operand_flag fs skip_word = []
operand_flag fs not_word = []
operand_flag fs assert_word = []
operand_flag fs becomes = []
operand_flag fs (infix_word o) = []
operand_flag fs (form_word f) = []
operand_flag fs (closer_word c) = []

abbrev pub flag : Mode → List Frame → Token → List Bool
flag operand fs t = operand_flag fs t
flag (after x) fs t = []
flag (due d f) fs t = []

abbrev pub onward : Option State → (State → List Bool) → List Bool
onward none go = []
onward (some r) go = go r

-- along a text
unfoldable pub read_flags : State → List Token → List Bool
read_flags s [] = []
read_flags s (t ∷ ts) = flag s.mode s.stack t ++ onward (take s t) (λ r. read_flags r ts)

-- ---- all in range

abbrev pub All : List Bool → Type 0
All [] = Unit {0}
All (b ∷ bs) = (b ≡ true) × All bs

abbrev pub all_of : List Bool → Bool
all_of [] = true
all_of (b ∷ bs) = b && all_of bs
