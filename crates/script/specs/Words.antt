-- 01, "Conditions": how formulas, conditions and lists are spelled as words; lists in the form of 01 and in that of 02, P9.
-- Assumes nothing.
use Rattle.std.specs.Prelude.{ℕ, List, [], ◌∷◌, ◌++◌, cond, ℤ, pos, neg_ℤ, length}
use Rattle.script.specs.Syntax.{Expr, const, var, mark, arith, neg, choose, Formula, truth, cmp, not, join}
use Rattle.script.specs.Conditions.{Condition}
use Rattle.script.specs.declared.Operator.{Operator}
use Rattle.script.specs.declared.Operator.TheVariants.{Plus, Minus, Times, Div, Mod}
use Rattle.script.specs.declared.Relation.{Relation}
use Rattle.script.specs.declared.Relation.TheVariants.{Less, AtMost, Equal, Unequal}
use Rattle.script.specs.declared.Connective.{Connective}
use Rattle.script.specs.declared.Connective.TheVariants.{And, Or, Implies}
use Rattle.script.specs.declared.Rule.{Rule}
use Rattle.script.specs.declared.Rule.TheVariants.{Exit, Floor, Step, Main, Guard}

abbrev pub op_word : Operator → ℤ
op_word Plus = pos 3
op_word Minus = pos 4
op_word Times = pos 5
op_word Div = pos 6
op_word Mod = pos 7

abbrev pub rel_word : Relation → ℤ
rel_word Less = pos 18
rel_word AtMost = pos 19
rel_word Equal = pos 20
rel_word Unequal = pos 21

abbrev pub conn_word : Connective → ℤ
conn_word And = pos 23
conn_word Or = pos 24
conn_word Implies = pos 25

-- "A formula is written as words, kind before its parts, parts left to right. Constant, variable and mark have two words
-- (kind, number); every other kind writes only its kind word before the parts."
unfoldable mutual
  pub expr_words : Expr → List ℤ
  expr_words (const z) = pos 1 ∷ z ∷ []
  expr_words (var v) = pos 2 ∷ pos v ∷ []
  expr_words (mark m) = pos 9 ∷ pos m ∷ []
  expr_words (arith o a b) = op_word o ∷ (expr_words a ++ expr_words b)
  expr_words (neg a) = pos 8 ∷ expr_words a
  expr_words (choose f a b) = pos 10 ∷ (formula_words f ++ (expr_words a ++ expr_words b))

  pub formula_words : Formula → List ℤ
  formula_words (truth b) = cond b (pos 16) (pos 17) ∷ []
  formula_words (cmp r a b) = rel_word r ∷ (expr_words a ++ expr_words b)
  formula_words (not f) = pos 22 ∷ formula_words f
  formula_words (join c f g) = conn_word c ∷ (formula_words f ++ formula_words g)

-- the condition kind
abbrev pub rule_number : Rule → ℕ
rule_number Exit = 1
rule_number Floor = 2
rule_number Step = 3
rule_number Main = 4
rule_number Guard = 5

-- 02, P9: "Every trailer gains a fourth word after the length", and lists from before stay. The form of a list:
pub data Form : Type 0 where
  -- that of 01, with trailers of three words
  without_depth : Form
  -- that of 02, P9, with trailers of four
  with_depth : Form

-- 02, P9: "a fourth word after the length: how many loops enclose the named one, 0 for main"
abbrev pub depth_words : Form → ℕ → List ℤ
depth_words without_depth d = []
depth_words with_depth d = pos d ∷ []

-- "After each formula stands its trailer, three words: condition kind (1 exit, 2 floor, 3 step, 4 main), row (of the while,
-- or of the script), and length of the formula just before." 02, P5: "a condition of kind 5, guard"
abbrev pub trailer : Form → Condition → List ℤ
trailer form c =
    pos (rule_number c.rule) ∷ pos c.row ∷ pos (length (formula_words c.claim)) ∷ depth_words form c.depth

unfoldable pub line_words : Form → Condition → List ℤ
line_words form c = formula_words c.claim ++ trailer form c

unfoldable pub all_lines : Form → List Condition → List ℤ
all_lines form [] = []
all_lines form (c ∷ cs) = line_words form c ++ all_lines form cs

-- "The last word of the list is the number of conditions." 02, P9: "Such lists end in minus the count."
abbrev pub count_word : Form → ℕ → ℤ
count_word without_depth n = pos n
count_word with_depth n = neg_ℤ (pos n)

unfoldable pub list_words : Form → List Condition → List ℤ
list_words form cs = all_lines form cs ++ (count_word form (length cs) ∷ [])
