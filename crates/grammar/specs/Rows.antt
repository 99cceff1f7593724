-- The rows that a phrase makes (`table`): "Rows come out with parts left to right before their parent", so the root of
-- a phrase is its last row, and a loop's row is known before its body is gone through. What the row of a mark holds is
-- a `Naming`: in the table that is asked for it names its loop by the loop's row (`by_row`); in one that is written
-- from left to right, where that row is not there yet, it holds the number of the mark (`Written.by_count`). Assumes
-- nothing.
use Rattle.std.specs.Prelude.{ℕ, ◌+◌, ◌-◌, List, [], ◌∷◌, ◌++◌, Bool, true, false, cond, ℤ, pos, get_or}
use Rattle.std.proofs.Math.Option.{Option, none, some}
use Rattle.script.specs.Words.{op_word, rel_word, conn_word}
use Rattle.grammar.specs.Operators.{Infix, semicolon, connective, relation, operator, Prefix, not_prefix, minus_prefix, assert_prefix, assign_prefix}
use Rattle.grammar.specs.Forms.{Place, in_group, in_mark, when_first, when_second, when_third, if_guard, if_then, if_else, while_guard, while_keep, while_fall, while_body, script_pre, script_body, script_post}
use Rattle.grammar.specs.Tokens.{Leaf, constant_leaf, number_leaf, variable_leaf, truth_leaf, skip_leaf}
use Rattle.grammar.specs.Grammar.{Phrase, leaf, before, between, closed, Chain, begun, more, place}
use Rattle.grammar.specs.Counts.{negated, minus, form_size, begins_body, size, chain_size, last, roots}

-- ---- rows

pub record Quad : Type 0 where
  pub kind : ℤ
  pub first : ℤ
  pub second : ℤ
  pub third : ℤ

abbrev pub quad : ℤ → ℕ → ℕ → ℕ → Quad
quad k a b c = record { kind = k; first = pos a; second = pos b; third = pos c }

abbrev pub constant : ℤ → Quad
constant z = record { kind = pos 1; first = z; second = pos 0; third = pos 0 }

abbrev pub leaf_rows : Leaf → List Quad
leaf_rows (constant_leaf n) = constant (pos n) ∷ []
leaf_rows (number_leaf n) = []
leaf_rows (variable_leaf v) = quad (pos 2) v 0 0 ∷ []
leaf_rows (truth_leaf b) = quad (cond b (pos 16) (pos 17)) 0 0 0 ∷ []
leaf_rows skip_leaf = quad (pos 32) 0 0 0 ∷ []

-- the part ends at row r
abbrev pub prefix_row : Prefix → ℕ → Quad
prefix_row not_prefix r = quad (pos 22) r 0 0
prefix_row minus_prefix r = quad (pos 8) r 0 0
prefix_row assert_prefix r = quad (pos 38) r 0 0
prefix_row (assign_prefix v) r = quad (pos 33) v r 0

abbrev pub prefix_rows : Prefix → Option ℕ → ℕ → List Quad → List Quad
prefix_rows p none r rs = rs ++ (prefix_row p r ∷ [])
prefix_rows p (some n) r rs = constant (minus n) ∷ []

abbrev pub infix_kind : Infix → ℤ
infix_kind semicolon = pos 34
infix_kind (connective c) = conn_word c
infix_kind (relation r) = rel_word r
infix_kind (operator o) = op_word o

-- "mark(k) names the k-th loop, outward from 1, whose body it stands in"
abbrev pub nth_loop : List ℕ → ℕ → ℕ
nth_loop ls k = get_or ls (k - 1) 0

abbrev pub leaf_counts : Leaf → ℕ
leaf_counts (constant_leaf n) = 0
leaf_counts (number_leaf n) = n
leaf_counts (variable_leaf v) = 0
leaf_counts (truth_leaf b) = 0
leaf_counts skip_leaf = 0

-- the k of a mark
abbrev pub counts : Phrase → ℕ
counts (leaf l) = leaf_counts l
counts (before p x) = 0
counts (between o x y) = 0
counts (closed c x) = 0

abbrev pub three : ℤ → List ℕ → ℕ → List Quad
three k rs r = quad k (get_or rs 1 0) (get_or rs 0 0) r ∷ []

-- the row of a form: the parts before the last end at rs, the last at r, and m is the loop of a mark
abbrev pub form_rows : Place → ℕ → List ℕ → ℕ → List Quad
form_rows in_group m rs r = []
form_rows in_mark m rs r = quad (pos 9) m 0 0 ∷ []
form_rows when_first m rs r = three (pos 10) rs r
form_rows when_second m rs r = three (pos 10) rs r
form_rows when_third m rs r = three (pos 10) rs r
form_rows if_guard m rs r = three (pos 35) rs r
form_rows if_then m rs r = three (pos 35) rs r
form_rows if_else m rs r = three (pos 35) rs r
form_rows while_guard m rs r = three (pos 36) rs r
form_rows while_keep m rs r = three (pos 36) rs r
form_rows while_fall m rs r = three (pos 36) rs r
form_rows while_body m rs r = three (pos 36) rs r
form_rows script_pre m rs r = three (pos 48) rs r
form_rows script_body m rs r = three (pos 48) rs r
form_rows script_post m rs r = three (pos 48) rs r

abbrev pub note_rows : Bool → List ℕ → ℕ → List Quad
note_rows false rs r = []
note_rows true rs r = quad (pos 37) (get_or rs 0 0) r 0 ∷ []

-- how the row of a mark names its loop: what is known of the loops around, with one loop more whose row is r (`around
-- r`), and what the row of mark(k) says then
pub record Naming : Type 1 where
  pub Loops : Type 0
  pub around : ℕ → Loops → Loops
  pub says : Loops → ℕ → ℕ

-- by its own row; inner loops first
abbrev pub by_row : Naming
by_row = record { Loops = List ℕ; around = λ r ls. r ∷ ls; says = nth_loop }

module _ (by : Naming) where
  -- the loops around a part at a place of a form whose row is r
  abbrev pub inside : Place → ℕ → by.Loops → by.Loops
  inside q r ls = cond (begins_body q) (by.around r ls) ls

  unfoldable mutual
    pub table : by.Loops → ℕ → Phrase → List Quad
    table ls b (leaf l) = leaf_rows l
    table ls b (before p x) = prefix_rows p (negated p x) (last b (size x)) (table ls b x)
    table ls b (between o x y) =
        table ls b x ++ (table ls (b + size x) y ++ (quad (infix_kind o) (last b (size x)) (last (b + size x) (size y)) 0 ∷ []))
    table ls b (closed c x) =
        chain_table ls b c ++ (table (inside (place c) (last b (chain_size c + size x + form_size (place c))) ls) (b + chain_size c) x
        ++ form_rows (place c) (by.says ls (counts x)) (roots b c) (last (b + chain_size c) (size x)))

    pub chain_table : by.Loops → ℕ → Chain → List Quad
    chain_table ls b (begun f) = []
    chain_table ls b (more c x q) =
        chain_table ls b c ++ (table ls (b + chain_size c) x ++ note_rows (begins_body q) (roots b c) (last (b + chain_size c) (size x)))
