-- 01, "Reading a finished list". In this order: a formula read from its first word, the condition that ends at a place, a
-- whole list, the line at an index, the count, the reader that walks back; these with a limit in place of the number of variables
-- (`-within`), and at the end with that number. Both forms are read: 02, P9, "the reader, P1 and P6 take both forms". Assumes nothing.
use Rattle.std.specs.Prelude.{ℕ, zero, suc, ◌+◌, ◌-◌, List, [], ◌∷◌, ◌++◌, map, Bool, true, false, cond, ◌&&◌, ℤ, pos, negsuc, eqb, ltb, leb, length, get_or}
use Rattle.std.proofs.Math.Option.{Option, none, some}
use Rattle.std.proofs.Math.ListN.{get_elem?}
use Rattle.std.proofs.Math.Seq.{slice}
use Rattle.script.specs.declared.ExpressionRow.TheVariants.{Constant, Variable, Arithmetic, Negate, Mark, Choose}
use Rattle.script.specs.declared.FormulaRow.TheVariants.{True, False, Comparison, Not, Junction}
use Rattle.script.specs.declared.Row.{Row}
use Rattle.script.specs.declared.Rule.{Rule}
use Rattle.script.specs.declared.Rule.TheVariants.{Exit, Floor, Step, Main, Guard}
use Rattle.script.specs.declared.Line.{Line}
use Rattle.script.specs.Syntax.{Expr, const, var, mark, arith, neg, choose, Formula, truth, cmp, not, join}
use Rattle.script.specs.Conditions.{Condition, condition}
use Rattle.script.specs.Words.{rule_number, Form, without_depth, with_depth}
use Rattle.script.specs.Rows.{field_number, row_of, variables}

infixl 10 ◌>>=◌
-- go on where something was found
abbrev pub ◌>>=◌ : {A B : Type 0} → Option A → (A → Option B) → Option B
none >>= f = none
some a >>= f = f a

-- go on where a test holds
abbrev pub guarded : {A : Type 0} → Bool → Option A → Option A
guarded true o = o
guarded false o = none

-- ---- a formula, read from its first word

-- what was read, and the words after it
pub record Read (A : Type 0) : Type 0 where
  pub got : A
  pub rest : List ℤ

abbrev pub read : {A : Type 0} → A → List ℤ → Option (Read A)
read a ws = some (record { got = a; rest = ws })

-- the kind of a word, as the row that it and the next word would begin; the words after it
abbrev pub next : {A : Type 0} → (Row → List ℤ → Option A) → List ℤ → Option A
next f [] = none
next f (w ∷ ws) = f (row_of (field_number w) (get_or ws 0 (pos 0)) (pos 0) (pos 0)) ws

-- past the number of a constant, a variable or a mark
abbrev pub past_number : {A : Type 0} → A → List ℤ → Option (Read A)
past_number a [] = none
past_number a (w ∷ ws) = read a ws

-- "marks 0 to 2,047", and so the rows of trailers
abbrev pub row_limit : ℕ
row_limit = 2048

-- with nothing left over
abbrev pub all_read : {A : Type 0} → Read A → Option A
all_read r = elim r.rest [ [] ↦ some r.got | w ∷ ws ↦ none ]

-- "variables 0 to 255": those below a limit, which 02, P2, moves
module _ (limit : ℕ) where
  unfoldable mutual
    pub read_expr_within : ℕ → Row → List ℤ → Option (Read Expr)
    read_expr_within zero w ws = none
    read_expr_within (suc n) (Row.Expression (Constant z)) ws = past_number (const z) ws
    read_expr_within (suc n) (Row.Expression (Variable v)) ws = guarded (ltb v.0 limit) (past_number (var v.0) ws)
    read_expr_within (suc n) (Row.Expression (Mark m)) ws = guarded (ltb m.0 row_limit) (past_number (mark m.0) ws)
    read_expr_within (suc n) (Row.Expression (Arithmetic o x y)) ws = do
      a ← next (read_expr_within n) ws
      b ← next (read_expr_within n) a.rest
      read (arith o a.got b.got) b.rest
    read_expr_within (suc n) (Row.Expression (Negate x)) ws = do
      a ← next (read_expr_within n) ws
      read (neg a.got) a.rest
    read_expr_within (suc n) (Row.Expression (Choose x y z)) ws = do
      f ← next (λ w vs. read_formula_within n w vs) ws
      a ← next (read_expr_within n) f.rest
      b ← next (read_expr_within n) a.rest
      read (choose f.got a.got b.got) b.rest
    read_expr_within (suc n) (Row.Formula w) ws = none
    read_expr_within (suc n) (Row.Statement w) ws = none
    read_expr_within (suc n) (Row.Note x y) ws = none
    read_expr_within (suc n) (Row.Script x y z) ws = none
    read_expr_within (suc n) Row.Unknown ws = none

    pub read_formula_within : ℕ → Row → List ℤ → Option (Read Formula)
    read_formula_within zero w ws = none
    read_formula_within (suc n) (Row.Formula True) ws = read (truth true) ws
    read_formula_within (suc n) (Row.Formula False) ws = read (truth false) ws
    read_formula_within (suc n) (Row.Formula (Comparison o x y)) ws = do
      a ← next (λ w vs. read_expr_within n w vs) ws
      b ← next (λ w vs. read_expr_within n w vs) a.rest
      read (cmp o a.got b.got) b.rest
    read_formula_within (suc n) (Row.Formula (Not x)) ws = do
      f ← next (read_formula_within n) ws
      read (not f.got) f.rest
    read_formula_within (suc n) (Row.Formula (Junction o x y)) ws = do
      f ← next (read_formula_within n) ws
      g ← next (read_formula_within n) f.rest
      read (join o f.got g.got) g.rest
    read_formula_within (suc n) (Row.Expression w) ws = none
    read_formula_within (suc n) (Row.Statement w) ws = none
    read_formula_within (suc n) (Row.Note x y) ws = none
    read_formula_within (suc n) (Row.Script x y z) ws = none
    read_formula_within (suc n) Row.Unknown ws = none

  -- the formula that the words spell, all read: every node has a word of its own, so their number bounds the depth
  unfoldable pub spelled_within : List ℤ → Option Formula
  spelled_within ws = next (read_formula_within (length ws)) ws >>= all_read

-- ---- the condition that ends at a place

abbrev pub natural : ℤ → Option ℕ
natural (pos n) = some n
natural (negsuc n) = none

abbrev pub below : ℕ → ℤ → Option ℕ
below limit w = do
  n ← natural w
  guarded (ltb n limit) (some n)

-- "a kind 1 to 4"; 02, P5: "The list reader takes kind 5."
abbrev pub rule_of : ℕ → Option Rule
rule_of n =
    cond (eqb n 1) (some Exit)
    (cond (eqb n 2) (some Floor)
    (cond (eqb n 3) (some Step)
    (cond (eqb n 4) (some Main)
    (cond (eqb n 5) (some Guard) none))))

-- 02, P9: "20 when the fourth word is not 0 to 7"
abbrev pub depth_limit : ℕ
depth_limit = 8

-- the word that tells the depth: "The reader gives it beside the row, 0 for an old list"
abbrev pub depth_word : Form → ℤ → ℤ
depth_word without_depth w = pos 0
depth_word with_depth w = w

abbrev pub trailer_length : Form → ℕ
trailer_length without_depth = 3
trailer_length with_depth = 4

-- a condition, and from where to where its formula stands
pub record Found : Type 0 where
  pub condition : Condition
  pub start : ℕ
  pub end : ℕ

module _ (limit : ℕ) where
  -- with the trailer k, r, n, d after a formula that ends at e: "a kind 1 to 4" or 5, "a row from 0 to 2,047 and the true length
  -- of one whole formula", and a depth
  unfoldable pub found_within : List ℤ → ℕ → ℤ → ℤ → ℤ → ℤ → Option Found
  found_within ws e k r n d = do
    rule ← rule_of (field_number k)
    row ← below row_limit r
    size ← below (suc e) n
    depth ← below depth_limit d
    claim ← spelled_within limit (slice (e - size) e ws)
    some (record { condition = condition rule row depth claim; start = e - size; end = e })

  -- the condition whose formula ends at e, where its trailer begins
  abbrev pub found_at_within : Form → List ℤ → ℕ → Option Found
  found_at_within form ws e =
      found_within ws e (get_or ws e (pos 0)) (get_or ws (e + 1) (pos 0)) (get_or ws (e + 2) (pos 0)) (depth_word form (get_or ws (e + 3) (pos 0)))

  -- the condition whose trailer ends at e
  unfoldable pub line_before_within : Form → List ℤ → ℕ → Option Found
  line_before_within form ws e =
      guarded (leb (trailer_length form) e && leb e (length ws)) (found_at_within form ws (e - trailer_length form))

  -- ---- a whole list

  -- n conditions that end at e, first one first: "that many trailers", "nothing left at the front"
  unfoldable pub lines_before_within : Form → List ℤ → ℕ → ℕ → Option (List Found)
  lines_before_within form ws zero zero = some []
  lines_before_within form ws zero (suc e) = none
  lines_before_within form ws (suc n) e = do
    last ← line_before_within form ws e
    front ← lines_before_within form ws n last.start
    some (front ++ (last ∷ []))

-- 02, P9: "Such lists end in minus the count." So the last word tells the form and the count.
abbrev pub last_word : List ℤ → ℤ
last_word ws = get_or ws (length ws - 1) (pos 0)

abbrev pub form_told : ℤ → Form
form_told (pos n) = without_depth
form_told (negsuc n) = with_depth

abbrev pub count_told : ℤ → ℕ
count_told (pos n) = n
count_told (negsuc n) = suc n

abbrev pub form_of : List ℤ → Form
form_of ws = form_told (last_word ws)

-- "A well-formed list has a count of 1 or more, at most 16,384 words"; "A list is read from the end back."
unfoldable pub lines_within : ℕ → List ℤ → Option (List Found)
lines_within limit ws =
    guarded (leb (length ws) 16384 && ltb 0 (count_told (last_word ws)))
    (lines_before_within limit (form_of ws) ws (count_told (last_word ws)) (length ws - 1))

-- ---- the line at an index

-- "refused, kind and row are 0 with the empty part at the front"
abbrev pub no_line : ℕ → Line
no_line n = record { number = n; kind = 0; row = 0; depth = 0; start = 0; end = 0 }

-- "it gives number 0, kind, row and the formula as the part of the caller's words where it stands", and the depth "beside the row"
abbrev pub line : Found → Line
line f = record {
  number = 0;
  kind = rule_number f.condition.rule;
  row = f.condition.row;
  depth = f.condition.depth;
  start = f.start;
  end = f.end;
}

-- 21: "index negative or not below the count"
abbrev pub line_of : List Found → ℤ → Line
line_of fs (pos i) = elim (get_elem? fs i) [ some f ↦ line f | none ↦ no_line 21 ]
line_of fs (negsuc i) = no_line 21

module _ (limit : ℕ) (ws : List ℤ) where
  -- 20: "the words are not a list, all read"
  unfoldable pub line_at_within : ℤ → Line
  line_at_within i = elim (lines_within limit ws) [ some fs ↦ line_of fs i | none ↦ no_line 20 ]

  abbrev pub part_at_within : ℤ → List ℤ
  part_at_within i = slice (line_at_within i).start (line_at_within i).end ws

  -- how many conditions a list has; 0 where the words are no list
  unfoldable pub condition_count_within : ℕ
  condition_count_within = elim (lines_within limit ws) [ some fs ↦ length fs | none ↦ 0 ]

-- ---- "A reader over a finished list keeps the words and its place, and walks back one condition at a time." Its place is
-- where the conditions not yet read end.

-- in neither form a condition ends at 1: the place of a reader over words that are no list, which 01 calls torn
abbrev pub malformed_place : ℕ
malformed_place = 1

module _ (limit : ℕ) (ws : List ℤ) where
  unfoldable pub first_place_within : ℕ
  first_place_within = elim (lines_within limit ws) [ some fs ↦ length ws - 1 | none ↦ malformed_place ]

  -- "On a torn list each of its steps answers 20; once the first condition is passed, 21."
  unfoldable pub step_back_within : ℕ → Line
  step_back_within zero = no_line 21
  step_back_within (suc e) = elim (line_before_within limit (form_of ws) ws (suc e)) [ some f ↦ line f | none ↦ no_line 20 ]

  unfoldable pub next_place_within : ℕ → ℕ
  next_place_within e = elim (line_before_within limit (form_of ws) ws e) [ some f ↦ f.start | none ↦ e ]

-- ---- with as many variables as there are

abbrev pub read_expr : ℕ → Row → List ℤ → Option (Read Expr)
read_expr = read_expr_within variables

abbrev pub read_formula : ℕ → Row → List ℤ → Option (Read Formula)
read_formula = read_formula_within variables

abbrev pub spelled : List ℤ → Option Formula
spelled = spelled_within variables

abbrev pub found : List ℤ → ℕ → ℤ → ℤ → ℤ → ℤ → Option Found
found = found_within variables

abbrev pub line_before : Form → List ℤ → ℕ → Option Found
line_before = line_before_within variables

abbrev pub lines_before : Form → List ℤ → ℕ → ℕ → Option (List Found)
lines_before = lines_before_within variables

abbrev pub lines : List ℤ → Option (List Found)
lines = lines_within variables

-- the conditions of a list, or nothing where the words are not a list
unfoldable pub read_list : List ℤ → Option (List Condition)
read_list ws = do
  found ← lines ws
  some (map (λ (f : Found). f.condition) found)

abbrev pub line_at : List ℤ → ℤ → Line
line_at = line_at_within variables

abbrev pub part_at : List ℤ → ℤ → List ℤ
part_at = part_at_within variables

abbrev pub condition_count : List ℤ → ℕ
condition_count = condition_count_within variables

abbrev pub first_place : List ℤ → ℕ
first_place = first_place_within variables

abbrev pub step_back : List ℤ → ℕ → Line
step_back = step_back_within variables

abbrev pub next_place : List ℤ → ℕ → ℕ
next_place = next_place_within variables
