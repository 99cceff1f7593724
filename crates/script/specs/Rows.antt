-- 01, "Rows of a script": the kinds, and for each kind its sort and its fields.
-- In this order: the number in a field, a row taken apart, the table of kinds, the row at a number. Assumes nothing.
use Rattle.std.specs.Prelude.{ℕ, ◌+◌, ◌*◌, ◌/◌, List, [], ◌∷◌, cond, ℤ, pos, negsuc, eqb, length, get_or}
use Rattle.script.specs.declared.Operator.TheVariants.{Plus, Minus, Times, Div, Mod}
use Rattle.script.specs.declared.Relation.TheVariants.{Less, AtMost, Equal, Unequal}
use Rattle.script.specs.declared.Connective.TheVariants.{And, Or, Implies}
use Rattle.script.specs.declared.RowNumber.{RowNumber}
use Rattle.script.specs.declared.VariableNumber.{VariableNumber}
use Rattle.script.specs.declared.ExpressionRow.TheVariants.{Constant, Variable, Arithmetic, Negate, Mark, Choose}
use Rattle.script.specs.declared.FormulaRow.TheVariants.{True, False, Comparison, Not, Junction}
use Rattle.script.specs.declared.StatementRow.TheVariants.{Skip, Assign, Sequence, If, While, Assert}
use Rattle.script.specs.declared.Row.{Row}
use Rattle.script.specs.declared.Sort.{Sort}
use Rattle.script.specs.declared.Sort.TheVariants.{Expression, Formula, Statement, Note, Script, Unknown}

-- ---- a row, taken apart

-- the number in a field; a negative one is read as one that is beyond every range
abbrev pub field_number : ℤ → ℕ
field_number (pos n) = n
field_number (negsuc n) = 4294967295

abbrev pub row_no : ℤ → RowNumber
row_no w = record { 0 = field_number w }

abbrev pub var_no : ℤ → VariableNumber
var_no w = record { 0 = field_number w }

-- a number with the row that it is the kind of
pub record Kind : Type 0 where
  pub number : ℕ
  pub of : Row

abbrev kind : ℕ → Row → Kind
kind n w = record { number = n; of = w }

-- the row of the first kind with this number; unknown: "kind not listed"
abbrev pub listed : ℕ → List Kind → Row
listed n [] = Row.Unknown
listed n (k ∷ ks) = cond (eqb n k.number) k.of (listed n ks)

-- the kinds of 01, of a row with the fields a, b and c
abbrev pub kinds : ℤ → ℤ → ℤ → List Kind
kinds a b c =
    kind 1 (Row.Expression (Constant a))
    ∷ kind 2 (Row.Expression (Variable (var_no a)))
    ∷ kind 3 (Row.Expression (Arithmetic Plus (row_no a) (row_no b)))
    ∷ kind 4 (Row.Expression (Arithmetic Minus (row_no a) (row_no b)))
    ∷ kind 5 (Row.Expression (Arithmetic Times (row_no a) (row_no b)))
    ∷ kind 6 (Row.Expression (Arithmetic Div (row_no a) (row_no b)))
    ∷ kind 7 (Row.Expression (Arithmetic Mod (row_no a) (row_no b)))
    ∷ kind 8 (Row.Expression (Negate (row_no a)))
    ∷ kind 9 (Row.Expression (Mark (row_no a)))
    ∷ kind 10 (Row.Expression (Choose (row_no a) (row_no b) (row_no c)))
    ∷ kind 16 (Row.Formula True)
    ∷ kind 17 (Row.Formula False)
    ∷ kind 18 (Row.Formula (Comparison Less (row_no a) (row_no b)))
    ∷ kind 19 (Row.Formula (Comparison AtMost (row_no a) (row_no b)))
    ∷ kind 20 (Row.Formula (Comparison Equal (row_no a) (row_no b)))
    ∷ kind 21 (Row.Formula (Comparison Unequal (row_no a) (row_no b)))
    ∷ kind 22 (Row.Formula (Not (row_no a)))
    ∷ kind 23 (Row.Formula (Junction And (row_no a) (row_no b)))
    ∷ kind 24 (Row.Formula (Junction Or (row_no a) (row_no b)))
    ∷ kind 25 (Row.Formula (Junction Implies (row_no a) (row_no b)))
    ∷ kind 32 (Row.Statement Skip)
    ∷ kind 33 (Row.Statement (Assign (var_no a) (row_no b)))
    ∷ kind 34 (Row.Statement (Sequence (row_no a) (row_no b)))
    ∷ kind 35 (Row.Statement (If (row_no a) (row_no b) (row_no c)))
    ∷ kind 36 (Row.Statement (While (row_no a) (row_no b) (row_no c)))
    ∷ kind 37 (Row.Note (row_no a) (row_no b))
    ∷ kind 38 (Row.Statement (Assert (row_no a)))
    ∷ kind 48 (Row.Script (row_no a) (row_no b) (row_no c))
    ∷ []

-- the row whose kind is n and whose fields are a, b and c
unfoldable pub row_of : ℕ → ℤ → ℤ → ℤ → Row
row_of n a b c = listed n (kinds a b c)

-- ---- the table of kinds: sort and fields

abbrev pub sort_of : Row → Sort
sort_of (Row.Expression x) = Expression
sort_of (Row.Formula x) = Formula
sort_of (Row.Statement x) = Statement
sort_of (Row.Note i v) = Note
sort_of (Row.Script p s q) = Script
sort_of Row.Unknown = Unknown

-- what a field that is used holds
pub data Field : Type 0 where
  -- any 32-bit value
  value : Field
  -- the number of a variable that is read
  variable : ℕ → Field
  -- the number of a variable that is assigned to
  target : ℕ → Field
  -- "row number of a loop, not a link"
  loop : ℕ → Field
  -- a link: a row that must be lower and of this sort
  link : Sort → ℕ → Field

abbrev to : Sort → RowNumber → Field
to s r = link s r.0

abbrev pub fields : Row → List Field
fields (Row.Expression (Constant z)) = value ∷ []
fields (Row.Expression (Variable v)) = variable v.0 ∷ []
fields (Row.Expression (Arithmetic o a b)) = to Expression a ∷ to Expression b ∷ []
fields (Row.Expression (Negate a)) = to Expression a ∷ []
fields (Row.Expression (Mark m)) = loop m.0 ∷ []
fields (Row.Expression (Choose f a b)) = to Formula f ∷ to Expression a ∷ to Expression b ∷ []
fields (Row.Formula True) = []
fields (Row.Formula False) = []
fields (Row.Formula (Comparison o a b)) = to Expression a ∷ to Expression b ∷ []
fields (Row.Formula (Not f)) = to Formula f ∷ []
fields (Row.Formula (Junction o f g)) = to Formula f ∷ to Formula g ∷ []
fields (Row.Statement Skip) = []
fields (Row.Statement (Assign v e)) = target v.0 ∷ to Expression e ∷ []
fields (Row.Statement (Sequence a b)) = to Statement a ∷ to Statement b ∷ []
fields (Row.Statement (If b x y)) = to Formula b ∷ to Statement x ∷ to Statement y ∷ []
fields (Row.Statement (While b i x)) = to Formula b ∷ to Note i ∷ to Statement x ∷ []
fields (Row.Statement (Assert f)) = to Formula f ∷ []
fields (Row.Note i v) = to Formula i ∷ to Expression v ∷ []
fields (Row.Script p s q) = to Formula p ∷ to Statement s ∷ to Formula q ∷ []
fields Row.Unknown = []

-- a part of a row: the row that a field links to, and the sort that it must have
pub record Part : Type 0 where
  pub at : ℕ
  pub sort : Sort

abbrev pub links : List Field → List Part
links [] = []
links (value ∷ fs) = links fs
links (variable v ∷ fs) = links fs
links (target v ∷ fs) = links fs
links (loop m ∷ fs) = links fs
links (link s r ∷ fs) = record { at = r; sort = s } ∷ links fs

abbrev pub parts : Row → List Part
parts w = links (fields w)

-- how many variables there are. 01: "2 variable | expression | number 0 to 255"; 02, P2: "Numbers 256 to 1,023 become
-- ordinary"
abbrev pub variables : ℕ
variables = 1024

-- ---- "A table is a lent run of 32-bit signed words, four to a row: kind, first, second, third. Rows count from 0; at most
-- 2,048."

module _ (ws : List ℤ) where
  abbrev pub rows : ℕ
  rows = length ws / 4

  abbrev pub word : ℕ → ℕ → ℤ
  word r f = get_or ws (4 * r + f) (pos 0)

  abbrev pub at_kind : ℤ → ℕ → Row
  at_kind (pos n) r = row_of n (word r 1) (word r 2) (word r 3)
  at_kind (negsuc n) r = Row.Unknown

  unfoldable pub row : ℕ → Row
  row r = at_kind (word r 0) r
