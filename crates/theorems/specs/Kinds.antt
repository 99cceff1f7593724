-- The kind words of rows, both ways: the row of a kind word (`operator_row`, `relation_row`, `connective_row`; the others
-- compute), and the kind word of a row, with the number that comes with it (`row_fits`); and the fields
-- of an assignment (`assigned`).
-- Argument: each of the kinds of 01 fits its own number, and a row is that of one of them or unknown (`listed_holds`).
-- Assumes nothing.
use Rattle.std.specs.Prelude.{ℕ, ◌≡◌, List, [], ◌∷◌, Bool, true, false, cond, ℤ, pos, negsuc, eqb}
use Rattle.std.proofs.Math.Path.{refl}
use Rattle.std.proofs.Common.{sym, subst, eqb-true}
use Rattle.script.specs.declared.Operator.{Operator}
use Rattle.script.specs.declared.Operator.TheVariants.{Plus, Minus, Times, Div, Mod}
use Rattle.script.specs.declared.Relation.{Relation}
use Rattle.script.specs.declared.Relation.TheVariants.{Less, AtMost, Equal, Unequal}
use Rattle.script.specs.declared.Connective.{Connective}
use Rattle.script.specs.declared.Connective.TheVariants.{And, Or, Implies}
use Rattle.script.specs.declared.ExpressionRow.TheVariants.{Constant, Variable, Arithmetic, Negate, Mark, Choose}
use Rattle.script.specs.declared.FormulaRow.TheVariants.{True, False, Comparison, Not, Junction}
use Rattle.script.specs.declared.StatementRow.TheVariants.{Skip, Assign, Sequence, If, While, Assert}
use Rattle.script.specs.declared.RowNumber.{RowNumber}
use Rattle.script.specs.declared.VariableNumber.{VariableNumber}
use Rattle.script.specs.declared.Row.{Row}
use Rattle.script.specs.Rows.{Kind, listed, kinds, row_of, row_no, var_no, field_number}
use Rattle.script.specs.Words.{op_word, rel_word, conn_word}

-- the row whose kind word is k and whose fields are a, b and c
abbrev pub row_with : ℤ → ℤ → ℤ → ℤ → Row
row_with k a b c = row_of (field_number k) a b c

-- the row that the kind word k and the word a after it begin
abbrev pub begun : ℤ → ℤ → Row
begun k a = row_with k a (pos 0) (pos 0)

-- ---- the row of a kind word

module _ (a b c : ℤ) where
  pub operator_row : (o : Operator) → row_with (op_word o) a b c ≡ Row.Expression (Arithmetic o (row_no a) (row_no b))
  unfolding row_of
  operator_row Plus = refl
  operator_row Minus = refl
  operator_row Times = refl
  operator_row Div = refl
  operator_row Mod = refl

  pub relation_row : (r : Relation) → row_with (rel_word r) a b c ≡ Row.Formula (Comparison r (row_no a) (row_no b))
  unfolding row_of
  relation_row Less = refl
  relation_row AtMost = refl
  relation_row Equal = refl
  relation_row Unequal = refl

  pub connective_row : (o : Connective) → row_with (conn_word o) a b c ≡ Row.Formula (Junction o (row_no a) (row_no b))
  unfolding row_of
  connective_row And = refl
  connective_row Or = refl
  connective_row Implies = refl

-- ---- the kind word of a row

-- what holds of each kind and its number, and of the unknown row, holds of the row that is listed at a number
module _ (P : ℕ → Row → Type 0) where
  abbrev pub Each : List Kind → Type 0
  Each [] = Unit {0}
  Each (k ∷ ks) = P k.number k.of × Each ks

  pub listed_holds : (n : ℕ) (ks : List Kind) → P n Row.Unknown → Each ks → P n (listed n ks)
  listed_holds n [] u h = u
  listed_holds n (k ∷ ks) u h = pick (eqb n k.number) refl (listed_holds n ks u h.1)
    where
      pick : (t : Bool) → eqb n k.number ≡ t → P n (listed n ks) → P n (cond t k.of (listed n ks))
      pick true e later = subst (λ (m : ℕ). P m k.of) (sym (eqb-true n k.number e)) h.0
      pick false e later = later

-- the facts about a list of kinds, one after the other
infixr 20 ◌also◌
abbrev pub ◌also◌ : {P Q : Type 0} → P → Q → P × Q
p also q = (p, q)

-- a row of an expression or a formula has the kind word k, and the word a for its number where it has one
abbrev pub Fits : ℤ → ℤ → Row → Type 0
Fits k a (Row.Expression (Constant z)) = (k ≡ pos 1) × (z ≡ a)
Fits k a (Row.Expression (Variable v)) = (k ≡ pos 2) × (v.0 ≡ field_number a)
Fits k a (Row.Expression (Mark m)) = (k ≡ pos 9) × (m.0 ≡ field_number a)
Fits k a (Row.Expression (Arithmetic o x y)) = k ≡ op_word o
Fits k a (Row.Expression (Negate x)) = k ≡ pos 8
Fits k a (Row.Expression (Choose x y z)) = k ≡ pos 10
Fits k a (Row.Formula True) = k ≡ pos 16
Fits k a (Row.Formula False) = k ≡ pos 17
Fits k a (Row.Formula (Comparison r x y)) = k ≡ rel_word r
Fits k a (Row.Formula (Not x)) = k ≡ pos 22
Fits k a (Row.Formula (Junction c x y)) = k ≡ conn_word c
Fits k a (Row.Statement w) = Unit {0}
Fits k a (Row.Note x y) = Unit {0}
Fits k a (Row.Script x y z) = Unit {0}
Fits k a Row.Unknown = Unit {0}

-- the kind word and the fields of a row fit it: the kinds in the order of 01
pub row_fits : (k a b c : ℤ) → Fits k a (row_with k a b c)
unfolding row_of
row_fits (negsuc n) a b c = tt
row_fits (pos n) a b c =
    listed_holds (λ m w. Fits (pos m) a w) n (kinds a b c) tt
    ((refl, refl) also (refl, refl) also refl also refl also refl also refl also refl also refl also (refl, refl) also refl
    also refl also refl also refl also refl also refl also refl also refl also refl also refl also refl
    also tt also tt also tt also tt also tt also tt also tt also tt also tt)

-- the fields of an assignment
abbrev Assigned : ℤ → ℤ → Row → Type 0
Assigned a b (Row.Statement (Assign v e)) = (v ≡ var_no a) × (e ≡ row_no b)
Assigned a b (Row.Statement Skip) = Unit {0}
Assigned a b (Row.Statement (Sequence x y)) = Unit {0}
Assigned a b (Row.Statement (If x y z)) = Unit {0}
Assigned a b (Row.Statement (While x y z)) = Unit {0}
Assigned a b (Row.Statement (Assert x)) = Unit {0}
Assigned a b (Row.Expression w) = Unit {0}
Assigned a b (Row.Formula w) = Unit {0}
Assigned a b (Row.Note x y) = Unit {0}
Assigned a b (Row.Script x y z) = Unit {0}
Assigned a b Row.Unknown = Unit {0}

all_assigned : (k a b c : ℤ) → Assigned a b (row_with k a b c)
unfolding row_of
all_assigned (negsuc n) a b c = tt
all_assigned (pos n) a b c =
    listed_holds (λ m w. Assigned a b w) n (kinds a b c) tt
    (tt also tt also tt also tt also tt also tt also tt also tt also tt also tt
    also tt also tt also tt also tt also tt also tt also tt also tt also tt also tt
    also tt also (refl, refl) also tt also tt also tt also tt also tt also tt also tt)

pub assigned : (k a b c : ℤ) {v : VariableNumber} {e : RowNumber} → row_with k a b c ≡ Row.Statement (Assign v e)
    → (v ≡ var_no a) × (e ≡ row_no b)
assigned k a b c i = rw i at (all_assigned k a b c)
