-- What is asked and left where a division is written up to its divisor, and where the divisor stands. Assumes nothing.
use Rattle.std.specs.Prelude.{ℕ, ◌+◌, ◌<◌, ◌≡◌, List, ◌∷◌, ◌++◌, ℤ, pos, length}
use Rattle.std.proofs.Math.Path.{ap}
use Rattle.script.specs.Rows.{variables}
use Rattle.script.specs.declared.kinds.Kind.{Kind}
use Rattle.script.specs.Kinds.{kind_of}
use Rattle.script.specs.Syntax.{Expr}
use Rattle.script.specs.Words.{expr_words}
use Rattle.script.specs.WellFormed.{InRange}
use Rattle.theorems.specs.Reading.{expr_back}
use Rattle.output.specs.declared.Output.{Output}
use Rattle.output.specs.Written.{Written}
use Rattle.list_reader.specs.Ends.{rest_of, after_expression, ExpressionEnds, ends_past}
use Rattle.theorems.specs.WordsAt.{Stands, front, behind, past, expression, node_inside}
use Rattle.smt_writer.specs.Nodes.{NodeAt, at_place}
use Rattle.smt_writer.specs.Openings.{by_zero_text, before_divisor}
use Rattle.smt_writer.specs.Turns.{Begins}

-- n divided by d stands at a place
pub record DivisionAt (ws : List ℤ) (at k : ℕ) (n d : Expr) : Type 0 where
  pub words : Stands ws at (pos k ∷ (expr_words n ++ expr_words d))
  pub ranges : InRange n × InRange d

-- some division does
pub record Divides (ws : List ℤ) (at k : ℕ) : Type 0 where
  pub dividend : Expr
  pub divisor : Expr
  pub stands : DivisionAt ws at k dividend divisor

-- some division of a kind does
pub record DividesBy (ws : List ℤ) (at : ℕ) (kind : Kind) : Type 0 where
  pub number : ℕ
  pub is : kind ≡ kind_of number
  pub divides : Divides ws at number

-- ---- what is left

pub record ByZero (ws : List ℤ) (at k : ℕ) (o o' : Output ℕ) : Type 0 where
  pub wrote : (n d : Expr) → DivisionAt ws at k n d → Written o (by_zero_text k n) o'

-- e is where the divisor stands
pub record Divided (ws : List ℤ) (at k : ℕ) (o : Output ℕ) (e : ℕ) (o' : Output ℕ) : Type 0 where
  pub wrote : (n d : Expr) → DivisionAt ws at k n d → Written o (before_divisor k n d) o'
  pub divisor : (n d : Expr) → DivisionAt ws at k n d → e ≡ at + 1 + length (expr_words n)

-- ---- the parts

module _ {ws : List ℤ} {at k : ℕ} {n d : Expr} (s : DivisionAt ws at k n d) where
  pub dividend_at : NodeAt ws (at + 1) (expression n)
  dividend_at = record { words = front (expr_words d) (past s.words); range = s.ranges.0 }

  pub divisor_at : NodeAt ws (at + 1 + length (expr_words n)) (expression d)
  divisor_at = record { words = behind (expr_words n) (past s.words); range = s.ranges.1 }

  pub division_inside : at + 1 < length ws
  division_inside = node_inside (expression n) dividend_at.words

  pub division_begins : Begins ws (at + 1)
  division_begins = record { node = expression n; stands = dividend_at }

  -- where the dividend ends
  pub divisor_place : {e : ℕ} → ExpressionEnds ws (at + 1) e → e ≡ at + 1 + length (expr_words n)
  unfolding after_expression
  divisor_place ends =
      ends_past after_expression (expr_words n) (λ m rest l. ap rest_of (expr_back variables n m s.ranges.0 l rest)) dividend_at.words.rest dividend_at.words.is ends.reads

  pub divisor_stands : {e : ℕ} → ExpressionEnds ws (at + 1) e → NodeAt ws e (expression d)
  divisor_stands ends = at_place (divisor_place ends) divisor_at
