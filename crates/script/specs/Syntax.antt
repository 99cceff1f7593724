-- The trees that an accepted table stands for. Operators, relations and connectives are the code's own enums.
-- "Because of choose, an expression may hold a formula, and a formula holds expressions." Assumes nothing.
use Rattle.std.specs.Prelude.{ℕ, ℤ, Bool}
use Rattle.script.specs.declared.Operator.{Operator}
use Rattle.script.specs.declared.Relation.{Relation}
use Rattle.script.specs.declared.Connective.{Connective}

mutual
  pub data Expr : Type 0 where
    const : ℤ → Expr
    var : ℕ → Expr
    -- the mark of the loop at a row
    mark : ℕ → Expr
    arith : Operator → Expr → Expr → Expr
    neg : Expr → Expr
    choose : Formula → Expr → Expr → Expr

  pub data Formula : Type 0 where
    truth : Bool → Formula
    cmp : Relation → Expr → Expr → Formula
    not : Formula → Formula
    join : Connective → Formula → Formula → Formula

-- each variable in it has P, and each mark Q
module _ (P Q : ℕ → Type 0) where
  abbrev mutual
    pub Names : Expr → Type 0
    Names (const z) = Unit {0}
    Names (var v) = P v
    Names (mark m) = Q m
    Names (arith o a b) = Names a × Names b
    Names (neg a) = Names a
    Names (choose f a b) = Namesᶠ f × Names a × Names b

    pub Namesᶠ : Formula → Type 0
    Namesᶠ (truth b) = Unit {0}
    Namesᶠ (cmp r a b) = Names a × Names b
    Namesᶠ (not f) = Namesᶠ f
    Namesᶠ (join c f g) = Namesᶠ f × Namesᶠ g

pub data Stmt : Type 0 where
  skip : Stmt
  assign : ℕ → Expr → Stmt
  seq : Stmt → Stmt → Stmt
  -- guard, then, else
  branch : Formula → Stmt → Stmt → Stmt
  -- row, guard, invariant, variant, body: the row names the loop's mark and its conditions
  loop : ℕ → Formula → Formula → Expr → Stmt → Stmt
  assert : Formula → Stmt

pub record Tree : Type 0 where
  pub pre : Formula
  pub body : Stmt
  pub post : Formula
  pub row : ℕ
