-- 01, "Conditions", with D of 02, P5, and the depth of 02, P9: substitution, D, W, and the conditions that a walk lists, in order.
-- Nothing is simplified.
-- The language and the shape of loops follow source document 000; the base rules are those of Hoare 1969; the conditions of
-- a while are those of source document 004, section 3.4, with the variant added. Assumes nothing.
use Rattle.std.specs.Prelude.{ℕ, suc, List, [], ◌∷◌, ◌++◌, cond, pos, eqb}
use Rattle.std.proofs.Math.Option.{Option, none, some}
use Rattle.script.specs.Syntax.{Expr, const, var, mark, arith, neg, choose, Formula, truth, cmp, not, join, Stmt, skip, assign, seq, branch, loop, assert, Tree}
use Rattle.script.specs.declared.Operator.{Operator}
use Rattle.script.specs.declared.Operator.TheVariants.{Plus, Minus, Times, Div, Mod}
use Rattle.script.specs.declared.Relation.TheVariants.{Less, AtMost, Equal, Unequal}
use Rattle.script.specs.declared.Connective.TheVariants.{And, Implies}
use Rattle.script.specs.declared.Rule.{Rule}
use Rattle.script.specs.declared.Rule.TheVariants.{Exit, Floor, Step, Main, Guard}

-- "each variable v replaced by E, all at once"
module _ (v : ℕ) (e : Expr) where
  unfoldable mutual
    pub subst_expr : Expr → Expr
    subst_expr (const z) = const z
    subst_expr (var w) = cond (eqb w v) e (var w)
    subst_expr (mark m) = mark m
    subst_expr (arith o a b) = arith o (subst_expr a) (subst_expr b)
    subst_expr (neg a) = neg (subst_expr a)
    subst_expr (choose f a b) = choose (subst_formula f) (subst_expr a) (subst_expr b)

    pub subst_formula : Formula → Formula
    subst_formula (truth b) = truth b
    subst_formula (cmp r a b) = cmp r (subst_expr a) (subst_expr b)
    subst_formula (not f) = not (subst_formula f)
    subst_formula (join c f g) = join c (subst_formula f) (subst_formula g)

-- ---- 02, P5: "D(E) says no divisor is zero"

infixl 30 ◌joined◌
-- items in order, "each kept whole, joined by and, grouped from the left". "What has no div or mod adds nothing": its D is
-- none, and none is no item
abbrev pub ◌joined◌ : Option Formula → Option Formula → Option Formula
none joined y = y
some f joined none = some f
some f joined some g = some (join And f g)

-- "in a choose the branches' D stand behind formula implies and (not formula) implies"
abbrev pub behind : Formula → Option Formula → Option Formula
behind f none = none
behind f (some g) = some (join Implies f g)

-- "for div and mod the divisor unequal to 0"
abbrev pub divisor : Operator → Expr → Option Formula
divisor Plus d = none
divisor Minus d = none
divisor Times d = none
divisor Div d = some (cmp Unequal d (const (pos 0)))
divisor Mod d = some (cmp Unequal d (const (pos 0)))

-- "each part's D in order, then for div and mod the divisor unequal to 0"
unfoldable mutual
  pub divisors : Expr → Option Formula
  divisors (const z) = none
  divisors (var v) = none
  divisors (mark m) = none
  divisors (arith o a b) = divisors a joined divisors b joined divisor o b
  divisors (neg a) = divisors a
  divisors (choose f a b) = divisorsᶠ f joined behind f (divisors a) joined behind (not f) (divisors b)

  pub divisorsᶠ : Formula → Option Formula
  divisorsᶠ (truth b) = none
  divisorsᶠ (cmp r a b) = divisors a joined divisors b
  divisorsᶠ (not f) = divisorsᶠ f
  divisorsᶠ (join c f g) = divisorsᶠ f joined divisorsᶠ g

infixr 20 ◌and◌
-- "D(E) and the old formula", or the old formula alone
abbrev pub ◌and◌ : Option Formula → Formula → Formula
none and q = q
some d and q = join And d q

-- "W(S, Q) is the formula to hold before S": where S has no loop, the weakest precondition. "The rule for a statement refers
-- to the rule for its parts"
unfoldable pub wp : Stmt → Formula → Formula
-- "Q"
wp skip q = q
-- 02, P5: "D(E) and the old formula", which is "Q with each variable v replaced by E, all at once"
wp (assign v e) q = divisors e and subst_formula v e q
-- "W(S, W(T, Q))"
wp (seq a b) q = wp a (wp b q)
-- 02, P5: "D(B) and the old formula", which is "(B implies W(S, Q)) and ((not B) implies W(T, Q))"
wp (branch b x y) q = divisorsᶠ b and join And (join Implies b (wp x q)) (join Implies (not b) (wp y q))
-- "its invariant I"
wp (loop m b i v x) q = i
-- "A and Q"
wp (assert a) q = join And a q

-- the rule that it comes from, the row of its loop or of the script, "how many loops enclose the named one, 0 for main" (02, P9),
-- and the formula
pub record Condition : Type 0 where
  pub rule : Rule
  pub row : ℕ
  pub depth : ℕ
  pub claim : Formula

abbrev pub condition : Rule → ℕ → ℕ → Formula → Condition
condition k r d f = record { rule = k; row = r; depth = d; claim = f }

-- "(I and (V less m))"
abbrev pub decreased : ℕ → Formula → Expr → Formula
decreased m i v = join And i (cmp Less v (mark m))

-- "(I and (not B)) implies Q"
abbrev pub exit : Formula → Formula → Formula → Formula
exit b i q = join Implies (join And i (not b)) q

-- "(I and B) implies (0 at most V)"
abbrev pub floor : Formula → Formula → Expr → Formula
floor b i v = join Implies (join And i b) (cmp AtMost (const (pos 0)) v)

-- "((I and B) and (V equal m)) implies W(body, I and (V less m))"
abbrev pub step : ℕ → Formula → Formula → Expr → Stmt → Formula
step m b i v x = join Implies (join And (join And i b) (cmp Equal v (mark m))) (wp x (decreased m i v))

-- 02, P5: "a loop whose guard divides lists first a condition of kind 5, guard: I implies D(B)"
abbrev pub guard : ℕ → ℕ → Formula → Option Formula → List Condition
guard m depth i none = []
guard m depth i (some d) = condition Guard m depth (join Implies i d) ∷ []

-- "Walk order: a sequence lists its second part's conditions first; an if lists those of then, next those of else." A loop
-- lists guard where its guard divides, exit, floor, "all conditions of its body, walked with (I and (V less m))", and step. What is
-- walked stands in the bodies of so many loops; the body of a loop stands in one more (02, P9).
unfoldable pub walk : ℕ → Stmt → Formula → List Condition
walk depth skip q = []
walk depth (assign v e) q = []
walk depth (seq a b) q = walk depth b q ++ walk depth a (wp b q)
walk depth (branch b x y) q = walk depth x q ++ walk depth y q
walk depth (loop m b i v x) q =
    guard m depth i (divisorsᶠ b)
    ++ (condition Exit m depth (exit b i q) ∷ condition Floor m depth (floor b i v)
    ∷ (walk (suc depth) x (decreased m i v) ++ (condition Step m depth (step m b i v x) ∷ [])))
walk depth (assert a) q = []

-- "Last comes main: P implies W(S, Q)."
unfoldable pub conditions : Tree → List Condition
conditions t =
    walk 0 t.body t.post
    ++ (condition Main t.row 0 (join Implies t.pre (wp t.body t.post)) ∷ [])
