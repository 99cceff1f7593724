-- 02, P1: the script of a condition. In this order: names, terms, what a formula refers to, the script. Assumes nothing.
use Rattle.std.specs.Prelude.{ℕ, zero, suc, List, [], ◌∷◌, ◌++◌, map, Bool, cond, ◌||◌, ℤ, pos, negsuc, eqb}
use Rattle.script.specs.declared.Operator.{Operator}
use Rattle.script.specs.declared.Operator.TheVariants.{Plus, Minus, Times, Div, Mod}
use Rattle.script.specs.declared.Relation.{Relation}
use Rattle.script.specs.declared.Relation.TheVariants.{Less, AtMost, Equal, Unequal}
use Rattle.script.specs.declared.Connective.{Connective}
use Rattle.script.specs.declared.Connective.TheVariants.{And, Or, Implies}
use Rattle.script.specs.Syntax.{Expr, const, var, arith, neg, choose, Formula, truth, cmp, join}
use Rattle.script.specs.Syntax as Syntax
use Rattle.script.specs.Rows.{variables}
use Rattle.script.specs.Refusals.{frozen}
use Rattle.script.specs.Listing.{row_limit}
use Rattle.text.specs.Ascii.{bytes}
use Rattle.smt.specs.Smt.{Symbol, Term, numeral, constant, minus, add, sub, mul, div, modulo, ite, Claim, less, at_most, equal, distinct, not, and, or, implies, set_logic, declare_const, assert, check_sat, Script}
use Rattle.smt.specs.Smt as Smt
use Rattle.text.specs.Decimal.{decimal}

-- ---- names

-- what a condition speaks of
pub data Reference : Type 0 where
  variable : ℕ → Reference
  mark : ℕ → Reference

-- "Names are v, f (frozen) or m with the number." In ASCII v is 118, f 102 and m 109. The number is the variable's own, frozen or
-- not, so the first frozen name is f128.
abbrev pub letter : Reference → ℕ
letter (variable v) = cond (frozen v) 102 118
letter (mark m) = 109

abbrev pub name : Reference → Symbol
name (variable v) = letter (variable v) ∷ decimal v
name (mark m) = letter (mark m) ∷ decimal m

-- ---- terms

-- "A negative constant is `(- 5)`"
abbrev pub constant_term : ℤ → Term
constant_term (pos n) = numeral n
constant_term (negsuc n) = minus (numeral (suc n))

-- "the standard leaves division by zero open, so div is `(ite (= D 0) 0 (div N D))` and mod `(ite (= D 0) N (mod N D))`"
abbrev pub operate : Operator → Term → Term → Term
operate Plus a b = add a b
operate Minus a b = sub a b
operate Times a b = mul a b
operate Div n d = ite (equal d (numeral 0)) (numeral 0) (div n d)
operate Mod n d = ite (equal d (numeral 0)) n (modulo n d)

-- "unequal distinct"
abbrev pub compare : Relation → Term → Term → Claim
compare Less a b = less a b
compare AtMost a b = at_most a b
compare Equal a b = equal a b
compare Unequal a b = distinct a b

-- "implies `=>`"
abbrev pub connective : Connective → Claim → Claim → Claim
connective And f g = and f g
connective Or f g = or f g
connective Implies f g = implies f g

-- "Choose is ite"
unfoldable mutual
  pub term : Expr → Term
  term (const z) = constant_term z
  term (var v) = constant (name (variable v))
  term (Syntax.mark m) = constant (name (mark m))
  term (arith o a b) = operate o (term a) (term b)
  term (neg a) = minus (term a)
  term (choose f a b) = ite (claim f) (term a) (term b)

  pub claim : Formula → Claim
  claim (truth b) = cond b Smt.true Smt.false
  claim (cmp r a b) = compare r (term a) (term b)
  claim (Syntax.not f) = not (claim f)
  claim (join c f g) = connective c (claim f) (claim g)

-- ---- what a formula refers to

unfoldable mutual
  pub expr_references : Expr → List Reference
  expr_references (const z) = []
  expr_references (var v) = variable v ∷ []
  expr_references (Syntax.mark m) = mark m ∷ []
  expr_references (arith o a b) = expr_references a ++ expr_references b
  expr_references (neg a) = expr_references a
  expr_references (choose f a b) = references f ++ (expr_references a ++ expr_references b)

  pub references : Formula → List Reference
  references (truth b) = []
  references (cmp r a b) = expr_references a ++ expr_references b
  references (Syntax.not f) = references f
  references (join c f g) = references f ++ references g

abbrev pub same_reference : Reference → Reference → Bool
same_reference (variable v) (variable w) = eqb v w
same_reference (variable v) (mark m) = Bool.false
same_reference (mark m) (variable v) = Bool.false
same_reference (mark m) (mark n) = eqb m n

abbrev pub refers : Reference → List Reference → Bool
refers r [] = Bool.false
refers r (q ∷ qs) = same_reference r q || refers r qs

-- the numbers below n that occur with a kind of name, rising
unfoldable pub occurring : (ℕ → Reference) → ℕ → List Reference → List ℕ
occurring kind zero rs = []
occurring kind (suc n) rs = occurring kind n rs ++ cond (refers (kind n) rs) (n ∷ []) []

-- ---- the script

-- "for each variable, then each mark, that occurs, in rising number", where the variables are those below a limit
abbrev pub declared_references_within : ℕ → List Reference → List Reference
declared_references_within limit rs = map variable (occurring variable limit rs) ++ map mark (occurring mark row_limit rs)

abbrev pub declared_references : List Reference → List Reference
declared_references = declared_references_within variables

abbrev pub declarations : List Reference → Script
declarations [] = []
declarations (r ∷ rs) = declare_const (name r) ∷ declarations rs

-- "the negated condition asserted"
abbrev pub assertion : Formula → Claim
assertion f = not (claim f)

-- "`(set-logic QF_NIA)`, `(declare-const v0 Int)` for each variable, then each mark, that occurs, in rising number, the
-- negated condition asserted, `(check-sat)`"
unfoldable pub script_within : ℕ → Formula → Script
script_within limit f =
    set_logic (bytes "QF_NIA")
    ∷ (declarations (declared_references_within limit (references f)) ++ (assert (assertion f) ∷ check_sat ∷ []))

abbrev pub script : Formula → Script
script = script_within variables
