-- 01, "Meaning of a run", its first two paragraphs: states, values, truth.
-- In this order: states, div and mod, an arithmetic, the value of an expression and the truth of a formula; then 02, P5:
-- whether they work out a zero divisor. Assumes nothing.
use Rattle.std.specs.Prelude.{ℕ, zero, suc, ◌/◌, ◌%◌, ◌-◌, ℤ, pos, negsuc, neg_ℤ, ◌+ℤ◌, ◌-ℤ◌, ◌*ℤ◌, nat_abs, eqb, Bool, true, false, cond, ◌&&◌, ◌||◌}
use Rattle.std.specs.Int.Signed.{lt_z, le_z}
use Rattle.std.proofs.Math.Bool as Bool
use Rattle.script.specs.Syntax.{Expr, const, var, mark, arith, neg, choose, Formula, truth, cmp, not, join}
use Rattle.script.specs.declared.Operator.{Operator}
use Rattle.script.specs.declared.Operator.TheVariants.{Plus, Minus, Times, Div, Mod}
use Rattle.script.specs.declared.Relation.{Relation}
use Rattle.script.specs.declared.Relation.TheVariants.{Less, AtMost, Equal, Unequal}
use Rattle.script.specs.declared.Connective.{Connective}
use Rattle.script.specs.declared.Connective.TheVariants.{And, Or, Implies}

-- "A state gives every variable, frozen name and mark a whole number"
pub record State : Type 0 where
  pub var : ℕ → ℤ
  pub mark : ℕ → ℤ

-- "Div and mod are those of SMT-LIB Ints: n = d × q + r with 0 ≤ r < |d|. Here n div 0 is 0 and n mod 0 is n."
-- The divisor's size first; `Division` proves the sentence of them.
abbrev modN : ℤ → ℕ → ℤ
modN n zero = n
modN (pos a) (suc d) = pos (a % suc d)
modN (negsuc a) (suc d) = pos (d - a % suc d)

abbrev pub modZ : ℤ → ℤ → ℤ
modZ n d = modN n (nat_abs d)

abbrev divN : ℤ → ℕ → ℤ
divN n zero = pos 0
divN (pos a) (suc d) = pos (a / suc d)
divN (negsuc a) (suc d) = negsuc (a / suc d)

abbrev pub divZ : ℤ → ℤ → ℤ
divZ n (pos d) = divN n d
divZ n (negsuc d) = neg_ℤ (divN n (suc d))

-- what the operators of an expression do; nothing in the rules' soundness looks inside
pub record Arithmetic : Type 0 where
  pub op : Operator → ℤ → ℤ → ℤ
  pub neg : ℤ → ℤ

abbrev wholeOp : Operator → ℤ → ℤ → ℤ
wholeOp Plus a b = a +ℤ b
wholeOp Minus a b = a -ℤ b
wholeOp Times a b = a *ℤ b
wholeOp Div a b = divZ a b
wholeOp Mod a b = modZ a b

-- the whole numbers, without limit
abbrev pub whole : Arithmetic
whole = record { op = wholeOp; neg = neg_ℤ }

abbrev pub eqZ : ℤ → ℤ → Bool
eqZ (pos a) (pos b) = eqb a b
eqZ (pos a) (negsuc b) = false
eqZ (negsuc a) (pos b) = false
eqZ (negsuc a) (negsuc b) = eqb a b

abbrev pub relate : Relation → ℤ → ℤ → Bool
relate Less a b = lt_z a b
relate AtMost a b = le_z a b
relate Equal a b = eqZ a b
relate Unequal a b = Bool.not (eqZ a b)

-- "Connectives are two-valued"
abbrev pub connect : Connective → Bool → Bool → Bool
connect And a b = a && b
connect Or a b = a || b
connect Implies a b = Bool.not a || b

-- "choose takes its first expression where its formula is true, else its second"
module _ (𝔸 : Arithmetic) (s : State) where
  unfoldable mutual
    pub value : Expr → ℤ
    value (const z) = z
    value (var v) = s.var v
    value (mark m) = s.mark m
    value (arith o a b) = 𝔸.op o (value a) (value b)
    value (neg a) = 𝔸.neg (value a)
    value (choose f a b) = cond (holds f) (value a) (value b)

    pub holds : Formula → Bool
    holds (truth b) = b
    holds (cmp r a b) = relate r (value a) (value b)
    holds (not f) = Bool.not (holds f)
    holds (join c f g) = connect c (holds f) (holds g)

-- ---- 02, P5: "a guard or assigned expression that works out a div or mod by zero"

-- whether an operator takes z for its divisor: only div and mod mind, and zero alone is refused
abbrev pub takes : Operator → ℤ → Bool
takes Plus z = true
takes Minus z = true
takes Times z = true
takes Div z = Bool.not (eqZ z (pos 0))
takes Mod z = Bool.not (eqZ z (pos 0))

-- whether no div or mod by zero is worked out: "choose works out only the branch taken, connectives both sides"
module _ (𝔸 : Arithmetic) (s : State) where
  unfoldable mutual
    pub defined : Expr → Bool
    defined (const z) = true
    defined (var v) = true
    defined (mark m) = true
    defined (arith o a b) = (defined a && defined b) && takes o (value 𝔸 s b)
    defined (neg a) = defined a
    defined (choose f a b) = definedᶠ f && cond (holds 𝔸 s f) (defined a) (defined b)

    pub definedᶠ : Formula → Bool
    definedᶠ (truth b) = true
    definedᶠ (cmp r a b) = defined a && defined b
    definedᶠ (not f) = definedᶠ f
    definedᶠ (join c f g) = definedᶠ f && definedᶠ g
