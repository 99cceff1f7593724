-- The script of a condition means that the condition is false. `term_value` and `claim_truth`: in every model, whatever its
-- division by zero is, a term has the value of its expression and a claim the truth of its formula, in the state that the
-- model's values make. `in_every_state`: in every state, with any division, the assertion is true exactly where the
-- condition is false. `no_model_iff`: the script has no model exactly when the condition is valid. `model_iff`: it has a
-- model exactly when there is a state in which the condition is false. Assumes nothing.
use Rattle.std.specs.Prelude.{ℕ, zero, suc, ◌≡◌, ◌↔◌, ◌≢◌, Bool, cond, List, [], ◌∷◌, ◌++◌, ℤ, pos, negsuc, T, eqb}
use Rattle.std.proofs.Math.Path.{refl}
use Rattle.std.proofs.Common.{ap, ◌∙◌, arith as linear}
use Rattle.std.proofs.Math.Bool as Bool
use Rattle.std.proofs.Math.Dec.{eqb-suc-zero}
use Rattle.script.specs.declared.Operator.{Operator}
use Rattle.script.specs.declared.Operator.TheVariants.{Plus, Minus, Times, Div, Mod}
use Rattle.script.specs.declared.Relation.{Relation}
use Rattle.script.specs.declared.Relation.TheVariants.{Less, AtMost, Equal, Unequal}
use Rattle.script.specs.declared.Connective.{Connective}
use Rattle.script.specs.declared.Connective.TheVariants.{And, Or, Implies}
use Rattle.script.specs.Syntax.{Expr, const, var, arith, neg, choose, Formula, truth, cmp, join}
use Rattle.script.specs.Syntax as Syntax
use Rattle.script.specs.Refusals.{frozen}
use Rattle.script.specs.Meaning.{State, whole, value, holds, connect, relate, divZ, modZ, eqZ}
use Rattle.script.specs.Promise.{Valid}
use Rattle.theorems.specs.Division.{division, only_division}
use Rattle.smt.specs.Smt.{Symbol, Term, Claim, Division, Model, int, bool, assert, check_sat, Script, Satisfies, Satisfiable}
use Rattle.text.specs.Decimal.{decimal, number, number_decimal}
use Rattle.smt.specs.Translate.{Reference, variable, mark, name, constant_term, operate, compare, connective, term, claim, assertion, declarations, declared_references, references, script, script_within}

-- the state that the values of a model make
abbrev pub state_of : Model → State
state_of M = record { var = λ v. M.value (name (variable v)); mark = λ m. M.value (name (mark m)) }

-- ---- operators

above_zero : (d : ℕ) → pos (suc d) ≢ pos 0
above_zero d e = let z : suc d ≡ 0 = cc in omega linear

below_zero : (d : ℕ) → negsuc d ≢ pos 0
below_zero d e = let z : ◌≡◌ {A = ℕ} 0 1 = cc in omega linear

-- guarded so, division is that of the conditions, whatever it is by zero
guarded_div : (D : Division) (n d : ℤ) → cond (eqZ d (pos 0)) (pos 0) (D.quotient n d) ≡ divZ n d
guarded_div D n (pos zero) = refl
guarded_div D n (pos (suc d)) = rw (eqb-suc-zero d) (only_division n (pos (suc d)) _ _ (D.law n (pos (suc d)) (above_zero d))).0
guarded_div D n (negsuc d) = (only_division n (negsuc d) _ _ (D.law n (negsuc d) (below_zero d))).0

guarded_mod : (D : Division) (n d : ℤ) → cond (eqZ d (pos 0)) n (D.remainder n d) ≡ modZ n d
guarded_mod D n (pos zero) = refl
guarded_mod D n (pos (suc d)) = rw (eqb-suc-zero d) (only_division n (pos (suc d)) _ _ (D.law n (pos (suc d)) (above_zero d))).1
guarded_mod D n (negsuc d) = (only_division n (negsuc d) _ _ (D.law n (negsuc d) (below_zero d))).1

module _ (M : Model) where
  operate_value : (o : Operator) (a b : Term) → int M (operate o a b) ≡ whole.op o (int M a) (int M b)
  unfolding int
  operate_value Plus a b = refl
  operate_value Minus a b = refl
  operate_value Times a b = refl
  operate_value Div a b = guarded_div M.division (int M a) (int M b)
  operate_value Mod a b = guarded_mod M.division (int M a) (int M b)

  compare_truth : (r : Relation) (a b : Term) → bool M (compare r a b) ≡ relate r (int M a) (int M b)
  unfolding int
  compare_truth Less a b = refl
  compare_truth AtMost a b = refl
  compare_truth Equal a b = refl
  compare_truth Unequal a b = refl

  connective_truth : (c : Connective) (f g : Claim) → bool M (connective c f g) ≡ connect c (bool M f) (bool M g)
  unfolding int
  connective_truth And f g = refl
  connective_truth Or f g = refl
  connective_truth Implies f g = refl

  constant_value : (z : ℤ) → int M (constant_term z) ≡ z
  unfolding int
  constant_value (pos n) = refl
  constant_value (negsuc n) = refl

  truth_value : (b : Bool) → bool M (claim (truth b)) ≡ b
  unfolding int claim
  truth_value Bool.true = refl
  truth_value Bool.false = refl

  mutual
    unfolding int term value

    pub term_value : (e : Expr) → int M (term e) ≡ value whole (state_of M) e
    term_value (const z) = constant_value z
    term_value (var v) = refl
    term_value (Syntax.mark m) = refl
    term_value (arith o a b) =
        operate_value o (term a) (term b) ∙ λ i. whole.op o (term_value a i) (term_value b i)
    term_value (neg a) = λ i. whole.neg (term_value a i)
    term_value (choose f a b) = λ i. cond (claim_truth f i) (term_value a i) (term_value b i)

    pub claim_truth : (f : Formula) → bool M (claim f) ≡ holds whole (state_of M) f
    claim_truth (truth b) = truth_value b
    claim_truth (cmp r a b) = compare_truth r (term a) (term b) ∙ λ i. relate r (term_value a i) (term_value b i)
    claim_truth (Syntax.not f) = λ i. Bool.not (claim_truth f i)
    claim_truth (join c f g) = connective_truth c (claim f) (claim g) ∙ λ i. connect c (claim_truth f i) (claim_truth g i)

-- ---- a state as a model

-- the value of a name, by its letter and the number after it
abbrev lookup : State → Symbol → ℤ
lookup s [] = pos 0
lookup s (c ∷ cs) = cond (eqb c 109) (s.mark (number cs)) (s.var (number cs))

abbrev pub model : State → Division → Model
model s D = record { value = lookup s; division = D }

variable_looked_up : (s : State) (b : Bool) (ds : List ℕ) → lookup s (cond b 102 118 ∷ ds) ≡ s.var (number ds)
variable_looked_up s Bool.true ds = refl
variable_looked_up s Bool.false ds = refl

pub state_of_model : (s : State) (D : Division) → state_of (model s D) ≡ s
state_of_model s D = λ i. record { var = λ v. variables_agree v i; mark = λ m. ap s.mark (number_decimal m) i }
  where
    variables_agree : (v : ℕ) → lookup s (name (variable v)) ≡ s.var v
    variables_agree v = variable_looked_up s (frozen v) (decimal v) ∙ ap s.var (number_decimal v)

-- ---- the assertion

pub in_every_state : (s : State) (D : Division) (f : Formula) → bool (model s D) (assertion f) ≡ Bool.not (holds whole s f)
unfolding bool
in_every_state s D f = ap Bool.not (claim_truth (model s D) f ∙ ap (λ t. holds whole t f) (state_of_model s D))

-- ---- the script

-- there is such a division
pub some_division : Division
some_division = record { quotient = divZ; remainder = modZ; law = division }

-- declarations ask nothing of a model
declared_satisfied : (M : Model) (rs : List Reference) (cs : Script) → Satisfies M cs → Satisfies M (declarations rs ++ cs)
declared_satisfied M [] cs h = h
declared_satisfied M (r ∷ rs) cs h = declared_satisfied M rs cs h

satisfied_declared : (M : Model) (rs : List Reference) (cs : Script) → Satisfies M (declarations rs ++ cs) → Satisfies M cs
satisfied_declared M [] cs h = h
satisfied_declared M (r ∷ rs) cs h = satisfied_declared M rs cs h

-- a model satisfies the script exactly where it makes the assertion true
pub satisfies_iff : (M : Model) (f : Formula) → Satisfies M (script f) ↔ T (bool M (assertion f))
unfolding script_within
satisfies_iff M f = (
  λ h. (satisfied_declared M (declared_references (references f)) (assert (assertion f) ∷ check_sat ∷ []) h).0,
  λ t. declared_satisfied M (declared_references (references f)) (assert (assertion f) ∷ check_sat ∷ []) (t, tt),
)

decided : (b : Bool) → ¬ T (Bool.not b) → T b
decided Bool.true h = tt
decided Bool.false h = h tt

not_both : (b : Bool) → T b → ¬ T (Bool.not b)
not_both Bool.true t n = n
not_both Bool.false t n = t

-- a model of the script is a state in which the condition is false
pub model_iff : (f : Formula) → Satisfiable (script f) ↔ ((s : State) × T (Bool.not (holds whole s f)))
unfolding bool
model_iff f = (
  λ m. (state_of m.0, rw (claim_truth m.0 f) at ((satisfies_iff m.0 f).0 m.1)),
  λ s. (model s.0 some_division, (satisfies_iff (model s.0 some_division) f).1 (rw (in_every_state s.0 some_division f) s.1)),
)

-- the script has no model exactly when the condition is valid
pub no_model_iff : (f : Formula) → (¬ Satisfiable (script f)) ↔ Valid whole f
no_model_iff f = (
  λ h s. decided (holds whole s f) (λ t. h ((model_iff f).1 (s, t))),
  λ v m. let c = (model_iff f).0 m in not_both (holds whole c.0 f) (v c.0) c.1,
)
