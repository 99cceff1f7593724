-- The text of a condition's script piece by piece, as a function over the words of a list writes it: for each kind of node
-- what stands before, between and after the texts of its parts. Assumes nothing.
use Rattle.std.specs.Prelude.{ℕ, suc, ◌≡◌, refl, List, [], ◌∷◌, ◌++◌, Bool, true, false, cond, ℤ, pos, negsuc}
use Rattle.std.proofs.Common.{sym, ap, ◌∙◌, append_assoc}
use Rattle.script.specs.declared.Operator.{Operator}
use Rattle.script.specs.declared.Operator.TheVariants.{Plus, Minus, Times, Div, Mod}
use Rattle.script.specs.declared.Relation.{Relation}
use Rattle.script.specs.declared.Relation.TheVariants.{Less, AtMost, Equal, Unequal}
use Rattle.script.specs.declared.Connective.{Connective}
use Rattle.script.specs.declared.Connective.TheVariants.{And, Or, Implies}
use Rattle.script.specs.Syntax.{Expr, const, var, arith, neg, choose, Formula, truth, cmp, join}
use Rattle.script.specs.Syntax as Syntax
use Rattle.text.specs.Ascii.{bytes}
use Rattle.smt.specs.Smt.{Script, assert, check_sat}
use Rattle.text.specs.Decimal.{digits, decimal}
use Rattle.smt.specs.Translate.{Reference, variable, mark, name, term, claim, assertion, references, declared_references, declarations, script, script_within}
use Rattle.smt.specs.Text.{sexp_text, term_sexp, claim_sexp, command_sexp, script_text}

unfoldable pub expr_text : Expr → List ℕ
expr_text e = sexp_text (term_sexp (term e))

unfoldable pub formula_text : Formula → List ℕ
formula_text f = sexp_text (claim_sexp (claim f))

-- the parts of a node, with what stands before, between and after them
abbrev pub around_one : List ℕ → List ℕ → List ℕ
around_one w a = w ++ (a ++ bytes ")")

abbrev pub around_two : List ℕ → List ℕ → List ℕ → List ℕ
around_two w a b = w ++ (a ++ (bytes " " ++ (b ++ bytes ")")))

-- ---- expressions

unfoldable pub constant_text : ℤ → List ℕ
constant_text (pos n) = decimal n
constant_text (negsuc n) = around_one (bytes "(- ") (decimal (suc n))

abbrev pub operator_text : Operator → List ℕ → List ℕ → List ℕ
operator_text Plus a b = around_two (bytes "(+ ") a b
operator_text Minus a b = around_two (bytes "(- ") a b
operator_text Times a b = around_two (bytes "(* ") a b
operator_text Div n d = bytes "(ite (= " ++ (d ++ (bytes " 0) 0 (div " ++ (n ++ (bytes " " ++ (d ++ bytes "))")))))
operator_text Mod n d = bytes "(ite (= " ++ (d ++ (bytes " 0) " ++ (n ++ (bytes " (mod " ++ (n ++ (bytes " " ++ (d ++ bytes "))")))))))

pub const_text : (z : ℤ) → expr_text (const z) ≡ constant_text z
unfolding expr_text term term_sexp sexp_text constant_text
const_text (pos n) = refl
const_text (negsuc n) = refl

pub var_text : (v : ℕ) → expr_text (var v) ≡ name (variable v)
unfolding expr_text term term_sexp sexp_text
var_text v = refl

pub mark_text : (m : ℕ) → expr_text (Syntax.mark m) ≡ name (mark m)
unfolding expr_text term term_sexp sexp_text
mark_text m = refl

pub arith_text : (o : Operator) (a b : Expr) → expr_text (arith o a b) ≡ operator_text o (expr_text a) (expr_text b)
unfolding expr_text term term_sexp sexp_text decimal digits
arith_text Plus a b = refl
arith_text Minus a b = refl
arith_text Times a b = refl
arith_text Div n d = simp append_assoc
arith_text Mod n d = simp append_assoc

pub neg_text : (a : Expr) → expr_text (neg a) ≡ around_one (bytes "(- ") (expr_text a)
unfolding expr_text term term_sexp sexp_text
neg_text a = refl

pub choose_text : (f : Formula) (a b : Expr)
    → expr_text (choose f a b) ≡ bytes "(ite " ++ (formula_text f ++ (bytes " " ++ (expr_text a ++ (bytes " " ++ (expr_text b ++ bytes ")")))))
unfolding expr_text formula_text term term_sexp sexp_text
choose_text f a b = refl

-- ---- formulas

abbrev pub relation_text : Relation → List ℕ
relation_text Less = bytes "(< "
relation_text AtMost = bytes "(<= "
relation_text Equal = bytes "(= "
relation_text Unequal = bytes "(distinct "

abbrev pub connective_text : Connective → List ℕ
connective_text And = bytes "(and "
connective_text Or = bytes "(or "
connective_text Implies = bytes "(=> "

pub truth_text : (b : Bool) → formula_text (truth b) ≡ cond b (bytes "true") (bytes "false")
unfolding formula_text term term_sexp sexp_text
truth_text true = refl
truth_text false = refl

pub cmp_text : (r : Relation) (a b : Expr) → formula_text (cmp r a b) ≡ around_two (relation_text r) (expr_text a) (expr_text b)
unfolding expr_text formula_text term term_sexp sexp_text
cmp_text Less a b = refl
cmp_text AtMost a b = refl
cmp_text Equal a b = refl
cmp_text Unequal a b = refl

pub not_text : (f : Formula) → formula_text (Syntax.not f) ≡ around_one (bytes "(not ") (formula_text f)
unfolding formula_text term term_sexp sexp_text
not_text f = refl

pub join_text : (c : Connective) (f g : Formula) → formula_text (join c f g) ≡ around_two (connective_text c) (formula_text f) (formula_text g)
unfolding formula_text term term_sexp sexp_text
join_text And f g = refl
join_text Or f g = refl
join_text Implies f g = refl

-- ---- the script

abbrev pub declaration_text : Reference → List ℕ
declaration_text r = bytes "(declare-const " ++ (name r ++ bytes " Int)\n")

abbrev pub declarations_text : List Reference → List ℕ
declarations_text [] = []
declarations_text (r ∷ rs) = declaration_text r ++ declarations_text rs

-- the line feed after a command
declaration_line : (w rest : List ℕ)
    → (bytes "(declare-const " ++ (w ++ bytes " Int)")) ++ (10 ∷ rest) ≡ (bytes "(declare-const " ++ (w ++ bytes " Int)\n")) ++ rest
declaration_line w rest = ap (λ (l : List ℕ). bytes "(declare-const " ++ l) (append_assoc w _ _ ∙ sym (append_assoc w _ _))

assertion_lines : (w : List ℕ)
    → (bytes "(assert (not " ++ ((w ++ bytes ")") ++ bytes ")")) ++ bytes "\n(check-sat)\n" ≡ bytes "(assert (not " ++ (w ++ bytes "))\n(check-sat)\n")
assertion_lines w = ap (λ (l : List ℕ). bytes "(assert (not " ++ l) (append_assoc (w ++ bytes ")") _ _ ∙ append_assoc w _ _)

declarations_pieces : (rs : List Reference) (cs : Script) → script_text (declarations rs ++ cs) ≡ declarations_text rs ++ script_text cs
unfolding script_text command_sexp sexp_text
declarations_pieces [] cs = refl
declarations_pieces (r ∷ rs) cs =
    declaration_line (name r) (script_text (declarations rs ++ cs))
    ∙ ap (λ (l : List ℕ). declaration_text r ++ l) (declarations_pieces rs cs)
    ∙ sym (append_assoc (declaration_text r) (declarations_text rs) (script_text cs))

pub script_pieces : (f : Formula) → script_text (script f)
    ≡ bytes "(set-logic QF_NIA)\n" ++ (declarations_text (declared_references (references f))
    ++ (bytes "(assert (not " ++ (formula_text f ++ bytes "))\n(check-sat)\n")))
unfolding script_within script_text command_sexp sexp_text formula_text term_sexp
script_pieces f =
    ap (λ (l : List ℕ). bytes "(set-logic QF_NIA)\n" ++ l)
    (declarations_pieces (declared_references (references f)) (assert (assertion f) ∷ check_sat ∷ [])
    ∙ ap (λ (l : List ℕ). declarations_text (declared_references (references f)) ++ l) (assertion_lines (formula_text f)))

pub declarations_append : (qs ps : List Reference) → declarations_text (qs ++ ps) ≡ declarations_text qs ++ declarations_text ps
declarations_append [] ps = refl
declarations_append (q ∷ qs) ps =
    ap (λ (l : List ℕ). declaration_text q ++ l) (declarations_append qs ps)
    ∙ sym (append_assoc (declaration_text q) (declarations_text qs) (declarations_text ps))
