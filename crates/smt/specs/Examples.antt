-- Texts of scripts, and scripts read from texts, at small formulas. Assumes nothing.
use Rattle.std.specs.Prelude.{◌≡◌, refl, true, [], ◌∷◌, pos, negsuc}
use Rattle.std.proofs.Math.Option.{some, none}
use Rattle.script.specs.declared.Operator.TheVariants.{Div, Mod}
use Rattle.script.specs.declared.Relation.TheVariants.{Less, Unequal}
use Rattle.script.specs.declared.Connective.TheVariants.{Implies}
use Rattle.script.specs.Syntax.{const, var, mark, arith, neg, Formula, truth, cmp, not, join}
use Rattle.text.specs.Ascii.{bytes}
use Rattle.smt.specs.Smt.{set_logic, declare_const, check_sat}
use Rattle.text.specs.Decimal.{digits, decimal}
use Rattle.smt.specs.Translate.{term, claim, references, occurring, script, script_within}
use Rattle.smt.specs.Text.{sexp_text, term_sexp, command_sexp, script_text}
use Rattle.smt.specs.Sexp.{tokens, parse, sexps}
use Rattle.smt.specs.Reader.{read_term, read_assertion, read_commands, read_script}

abbrev quotient : Formula
quotient = cmp Less (arith Div (var 128) (const (negsuc 4))) (mark 3)

-- a negative divisor, a frozen name, a mark; "the negated condition asserted", also where the condition is itself a not
quotient_text : script_text (script (not quotient)) ≡ bytes
    "(set-logic QF_NIA)\n(declare-const f128 Int)\n(declare-const m3 Int)\n(assert (not (not (< (ite (= (- 5) 0) 0 (div f128 (- 5))) m3))))\n(check-sat)\n"
unfolding script_text script_within references occurring term claim command_sexp term_sexp sexp_text decimal digits
quotient_text = refl

-- negate of 5 and the constant -5 are the same text, negate of -5 is not
negated_text : script_text (script (cmp Unequal (neg (const (pos 5))) (neg (const (negsuc 4))))) ≡ bytes
    "(set-logic QF_NIA)\n(assert (not (distinct (- 5) (- (- 5)))))\n(check-sat)\n"
unfolding script_text script_within references occurring term claim command_sexp term_sexp sexp_text decimal digits
negated_text = refl

-- each name once, in rising number, variables first; the ends of 32 bits
names_text : script_text (script (join Implies (truth true) (cmp Less (arith Mod (var 10) (mark 0)) (arith Mod (var 9) (const (negsuc 2147483647))))))
    ≡ bytes
    "(set-logic QF_NIA)\n(declare-const v9 Int)\n(declare-const v10 Int)\n(declare-const m0 Int)\n(assert (not (=> true (< (ite (= m0 0) v10 (mod v10 m0)) (ite (= (- 2147483648) 0) v9 (mod v9 (- 2147483648)))))))\n(check-sat)\n"
unfolding script_text script_within references occurring term claim command_sexp term_sexp sexp_text decimal digits
names_text = refl

-- with as many variables as 01 has, v256 is none of them
names_before_text : script_text (script_within 256 (cmp Less (var 255) (var 256)))
    ≡ bytes "(set-logic QF_NIA)\n(declare-const f255 Int)\n(assert (not (< f255 v256)))\n(check-sat)\n"
unfolding script_text script_within references occurring term claim command_sexp term_sexp sexp_text decimal digits
names_before_text = refl

-- other white space
spaced_text : read_script (bytes
    "\t( set-logic\r\n QF_NIA )(declare-const f128 Int)(declare-const m3 Int)\n\n(assert(not(not(<(ite(=(- 5)0)0(div f128(- 5)))m3))))\n(check-sat)")
    ≡ some (script (not quotient))
unfolding script_within references occurring term claim decimal digits tokens parse sexps read_term read_assertion read_commands read_script
spaced_text = refl

-- another order of declarations
reordered_text : read_script (bytes "(declare-const m3 Int)\n(declare-const f128 Int)\n(set-logic QF_NIA)\n(check-sat)\n")
    ≡ some (declare_const (bytes "m3") ∷ declare_const (bytes "f128") ∷ set_logic (bytes "QF_NIA") ∷ check_sat ∷ [])
unfolding tokens parse sexps read_commands read_script
reordered_text = refl

-- what is not a script of this kind
torn_text : read_script (bytes "(check-sat") ≡ none
unfolding tokens parse sexps read_commands read_script
torn_text = refl

leading_zero : read_script (bytes "(assert (= v0 05))") ≡ none
unfolding tokens parse sexps read_term read_assertion read_commands read_script
leading_zero = refl

reserved_name : read_script (bytes "(declare-const mod Int)") ≡ none
unfolding tokens parse sexps read_term read_assertion read_commands read_script
reserved_name = refl

reserved_logic : read_script (bytes "(set-logic let)") ≡ none
unfolding tokens parse sexps read_term read_assertion read_commands read_script
reserved_logic = refl

solvers_name : read_script (bytes "(declare-const @v0 Int)") ≡ none
unfolding tokens parse sexps read_term read_assertion read_commands read_script
solvers_name = refl

quoted_name : read_script (bytes "(declare-const |v0| Int)") ≡ none
unfolding tokens parse sexps read_term read_assertion read_commands read_script
quoted_name = refl

other_sort : read_script (bytes "(assert (and v0 true))") ≡ none
unfolding tokens parse sexps read_term read_assertion read_commands read_script
other_sort = refl
