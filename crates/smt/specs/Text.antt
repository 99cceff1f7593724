-- The text of a script, as 02 words it: "each command ended by a line feed", "single spaces". In this order: S-expressions
-- as text, terms and commands as S-expressions, scripts as text. Assumes nothing.
use Rattle.std.specs.Prelude.{ℕ, List, [], ◌∷◌, ◌++◌}
use Rattle.text.specs.Ascii.{bytes}
use Rattle.smt.specs.Smt as Smt
use Rattle.smt.specs.Smt.{Term, Claim, Command, set_logic, declare_const, assert, check_sat, Script}
use Rattle.text.specs.Decimal.{decimal}
use Rattle.smt.specs.Sexp.{Sexp, atom, form, Sexps, end, then}

-- "single spaces"
unfoldable mutual
  pub sexp_text : Sexp → List ℕ
  sexp_text (atom w) = w
  sexp_text (form ss) = 40 ∷ first_text ss

  pub first_text : Sexps → List ℕ
  first_text end = 41 ∷ []
  first_text (then s ss) = sexp_text s ++ more_text ss

  pub more_text : Sexps → List ℕ
  more_text end = 41 ∷ []
  more_text (then s ss) = 32 ∷ (sexp_text s ++ more_text ss)

-- an operator with its arguments
abbrev pub with_one : List ℕ → Sexp → Sexp
with_one w a = form (then (atom w) (then a end))

abbrev pub with_two : List ℕ → Sexp → Sexp → Sexp
with_two w a b = form (then (atom w) (then a (then b end)))

abbrev pub with_three : List ℕ → Sexp → Sexp → Sexp → Sexp
with_three w a b c = form (then (atom w) (then a (then b (then c end))))

unfoldable mutual
  pub term_sexp : Term → Sexp
  term_sexp (Smt.numeral n) = atom (decimal n)
  term_sexp (Smt.constant c) = atom c
  term_sexp (Smt.minus a) = with_one (bytes "-") (term_sexp a)
  term_sexp (Smt.add a b) = with_two (bytes "+") (term_sexp a) (term_sexp b)
  term_sexp (Smt.sub a b) = with_two (bytes "-") (term_sexp a) (term_sexp b)
  term_sexp (Smt.mul a b) = with_two (bytes "*") (term_sexp a) (term_sexp b)
  term_sexp (Smt.div a b) = with_two (bytes "div") (term_sexp a) (term_sexp b)
  term_sexp (Smt.modulo a b) = with_two (bytes "mod") (term_sexp a) (term_sexp b)
  term_sexp (Smt.ite c a b) = with_three (bytes "ite") (claim_sexp c) (term_sexp a) (term_sexp b)

  pub claim_sexp : Claim → Sexp
  claim_sexp Smt.true = atom (bytes "true")
  claim_sexp Smt.false = atom (bytes "false")
  claim_sexp (Smt.less a b) = with_two (bytes "<") (term_sexp a) (term_sexp b)
  claim_sexp (Smt.at_most a b) = with_two (bytes "<=") (term_sexp a) (term_sexp b)
  claim_sexp (Smt.equal a b) = with_two (bytes "=") (term_sexp a) (term_sexp b)
  claim_sexp (Smt.distinct a b) = with_two (bytes "distinct") (term_sexp a) (term_sexp b)
  claim_sexp (Smt.not f) = with_one (bytes "not") (claim_sexp f)
  claim_sexp (Smt.and f g) = with_two (bytes "and") (claim_sexp f) (claim_sexp g)
  claim_sexp (Smt.or f g) = with_two (bytes "or") (claim_sexp f) (claim_sexp g)
  claim_sexp (Smt.implies f g) = with_two (bytes "=>") (claim_sexp f) (claim_sexp g)

unfoldable pub command_sexp : Command → Sexp
command_sexp (set_logic l) = with_one (bytes "set-logic") (atom l)
command_sexp (declare_const c) = with_two (bytes "declare-const") (atom c) (atom (bytes "Int"))
command_sexp (assert f) = with_one (bytes "assert") (claim_sexp f)
command_sexp check_sat = form (then (atom (bytes "check-sat")) end)

-- "each command ended by a line feed"
unfoldable pub script_text : Script → List ℕ
script_text [] = []
script_text (c ∷ cs) = sexp_text (command_sexp c) ++ (10 ∷ script_text cs)
