-- Scripts read from text: S-expressions first (`Sexp`), then terms, commands, scripts, by the lexicon of the standard
-- (`Lexicon`). Syntax and sorts only: what is declared is `Declared`'s, the place of set-logic `Translate.script`'s. A part of
-- the language: numerals, names of the sort Int, the operators of `Smt` with as many arguments as they have there, and the four
-- commands; no comment, quoted symbol, string, let, quantifier or other sort. Assumes nothing.
use Rattle.std.specs.Prelude.{ℕ, List, [], ◌∷◌, cond, ◌&&◌}
use Rattle.std.proofs.Math.Option.{Option, none, some}
use Rattle.script.specs.Listing.{◌>>=◌, guarded}
use Rattle.text.specs.Ascii.{bytes}
use Rattle.smt.specs.Smt as Smt
use Rattle.smt.specs.Smt.{Term, Claim, Command, set_logic, declare_const, assert, check_sat, Script}
use Rattle.text.specs.Decimal.{number}
use Rattle.smt.specs.Sexp.{Sexp, atom, form, Sexps, end, then, sexps}
use Rattle.smt.specs.Lexicon.{same, is_numeral, is_name}

-- ---- terms

-- a term of one of the two sorts
pub data Sorted : Type 0 where
  int : Term → Sorted
  bool : Claim → Sorted

abbrev pub as_int : Sorted → Option Term
as_int (int t) = some t
as_int (bool c) = none

abbrev pub as_bool : Sorted → Option Claim
as_bool (int t) = none
as_bool (bool c) = some c

abbrev pub one : {A : Type 0} → List A → Option A
one [] = none
one (a ∷ []) = some a
one (a ∷ b ∷ ts) = none

abbrev pub two : {A : Type 0} → List A → Option (A × A)
two [] = none
two (a ∷ []) = none
two (a ∷ b ∷ []) = some (a, b)
two (a ∷ b ∷ c ∷ ts) = none

abbrev pub three : {A : Type 0} → List A → Option (A × A × A)
three [] = none
three (a ∷ []) = none
three (a ∷ b ∷ []) = none
three (a ∷ b ∷ c ∷ []) = some (a, b, c)
three (a ∷ b ∷ c ∷ d ∷ ts) = none

-- an operator at its arguments
abbrev Operator : Type 0
Operator = List Sorted → Option Sorted

abbrev on_ints : (Term → Term → Sorted) → Operator
on_ints f ts = do
  p ← two ts
  a ← as_int p.0
  b ← as_int p.1
  some (f a b)

abbrev on_bools : (Claim → Claim → Sorted) → Operator
on_bools f ts = do
  p ← two ts
  a ← as_bool p.0
  b ← as_bool p.1
  some (f a b)

abbrev on_bool : (Claim → Sorted) → Operator
on_bool f ts = do
  p ← one ts
  a ← as_bool p
  some (f a)

-- `-` has one argument or two
abbrev negation_or_difference : Operator
negation_or_difference [] = none
negation_or_difference (a ∷ []) = as_int a >>= λ t. some (int (Smt.minus t))
negation_or_difference (a ∷ b ∷ ts) = on_ints (λ x y. int (Smt.sub x y)) (a ∷ b ∷ ts)

abbrev choice : Operator
choice ts = do
  p ← three ts
  c ← as_bool p.0
  a ← as_int p.1
  b ← as_int p.2
  some (int (Smt.ite c a b))

pub record Entry : Type 0 where
  pub symbol : List ℕ
  pub at : List Sorted → Option Sorted

abbrev entry : List ℕ → Operator → Entry
entry w f = record { symbol = w; at = f }

abbrev operators : List Entry
operators =
    entry (bytes "-") negation_or_difference
    ∷ entry (bytes "+") (on_ints (λ a b. int (Smt.add a b)))
    ∷ entry (bytes "*") (on_ints (λ a b. int (Smt.mul a b)))
    ∷ entry (bytes "div") (on_ints (λ a b. int (Smt.div a b)))
    ∷ entry (bytes "mod") (on_ints (λ a b. int (Smt.modulo a b)))
    ∷ entry (bytes "ite") choice
    ∷ entry (bytes "<") (on_ints (λ a b. bool (Smt.less a b)))
    ∷ entry (bytes "<=") (on_ints (λ a b. bool (Smt.at_most a b)))
    ∷ entry (bytes "=") (on_ints (λ a b. bool (Smt.equal a b)))
    ∷ entry (bytes "distinct") (on_ints (λ a b. bool (Smt.distinct a b)))
    ∷ entry (bytes "not") (on_bool (λ f. bool (Smt.not f)))
    ∷ entry (bytes "and") (on_bools (λ f g. bool (Smt.and f g)))
    ∷ entry (bytes "or") (on_bools (λ f g. bool (Smt.or f g)))
    ∷ entry (bytes "=>") (on_bools (λ f g. bool (Smt.implies f g)))
    ∷ []

abbrev find : List Entry → List ℕ → List Sorted → Option Sorted
find [] w ts = none
find (e ∷ es) w ts = cond (same w e.symbol) (e.at ts) (find es w ts)

abbrev pub apply : List ℕ → List Sorted → Option Sorted
apply w ts = find operators w ts

abbrev pub read_atom : List ℕ → Option Sorted
read_atom w =
    cond (is_name w) (some (int (Smt.constant w)))
    (cond (is_numeral w) (some (int (Smt.numeral (number w))))
    (cond (same w (bytes "true")) (some (bool Smt.true))
    (cond (same w (bytes "false")) (some (bool Smt.false)) none)))

abbrev pub as_atom : Sexp → Option (List ℕ)
as_atom (atom w) = some w
as_atom (form ss) = none

unfoldable mutual
  pub read_term : Sexp → Option Sorted
  read_term (atom w) = read_atom w
  read_term (form ss) = read_form ss

  pub read_form : Sexps → Option Sorted
  read_form end = none
  read_form (then s ss) = do
    w ← as_atom s
    ts ← read_terms ss
    apply w ts

  pub read_terms : Sexps → Option (List Sorted)
  read_terms end = some []
  read_terms (then s ss) = do
    a ← read_term s
    ts ← read_terms ss
    some (a ∷ ts)

-- ---- commands

abbrev pub parts : Sexps → List Sexp
parts end = []
parts (then s ss) = s ∷ parts ss

abbrev pub read_logic : List Sexp → Option Command
read_logic ss = do
  s ← one ss
  w ← as_atom s
  guarded (is_name w) (some (set_logic w))

abbrev pub read_declaration : List Sexp → Option Command
read_declaration ss = do
  p ← two ss
  w ← as_atom p.0
  sort ← as_atom p.1
  guarded (is_name w && same sort (bytes "Int")) (some (declare_const w))

unfoldable pub read_assertion : List Sexp → Option Command
read_assertion ss = do
  s ← one ss
  t ← read_term s
  f ← as_bool t
  some (assert f)

abbrev pub read_check : List Sexp → Option Command
read_check [] = some check_sat
read_check (s ∷ ss) = none

abbrev pub read_named : List ℕ → List Sexp → Option Command
read_named w ss =
    cond (same w (bytes "set-logic")) (read_logic ss)
    (cond (same w (bytes "declare-const")) (read_declaration ss)
    (cond (same w (bytes "assert")) (read_assertion ss)
    (cond (same w (bytes "check-sat")) (read_check ss) none)))

abbrev pub read_command : Sexp → Option Command
read_command (atom w) = none
read_command (form end) = none
read_command (form (then s ss)) = do
  w ← as_atom s
  read_named w (parts ss)

unfoldable pub read_commands : Sexps → Option Script
read_commands end = some []
read_commands (then s ss) = do
  c ← read_command s
  cs ← read_commands ss
  some (c ∷ cs)

unfoldable pub read_script : List ℕ → Option Script
read_script cs = sexps cs >>= read_commands
