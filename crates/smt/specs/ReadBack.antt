-- The text of a script is read back as that script (`read_back`), where its symbols are such that a script may have them
-- (`Proper`); the script of every condition is so (`script_proper`), since a letter and a number is a name (`name_proper`).
-- So the text of a condition's script is read as that script (`script_read`). Assumes nothing.
use Rattle.std.specs.Prelude.{ℕ, ◌≤◌, ◌≡◌, refl, List, [], ◌∷◌, ◌++◌, map, Bool, true, false, cond, ◌&&◌, T, eqb}
use Rattle.std.proofs.Common.{sym, ap, ◌∙◌, subst, arith as linear, ne_eqb}
use Rattle.std.proofs.Math.Option.{some}
use Rattle.script.specs.Listing.{◌>>=◌, guarded}
use Rattle.script.specs.Refusals.{frozen}
use Rattle.script.specs.Syntax.{Formula}
use Rattle.theorems.specs.Truths.{pair}
use Rattle.smt.specs.Smt.{Symbol, Command, set_logic, declare_const, assert, check_sat, Script, claim_symbols}
use Rattle.text.specs.Decimal.{decimal, digit, all, decimal_digits, decimal_starts}
use Rattle.smt.specs.Translate.{Reference, variable, mark, name, assertion, references, declared_references, declarations, script, script_within}
use Rattle.smt.specs.Symbols.{NamedIn, claim_within}
use Rattle.smt.specs.Sexp.{Sexps, end, then, sexps}
use Rattle.smt.specs.Reader.{as_bool, read_command, read_commands, read_assertion, read_script}
use Rattle.smt.specs.Text.{sexp_text, command_sexp, script_text}
use Rattle.smt.specs.Spaced.{Wordy, AllWordy, lines_text, sexps_back}
use Rattle.smt.specs.Once.{in_map, map_in}
use Rattle.smt.specs.Lexicon.{symbol_byte, is_name}
use Rattle.smt.specs.Atoms.{true_is, all_more, digit_in_symbol, symbol_word, name_symbol}
use Rattle.smt.specs.TermBack.{AllNames, claim_back}

-- ---- commands

-- the symbols of a command are such that it may have them
abbrev pub ProperCommand : Command → Type 0
ProperCommand (set_logic l) = T (is_name l)
ProperCommand (declare_const c) = T (is_name c)
ProperCommand (assert f) = AllNames (claim_symbols f)
ProperCommand check_sat = Unit {0}

abbrev pub Proper : Script → Type 0
Proper [] = Unit {0}
Proper (c ∷ cs) = ProperCommand c × Proper cs

command_wordy : (c : Command) → ProperCommand c → Wordy (command_sexp c)
unfolding command_sexp
command_wordy (set_logic l) h = (tt, (symbol_word l (name_symbol l h), tt))
command_wordy (declare_const c) h = (tt, (symbol_word c (name_symbol c h), (tt, tt)))
command_wordy (assert f) h = (tt, ((claim_back f h).0, tt))
command_wordy check_sat h = (tt, tt)

command_back : (c : Command) → ProperCommand c → read_command (command_sexp c) ≡ some c
unfolding command_sexp read_assertion
command_back (set_logic l) h = ap (λ b. guarded b (some (set_logic l))) (true_is (is_name l) h)
command_back (declare_const c) h = ap (λ b. guarded (b && true) (some (declare_const c))) (true_is (is_name c) h)
command_back (assert f) h = ap (λ o. o >>= λ t. as_bool t >>= λ g. some (assert g)) (claim_back f h).1
command_back check_sat h = refl

-- ---- scripts

abbrev command_sexps : Script → Sexps
command_sexps [] = end
command_sexps (c ∷ cs) = then (command_sexp c) (command_sexps cs)

script_lines : (cs : Script) → script_text cs ≡ lines_text (command_sexps cs)
unfolding script_text lines_text
script_lines [] = refl
script_lines (c ∷ cs) = ap (λ (l : List ℕ). sexp_text (command_sexp c) ++ (10 ∷ l)) (script_lines cs)

script_wordy : (cs : Script) → Proper cs → AllWordy (command_sexps cs)
script_wordy [] h = tt
script_wordy (c ∷ cs) h = (command_wordy c h.0, script_wordy cs h.1)

commands_back : (cs : Script) → Proper cs → read_commands (command_sexps cs) ≡ some cs
unfolding read_commands
commands_back [] h = refl
commands_back (c ∷ cs) h =
    ap (λ o. o >>= λ d. read_commands (command_sexps cs) >>= λ ds. some (d ∷ ds)) (command_back c h.0)
    ∙ ap (λ o. o >>= λ ds. some (c ∷ ds)) (commands_back cs h.1)

pub read_back : (cs : Script) → Proper cs → read_script (script_text cs) ≡ some cs
unfolding read_script
read_back cs h =
    ap (λ l. sexps l >>= read_commands) (script_lines cs) ∙ ap (λ o. o >>= read_commands) (sexps_back (command_sexps cs) (script_wordy cs h))
    ∙ commands_back cs h

-- ---- the script of a condition

-- a letter and digits: in the reserved words that begin with f or m, no digit is second
module _ (d : ℕ) (ds : List ℕ) (high : d ≤ 57) (symbols : T (all symbol_byte (d ∷ ds))) where
  no_a : eqb d 97 ≡ false
  no_a = ne_eqb d 97 (λ e. omega linear)

  no_o : eqb d 111 ≡ false
  no_o = ne_eqb d 111 (λ e. omega linear)

  whole_name : T (all symbol_byte (d ∷ ds) && true)
  whole_name = pair (all symbol_byte (d ∷ ds)) true symbols tt

  variable_proper : (b : Bool) → T (is_name (cond b 102 118 ∷ d ∷ ds))
  variable_proper true = rw (no_a, no_o) whole_name
  variable_proper false = whole_name

  mark_proper : T (is_name (109 ∷ d ∷ ds))
  mark_proper = rw (no_a, no_o) whole_name

abbrev Lettered : (List ℕ → List ℕ) → List ℕ → Type 0
Lettered f ds = T (all symbol_byte ds) → T (is_name (f ds))

pub name_proper : (r : Reference) → T (is_name (name r))
name_proper (variable v) =
    let s = decimal_starts v in
    subst (Lettered (λ ds. cond (frozen v) 102 118 ∷ ds)) (sym s.is)
    (λ h. variable_proper s.first s.others s.digit.1 h (frozen v))
    (all_more digit symbol_byte digit_in_symbol (decimal v) (decimal_digits v))
name_proper (mark m) =
    let s = decimal_starts m in
    subst (Lettered (λ ds. 109 ∷ ds)) (sym s.is) (λ h. mark_proper s.first s.others s.digit.1 h)
    (all_more digit symbol_byte digit_in_symbol (decimal m) (decimal_digits m))

assertion_proper : (f : Formula) → AllNames (claim_symbols (assertion f))
unfolding claim_symbols
assertion_proper f = record {
  each = λ w m.
      let named : NamedIn (references f) (map name (references f)) = record { each = in_map name (references f) } in
      let r = map_in name (references f) w ((claim_within f named).each w m) in
      subst (λ (x : Symbol). T (is_name x)) (sym r.2) (name_proper r.0);
}

declarations_proper : (rs : List Reference) (cs : Script) → Proper cs → Proper (declarations rs ++ cs)
declarations_proper [] cs h = h
declarations_proper (r ∷ rs) cs h = (name_proper r, declarations_proper rs cs h)

pub script_proper : (f : Formula) → Proper (script f)
unfolding script_within
script_proper f =
    (tt, declarations_proper (declared_references (references f)) (assert (assertion f) ∷ check_sat ∷ []) (assertion_proper f, (tt, tt)))

pub script_read : (f : Formula) → read_script (script_text (script f)) ≡ some (script f)
script_read f = read_back (script f) (script_proper f)
