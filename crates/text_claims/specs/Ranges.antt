-- Number 42 without the reader: the place that is told is that of the first number of the derivation that is out of
-- range (`out_exactly`), and none is told where all are in range (`none_out`).
-- Argument: a numeral or variable that is taken begins a part, so it has one flag (`one_flag`), and the flags of the
-- tokens are those of the derivation (`text_flags`). Assumes nothing.
use Rattle.std.specs.Prelude.{ℕ, suc, ◌≡◌, refl, ◌↔◌, List, [], ◌∷◌, ◌++◌, Bool, true, false, cond, length}
use Rattle.std.proofs.Common.{sym, ap, ◌∙◌}
use Rattle.std.proofs.Math.Option.{none, some}
use Rattle.theorems.specs.Options.{none_is_not, went_on}
use Rattle.grammar.specs.Sorts.{Sort}
use Rattle.grammar.specs.Tokens.{Token, numeral, variable, truth_word, skip_word, not_word, assert_word, becomes, infix_word, form_word, closer_word, Due, ends}
use Rattle.grammar.specs.Scanning.{Lexeme, tokens_of}
use Rattle.grammar.specs.Grammar.{Phrase}
use Rattle.grammar.specs.Text.{is_post, Spells}
use Rattle.grammar.specs.States.{Frame, Mode, operand, after, due, State, at, start}
use Rattle.grammar.specs.Automaton.{token_binds, infix_at, reduce, go_on, is_due}
use Rattle.grammar.specs.Reader.{take, read}
use Rattle.grammar.specs.Ranges.{operand_flag, flag, flags, read_flags, All, all_of}
use Rattle.grammar.specs.Outcome.{out_of_range}
use Rattle.grammar.specs.Tests.{false_is_not}
use Rattle.grammar.specs.TextRead.{text_read}
use Rattle.grammar.specs.InRange.{text_flags}
use Rattle.text_claims.specs.FirstOut.{is_number, number_places, FirstOut, first_out, first_says, says_first, none_first, first_none}

-- ---- a numeral or variable is taken only where a part begins

record BeginsOnly (t : Token) : Type 0 where
  not_post : is_post t ≡ false
  no_infix : (s : Sort) → infix_at t s ≡ none
  no_end : ends t ≡ none
  not_due : (d : Due) → is_due d t ≡ false

begins_only : (t : Token) → is_number t ≡ true → BeginsOnly t
begins_only (numeral n) e = record { not_post = refl; no_infix = λ s. refl; no_end = refl; not_due = λ d. refl }
begins_only (variable v) e = record { not_post = refl; no_infix = λ s. refl; no_end = refl; not_due = λ d. refl }
begins_only (truth_word b) e = false_is_not e
begins_only skip_word e = false_is_not e
begins_only not_word e = false_is_not e
begins_only assert_word e = false_is_not e
begins_only becomes e = false_is_not e
begins_only (infix_word o) e = false_is_not e
begins_only (form_word f) e = false_is_not e
begins_only (closer_word c) e = false_is_not e

-- a number has one flag, another token none
abbrev pub OneIf : Bool → List Bool → Type 0
OneIf true f = (b : Bool) × (f ≡ b ∷ [])
OneIf false f = f ≡ []

operand_one : (fs : List Frame) (t : Token) → OneIf (is_number t) (operand_flag fs t)
operand_one fs (numeral n) = (_, refl)
operand_one fs (variable v) = (_, refl)
operand_one fs (truth_word b) = refl
operand_one fs skip_word = refl
operand_one fs not_word = refl
operand_one fs assert_word = refl
operand_one fs becomes = refl
operand_one fs (infix_word o) = refl
operand_one fs (form_word f) = refl
operand_one fs (closer_word c) = refl

pub one_flag : (m : Mode) (fs : List Frame) (t : Token) (r : State) → take (at m fs) t ≡ some r
    → OneIf (is_number t) (flag m fs t)
one_flag operand fs t r e = operand_one fs t
one_flag (after x) fs t r e = at_test (is_number t) refl
  where
    at_test : (k : Bool) → is_number t ≡ k → OneIf k []
    at_test false n = refl
    at_test true n =
        let only = begins_only t n in
        let g = went_on (reduce (token_binds t) x fs) (go_on t) (rw only.not_post at e) in
        none_is_not (rw (only.no_infix, only.no_end) at g.2)
one_flag (due d f) fs t r e = at_test (is_number t) refl
  where
    at_test : (k : Bool) → is_number t ≡ k → OneIf k []
    at_test false n = refl
    at_test true n = let only = begins_only t n in none_is_not (rw (only.not_post, only.not_due d) at e)

-- ---- the place that is told

told : (ls : List Lexeme) (s r : State) → read s (tokens_of ls) ≡ some r
    → out_of_range s ls ≡ first_out (read_flags s (tokens_of ls)) (number_places ls)
unfolding out_of_range read_flags read
told [] s r e = refl
told (l ∷ ls) s r e =
    let k = went_on (take s l.token) (λ q. read q (tokens_of ls)) e in
    let one = one_flag s.mode s.stack l.token k.0 k.1 in
    rw k.1
    (at_flag (is_number l.token) (flag s.mode s.stack l.token) one k.0 (told ls k.0 r k.2))
  where
    at_flag : (k : Bool) (f : List Bool) → OneIf k f → (q : State)
        → out_of_range q ls ≡ first_out (read_flags q (tokens_of ls)) (number_places ls)
        → cond (all_of f) (out_of_range q ls) (some l.place)
        ≡ first_out (f ++ read_flags q (tokens_of ls)) (cond k (l.place ∷ number_places ls) (number_places ls))
    at_flag false f h q again = rw h again
    at_flag true f (true, h) q again = rw h again
    at_flag true f (false, h) q again = rw h

counted : (ls : List Lexeme) (s r : State) → read s (tokens_of ls) ≡ some r
    → length (read_flags s (tokens_of ls)) ≡ length (number_places ls)
unfolding read_flags read
counted [] s r e = refl
counted (l ∷ ls) s r e =
    let k = went_on (take s l.token) (λ q. read q (tokens_of ls)) e in
    let one = one_flag s.mode s.stack l.token k.0 k.1 in
    rw k.1
    (at_flag (is_number l.token) (flag s.mode s.stack l.token) one k.0 (counted ls k.0 r k.2))
  where
    at_flag : (k : Bool) (f : List Bool) → OneIf k f → (q : State)
        → length (read_flags q (tokens_of ls)) ≡ length (number_places ls)
        → length (f ++ read_flags q (tokens_of ls)) ≡ length (cond k (l.place ∷ number_places ls) (number_places ls))
    at_flag false f h q again = rw h again
    at_flag true f (b, h) q again = rw h (ap suc again)

module _ (x : Phrase) (ls : List Lexeme) (spells : Spells x (tokens_of ls)) where
  of_phrase : out_of_range start ls ≡ first_out (flags 0 false x) (number_places ls)
  of_phrase =
      told ls start (at (after x) []) (text_read x (tokens_of ls) spells)
      ∙ ap (λ (fs : List Bool). first_out fs (number_places ls)) (sym (text_flags x (tokens_of ls) spells))

  -- each numeral and variable has a flag
  pub as_many : length (flags 0 false x) ≡ length (number_places ls)
  as_many =
      ap length (text_flags x (tokens_of ls) spells)
      ∙ counted ls start (at (after x) []) (text_read x (tokens_of ls) spells)

  pub out_exactly : (p : ℕ) → (out_of_range start ls ≡ some p) ↔ FirstOut (flags 0 false x) (number_places ls) p
  out_exactly p = (
    λ e. first_says (flags 0 false x) (number_places ls) p (sym of_phrase ∙ e),
    λ f. of_phrase ∙ says_first (flags 0 false x) (number_places ls) p f.nth f.earlier f.out f.placed,
  )

  pub none_out : (out_of_range start ls ≡ none) ↔ All (flags 0 false x)
  none_out = (
    λ e. first_none (flags 0 false x) (number_places ls) as_many (sym of_phrase ∙ e),
    λ h. of_phrase ∙ none_first (flags 0 false x) (number_places ls) h,
  )
