-- Where the numbers of a derivation are in range, no numeral is above 2147483648, a mark's k too, and no variable above
-- 1023 (`range_within`).
-- Argument: a mark's k is at most the number of bodies that are open, a token opens one at most (`opens_one`), and a
-- text of 32,768 bytes has at most 32,769 tokens (`few_tokens`). Assumes nothing.
use Rattle.std.specs.Prelude.{ℕ, suc, ◌+◌, ◌≤◌, ◌<◌, ◌≡◌, List, [], ◌∷◌, Bool, true, false, cond, ◌&&◌, leb, length}
use Rattle.std.proofs.Common.{ap, subst, arith as linear, leb-true, ltb-true, length-append, length-drop}
use Rattle.std.proofs.Math.Option.{Option, some}
use Rattle.theorems.specs.Options.{went_on}
use Rattle.grammar.specs.Sorts.{number, begins}
use Rattle.grammar.specs.Tokens.{Token, numeral, variable, truth_word, skip_word, not_word, assert_word, becomes, infix_word, form_word, closer_word, end_of_text}
use Rattle.grammar.specs.Grammar.{Phrase}
use Rattle.grammar.specs.States.{Frame, hole, Mode, operand, after, due, State, at, start}
use Rattle.grammar.specs.Reader.{take, read}
use Rattle.grammar.specs.TextRead.{text_read}
use Rattle.grammar.specs.Tests.{false_is_not}
use Rattle.grammar.specs.Scanning.{Lexeme, tokens_of}
use Rattle.grammar.specs.Longest.{begins_some}
use Rattle.grammar.specs.Covers.{Covers, nothing, blank, token, ScannedAs}
use Rattle.grammar.specs.Ranges.{limit, mark_fits, depth, after_minus, operand_flag, flag, onward, read_flags, All}
use Rattle.grammar.specs.AllLaws.{all_parts}
use Rattle.grammar.specs.InRange.{text_flags}
use Rattle.text_claims.specs.Reading.{Reading, Short, InRange}
use Rattle.text_claims.specs.FirstOut.{is_number}
use Rattle.text_claims.specs.Ranges.{OneIf, one_flag}
use Rattle.text_claims.specs.OpenBodies.{open_bodies, opens_one}

-- ---- the statement

abbrev pub Within : Token → Type 0
Within (numeral n) = n ≤ 2147483648
Within (variable v) = v < 1024
Within (truth_word b) = Unit {0}
Within skip_word = Unit {0}
Within not_word = Unit {0}
Within assert_word = Unit {0}
Within becomes = Unit {0}
Within (infix_word o) = Unit {0}
Within (form_word f) = Unit {0}
Within (closer_word c) = Unit {0}

abbrev pub EachWithin : List Lexeme → Type 0
EachWithin [] = Unit {0}
EachWithin (l ∷ ls) = Within l.token × EachWithin ls

-- ---- a flag says it

both : (a b : Bool) → (a && b) ≡ true → b ≡ true
both true b e = e
both false b e = false_is_not e

numeral_within : (mark minus : Bool) (d n : ℕ) → d ≤ 2147483648 → cond mark (mark_fits d n) (leb n (limit minus)) ≡ true
    → n ≤ 2147483648
numeral_within true minus d n l e = let k = leb-true n d (both (leb 1 n) (leb n d) e) in omega linear
numeral_within false true d n l e = leb-true n 2147483648 e
numeral_within false false d n l e = let k = leb-true n 2147483647 e in omega linear

operand_within : (fs : List Frame) (t : Token) → depth fs ≤ 2147483648 → All (operand_flag fs t) → Within t
operand_within fs (numeral n) l h = numeral_within (begins (hole fs) number) (after_minus fs) (depth fs) n l h.0
operand_within fs (variable v) l h = ltb-true v 1024 h.0
operand_within fs (truth_word b) l h = tt
operand_within fs skip_word l h = tt
operand_within fs not_word l h = tt
operand_within fs assert_word l h = tt
operand_within fs becomes l h = tt
operand_within fs (infix_word o) l h = tt
operand_within fs (form_word f) l h = tt
operand_within fs (closer_word c) l h = tt

nil_is_not : {b : Bool} → [] ≡ b ∷ [] → ⊥
nil_is_not e = let z : ◌≡◌ {A = ℕ} 0 1 = ap length e in omega linear

-- a token without a flag is no number
no_flag : (t : Token) → OneIf (is_number t) [] → Within t
no_flag (numeral n) h = absurd (nil_is_not h.1)
no_flag (variable v) h = absurd (nil_is_not h.1)
no_flag (truth_word b) h = tt
no_flag skip_word h = tt
no_flag not_word h = tt
no_flag assert_word h = tt
no_flag becomes h = tt
no_flag (infix_word o) h = tt
no_flag (form_word f) h = tt
no_flag (closer_word c) h = tt

pub flag_within : (m : Mode) (fs : List Frame) (t : Token) (r : State) → take (at m fs) t ≡ some r → depth fs ≤ 2147483648
    → All (flag m fs t) → Within t
flag_within operand fs t r e l h = operand_within fs t l h
flag_within (after x) fs t r e l h = no_flag t (one_flag (after x) fs t r e)
flag_within (due d f) fs t r e l h = no_flag t (one_flag (due d f) fs t r e)

-- ---- along a text

all_within : (ls : List Lexeme) (s r : State) → read s (tokens_of ls) ≡ some r → open_bodies s + length ls ≤ 2147483648
    → All (read_flags s (tokens_of ls)) → EachWithin ls
unfolding read read_flags
all_within [] s r e l h = tt
all_within (t ∷ ls) s r e l h =
    let k = went_on (take s t.token) (λ q. read q (tokens_of ls)) e in
    let q = k.0 in
    let go : State → List Bool = λ p. read_flags p (tokens_of ls) in
    let p = all_parts (flag s.mode s.stack t.token) (onward (take s t.token) go) h in
    let one = opens_one s t.token q k.1 in
    let later : All (go q) = subst (λ (o : Option State). All (onward o go)) k.1 p.1 in (
      flag_within s.mode s.stack t.token q k.1 (omega linear) p.0,
      all_within ls q r k.2 (omega linear) later,
    )

-- ---- tokens of a text

few : {q : ℕ} {cs : List ℕ} {p : ℕ} {bs : List ℕ} {ls : List Lexeme} → Covers q cs p bs ls → length ls + length cs ≤ length bs
few nothing = omega linear
few (blank e h) = omega (linear, few h)
few (token {n = n} {bs = bs} b h) = omega (linear, few h, begins_some b, b.longest.within, length-drop n bs)

few_tokens : (bytes : List ℕ) (ls : List Lexeme) → ScannedAs bytes ls → length ls ≤ suc (length bytes)
few_tokens bytes ls h =
    let last : List Lexeme = record { token = closer_word end_of_text; place = length bytes } ∷ [] in
    omega (linear, few h.covers, ap length h.ends, length-append h.tokens last)

-- ---- a text with a derivation

module _ (bytes : List ℕ) (short : Short bytes) (x : Phrase) (r : Reading bytes x) where
  -- the bodies that its tokens could open
  pub few_open : open_bodies start + length r.found ≤ 2147483648
  unfolding depth
  few_open = omega (linear, few_tokens bytes r.found r.covered)

  pub range_within : InRange x → EachWithin r.found
  range_within h =
      let ts = tokens_of r.found in
      all_within r.found start (at (after x) []) (text_read x ts r.spells) few_open
      (subst All (text_flags x ts r.spells) h)
