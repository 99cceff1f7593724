-- What a caller needs of a token that is told. Its kind is not 0 just where a token begins (`told`, `not_told`), and then
-- the token ends after its place and within the text (`told_end`). Assumes nothing.
use Rattle.std.specs.Prelude.{ℕ, ◌≤◌, ◌<◌, ◌≡◌, List, true, false, drop, None, Some}
use Rattle.std.proofs.Math.Path.{refl, ap}
use Rattle.std.proofs.Math.Option.{Option, none, some}
use Rattle.std.proofs.Common.{sym, ◌∙◌, arith as linear}
use Rattle.std.proofs.Math.ListN.{length, length-drop}
use Rattle.script.specs.declared.Operator.TheVariants.{Plus, Minus, Times, Div, Mod}
use Rattle.script.specs.declared.Relation.TheVariants.{Less, AtMost, Equal, Unequal}
use Rattle.script.specs.declared.Connective.TheVariants.{And, Or, Implies}
use Rattle.grammar.specs.Operators.{Infix, semicolon, connective, relation, operator}
use Rattle.grammar.specs.Forms.{Form, group_form, mark_form, when_form, if_form, while_form, script_form}
use Rattle.grammar.specs.Tokens.{Closer, bracket_closer, comma_closer, then_closer, else_closer, end_closer, keep_closer, fall_closer, do_closer, post_closer, end_of_text, Token, numeral, variable, truth_word, skip_word, not_word, assert_word, becomes, infix_word, form_word, closer_word}
use Rattle.grammar.specs.Numbers.{infix_number, form_number, closer_number, token_number}
use Rattle.grammar.specs.Scanning.{Found, token_at}
use Rattle.grammar.specs.Longest.{Begun, begun, begins_some}
use Rattle.scanner.specs.declared.Token.{Token as Token'}
use Rattle.scanner.specs.Lexed.{lexed, told_at}

-- ---- no token has the number 0

infix_some : (o : Infix) → 0 < infix_number o
infix_some semicolon = omega linear
infix_some (connective And) = omega linear
infix_some (connective Or) = omega linear
infix_some (connective Implies) = omega linear
infix_some (relation Less) = omega linear
infix_some (relation AtMost) = omega linear
infix_some (relation Equal) = omega linear
infix_some (relation Unequal) = omega linear
infix_some (operator Plus) = omega linear
infix_some (operator Minus) = omega linear
infix_some (operator Times) = omega linear
infix_some (operator Div) = omega linear
infix_some (operator Mod) = omega linear

form_some : (f : Form) → 0 < form_number f
form_some group_form = omega linear
form_some mark_form = omega linear
form_some when_form = omega linear
form_some if_form = omega linear
form_some while_form = omega linear
form_some script_form = omega linear

closer_some : (c : Closer) → 0 < closer_number c
closer_some bracket_closer = omega linear
closer_some comma_closer = omega linear
closer_some then_closer = omega linear
closer_some else_closer = omega linear
closer_some end_closer = omega linear
closer_some keep_closer = omega linear
closer_some fall_closer = omega linear
closer_some do_closer = omega linear
closer_some post_closer = omega linear
closer_some end_of_text = omega linear

pub token_some : (t : Token) → 0 < token_number t
unfolding token_number
token_some (numeral n) = omega linear
token_some (variable v) = omega linear
token_some (truth_word true) = omega linear
token_some (truth_word false) = omega linear
token_some skip_word = omega linear
token_some not_word = omega linear
token_some assert_word = omega linear
token_some becomes = omega linear
token_some (infix_word o) = infix_some o
token_some (form_word f) = form_some f
token_some (closer_word c) = closer_some c

-- ---- what is told

module _ (text : List ℕ) (at : ℕ) where
  abbrev here : Token'
  here = lexed at (token_at (drop at text))

  pub not_told : here.kind ≡ 0 → token_at (drop at text) ≡ none
  unfolding lexed
  not_told e = by_found (token_at (drop at text)) e
    where
      by_found : (o : Option Found) → (lexed at o).kind ≡ 0 → o ≡ none
      by_found none e = refl
      by_found (some f) e = absurd (omega (linear, token_some f.token))

  pub told : (here.kind ≡ 0 → ⊥) → (f : Found) × (token_at (drop at text) ≡ some f)
  unfolding lexed
  told n = by_found (token_at (drop at text)) n
    where
      by_found : (o : Option Found) → ((lexed at o).kind ≡ 0 → ⊥) → (f : Found) × (o ≡ some f)
      by_found none n = absurd (n refl)
      by_found (some f) n = (f, refl)

  pub told_end : (here.kind ≡ 0 → ⊥) → (at < here.end) × (here.end ≤ length text)
  unfolding lexed
  told_end n = by_found (token_at (drop at text)) (begun (drop at text)) n
    where
      by_found : (o : Option Found) → Begun (drop at text) o → ((lexed at o).kind ≡ 0 → ⊥)
          → (at < (lexed at o).end) × ((lexed at o).end ≤ length text)
      by_found none h n = absurd (n refl)
      by_found (some f) h n = omega (linear, begins_some h, h.longest.within, length-drop at text)

  -- the same, of what `token_at` tells
  pub record Told (t : Token') : Type 0 where
    pub is : t ≡ here
    pub numbered : t.kind ≡ 0 → ⊥
    pub goes_on : at < t.end
    pub within : t.end ≤ length text

  pub told_none : told_at at (token_at (drop at text)) ≡ None → here.kind ≡ 0
  unfolding lexed
  told_none e = by_found (token_at (drop at text)) e
    where
      by_found : (o : Option Found) → told_at at o ≡ None → (lexed at o).kind ≡ 0
      by_found none e = refl
      by_found (some f) e = cc

  pub told_some : {t : Token'} → told_at at (token_at (drop at text)) ≡ Some t → Told t
  unfolding lexed
  told_some {t} e =
      let s = by_found (token_at (drop at text)) e in
      let w = told_end (λ z. s.1 (ap (λ (x : Token'). x.kind) s.0 ∙ z)) in
      let q = ap (λ (x : Token'). x.end) s.0 in
      record { is = s.0; numbered = s.1; goes_on = omega (linear, w.0, q); within = omega (linear, w.1, q) }
    where
      by_found : (o : Option Found) → told_at at o ≡ Some t → (t ≡ lexed at o) × (t.kind ≡ 0 → ⊥)
      by_found none e = cc
      by_found (some f) e =
          let s : t ≡ lexed at (some f) = cc in
          (s, λ z. omega (linear, token_some f.token, sym (ap (λ (x : Token'). x.kind) s) ∙ z))
