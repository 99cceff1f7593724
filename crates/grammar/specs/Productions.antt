-- The grammar as productions: one nonterminal for each level of binding, the loosest first, and one constructor for
-- each production, after 02's words for it. `Derives n ts` are the derivations of the tokens ts from n. A text of the
-- grammar is one whose tokens have a derivation from `script`; those are the tokens that a good phrase of `Grammar`
-- spells (`Derivations.derives_exactly`). Assumes nothing.
use Rattle.std.specs.Prelude.{ℕ, List, [], ◌∷◌, ◌++◌, true, false}
use Rattle.script.specs.declared.Operator.TheVariants.{Plus, Minus, Times, Div, Mod}
use Rattle.script.specs.declared.Relation.{Relation}
use Rattle.script.specs.declared.Connective.TheVariants.{And, Or, Implies}
use Rattle.grammar.specs.Operators.{semicolon, connective, relation, operator}
use Rattle.grammar.specs.Forms.{group_form, mark_form, when_form, if_form, while_form, script_form}
use Rattle.grammar.specs.Tokens.{bracket_closer, comma_closer, then_closer, else_closer, end_closer, keep_closer, fall_closer, do_closer, post_closer, end_of_text, Token, numeral, variable, truth_word, skip_word, not_word, assert_word, becomes, infix_word, form_word, closer_word}

pub data Nonterminal : Type 0 where
  -- S of 02's sentences is `statements`
  script statements statement : Nonterminal
  -- F is `implication`
  implication disjunction conjunction negation comparison : Nonterminal
  -- E is `sum`
  sum product negative operand : Nonterminal

-- ( and )
abbrev pub bracket : Token
bracket = form_word group_form

abbrev pub closing : Token
closing = closer_word bracket_closer

pub data Derives : Nonterminal → List Token → Type 0 where
  -- "the whole is pre F; S; post F"
  whole : {fs ss gs : List Token} → Derives implication fs → Derives statements ss → Derives implication gs
      → Derives script (form_word script_form ∷ fs ++ infix_word semicolon ∷ ss ++ infix_word semicolon ∷ closer_word post_closer ∷ gs ++ closer_word end_of_text ∷ [])
  -- "joined by semicolons to the right"
  last_statement : {ts : List Token} → Derives statement ts → Derives statements ts
  in_order : {ss ts : List Token} → Derives statement ss → Derives statements ts → Derives statements (ss ++ infix_word semicolon ∷ ts)
  -- "skip, v := E, assert F, if F then S else S end, and while F keep F fall E do S end"
  skips : Derives statement (skip_word ∷ [])
  assigns : (v : ℕ) {es : List Token} → Derives sum es → Derives statement (variable v ∷ becomes ∷ es)
  asserts : {fs : List Token} → Derives implication fs → Derives statement (assert_word ∷ fs)
  chooses : {fs ss ts : List Token} → Derives implication fs → Derives statements ss → Derives statements ts
      → Derives statement (form_word if_form ∷ fs ++ closer_word then_closer ∷ ss ++ closer_word else_closer ∷ ts ++ closer_word end_closer ∷ [])
  loops : {fs gs es ss : List Token} → Derives implication fs → Derives implication gs → Derives sum es → Derives statements ss
      → Derives statement (form_word while_form ∷ fs ++ closer_word keep_closer ∷ gs ++ closer_word fall_closer ∷ es ++ closer_word do_closer ∷ ss ++ closer_word end_closer ∷ [])
  -- "Binding from loosest: implies (to the right)"
  to_implication : {ts : List Token} → Derives disjunction ts → Derives implication ts
  implies : {fs gs : List Token} → Derives disjunction fs → Derives implication gs
      → Derives implication (fs ++ infix_word (connective Implies) ∷ gs)
  -- "or, then and (to the left)"
  to_disjunction : {ts : List Token} → Derives conjunction ts → Derives disjunction ts
  or : {fs gs : List Token} → Derives disjunction fs → Derives conjunction gs
      → Derives disjunction (fs ++ infix_word (connective Or) ∷ gs)
  to_conjunction : {ts : List Token} → Derives negation ts → Derives conjunction ts
  and : {fs gs : List Token} → Derives conjunction fs → Derives negation gs
      → Derives conjunction (fs ++ infix_word (connective And) ∷ gs)
  -- "not"
  to_negation : {ts : List Token} → Derives comparison ts → Derives negation ts
  not : {fs : List Token} → Derives negation fs → Derives negation (not_word ∷ fs)
  -- "one comparison <, <=, = or <>"; "true and false are formulas, parentheses group either sort"
  compares : (r : Relation) {ds es : List Token} → Derives sum ds → Derives sum es
      → Derives comparison (ds ++ infix_word (relation r) ∷ es)
  a_true : Derives comparison (truth_word true ∷ [])
  a_false : Derives comparison (truth_word false ∷ [])
  formula_group : {fs : List Token} → Derives implication fs → Derives comparison (bracket ∷ fs ++ closing ∷ [])
  -- "+ and -, then *, div and mod (to the left)"
  to_sum : {ts : List Token} → Derives product ts → Derives sum ts
  plus : {ds es : List Token} → Derives sum ds → Derives product es → Derives sum (ds ++ infix_word (operator Plus) ∷ es)
  minus : {ds es : List Token} → Derives sum ds → Derives product es → Derives sum (ds ++ infix_word (operator Minus) ∷ es)
  to_product : {ts : List Token} → Derives negative ts → Derives product ts
  times : {ds es : List Token} → Derives product ds → Derives negative es
      → Derives product (ds ++ infix_word (operator Times) ∷ es)
  divides : {ds es : List Token} → Derives product ds → Derives negative es
      → Derives product (ds ++ infix_word (operator Div) ∷ es)
  remains : {ds es : List Token} → Derives product ds → Derives negative es
      → Derives product (ds ++ infix_word (operator Mod) ∷ es)
  -- "unary minus"
  to_negative : {ts : List Token} → Derives operand ts → Derives negative ts
  negates : {es : List Token} → Derives negative es → Derives negative (infix_word (operator Minus) ∷ es)
  -- "constants are decimal", "v0 to v1023", "mark(k)", "when(F, E, E)", "parentheses group either sort"; the ranges are
  -- another matter
  a_numeral : (n : ℕ) → Derives operand (numeral n ∷ [])
  a_variable : (v : ℕ) → Derives operand (variable v ∷ [])
  a_mark : (k : ℕ) → Derives operand (form_word mark_form ∷ bracket ∷ numeral k ∷ closing ∷ [])
  a_when : {fs ds es : List Token} → Derives implication fs → Derives sum ds → Derives sum es
      → Derives operand (form_word when_form ∷ bracket ∷ fs ++ closer_word comma_closer ∷ ds ++ closer_word comma_closer ∷ es ++ closing ∷ [])
  expression_group : {es : List Token} → Derives sum es → Derives operand (bracket ∷ es ++ closing ∷ [])
