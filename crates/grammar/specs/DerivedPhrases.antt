-- The phrase of a derivation by productions is good (`derived`), by induction on the derivation, a clause to a production.
-- Assumes nothing.
use Rattle.std.specs.Prelude.{ℕ, refl, List, [], ◌∷◌, ◌++◌, true, false}
use Rattle.std.proofs.Common.{arith as linear}
use Rattle.script.specs.declared.Operator.TheVariants.{Plus, Minus, Times, Div, Mod}
use Rattle.script.specs.declared.Connective.TheVariants.{And, Or, Implies}
use Rattle.grammar.specs.Sorts.{expression, formula, statement as statement-sort}
use Rattle.grammar.specs.Operators.{semicolon, connective, relation, operator, not_prefix, minus_prefix, assert_prefix, assign_prefix}
use Rattle.grammar.specs.Forms.{group_form, mark_form, when_form, if_form, while_form, script_form, when_second, when_third, if_then, if_else, while_keep, while_fall, while_body, script_body, script_post}
use Rattle.grammar.specs.Tokens.{comma_closer, then_closer, else_closer, end_closer, keep_closer, fall_closer, do_closer, post_closer, end_of_text, Token, numeral, infix_word, form_word, closer_word, constant_leaf, number_leaf, variable_leaf, truth_leaf, skip_leaf}
use Rattle.grammar.specs.Productions.{Nonterminal, script, statements, statement, implication, disjunction, conjunction, negation, comparison, sum, product, negative, operand, bracket, closing, Derives, whole, last_statement, in_order, skips, assigns, asserts, chooses, loops, to_implication, implies, to_disjunction, or, to_conjunction, and, to_negation, not, compares, a_true, a_false, formula_group, to_sum, plus, minus, to_product, times, divides, remains, to_negative, negates, a_numeral, a_variable, a_mark, a_when, expression_group}
use Rattle.grammar.specs.Grammar.{Phrase, leaf, closed, begun, more, words, chain_words, Good, GoodChain}
use Rattle.grammar.specs.PhraseOf.{phrase}
use Rattle.grammar.specs.Text.{text}
use Rattle.grammar.specs.FormTexts.{one_text, three_text, four_text}
use Rattle.grammar.specs.DerivedParts.{Part, raised, a_leaf, prefixed, joined, own}

-- ---- forms

module _ {x : Phrase} {ts : List Token} where
  formula_grouped : Part implication x ts → Part comparison (closed (begun group_form) x) (bracket ∷ ts ++ closing ∷ [])
  unfolding Good GoodChain words chain_words text
  formula_grouped p = record {
    good = (tt, p.good, rw p.fits, refl);
    fits = p.fits;
    high = omega linear;
    bound = omega linear;
    spelt = one_text (bracket ∷ []) (words x) (closing ∷ []) p.spelt;
  }

  expression_grouped : Part sum x ts → Part operand (closed (begun group_form) x) (bracket ∷ ts ++ closing ∷ [])
  unfolding Good GoodChain words chain_words text
  expression_grouped p = record {
    good = (tt, p.good, rw p.fits, refl);
    fits = p.fits;
    high = omega linear;
    bound = omega linear;
    spelt = one_text (bracket ∷ []) (words x) (closing ∷ []) p.spelt;
  }

marked : (k : ℕ) → Part operand (closed (begun mark_form) (leaf (number_leaf k))) (form_word mark_form ∷ bracket ∷ numeral k ∷ closing ∷ [])
unfolding Good GoodChain words chain_words text
marked k = record {
  good = (tt, tt, refl, refl);
  fits = refl;
  high = omega linear;
  bound = omega linear;
  spelt = refl;
}

module _ {x y z : Phrase} {us vs ws : List Token} where
  chosen : Part implication x us → Part sum y vs → Part sum z ws
      → Part operand (closed (more (more (begun when_form) x when_second) y when_third) z)
      (form_word when_form ∷ bracket ∷ us ++ closer_word comma_closer ∷ vs ++ closer_word comma_closer ∷ ws ++ closing ∷ [])
  unfolding Good GoodChain words chain_words text
  chosen p q r = record {
    good = (((tt, p.good, own formula x p.fits, refl), q.good, own expression y q.fits, refl), r.good, own expression z r.fits, refl);
    fits = refl;
    high = omega linear;
    bound = omega linear;
    spelt = three_text (form_word when_form ∷ bracket ∷ []) (words x) (words y) (words z)
        (closer_word comma_closer ∷ []) (closer_word comma_closer ∷ []) (closing ∷ []) p.spelt q.spelt r.spelt;
  }

  branched : Part implication x us → Part statements y vs → Part statements z ws
      → Part statement (closed (more (more (begun if_form) x if_then) y if_else) z)
      (form_word if_form ∷ us ++ closer_word then_closer ∷ vs ++ closer_word else_closer ∷ ws ++ closer_word end_closer ∷ [])
  unfolding Good GoodChain words chain_words text
  branched p q r = record {
    good = (((tt, p.good, own formula x p.fits, refl), q.good, own statement-sort y q.fits, refl), r.good, own statement-sort z r.fits, refl);
    fits = refl;
    high = omega linear;
    bound = omega linear;
    spelt = three_text (form_word if_form ∷ []) (words x) (words y) (words z)
        (closer_word then_closer ∷ []) (closer_word else_closer ∷ []) (closer_word end_closer ∷ []) p.spelt q.spelt r.spelt;
  }

  all_read : Part implication x us → Part statements y vs → Part implication z ws
      → Part script (closed (more (more (begun script_form) x script_body) y script_post) z)
      (form_word script_form ∷ us ++ infix_word semicolon ∷ vs ++ infix_word semicolon ∷ closer_word post_closer ∷ ws ++ closer_word end_of_text ∷ [])
  unfolding Good GoodChain words chain_words text
  all_read p q r = record {
    good = (((tt, p.good, own formula x p.fits, refl), q.good, own statement-sort y q.fits, refl), r.good, own formula z r.fits, refl);
    fits = refl;
    high = omega linear;
    bound = omega linear;
    spelt = three_text (form_word script_form ∷ []) (words x) (words y) (words z)
        (infix_word semicolon ∷ []) (closer_word post_closer ∷ []) (closer_word end_of_text ∷ []) p.spelt q.spelt r.spelt;
  }

looped : {w x y z : Phrase} {us vs ws zs : List Token} → Part implication w us → Part implication x vs → Part sum y ws → Part statements z zs
    → Part statement (closed (more (more (more (begun while_form) w while_keep) x while_fall) y while_body) z)
    (form_word while_form ∷ us ++ closer_word keep_closer ∷ vs ++ closer_word fall_closer ∷ ws ++ closer_word do_closer ∷ zs ++ closer_word end_closer ∷ [])
unfolding Good GoodChain words chain_words text
looped {w} {x} {y} {z} p q r s = record {
  good = (
    (((tt, p.good, own formula w p.fits, refl), q.good, own formula x q.fits, refl), r.good, own expression y r.fits, refl),
    s.good,
    own statement-sort z s.fits,
    refl,
  );
  fits = refl;
  high = omega linear;
  bound = omega linear;
  spelt = four_text (form_word while_form ∷ []) (words w) (words x) (words y) (words z)
      (closer_word keep_closer ∷ []) (closer_word fall_closer ∷ []) (closer_word do_closer ∷ []) (closer_word end_closer ∷ []) p.spelt q.spelt r.spelt s.spelt;
}

-- ---- every production

pub derived : {n : Nonterminal} {ts : List Token} (d : Derives n ts) → Part n (phrase d) ts
unfolding phrase
derived (whole d e f) = all_read (derived d) (derived e) (derived f)
derived (last_statement d) = raised statements statement refl (omega linear) (derived d)
derived (in_order d e) = joined statements statement statements semicolon refl refl refl (omega linear) (derived d) (derived e)
derived skips = a_leaf statement skip_leaf refl (omega linear)
derived (assigns v d) = prefixed statement sum (assign_prefix v) refl refl (omega linear) (derived d)
derived (asserts d) = prefixed statement implication assert_prefix refl refl (omega linear) (derived d)
derived (chooses d e f) = branched (derived d) (derived e) (derived f)
derived (loops d e f g) = looped (derived d) (derived e) (derived f) (derived g)
derived (to_implication d) = raised implication disjunction refl (omega linear) (derived d)
derived (implies d e) = joined implication disjunction implication (connective Implies) refl refl refl (omega linear) (derived d) (derived e)
derived (to_disjunction d) = raised disjunction conjunction refl (omega linear) (derived d)
derived (or d e) = joined disjunction disjunction conjunction (connective Or) refl refl refl (omega linear) (derived d) (derived e)
derived (to_conjunction d) = raised conjunction negation refl (omega linear) (derived d)
derived (and d e) = joined conjunction conjunction negation (connective And) refl refl refl (omega linear) (derived d) (derived e)
derived (to_negation d) = raised negation comparison refl (omega linear) (derived d)
derived (not d) = prefixed negation negation not_prefix refl refl (omega linear) (derived d)
derived (compares r d e) = joined comparison sum sum (relation r) refl refl refl (omega linear) (derived d) (derived e)
derived a_true = a_leaf comparison (truth_leaf true) refl (omega linear)
derived a_false = a_leaf comparison (truth_leaf false) refl (omega linear)
derived (formula_group d) = formula_grouped (derived d)
derived (to_sum d) = raised sum product refl (omega linear) (derived d)
derived (plus d e) = joined sum sum product (operator Plus) refl refl refl (omega linear) (derived d) (derived e)
derived (minus d e) = joined sum sum product (operator Minus) refl refl refl (omega linear) (derived d) (derived e)
derived (to_product d) = raised product negative refl (omega linear) (derived d)
derived (times d e) = joined product product negative (operator Times) refl refl refl (omega linear) (derived d) (derived e)
derived (divides d e) = joined product product negative (operator Div) refl refl refl (omega linear) (derived d) (derived e)
derived (remains d e) = joined product product negative (operator Mod) refl refl refl (omega linear) (derived d) (derived e)
derived (to_negative d) = raised negative operand refl (omega linear) (derived d)
derived (negates d) = prefixed negative negative minus_prefix refl refl (omega linear) (derived d)
derived (a_numeral n) = a_leaf operand (constant_leaf n) refl (omega linear)
derived (a_variable v) = a_leaf operand (variable_leaf v) refl (omega linear)
derived (a_mark k) = marked k
derived (a_when d e f) = chosen (derived d) (derived e) (derived f)
derived (expression_group d) = expression_grouped (derived d)
