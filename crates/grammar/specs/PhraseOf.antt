-- The phrase of a derivation by productions (`phrase`), a clause to a production: what the production puts together are
-- the parts of the phrase, so operators group in the one as in the other. That it is the phrase that the text is read as
-- is `Derivations.derivation_phrase`. Assumes nothing.
use Rattle.std.specs.Prelude.{List, true, false}
use Rattle.script.specs.declared.Operator.TheVariants.{Plus, Minus, Times, Div, Mod}
use Rattle.script.specs.declared.Connective.TheVariants.{And, Or, Implies}
use Rattle.grammar.specs.Operators.{semicolon, connective, relation, operator, not_prefix, minus_prefix, assert_prefix, assign_prefix}
use Rattle.grammar.specs.Forms.{group_form, mark_form, when_form, if_form, while_form, script_form, when_second, when_third, if_then, if_else, while_keep, while_fall, while_body, script_body, script_post}
use Rattle.grammar.specs.Tokens.{Token, constant_leaf, number_leaf, variable_leaf, truth_leaf, skip_leaf}
use Rattle.grammar.specs.Productions.{Nonterminal, Derives, whole, last_statement, in_order, skips, assigns, asserts, chooses, loops, to_implication, implies, to_disjunction, or, to_conjunction, and, to_negation, not, compares, a_true, a_false, formula_group, to_sum, plus, minus, to_product, times, divides, remains, to_negative, negates, a_numeral, a_variable, a_mark, a_when, expression_group}
use Rattle.grammar.specs.Grammar.{Phrase, leaf, before, between, closed, begun, more}

unfoldable pub phrase : {n : Nonterminal} {ts : List Token} → Derives n ts → Phrase
phrase (whole d e f) = closed (more (more (begun script_form) (phrase d) script_body) (phrase e) script_post) (phrase f)
phrase (last_statement d) = phrase d
phrase (in_order d e) = between semicolon (phrase d) (phrase e)
phrase skips = leaf skip_leaf
phrase (assigns v d) = before (assign_prefix v) (phrase d)
phrase (asserts d) = before assert_prefix (phrase d)
phrase (chooses d e f) = closed (more (more (begun if_form) (phrase d) if_then) (phrase e) if_else) (phrase f)
phrase (loops d e f g) =
    closed (more (more (more (begun while_form) (phrase d) while_keep) (phrase e) while_fall) (phrase f) while_body) (phrase g)
phrase (to_implication d) = phrase d
phrase (implies d e) = between (connective Implies) (phrase d) (phrase e)
phrase (to_disjunction d) = phrase d
phrase (or d e) = between (connective Or) (phrase d) (phrase e)
phrase (to_conjunction d) = phrase d
phrase (and d e) = between (connective And) (phrase d) (phrase e)
phrase (to_negation d) = phrase d
phrase (not d) = before not_prefix (phrase d)
phrase (compares r d e) = between (relation r) (phrase d) (phrase e)
phrase a_true = leaf (truth_leaf true)
phrase a_false = leaf (truth_leaf false)
phrase (formula_group d) = closed (begun group_form) (phrase d)
phrase (to_sum d) = phrase d
phrase (plus d e) = between (operator Plus) (phrase d) (phrase e)
phrase (minus d e) = between (operator Minus) (phrase d) (phrase e)
phrase (to_product d) = phrase d
phrase (times d e) = between (operator Times) (phrase d) (phrase e)
phrase (divides d e) = between (operator Div) (phrase d) (phrase e)
phrase (remains d e) = between (operator Mod) (phrase d) (phrase e)
phrase (to_negative d) = phrase d
phrase (negates d) = before minus_prefix (phrase d)
phrase (a_numeral n) = leaf (constant_leaf n)
phrase (a_variable v) = leaf (variable_leaf v)
phrase (a_mark k) = closed (begun mark_form) (leaf (number_leaf k))
phrase (a_when d e f) = closed (more (more (begun when_form) (phrase d) when_second) (phrase e) when_third) (phrase f)
phrase (expression_group d) = closed (begun group_form) (phrase d)
