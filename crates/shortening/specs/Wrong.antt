-- Wrong rules of 02, P6 and P10: each of the rules lost, rules exchanged or changed, rules that it does not have, and rules that
-- look at parts as they were; each told from the right ones at one formula (`other_answers`). To look at a rule's result
-- again is no wrong turn, since no rule fits there: `Done.shorten_doneᶠ`. Assumes nothing.
use Rattle.std.specs.Prelude.{ℕ, zero, suc, List, [], ◌∷◌, Bool, true, false, cond, pos, negsuc, neg_ℤ}
use Rattle.script.specs.declared.Operator.{Operator}
use Rattle.script.specs.declared.Operator.TheVariants.{Plus, Minus, Times, Div}
use Rattle.script.specs.declared.Relation.TheVariants.{Less, Equal}
use Rattle.script.specs.declared.Connective.{Connective}
use Rattle.script.specs.declared.Connective.TheVariants.{And, Or, Implies}
use Rattle.script.specs.declared.Rule.TheVariants.{Main}
use Rattle.script.specs.Syntax.{Expr, const, var, mark, arith, neg, choose, Formula, truth, cmp, not, join}
use Rattle.script.specs.Meaning.{eqZ}
use Rattle.script.specs.Conditions.{condition}
use Rattle.script.specs.Rows.{row_of}
use Rattle.script.specs.Words.{op_word, conn_word, with_depth, expr_words, formula_words, line_words, all_lines, list_words}
use Rattle.script.specs.Listing.{read_list, read_expr_within, read_formula_within, spelled_within, found_within, line_before_within, lines_before_within, lines_within}
use Rattle.shortening.specs.Simplify.{constant_0, constant_1, is_false, any, only, Rule, rule, Change, TruthChange, zero_minus_first, order, arith_rules, join_rules, arith_node, join_node, not_node, shorten}
use Rattle.shortening.specs.Simplify as Simplify
use Rattle.shortening.specs.Shortened.{written}
use Rattle.shortening.specs.Variants.{Rules, shorten_by, lines_by, pass_by, right_rules, right_seen, right_trailed, right_formed, right_answer, Pass, Wrong, OtherAnswers, all_told}

-- ---- wrong rules

abbrev ruled : Rules → Pass
ruled R = pass_by R right_seen right_trailed right_formed right_answer

-- the rules of one operator, or of one connective, changed
abbrev of_operator : Operator → (List (Rule Change) → List (Rule Change)) → Pass
of_operator q change = ruled (record {
  of_arith = λ p. cond (eqZ (op_word p) (op_word q)) (change (arith_rules order p)) (arith_rules order p);
  of_join = join_rules;
  of_not = not_node;
  of_neg = neg;
})

abbrev of_connective : Connective → (List (Rule TruthChange) → List (Rule TruthChange)) → Pass
of_connective q change = ruled (record {
  of_arith = arith_rules order;
  of_join = λ c. cond (eqZ (conn_word c) (conn_word q)) (change (join_rules c)) (join_rules c);
  of_not = not_node;
  of_neg = neg;
})

abbrev with_parts : (Formula → Formula) → (Expr → Expr) → Pass
with_parts n m = ruled (record { of_arith = arith_rules order; of_join = join_rules; of_not = n; of_neg = m })

-- the n-th of the rules is lost
abbrev without : {R : Type 0} → ℕ → List (Rule R) → List (Rule R)
without n [] = []
without zero (r ∷ rs) = rs
without (suc n) (r ∷ rs) = r ∷ without n rs

abbrev pub rule_lost : Operator → ℕ → Pass
rule_lost p n = of_operator p (without n)

abbrev pub truth_rule_lost : Connective → ℕ → Pass
truth_rule_lost c n = of_connective c (without n)

-- "not true and not false are exchanged for their values": the rule for not of the value b is lost
abbrev kept_of : Bool → Formula → Formula
kept_of true (truth true) = not (truth true)
kept_of true (truth false) = truth true
kept_of false (truth true) = truth false
kept_of false (truth false) = not (truth false)
kept_of b (cmp r x y) = not (cmp r x y)
kept_of b (not f) = not (not f)
kept_of b (join c f g) = not (join c f g)

abbrev pub not_lost : Bool → Pass
not_lost b = with_parts (kept_of b) neg

-- the value itself
abbrev without_not : Formula → Formula
without_not (truth b) = truth b
without_not (cmp r x y) = not (cmp r x y)
without_not (not f) = not (not f)
without_not (join c f g) = not (join c f g)

abbrev pub not_keeps_the_value : Pass
not_keeps_the_value = with_parts without_not neg

-- 02, P10: 0 − 0 by the other of its two rules, as before; by neither; `1 0`, but with nodes around it that see a negated
-- zero still; and the sign of any negated zero dropped, that of a script's own
abbrev pub orders_exchanged : Pass
orders_exchanged = of_operator Minus λ rs. arith_rules zero_minus_first Minus

abbrev pub zero_less_zero_stays : Pass
zero_less_zero_stays = of_operator Minus λ rs. rule (only constant_0) (only constant_0) Simplify.kept ∷ rs

abbrev pub shrunk_no_further : Pass
shrunk_no_further =
    pass_by right_rules (record { expression = λ a x. shorten zero_minus_first a; claim = λ f x. x })
    right_trailed right_formed right_answer

abbrev without_sign : Expr → Expr
without_sign (const (pos zero)) = const (pos zero)
without_sign (const (pos (suc n))) = neg (const (pos (suc n)))
without_sign (const (negsuc n)) = neg (const (negsuc n))
without_sign (var v) = neg (var v)
without_sign (mark m) = neg (mark m)
without_sign (arith p x y) = neg (arith p x y)
without_sign (neg x) = neg (neg x)
without_sign (choose f x y) = neg (choose f x y)

abbrev pub sign_of_zero_dropped : Pass
sign_of_zero_dropped = with_parts not_node without_sign

abbrev pub sign_lost : Pass
sign_lost = of_operator Minus λ rs. rule (only constant_0) any Simplify.second ∷ rs

-- ---- what has no rule

abbrev pub times_zero_dropped : Pass
times_zero_dropped = of_operator Times λ rs. rule any (only constant_0) Simplify.second ∷ rs

abbrev pub divided_by_one : Pass
divided_by_one = of_operator Div λ rs. rule any (only constant_1) Simplify.first ∷ rs

abbrev pub or_shortened : Pass
or_shortened = of_connective Or λ rs. rule (only is_false) any Simplify.second ∷ rs

-- F implies false, taken for false
abbrev pub implies_false_dropped : Pass
implies_false_dropped = of_connective Implies λ rs. rule any (only is_false) Simplify.second ∷ rs

abbrev without_two : Formula → Formula
without_two (truth true) = truth false
without_two (truth false) = truth true
without_two (cmp r x y) = not (cmp r x y)
without_two (not f) = f
without_two (join c f g) = not (join c f g)

abbrev pub double_not_dropped : Pass
double_not_dropped = with_parts without_two neg

abbrev of_constant : Expr → Expr
of_constant (const z) = const (neg_ℤ z)
of_constant (var v) = neg (var v)
of_constant (mark m) = neg (mark m)
of_constant (arith p x y) = neg (arith p x y)
of_constant (neg x) = neg (neg x)
of_constant (choose f x y) = neg (choose f x y)

abbrev pub constant_negated : Pass
constant_negated = with_parts not_node of_constant

-- ---- "parts first": the rules look at the parts as they were

abbrev pub parts_not_first : Pass
parts_not_first = pass_by right_rules (record { expression = λ a x. a; claim = λ f x. f }) right_trailed right_formed right_answer

-- ---- each with a formula

-- by main of row 0, in the form of 02, P9, with room for 32 words
abbrev at_formula : Pass → Formula → Wrong
at_formula p f = record { pass = p; words = list_words with_depth (condition Main 0 0 f ∷ []); room = 32 }

-- in the place of E, with E = E
abbrev at_expression : Pass → Expr → Wrong
at_expression p e = at_formula p (cmp Equal e e)

abbrev 𝟎 : Expr
𝟎 = const (pos 0)

abbrev 𝟏 : Expr
𝟏 = const (pos 1)

abbrev x : Expr
x = var 0

abbrev F : Formula
F = cmp Less (var 0) (mark 3)

pub wrongs : List Wrong
wrongs =
    -- 0 − x = x − 0, for whichever of the two is lost
    at_formula (rule_lost Minus 0) (cmp Equal (arith Minus 𝟎 x) (arith Minus x 𝟎))
    ∷ at_formula (rule_lost Minus 1) (cmp Equal (arith Minus 𝟎 x) (arith Minus x 𝟎))
    ∷ at_expression (rule_lost Plus 0) (arith Plus x 𝟎)
    ∷ at_expression (rule_lost Plus 1) (arith Plus 𝟎 x)
    ∷ at_expression (rule_lost Times 0) (arith Times x 𝟏)
    ∷ at_expression (rule_lost Times 1) (arith Times 𝟏 x)
    ∷ at_formula (truth_rule_lost And 0) (join And (truth true) F)
    ∷ at_formula (truth_rule_lost And 1) (join And F (truth true))
    ∷ at_formula (truth_rule_lost And 2) (join And (truth false) F)
    ∷ at_formula (truth_rule_lost And 3) (join And F (truth false))
    ∷ at_formula (truth_rule_lost Implies 0) (join Implies (truth true) F)
    ∷ at_formula (truth_rule_lost Implies 1) (join Implies (truth false) F)
    ∷ at_formula (truth_rule_lost Implies 2) (join Implies F (truth true))
    ∷ at_formula (not_lost true) (not (truth true))
    ∷ at_formula (not_lost false) (not (truth false))
    ∷ at_formula not_keeps_the_value (not (truth true))
    ∷ at_expression orders_exchanged (arith Minus 𝟎 𝟎)
    ∷ at_expression zero_less_zero_stays (arith Minus 𝟎 𝟎)
    ∷ at_expression shrunk_no_further (arith Plus x (arith Minus 𝟎 𝟎))
    ∷ at_expression sign_of_zero_dropped (neg 𝟎)
    ∷ at_expression sign_lost (arith Minus 𝟎 x)
    ∷ at_expression times_zero_dropped (arith Times x 𝟎)
    ∷ at_expression divided_by_one (arith Div x 𝟏)
    ∷ at_formula or_shortened (join Or (truth false) F)
    ∷ at_formula implies_false_dropped (join Implies F (truth false))
    ∷ at_formula double_not_dropped (not (not F))
    ∷ at_expression constant_negated (neg 𝟏)
    ∷ at_expression parts_not_first (arith Plus (arith Plus 𝟎 𝟎) x)
    ∷ []

pub other_answers : OtherAnswers wrongs
unfolding wrongs row_of list_words all_lines line_words expr_words formula_words read_expr_within read_formula_within spelled_within found_within line_before_within lines_before_within lines_within read_list written shorten arith_node join_node not_node shorten_by lines_by pass_by
other_answers = all_told wrongs tt
