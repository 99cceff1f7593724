-- What the proofs ask of the levels of binding: how far level and binding are apart (`phrase_range`), and of operators that
-- wait (`holds_below`, `prefix_fits`, `loosest_wants`). Each law goes by cases over one table. Assumes nothing.
use Rattle.std.specs.Prelude.{ℕ, suc, ◌≤◌, ◌<◌, ◌≡◌, refl, true}
use Rattle.std.proofs.Common.{arith as linear}
use Rattle.script.specs.declared.Operator.TheVariants.{Plus, Minus, Times, Div, Mod}
use Rattle.script.specs.declared.Connective.TheVariants.{And, Or, Implies}
use Rattle.grammar.specs.Sorts.{Sort, number, expression, formula, statement, script, same_sort, only, begins}
use Rattle.grammar.specs.Operators.{Infix, semicolon, connective, relation, operator, Prefix, not_prefix, minus_prefix, assert_prefix, assign_prefix, prefix_makes, infix_level, infix_binds, prefix_level, tight, top}
use Rattle.grammar.specs.Tokens.{Token, numeral, variable, truth_word, skip_word, not_word, assert_word, becomes, infix_word, form_word, closer_word}
use Rattle.grammar.specs.Grammar.{Phrase, leaf, before, between, closed, sort, level, binds}
use Rattle.grammar.specs.States.{Pending, prefix, infix_after, wants, holds}
use Rattle.grammar.specs.Automaton.{token_binds}
use Rattle.grammar.specs.Tests.{false_is_not}

-- ---- levels

pub infix_range : (o : Infix) → (infix_level o ≤ infix_binds o) × (infix_binds o ≤ suc (infix_level o))
infix_range semicolon = omega linear
infix_range (connective Implies) = omega linear
infix_range (connective Or) = omega linear
infix_range (connective And) = omega linear
infix_range (relation r) = omega linear
infix_range (operator Plus) = omega linear
infix_range (operator Minus) = omega linear
infix_range (operator Times) = omega linear
infix_range (operator Div) = omega linear
infix_range (operator Mod) = omega linear

pub phrase_range : (x : Phrase) → (level x ≤ binds x) × (binds x ≤ suc (level x))
phrase_range (leaf l) = omega linear
phrase_range (before p x) = omega linear
phrase_range (between o x y) = infix_range o
phrase_range (closed c x) = omega linear

-- a formula is no statement: the semicolon after pre ends it
pub formula_level : (x : Phrase) → same_sort formula (sort x) ≡ true → 1 ≤ level x
formula_level (leaf l) e = omega linear
formula_level (before not_prefix x) e = omega linear
formula_level (before minus_prefix x) e = omega linear
formula_level (before assert_prefix x) e = omega linear
formula_level (before (assign_prefix v) x) e = omega linear
formula_level (between semicolon x y) e = false_is_not e
formula_level (between (connective Implies) x y) e = omega linear
formula_level (between (connective Or) x y) e = omega linear
formula_level (between (connective And) x y) e = omega linear
formula_level (between (relation r) x y) e = omega linear
formula_level (between (operator Plus) x y) e = false_is_not e
formula_level (between (operator Minus) x y) e = false_is_not e
formula_level (between (operator Times) x y) e = false_is_not e
formula_level (between (operator Div) x y) e = false_is_not e
formula_level (between (operator Mod) x y) e = false_is_not e
formula_level (closed c x) e = omega linear

-- ---- operators and what waits below them

infix_below : (o : Infix) → infix_level o < 9
infix_below semicolon = omega linear
infix_below (connective Implies) = omega linear
infix_below (connective Or) = omega linear
infix_below (connective And) = omega linear
infix_below (relation r) = omega linear
infix_below (operator Plus) = omega linear
infix_below (operator Minus) = omega linear
infix_below (operator Times) = omega linear
infix_below (operator Div) = omega linear
infix_below (operator Mod) = omega linear

infix_tight : (o : Infix) → infix_binds o ≤ tight
infix_tight semicolon = omega linear
infix_tight (connective Implies) = omega linear
infix_tight (connective Or) = omega linear
infix_tight (connective And) = omega linear
infix_tight (relation r) = omega linear
infix_tight (operator Plus) = omega linear
infix_tight (operator Minus) = omega linear
infix_tight (operator Times) = omega linear
infix_tight (operator Div) = omega linear
infix_tight (operator Mod) = omega linear

pub binds_tight : (t : Token) → token_binds t ≤ tight
binds_tight (numeral n) = omega linear
binds_tight (variable v) = omega linear
binds_tight (truth_word b) = omega linear
binds_tight skip_word = omega linear
binds_tight not_word = omega linear
binds_tight assert_word = omega linear
binds_tight becomes = omega linear
binds_tight (infix_word o) = infix_tight o
binds_tight (form_word f) = omega linear
binds_tight (closer_word c) = omega linear

pub holds_below : (f : Pending) → holds f < top
holds_below (prefix not_prefix) = omega linear
holds_below (prefix minus_prefix) = omega linear
holds_below (prefix assert_prefix) = omega linear
holds_below (prefix (assign_prefix v)) = omega linear
holds_below (infix_after o x) = omega (linear, infix_below o)

-- the tightest operator that takes a sort
abbrev tightest : Sort → ℕ
tightest number = 0
tightest expression = 9
tightest formula = 5
tightest statement = 0
tightest script = 0

holds_within : (f : Pending) → holds f ≤ tightest (wants f)
holds_within (prefix not_prefix) = omega linear
holds_within (prefix minus_prefix) = omega linear
holds_within (prefix assert_prefix) = omega linear
holds_within (prefix (assign_prefix v)) = omega linear
holds_within (infix_after semicolon x) = omega linear
holds_within (infix_after (connective Implies) x) = omega linear
holds_within (infix_after (connective Or) x) = omega linear
holds_within (infix_after (connective And) x) = omega linear
holds_within (infix_after (relation r) x) = omega linear
holds_within (infix_after (operator o) x) = omega (linear, infix_below (operator o))

within_prefix : (p : Prefix) (s : Sort) → begins (only s) (prefix_makes p) ≡ true → tightest s ≤ prefix_level p
within_prefix p number e = omega linear
within_prefix not_prefix expression e = false_is_not e
within_prefix minus_prefix expression e = omega linear
within_prefix assert_prefix expression e = false_is_not e
within_prefix (assign_prefix v) expression e = false_is_not e
within_prefix not_prefix formula e = omega linear
within_prefix minus_prefix formula e = omega linear
within_prefix assert_prefix formula e = false_is_not e
within_prefix (assign_prefix v) formula e = false_is_not e
within_prefix p statement e = omega linear
within_prefix p script e = omega linear

-- a prefix stands only where no tighter operator waits
pub prefix_fits : (p : Prefix) (f : Pending) → begins (only (wants f)) (prefix_makes p) ≡ true → holds f < suc (prefix_level p)
prefix_fits p f e = omega (linear, holds_within f, within_prefix p (wants f) e)

pub expression_level : (x : Phrase) → same_sort (sort x) expression ≡ true → 6 ≤ level x
expression_level (leaf l) e = omega linear
expression_level (before not_prefix x) e = false_is_not e
expression_level (before minus_prefix x) e = omega linear
expression_level (before assert_prefix x) e = false_is_not e
expression_level (before (assign_prefix v) x) e = false_is_not e
expression_level (between semicolon x y) e = false_is_not e
expression_level (between (connective c) x y) e = false_is_not e
expression_level (between (relation r) x y) e = omega linear
expression_level (between (operator Plus) x y) e = omega linear
expression_level (between (operator Minus) x y) e = omega linear
expression_level (between (operator Times) x y) e = omega linear
expression_level (between (operator Div) x y) e = omega linear
expression_level (between (operator Mod) x y) e = omega linear
expression_level (closed c x) e = omega linear

-- and what waits for a formula waits for a comparison
pub holds_formula : (f : Pending) → wants f ≡ formula → holds f < 6
holds_formula f e = omega (linear, rw e at (holds_within f))

-- ---- the operator that waits for the last statement

pub loosest_wants : (f : Pending) → holds f < 1 → wants f ≡ statement
loosest_wants (prefix not_prefix) l = absurd (omega linear)
loosest_wants (prefix minus_prefix) l = absurd (omega linear)
loosest_wants (prefix assert_prefix) l = absurd (omega linear)
loosest_wants (prefix (assign_prefix v)) l = absurd (omega linear)
loosest_wants (infix_after semicolon x) l = refl
loosest_wants (infix_after (connective Implies) x) l = absurd (omega linear)
loosest_wants (infix_after (connective Or) x) l = absurd (omega linear)
loosest_wants (infix_after (connective And) x) l = absurd (omega linear)
loosest_wants (infix_after (relation r) x) l = absurd (omega linear)
loosest_wants (infix_after (operator Plus) x) l = absurd (omega linear)
loosest_wants (infix_after (operator Minus) x) l = absurd (omega linear)
loosest_wants (infix_after (operator Times) x) l = absurd (omega linear)
loosest_wants (infix_after (operator Div) x) l = absurd (omega linear)
loosest_wants (infix_after (operator Mod) x) l = absurd (omega linear)
