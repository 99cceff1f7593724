-- What the proofs ask of the tokens: what a word begins (`leaf_begins`, `prefix_begins`), and the other way, what a
-- token that was taken must have been (`begun_by`, `infix_known`, `ends_known`, `due_known`). Assumes nothing.
use Rattle.std.specs.Prelude.{ℕ, ◌≡◌, refl, Bool, true, false, cond}
use Rattle.std.proofs.Common.{ap, ◌∙◌}
use Rattle.std.proofs.Math.Option.{some}
use Rattle.script.specs.declared.Operator.TheVariants.{Plus, Minus, Times, Div, Mod}
use Rattle.theorems.specs.Options.{none_is_not, some_inj, held}
use Rattle.grammar.specs.Sorts.{Sort, number, expression, formula, statement, script, sort-discrete, same_sort, Hole, only, either, begins}
use Rattle.grammar.specs.Operators.{Infix, semicolon, connective, relation, operator, Prefix, not_prefix, minus_prefix, assert_prefix, assign_prefix, infix_takes, prefix_makes}
use Rattle.grammar.specs.Forms.{Form, group_form, mark_form, when_form, if_form, while_form, script_form}
use Rattle.grammar.specs.Tokens.{Ending, ending_word, ends, Token, numeral, variable, truth_word, skip_word, not_word, assert_word, becomes, infix_word, form_word, closer_word, Leaf, constant_leaf, number_leaf, variable_leaf, truth_leaf, skip_leaf, leaf_makes, leaf_word, opening_word, prefix_opening, Due, bracket_due, becomes_due, due_word, Beginning, leaf_beginning, opening_beginning, no_beginning, infix_begins, infix_ends, beginning}
use Rattle.grammar.specs.Automaton.{form_due, becomes_is, infix_at, is_due}
use Rattle.grammar.specs.Tests.{false_is_not, same_is}

-- ---- beginnings

pub leaf_begins : (l : Leaf) (h : Hole) → begins h (leaf_makes l) ≡ true → beginning (leaf_word l) h ≡ leaf_beginning l
leaf_begins (constant_leaf n) (only number) e = false_is_not e
leaf_begins (constant_leaf n) (only expression) e = refl
leaf_begins (constant_leaf n) (only formula) e = refl
leaf_begins (constant_leaf n) (only statement) e = refl
leaf_begins (constant_leaf n) (only script) e = refl
leaf_begins (constant_leaf n) either e = refl
leaf_begins (number_leaf n) (only number) e = refl
leaf_begins (number_leaf n) (only expression) e = false_is_not e
leaf_begins (number_leaf n) (only formula) e = false_is_not e
leaf_begins (number_leaf n) (only statement) e = false_is_not e
leaf_begins (number_leaf n) (only script) e = false_is_not e
leaf_begins (number_leaf n) either e = false_is_not e
leaf_begins (variable_leaf n) (only number) e = refl
leaf_begins (variable_leaf n) (only expression) e = refl
leaf_begins (variable_leaf n) (only formula) e = refl
leaf_begins (variable_leaf n) (only statement) e = false_is_not e
leaf_begins (variable_leaf n) (only script) e = refl
leaf_begins (variable_leaf n) either e = refl
leaf_begins (truth_leaf b) h e = refl
leaf_begins skip_leaf h e = refl

pub prefix_begins : (p : Prefix) (h : Hole) → begins h (prefix_makes p) ≡ true
    → beginning (opening_word (prefix_opening p)) h ≡ opening_beginning (prefix_opening p)
prefix_begins not_prefix h e = refl
prefix_begins minus_prefix h e = refl
prefix_begins assert_prefix h e = refl
prefix_begins (assign_prefix v) (only number) e = false_is_not e
prefix_begins (assign_prefix v) (only expression) e = false_is_not e
prefix_begins (assign_prefix v) (only formula) e = false_is_not e
prefix_begins (assign_prefix v) (only statement) e = refl
prefix_begins (assign_prefix v) (only script) e = false_is_not e
prefix_begins (assign_prefix v) either e = false_is_not e

pub due_is_due : (d : Due) → is_due d (due_word d) ≡ true
due_is_due bracket_due = refl
due_is_due becomes_due = refl

-- ---- the other way: what a token that was taken must have been

-- a token is the first word of what it begins
abbrev pub Begun : Token → Beginning → Type 0
Begun t (leaf_beginning l) = leaf_word l ≡ t
Begun t (opening_beginning o) = opening_word o ≡ t
Begun t no_beginning = Unit {0}

begun_either : (k : Bool) (t : Token) (a b : Beginning) → Begun t a → Begun t b → Begun t (cond k a b)
begun_either true t a b x y = x
begun_either false t a b x y = y

begun_numeral : (k : Bool) (n : ℕ) → leaf_word (cond k (number_leaf n) (constant_leaf n)) ≡ numeral n
begun_numeral true n = refl
begun_numeral false n = refl

begun_infix : (o : Infix) → Begun (infix_word o) (infix_begins o)
begun_infix semicolon = tt
begun_infix (connective c) = tt
begun_infix (relation r) = tt
begun_infix (operator Plus) = tt
begun_infix (operator Minus) = refl
begun_infix (operator Times) = tt
begun_infix (operator Div) = tt
begun_infix (operator Mod) = tt

pub begun_by : (t : Token) (h : Hole) → Begun t (beginning t h)
begun_by (numeral n) h = begun_numeral (begins h number) n
begun_by (variable v) h =
    begun_either (begins h statement) (variable v) (opening_beginning (prefix_opening (assign_prefix v))) (leaf_beginning (variable_leaf v)) refl refl
begun_by (truth_word b) h = refl
begun_by skip_word h = refl
begun_by not_word h = refl
begun_by assert_word h = refl
begun_by becomes h = tt
begun_by (infix_word o) h = begun_infix o
begun_by (form_word f) h = refl
begun_by (closer_word c) h = tt

pub infix_known : (t : Token) (s : Sort) (o : Infix) → infix_at t s ≡ some o → (t ≡ infix_word o) × (s ≡ infix_takes o)
infix_known (numeral n) s o e = none_is_not e
infix_known (variable v) s o e = none_is_not e
infix_known (truth_word b) s o e = none_is_not e
infix_known skip_word s o e = none_is_not e
infix_known not_word s o e = none_is_not e
infix_known assert_word s o e = none_is_not e
infix_known becomes s o e = none_is_not e
infix_known (infix_word i) s o e =
    let h = held (same_sort s (infix_takes i)) (some i) e in
    let same-infix = some_inj h.1 in
    (ap infix_word same-infix, same_is sort-discrete s (infix_takes i) h.0 ∙ ap infix_takes same-infix)
infix_known (form_word f) s o e = none_is_not e
infix_known (closer_word c) s o e = none_is_not e

infix_ends_known : (i : Infix) (e : Ending) → infix_ends i ≡ some e → infix_word i ≡ ending_word e
infix_ends_known semicolon e h = ap ending_word (some_inj h)
infix_ends_known (connective c) e h = none_is_not h
infix_ends_known (relation r) e h = none_is_not h
infix_ends_known (operator o) e h = none_is_not h

pub ends_known : (t : Token) (e : Ending) → ends t ≡ some e → t ≡ ending_word e
ends_known (numeral n) e h = none_is_not h
ends_known (variable v) e h = none_is_not h
ends_known (truth_word b) e h = none_is_not h
ends_known skip_word e h = none_is_not h
ends_known not_word e h = none_is_not h
ends_known assert_word e h = none_is_not h
ends_known becomes e h = none_is_not h
ends_known (infix_word i) e h = infix_ends_known i e h
ends_known (form_word f) e h = none_is_not h
ends_known (closer_word c) e h = ap ending_word (some_inj h)

form_due_known : (d : Due) (f : Form) → form_due d f ≡ true → form_word f ≡ due_word d
form_due_known bracket_due group_form e = refl
form_due_known bracket_due mark_form e = false_is_not e
form_due_known bracket_due when_form e = false_is_not e
form_due_known bracket_due if_form e = false_is_not e
form_due_known bracket_due while_form e = false_is_not e
form_due_known bracket_due script_form e = false_is_not e
form_due_known becomes_due f e = false_is_not e

becomes_known : (d : Due) → becomes_is d ≡ true → becomes ≡ due_word d
becomes_known bracket_due e = false_is_not e
becomes_known becomes_due e = refl

pub due_known : (d : Due) (t : Token) → is_due d t ≡ true → t ≡ due_word d
due_known d (numeral n) e = false_is_not e
due_known d (variable v) e = false_is_not e
due_known d (truth_word b) e = false_is_not e
due_known d skip_word e = false_is_not e
due_known d not_word e = false_is_not e
due_known d assert_word e = false_is_not e
due_known d becomes e = becomes_known d e
due_known d (infix_word i) e = false_is_not e
due_known d (form_word f) e = form_due_known d f e
due_known d (closer_word c) e = false_is_not e
