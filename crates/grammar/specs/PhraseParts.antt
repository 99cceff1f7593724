-- How a good phrase is derived from its parts, which are derived from the nonterminals of their sorts and levels
-- (`Derived`): leaves, operators, and forms with one part. Each part is raised to what its place asks for. Assumes
-- nothing.
use Rattle.std.specs.Prelude.{ℕ, ◌≤◌, ◌<◌, ◌≡◌, refl, [], ◌∷◌, ◌++◌, true, false}
use Rattle.std.proofs.Common.{sym, subst, arith as linear}
use Rattle.script.specs.declared.Operator.TheVariants.{Plus, Minus, Times, Div, Mod}
use Rattle.script.specs.declared.Connective.TheVariants.{And, Or, Implies}
use Rattle.grammar.specs.Sorts.{Sort, sort-discrete, number, expression, formula, statement as statement-sort, script as script-sort, same_sort, only, takes}
use Rattle.grammar.specs.Operators.{Infix, semicolon, connective, relation, operator, Prefix, not_prefix, minus_prefix, assert_prefix, assign_prefix, infix_takes, infix_makes, infix_level, infix_binds, prefix_takes, prefix_makes, prefix_level}
use Rattle.grammar.specs.Forms.{Place, in_group, in_mark, when_first, when_second, when_third, if_guard, if_then, if_else, while_guard, while_keep, while_fall, while_body, script_pre, script_body, script_post, group_form, mark_form, place_takes, place_makes}
use Rattle.grammar.specs.Tokens.{infix_word, Leaf, constant_leaf, number_leaf, variable_leaf, truth_leaf, skip_leaf, leaf_makes, leaf_word, prefix_opening}
use Rattle.grammar.specs.Productions.{comparison, operand, bracket, closing, Derives, in_order, skips, assigns, asserts, implies, or, and, not, compares, a_true, a_false, formula_group, plus, minus, times, divides, remains, negates, a_numeral, a_variable, a_mark, expression_group}
use Rattle.grammar.specs.Grammar.{Phrase, leaf, before, between, closed, begun, place, opening_words, words, chain_words, sort, level, binds, Good}
use Rattle.grammar.specs.Text.{text}
use Rattle.grammar.specs.Tests.{false_is_not, same_is}
use Rattle.grammar.specs.LevelLaws.{phrase_range}
use Rattle.grammar.specs.FormTexts.{one_text}
use Rattle.grammar.specs.PhraseLevels.{at, raise, next_levels}

-- ---- operators

abbrev pub Derived : Phrase → Type 0
Derived x = Derives (at (sort x) (level x)) (text (words x))

-- raised to level k
to : (s : Sort) (k : ℕ) (x : Phrase) → sort x ≡ s → k ≤ level x → Derived x → Derives (at s k) (text (words x))
to s k x e l d = raise s k (level x) l (subst (λ (r : Sort). Derives (at r (level x)) (text (words x))) e d)

pub any : (s : Sort) (x : Phrase) → sort x ≡ s → Derived x → Derives (at s 0) (text (words x))
any s x e d = to s 0 x e (omega linear) d

pub leaf_derives : (l : Leaf) → Derives (at (leaf_makes l) 10) (leaf_word l ∷ [])
leaf_derives (constant_leaf n) = a_numeral n
leaf_derives (number_leaf n) = a_numeral n
leaf_derives (variable_leaf v) = a_variable v
leaf_derives (truth_leaf true) = a_true
leaf_derives (truth_leaf false) = a_false
leaf_derives skip_leaf = skips

pub prefix_derives : (p : Prefix) (x : Phrase) → sort x ≡ prefix_takes p → prefix_level p < binds x → Derived x
    → Derives (at (prefix_makes p) (prefix_level p)) (opening_words (prefix_opening p) ++ text (words x))
prefix_derives not_prefix x e l d = not (to formula 5 x e (omega (linear, phrase_range x)) d)
prefix_derives minus_prefix x e l d = negates (to expression 9 x e (omega (linear, phrase_range x)) d)
prefix_derives assert_prefix x e l d = asserts (any formula x e d)
prefix_derives (assign_prefix v) x e l d = assigns v (any expression x e d)

pub infix_derives : (o : Infix) (x y : Phrase) → sort x ≡ infix_takes o → sort y ≡ infix_takes o → infix_binds o ≤ level x → infix_level o < binds y
    → Derived x → Derived y → Derives (at (infix_makes o) (infix_level o)) (text (words x) ++ (infix_word o ∷ text (words y)))
infix_derives semicolon x y e f l m c d = in_order (to statement-sort 1 x e l c) (any statement-sort y f d)
infix_derives (connective Implies) x y e f l m c d = implies (to formula 3 x e l c) (any formula y f d)
infix_derives (connective Or) x y e f l m c d = or (to formula 3 x e l c) (to formula 4 y f ((next_levels y).0 m) d)
infix_derives (connective And) x y e f l m c d = and (to formula 4 x e l c) (to formula 5 y f ((next_levels y).1 m) d)
infix_derives (relation r) x y e f l m c d = compares r (any expression x e c) (any expression y f d)
infix_derives (operator Plus) x y e f l m c d = plus (any expression x e c) (to expression 8 y f ((next_levels y).2 m) d)
infix_derives (operator Minus) x y e f l m c d = minus (any expression x e c) (to expression 8 y f ((next_levels y).2 m) d)
infix_derives (operator Times) x y e f l m c d = times (to expression 8 x e l c) (to expression 9 y f ((next_levels y).3 m) d)
infix_derives (operator Div) x y e f l m c d = divides (to expression 8 x e l c) (to expression 9 y f ((next_levels y).3 m) d)
infix_derives (operator Mod) x y e f l m c d = remains (to expression 8 x e l c) (to expression 9 y f ((next_levels y).3 m) d)

-- ---- forms

-- a part at a place of its sort
pub part : (s : Sort) (x : Phrase) → takes (only s) (sort x) ≡ true → Derived x → Derives (at s 0) (text (words x))
part s x t d = any s x (sym (same_is sort-discrete s (sort x) t)) d

-- only a mark's numeral is a number
pub no_number : (p : Place) (s : Sort) → takes (place_takes p) s ≡ true → same_sort number (place_makes p s) ≡ true → ⊥
no_number in_group number t e = false_is_not t
no_number in_group expression t e = false_is_not e
no_number in_group formula t e = false_is_not e
no_number in_group statement-sort t e = false_is_not e
no_number in_group script-sort t e = false_is_not e
no_number in_mark s t e = false_is_not e
no_number when_first s t e = false_is_not e
no_number when_second s t e = false_is_not e
no_number when_third s t e = false_is_not e
no_number if_guard s t e = false_is_not e
no_number if_then s t e = false_is_not e
no_number if_else s t e = false_is_not e
no_number while_guard s t e = false_is_not e
no_number while_keep s t e = false_is_not e
no_number while_fall s t e = false_is_not e
no_number while_body s t e = false_is_not e
no_number script_pre s t e = false_is_not e
no_number script_body s t e = false_is_not e
no_number script_post s t e = false_is_not e

-- a mark holds a numeral only
pub mark_derives : (x : Phrase) → Good x → takes (only number) (sort x) ≡ true → Derives operand (text (words (closed (begun mark_form) x)))
unfolding Good words chain_words text
mark_derives (leaf (constant_leaf n)) g t = false_is_not t
mark_derives (leaf (number_leaf k)) g t = a_mark k
mark_derives (leaf (variable_leaf v)) g t = false_is_not t
mark_derives (leaf (truth_leaf b)) g t = false_is_not t
mark_derives (leaf skip_leaf) g t = false_is_not t
mark_derives (before not_prefix x) g t = false_is_not t
mark_derives (before minus_prefix x) g t = false_is_not t
mark_derives (before assert_prefix x) g t = false_is_not t
mark_derives (before (assign_prefix v) x) g t = false_is_not t
mark_derives (between semicolon x y) g t = false_is_not t
mark_derives (between (connective c) x y) g t = false_is_not t
mark_derives (between (relation r) x y) g t = false_is_not t
mark_derives (between (operator o) x y) g t = false_is_not t
mark_derives (closed c x) g t = absurd (no_number (place c) (sort x) g.2 t)

pub group_derives : (x : Phrase) (s : Sort) → sort x ≡ s → takes (place_takes in_group) s ≡ true → Derived x
    → Derives (at s 10) (text (words (closed (begun group_form) x)))
unfolding words chain_words text
group_derives x number e t d = false_is_not t
group_derives x expression e t d =
    subst (λ ts. Derives operand ts) (sym (one_text (bracket ∷ []) (words x) (closing ∷ []) refl)) (expression_group (any expression x e d))
group_derives x formula e t d =
    subst (λ ts. Derives comparison ts) (sym (one_text (bracket ∷ []) (words x) (closing ∷ []) refl)) (formula_group (any formula x e d))
group_derives x statement-sort e t d = false_is_not t
group_derives x script-sort e t d = false_is_not t
