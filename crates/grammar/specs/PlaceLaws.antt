-- What the proofs ask of the places of forms: what ends a place (`ending_binds`, `ending_not_infix`), and what all places
-- of a form make (`next_makes`, `later_makes`). Each law goes by cases over one table. Assumes nothing.
use Rattle.std.specs.Prelude.{◌≤◌, ◌≡◌, refl, true}
use Rattle.std.proofs.Common.{sym, ap, ◌∙◌, arith as linear}
use Rattle.std.proofs.Math.Option.{none, some}
use Rattle.theorems.specs.Options.{none_is_not, some_inj}
use Rattle.grammar.specs.Sorts.{Sort, number, expression, formula, statement, script, same_sort, Hole, only, either, takes, begins}
use Rattle.grammar.specs.Forms.{Form, group_form, mark_form, when_form, if_form, while_form, script_form, Place, in_group, in_mark, when_first, when_second, when_third, if_guard, if_then, if_else, while_guard, while_keep, while_fall, while_body, script_pre, script_body, script_post, first_place, next_place, place_takes, place_makes}
use Rattle.grammar.specs.Tokens.{Ending, by_semicolon, by_closer, ending, ending_word, ends}
use Rattle.grammar.specs.Grammar.{Phrase, sort, level}
use Rattle.grammar.specs.Automaton.{infix_at, token_binds, form_takes}
use Rattle.grammar.specs.Tests.{false_is_not}
use Rattle.grammar.specs.LevelLaws.{formula_level}

-- ---- places

-- what ends a place binds nothing that the place takes
pub ending_binds : (p : Place) (x : Phrase) → takes (place_takes p) (sort x) ≡ true → token_binds (ending_word (ending p)) ≤ level x
ending_binds in_group x e = omega linear
ending_binds in_mark x e = omega linear
ending_binds when_first x e = omega linear
ending_binds when_second x e = omega linear
ending_binds when_third x e = omega linear
ending_binds if_guard x e = omega linear
ending_binds if_then x e = omega linear
ending_binds if_else x e = omega linear
ending_binds while_guard x e = omega linear
ending_binds while_keep x e = omega linear
ending_binds while_fall x e = omega linear
ending_binds while_body x e = omega linear
ending_binds script_pre x e = formula_level x e
ending_binds script_body x e = omega linear
ending_binds script_post x e = omega linear

not_infix : (s : Sort) → same_sort formula s ≡ true → infix_at (ending_word by_semicolon) s ≡ none
not_infix number e = refl
not_infix expression e = refl
not_infix formula e = refl
not_infix statement e = false_is_not e
not_infix script e = refl

-- nor is it an operator there
pub ending_not_infix : (p : Place) (s : Sort) → takes (place_takes p) s ≡ true → infix_at (ending_word (ending p)) s ≡ none
ending_not_infix in_group s e = refl
ending_not_infix in_mark s e = refl
ending_not_infix when_first s e = refl
ending_not_infix when_second s e = refl
ending_not_infix when_third s e = refl
ending_not_infix if_guard s e = refl
ending_not_infix if_then s e = refl
ending_not_infix if_else s e = refl
ending_not_infix while_guard s e = refl
ending_not_infix while_keep s e = refl
ending_not_infix while_fall s e = refl
ending_not_infix while_body s e = refl
ending_not_infix script_pre s e = not_infix s e
ending_not_infix script_body s e = refl
ending_not_infix script_post s e = refl

pub ends_word : (e : Ending) → ends (ending_word e) ≡ some e
ends_word by_semicolon = refl
ends_word (by_closer c) = refl

-- all places of a form make the same
pub next_makes : (p q : Place) (s : Sort) → next_place p ≡ some q → place_makes q expression ≡ place_makes p s
next_makes in_group q s e = none_is_not e
next_makes in_mark q s e = none_is_not e
next_makes when_first q s e = ap (λ (r : Place). place_makes r expression) (sym (some_inj e))
next_makes when_second q s e = ap (λ (r : Place). place_makes r expression) (sym (some_inj e))
next_makes when_third q s e = none_is_not e
next_makes if_guard q s e = ap (λ (r : Place). place_makes r expression) (sym (some_inj e))
next_makes if_then q s e = ap (λ (r : Place). place_makes r expression) (sym (some_inj e))
next_makes if_else q s e = none_is_not e
next_makes while_guard q s e = ap (λ (r : Place). place_makes r expression) (sym (some_inj e))
next_makes while_keep q s e = ap (λ (r : Place). place_makes r expression) (sym (some_inj e))
next_makes while_fall q s e = ap (λ (r : Place). place_makes r expression) (sym (some_inj e))
next_makes while_body q s e = none_is_not e
next_makes script_pre q s e = ap (λ (r : Place). place_makes r expression) (sym (some_inj e))
next_makes script_body q s e = ap (λ (r : Place). place_makes r expression) (sym (some_inj e))
next_makes script_post q s e = none_is_not e

-- a group counts as an expression at its beginning
group_begins : (h : Hole) (s : Sort) → takes either s ≡ true → begins h s ≡ true → begins h expression ≡ true
group_begins h number g e = false_is_not g
group_begins h expression g e = e
group_begins (only number) formula g e = e
group_begins (only expression) formula g e = refl
group_begins (only formula) formula g e = refl
group_begins (only statement) formula g e = e
group_begins (only script) formula g e = e
group_begins either formula g e = refl
group_begins h statement g e = false_is_not g
group_begins h script g e = false_is_not g

pub place_begins : (p : Place) (h : Hole) (s : Sort) → takes (place_takes p) s ≡ true → begins h (place_makes p s) ≡ true
    → begins h (place_makes p expression) ≡ true
place_begins in_group h s g e = group_begins h s g e
place_begins in_mark h s g e = e
place_begins when_first h s g e = e
place_begins when_second h s g e = e
place_begins when_third h s g e = e
place_begins if_guard h s g e = e
place_begins if_then h s g e = e
place_begins if_else h s g e = e
place_begins while_guard h s g e = e
place_begins while_keep h s g e = e
place_begins while_fall h s g e = e
place_begins while_body h s g e = e
place_begins script_pre h s g e = e
place_begins script_body h s g e = e
place_begins script_post h s g e = e

pub form_takes_part : (f : Form) (h : Hole) (s : Sort) → takes (place_takes (first_place f)) s ≡ true
    → begins h (place_makes (first_place f) s) ≡ true → takes (form_takes h f) s ≡ true
form_takes_part group_form h s g e = e
form_takes_part mark_form h s g e = g
form_takes_part when_form h s g e = g
form_takes_part if_form h s g e = g
form_takes_part while_form h s g e = g
form_takes_part script_form h s g e = g

pub later_makes : (p q : Place) (s : Sort) → next_place p ≡ some q → place_makes q expression ≡ place_makes q s
later_makes in_group q s e = none_is_not e
later_makes in_mark q s e = none_is_not e
later_makes when_first q s e = ap (λ (r : Place). place_makes r expression) (sym (some_inj e)) ∙ ap (λ (r : Place). place_makes r s) (some_inj e)
later_makes when_second q s e = ap (λ (r : Place). place_makes r expression) (sym (some_inj e)) ∙ ap (λ (r : Place). place_makes r s) (some_inj e)
later_makes when_third q s e = none_is_not e
later_makes if_guard q s e = ap (λ (r : Place). place_makes r expression) (sym (some_inj e)) ∙ ap (λ (r : Place). place_makes r s) (some_inj e)
later_makes if_then q s e = ap (λ (r : Place). place_makes r expression) (sym (some_inj e)) ∙ ap (λ (r : Place). place_makes r s) (some_inj e)
later_makes if_else q s e = none_is_not e
later_makes while_guard q s e = ap (λ (r : Place). place_makes r expression) (sym (some_inj e)) ∙ ap (λ (r : Place). place_makes r s) (some_inj e)
later_makes while_keep q s e = ap (λ (r : Place). place_makes r expression) (sym (some_inj e)) ∙ ap (λ (r : Place). place_makes r s) (some_inj e)
later_makes while_fall q s e = ap (λ (r : Place). place_makes r expression) (sym (some_inj e)) ∙ ap (λ (r : Place). place_makes r s) (some_inj e)
later_makes while_body q s e = none_is_not e
later_makes script_pre q s e = ap (λ (r : Place). place_makes r expression) (sym (some_inj e)) ∙ ap (λ (r : Place). place_makes r s) (some_inj e)
later_makes script_body q s e = ap (λ (r : Place). place_makes r expression) (sym (some_inj e)) ∙ ap (λ (r : Place). place_makes r s) (some_inj e)
later_makes script_post q s e = none_is_not e
