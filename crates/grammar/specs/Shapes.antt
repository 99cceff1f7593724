-- The parts of a form that is complete: a good chain up to a place is that of its form, part by part. Assumes nothing.
use Rattle.std.specs.Prelude.{◌≡◌, refl, true}
use Rattle.std.proofs.Common.{sym, ap, ◌∙◌}
use Rattle.std.proofs.Math.Option.{Option, none, some}
use Rattle.theorems.specs.Options.{none_is_not, some_inj}
use Rattle.grammar.specs.Sorts.{takes}
use Rattle.grammar.specs.Forms.{Form, group_form, mark_form, when_form, if_form, while_form, script_form, Place, in_group, in_mark, when_first, when_second, when_third, if_guard, if_then, if_else, while_guard, while_keep, while_fall, while_body, script_pre, script_body, script_post, first_place, next_place, place_takes}
use Rattle.grammar.specs.Grammar.{Phrase, Chain, begun, more, place, sort, GoodChain}

abbrev pub prev : Place → Option Place
prev in_group = none
prev in_mark = none
prev when_first = none
prev when_second = some when_first
prev when_third = some when_second
prev if_guard = none
prev if_then = some if_guard
prev if_else = some if_then
prev while_guard = none
prev while_keep = some while_guard
prev while_fall = some while_keep
prev while_body = some while_fall
prev script_pre = none
prev script_body = some script_pre
prev script_post = some script_body

abbrev pub form_of : Place → Form
form_of in_group = group_form
form_of in_mark = mark_form
form_of when_first = when_form
form_of when_second = when_form
form_of when_third = when_form
form_of if_guard = if_form
form_of if_then = if_form
form_of if_else = if_form
form_of while_guard = while_form
form_of while_keep = while_form
form_of while_fall = while_form
form_of while_body = while_form
form_of script_pre = script_form
form_of script_body = script_form
form_of script_post = script_form

next_prev : (p q : Place) → next_place p ≡ some q → prev q ≡ some p
next_prev in_group q e = none_is_not e
next_prev in_mark q e = none_is_not e
next_prev when_first q e = ap prev (sym (some_inj e))
next_prev when_second q e = ap prev (sym (some_inj e))
next_prev when_third q e = none_is_not e
next_prev if_guard q e = ap prev (sym (some_inj e))
next_prev if_then q e = ap prev (sym (some_inj e))
next_prev if_else q e = none_is_not e
next_prev while_guard q e = ap prev (sym (some_inj e))
next_prev while_keep q e = ap prev (sym (some_inj e))
next_prev while_fall q e = ap prev (sym (some_inj e))
next_prev while_body q e = none_is_not e
next_prev script_pre q e = ap prev (sym (some_inj e))
next_prev script_body q e = ap prev (sym (some_inj e))
next_prev script_post q e = none_is_not e

first_prev : (f : Form) → prev (first_place f) ≡ none
first_prev group_form = refl
first_prev mark_form = refl
first_prev when_form = refl
first_prev if_form = refl
first_prev while_form = refl
first_prev script_form = refl

form_first : (f : Form) → form_of (first_place f) ≡ f
form_first group_form = refl
form_first mark_form = refl
form_first when_form = refl
form_first if_form = refl
form_first while_form = refl
form_first script_form = refl

-- a first place has nothing before it
pub at_first : (c : Chain) (p : Place) → GoodChain c → place c ≡ p → prev p ≡ none → c ≡ begun (form_of p)
unfolding GoodChain
at_first (begun f) p g e n = ap begun (sym (form_first f) ∙ ap form_of e)
at_first (more c x q) p g e n = none_is_not (sym n ∙ ap prev (sym e) ∙ next_prev (place c) q g.3)

-- a later place has one part more
pub record Back (c : Chain) (p q : Place) : Type 0 where
  pub front : Chain
  pub part : Phrase
  pub here : place front ≡ p
  pub good : GoodChain front
  pub fits : takes (place_takes p) (sort part) ≡ true
  pub is : c ≡ more front part q

pub at_later : (c : Chain) (p q : Place) → GoodChain c → place c ≡ q → prev q ≡ some p → Back c p q
unfolding GoodChain
at_later (begun f) p q g e n = none_is_not (sym (first_prev f) ∙ ap prev e ∙ n)
at_later (more c x r) p q g e n =
    let h : place c ≡ p = some_inj (sym (next_prev (place c) r g.3) ∙ ap prev e ∙ n) in
    record { front = c; part = x; here = h; good = g.0; fits = rw h at g.2; is = ap (λ (o : Place). more c x o) e }

-- two parts before the last
pub record Two (c : Chain) (p q r : Place) : Type 0 where
  pub first : Phrase
  pub second : Phrase
  pub first_fits : takes (place_takes p) (sort first) ≡ true
  pub second_fits : takes (place_takes q) (sort second) ≡ true
  pub is : c ≡ more (more (begun (form_of p)) first q) second r

pub at_third : (c : Chain) (p q r : Place) → GoodChain c → place c ≡ r → prev r ≡ some q → prev q ≡ some p → prev p ≡ none → Two c p q r
at_third c p q r g e j k n =
    let b = at_later c q r g e j in
    let a = at_later b.front p q b.good b.here k in
    let z = at_first a.front p a.good a.here n in
    record {
      first = a.part;
      second = b.part;
      first_fits = a.fits;
      second_fits = b.fits;
      is = b.is ∙ ap (λ (d : Chain). more d b.part r) (a.is ∙ ap (λ (d : Chain). more d a.part q) z);
    }

-- three
pub record Three (c : Chain) (p q r s : Place) : Type 0 where
  pub first : Phrase
  pub second : Phrase
  pub third : Phrase
  pub first_fits : takes (place_takes p) (sort first) ≡ true
  pub second_fits : takes (place_takes q) (sort second) ≡ true
  pub third_fits : takes (place_takes r) (sort third) ≡ true
  pub is : c ≡ more (more (more (begun (form_of p)) first q) second r) third s

pub at_fourth : (c : Chain) (p q r s : Place) → GoodChain c → place c ≡ s → prev s ≡ some r → prev r ≡ some q → prev q ≡ some p → prev p ≡ none
    → Three c p q r s
at_fourth c p q r s g e i j k n =
    let b = at_later c r s g e i in
    let t = at_third b.front p q r b.good b.here j k n in
    record {
      first = t.first;
      second = t.second;
      third = b.part;
      first_fits = t.first_fits;
      second_fits = t.second_fits;
      third_fits = b.fits;
      is = b.is ∙ ap (λ (d : Chain). more d b.part s) t.is;
    }
