-- The productions derive exactly the texts that have a good phrase (`derives_exactly`), and each derivation of a text has
-- the text's one phrase (`derivation_phrase`): what it groups, the reading groups.
-- Argument: the phrase of a derivation is good by `DerivedPhrases`; a good phrase is derived from the nonterminal of its sort
-- and level, by induction (`derives`), its parts being raised to the nonterminals that their places ask for. Assumes
-- nothing.
use Rattle.std.specs.Prelude.{◌≡◌, ◌↔◌, true}
use Rattle.std.proofs.Math.Path.{refl, subst}
use Rattle.std.proofs.Common.{sym, ap, ◌∙◌}
use Rattle.std.proofs.Math.Option.{none}
use mathlib.Core.List.{List, [], ◌∷◌, ◌++◌}
use Rattle.theorems.specs.Options.{none_is_not}
use Rattle.grammar.specs.Sorts.{Sort, expression, formula, statement as statement-sort, takes}
use Rattle.grammar.specs.Forms.{Place, in_group, in_mark, when_first, when_second, when_third, if_guard, if_then, if_else, while_guard, while_keep, while_fall, while_body, script_pre, script_body, script_post, when_form, if_form, while_form, script_form, next_place, place_takes, place_makes}
use Rattle.grammar.specs.Operators.{semicolon}
use Rattle.grammar.specs.Tokens.{comma_closer, then_closer, else_closer, end_closer, keep_closer, fall_closer, do_closer, post_closer, end_of_text, Token, infix_word, form_word, closer_word, prefix_opening}
use Rattle.grammar.specs.Productions.{script, statement, operand, bracket, closing, Derives, whole, chooses, loops, a_when}
use Rattle.grammar.specs.Grammar.{Phrase, leaf, before, between, closed, Chain, begun, more, place, opening_words, words, chain_words, sort, level, Good, GoodChain}
use Rattle.grammar.specs.Text.{text, Spells}
use Rattle.grammar.specs.TextSound.{text_append}
use Rattle.grammar.specs.TextRead.{text_unique}
use Rattle.grammar.specs.PhraseOf.{phrase}
use Rattle.grammar.specs.Shapes.{at_first, at_third, at_fourth}
use Rattle.grammar.specs.FormTexts.{three_text, four_text, prefix_text, leaf_text}
use Rattle.grammar.specs.DerivedPhrases.{derived}
use Rattle.grammar.specs.PhraseLevels.{at}
use Rattle.grammar.specs.PhraseParts.{Derived, leaf_derives, prefix_derives, infix_derives, part, mark_derives, group_derives}

-- ---- forms

-- the parts of a chain
abbrev ChainDerived : Chain → Type 0
ChainDerived (begun f) = Unit {0}
ChainDerived (more c x q) = ChainDerived c × Derived x

module _ (c : Chain) (x : Phrase) (good : GoodChain c) (front : ChainDerived c) (d : Derived x) where
  -- the form with its parts, where its last place is p
  abbrev FormDerived : Place → Type 0
  FormDerived p =
      place c ≡ p → takes (place_takes p) (sort x) ≡ true → Derives (at (place_makes p (sort x)) 10) (text (words (closed c x)))

  when_derives : FormDerived when_third
  unfolding words chain_words text
  when_derives e t =
      let w = at_third c when_first when_second when_third good e refl refl refl in
      let a = w.first in
      let b = w.second in
      let h = subst ChainDerived w.is front in
      let comma = closer_word comma_closer ∷ [] in
      let spelt = three_text (form_word when_form ∷ bracket ∷ []) (words a) (words b) (words x) comma comma (closing ∷ []) refl refl refl in
      subst (λ (k : Chain). Derives operand (text (words (closed k x)))) (sym w.is)
      (subst (λ ts. Derives operand ts) (sym spelt)
      (a_when (part formula a w.first_fits h.0.1) (part expression b w.second_fits h.1) (part expression x t d)))

  if_derives : FormDerived if_else
  unfolding words chain_words text
  if_derives e t =
      let w = at_third c if_guard if_then if_else good e refl refl refl in
      let a = w.first in
      let b = w.second in
      let h = subst ChainDerived w.is front in
      let spelt = three_text (form_word if_form ∷ []) (words a) (words b) (words x) (closer_word then_closer ∷ []) (closer_word else_closer ∷ []) (closer_word end_closer ∷ []) refl refl refl in
      subst (λ (k : Chain). Derives statement (text (words (closed k x)))) (sym w.is)
      (subst (λ ts. Derives statement ts) (sym spelt)
      (chooses (part formula a w.first_fits h.0.1) (part statement-sort b w.second_fits h.1) (part statement-sort x t d)))

  script_derives : FormDerived script_post
  unfolding words chain_words text
  script_derives e t =
      let w = at_third c script_pre script_body script_post good e refl refl refl in
      let a = w.first in
      let b = w.second in
      let h = subst ChainDerived w.is front in
      let spelt = three_text (form_word script_form ∷ []) (words a) (words b) (words x) (infix_word semicolon ∷ []) (closer_word post_closer ∷ []) (closer_word end_of_text ∷ []) refl refl refl in
      subst (λ (k : Chain). Derives script (text (words (closed k x)))) (sym w.is)
      (subst (λ ts. Derives script ts) (sym spelt)
      (whole (part formula a w.first_fits h.0.1) (part statement-sort b w.second_fits h.1) (part formula x t d)))

  while_derives : FormDerived while_body
  unfolding words chain_words text
  while_derives e t =
      let w = at_fourth c while_guard while_keep while_fall while_body good e refl refl refl refl in
      let f = w.first in
      let g = w.second in
      let v = w.third in
      let h = subst ChainDerived w.is front in
      let spelt = four_text (form_word while_form ∷ []) (words f) (words g) (words v) (words x) (closer_word keep_closer ∷ []) (closer_word fall_closer ∷ []) (closer_word do_closer ∷ []) (closer_word end_closer ∷ []) refl refl refl refl in
      subst (λ (k : Chain). Derives statement (text (words (closed k x)))) (sym w.is)
      (subst (λ ts. Derives statement ts) (sym spelt)
      (loops (part formula f w.first_fits h.0.0.1) (part formula g w.second_fits h.0.1) (part expression v w.third_fits h.1) (part statement-sort x t d)))

  form_derives : (p : Place) → next_place p ≡ none → Good x → FormDerived p
  form_derives in_group n g e t =
      subst (λ (k : Chain). Derives (at (sort x) 10) (text (words (closed k x)))) (sym (at_first c in_group good e refl)) (group_derives x (sort x) refl t d)
  form_derives in_mark n g e t =
      subst (λ (k : Chain). Derives operand (text (words (closed k x)))) (sym (at_first c in_mark good e refl)) (mark_derives x g t)
  form_derives when_first n g e t = none_is_not (sym n)
  form_derives when_second n g e t = none_is_not (sym n)
  form_derives when_third n g e t = when_derives e t
  form_derives if_guard n g e t = none_is_not (sym n)
  form_derives if_then n g e t = none_is_not (sym n)
  form_derives if_else n g e t = if_derives e t
  form_derives while_guard n g e t = none_is_not (sym n)
  form_derives while_keep n g e t = none_is_not (sym n)
  form_derives while_fall n g e t = none_is_not (sym n)
  form_derives while_body n g e t = while_derives e t
  form_derives script_pre n g e t = none_is_not (sym n)
  form_derives script_body n g e t = none_is_not (sym n)
  form_derives script_post n g e t = script_derives e t

-- ---- every phrase

mutual
  unfolding Good GoodChain words text

  derives : (x : Phrase) → Good x → Derived x
  derives (leaf l) g = subst (λ ts. Derives (at (sort (leaf l)) 10) ts) (sym (leaf_text l)) (leaf_derives l)
  derives (before p x) g =
      let o = opening_words (prefix_opening p) in
      subst (λ ts. Derives (at (sort (before p x)) (level (before p x))) ts) (sym (text_append o (words x) ∙ ap (λ ts. ts ++ text (words x)) (prefix_text p)))
      (prefix_derives p x g.1 g.2 (derives x g.0))
  derives (between o x y) g =
      subst (λ ts. Derives (at (sort (between o x y)) (level (between o x y))) ts) (sym (text_append (words x) (infix_word o ∷ words y)))
      (infix_derives o x y g.2 g.3 g.4 g.5 (derives x g.0) (derives y g.1))
  derives (closed c x) g = form_derives c x g.0 (chain_derives c g.0) (derives x g.1) (place c) g.3 g.1 refl g.2

  chain_derives : (c : Chain) → GoodChain c → ChainDerived c
  chain_derives (begun f) g = tt
  chain_derives (more c x q) g = (chain_derives c g.0, derives x g.1)

-- ---- a text

pub derivation_spells : {ts : List Token} (d : Derives script ts) → Spells (phrase d) ts
derivation_spells d = let p = derived d in record { good = p.good; whole = p.fits; spelt = p.spelt }

pub derivation_phrase : {ts : List Token} (d : Derives script ts) (x : Phrase) → Spells x ts → phrase d ≡ x
derivation_phrase {ts} d x h = text_unique (phrase d) x ts (derivation_spells d) h

pub derives_exactly : (ts : List Token) → Derives script ts ↔ ((x : Phrase) × Spells x ts)
derives_exactly ts = (λ d. (phrase d, derivation_spells d), back)
  where
    back : (x : Phrase) × Spells x ts → Derives script ts
    back s =
        let x = s.0 in
        subst (λ us. Derives script us) s.1.spelt
        (subst (λ (r : Sort). Derives (at r (level x)) (text (words x))) s.1.whole (derives x s.1.good))
