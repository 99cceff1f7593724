-- The shortened conditions of a list: as many, with the same kinds, rows and depths in order (`count_same`, `rules_same`,
-- `rows_same`, `depths_same`), in a list of the same form (`form_same`) that is never longer (`list_at_most`) and
-- well-formed (`well_formed_shortened`), true in all states exactly where the old ones are (`all_valid_iff`). What the
-- pass answers is in `Answers`. Assumes nothing.
use Rattle.std.specs.Prelude.{◌≤◌, ◌≡◌, refl, ◌↔◌, ℤ, T, length}
use Rattle.std.proofs.Common.{sym, ap, subst}
use mathlib.Core.List.{List, [], ◌∷◌, map}
use native.Mathlib.Omega.{arith as linear}
use Rattle.std.proofs.Math.ListN.{length-append}
use Rattle.std.proofs.lemmas.List.{length-map}
use Rattle.script.specs.Syntax.{Formula}
use Rattle.script.specs.Conditions.{Condition}
use Rattle.script.specs.Words.{Form, formula_words, trailer, line_words, all_lines, count_word, list_words}
use Rattle.script.specs.Listing.{form_of}
use Rattle.script.specs.WellFormed.{AllInRange, WellFormed}
use Rattle.script.specs.Meaning.{Arithmetic}
use Rattle.script.specs.Promise.{Valid, AllValid}
use Rattle.theorems.specs.ReadBack.{form_written}
use Rattle.shortening.specs.Simplify.{Order, shortenᶠ, shorten_condition, shorten_all}
use Rattle.shortening.specs.Laws.{Lawful, All}
use Rattle.shortening.specs.Same.{same_everywhere}
use Rattle.shortening.specs.Never.{never_longer}
use Rattle.shortening.specs.Leaves.{shorten_in_rangeᶠ}

module _ (o : Order) where
  -- ---- the shortened conditions

  pub count_same : (cs : List Condition) → length (shorten_all o cs) ≡ length cs
  count_same cs = length-map cs (shorten_condition o)

  -- kinds, rows and depths, in order
  pub rules_same : (cs : List Condition)
      → map (λ (c : Condition). c.rule) (shorten_all o cs) ≡ map (λ (c : Condition). c.rule) cs
  rules_same [] = refl
  rules_same (c ∷ cs) = ap (λ l. c.rule ∷ l) (rules_same cs)

  pub rows_same : (cs : List Condition)
      → map (λ (c : Condition). c.row) (shorten_all o cs) ≡ map (λ (c : Condition). c.row) cs
  rows_same [] = refl
  rows_same (c ∷ cs) = ap (λ l. c.row ∷ l) (rows_same cs)

  pub depths_same : (cs : List Condition)
      → map (λ (c : Condition). c.depth) (shorten_all o cs) ≡ map (λ (c : Condition). c.depth) cs
  depths_same [] = refl
  depths_same (c ∷ cs) = ap (λ l. c.depth ∷ l) (depths_same cs)

  -- ---- their list, in either form

  module _ (form : Form) where
    line_at_most : (c : Condition) → length (line_words form (shorten_condition o c)) ≤ length (line_words form c)
    unfolding line_words
    line_at_most c =
        let d = shorten_condition o c in
        let old = length-append (formula_words c.claim) (trailer form c) in
        let new = length-append (formula_words d.claim) (trailer form d) in
        omega (linear, old, new, never_longer o c.claim)

    lines_at_most : (cs : List Condition) → length (all_lines form (shorten_all o cs)) ≤ length (all_lines form cs)
    unfolding all_lines
    lines_at_most [] = omega linear
    lines_at_most (c ∷ cs) =
        let d = shorten_condition o c in
        let ds = shorten_all o cs in
        let old = length-append (line_words form c) (all_lines form cs) in
        let new = length-append (line_words form d) (all_lines form ds) in
        omega (linear, old, new, line_at_most c, lines_at_most cs)

    pub list_at_most : (cs : List Condition)
        → length (list_words form (shorten_all o cs)) ≤ length (list_words form cs)
    unfolding list_words
    list_at_most cs =
        let ds = shorten_all o cs in
        let old = length-append (all_lines form cs) (count_word form (length cs) ∷ []) in
        let new = length-append (all_lines form ds) (count_word form (length ds) ∷ []) in
        omega (linear, old, new, lines_at_most cs)

    all_in_range : (cs : List Condition) → AllInRange form cs → AllInRange form (shorten_all o cs)
    all_in_range [] h = tt
    all_in_range (c ∷ cs) h = (h.0, shorten_in_rangeᶠ o c.claim h.1, all_in_range cs h.2)

  module _ (ws : List ℤ) (cs : List Condition) (w : WellFormed ws cs) where
    -- "P6 writing the one it read" (02, P9)
    pub form_same : form_of (list_words (form_of ws) (shorten_all o cs)) ≡ form_of ws
    form_same = form_written (form_of ws) (shorten_all o cs) (omega (linear, count_same cs, w.counted))

    -- the shortened list of a well-formed list is well-formed
    pub well_formed_shortened : WellFormed (list_words (form_of ws) (shorten_all o cs)) (shorten_all o cs)
    well_formed_shortened = record {
      spells = ap (λ form. list_words form (shorten_all o cs)) form_same;
      short = omega (linear, list_at_most (form_of ws) cs, ap length w.spells, w.short);
      counted = omega (linear, count_same cs, w.counted);
      ranges = subst (λ form. AllInRange form (shorten_all o cs)) (sym form_same) (all_in_range (form_of ws) cs w.ranges);
    }

  -- true in all states, in an arithmetic in which every number is a value
  module _ (𝔸 : Arithmetic) (law : Lawful 𝔸 All) where
    pub valid_iff : (f : Formula) → Valid 𝔸 (shortenᶠ o f) ↔ Valid 𝔸 f
    valid_iff f =
        (λ v s. subst T (same_everywhere 𝔸 law o s f) (v s), λ v s. subst T (sym (same_everywhere 𝔸 law o s f)) (v s))

    pub all_valid_iff : (cs : List Condition) → AllValid 𝔸 (shorten_all o cs) ↔ AllValid 𝔸 cs
    all_valid_iff [] = (λ h. tt, λ h. tt)
    all_valid_iff (c ∷ cs) =
        let first = valid_iff c.claim in
        let rest = all_valid_iff cs in
        (λ h. (first.0 h.0, rest.0 h.1), λ h. (first.1 h.0, rest.1 h.1))
