-- The entry of the node at hand, by its kind.
use Rattle.std.proofs.Common.{◌≡◌, ℕ, List, ℤ, ◌+◌, ◌≤◌, refl, true, false, sym, ◌∙◌, ⊎_elim, arith}
use Rattle.script.specs.Rows.{field_number, word}
use Rattle.script.specs.Kinds.{number_read}
use Rattle.formula_writer.specs.Kinds.{past_expressions, past_formulas}
use Rattle.dividing.specs.Divided.{Entry}
use Rattle.dividing.specs.Divisions.{division, division_kind, other_kind}
use Rattle.dividing.specs.Parts.{Choice, Pair, constant_none, variable_none, mark_none, true_none, false_none, expression_below, formula_below, negation, denial, choice, pair}
use Rattle.dividing.specs.Entries.{RowReady, in_run, leaf_entry, single_entry, choice_first, choice_second, choice_by, pair_division, pair_both, pair_first, pair_second}
use Rattle.dividing.proofs.find_entry.Goals as goal
use Rattle.dividing.proofs.find_entry.Goals.{then-divides, else-divides, After-field-in-Choose-3, After-field-in_default-2}

-- ---- leaves, and one part

pub returns-in-Constant : goal.returns-in-Constant
returns-in-Constant c =
    let ok = c.requires.table in
    let h = c.requires.inside in
    let e = c.kind_at.ensures in
    leaf_entry c.requires
    (⊎_elim (λ k. constant_none _ ok _ h refl (number_read e k refl))
    (⊎_elim (λ k. variable_none _ ok _ h refl (number_read e k refl))
    (⊎_elim (λ k. mark_none _ ok _ h refl (number_read e k refl))
    (⊎_elim (λ k. true_none _ ok _ h refl (number_read e k refl)) (λ k. false_none _ ok _ h refl (number_read e k refl)))))
    c.in-Constant.is)

pub entry-requires : goal.entry-requires
entry-requires c =
    let ok = c.requires.table in
    let h = c.requires.inside in
    let e = c.kind_at.ensures in
    ⊎_elim (λ k. in_run c.requires (negation _ ok _ h refl (number_read e k refl) c.field.ensures).part)
    (λ k. in_run c.requires (denial _ ok _ h refl (number_read e k refl) c.field.ensures).part)
    c.in-Negate.is

pub returns-in-Negate : goal.returns-in-Negate
returns-in-Negate c =
    let ok = c.requires.table in
    let h = c.requires.inside in
    let e = c.kind_at.ensures in
    ⊎_elim (λ k. single_entry c.requires (negation _ ok _ h refl (number_read e k refl) c.field.ensures) c.entry.ensures)
    (λ k. single_entry c.requires (denial _ ok _ h refl (number_read e k refl) c.field.ensures) c.entry.ensures)
    c.in-Negate.is

-- ---- a choice: a source where a side divides

chosen : (c : After-field-in-Choose-3) → Choice c.args.table.now c.args.r c.field-in-Choose.result c.field-in-Choose-2.result c.field-in-Choose-3.result
chosen c =
    choice _ c.requires.table _ c.requires.inside refl (number_read c.kind_at.ensures c.in-Choose.is refl)
    c.field-in-Choose.ensures c.field-in-Choose-2.ensures c.field-in-Choose-3.ensures

pub divides-requires : goal.divides-requires
divides-requires c = in_run c.requires (expression_below _ (chosen (goal.at.divides-requires c).After-field-in-Choose-3).first)

pub divides-requires-else-divides : goal.divides-requires-else-divides
divides-requires-else-divides c =
    in_run c.requires (expression_below _ (chosen (goal.at.divides-requires-else-divides c).After-field-in-Choose-3).second)

pub returns-then-divides-2 : goal.returns-then-divides-2
returns-then-divides-2 c =
    let k = chosen (goal.at.returns-then-divides-2 c).After-field-in-Choose-3 in
    elim c.if-divides.branch [
      | then-divides w ↦ choice_first c.requires k (sym c.divides.ensures ∙ w.if-divides.true)
      | else-divides w ↦ choice_second c.requires k (sym w.divides-else-divides.ensures ∙ (sym w.value-is ∙ c.if-divides-2.true))
    ]

pub entry-requires-else-divides-2 : goal.entry-requires-else-divides-2
entry-requires-else-divides-2 c =
    in_run c.requires (formula_below _ (chosen (goal.at.entry-requires-else-divides-2 c).After-field-in-Choose-3).by)

pub returns-else-divides-2 : goal.returns-else-divides-2
returns-else-divides-2 c =
    let k = chosen (goal.at.returns-else-divides-2 c).After-field-in-Choose-3 in
    elim c.if-divides.branch [
      | then-divides w ↦ cc
      | else-divides w ↦
          choice_by c.requires k (sym c.divides.ensures ∙ w.if-divides.false)
          (sym w.divides-else-divides.ensures ∙ (sym w.value-is ∙ c.if-divides-2.false)) c.entry-else-divides-2.ensures
    ]

-- ---- two parts: a source with a divisor, or where both divide

divided : {t follow : List ℤ} {r n : ℕ} → RowReady t follow r → n ≡ field_number (word t r 0) → division n ≡ true → 6 ≤ n → n ≤ 7 → Entry t r (r + 1)
divided g read d low high =
    pair_division g
    (pair _ g.table _ g.inside read refl refl g.node
    (((((tt, λ e. omega arith), λ e. omega arith), λ e. omega arith), λ e. omega arith), λ e. omega arith)
    (((tt, λ e. omega arith), λ e. omega arith), λ e. omega arith)) d

pub returns-in-Div : goal.returns-in-Div
returns-in-Div c =
    let d = division_kind _ c.kind_at.ensures c.in-Div.is in
    ⊎_elim (λ k. let e = number_read c.kind_at.ensures k refl in divided c.requires refl d (omega arith) (omega arith))
    (λ k. let e = number_read c.kind_at.ensures k refl in divided c.requires refl d (omega arith) (omega arith))
    c.in-Div.is

paired : (c : After-field-in_default-2)
    → Pair c.args.table.now c.args.r (field_number (word c.args.table.now c.args.r 0)) c.field-in_default.result c.field-in_default-2.result
paired c =
    let e = c.kind_at.ensures in
    let d = c.in_default in
    pair _ c.requires.table _ c.requires.inside refl c.field-in_default.ensures c.field-in_default-2.ensures c.requires.node
    (past_expressions e d.not-Constant d.not-Variable d.not-Negate d.not-Mark d.not-Choose) (past_formulas e d.not-True d.not-False d.not-Not)

undivided : (c : After-field-in_default-2) → division (field_number (word c.args.table.now c.args.r 0)) ≡ false
undivided c = other_kind _ c.kind_at.ensures c.in_default.not-Div c.in_default.not-Mod

pub divides-requires-in_default : goal.divides-requires-in_default
divides-requires-in_default c = in_run c.requires (paired (goal.at.divides-requires-in_default c).After-field-in_default-2).first

pub entry-requires-then-not-divides : goal.entry-requires-then-not-divides
entry-requires-then-not-divides c = in_run c.requires (paired (goal.at.entry-requires-then-not-divides c).After-field-in_default-2).second

pub returns-then-not-divides : goal.returns-then-not-divides
returns-then-not-divides c =
    let a = (goal.at.returns-then-not-divides c).After-field-in_default-2 in
    pair_second c.requires (paired a) (undivided a) (sym c.divides-in_default.ensures ∙ c.if-not-divides.true) c.entry-then-not-divides.ensures

pub divides-requires-else-not-divides : goal.divides-requires-else-not-divides
divides-requires-else-not-divides c = in_run c.requires (paired (goal.at.divides-requires-else-not-divides c).After-field-in_default-2).second

pub returns-then-divides-3 : goal.returns-then-divides-3
returns-then-divides-3 c =
    let a = (goal.at.returns-then-divides-3 c).After-field-in_default-2 in
    pair_both c.requires (paired a) (sym c.divides-in_default.ensures ∙ c.if-not-divides.false)
    (sym c.divides-else-not-divides.ensures ∙ c.if-divides-3.true)

pub returns-else-divides-3 : goal.returns-else-divides-3
returns-else-divides-3 c =
    let a = (goal.at.returns-else-divides-3 c).After-field-in_default-2 in
    pair_first c.requires (paired a) (undivided a) (sym c.divides-else-not-divides.ensures ∙ c.if-divides-3.false) c.entry-else-divides-3.ensures
