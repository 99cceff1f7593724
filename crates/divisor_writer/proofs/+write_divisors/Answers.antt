-- Each turn goes on from the node's source by the law of its kind.
use Rattle.std.proofs.Common.{◌≡◌, ◌⊎◌, ℕ, refl, ⊎_elim, arith}
use Rattle.script.specs.declared.kinds.Kind.{Kind}
use Rattle.script.specs.Rows.{field_number, word}
use Rattle.script.specs.Kinds.{kind_of, number_read, other_read}
use Rattle.dividing.specs.Divisions.{division_kind, other_kind}
use Rattle.dividing.specs.Parts.{Choice, Pair, expression_below, formula_below}
use Rattle.divisor_writer.specs.Ready.{part_in, part_node}
use Rattle.divisor_writer.specs.Turns.{done, stopped, source_here, at_source, falls_below, part_ready, choice_turn, choice_here, divisor_node, division_written, pair_turn, pair_here}
use Rattle.divisor_writer.proofs.+write_divisors.Goals as goal
use Rattle.divisor_writer.proofs.+write_divisors.Goals.{After-field-row, After-field-in-Div-2, After-field-in_default-2}

-- ---- what does not divide, and no room

pub returns-then-not-divides : goal.returns-then-not-divides
returns-then-not-divides t c =
    done c.loop-j.invariant c.divides.ensures c.if-not-divides.true

pub returns : goal.returns
returns t c =
    stopped c.loop-j.invariant (c.fits.ensures.1 c.loop-j-test.false)

-- ---- the parts of the source

no_choice : {k : Kind} {n : ℕ} → k ≡ kind_of n → (k ≡ Kind.Div) ⊎ (k ≡ Kind.Mod) → n ≡ 10 → ⊥
no_choice e h = ⊎_elim (λ i j. let q = number_read e i refl in omega arith) (λ i j. let q = number_read e i refl in omega arith) h

no_choice_left : {k : Kind} {n : ℕ} → k ≡ kind_of n → (k ≡ Kind.Choose → ⊥) → n ≡ 10 → ⊥
unfolding kind_of
no_choice_left e h = other_read e h refl

chosen : (t : ℕ) (c : After-field-row t) → Choice c.args.table.now c.source-row.result.0 c.field.result c.field-in-Choose.result c.field-row.result
chosen t c =
    choice_here (at_source c.loop-j.invariant c.source-row.ensures) refl (number_read c.kind_at.ensures c.in-Choose.is refl)
    c.field.ensures c.field-in-Choose.ensures c.field-row.ensures

divided : (t : ℕ) (c : After-field-in-Div-2 t)
    → Pair c.args.table.now c.source-row.result.0 (field_number (word c.args.table.now c.source-row.result.0 0)) c.field-in-Div.result c.field-in-Div-2.result
divided t c =
    pair_here (at_source c.loop-j.invariant c.source-row.ensures) refl (source_here c.loop-j.invariant c.source-row.ensures)
    (no_choice c.kind_at.ensures c.in-Div.is) c.field-in-Div.ensures c.field-in-Div-2.ensures

paired : (t : ℕ) (c : After-field-in_default-2 t)
    → Pair c.args.table.now c.source-row.result.0 (field_number (word c.args.table.now c.source-row.result.0 0)) c.field-in_default.result c.field-in_default-2.result
paired t c =
    pair_here (at_source c.loop-j.invariant c.source-row.ensures) refl (source_here c.loop-j.invariant c.source-row.ensures)
    (no_choice_left c.kind_at.ensures c.in_default.not-Choose) c.field-in_default.ensures c.field-in_default-2.ensures

-- ---- a choice: the ands, D of the formula, and D of each side behind its premise; that of the second side is the next turn

pub divides-last-requires : goal.divides-last-requires
divides-last-requires t c =
    let g = at_source c.loop-j.invariant c.source-row.ensures in
    let k = chosen t (goal.at.divides-last-requires t c).After-field-row in
    part_in g.ready (expression_below _ k.second)

pub push_ands-requires : goal.push_ands-requires
push_ands-requires t c =
    let g = at_source c.loop-j.invariant c.source-row.ensures in
    let k = chosen t (goal.at.push_ands-requires t c).After-field-row in
    (part_in g.ready (formula_below _ k.by), part_in g.ready (expression_below _ k.first))

pub write_divisors-requires : goal.write_divisors-requires
write_divisors-requires t c =
    let g = at_source c.loop-j.invariant c.source-row.ensures in
    let k = chosen t (goal.at.write_divisors-requires t c).After-field-row in
    part_ready g c.decreases (formula_below _ k.by)

pub write_premise-requires : goal.write_premise-requires
write_premise-requires t c =
    let g = at_source c.loop-j.invariant c.source-row.ensures in
    let k = chosen t (goal.at.write_premise-requires t c).After-field-row in
    (part_node g.ready k.by, part_in g.ready (expression_below _ k.first))

pub write_divisors-requires-in-Choose : goal.write_divisors-requires-in-Choose
write_divisors-requires-in-Choose t c =
    let g = at_source c.loop-j.invariant c.source-row.ensures in
    let k = chosen t (goal.at.write_divisors-requires-in-Choose t c).After-field-row in
    part_ready g c.decreases (expression_below _ k.first)

pub write_premise-requires-in-Choose : goal.write_premise-requires-in-Choose
write_premise-requires-in-Choose t c =
    let g = at_source c.loop-j.invariant c.source-row.ensures in
    let k = chosen t (goal.at.write_premise-requires-in-Choose t c).After-field-row in
    (part_node g.ready k.by, part_in g.ready (expression_below _ k.second))

pub loop-j-smaller-in-Choose : goal.loop-j-smaller-in-Choose
loop-j-smaller-in-Choose t c =
    let k = chosen t (goal.at.loop-j-smaller-in-Choose t c).After-field-row in
    let o = source_here c.loop-j.invariant c.source-row.ensures in
    falls_below o k.second.0

pub loop-j-preserved-in-Choose : goal.loop-j-preserved-in-Choose
loop-j-preserved-in-Choose t c =
    let g = at_source c.loop-j.invariant c.source-row.ensures in
    let k = chosen t (goal.at.loop-j-preserved-in-Choose t c).After-field-row in
    choice_turn g k (rw c.divides-last.ensures at c.push_ands.ensures) c.write_divisors.ensures c.write_premise.ensures
    c.write_divisors-in-Choose.ensures c.write_premise-in-Choose.ensures

-- ---- two parts, with a divisor: that is last, and the writer returns

pub push_ands-requires-in-Div : goal.push_ands-requires-in-Div
push_ands-requires-in-Div t c =
    let g = at_source c.loop-j.invariant c.source-row.ensures in
    let k = divided t (goal.at.push_ands-requires-in-Div t c).After-field-in-Div-2 in
    (part_in g.ready k.first, part_in g.ready k.second)

pub write_divisors-requires-in-Div : goal.write_divisors-requires-in-Div
write_divisors-requires-in-Div t c =
    let g = at_source c.loop-j.invariant c.source-row.ensures in
    let k = divided t (goal.at.write_divisors-requires-in-Div t c).After-field-in-Div-2 in
    part_ready g c.decreases k.first

pub write_divisors-requires-in-Div-2 : goal.write_divisors-requires-in-Div-2
write_divisors-requires-in-Div-2 t c =
    let g = at_source c.loop-j.invariant c.source-row.ensures in
    let k = divided t (goal.at.write_divisors-requires-in-Div-2 t c).After-field-in-Div-2 in
    part_ready g c.decreases k.second

pub write_nonzero-requires : goal.write_nonzero-requires
write_nonzero-requires t c =
    let g = at_source c.loop-j.invariant c.source-row.ensures in
    let k = divided t (goal.at.write_nonzero-requires t c).After-field-in-Div-2 in
    divisor_node g k refl (division_kind _ c.kind_at.ensures c.in-Div.is)

pub returns-in-Div : goal.returns-in-Div
returns-in-Div t c =
    let g = at_source c.loop-j.invariant c.source-row.ensures in
    let k = divided t (goal.at.returns-in-Div t c).After-field-in-Div-2 in
    division_written g k refl (division_kind _ c.kind_at.ensures c.in-Div.is)
    c.push_ands-in-Div.ensures c.write_divisors-in-Div.ensures c.write_divisors-in-Div-2.ensures
    c.write_nonzero.ensures

-- ---- two parts, with no divisor: D of the second is the next turn

pub push_ands-requires-in_default : goal.push_ands-requires-in_default
push_ands-requires-in_default t c =
    let g = at_source c.loop-j.invariant c.source-row.ensures in
    let k = paired t (goal.at.push_ands-requires-in_default t c).After-field-in_default-2 in
    (part_in g.ready k.first, part_in g.ready k.second)

pub write_divisors-requires-in_default : goal.write_divisors-requires-in_default
write_divisors-requires-in_default t c =
    let g = at_source c.loop-j.invariant c.source-row.ensures in
    let k = paired t (goal.at.write_divisors-requires-in_default t c).After-field-in_default-2 in
    part_ready g c.decreases k.first

pub loop-j-smaller : goal.loop-j-smaller
loop-j-smaller t c =
    let o = source_here c.loop-j.invariant c.source-row.ensures in
    let k = paired t (goal.at.loop-j-smaller t c).After-field-in_default-2 in
    falls_below o k.second.0

pub loop-j-preserved : goal.loop-j-preserved
loop-j-preserved t c =
    let g = at_source c.loop-j.invariant c.source-row.ensures in
    let k = paired t (goal.at.loop-j-preserved t c).After-field-in_default-2 in
    pair_turn g k refl (other_kind _ c.kind_at.ensures c.in_default.not-Div c.in_default.not-Mod)
    c.push_ands-in_default.ensures c.write_divisors-in_default.ensures
