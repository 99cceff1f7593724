-- What the formula's end tells of the condition at the front.
use Rattle.std.proofs.Common.{rules, arith, ◌+◌, ◌^◌, ◌<◌, length, get_or, ℕ, ℤ, List, pos}
use lib.Signed.{mag}
use Rattle.script.specs.Laws.{back}
use Rattle.output.specs.declared.Output.{Output}
use Rattle.list_reader.specs.Lines.{Tail}
use Rattle.list_reader.specs.Ends.{FormulaEnds}
use Rattle.printer.proofs.Walk.{Walking, Turn, turn, set_out, arrived, walked_on}
use Rattle.printer.proofs.put_lines.Goals as goal

here : {out₀ out : Output ℕ} {i e n : ℕ} {ws : List ℤ} → (w : Walking out₀ ws out i) → i + 1 < length ws → Tail ws n
    → FormulaEnds ws i e → Turn ws i e n w.conditions
here w = turn _ _ _ _ _ w.ahead

pub loop-i-init : goal.loop-i-init
loop-i-init c = set_out _ _ c.requires

pub offset_bounds-list-e : goal.offset_bounds-list-e
offset_bounds-list-e c =
    let t = here c.loop-i.invariant c.loop-i-test.true c.trailer_length-tail.ensures c.formula_end-e.ensures in
    search (rules, t.inside)

pub bounds-list-e : goal.bounds-list-e
bounds-list-e c =
    let t = here c.loop-i.invariant c.loop-i-test.true c.trailer_length-tail.ensures c.formula_end-e.ensures in
    omega (arith, t.inside)

pub overflow_add-e : goal.overflow_add-e
overflow_add-e c =
    let t = here c.loop-i.invariant c.loop-i-test.true c.trailer_length-tail.ensures c.formula_end-e.ensures in
    search (rules, t.inside)

pub offset_bounds-list-e-in-loop-i : goal.offset_bounds-list-e-in-loop-i
offset_bounds-list-e-in-loop-i c =
    let t = here c.loop-i.invariant c.loop-i-test.true c.trailer_length-tail.ensures c.formula_end-e.ensures in
    search (rules, t.inside, c.trailer_length-tail.ensures.least)

pub bounds-list-e-in-loop-i : goal.bounds-list-e-in-loop-i
bounds-list-e-in-loop-i c =
    let t = here c.loop-i.invariant c.loop-i-test.true c.trailer_length-tail.ensures c.formula_end-e.ensures in
    omega (arith, t.inside, c.trailer_length-tail.ensures.least)

pub slice_bounds-put_condition-count : goal.slice_bounds-put_condition-count
slice_bounds-put_condition-count c =
    let t = here c.loop-i.invariant c.loop-i-test.true c.trailer_length-tail.ensures c.formula_end-e.ensures in
    omega (arith, t.forward)

pub slice_bounds-put_condition-start : goal.slice_bounds-put_condition-start
slice_bounds-put_condition-start c =
    let t = here c.loop-i.invariant c.loop-i-test.true c.trailer_length-tail.ensures c.formula_end-e.ensures in
    search (rules, t.forward, t.inside)

pub slice_bounds-put_condition-end : goal.slice_bounds-put_condition-end
slice_bounds-put_condition-end c =
    let t = here c.loop-i.invariant c.loop-i-test.true c.trailer_length-tail.ensures c.formula_end-e.ensures in
    search (rules, t.forward, t.inside)

pub loop-i-smaller : goal.loop-i-smaller
loop-i-smaller c =
    let t = here c.loop-i.invariant c.loop-i-test.true c.trailer_length-tail.ensures c.formula_end-e.ensures in
    omega (arith, t.forward, t.inside)

pub loop-i-preserved : goal.loop-i-preserved
loop-i-preserved c =
    let t = here c.loop-i.invariant c.loop-i-test.true c.trailer_length-tail.ensures c.formula_end-e.ensures in
    let e = c.formula_end-e.result in
    let kind : mag (get_or c.args.list.now e (pos 0)) < 2 ^ 31 = search rules in
    let row : mag (get_or c.args.list.now (e + 1) (pos 0)) < 2 ^ 31 = search rules in
    let line = c.put_condition.ensures in
    walked_on c.loop-i.invariant c.trailer_length-tail.ensures t c.field_number-kind.ensures (back kind) (back row) line.wrote line.formula_len_bound

pub returns-clause-wrote : goal.returns-clause-wrote
returns-clause-wrote c = (arrived c.loop-i.invariant c.loop-i-test.false).0

pub returns-clause-list_len_bound : goal.returns-clause-list_len_bound
returns-clause-list_len_bound c = (arrived c.loop-i.invariant c.loop-i-test.false).1
