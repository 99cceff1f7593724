-- `list_reader::walked` meets its contract.
use Rattle.std.proofs.Common.{sym, ap, ◌∙◌, arith}
use Rattle.script.specs.declared.Line.{Line}
use Rattle.list_reader.specs.Lines.{line_told}
use Rattle.list_reader.proofs.Walking.{walk, walk_finds, malformed_step, all_walked, front_left}
use Rattle.list_reader.proofs.Telling.{told_short, no_start, walk_kept, walk_passed, told_as}
use Rattle.list_reader.proofs.walked.Goals as goal

pub loop-i-init : goal.loop-i-init
loop-i-init c =
    let a = c.args in
    ap (λ (l : Line). walk a.words.now a.index l a.count a.last)
    (sym (told_short a.words.now c.trailer_length-tail.ensures 0 (omega (arith, c.trailer_length-tail.ensures.least))))

pub loop-i-preserved-then-i-index : goal.loop-i-preserved-then-i-index
loop-i-preserved-then-i-index c =
    let a = c.args in
    let l = c.loop-i in
    sym (walk_kept a.words.now l.end a.index l.i l.kept c.loop-i-test.true c.in-Some.ensures c.if-i-index.true) ∙ l.invariant

pub loop-i-preserved : goal.loop-i-preserved
loop-i-preserved c =
    let a = c.args in
    let l = c.loop-i in
    sym (walk_passed a.words.now l.end a.index l.i l.kept c.loop-i-test.true c.in-Some.ensures c.if-i-index.false) ∙ l.invariant

pub returns-in_default : goal.returns-in_default
returns-in_default c =
    let a = c.args in
    let l = c.loop-i in
    sym (malformed_step a.words.now a.index (line_told a.words.now l.kept) l.end l.i c.loop-i-test.true
    (no_start a.words.now l.end c.in_default.ensures))
    ∙ l.invariant ∙ walk_finds a.words.now a.index a.count a.last

pub returns-then-end-eq0 : goal.returns-then-end-eq0
returns-then-end-eq0 c =
    let a = c.args in
    let l = c.loop-i in
    told_as _
    (sym (all_walked a.words.now a.index (line_told a.words.now l.kept) l.end l.i (omega arith) c.if-end-eq0.true)
    ∙ l.invariant ∙ walk_finds a.words.now a.index a.count a.last)
    c.line_told.ensures

pub returns-else-end-eq0 : goal.returns-else-end-eq0
returns-else-end-eq0 c =
    let a = c.args in
    let l = c.loop-i in
    sym (front_left a.words.now a.index (line_told a.words.now l.kept) l.end l.i (omega arith) c.if-end-eq0.false)
    ∙ l.invariant ∙ walk_finds a.words.now a.index a.count a.last
