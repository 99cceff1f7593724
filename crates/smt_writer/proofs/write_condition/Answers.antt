-- `smt_writer::write_condition` meets its contract: the line that the list reader finds decides.
use Rattle.std.proofs.Common.{◌∙◌, sym, ap, length, arith}
use Rattle.std.proofs.lemmas.List.{length-replicate}
use Rattle.std.proofs.Math.Seq.{slice}
use mir.Facts.{to_z-of_z}
use Rattle.script.specs.declared.Line.{Line}
use Rattle.theorems.specs.Clearing.{all_cleared}
use Rattle.list_reader.proofs.Part.{part_is}
use Rattle.list_reader.proofs.Fitting.{line_read_fits}
use Rattle.smt_writer.specs.Nodes.{spells_as, spelled_as}
use Rattle.smt_writer.specs.Entry.{found_answered, found_spelled}
use Rattle.smt_writer.proofs.Refusals.{refused}
use Rattle.smt_writer.proofs.write_condition.Goals as goal

pub returns-in_err-line : goal.returns-in_err-line
returns-in_err-line c =
    let a = c.args in
    let told = rw (to_z-of_z c.ranges.index) at c.in_err-line.ensures in
    let w = refused a.list.now a.index (length a.text.now) _ _ c.from_residual.ensures.1 told c.clear.ensures in
    record { number = w.number; used = w.used; text = w.text }

pub offset_bounds-list-line : goal.offset_bounds-list-line
offset_bounds-list-line c =
    let told = c.in_ok-line.ensures in
    let fit = line_read_fits c.args.list.now c.args.index c.ranges.index told.0 in
    omega (arith, fit.ordered, fit.within)

pub slice_bounds-write_fitting-count : goal.slice_bounds-write_fitting-count
slice_bounds-write_fitting-count c =
    let told = c.in_ok-line.ensures in
    let fit = line_read_fits c.args.list.now c.args.index c.ranges.index told.0 in
    omega (arith, fit.ordered)

pub slice_bounds-write_fitting-start : goal.slice_bounds-write_fitting-start
slice_bounds-write_fitting-start c =
    let told = c.in_ok-line.ensures in
    let fit = line_read_fits c.args.list.now c.args.index c.ranges.index told.0 in
    omega (arith, fit.ordered)

pub slice_bounds-write_fitting-end : goal.slice_bounds-write_fitting-end
slice_bounds-write_fitting-end c =
    let told = c.in_ok-line.ensures in
    let fit = line_read_fits c.args.list.now c.args.index c.ranges.index told.0 in
    omega (arith, fit.within)

pub write_fitting-requires : goal.write_fitting-requires
write_fitting-requires c =
    let a = c.args in
    let l = c.in_ok-line.line in
    let told = rw (to_z-of_z c.ranges.index) at c.in_ok-line.ensures in
    let part = part_is l.start l.end a.list.now ∙ ap (λ (l : Line). slice l.start l.end a.list.now) told.0 in
    (spelled_as (sym part) (found_spelled a.list.now a.index told.1), all_cleared 0 (length a.text.now) c.clear.ensures)

pub returns : goal.returns
returns c =
    let a = c.args in
    let l = c.in_ok-line.line in
    let told = rw (to_z-of_z c.ranges.index) at c.in_ok-line.ensures in
    let part = part_is l.start l.end a.list.now ∙ ap (λ (l : Line). slice l.start l.end a.list.now) told.0 in
    let room = length a.text.now in
    let same = ap length c.clear.ensures ∙ length-replicate room 0 in
    let w = found_answered a.list.now a.index room told.1 (λ f s. rw same at (c.write_fitting.ensures f (spells_as (sym part) s))) in
    record { number = w.number; used = w.used; text = w.text }
