-- `list_reader::formula_at` meets its contract: a line stands within the words.
use Rattle.std.proofs.Common.{◌≡◌, ◌∙◌, ap, arith, to_z, of_z, w32}
use Rattle.std.proofs.lemmas.Int.{ints}
use Rattle.std.proofs.Math.Seq.{slice}
use Rattle.script.specs.declared.Line.{Line}
use Rattle.list_reader.proofs.Part.{part_is}
use Rattle.list_reader.proofs.Fitting.{line_read_fits}
use Rattle.list_reader.proofs.formula_at.Goals as goal

pub offset_bounds-words-line : goal.offset_bounds-words-line
offset_bounds-words-line c =
    let told = c.in-Ok.ensures in
    let fit = line_read_fits c.args.words.now c.args.index c.ranges.index told.0 in
    omega (arith, fit.ordered, fit.within)

pub slice_bounds-result-count : goal.slice_bounds-result-count
slice_bounds-result-count c =
    let told = c.in-Ok.ensures in
    let fit = line_read_fits c.args.words.now c.args.index c.ranges.index told.0 in
    omega (arith, fit.ordered)

pub slice_bounds-result-start : goal.slice_bounds-result-start
slice_bounds-result-start c =
    let told = c.in-Ok.ensures in
    let fit = line_read_fits c.args.words.now c.args.index c.ranges.index told.0 in
    omega (arith, fit.ordered)

pub slice_bounds-result-end : goal.slice_bounds-result-end
slice_bounds-result-end c =
    let told = c.in-Ok.ensures in
    let fit = line_read_fits c.args.words.now c.args.index c.ranges.index told.0 in
    omega (arith, fit.within)

pub returns-in-Ok-clause-words : goal.returns-in-Ok-clause-words
returns-in-Ok-clause-words c =
    let q : to_z w32 (of_z w32 c.args.index) ≡ c.args.index = omega (arith, ints) in
    let told = c.in-Ok.ensures in
    part_is c.in-Ok.line.start c.in-Ok.line.end c.args.words.now
    ∙ ap (λ (k : Line). slice k.start k.end c.args.words.now) (rw q at told.0)

pub returns-in-Err-clause-words : goal.returns-in-Err-clause-words
returns-in-Err-clause-words c =
    let q : to_z w32 (of_z w32 c.args.index) ≡ c.args.index = omega (arith, ints) in
    let told = c.in-Err.ensures in
    ap (λ (k : Line). slice k.start k.end c.args.words.now) (rw q at told)

pub returns-in-Err-clause-place : goal.returns-in-Err-clause-place
returns-in-Err-clause-place c =
    let q : to_z w32 (of_z w32 c.args.index) ≡ c.args.index = omega (arith, ints) in
    let told = c.in-Err.ensures in
    let start = ap (λ (k : Line). k.start) (rw q at told) in
    omega (arith, start)
