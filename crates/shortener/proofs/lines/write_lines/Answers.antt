use Rattle.std.proofs.Common.{◌∙◌, refl, ap, [], ◌∷◌, pos, get_or, rules}
use Rattle.script.specs.Laws.{back}
use Rattle.output.specs.Written.{written_as}
use Rattle.shortener.specs.Lines.{lining}
use Rattle.shortener.specs.LineTurns.{end_read, begins, trailing, lined, all_lined}
use Rattle.shortener.specs.Runs.{blank}
use Rattle.shortener.proofs.Entered.{in_ends, end_at, begins_as}
use Rattle.shortener.proofs.lines.write_lines.Goals as goal

pub loop-left-init : goal.loop-left-init
loop-left-init c = (refl, lining c.requires)

-- ---- a line

pub write_formula-requires : goal.write_formula-requires
write_formula-requires c =
    let same = c.loop-left.invariant.0 in
    let es = c.loop-left.entries in
    let t = c.loop-left.invariant.1 in
    let more = c.loop-left-test.true in
    let within = in_ends es (rw same (end_read t more)) in
    begins_as (end_at es blank within c.args.entries.now same c.place-end.ensures) same (begins t more)

pub write_trailer-requires : goal.write_trailer-requires
write_trailer-requires c =
    let same = c.loop-left.invariant.0 in
    let es = c.loop-left.entries in
    let t = c.loop-left.invariant.1 in
    let more = c.loop-left-test.true in
    let within = in_ends es (rw same (end_read t more)) in
    let end = end_at es blank within c.args.entries.now same c.place-end.ensures in
    rw end (trailing t more (rw end at c.write_formula.ensures.wrote) c.trailer_length-tail.ensures)

pub loop-left-preserved : goal.loop-left-preserved
loop-left-preserved c =
    let same = c.loop-left.invariant.0 in
    let es = c.loop-left.entries in
    let t = c.loop-left.invariant.1 in
    let more = c.loop-left-test.true in
    let within = in_ends es (rw same (end_read t more)) in
    let end = end_at es blank within c.args.entries.now same c.place-end.ensures in (
      c.write_formula.ensures.ends ∙ same,
      rw end (lined t more (rw end at c.write_formula.ensures.wrote) c.trailer_length-tail.ensures (rw end at c.write_trailer.ensures)),
    )

-- ---- the count

pub returns-clause-wrote : goal.returns-clause-wrote
returns-clause-wrote c =
    all_lined c.loop-left.invariant.1 c.loop-left-test.false
    (written_as (ap (λ z. z ∷ []) (back {z = get_or c.args.list.now c.loop-left.at (pos 0)} (search rules))) c.push.ensures)

pub returns-clause-same : goal.returns-clause-same
returns-clause-same c =
    (all_lined c.loop-left.invariant.1 c.loop-left-test.false
    (written_as (ap (λ z. z ∷ []) (back {z = get_or c.args.list.now c.loop-left.at (pos 0)} (search rules))) c.push.ensures)
    c.requires.conditions c.requires.listed).same
