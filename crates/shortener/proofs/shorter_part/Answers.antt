use Rattle.std.proofs.Common.{ap, ◌∙◌}
use mir.Facts.{to_z-of_z}
use Rattle.script.specs.declared.Line.{Line}
use Rattle.list_reader.proofs.Fitting.{line_at_fits}
use Rattle.shortener.specs.Parts.{told_shorter, old_refused, new_refused}
use Rattle.shortener.proofs.shorter_part.Goals as goal

pub returns-in-Err : goal.returns-in-Err
returns-in-Err c = old_refused c.args.old.now c.args.new.now c.args.index _ (rw (to_z-of_z c.ranges.index) at c.in-Err.ensures)

pub shorter_of-requires : goal.shorter_of-requires
shorter_of-requires c =
    let a = rw (to_z-of_z c.ranges.index) at c.in-Ok.ensures in
    let b = rw (to_z-of_z c.ranges.index) at c.in-Ok-line_at.ensures in
    record {
      ordered = ((line_at_fits c.args.old.now c.args.index a.0).ordered, (line_at_fits c.args.new.now c.args.index b.0).ordered);
      read = (ap (λ (l : Line). l.number) a.0 ∙ a.1, ap (λ (l : Line). l.number) b.0 ∙ b.1);
    }

pub returns-in-Ok-line_at : goal.returns-in-Ok-line_at
returns-in-Ok-line_at c =
    let a = rw (to_z-of_z c.ranges.index) at c.in-Ok.ensures in
    let b = rw (to_z-of_z c.ranges.index) at c.in-Ok-line_at.ensures in
    told_shorter c.args.old.now c.args.new.now c.args.index a.0 b.0 c.shorter_of.ensures

pub returns-in-Err-line_at : goal.returns-in-Err-line_at
returns-in-Err-line_at c =
    let a = rw (to_z-of_z c.ranges.index) at c.in-Ok.ensures in
    new_refused c.args.old.now c.args.new.now c.args.index _ a.1 (rw (to_z-of_z c.ranges.index) at c.in-Err-line_at.ensures)
