use Rattle.std.proofs.Common.{◌∙◌, refl, ap}
use Rattle.shortener.specs.Codes.{not_code}
use Rattle.shortener.specs.Entries.{not_entry}
use Rattle.shortener.proofs.Entered.{changed_is}
use Rattle.shortener.proofs.plan.not_entry.Goals as goal

pub returns : goal.returns
unfolding not_entry
returns c =
    let shape = c.shape_at-x.ensures in
    changed_is c.end_at-end.ensures (c.not_change-change.ensures ∙ ap not_code shape) shape refl c.changed_shape-shape.ensures
