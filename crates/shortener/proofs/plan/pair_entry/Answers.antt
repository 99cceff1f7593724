use Rattle.std.proofs.Common.{◌∙◌, ap, get_or}
use Rattle.shortener.specs.Codes.{pair_code}
use Rattle.shortener.specs.Entries.{pair_entry}
use Rattle.shortener.specs.Runs.{ends, shapes}
use Rattle.shortener.proofs.Entered.{changed_is}
use Rattle.shortener.proofs.plan.pair_entry.Goals as goal

pub returns : goal.returns
unfolding pair_entry
returns c k e =
    let es = c.args.entries.now in
    let middle = c.place-middle.ensures ∙ c.end_at.ensures in
    let x = c.shape_at-x.ensures in
    let y = c.shape_at-y.ensures ∙ ap (λ k. get_or (shapes es) k 0) middle in
    let end = c.end_at-end.ensures ∙ ap (λ k. get_or (ends es) k 0) middle in
    let change = c.pair_change-change.ensures k e ∙ (λ i. pair_code k (x i) (y i)) in
    changed_is end change x y c.changed_shape-shape.ensures
