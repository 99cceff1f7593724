-- What is listed is what the records' words list: of at most 2,048 records the front of the table has them, and of more neither is a table.
use Rattle.std.proofs.Common.{◌≡◌, ℕ, ◌*◌, ◌∙◌, ap, refl, List, take, length, replicate, pos, ℤ}
use Rattle.script.specs.Generated.{outcome}
use Rattle.generator.specs.Whole.{left_as}
use Rattle.editor.specs.Flat.{flat, copy_first, rows_copied}
use Rattle.editor.proofs.Copied.{same_outcome}
use Rattle.editor.proofs.generate_records.Goals as goal

pub returns : goal.returns
returns c =
    let rs = c.args.records.now in
    let n = rows_copied (length rs) in
    let list = length c.args.list.now in
    let scratch = length c.args.scratch.now in
    let table : c.copy_first.new.table ≡ copy_first rs n (replicate 8192 (pos 0)) =
    c.copy_first.ensures ∙ ap (λ (k : ℕ). copy_first rs k (replicate 8192 (pos 0))) c.within.ensures in
    left_as (take (4 * n) c.copy_first.new.table) (flat rs) list scratch
    (ap (λ (t : List ℤ). outcome (take (4 * n) t) list scratch) table ∙ same_outcome list scratch rs (replicate 8192 (pos 0)) refl)
    c.front.ensures
