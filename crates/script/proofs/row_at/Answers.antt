use Rattle.std.proofs.Common.{rules, ◌≡◌, ℕ, ℤ, pos, ◌*◌, ◌∙◌, add-zero, List, get_or, to_z, of_z, w32, ◌<◌, ◌^◌}
use lib.Signed.{mag}
use Rattle.script.specs.Laws.{row_read, back}
use Rattle.script.specs.Rows.{word}
use Rattle.script.proofs.row_at.Goals as goal

back_first : (ws : List ℤ) (r : ℕ) → mag (get_or ws (4 * r) (pos 0)) < 2 ^ 31 → to_z w32 (of_z w32 (get_or ws (4 * r) (pos 0))) ≡ word ws r 0
back_first ws r h = rw (back h, add-zero)

pub returns : goal.returns
returns c =
    let t = c.args.table.now in
    let r = c.args.r.0 in
    c.row_of.ensures
    ∙ row_read t r c.field_number.ensures (back_first t r (search rules)) (back (search rules)) (back (search rules)) (back (search rules))
