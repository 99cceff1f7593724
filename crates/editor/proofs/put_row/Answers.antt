-- The four words are a part of the table.
use Rattle.std.proofs.Common.{◌≡◌, [], ◌∷◌, rules}
use Rattle.editor.proofs.Copied.{put_words}
use Rattle.editor.proofs.put_row.Goals as goal

pub returns : goal.returns
returns c =
    let r = c.args.r in
    let words : c.copy_from_slice.new.self ≡ r.kind ∷ r.first ∷ r.second ∷ r.third ∷ [] = search rules in
    put_words c.args.table.now c.copy_from_slice.new.self c.args.i r words c.requires
