-- `list_walker::part` meets its contract: the end is cut to the words there are, and the start to the end.
use Rattle.std.proofs.Common.{refl, ap, ◌∙◌, min, arith}
use Rattle.list_walker.proofs.Parts.{part_is}
use Rattle.list_walker.proofs.part.Goals as goal

pub returns : goal.returns
returns c =
    let l = c.args.line in
    let start = c.min-start.ensures in
    let end = c.min-end.ensures in
    record {
      spells = part_is l.start l.end _ _ c.args.words.now end start;
      block = refl;
      place = omega (arith, start ∙ ap (min l.start) end);
    }
