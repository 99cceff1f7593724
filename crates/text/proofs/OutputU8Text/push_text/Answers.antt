use Rattle.std.proofs.Common.{refl, arith}
use Rattle.text.proofs.Parts.{part_written}
use Rattle.text.proofs.OutputU8Text.push_text.Goals as goal

pub returns : goal.returns
returns c = record { wrote = part_written _ _ _ _ _ (omega arith) refl c.copy_from_slice.ensures.after; same = refl }
