-- The mark of a loop that is due is among the lent marks. Assumes nothing.
use Rattle.std.proofs.Common.{ℕ, ◌<◌, List, length, arith}
use lib.IntN.{ℤ}
use Rattle.stepper.specs.Parts.{HasKind, while_parts}
use Rattle.stepper.specs.Steps.{Stage}

pub mark_low : {t : List ℤ} {words : List ℕ} {height : ℕ} {vars marks : List ℤ} {at : ℕ} → Stage t words height vars marks at → HasKind t at 36
    → at < length marks
mark_low {at = at} S k =
    let l = (while_parts _ S.ready.checked at k).here in
    let m = S.all_marks in
    omega arith
