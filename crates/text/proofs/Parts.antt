-- Bytes that have room, put in as a whole part. Assumes nothing.
use Prim.Native.Nat.{ℕ, ◌+◌, ◌-◌, ◌≤◌}
use mathlib.Core.Path.{◌≡◌, ◌∙◌, sym}
use mathlib.Core.List.{List}
use native.Mathlib.Omega.{arith}
use lib.ListN.{length}
use lib.Seq.{take-length}
use borrow.Rule.Slice.PartMut.{put_mid}
use Rattle.std.proofs.lemmas.List.Edits.{sets-eq}
use Rattle.std.proofs.lemmas.Slice.{put_mid-paste}
use Rattle.theorems.specs.Writing.{Wrote, fitted}

pub part_written : (l ws ys : List ℕ) (at n : ℕ) → at + n ≤ length l → n ≡ length ws → ys ≡ ws → Wrote l at ws (at + n) (put_mid at (at + n - at) l ys)
part_written l ws ys at n room size is =
    fitted (omega arith) (omega arith) (put_mid-paste at (at + n - at) l ys ws n is (omega arith) size ∙ rw (size, take-length) (sym (sets-eq ws l at (omega arith))))
