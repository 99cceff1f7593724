-- A part as the code takes it is a part as the definition has it; from the front to the end it is the whole. Assumes nothing.
use Prim.Native.Nat.{ℕ, zero, suc, ◌-◌}
use native.Mathlib.Nat.{sub-zero, zero-sub, suc-sub-suc}
use mathlib.Core.Path.{◌≡◌}
use mathlib.Core.List.{List, [], ◌∷◌}
use lib.IntN.{ℤ}
use lib.ListN.{length, take, drop}
use lib.Seq.{slice, take-nil, take-length}

pub part_is : (a e : ℕ) (ws : List ℤ) → take (e - a) (drop a ws) ≡ slice a e ws
part_is zero e ws = rw sub-zero
part_is (suc a) zero ws = rw zero-sub
part_is (suc a) (suc e) [] = rw take-nil
part_is (suc a) (suc e) (w ∷ ws) = rw suc-sub-suc (part_is a e ws)

pub whole_is : (ws : List ℤ) → take (length ws - 0) (drop 0 ws) ≡ ws
whole_is ws = rw sub-zero (take-length ws)
