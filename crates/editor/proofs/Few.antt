-- The two cases of a number of records: at most 2,048, or more. Assumes nothing.
use mathlib.Core.Path.{◌≡◌, ap}
use mathlib.Core.Bool.{Bool, cond}
use Prim.Native.Nat.{ℕ, ◌<◌, ◌≤◌}
use borrow.Author.Tests.{le-leb, lt-leb}
use Rattle.editor.specs.Flat.{rows_copied}

pub taken : (n : ℕ) → n ≤ 2048 → rows_copied n ≡ n
taken n l = ap (λ (t : Bool). cond t n 0) (le-leb n 2048 l)

pub left : (n : ℕ) → 2048 < n → rows_copied n ≡ 0
left n l = ap (λ (t : Bool). cond t n 0) (lt-leb n 2048 l)
