-- What the word at a place opens, from the words that were read there; and a number, which takes one word. Assumes nothing.
use Prim.Native.Nat.{ℕ, ◌+◌, ◌≤◌, ◌<◌}
use native.Mathlib.Omega.{arith as linear}
use native.Mathlib.Numerals.{add-one}
use native.Mathlib.Nat.{add-zero}
use mathlib.Core.Path.{◌≡◌, sym, ap}
use lib.IntN.{ℤ, pos}
use mathlib.Core.List.{List}
use lib.ListN.{length, drop, get_or, drop_of_length-le}
use lib.Seq.{drop-cons, get_or-drop}
use Rattle.script.specs.declared.Row.{Row}
use Rattle.script.specs.Rows.{field_number, row_of}
use Rattle.list_reader.specs.Nodes.{first_row, Opens}
use Rattle.list_reader.specs.Ends.{nowhere, here, NumberEnds}

module _ (ws : List ℤ) (at : ℕ) (l : at < length ws) where
  pub opened : {K : Type 0} {node : Row → K} {x : ℤ} {k : K} → x ≡ get_or ws at (pos 0)
      → k ≡ node (row_of (field_number x) (get_or ws (at + 1) (pos 0)) (pos 0) (pos 0)) → Opens node ws at k
  opened hx hk = record { is = rw (hk, hx, add-one, drop-cons ws at (pos 0) l, get_or-drop, add-zero) }

  pub number_inside : NumberEnds ws at (at + 1)
  number_inside = rw (drop-cons ws at (pos 0) l) (here (ap (λ (n : ℕ). drop n ws) (sym (add-one at))) (omega linear) (omega linear))

module _ (ws : List ℤ) (at : ℕ) (l : length ws ≤ at) where
  pub closed : {K : Type 0} (node : Row → K) → Opens node ws at (node Row.Unknown)
  closed node = record { is = sym (ap (λ (us : List ℤ). node (first_row us)) (drop_of_length-le ws l)) }

  pub number_outside : NumberEnds ws at (length ws + 1)
  number_outside = rw (drop_of_length-le ws l) (nowhere (add-one (length ws)))
