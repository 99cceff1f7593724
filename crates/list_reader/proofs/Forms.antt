-- A trailer has three words or four, whatever the last word tells. Assumes nothing.
use Prim.Native.Nat.{◌≤◌}
use native.Mathlib.Omega.{arith as linear}
use mathlib.Core.Path.{refl}
use mathlib.Core.List.{List}
use lib.IntN.{ℤ}
use Rattle.script.specs.Words.{Form, without_depth, with_depth}
use Rattle.script.specs.Listing.{trailer_length, form_of}
use Rattle.list_reader.specs.Lines.{Tail}

bounds : (form : Form) → (3 ≤ trailer_length form) × (trailer_length form ≤ 4)
bounds without_depth = (omega linear, omega linear)
bounds with_depth = (omega linear, omega linear)

-- the length that the definition has
pub tail_of : (ws : List ℤ) → Tail ws (trailer_length (form_of ws))
tail_of ws = record { is = refl; least = (bounds (form_of ws)).0; most = (bounds (form_of ws)).1 }
