-- The longest run of bytes from a place on that pass a test goes on by a byte that passes. Assumes nothing.
use Prim.Native.Nat.{ℕ, suc, ◌+◌, ◌<◌}
use mathlib.Core.Path.{◌≡◌}
use mathlib.Core.List.{List, ◌∷◌}
use mathlib.Core.Bool.{Bool, true}
use native.Mathlib.Numerals.{add-one}
use lib.ListN.{length, get_or, drop}
use lib.Seq.{drop-cons}
use Rattle.grammar.specs.Scanning.{front}
use Rattle.grammar.specs.Fronts.{run}

module _ (p : ℕ → Bool) (text : List ℕ) {at : ℕ} where
  pub front_more : at < length text → p (get_or text at 0) ≡ true
      → front p (drop at text) ≡ suc (front p (drop (at + 1) text))
  front_more h e = rw (add-one, drop-cons text at 0 h, e)

  pub run_more : at < length text → p (get_or text at 0) ≡ true
      → run p (drop at text) ≡ get_or text at 0 ∷ run p (drop (at + 1) text)
  run_more h e = rw (add-one, drop-cons text at 0 h, e)
