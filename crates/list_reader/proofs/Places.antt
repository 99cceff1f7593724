-- A reader that reads the line before its place, and goes on from `place_after` of it, walks as 01 says. Assumes nothing.
use Prim.Native.Nat.{ℕ, zero, suc}
use native.Mathlib.Omega.{arith as linear}
use mathlib.Core.Path.{◌≡◌, refl, sym, ap, ◌∙◌}
use mathlib.Core.Option.{Option, none, some}
use mathlib.Core.List.{List}
use lib.IntN.{ℤ}
use Rattle.script.specs.declared.Line.{Line}
use Rattle.script.specs.Listing.{Found, step_back, step_back_within, next_place, next_place_within}
use Rattle.list_reader.specs.Lines.{line_ending, answer, place_after}
use Rattle.list_reader.proofs.Forms.{tail_of}
use Rattle.list_reader.proofs.Stepping.{line_short}

abbrev from : Option Found → ℕ → ℕ
from o e = elim o [ some f ↦ f.start | none ↦ e ]

stepped : (o : Option Found) (e : ℕ) → place_after (answer o) e ≡ from o e
stepped none e = refl
stepped (some f) e = refl

next_is : (ws : List ℤ) (e : ℕ) → place_after (step_back ws e) e ≡ next_place ws e
unfolding step_back_within next_place_within
next_is ws zero = sym (ap (λ (o : Option Found). from o zero) (line_short ws (tail_of ws) zero (omega (linear, (tail_of ws).least))))
next_is ws (suc e) = stepped (line_ending ws (suc e)) (suc e)

pub place_after_is : (ws : List ℤ) (e : ℕ) {l : Line} → l ≡ step_back ws e → place_after l e ≡ next_place ws e
place_after_is ws e q = ap (λ (l : Line). place_after l e) q ∙ next_is ws e
