-- A loop over a run that adds a byte to a number at each turn and keeps the number up to a top: what it has and what is
-- left make the number of the whole run. Assumes nothing.
use Prim.Native.Nat.{ℕ, ◌+◌, ◌≤◌, ◌<◌, min}
use mathlib.Core.Path.{◌≡◌, ap, sym, ◌∙◌}
use mathlib.Core.List.{List}
use mathlib.Core.Bool.{Bool, true}
use native.Mathlib.Omega.{arith}
use lib.ListN.{length, get_or, drop}
use Rattle.grammar.specs.Scanning.{front}
use Rattle.grammar.specs.Fronts.{run}
use Rattle.scanner.specs.Folds.{Folds}
use Rattle.scanner.proofs.Fronts.{front_more, run_more}

-- from `at` on, before the byte at `end`
pub record Partly (p : ℕ → Bool) (fold : ℕ → List ℕ → ℕ) (top : ℕ) (text : List ℕ) (at end value : ℕ) : Type 0 where
  pub place : end + front p (drop end text) ≡ at + front p (drop at text)
  pub number : min (fold value (run p (drop end text))) top ≡ min (fold 0 (run p (drop at text))) top
  pub small : value ≤ top

module _ {fold : ℕ → List ℕ → ℕ} {step : ℕ → ℕ → ℕ} {top : ℕ} (f : Folds fold step top) (p : ℕ → Bool) (text : List ℕ)
    {at : ℕ} where
  -- a turn
  pub one_more : {end value next : ℕ} → end < length text → p (get_or text end 0) ≡ true
      → next ≡ min (step value (get_or text end 0)) top
      → Partly p fold top text at end value → Partly p fold top text at (end + 1) next
  one_more {end} {value} {next} h e n t = record {
    place = omega (arith, front_more p text h e, t.place);
    number =
        rw n
        (f.capped (step value (get_or text end 0)) (run p (drop (end + 1) text))
        ∙ ap (λ k. min k top) (sym (f.more value (get_or text end 0) (run p (drop (end + 1) text))))
        ∙ ap (λ bs. min (fold value bs) top) (sym (run_more p text h e))
        ∙ t.number);
    small = omega (arith, n);
  }
