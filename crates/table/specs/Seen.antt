-- An array of 2,048 marks that shows which rows are in a list.
-- Argument: after row a is set, the array shows the list with a in front. Assumes nothing.
use Rattle.std.specs.Prelude.{ℕ, ◌<◌, ◌≡◌, refl, Bool, true, false, ◌||◌, List, [], ◌∷◌, eqb, length, get_or, set, replicate}
use Rattle.std.proofs.Common.{◌∙◌, arith as linear, eq-eqb, ne_eqb, length-set, get_or-set_same, get_or-set_other}
use Rattle.std.proofs.Math.Decide.{ℕ_discrete}
use Rattle.std.proofs.lemmas.List.{length-replicate, get_or-replicate}
use Rattle.script.specs.Refusals.{member}

pub record Shows (s : List Bool) (xs : List ℕ) : Type 0 where
  pub long : length s ≡ 2048
  pub at : (k : ℕ) → k < 2048 → get_or s k false ≡ member k xs

pub shows_none : Shows (replicate 2048 false) []
shows_none = record { long = length-replicate 2048 false; at = λ k h. get_or-replicate 2048 k false false h }

pub shows_more : (s : List Bool) (xs : List ℕ) (a : ℕ) → a < 2048 → Shows s xs → Shows (set s a true) (a ∷ xs)
shows_more s xs a h sh = record { long = length-set s a true ∙ sh.long; at = λ k l. go k l (ℕ_discrete k a) }
  where
    go : (k : ℕ) → k < 2048 → Dec (k ≡ a) → get_or (set s a true) k false ≡ (eqb k a || member k xs)
    go k l (yes e) = rw (e, get_or-set_same s a true false (omega (linear, sh.long)), eq-eqb a a refl)
    go k l (no d) = rw (get_or-set_other s a k true false d, ne_eqb k a d, sh.at k l)
