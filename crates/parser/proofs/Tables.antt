-- A table that is a default but at some numbers: a test that is computed. Assumes nothing.
use Prim.Native.Nat.{ℕ, zero, suc, ◌+◌, ◌<◌}
use mathlib.Core.Path.{◌≡◌, refl, sym, ap, ◌∙◌}
use mathlib.Core.Bool.{Bool, true, false, ◌&&◌, ◌||◌}
use mathlib.Core.List.{List, [], ◌∷◌}
use native.Mathlib.Omega.{arith as linear}
use borrow.Author.Tests.{ne_eqb, eqb-true}
use Rattle.grammar.specs.Tests.{both, false_is_not}
use lib.Dec.{eqb}
use lib.ListN.{length, get_or}

or_false : (a b : Bool) → a ≡ false → (a || b) ≡ true → b ≡ true
or_false true b e h = false_is_not (sym e)
or_false false b e h = h

abbrev member : ℕ → List ℕ → Bool
member n [] = false
member n (k ∷ ks) = eqb n k || member n ks

-- from number i on, the letters at other numbers than ks are d
abbrev others : List ℕ → ℕ → ℕ → List ℕ → Bool
others [] d i ks = true
others (l ∷ ls) d i ks = (member i ks || eqb l d) && others ls d (suc i) ks

abbrev pub NotIn : ℕ → List ℕ → Type 0
NotIn n [] = Unit {0}
NotIn n (k ∷ ks) = NotIn n ks × (n ≡ k → ⊥)

not_member : (n : ℕ) (ks : List ℕ) → NotIn n ks → member n ks ≡ false
not_member n [] h = refl
not_member n (k ∷ ks) h = rw (ne_eqb n k h.1) (not_member n ks h.0)

from : (ls : List ℕ) (d i n : ℕ) (ks : List ℕ) → n < length ls → others ls d i ks ≡ true → member (i + n) ks ≡ false → get_or ls n 0 ≡ d
from [] d i n ks h e m = absurd (omega linear)
from (l ∷ ls) d i zero ks h e m =
    let z : i + 0 ≡ i = omega linear in
    eqb-true l d (or_false (member i ks) (eqb l d) (ap (λ (x : ℕ). member x ks) (sym z) ∙ m) (both (member i ks || eqb l d) (others ls d (suc i) ks) e).0)
from (l ∷ ls) d i (suc n) ks h e m =
    let z : suc i + n ≡ i + suc n = omega linear in
    from ls d (suc i) n ks (omega linear) (both (member i ks || eqb l d) (others ls d (suc i) ks) e).1 (ap (λ (x : ℕ). member x ks) z ∙ m)

pub elsewhere : (ls : List ℕ) (d n : ℕ) (ks : List ℕ) → n < length ls → others ls d 0 ks ≡ true → NotIn n ks → get_or ls n 0 ≡ d
elsewhere ls d n ks h e m =
    let z : 0 + n ≡ n = omega linear in
    from ls d 0 n ks h e (ap (λ (x : ℕ). member x ks) z ∙ not_member n ks m)
