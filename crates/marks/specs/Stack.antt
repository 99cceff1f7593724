-- The rows of the loops around, as an array with a count holds them: the inmost is the last (`stacked`). A loop more
-- (`pushed`), one less (`dropped`), and the one that a mark's number names (`found`, `none_found`). Assumes nothing.
use Rattle.std.specs.Prelude.{ℕ, zero, suc, ◌+◌, ◌-◌, ◌≤◌, ◌<◌, ◌≡◌, refl, List, [], ◌∷◌, ℤ, pos, negsuc, length, get_or, set}
use Rattle.std.proofs.Common.{sym, ap, ◌∙◌, arith as linear, get_or-set_same, get_or-set_other}
use Rattle.std.proofs.Math.ListN.{get_or-eq_default}
use Rattle.script.specs.Rows.{field_number}
use Rattle.grammar.specs.Renamed.{outer, loop_of}

-- the first n numbers, from the last back
unfoldable pub stacked : List ℕ → ℕ → List ℕ
stacked ls zero = []
stacked ls (suc n) = get_or ls n 0 ∷ stacked ls n

above : (ls : List ℕ) (n m r : ℕ) → n ≤ m → stacked (set ls m r) n ≡ stacked ls n
unfolding stacked
above ls zero m r h = refl
above ls (suc n) m r h = rw (get_or-set_other ls m n r 0 (λ e. omega linear), above ls n m r (omega linear))

pub pushed : (ls : List ℕ) (n r : ℕ) → n < length ls → stacked (set ls n r) (n + 1) ≡ r ∷ stacked ls n
unfolding stacked
pushed ls n r h =
    let e : n + 1 ≡ suc n = omega linear in
    rw (e, get_or-set_same ls n r 0 h, above ls n n r (omega linear))

pub dropped : (ls : List ℕ) (n : ℕ) → stacked ls (n - 1) ≡ outer (stacked ls n)
unfolding stacked
dropped ls zero = refl
dropped ls (suc n) = let e : suc n - 1 ≡ n = omega linear in rw e

-- ---- the loop that a number names

pub how_many : (ls : List ℕ) (n : ℕ) → length (stacked ls n) ≡ n
unfolding stacked
how_many ls zero = refl
how_many ls (suc n) = ap suc (how_many ls n)

outward : (ls : List ℕ) (n i : ℕ) → i < n → get_or (stacked ls n) i 0 ≡ get_or ls (n - 1 - i) 0
unfolding stacked
outward ls zero i h = absurd (omega linear)
outward ls (suc n) zero h = ap (λ (k : ℕ). get_or ls k 0) (omega linear)
outward ls (suc n) (suc i) h = outward ls n i (omega linear) ∙ ap (λ (k : ℕ). get_or ls k 0) (omega linear)

pub found : (ls : List ℕ) (n i : ℕ) (k : ℤ) → n ≤ 2048 → i ≡ field_number k - 1 → i < n
    → pos (get_or ls (n - 1 - i) 0) ≡ loop_of (stacked ls n) k
found ls n i (pos k) h e l = rw (← e) (ap pos (sym (outward ls n i l)))
found ls n i (negsuc k) h e l = absurd (omega linear)

pub none_found : (ls : List ℕ) (n i : ℕ) (k : ℤ) → i ≡ field_number k - 1 → n ≤ i → pos 0 ≡ loop_of (stacked ls n) k
none_found ls n i (pos k) e l =
    rw (← e) (ap pos (sym (get_or-eq_default (stacked ls n) 0 (omega (linear, how_many ls n)))))
none_found ls n i (negsuc k) e l = refl
