-- What a new reader answers, step after step: over a list its lines from the last to the first, and 21 once the first is
-- passed; over words that are no list 20 at each step. By the steps in a row of `Lookup.walk_back`. Assumes nothing.
use Rattle.std.specs.Prelude.{ℕ, zero, suc, ◌+◌, ◌≡◌, refl, List, map, reverse, ℤ, length, get_or}
use Rattle.std.proofs.Common.{sym, ap, ◌∙◌, add-suc}
use Rattle.std.proofs.Math.Option.{none, some}
use Rattle.script.specs.declared.Line.{Line}
use Rattle.script.specs.Listing.{Found, lines, line, no_line, first_place, step_back, next_place}
use Rattle.theorems.specs.Clearing.{cleared_at, padded}
use Rattle.theorems.specs.Lookup.{walk_back, walk_back_list, walk_back_malformed}
use Rattle.list_walker.specs.Steps.{place_back, answer_back}

-- a first step, then n others
back_first : (ws : List ℤ) (n e : ℕ) → place_back ws n (next_place ws e) ≡ next_place ws (place_back ws n e)
unfolding place_back
back_first ws zero e = refl
back_first ws (suc n) e = ap (next_place ws) (back_first ws n e)

-- the step after n others, among more of them in a row
among : (ws : List ℤ) (m n e : ℕ) (d : Line) → get_or (walk_back ws (suc (m + n)) e) n d ≡ step_back ws (place_back ws n e)
unfolding place_back walk_back
among ws m zero e d = refl
among ws m (suc n) e d =
    ap (λ (k : ℕ). get_or (walk_back ws k (next_place ws e)) n d) (add-suc m n)
    ∙ among ws m n (next_place ws e) d
    ∙ ap (step_back ws) (back_first ws n e)

pub answers_list : (ws : List ℤ) (fs : List Found) (n : ℕ) → lines ws ≡ some fs
    → answer_back ws n ≡ get_or (reverse (map line fs)) n (no_line 21)
answers_list ws fs n q =
    let e = first_place ws in
    let d = no_line 21 in
    sym (among ws (length fs) n e d)
    ∙ ap (λ (k : ℕ). get_or (walk_back ws k e) n d) (sym (add-suc (length fs) n))
    ∙ ap (λ (l : List Line). get_or l n d) (walk_back_list ws fs (suc n) q)
    ∙ padded d (reverse (map line fs)) (suc n) n

pub answers_malformed : (ws : List ℤ) (n : ℕ) → lines ws ≡ none → answer_back ws n ≡ no_line 20
answers_malformed ws n q =
    let d = no_line 20 in
    sym (among ws n n (first_place ws) d)
    ∙ ap (λ (l : List Line). get_or l n d) (walk_back_malformed ws (suc (n + n)) q)
    ∙ cleared_at d (suc (n + n)) n
