-- What stays of a row whose fields are renewed: how many they are, the words after them, numbers in range; and that a
-- mark is renamed to a row of the table. For number 3 of the check. Each by induction over fields or places. Assumes
-- nothing.
use Rattle.std.specs.Prelude.{ℕ, suc, ◌+◌, ◌≤◌, ◌<◌, ◌≡◌, refl, List, [], ◌∷◌, Bool, true, false, cond, ℤ, pos, T, eqb, ltb, length, get_or, drop}
use Rattle.std.proofs.Common.{ap, arith as linear, lt→ltb}
use Rattle.script.specs.Rows.{Field, value, variable, target, loop, link, variables, rows}
use Rattle.script.specs.Refusals.{in_range}
use Rattle.theorems.specs.Truths.{both, pair}
use Rattle.mending.specs.NewTable.{renewed, place_of}
use Rattle.mending.specs.Renew.{renew_fields}

pub place_below : (m k : ℕ) (xs : List ℕ) (n : ℕ) → 0 < n → k + length xs ≤ n → place_of m k xs < n
unfolding place_of
place_below m k [] n h l = h
place_below m k (x ∷ xs) n h l = go (eqb m x) (place_below m (suc k) xs n h (omega linear))
  where
    go : (b : Bool) → place_of m (suc k) xs < n → cond b k (place_of m (suc k) xs) < n
    go true s = omega linear
    go false s = s

-- the words after the fields are kept
pub rest_kept : (ρ : ℕ → ℕ) (js : List ℕ) (i : ℕ) (fs : List Field) (ws : List ℤ)
    → drop (length fs) (renewed ρ js i fs ws) ≡ drop (length fs) ws
unfolding renewed
rest_kept ρ js i [] ws = refl
rest_kept ρ js i (f ∷ fs) [] = refl
rest_kept ρ js i (value ∷ fs) (w ∷ ws) = rest_kept ρ js i fs ws
rest_kept ρ js i (variable v ∷ fs) (w ∷ ws) = rest_kept ρ js i fs ws
rest_kept ρ js i (target v ∷ fs) (w ∷ ws) = rest_kept ρ js i fs ws
rest_kept ρ js i (loop m ∷ fs) (w ∷ ws) = rest_kept ρ js i fs ws
rest_kept ρ js i (link s r ∷ fs) (w ∷ ws) = rest_kept ρ js (suc i) fs ws

pub same_length : (ρ : ℕ → ℕ) (js : List ℕ) (i : ℕ) (fs : List Field) (ws : List ℤ)
    → length (renewed ρ js i fs ws) ≡ length ws
unfolding renewed
same_length ρ js i [] ws = refl
same_length ρ js i (f ∷ fs) [] = refl
same_length ρ js i (value ∷ fs) (w ∷ ws) = ap suc (same_length ρ js i fs ws)
same_length ρ js i (variable v ∷ fs) (w ∷ ws) = ap suc (same_length ρ js i fs ws)
same_length ρ js i (target v ∷ fs) (w ∷ ws) = ap suc (same_length ρ js i fs ws)
same_length ρ js i (loop m ∷ fs) (w ∷ ws) = ap suc (same_length ρ js i fs ws)
same_length ρ js i (link s r ∷ fs) (w ∷ ws) = ap suc (same_length ρ js (suc i) fs ws)

-- three words are their elements
pub three : (ws : List ℤ) → length ws ≡ 3 → get_or ws 0 (pos 0) ∷ get_or ws 1 (pos 0) ∷ get_or ws 2 (pos 0) ∷ [] ≡ ws
three [] e = absurd (omega linear)
three (a ∷ []) e = absurd (omega linear)
three (a ∷ b ∷ []) e = absurd (omega linear)
three (a ∷ b ∷ c ∷ []) e = refl
three (a ∷ b ∷ c ∷ d ∷ ws) e = absurd (omega linear)

pub fields_count : (ρ : ℕ → ℕ) (js : List ℕ) (i : ℕ) (fs : List Field) → length (renew_fields ρ js i fs) ≡ length fs
fields_count ρ js i [] = refl
fields_count ρ js i (value ∷ fs) = ap suc (fields_count ρ js i fs)
fields_count ρ js i (variable v ∷ fs) = ap suc (fields_count ρ js i fs)
fields_count ρ js i (target v ∷ fs) = ap suc (fields_count ρ js i fs)
fields_count ρ js i (loop m ∷ fs) = ap suc (fields_count ρ js i fs)
fields_count ρ js i (link s r ∷ fs) = ap suc (fields_count ρ js (suc i) fs)

-- numbers in range stay so, where marks are renamed to rows of the table
pub still_ranged : (t u : List ℤ) (ρ : ℕ → ℕ) → ((m : ℕ) → ρ m < rows u) → (js : List ℕ) (i : ℕ) (fs : List Field)
    → T (in_range t fs)
    → T (in_range u (renew_fields ρ js i fs))
still_ranged t u ρ f js i [] h = tt
still_ranged t u ρ f js i (value ∷ fs) h = still_ranged t u ρ f js i fs h
still_ranged t u ρ f js i (variable v ∷ fs) h =
    let b = both (ltb v variables) (in_range t fs) h in
    pair (ltb v variables) (in_range u (renew_fields ρ js i fs)) b.0 (still_ranged t u ρ f js i fs b.1)
still_ranged t u ρ f js i (target v ∷ fs) h =
    let b = both (ltb v variables) (in_range t fs) h in
    pair (ltb v variables) (in_range u (renew_fields ρ js i fs)) b.0 (still_ranged t u ρ f js i fs b.1)
still_ranged t u ρ f js i (loop m ∷ fs) h =
    let b = both (ltb m (rows t)) (in_range t fs) h in
    pair (ltb (ρ m) (rows u)) (in_range u (renew_fields ρ js i fs)) (lt→ltb (ρ m) (rows u) (f m))
    (still_ranged t u ρ f js i fs b.1)
still_ranged t u ρ f js i (link s r ∷ fs) h = still_ranged t u ρ f js (suc i) fs h
