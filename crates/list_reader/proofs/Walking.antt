-- The lines that end at a place, walked from the end back: the line at an index is kept on the way. In this order: the walk
-- and its steps, how many lines were found, and that the walk gives the line at the index. Assumes nothing.
use Prim.Native.Nat.{ℕ, zero, suc, ◌-◌, ◌≤◌, ◌<◌}
use native.Mathlib.Omega.{arith as linear}
use mathlib.Core.Path.{◌≡◌, refl, sym, ap, ◌∙◌}
use mathlib.Core.Option.{Option, none, some}
use mathlib.Core.List.{List, [], ◌∷◌, ◌++◌}
use mathlib.Core.Bool.{cond}
use lib.IntN.{ℤ, pos}
use lib.Dec.{eqb, eqb-zero-suc, eqb-suc-suc}
use lib.ListN.{length, get_elem?, length-append}
use Rattle.script.specs.declared.Line.{Line}
use Rattle.script.specs.Listing.{◌>>=◌, Found, lines_before_within, line, no_line}
use Rattle.list_reader.specs.Lines.{line_ending, lines_ending, line_among}

-- ---- the walk: n lines end at e, the line at the index i is looked for, kept is what was found of it so far

abbrev pub walk_on : Option Found → (Found → Line) → Line
walk_on none f = no_line 20
walk_on (some x) f = f x

unfoldable pub walk : List ℤ → ℕ → Line → ℕ → ℕ → Line
walk ws i kept zero zero = kept
walk ws i kept zero (suc e) = no_line 20
walk ws i kept (suc n) e = walk_on (line_ending ws e) λ f. walk ws i (cond (eqb n i) (line f) kept) n f.start

-- ---- the steps of the walk, in the order of the code

module _ (ws : List ℤ) (i : ℕ) (kept : Line) (e : ℕ) where
  walk_malformed : (n : ℕ) → line_ending ws e ≡ none → walk ws i kept (suc n) e ≡ no_line 20
  unfolding walk
  walk_malformed n q = rw q

  walk_turn : (n : ℕ) (f : Found) → line_ending ws e ≡ some f → walk ws i kept (suc n) e ≡ walk ws i (cond (eqb n i) (line f) kept) n f.start
  unfolding walk
  walk_turn n f q = rw q

  pub malformed_step : (n : ℕ) → 0 < n → line_ending ws e ≡ none → walk ws i kept n e ≡ no_line 20
  malformed_step zero h q = absurd (omega linear)
  malformed_step (suc n) h q = walk_malformed n q

  pub step : (n : ℕ) (f : Found) → 0 < n → line_ending ws e ≡ some f
      → walk ws i kept n e ≡ walk ws i (cond (eqb (n - 1) i) (line f) kept) (n - 1) f.start
  step zero f h q = absurd (omega linear)
  step (suc n) f h q =
      let m : suc n - 1 ≡ n = omega linear in
      rw m (walk_turn n f q)

  pub all_walked : (n : ℕ) → n ≤ 0 → e ≡ 0 → walk ws i kept n e ≡ kept
  unfolding walk
  all_walked zero h q = rw q
  all_walked (suc n) h q = absurd (omega linear)

pub front_left : (ws : List ℤ) (i : ℕ) (kept : Line) (e n : ℕ) → n ≤ 0 → (e ≡ 0 → ⊥) → walk ws i kept n e ≡ no_line 20
unfolding walk
front_left ws i kept zero zero h z = absurd (z refl)
front_left ws i kept (suc e) zero h z = refl
front_left ws i kept e (suc n) h z = absurd (omega linear)

-- ---- how many lines were found

one_more : (n : ℕ) (f : Found) (fs : List Found) (o : Option (List Found)) → ((gs : List Found) → o ≡ some gs → length gs ≡ n)
    → (o >>= λ front. some (front ++ (f ∷ []))) ≡ some fs → length fs ≡ suc n
one_more n f fs none h q = let z : ◌≡◌ {A = ℕ} 0 1 = cc in absurd (omega linear)
one_more n f fs (some gs) h q = let z : gs ++ (f ∷ []) ≡ fs = cc in rw (← z, length-append) (omega (linear, h gs refl))

pub lines_length : (ws : List ℤ) (n e : ℕ) (fs : List Found) → lines_ending ws n e ≡ some fs → length fs ≡ n
unfolding lines_before_within
lines_length ws zero zero fs q = let z : [] ≡ fs = cc in ap length (sym z)
lines_length ws zero (suc e) fs q = let z : ◌≡◌ {A = ℕ} 0 1 = cc in absurd (omega linear)
lines_length ws (suc n) e fs q = go (line_ending ws e) (λ f gs. lines_length ws n f.start gs) q
  where
    go : (o : Option Found) → ((f : Found) (gs : List Found) → lines_ending ws n f.start ≡ some gs → length gs ≡ n)
        → (o >>= λ last. lines_ending ws n last.start >>= λ front. some (front ++ (last ∷ []))) ≡ some fs → length fs ≡ suc n
    go none h q = let z : ◌≡◌ {A = ℕ} 0 1 = cc in absurd (omega linear)
    go (some f) h q = one_more n f fs (lines_ending ws n f.start) (h f) q

-- ---- the walk gives the line at the index

abbrev or_kept : Line → Option Found → Line
or_kept kept none = kept
or_kept kept (some f) = line f

abbrev among : Line → ℕ → Option (List Found) → Line
among kept i none = no_line 20
among kept i (some fs) = or_kept kept (get_elem? fs i)

last_line : (kept : Line) (f : Found) (fs : List Found) (i : ℕ)
    → or_kept (cond (eqb (length fs) i) (line f) kept) (get_elem? fs i) ≡ or_kept kept (get_elem? (fs ++ (f ∷ [])) i)
last_line kept f [] zero = refl
last_line kept f [] (suc i) = rw eqb-zero-suc
last_line kept f (g ∷ fs) zero = refl
last_line kept f (g ∷ fs) (suc i) = rw eqb-suc-suc (last_line kept f fs i)

last_found : (kept : Line) (i n : ℕ) (f : Found) (o : Option (List Found)) → ((gs : List Found) → o ≡ some gs → length gs ≡ n)
    → among (cond (eqb n i) (line f) kept) i o ≡ among kept i (o >>= λ front. some (front ++ (f ∷ [])))
last_found kept i n f none h = refl
last_found kept i n f (some gs) h = rw (← h gs refl) (last_line kept f gs i)

walk_is : (ws : List ℤ) (i : ℕ) (n : ℕ) (kept : Line) (e : ℕ) → walk ws i kept n e ≡ among kept i (lines_ending ws n e)
unfolding walk lines_before_within
walk_is ws i zero kept zero = refl
walk_is ws i zero kept (suc e) = refl
walk_is ws i (suc n) kept e = go (line_ending ws e) (λ k x. walk_is ws i n k x)
  where
    go : (o : Option Found) → ((k : Line) (x : ℕ) → walk ws i k n x ≡ among k i (lines_ending ws n x))
        → walk_on o (λ f. walk ws i (cond (eqb n i) (line f) kept) n f.start)
        ≡ among kept i (o >>= λ last. lines_ending ws n last.start >>= λ front. some (front ++ (last ∷ [])))
    go none h = refl
    go (some f) h =
        h (cond (eqb n i) (line f) kept) f.start ∙ last_found kept i n f (lines_ending ws n f.start) (lines_length ws n f.start)

among_is : (o : Option (List Found)) (i : ℕ) → among (no_line 21) i o ≡ line_among o (pos i)
among_is none i = refl
among_is (some fs) i = go (get_elem? fs i)
  where
    go : (o : Option Found) → or_kept (no_line 21) o ≡ elim o [ some f ↦ line f | none ↦ no_line 21 ]
    go none = refl
    go (some f) = refl

pub walk_finds : (ws : List ℤ) (i n e : ℕ) → walk ws i (no_line 21) n e ≡ line_among (lines_ending ws n e) (pos i)
walk_finds ws i n e = walk_is ws i n (no_line 21) e ∙ among_is (lines_ending ws n e) i
