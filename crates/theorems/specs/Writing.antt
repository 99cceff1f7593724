-- What a function that writes into a lent run leaves where the run may be too short, and that one run after another writes
-- both. A loop that writes keeps what is left (`Left`). In the end the place tells which it was (`wrote_whole`, `wrote_short`).
-- Assumes nothing.
use Rattle.std.specs.Prelude.{ℕ, ◌+◌, ◌≤◌, ◌<◌, ◌≡◌, refl, Bool, true, false, List, [], ◌∷◌, ◌++◌, ltb, length, set}
use Rattle.std.proofs.Common.{sym, ap, ◌∙◌, arith, ltb-true, ltb-false, length-append}
use Rattle.std.proofs.lemmas.List.Edits.{sets}
use Rattle.std.proofs.Math.Seq.{length-sets}
use Rattle.theorems.specs.Sets.{sets_append}

module _ {A : Type 0} where
  -- The elements ws were to be written from the place p on, in the run l; r is the place past them, and l' is what is left. A
  -- place past the end of the run says that there was no room.
  pub data Wrote (l : List A) (p : ℕ) (ws : List A) (r : ℕ) (l' : List A) : Type 0 where
    -- there was room
    fitted : p + length ws ≤ length l → r ≡ p + length ws → l' ≡ sets l p ws → Wrote l p ws r l'
    -- there was none: what is left is free but for its length
    stopped : length l < p + length ws → length l < r → length l' ≡ length l → Wrote l p ws r l'

  pub wrote_length : {l ws l' : List A} {p r : ℕ} → Wrote l p ws r l' → length l' ≡ length l
  wrote_length {l} {ws} {p = p} (fitted h n s) = ap length s ∙ length-sets l p ws
  wrote_length (stopped h n s) = s

  pub wrote_nothing : (l : List A) (p : ℕ) → Wrote l p [] p l
  wrote_nothing l p = by_room (ltb (length l) p) refl
    where
      by_room : (b : Bool) → ltb (length l) p ≡ b → Wrote l p [] p l
      by_room true e = let h = ltb-true (length l) p e in stopped (omega arith) h refl
      by_room false e = let h = ltb-false (length l) p e in fitted (omega arith) (omega arith) refl

  pub wrote_one : (a : A) {l : List A} {p : ℕ} → p < length l → Wrote l p (a ∷ []) (p + 1) (set l p a)
  wrote_one a h = fitted (omega arith) refl refl

  -- begun past the end
  pub past_end : (ws : List A) {l : List A} {p : ℕ} → length l < p → Wrote l p ws p l
  past_end ws h = stopped (omega arith) h refl

  -- one run after another
  pub then : {l l' l'' ws vs : List A} {p q r : ℕ} → Wrote l p ws q l' → Wrote l' q vs r l'' → Wrote l p (ws ++ vs) r l''
  then {l} {l'} {l''} {ws} {vs} {p} (fitted h n s) (fitted h₂ n₂ s₂) =
      let m : length l' ≡ length l = ap length s ∙ length-sets l p ws in
      fitted (rw length-append (omega arith)) (rw length-append (omega arith)) (s₂ ∙ rw (n, s) (sets_append l p ws vs))
  then {l} {l'} {l''} {ws} {vs} {p} (fitted h n s) (stopped h₂ n₂ s₂) =
      let m : length l' ≡ length l = ap length s ∙ length-sets l p ws in
      stopped (rw length-append (omega arith)) (omega arith) (s₂ ∙ m)
  then (stopped h n s) (fitted h₂ n₂ s₂) = absurd (omega arith)
  then {l} {l'} {l''} {ws} {vs} (stopped h n s) (stopped h₂ n₂ s₂) = stopped (rw length-append (omega arith)) (omega arith) (s₂ ∙ s)

  -- one element, and the others after it
  pub one_then : (a : A) {l l'' ws : List A} {p r : ℕ} → p < length l → Wrote (set l p a) (p + 1) ws r l'' → Wrote l p (a ∷ ws) r l''
  one_then a h w = then (wrote_one a h) w

  -- the same elements, said otherwise
  pub wrote_as : {l l' ws vs : List A} {p q : ℕ} → ws ≡ vs → Wrote l p ws q l' → Wrote l p vs q l'
  wrote_as e w = rw e at w

  -- a place within the run: nothing stopped before it
  pub wrote_within : {l ws l' : List A} {p r : ℕ} → Wrote l p ws r l' → r ≤ length l' → p ≤ length l
  wrote_within (fitted h n s) i = omega arith
  wrote_within (stopped h n s) i = absurd (omega arith)

  -- ---- a loop that writes: ws go into l₀ from p₀ on, and vs are left of them, to go into l from p on

  -- whatever writes what is left writes all
  abbrev pub Left : List A → ℕ → List A → List A → ℕ → List A → Type 0
  Left l₀ p₀ ws l p vs = (q : ℕ) (l' : List A) → Wrote l p vs q l' → Wrote l₀ p₀ ws q l'

  pub left_length : {l₀ ws l : List A} {p₀ p : ℕ} (vs : List A) → Left l₀ p₀ ws l p vs → length l ≡ length l₀
  left_length {l₀} {ws} {l} {p₀} {p} vs g = by_room (ltb (length l) (p + length vs)) refl
    where
      by_room : (b : Bool) → ltb (length l) (p + length vs) ≡ b → length l ≡ length l₀
      by_room true e = let h = ltb-true (length l) (p + length vs) e in wrote_length (g (length l + 1) l (stopped h (omega arith) refl))
      by_room false e =
          let h = ltb-false (length l) (p + length vs) e in
          sym (length-sets l p vs) ∙ wrote_length (g (p + length vs) (sets l p vs) (fitted h refl refl))

  -- ---- in the end: all of it was written where the place lies in the run, and else it is longer than the run

  pub wrote_whole : {l ws l' : List A} {r : ℕ} → Wrote l 0 ws r l' → r ≤ length l → (length ws ≤ length l) × (r ≡ length ws) × (l' ≡ sets l 0 ws)
  wrote_whole (fitted h n s) i = (omega arith, omega arith, s)
  wrote_whole (stopped h n s) i = absurd (omega arith)

  pub wrote_short : {l ws l' : List A} {r : ℕ} → Wrote l 0 ws r l' → length l < r → length l < length ws
  wrote_short (fitted h n s) i = absurd (omega arith)
  wrote_short (stopped h n s) i = omega arith

  -- where there is room, the place lies in the run
  pub wrote_room : {l ws l' : List A} {r : ℕ} → Wrote l 0 ws r l' → length ws ≤ length l → r ≤ length l
  wrote_room (fitted h n s) i = omega arith
  wrote_room (stopped h n s) i = absurd (omega arith)
