-- The four words of a new row: written one after the other (`four_words`), and those of a copy whose marks are renamed by the latest
-- copies are those of the new table (`word_new`). Assumes nothing.
use Rattle.std.specs.Prelude.{ℕ, zero, suc, ◌+◌, ◌*◌, ◌≤◌, ◌<◌, ◌≡◌, refl, ◌⊎◌, ◌≢◌, List, [], ◌∷◌, ℤ, pos, length, get_or, set}
use Rattle.std.proofs.Common.{ap, ◌∙◌, inl, inr, add-zero, arith as linear, length-set, get_or-set_same, get_or-set_other}
use Rattle.script.specs.Rows.{fields, row, word}
use Rattle.script.specs.Rows.{Field as Row-field, value, variable, target, loop, link}
use Rattle.mending.specs.NewTable.{renewed, part_places, renamed, new_word}

-- ---- four words of a row

pub record WordsAt (k : ℕ) (W : ℕ → ℤ) (new new' : List ℤ) : Type 0 where
  pub long : length new' ≡ length new
  pub here : (f : ℕ) → f < 4 → get_or new' (4 * k + f) (pos 0) ≡ W f
  pub others : (j : ℕ) → (j < 4 * k) ⊎ (4 * k + 4 ≤ j) → get_or new' j (pos 0) ≡ get_or new j (pos 0)

module _ (k : ℕ) (a b c d : ℤ) (new : List ℤ) (h : 4 * k + 3 < length new) where
  abbrev one : List ℤ
  one = set new (4 * k) a

  abbrev two : List ℤ
  two = set one (4 * k + 1) b

  abbrev three : List ℤ
  three = set two (4 * k + 2) c

  abbrev four : List ℤ
  four = set three (4 * k + 3) d

  four_long : length four ≡ length new
  four_long =
      length-set three (4 * k + 3) d ∙ length-set two (4 * k + 2) c ∙ length-set one (4 * k + 1) b ∙ length-set new (4 * k) a

  -- a place that is none of the last three
  past : (j : ℕ) → j ≢ 4 * k + 1 → j ≢ 4 * k + 2 → j ≢ 4 * k + 3 → get_or four j (pos 0) ≡ get_or one j (pos 0)
  past j x y z =
      get_or-set_other three (4 * k + 3) j d (pos 0) z
      ∙ get_or-set_other two (4 * k + 2) j c (pos 0) y
      ∙ get_or-set_other one (4 * k + 1) j b (pos 0) x

  pub four_words : WordsAt k (λ f. get_or (a ∷ b ∷ c ∷ d ∷ []) f (pos 0)) new four
  four_words = record { long = four_long; here = here; others = λ j o. others j o }
    where
      here : (f : ℕ) → f < 4 → get_or four (4 * k + f) (pos 0) ≡ get_or (a ∷ b ∷ c ∷ d ∷ []) f (pos 0)
      here zero i =
          rw (add-zero (4 * k))
          (past (4 * k) (λ z. omega linear) (λ z. omega linear) (λ z. omega linear)
          ∙ get_or-set_same new (4 * k) a (pos 0) (omega linear))
      here (suc zero) i =
          get_or-set_other three (4 * k + 3) (4 * k + 1) d (pos 0) (λ z. omega linear)
          ∙ get_or-set_other two (4 * k + 2) (4 * k + 1) c (pos 0) (λ z. omega linear)
          ∙ get_or-set_same one (4 * k + 1) b (pos 0) (omega (linear, length-set new (4 * k) a))
      here (suc (suc zero)) i =
          get_or-set_other three (4 * k + 3) (4 * k + 2) d (pos 0) (λ z. omega linear)
          ∙ get_or-set_same two (4 * k + 2) c (pos 0) (omega (linear, length-set one (4 * k + 1) b, length-set new (4 * k) a))
      here (suc (suc (suc zero))) i =
          get_or-set_same three (4 * k + 3) d (pos 0) (omega (linear, four_long, length-set three (4 * k + 3) d))
      here (suc (suc (suc (suc f)))) i = absurd (omega linear)

      away : (j : ℕ) → j ≢ 4 * k → j ≢ 4 * k + 1 → j ≢ 4 * k + 2 → j ≢ 4 * k + 3 → get_or four j (pos 0) ≡ get_or new j (pos 0)
      away j w x y z = past j x y z ∙ get_or-set_other new (4 * k) j a (pos 0) w

      others : (j : ℕ) → (j < 4 * k) ⊎ (4 * k + 4 ≤ j) → get_or four j (pos 0) ≡ get_or new j (pos 0)
      others j (inl l) = away j (λ z. omega linear) (λ z. omega linear) (λ z. omega linear) (λ z. omega linear)
      others j (inr l) = away j (λ z. omega linear) (λ z. omega linear) (λ z. omega linear) (λ z. omega linear)

-- the words of a copy of row r at k, with marks renamed by ρ
unfoldable pub word_with : (ℕ → ℕ) → List ℤ → ℕ → ℕ → ℕ → ℤ
word_with ρ t k r zero = word t r 0
word_with ρ t k r (suc f) =
    get_or (renewed ρ (part_places t k r) 0 (fields (row t r)) (word t r 1 ∷ word t r 2 ∷ word t r 3 ∷ [])) f (pos 0)

renewed_same : (ρ ρ' : ℕ → ℕ) → ((m : ℕ) → ρ m ≡ ρ' m) → (js : List ℕ) (i : ℕ) (fs : List Row-field) (ws : List ℤ)
    → renewed ρ js i fs ws ≡ renewed ρ' js i fs ws
unfolding renewed
renewed_same ρ ρ' h js i [] ws = refl
renewed_same ρ ρ' h js i (f ∷ fs) [] = refl
renewed_same ρ ρ' h js i (value ∷ fs) (w ∷ ws) = ap (λ (zs : List ℤ). w ∷ zs) (renewed_same ρ ρ' h js i fs ws)
renewed_same ρ ρ' h js i (variable v ∷ fs) (w ∷ ws) = ap (λ (zs : List ℤ). w ∷ zs) (renewed_same ρ ρ' h js i fs ws)
renewed_same ρ ρ' h js i (target v ∷ fs) (w ∷ ws) = ap (λ (zs : List ℤ). w ∷ zs) (renewed_same ρ ρ' h js i fs ws)
renewed_same ρ ρ' h js i (loop m ∷ fs) (w ∷ ws) = rw (h m, renewed_same ρ ρ' h js i fs ws)
renewed_same ρ ρ' h js i (link s r ∷ fs) (w ∷ ws) =
    ap (λ (zs : List ℤ). pos (get_or js i 0) ∷ zs) (renewed_same ρ ρ' h js (suc i) fs ws)

-- where the marks are renamed as they ought to be, they are those of the new table
pub word_new : (ρ : ℕ → ℕ) (t : List ℤ) (k r : ℕ) → ((m : ℕ) → ρ m ≡ renamed t k m) → (f : ℕ)
    → word_with ρ t k r f ≡ new_word t k r f
unfolding word_with new_word
word_new ρ t k r h zero = refl
word_new ρ t k r h (suc f) =
    ap (λ (ws : List ℤ). get_or ws f (pos 0))
    (renewed_same ρ (renamed t k) h (part_places t k r) 0 (fields (row t r)) (word t r 1 ∷ word t r 2 ∷ word t r 3 ∷ []))
