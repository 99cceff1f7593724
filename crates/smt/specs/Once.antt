-- Lists whose elements stand there once (`Once`), also after a function that tells its arguments apart, and lists of
-- numbers that rise (`Rising`). Assumes nothing.
use Rattle.std.specs.Prelude.{ℕ, ◌<◌, ◌≡◌, refl}
use Rattle.std.proofs.Common.{ap, arith as linear}
use mathlib.Core.List.Memᴰ
use mathlib.Core.List.{List, [], ◌∷◌, ◌++◌, map, Memᴰ}
use Rattle.smt.specs.Symbols.{either}

-- ---- lists whose elements stand there once

module _ {A : Type 0} where
  abbrev pub Once : List A → Type 0
  Once [] = Unit {0}
  Once (x ∷ xs) = (¬ Memᴰ x xs) × Once xs

  pub once_append : (xs ys : List A) → Once xs → Once ys → ((x : A) → Memᴰ x xs → ¬ Memᴰ x ys) → Once (xs ++ ys)
  once_append [] ys h g d = g
  once_append (x ∷ xs) ys h g d = (
    λ m. either (Memᴰ.append_cases xs m) h.0 (d x (Memᴰ.head refl)),
    once_append xs ys h.1 g (λ y m. d y (Memᴰ.tail m)),
  )

module _ {A B : Type 0} (f : A → B) where
  pub in_map : (xs : List A) (x : A) → Memᴰ x xs → Memᴰ (f x) (map f xs)
  in_map [] x m = absurd (Memᴰ.not-nil m)
  in_map (y ∷ ys) x m = either (Memᴰ.cases_cons m) (λ e. Memᴰ.head (ap f e)) (λ l. Memᴰ.tail (in_map ys x l))

  -- an element of the image, and what it is the image of
  pub map_in : (xs : List A) (y : B) → Memᴰ y (map f xs) → (x : A) × Memᴰ x xs × (y ≡ f x)
  map_in [] y m = absurd (Memᴰ.not-nil m)
  map_in (x ∷ xs) y m =
      either (Memᴰ.cases_cons m) (λ e. (x, Memᴰ.head refl, e))
      (λ l. let r = map_in xs y l in (r.0, Memᴰ.tail r.1, r.2))

  pub once_map : (tells : (x y : A) → f x ≡ f y → x ≡ y) (xs : List A) → Once xs → Once (map f xs)
  once_map tells [] h = tt
  once_map tells (x ∷ xs) h =
      (λ m. let r = map_in xs (f x) m in h.0 (Memᴰ.cast (tells x r.0 r.2) r.1), once_map tells xs h.1)

-- ---- rising numbers

abbrev pub Rising : List ℕ → Type 0
Rising [] = Unit {0}
Rising (x ∷ xs) = ((y : ℕ) → Memᴰ y xs → x < y) × Rising xs

pub rising_last : (xs : List ℕ) (n : ℕ) → Rising xs → ((y : ℕ) → Memᴰ y xs → y < n) → Rising (xs ++ (n ∷ []))
rising_last [] n h low = (λ y m. absurd (Memᴰ.not-nil m), tt)
rising_last (x ∷ xs) n h low = (
  λ y m. either (Memᴰ.append_cases xs m) (h.0 y) (λ l. rw (Memᴰ.eq_of_singleton l) (low x (Memᴰ.head refl))),
  rising_last xs n h.1 (λ y m. low y (Memᴰ.tail m)),
)

pub rising_once : (xs : List ℕ) → Rising xs → Once xs
rising_once [] h = tt
rising_once (x ∷ xs) h = (λ m. let l : x < x = h.0 x m in omega linear, rising_once xs h.1)
