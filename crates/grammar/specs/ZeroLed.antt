-- "with a leading zero", of the bytes: 0, or v and 0, and a further digit (`ZeroLed`). A token that begins there is the
-- numeral or the variable 4294967295, which is beyond every range (`zero_led_token`). Other digits have their decimal
-- value (`plain_digits`). Assumes nothing.
use Rattle.std.specs.Prelude.{ℕ, zero, suc, ◌≤◌, ◌≡◌, refl, ◌⊎◌, List, [], ◌∷◌, Bool, true, false, cond, ◌||◌, eqb, length, take}
use Rattle.std.proofs.Common.{sym, subst, inl, inr, arith as linear, eqb-true}
use Rattle.theorems.specs.Options.{some_inj}
use Rattle.grammar.specs.Tokens.{Token, numeral, variable}
use Rattle.grammar.specs.Scanning.{is_digit, is_letter, decimal, number}
use Rattle.grammar.specs.Pieces.{Digits, digits, word, TokenBegins}
use Rattle.grammar.specs.OneToken.{spelled_meant}

-- 48 is 0, and 118 is v
pub data ZeroLed : List ℕ → Type 0 where
  zero_numeral : {d : ℕ} {bs : List ℕ} → is_digit d ≡ true → ZeroLed (48 ∷ d ∷ bs)
  zero_variable : {d : ℕ} {bs : List ℕ} → is_digit d ≡ true → ZeroLed (118 ∷ 48 ∷ d ∷ bs)

-- digits without a leading zero
pub plain_digits : (w : List ℕ) → Digits w → ¬ ZeroLed w → number w ≡ decimal 0 w
plain_digits [] h z = absurd h
plain_digits (d ∷ []) h z = omega linear
plain_digits (d ∷ e ∷ ds) h z = at_test (eqb d 48) refl
  where
    at_test : (k : Bool) → eqb d 48 ≡ k → cond k 4294967295 (decimal 0 (d ∷ e ∷ ds)) ≡ decimal 0 (d ∷ e ∷ ds)
    at_test true q =
        absurd (z (subst (λ b. ZeroLed (b ∷ e ∷ ds)) (sym (eqb-true d 48 q)) (zero_numeral h.1.0)))
    at_test false q = refl

pub zero_led_some : {bs : List ℕ} → ZeroLed bs → 1 ≤ length bs
zero_led_some (zero_numeral e) = omega linear
zero_led_some (zero_variable e) = omega linear

-- the digits, or the word, go on past the zero
numeral_long : {d n : ℕ} {bs : List ℕ} {t : Token} → is_digit d ≡ true → TokenBegins (48 ∷ d ∷ bs) t n → 2 ≤ n
numeral_long e h = h.longest.none_longer 2 (omega linear) (digits (refl, (e, tt)))

variable_long : {d n : ℕ} {bs : List ℕ} {t : Token} → is_digit d ≡ true → TokenBegins (118 ∷ 48 ∷ d ∷ bs) t n → 3 ≤ n
variable_long {d} e h = h.longest.none_longer 3 (omega linear) (word (refl, (refl, (in_word (is_letter d) e, tt))))
  where
    in_word : (k : Bool) → is_digit d ≡ true → (k || is_digit d) ≡ true
    in_word true q = refl
    in_word false q = q

pub zero_led_numeral : {d : ℕ} {bs : List ℕ} {t : Token} (n : ℕ) → is_digit d ≡ true → TokenBegins (48 ∷ d ∷ bs) t n
    → t ≡ numeral 4294967295
zero_led_numeral zero e h = absurd (omega (linear, numeral_long e h))
zero_led_numeral (suc zero) e h = absurd (omega (linear, numeral_long e h))
zero_led_numeral {d} {bs} {t} (suc (suc n)) e h =
    some_inj (sym (spelled_meant (48 ∷ d ∷ take n bs) t h.spells))

pub zero_led_variable : {d : ℕ} {bs : List ℕ} {t : Token} (n : ℕ) → is_digit d ≡ true
    → TokenBegins (118 ∷ 48 ∷ d ∷ bs) t n → t ≡ variable 4294967295
zero_led_variable zero e h = absurd (omega (linear, variable_long e h))
zero_led_variable (suc zero) e h = absurd (omega (linear, variable_long e h))
zero_led_variable (suc (suc zero)) e h = absurd (omega (linear, variable_long e h))
zero_led_variable {d} {bs} {t} (suc (suc (suc n))) e h =
    some_inj (sym (spelled_meant (118 ∷ 48 ∷ d ∷ take n bs) t h.spells))

pub zero_led_token : {bs : List ℕ} {t : Token} {n : ℕ} → ZeroLed bs → TokenBegins bs t n
    → (t ≡ numeral 4294967295) ⊎ (t ≡ variable 4294967295)
zero_led_token {n = n} (zero_numeral e) h = inl (zero_led_numeral n e h)
zero_led_token {n = n} (zero_variable e) h = inr (zero_led_variable n e h)
