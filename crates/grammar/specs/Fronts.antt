-- Bytes, runs of bytes and spellings: what the tests of `Scanning` say of them. Assumes nothing.
use Rattle.std.specs.Prelude.{ℕ, zero, suc, ◌≤◌, ◌≡◌, refl, List, [], ◌∷◌, Bool, true, false, cond, ◌&&◌, ◌||◌, eqb, leb, length, take}
use Rattle.std.proofs.Common.{arith as linear, leb-true, eqb-true, eq-eqb, length-take-le}
use Rattle.grammar.specs.Scanning.{is_digit, is_letter, is_word_byte, front, same_bytes}
use Rattle.grammar.specs.Pieces.{All}
use Rattle.grammar.specs.Tests.{false_is_not, both}

-- ---- tests

pub either : {A : Type 0} (a b : Bool) → (a || b) ≡ true → (a ≡ true → A) → (b ≡ true → A) → A
either true b e f g = f refl
either false b e f g = g e

-- ---- a byte

within : (least most b : ℕ) → (leb least b && leb b most) ≡ true → (least ≤ b) × (b ≤ most)
within least most b e =
    let h = both (leb least b) (leb b most) e in
    (leb-true least b h.0, leb-true b most h.1)

pub digit_range : (b : ℕ) → is_digit b ≡ true → (48 ≤ b) × (b ≤ 57)
digit_range b e = within 48 57 b e

pub letter_range : (b : ℕ) → is_letter b ≡ true → (65 ≤ b) × (b ≤ 122)
letter_range b e =
    either (leb 65 b && leb b 90) (leb 97 b && leb b 122) e
    (λ h. omega (linear, within 65 90 b h))
    (λ h. omega (linear, within 97 122 b h))

pub word_byte_range : (b : ℕ) → is_word_byte b ≡ true → (48 ≤ b) × (b ≤ 122)
word_byte_range b e =
    either (is_letter b) (is_digit b) e (λ l. omega (linear, letter_range b l)) (λ d. omega (linear, digit_range b d))

-- ---- runs

-- the longest run at the front of bytes that are such
abbrev pub run : (ℕ → Bool) → List ℕ → List ℕ
run p bs = take (front p bs) bs

fits_if : (k : Bool) (n m : ℕ) → n ≤ m → cond k (suc n) 0 ≤ suc m
fits_if true n m h = omega linear
fits_if false n m h = omega linear

pub front_fits : (p : ℕ → Bool) (bs : List ℕ) → front p bs ≤ length bs
front_fits p [] = omega linear
front_fits p (b ∷ bs) = fits_if (p b) (front p bs) (length bs) (front_fits p bs)

pub length_run : (p : ℕ → Bool) (bs : List ℕ) → length (run p bs) ≡ front p bs
length_run p bs = length-take-le (front p bs) bs (front_fits p bs)

all_if : (p : ℕ → Bool) (k : Bool) (n b : ℕ) (bs : List ℕ) → p b ≡ k → All p (take n bs)
    → All p (take (cond k (suc n) 0) (b ∷ bs))
all_if p true n b bs e h = (e, h)
all_if p false n b bs e h = tt

pub all_run : (p : ℕ → Bool) (bs : List ℕ) → All p (run p bs)
all_run p [] = tt
all_run p (b ∷ bs) = all_if p (p b) (front p bs) b bs refl (all_run p bs)

-- bytes at the front that are all such are in the run
pub run_longest : (p : ℕ → Bool) (m : ℕ) (bs : List ℕ) → m ≤ length bs → All p (take m bs) → m ≤ front p bs
run_longest p zero bs h a = omega linear
run_longest p (suc m) [] h a = h
run_longest p (suc m) (b ∷ bs) h a = rw a.0 (omega (linear, run_longest p m bs (omega linear) a.1))

-- ---- spellings

pub same_refl : (w : List ℕ) → same_bytes w w ≡ true
same_refl [] = refl
same_refl (b ∷ w) = rw (eq-eqb b b refl, same_refl w)

pub same_true : (v w : List ℕ) → same_bytes v w ≡ true → v ≡ w
same_true [] [] e = refl
same_true [] (c ∷ w) e = false_is_not e
same_true (b ∷ v) [] e = false_is_not e
same_true (b ∷ v) (c ∷ w) e =
    let h = both (eqb b c) (same_bytes v w) e in
    rw (eqb-true b c h.0, same_true v w h.1)
