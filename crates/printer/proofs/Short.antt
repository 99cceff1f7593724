-- How long the parts of a text are at most: a word has 11 characters, a name 5, and a heading 43 besides its name. Assumes nothing.
use Prim.Native.Nat.{ℕ, suc, ◌+◌, ◌*◌, ◌^◌, ◌≤◌, ◌<◌}
use mathlib.Core.List.{List, [], ◌∷◌, ◌++◌}
use mathlib.Core.Bool.{Bool, true, false, cond}
use native.Mathlib.Omega.{arith as linear}
use lib.Dec.{eqb}
use lib.IntN.{ℤ, pos, negsuc}
use lib.ListN.{length, get_or, drop, length-append}
use lib.Signed.{mag}
use Rattle.text.specs.Decimal.{decimal, decimal_short}
use Rattle.printer.specs.Text.{signed_decimal, rest_of_line, line, name_of}
use Rattle.printer.proofs.Lines.{next_field, line_is, heading_is}

word_short : (w : ℤ) → mag w < 2 ^ 31 → length (signed_decimal w) ≤ 11
unfolding signed_decimal
word_short (pos n) h = omega (linear, decimal_short 9 n (omega linear))
word_short (negsuc n) h = omega (linear, decimal_short 9 (suc n) (omega linear))

-- the field at i, then what stands after it
pub field_short : (ws : List ℤ) {i : ℕ} → i < length ws → mag (get_or ws i (pos 0)) < 2 ^ 31
    → length (rest_of_line (drop i ws)) ≤ 12 + length (rest_of_line (drop (i + 1) ws))
field_short ws {i} h k =
    let w = get_or ws i (pos 0) in
    rw (next_field ws h) (omega (linear, length-append (signed_decimal w) (rest_of_line (drop (i + 1) ws)), word_short w k))

either : (b : Bool) (us vs : List ℕ) → length us ≤ 5 → length vs ≤ 5 → length (cond b us vs) ≤ 5
either true us vs h k = h
either false us vs h k = k

name_short : (n : ℕ) → length (name_of n) ≤ 5
unfolding name_of
name_short n =
    either (eqb n 1) _ _ (omega linear)
    (either (eqb n 2) _ _ (omega linear) (either (eqb n 3) _ _ (omega linear) (either (eqb n 5) _ _ (omega linear) (omega linear))))

pub line_short : (n : ℕ) (w : ℤ) (ws : List ℤ) → mag w < 2 ^ 31 → length (rest_of_line ws) ≤ 12 * length ws + 1
    → length (line (name_of n) (w ∷ ws)) ≤ 12 * length ws + 36
line_short n w ws h k =
    rw (line_is (name_of n) w ws)
    (omega (
      linear,
      length-append (name_of n) ((32 ∷ signed_decimal w) ++ rest_of_line ws),
      length-append (signed_decimal w) (rest_of_line ws),
      name_short n,
      word_short w h,
    ))

pub heading_short : (name : List ℕ) (m n : ℕ) → m < 2 ^ 64 → n < 2 ^ 64 → length (line name (pos m ∷ pos n ∷ [])) ≤ length name + 43
heading_short name m n h k =
    let second = (32 ∷ decimal n) ++ (10 ∷ []) in
    let both = (32 ∷ decimal m) ++ second in
    rw (heading_is name m n)
    (omega (
      linear,
      length-append name both,
      length-append (decimal m) second,
      length-append (decimal n) (10 ∷ []),
      decimal_short 19 m (omega linear),
      decimal_short 19 n (omega linear),
    ))
