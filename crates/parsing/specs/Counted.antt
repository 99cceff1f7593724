-- Rows as the machine counts them: up to the room that there is, and full from then on (`row_counted`). Writing a row
-- keeps the number of words (`row_length` and its like). Assumes nothing.
use Rattle.std.specs.Prelude.{ℕ, suc, ◌+◌, ◌*◌, ◌≡◌, refl, Bool, true, false, cond, ◌&&◌, List, [], ◌∷◌, leb, ltb, ℤ, pos, length}
use Rattle.std.proofs.Common.{sym, ◌∙◌, arith as linear}
use Rattle.grammar.specs.Outcome.{has_room}
use Rattle.grammar.specs.Tests.{false_is_not}
use Rattle.parser.specs.Machine.{row_fits, full, rows_after, word, with_row, with_constant}
use Rattle.parsing.specs.Encoding.{counted_rows}
use Rattle.parsing.specs.DataRows.{room_for_less, with_words_length}

-- one row more fits where the rows with it have room
pub fits_more : (room n : ℕ) → row_fits room n ≡ has_room room (suc n)
fits_more room n = at_test (leb (suc n) 2048) refl
  where
    more : 4 * n + 4 ≡ 4 * suc n
    more = omega linear

    at_test : (k : Bool) → leb (suc n) 2048 ≡ k
        → (ltb n 2048 && leb (4 * n + 4) room) ≡ (leb (4 * suc n) room && leb (suc n) 2048)
    at_test true e = rw (e, more) (and_true (leb (4 * suc n) room))
      where
        and_true : (b : Bool) → b ≡ (b && true)
        and_true true = refl
        and_true false = refl
    at_test false e = rw e (and_false (leb (4 * suc n) room))
      where
        and_false : (b : Bool) → false ≡ (b && false)
        and_false true = refl
        and_false false = refl

never_more : (room n : ℕ) → has_room room n ≡ false → has_room room (suc n) ≡ false
never_more room n e = at_test (has_room room (suc n)) refl
  where
    at_test : (k : Bool) → has_room room (suc n) ≡ k → has_room room (suc n) ≡ false
    at_test true h = false_is_not (sym e ∙ room_for_less room n (suc n) (omega linear) h)
    at_test false h = h

-- a row is counted
pub row_counted : (ws : List ℤ) (n : ℕ) → rows_after ws (counted_rows (length ws) n) ≡ counted_rows (length ws) (suc n)
row_counted ws n = at_test (has_room (length ws) n) refl
  where
    at_test : (k : Bool) → has_room (length ws) n ≡ k → rows_after ws (cond k n full) ≡ counted_rows (length ws) (suc n)
    at_test true e =
        let one : n + 1 ≡ suc n = omega linear in
        rw (fits_more (length ws) n, one)
    at_test false e = rw (never_more (length ws) n e)

-- what a row that is written leaves
pub row_added : (ws : List ℤ) (room r m n : ℕ) → r ≡ counted_rows (length ws) m → room ≡ length ws → n ≡ suc m
    → rows_after ws r ≡ counted_rows room n
row_added ws room r m n e l k = rw (e, l, k) (row_counted ws m)

pub rows_kept : (room r m n : ℕ) → r ≡ counted_rows room m → n ≡ m → r ≡ counted_rows room n
rows_kept room r m n e k = rw k e

pub row_length : (ws : List ℤ) (r k a b e : ℕ) → length (with_row ws r k a b e) ≡ length ws
row_length ws r k a b e = with_words_length ws (word k ∷ word a ∷ word b ∷ word e ∷ []) r

pub constant_length : (ws : List ℤ) (r : ℕ) (z : ℤ) → length (with_constant ws r z) ≡ length ws
constant_length ws r z = with_words_length ws (pos 1 ∷ z ∷ pos 0 ∷ pos 0 ∷ []) r
