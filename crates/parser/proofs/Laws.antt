-- What a test in the code tells of the machine's definitions: operators that take a part, a row. Assumes nothing.
use Prim.Native.Nat.{ℕ, zero, suc, ◌+◌, ◌*◌, ◌-◌, ◌≤◌, ◌<◌}
use mathlib.Core.Path.{◌≡◌, refl, sym, ◌∙◌}
use mathlib.Core.List.{List}
use native.Mathlib.Omega.{arith as linear}
use borrow.Author.Tests.{lt-ltb, le-ltb, eq-eqb, ne_eqb}
use lib.IntN.{ℤ}
use lib.ListN.{length, get_or}
use lib.Seq.{take-length}
use borrow.Rule.Slice.PartMut.{put_mid}
use Rattle.std.proofs.Common.{le-leb}
use Rattle.std.proofs.lemmas.List.Edits.{sets, sets-eq}
use Rattle.std.proofs.lemmas.Slice.{put_mid-paste}
use Rattle.parser.specs.Machine.{with_words, reduce, reduced_to, hold, maker, operator_row, hole, top_frame, rows_after}

-- ---- operators that take a part, one after the other

module _ (st : List ℕ) (b : ℕ) where
  pub reduce_none : (n t r : ℕ) (ws : List ℤ) → n ≤ 0 → reduced_to t r n ws ≡ reduce st b n t r ws
  unfolding reduce
  reduce_none zero t r ws h = refl
  reduce_none (suc n) t r ws h = absurd (omega linear)

  pub reduce_stops : (n t r : ℕ) (ws : List ℤ) → hold (top_frame st n) < b → reduced_to t r n ws ≡ reduce st b n t r ws
  unfolding reduce
  reduce_stops zero t r ws h = refl
  reduce_stops (suc n) t r ws h = rw (lt-ltb (hold (get_or st n 0)) b h)

  pub reduce_misfits : (n t r : ℕ) (ws : List ℤ) → 0 < n → b ≤ hold (top_frame st n) → (t ≡ hole (top_frame st n) → ⊥)
      → reduced_to 0 r n ws ≡ reduce st b n t r ws
  unfolding reduce
  reduce_misfits zero t r ws o h e = absurd (omega linear)
  reduce_misfits (suc n) t r ws o h e = rw (le-ltb (hold (get_or st n 0)) b h, ne_eqb t (hole (get_or st n 0)) e)

  pub reduce_more : (n t r : ℕ) (ws : List ℤ) → 0 < n → b ≤ hold (top_frame st n) → t ≡ hole (top_frame st n)
      → reduce st b (n - 1) (maker (top_frame st n)) (rows_after ws r) (operator_row ws r (top_frame st n)) ≡ reduce st b n t r ws
  unfolding reduce
  reduce_more zero t r ws o h e = absurd (omega linear)
  reduce_more (suc n) t r ws o h e =
      let one : suc n - 1 ≡ n = omega linear in
      rw (le-ltb (hold (get_or st n 0)) b h, eq-eqb t (hole (get_or st n 0)) e, one)

pub ruleset reducing = (reduce_none, reduce_stops, reduce_misfits, reduce_more)

-- ---- a row is written at once

put_in : (l ys vs : List ℤ) (at n : ℕ) → at + n ≤ length l → n ≡ length vs → ys ≡ vs → put_mid at (at + n - at) l ys ≡ sets l at vs
put_in l ys vs at n room size is =
    put_mid-paste at (at + n - at) l ys vs n is (omega linear) size ∙ rw (size, take-length) (sym (sets-eq vs l at (omega linear)))

pub row_written : (ws ys vs : List ℤ) (rows : ℕ) → rows < 2048 → 4 * rows + 4 ≤ length ws → 4 ≡ length vs → ys ≡ vs
    → put_mid (4 * rows) (4 * rows + 4 - 4 * rows) ws ys ≡ with_words ws rows vs
row_written ws ys vs rows h l n e =
    rw (lt-ltb rows 2048 h, le-leb (4 * rows + 4) (length ws) l) (put_in ws ys vs (4 * rows) 4 l n e)
