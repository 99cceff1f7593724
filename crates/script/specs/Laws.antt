-- Laws of a row taken apart, and of signed words, that the code's proofs cite. Assumes nothing.
use Rattle.std.specs.Prelude.{ℕ, ◌<◌, ◌^◌, ◌≡◌, refl, List, ℤ, pos, negsuc}
use Rattle.std.specs.Int.Signed.{mag}
use Rattle.std.proofs.Common.{to_z-of_z, to_z, of_z}
use Rattle.std.specs.Int.{w32}
use Rattle.script.specs.Rows.{field_number, row_of, row, word, at_kind}

kind_is : (ws : List ℤ) (k : ℤ) (r : ℕ) → row_of (field_number k) (word ws r 1) (word ws r 2) (word ws r 3) ≡ at_kind ws k r
unfolding row_of
kind_is ws (pos n) r = refl
kind_is ws (negsuc n) r = refl

pub row_is : (ws : List ℤ) (r : ℕ) → row_of (field_number (word ws r 0)) (word ws r 1) (word ws r 2) (word ws r 3) ≡ row ws r
unfolding row
row_is ws r = kind_is ws (word ws r 0) r

-- the row, from the words that were read
pub row_read : (ws : List ℤ) (r : ℕ) {n : ℕ} {k a b c : ℤ} → n ≡ field_number k → k ≡ word ws r 0 → a ≡ word ws r 1 → b ≡ word ws r 2
    → c ≡ word ws r 3 → row_of n a b c ≡ row ws r
row_read ws r hn hk ha hb hc = rw (hn, hk, ha, hb, hc) (row_is ws r)

-- numbers that are one word are one number
pub pos_inj : {m n : ℕ} → pos m ≡ pos n → m ≡ n
pos_inj e = cc

-- a signed word that a local holds as bits
pub back : {z : ℤ} → mag z < 2 ^ 31 → to_z w32 (of_z w32 z) ≡ z
back h = to_z-of_z {w = w32} (record { sfits = h })
