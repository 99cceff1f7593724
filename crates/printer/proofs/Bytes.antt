-- The words that bytes spell: the word at i is spelled by the four bytes from 4 * i on (`word_turn`), and fewer than four
-- bytes spell none (`no_word`). Assumes nothing.
use Prim.Native.Nat.{ℕ, zero, suc, ◌+◌, ◌*◌, ◌<◌}
use mathlib.Core.Path.{◌≡◌, refl, ◌∙◌}
use mathlib.Core.List.{List, [], ◌∷◌}
use native.Mathlib.Nat.{add-zero}
use native.Mathlib.Omega.{arith}
use lib.Dec.{ltb}
use lib.IntN.{ℤ, pos, negsuc}
use lib.ListN.{length, get_or, take, drop, set, length-drop}
use lib.Seq.{get_or-drop, drop-drop}
use mathlib.Core.Bool.{cond}
use mathlib.Core.Path.{ap}
use Rattle.std.proofs.Common.{to_z}
use Rattle.std.proofs.lemmas.List.{get_or-take}
use Rattle.std.specs.Int.{w32, from_le_bytes}
use Rattle.std.specs.Simd.{first_chunks}
use Rattle.theorems.specs.Writing.{Left, one_then}
use Rattle.printer.specs.Input.{unsigned, twos_complement, words_of}

-- four bytes, as the library reads them
signed : (n : ℕ) → to_z w32 n ≡ twos_complement n
signed n = ap (λ k. cond (ltb n 2147483648) (pos n) (negsuc k)) (omega arith)

word_is : (four : List ℕ) {a b c d : ℕ} → get_or four 0 0 ≡ a → get_or four 1 0 ≡ b → get_or four 2 0 ≡ c → get_or four 3 0 ≡ d
    → to_z w32 (from_le_bytes w32 four) ≡ twos_complement (unsigned a b c d)
word_is four {a} {b} {c} {d} h₀ h₁ h₂ h₃ = ap (λ n. to_z w32 n) (omega (arith, h₀, h₁, h₂, h₃)) ∙ signed (unsigned a b c d)

-- the fours that the bytes are cut into
four_at : (bytes : List ℕ) (n i : ℕ) (d : List ℕ) → i < n → get_or (first_chunks 4 n bytes) i d ≡ take 4 (drop (4 * i) bytes)
four_at bytes zero i d h = absurd (omega arith)
four_at bytes (suc n) zero d h = refl
four_at bytes (suc n) (suc i) d h = four_at (drop 4 bytes) n i d (omega arith) ∙ ap (λ l. take 4 l) (drop-drop (4 * i) 4 bytes ∙ ap (λ k. drop k bytes) (omega arith))

abbrev word_at : List ℕ → ℕ → ℤ
word_at bytes at = twos_complement (unsigned (get_or bytes at 0) (get_or bytes (at + 1) 0) (get_or bytes (at + 2) 0) (get_or bytes (at + 3) 0))

first_word : (bytes : List ℕ) → 3 < length bytes → words_of bytes ≡ word_at bytes 0 ∷ words_of (drop 4 bytes)
unfolding words_of
first_word [] h = absurd (omega arith)
first_word (a ∷ []) h = absurd (omega arith)
first_word (a ∷ b ∷ []) h = absurd (omega arith)
first_word (a ∷ b ∷ c ∷ []) h = absurd (omega arith)
first_word (a ∷ b ∷ c ∷ d ∷ bytes) h = refl

short : (bytes : List ℕ) → length bytes < 4 → words_of bytes ≡ []
unfolding words_of
short [] h = refl
short (a ∷ []) h = refl
short (a ∷ b ∷ []) h = refl
short (a ∷ b ∷ c ∷ []) h = refl
short (a ∷ b ∷ c ∷ d ∷ bytes) h = absurd (omega arith)

module _ (bytes : List ℕ) (i : ℕ) where
  next_word : 4 * i + 3 < length bytes → words_of (drop (4 * i) bytes) ≡ word_at bytes (4 * i) ∷ words_of (drop (4 * (i + 1)) bytes)
  next_word h =
      let long : 3 < length (drop (4 * i) bytes) = simp length-drop (omega arith) in
      let past : 4 * i + 4 ≡ 4 * (i + 1) = omega arith in
      let at : (k : ℕ) → get_or (drop (4 * i) bytes) k 0 ≡ get_or bytes (4 * i + k) 0 = λ k. get_or-drop (4 * i) bytes k 0 in
      first_word (drop (4 * i) bytes) long
      ∙ rw (drop-drop 4 (4 * i) bytes, past, at 0, at 1, at 2, at 3, add-zero (4 * i))

  pub no_word : length bytes < 4 * i + 4 → words_of (drop (4 * i) bytes) ≡ []
  no_word h = short (drop (4 * i) bytes) (simp length-drop (omega arith))

  -- the word at i, from the four that the bytes are cut into
  pub word_of_four : {w : ℤ} {fours : List (List ℕ)} {n : ℕ} → fours ≡ first_chunks 4 n bytes → i < n → 4 * i + 3 < length bytes
      → w ≡ to_z w32 (from_le_bytes w32 (get_or fours i [])) → w ≡ word_at bytes (4 * i)
  word_of_four {n = n} cut h k e =
      let four = ap (λ l. get_or l i []) cut ∙ four_at bytes n i [] h in
      let at : (j : ℕ) → j < 4 → get_or (take 4 (drop (4 * i) bytes)) j 0 ≡ get_or bytes (4 * i + j) 0
      = λ j l. get_or-take 4 (drop (4 * i) bytes) j 0 l ∙ get_or-drop (4 * i) bytes j 0 in
      e ∙ ap (λ l. to_z w32 (from_le_bytes w32 l)) four
      ∙ word_is (take 4 (drop (4 * i) bytes)) (at 0 (omega arith) ∙ ap (λ k. get_or bytes k 0) (add-zero (4 * i))) (at 1 (omega arith)) (at 2 (omega arith)) (at 3 (omega arith))

  -- a turn of the loop that writes the words: w is the word at i
  pub word_turn : {w : ℤ} {l l' ts : List ℤ} {at : ℕ} → 4 * i + 3 < length bytes → i < length l' → w ≡ word_at bytes (4 * i)
      → Left l at ts l' i (words_of (drop (4 * i) bytes)) → Left l at ts (set l' i w) (i + 1) (words_of (drop (4 * (i + 1)) bytes))
  word_turn {w} h k e left = λ q l'' v. left q l'' (rw (next_word h, ← e) (one_then w k v))
