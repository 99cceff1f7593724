-- A word's number tells the keyword; where there is none with that number, the word is a variable or no token.
-- Assumes nothing.
use Prim.Native.Nat.{ℕ, zero, suc, ◌+◌, ◌<◌}
use mathlib.Core.Path.{◌≡◌, refl, ap, sym, ◌∙◌}
use mathlib.Core.List.{List, [], ◌∷◌}
use mathlib.Core.Option.{Option, some}
use mathlib.Core.Bool.{Bool, true, false, cond, not, ◌&&◌}
use native.Mathlib.Omega.{arith}
use lib.Dec.{eqb, ltb}
use borrow.Author.Tests.{eqb-true, eqb-false, not-true, lt-ltb, ltb-true}
use Rattle.std.specs.Prelude.{Option as Option', None, Some}
use lib.ListN.{length, take}
use Rattle.grammar.specs.Scanning.{is_word_byte, front, keywords, Spelling, Found, variable_of, word_of}
use Rattle.grammar.specs.Numbers.{token_number, token_value}
use Rattle.grammar.specs.Fronts.{run, word_byte_range, length_run}
use Rattle.scanner.specs.Words.{packed, longest, word_number, keyword_number, numbered, keyword_told}
use Rattle.scanner.specs.Lexed.{lexed, told_at, word_at}
use Rattle.scanner.proofs.Packing.{proper, same_packed}
use Rattle.grammar.specs.Tests.{both}

-- a word's bytes are letters and digits
pub proper_run : (bs : List ℕ) → proper (run is_word_byte bs) ≡ true
proper_run [] = refl
proper_run (b ∷ bs) = by_test (is_word_byte b) refl (proper_run bs)
  where
    by_test : (t : Bool) → is_word_byte b ≡ t → proper (run is_word_byte bs) ≡ true
        → proper (take (cond t (suc (front is_word_byte bs)) 0) (b ∷ bs)) ≡ true
    by_test true e h =
        let r = word_byte_range b e in
        rw (lt-ltb 0 b (omega arith), lt-ltb b 256 (omega arith)) h
    by_test false e h = refl

-- ---- a spelling

-- its bytes make a number of their own, and its token has a number and no value: a computed test
abbrev spelt : Spelling → Bool
spelt s = proper s.bytes && ltb (packed 0 s.bytes) longest

abbrev plain : Spelling → Bool
plain s = not (eqb (token_number s.token) 0) && eqb (token_value s.token) 0

abbrev all_tellable : List Spelling → Bool
all_tellable [] = true
all_tellable (s ∷ ss) = (spelt s && plain s) && all_tellable ss

record Tellable (s : Spelling) : Type 0 where
  bytes_proper : proper s.bytes ≡ true
  short : packed 0 s.bytes < longest
  numbered : token_number s.token ≡ 0 → ⊥
  valueless : token_value s.token ≡ 0

tellable : (s : Spelling) → (spelt s && plain s) ≡ true → Tellable s
tellable s e =
    let h = both (spelt s) (plain s) e in
    let l = both (proper s.bytes) (ltb (packed 0 s.bytes) longest) h.0 in
    let r = both (not (eqb (token_number s.token) 0)) (eqb (token_value s.token) 0) h.1 in
    record {
      bytes_proper = l.0;
      short = ltb-true (packed 0 s.bytes) longest l.1;
      numbered = eqb-false (token_number s.token) 0 (not-true _ r.0);
      valueless = eqb-true (token_value s.token) 0 r.1;
    }

-- ---- a word among spellings

-- what a number tells of a word and what is found for it
record Tells (w : List ℕ) (number : ℕ) (o : Option Found) : Type 0 where
  no_keyword : number ≡ 0 → o ≡ variable_of w
  keyword : (at : ℕ) → (number ≡ 0 → ⊥) → told_at at o ≡ Some (record { kind = number; value = 0; end = at + length w })

tells : (w : List ℕ) → proper w ≡ true → (ss : List Spelling) → all_tellable ss ≡ true
    → Tells w (keyword_number ss (word_number w)) (word_of ss w)
unfolding keyword_number lexed
tells w p [] h = record { no_keyword = λ e. refl; keyword = λ at n. absurd (n refl) }
tells w p (s ∷ ss) h =
    let t = both (spelt s && plain s) (all_tellable ss) h in
    let s' = tellable s t.0 in
    rw (same_packed w s.bytes p s'.bytes_proper s'.short)
    (by_test (eqb (word_number w) (packed 0 s.bytes)) s' (tells w p ss t.1))
  where
    by_test : (k : Bool) → Tellable s → Tells w (keyword_number ss (word_number w)) (word_of ss w)
        → Tells w (cond k (token_number s.token) (keyword_number ss (word_number w)))
        (cond k (some (record { token = s.token; size = length w })) (word_of ss w))
    by_test true t r = record { no_keyword = λ e. absurd (t.numbered e); keyword = λ at n. rw t.valueless }
    by_test false t r = r

-- ---- the word at the front

keywords_tell : (bs : List ℕ)
    → Tells (run is_word_byte bs) (keyword_number keywords (word_number (run is_word_byte bs))) (word_at bs)
unfolding word_at token_number token_value
keywords_tell bs = tells (run is_word_byte bs) (proper_run bs) keywords refl

numbered_none : (n : ℕ) → numbered n ≡ None → n ≡ 0
numbered_none zero e = refl
numbered_none (suc n) e = cc

numbered_some : (n k : ℕ) → numbered n ≡ Some k → (n ≡ k) × (n ≡ 0 → ⊥)
numbered_some zero k e = cc
numbered_some (suc n) k e = (cc, λ z. omega (arith, z))

module _ (bs : List ℕ) {told : Option' ℕ} (is : told ≡ keyword_told keywords (word_number (run is_word_byte bs))) where
  unfoldable number : ℕ
  number = keyword_number keywords (word_number (run is_word_byte bs))

  pub no_word : told ≡ None → word_at bs ≡ variable_of (run is_word_byte bs)
  unfolding number
  no_word e = (keywords_tell bs).no_keyword (numbered_none number (sym is ∙ e))

  pub word_told : (at : ℕ) {end k : ℕ} → told ≡ Some k → end ≡ at + front is_word_byte bs
      → Some (record { kind = k; value = 0; end = end }) ≡ told_at at (word_at bs)
  unfolding number
  word_told at {end} {k} s e =
      let n = numbered_some number k (sym is ∙ s) in
      rw (← n.0, e ∙ ap (λ k. at + k) (sym (length_run is_word_byte bs)))
      (sym ((keywords_tell bs).keyword at n.1))
