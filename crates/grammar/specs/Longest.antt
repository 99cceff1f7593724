-- `token_at` gives the token that begins at the front of bytes, and none where none begins (`begun`). By the first
-- byte: a digit begins no piece but digits, a letter none but a word, any other byte none but a symbol.
-- Assumes nothing.
use Rattle.std.specs.Prelude.{ℕ, zero, suc, ◌≤◌, ◌≡◌, refl, List, [], ◌∷◌, Bool, true, false, cond, not, ◌&&◌, length, take}
use Rattle.std.proofs.Common.{sym, subst, ◌∙◌, inl, inr, arith as linear, length-take-le}
use Rattle.std.proofs.Math.Option.{Option, none, some}
use Rattle.std.proofs.lemmas.Bool.{not-true}
use Rattle.grammar.specs.Tokens.{Token}
use Rattle.grammar.specs.Scanning.{is_digit, is_letter, is_word_byte, front, Spelling, keywords, symbols, Found, word_of, symbol_of, numeral_of, token_at}
use Rattle.grammar.specs.Pieces.{All, Word, Listed, Piece, digits, word, symbol, SpelledBy, as_numeral, as_variable, as_keyword, as_symbol, Longest, TokenBegins}
use Rattle.grammar.specs.Tests.{false_is_not, both}
use Rattle.grammar.specs.Fronts.{digit_range, letter_range, run, front_fits, length_run, all_run, run_longest}
use Rattle.grammar.specs.Finding.{Finds, WordToken, finds_word, Starts, starts}

-- ---- a piece by its first byte

digit_no_letter : (b : ℕ) → is_digit b ≡ true → is_letter b ≡ true → ⊥
digit_no_letter b d l = omega (linear, digit_range b d, letter_range b l)

-- a symbol begins with neither a digit nor a letter: a computed test
abbrev other_head : List ℕ → Bool
other_head [] = false
other_head (b ∷ bs) = not (is_digit b) && not (is_letter b)

abbrev other_heads : List Spelling → Bool
other_heads [] = true
other_heads (s ∷ ss) = other_head s.bytes && other_heads ss

listed_head : (ss : List Spelling) (t : Token) (w : List ℕ) → other_heads ss ≡ true → Listed ss t w
    → other_head w ≡ true
listed_head [] t w e l = absurd l
listed_head (s ∷ ss) t w e (inl h) =
    subst (λ v. other_head v ≡ true) h.1 (both (other_head s.bytes) (other_heads ss) e).0
listed_head (s ∷ ss) t w e (inr l) = listed_head ss t w (both (other_head s.bytes) (other_heads ss) e).1 l

symbol_head : (t : Token) (b : ℕ) (w : List ℕ) → Listed symbols t (b ∷ w) → (is_digit b ≡ false) × (is_letter b ≡ false)
symbol_head t b w l =
    let h = both (not (is_digit b)) (not (is_letter b)) (listed_head symbols t (b ∷ w) refl l) in
    (not-true (is_digit b) h.0, not-true (is_letter b) h.1)

pub piece_some : (w : List ℕ) → Piece w → 1 ≤ length w
piece_some [] (digits d) = absurd d
piece_some [] (word d) = absurd d
piece_some [] (symbol t l) = false_is_not (listed_head symbols t [] refl l)
piece_some (b ∷ w) p = omega linear

piece_digits : (b : ℕ) (w : List ℕ) → is_digit b ≡ true → Piece (b ∷ w) → All is_digit w
piece_digits b w d (digits h) = h.1
piece_digits b w d (word h) = absurd (digit_no_letter b d h.0)
piece_digits b w d (symbol t l) = false_is_not (sym (symbol_head t b w l).0 ∙ d)

piece_word : (b : ℕ) (w : List ℕ) → is_letter b ≡ true → Piece (b ∷ w) → All is_word_byte w
piece_word b w e (digits h) = absurd (digit_no_letter b h.0 e)
piece_word b w e (word h) = h.1
piece_word b w e (symbol t l) = false_is_not (sym (symbol_head t b w l).1 ∙ e)

-- ---- the longest piece

pub one_longest : {bs : List ℕ} {n m : ℕ} → Longest bs n → Longest bs m → n ≡ m
one_longest {n = n} {m = m} h k =
    omega (linear, h.none_longer m k.within k.piece, k.none_longer n h.within h.piece)

longest_run : (p : ℕ → Bool) (b : ℕ) (bs : List ℕ) → p b ≡ true → ((w : List ℕ) → Piece (b ∷ w) → All p w)
    → ((w : List ℕ) → All p w → Piece (b ∷ w)) → Longest (b ∷ bs) (front p (b ∷ bs))
longest_run p b bs e only made = record {
  within = front_fits p (b ∷ bs);
  piece = rw e (made (run p bs) (all_run p bs));
  none_longer = λ m h q. at_most m h q;
}
  where
    at_most : (m : ℕ) → m ≤ length (b ∷ bs) → Piece (take m (b ∷ bs)) → m ≤ front p (b ∷ bs)
    at_most zero h q = omega linear
    at_most (suc m) h q = run_longest p (suc m) (b ∷ bs) h (e, only (take m bs) q)

pub begins_some : {bs : List ℕ} {t : Token} {n : ℕ} → TokenBegins bs t n → 1 ≤ n
begins_some {bs} {n = n} h =
    omega (linear, piece_some (take n bs) h.longest.piece, length-take-le n bs h.longest.within)

-- ---- what begins here

abbrev pub Begun : List ℕ → Option Found → Type 0
Begun bs none = (t : Token) (n : ℕ) → TokenBegins bs t n → ⊥
Begun bs (some f) = TokenBegins bs f.token f.size

begun_numeral : (b : ℕ) (bs : List ℕ) → is_digit b ≡ true → Begun (b ∷ bs) (numeral_of (run is_digit (b ∷ bs)))
begun_numeral b bs d =
    rw (length_run is_digit (b ∷ bs))
    (record {
      longest = longest_run is_digit b bs d (λ w. piece_digits b w d) (λ w a. digits (d, a));
      spells = as_numeral (rw d (d, all_run is_digit bs)) refl;
    })

-- the tokens that a word spells
word_spells : (w : List ℕ) (t : Token) → Word w → SpelledBy w t → WordToken keywords w t
word_spells [] t h s = absurd h
word_spells (b ∷ w) t h (as_numeral d q) = absurd (digit_no_letter b d.0 h.0)
word_spells (b ∷ w) t h (as_variable ds d i q) =
    inr (record { after_v = ds; all_digits = d; is_word = i; is_token = q })
word_spells (b ∷ w) t h (as_keyword l) = inl l
word_spells (b ∷ w) t h (as_symbol l) = false_is_not (sym (symbol_head t b w l).1 ∙ h.0)

spells_word : (w : List ℕ) (t : Token) → WordToken keywords w t → SpelledBy w t
spells_word w t (inl l) = as_keyword l
spells_word w t (inr v) = as_variable v.after_v v.all_digits v.is_word v.is_token

begun_word : (b : ℕ) (bs : List ℕ) → is_letter b ≡ true → Begun (b ∷ bs) (word_of keywords (run is_word_byte (b ∷ bs)))
begun_word b bs e =
    at_found (word_of keywords (run is_word_byte (b ∷ bs))) (finds_word keywords (run is_word_byte (b ∷ bs)))
  where
    begins_word : is_word_byte b ≡ true
    begins_word = rw e

    longest : Longest (b ∷ bs) (front is_word_byte (b ∷ bs))
    longest = longest_run is_word_byte b bs begins_word (λ w. piece_word b w e) (λ w a. word (e, a))

    is_word : Word (run is_word_byte (b ∷ bs))
    is_word = rw begins_word (e, all_run is_word_byte bs)

    at_found : (o : Option Found) → Finds (run is_word_byte (b ∷ bs)) (WordToken keywords (run is_word_byte (b ∷ bs))) o
        → Begun (b ∷ bs) o
    at_found none h = λ t n begins.
        let spells = subst (λ k. SpelledBy (take k (b ∷ bs)) t) (one_longest begins.longest longest) begins.spells in
        h t (word_spells (run is_word_byte (b ∷ bs)) t is_word spells)
    at_found (some f) h =
        rw (h.0 ∙ length_run is_word_byte (b ∷ bs))
        (record { longest = longest; spells = spells_word (run is_word_byte (b ∷ bs)) f.token h.1 })

begun_symbol : (b : ℕ) (bs : List ℕ) → is_digit b ≡ false → is_letter b ≡ false
    → Begun (b ∷ bs) (symbol_of symbols (b ∷ bs))
begun_symbol b bs d e = at_found (symbol_of symbols (b ∷ bs)) (starts symbols (b ∷ bs) refl)
  where
    only : (m : ℕ) → Piece (take m (b ∷ bs)) → (t : Token) × Listed symbols t (take m (b ∷ bs))
    only zero p = absurd (omega (linear, piece_some [] p))
    only (suc m) (digits h) = false_is_not (sym d ∙ h.0)
    only (suc m) (word h) = false_is_not (sym e ∙ h.0)
    only (suc m) (symbol t l) = (t, l)

    at_found : (o : Option Found) → Starts symbols (b ∷ bs) o → Begun (b ∷ bs) o
    at_found none h = λ t n begins.
        let p = only n begins.longest.piece in
        h p.0 n begins.longest.within p.1
    at_found (some f) h = record {
      longest = record {
        within = h.0;
        piece = symbol f.token h.1;
        none_longer = λ m l q. let p = only m q in h.2 p.0 m l p.1;
      };
      spells = as_symbol h.1;
    }

pub begun : (bs : List ℕ) → Begun bs (token_at bs)
unfolding token_at
begun [] = λ t n h. omega (linear, begins_some h, h.longest.within)
begun (b ∷ bs) = by_first (is_digit b) refl (is_letter b) refl
  where
    by_first : (k : Bool) → is_digit b ≡ k → (l : Bool) → is_letter b ≡ l
        → Begun (b ∷ bs)
        (cond k (numeral_of (run is_digit (b ∷ bs)))
        (cond l (word_of keywords (run is_word_byte (b ∷ bs))) (symbol_of symbols (b ∷ bs))))
    by_first true d l e = begun_numeral b bs d
    by_first false d true e = begun_word b bs e
    by_first false d false e = begun_symbol b bs d e
