-- The S-expressions of a text with single spaces are read back from it (`sexps_back`), where every atom is a word. First its
-- bytes give the tokens of the S-expressions (`sexp_lexed`), then the tokens give the S-expressions (`sexp_parsed`), each by
-- induction on the S-expressions, whatever stands behind. Assumes nothing.
use Rattle.std.specs.Prelude.{ℕ, ◌≡◌, refl, List, [], ◌∷◌, ◌++◌, Bool, false, not, ◌&&◌, T, eqb}
use Rattle.std.proofs.Common.{ap, ◌∙◌, subst, ne_eqb, T_not}
use Rattle.std.proofs.Math.Option.{some}
use Rattle.script.specs.Refusals.{member}
use Rattle.script.specs.Listing.{◌>>=◌}
use Rattle.theorems.specs.Truths.{both}
use Rattle.text.specs.Decimal.{all}
use Rattle.smt.specs.Sexp.{Sexp, atom, form, Sexps, end, then, Token, open_form, close_form, word, blanks, Lexed, gap, whole_tokens, byte, lex, tokens, Behind, behind, token, parse, closed, sexps}
use Rattle.smt.specs.Text.{sexp_text, first_text, more_text}
use Rattle.smt.specs.Lexicon.{symbol_byte, empty}

-- ---- words

abbrev pub is_word : List ℕ → Bool
is_word w = not (empty w) && all symbol_byte w

-- every atom is a word
abbrev mutual
  pub Wordy : Sexp → Type 0
  Wordy (atom w) = T (is_word w)
  Wordy (form ss) = AllWordy ss

  pub AllWordy : Sexps → Type 0
  AllWordy end = Unit {0}
  AllWordy (then s ss) = Wordy s × AllWordy ss

-- a byte of a word is none that is in no word
apart : (c d : ℕ) → T (symbol_byte c) → T (not (symbol_byte d)) → eqb c d ≡ false
apart c d h n = ne_eqb c d (λ e. T_not (symbol_byte d) n (subst (λ x. T (symbol_byte x)) e h))

not_among : (c : ℕ) (ds : List ℕ) → T (symbol_byte c) → T (all (λ d. not (symbol_byte d)) ds) → member c ds ≡ false
not_among c [] h n = refl
not_among c (d ∷ ds) h n =
    let b = both (not (symbol_byte d)) (all (λ e. not (symbol_byte e)) ds) n in
    rw (apart c d h b.0) (not_among c ds h b.1)

byte_of_word : (c : ℕ) (l : Lexed) → T (symbol_byte c) → byte c l ≡ record { begun = c ∷ l.begun; after = l.after }
byte_of_word c l h = rw (not_among c blanks h tt, apart c 40 h tt, apart c 41 h tt)

word_lexed : (w : List ℕ) (ts : List Token) → T (all symbol_byte w) → lex w (gap ts) ≡ record { begun = w; after = ts }
word_lexed [] ts h = refl
word_lexed (c ∷ cs) ts h =
    let b = both (symbol_byte c) (all symbol_byte cs) h in
    ap (byte c) (word_lexed cs ts b.1) ∙ byte_of_word c (record { begun = cs; after = ts }) b.0

-- ---- bytes to tokens

pub lex_append : (xs ys : List ℕ) (l : Lexed) → lex (xs ++ ys) l ≡ lex xs (lex ys l)
lex_append [] ys l = refl
lex_append (c ∷ xs) ys l = ap (byte c) (lex_append xs ys l)

-- the tokens of S-expressions, before others
unfoldable mutual
  sexp_tokens : Sexp → List Token → List Token
  sexp_tokens (atom w) ts = word w ∷ ts
  sexp_tokens (form ss) ts = open_form ∷ all_tokens ss (close_form ∷ ts)

  all_tokens : Sexps → List Token → List Token
  all_tokens end ts = ts
  all_tokens (then s ss) ts = sexp_tokens s (all_tokens ss ts)

atom_lexed : (w : List ℕ) (ts : List Token) → T (is_word w) → whole_tokens (lex w (gap ts)) ≡ word w ∷ ts
atom_lexed [] ts h = absurd h
atom_lexed (c ∷ cs) ts h = ap whole_tokens (word_lexed (c ∷ cs) ts h)

mutual
  unfolding sexp_text sexp_tokens

  sexp_lexed : (s : Sexp) (ts : List Token) → Wordy s → whole_tokens (lex (sexp_text s) (gap ts)) ≡ sexp_tokens s ts
  sexp_lexed (atom w) ts h = atom_lexed w ts h
  sexp_lexed (form ss) ts h = ap (λ us. open_form ∷ us) (first_lexed ss (gap ts) h)

  first_lexed : (ss : Sexps) (l : Lexed) → AllWordy ss → whole_tokens (lex (first_text ss) l) ≡ all_tokens ss (close_form ∷ whole_tokens l)
  first_lexed end l h = refl
  first_lexed (then s ss) l h =
      ap whole_tokens (lex_append (sexp_text s) (more_text ss) l ∙ ap (lex (sexp_text s)) (more_lexed ss l h.1))
      ∙ sexp_lexed s (all_tokens ss (close_form ∷ whole_tokens l)) h.0

  more_lexed : (ss : Sexps) (l : Lexed) → AllWordy ss → lex (more_text ss) l ≡ gap (all_tokens ss (close_form ∷ whole_tokens l))
  more_lexed end l h = refl
  more_lexed (then s ss) l h =
      ap (byte 32) (lex_append (sexp_text s) (more_text ss) l ∙ ap (lex (sexp_text s)) (more_lexed ss l h.1))
      ∙ ap gap (sexp_lexed s (all_tokens ss (close_form ∷ whole_tokens l)) h.0)

-- ---- tokens to S-expressions

abbrev onto : Sexps → Sexps → Sexps
onto end rest = rest
onto (then s ss) rest = then s (onto ss rest)

onto_end : (ss : Sexps) → onto ss end ≡ ss
onto_end end = refl
onto_end (then s ss) = ap (then s) (onto_end ss)

-- one token before what was read
parse_token : (t : Token) (ts : List Token) (b : Behind) {c d : Behind} → parse ts b ≡ some c → token t c ≡ some d
    → parse (t ∷ ts) b ≡ some d
unfolding parse
parse_token t ts b p q = ap (λ o. o >>= token t) p ∙ q

mutual
  unfolding sexp_tokens

  sexp_parsed : (s : Sexp) (ts : List Token) (b : Behind) (c : Sexps) (o : List Sexps) → parse ts b ≡ some (behind c o)
      → parse (sexp_tokens s ts) b ≡ some (behind (then s c) o)
  sexp_parsed (atom w) ts b c o p = parse_token (word w) ts b p refl
  sexp_parsed (form ss) ts b c o p =
      let inside = all_parsed ss (close_form ∷ ts) b end (c ∷ o) (parse_token close_form ts b p refl) in
      parse_token open_form (all_tokens ss (close_form ∷ ts)) b inside (ap (λ x. some (behind (then (form x) c) o)) (onto_end ss))

  all_parsed : (ss : Sexps) (ts : List Token) (b : Behind) (c : Sexps) (o : List Sexps) → parse ts b ≡ some (behind c o)
      → parse (all_tokens ss ts) b ≡ some (behind (onto ss c) o)
  all_parsed end ts b c o p = p
  all_parsed (then s ss) ts b c o p = sexp_parsed s (all_tokens ss ts) b (onto ss c) o (all_parsed ss ts b c o p)

-- ---- lines

-- each S-expression on a line of its own
unfoldable pub lines_text : Sexps → List ℕ
lines_text end = []
lines_text (then s ss) = sexp_text s ++ (10 ∷ lines_text ss)

lines_lexed : (ss : Sexps) → AllWordy ss → tokens (lines_text ss) ≡ all_tokens ss []
unfolding tokens lines_text all_tokens
lines_lexed end h = refl
lines_lexed (then s ss) h =
    ap whole_tokens (lex_append (sexp_text s) (10 ∷ lines_text ss) (gap []) ∙ ap (λ ts. lex (sexp_text s) (gap ts)) (lines_lexed ss h.1))
    ∙ sexp_lexed s (all_tokens ss []) h.0

pub sexps_back : (ss : Sexps) → AllWordy ss → sexps (lines_text ss) ≡ some ss
unfolding sexps parse
sexps_back ss h =
    ap (λ ts. parse ts (behind end []) >>= λ b. closed b.here b.outer) (lines_lexed ss h)
    ∙ ap (λ o. o >>= λ b. closed b.here b.outer) (all_parsed ss [] (behind end []) end [] refl)
    ∙ ap some (onto_end ss)
