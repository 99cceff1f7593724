-- Each token has a byte at least (`token_size`), so the number of bytes bounds the scan: every larger bound gives the
-- same (`scan_enough`). The last token is the end of the text (`scan_ends`). Assumes nothing.
use Rattle.std.specs.Prelude.{ℕ, zero, suc, ◌+◌, ◌≤◌, ◌≡◌, refl, List, [], ◌∷◌, ◌++◌, Bool, true, false, cond, ◌&&◌, eqb, leb, length, take, drop}
use Rattle.std.proofs.Common.{ap, subst, arith as linear, leb-true, length-drop}
use Rattle.std.proofs.Math.Option.{Option, none, some}
use Rattle.grammar.specs.Tokens.{Token, closer_word, end_of_text}
use Rattle.grammar.specs.Scanning.{Lexeme, tokens_of, no_token, lexemes, is_blank, is_digit, is_letter, is_word_byte, front, same_bytes, begins_with, numeral_of, keywords, symbols, Spelling, Found, variable_of, word_of, symbol_of, token_at, Scanned, with_first, past, scan_from, scan}
use Rattle.grammar.specs.Tests.{both}

abbrev Sized : Option Found → Type 0
Sized none = Unit {0}
Sized (some f) = 1 ≤ f.size

sized_if : (k : Bool) (a b : Option Found) → Sized a → Sized b → Sized (cond k a b)
sized_if true a b x y = x
sized_if false a b x y = y

-- the word that a byte begins
word_length : (p : ℕ → Bool) (b : ℕ) (bs : List ℕ) → p b ≡ true → 1 ≤ length (take (front p (b ∷ bs)) (b ∷ bs))
word_length p b bs e = rw e (omega linear)

sized_variable : (w : List ℕ) → Sized (variable_of w)
sized_variable [] = tt
sized_variable (b ∷ []) = tt
sized_variable (b ∷ d ∷ ds) = sized_if (eqb b 118 && eqb (front is_digit (d ∷ ds)) (length (d ∷ ds))) _ none (omega linear) tt

sized_word : (ss : List Spelling) (w : List ℕ) → 1 ≤ length w → Sized (word_of ss w)
sized_word [] w h = sized_variable w
sized_word (s ∷ ss) w h = sized_if (same_bytes w s.bytes) _ (word_of ss w) h (sized_word ss w h)

-- every spelling has a byte: a computed test
abbrev all_long : List Spelling → Bool
all_long [] = true
all_long (s ∷ ss) = leb 1 (length s.bytes) && all_long ss

sized_symbol : (ss : List Spelling) (bs : List ℕ) → all_long ss ≡ true → Sized (symbol_of ss bs)
sized_symbol [] bs h = tt
sized_symbol (s ∷ ss) bs h =
    let t = both (leb 1 (length s.bytes)) (all_long ss) h in
    sized_if (begins_with bs s.bytes) _ (symbol_of ss bs) (leb-true 1 (length s.bytes) t.0) (sized_symbol ss bs t.1)

pub token_size : (b : ℕ) (bs : List ℕ) → Sized (token_at (b ∷ bs))
unfolding token_at
token_size b bs = at_test (is_digit b) refl (is_letter b) refl
  where
    at_test : (k : Bool) → is_digit b ≡ k → (l : Bool) → is_letter b ≡ l
        → Sized (cond k (numeral_of (take (front is_digit (b ∷ bs)) (b ∷ bs)))
        (cond l (word_of keywords (take (front is_word_byte (b ∷ bs)) (b ∷ bs))) (symbol_of symbols (b ∷ bs))))
    at_test true i l j = word_length is_digit b bs i
    at_test false i true j = sized_word keywords (take (front is_word_byte (b ∷ bs)) (b ∷ bs)) (word_length is_word_byte b bs (rw j))
    at_test false i false j =
        sized_symbol symbols (b ∷ bs) refl

-- ---- bounds

past_same : (o : Option Found) (go on : ℕ → List ℕ → Scanned) (p b : ℕ) (bs : List ℕ) → Sized o
    → ((q : ℕ) (cs : List ℕ) → length cs ≤ length bs → go q cs ≡ on q cs) → past o go p (b ∷ bs) ≡ past o on p (b ∷ bs)
past_same none go on p b bs s h = refl
past_same (some f) go on p b bs s h =
    ap (λ (r : Scanned). with_first (record { token = f.token; place = p }) r)
    (h (p + f.size) (drop f.size (b ∷ bs)) (omega (linear, length-drop f.size (b ∷ bs))))

pub scan_enough : (n m p : ℕ) (bs : List ℕ) → length bs ≤ n → length bs ≤ m → scan_from n p bs ≡ scan_from m p bs
unfolding scan_from
scan_enough zero zero p bs h k = refl
scan_enough zero (suc m) p [] h k = refl
scan_enough zero (suc m) p (b ∷ bs) h k = absurd (omega linear)
scan_enough (suc n) zero p [] h k = refl
scan_enough (suc n) zero p (b ∷ bs) h k = absurd (omega linear)
scan_enough (suc n) (suc m) p [] h k = refl
scan_enough (suc n) (suc m) p (b ∷ bs) h k =
    rw (scan_enough n m (p + 1) bs (omega linear) (omega linear))
    (ap (λ (r : Scanned). cond (is_blank b) (scan_from m (p + 1) bs) r)
    (past_same (token_at (b ∷ bs)) (λ q cs. scan_from n q cs) (λ q cs. scan_from m q cs) p b bs (token_size b bs)
    (λ q cs l. scan_enough n m q cs (omega linear) (omega linear))))

-- ---- the last token

pub record Ends (ls : List Lexeme) : Type 0 where
  pub before : List Token
  pub is : tokens_of ls ≡ before ++ (closer_word end_of_text ∷ [])

abbrev ScanEnds : Scanned → Type 0
ScanEnds (no_token p) = Unit {0}
ScanEnds (lexemes ls) = Ends ls

ends_first : (l : Lexeme) (r : Scanned) → ScanEnds r → ScanEnds (with_first l r)
ends_first l (no_token p) h = tt
ends_first l (lexemes ls) h = record { before = l.token ∷ h.before; is = ap (λ ts. l.token ∷ ts) h.is }

ends_past : (o : Option Found) (go : ℕ → List ℕ → Scanned) (p : ℕ) (bs : List ℕ) → ((q : ℕ) (cs : List ℕ) → ScanEnds (go q cs))
    → ScanEnds (past o go p bs)
ends_past none go p bs h = tt
ends_past (some f) go p bs h = ends_first _ (go (p + f.size) (drop f.size bs)) (h (p + f.size) (drop f.size bs))

ends_if : (k : Bool) (a b : Scanned) → ScanEnds a → ScanEnds b → ScanEnds (cond k a b)
ends_if true a b x y = x
ends_if false a b x y = y

ends_from : (n p : ℕ) (bs : List ℕ) → ScanEnds (scan_from n p bs)
unfolding scan_from
ends_from zero p bs = record { before = []; is = refl }
ends_from (suc n) p [] = record { before = []; is = refl }
ends_from (suc n) p (b ∷ bs) =
    ends_if (is_blank b) (scan_from n (p + 1) bs) (past (token_at (b ∷ bs)) (λ q cs. scan_from n q cs) p (b ∷ bs)) (ends_from n (p + 1) bs)
    (ends_past (token_at (b ∷ bs)) (λ q cs. scan_from n q cs) p (b ∷ bs) (λ q cs. ends_from n q cs))

pub scan_ends : (bs : List ℕ) (ls : List Lexeme) → scan bs ≡ lexemes ls → Ends ls
unfolding scan
scan_ends bs ls e = subst ScanEnds e (ends_from (length bs) 0 bs)
