-- The tokens of a text: no more than its bytes and the end, each at a place within it (`scan_spread`). A token's
-- bytes are bytes of the text (`token_within`). Assumes nothing.
use Rattle.std.specs.Prelude.{ℕ, zero, suc, ◌+◌, ◌≤◌, ◌<◌, ◌≡◌, refl, Bool, true, false, cond, ◌&&◌, List, [], ◌∷◌, eqb, length, take, drop}
use Rattle.std.proofs.Common.{ap, subst, arith as linear, length-take, length-drop}
use Rattle.std.proofs.Math.Option.{Option, none, some}
use Rattle.grammar.specs.Scanning.{Lexeme, Scanned, no_token, lexemes, is_blank, is_digit, is_letter, is_word_byte, front, same_bytes, begins_with, keywords, symbols, Spelling, Found, variable_of, word_of, symbol_of, token_at, with_first, past, scan_from, scan}
use Rattle.grammar.specs.Tests.{false_is_not}
use Rattle.grammar.specs.Scans.{token_size}
use Rattle.parser.specs.Machine.{nowhere}
use Rattle.parsing.specs.FollowsRun.{Placed}

-- ---- a token within n bytes

abbrev Within : ℕ → Option Found → Type 0
Within n none = Unit {0}
Within n (some f) = f.size ≤ n

within_if : (k : Bool) (n : ℕ) (a b : Option Found) → (k ≡ true → Within n a) → (k ≡ false → Within n b)
    → Within n (cond k a b)
within_if true n a b x y = x refl
within_if false n a b x y = y refl

within_variable : (w : List ℕ) (n : ℕ) → length w ≤ n → Within n (variable_of w)
within_variable [] n l = tt
within_variable (b ∷ []) n l = tt
within_variable (b ∷ d ∷ ds) n l =
    within_if (eqb b 118 && eqb (front is_digit (d ∷ ds)) (length (d ∷ ds))) n _ none (λ e. l) (λ e. tt)

within_word : (ss : List Spelling) (w : List ℕ) (n : ℕ) → length w ≤ n → Within n (word_of ss w)
within_word [] w n l = within_variable w n l
within_word (s ∷ ss) w n l =
    within_if (same_bytes w s.bytes) n _ (word_of ss w) (λ e. l) (λ e. within_word ss w n l)

same_length : (us vs : List ℕ) → same_bytes us vs ≡ true → length us ≡ length vs
same_length [] [] e = refl
same_length [] (v ∷ vs) e = false_is_not e
same_length (u ∷ us) [] e = false_is_not e
same_length (u ∷ us) (v ∷ vs) e = ap suc (same_length us vs (second (eqb u v) e))
  where
    second : (a : Bool) {b : Bool} → (a && b) ≡ true → b ≡ true
    second true h = h
    second false h = false_is_not h

within_symbol : (ss : List Spelling) (bs : List ℕ) → Within (length bs) (symbol_of ss bs)
within_symbol [] bs = tt
within_symbol (s ∷ ss) bs =
    within_if (begins_with bs s.bytes) (length bs) _ (symbol_of ss bs)
    (λ e. omega (linear, same_length (take (length s.bytes) bs) s.bytes e, length-take (length s.bytes) bs))
    (λ e. within_symbol ss bs)

token_within : (b : ℕ) (bs : List ℕ) → Within (length (b ∷ bs)) (token_at (b ∷ bs))
unfolding token_at
token_within b bs =
    let n = length (b ∷ bs) in
    within_if (is_digit b) n _ _ (λ e. front_within is_digit)
    (λ e. within_if (is_letter b) n _ _
    (λ i. within_word keywords (take (front is_word_byte (b ∷ bs)) (b ∷ bs)) n (front_within is_word_byte))
    (λ i. within_symbol symbols (b ∷ bs)))
  where
    front_within : (p : ℕ → Bool) → length (take (front p (b ∷ bs)) (b ∷ bs)) ≤ length (b ∷ bs)
    front_within p = omega (linear, length-take (front p (b ∷ bs)) (b ∷ bs))

-- ---- the tokens of a text

-- places up to n
abbrev pub UpTo : ℕ → List Lexeme → Type 0
UpTo n [] = Unit {0}
UpTo n (l ∷ ls) = (l.place ≤ n) × UpTo n ls

-- at most k tokens, at places up to n
abbrev Spread : ℕ → ℕ → Scanned → Type 0
Spread k n (no_token p) = Unit {0}
Spread k n (lexemes ls) = (length ls ≤ k) × UpTo n ls

-- a byte at least
abbrev SpreadSize : Option Found → Type 0
SpreadSize none = Unit {0}
SpreadSize (some f) = 1 ≤ f.size

spread_first : (l : Lexeme) (k n : ℕ) (r : Scanned) → l.place ≤ n → Spread k n r → Spread (suc k) n (with_first l r)
spread_first l k n (no_token p) e h = tt
spread_first l k n (lexemes ls) e h = let m = h.0 in (omega linear, (e, h.1))

spread_more : (k m n : ℕ) (r : Scanned) → k ≤ m → Spread k n r → Spread m n r
spread_more k m n (no_token p) l h = tt
spread_more k m n (lexemes ls) l h = let i = h.0 in (omega linear, h.1)

spread_past : (o : Option Found) (go : ℕ → List ℕ → Scanned) (p b : ℕ) (bs : List ℕ) → Within (length (b ∷ bs)) o
    → SpreadSize o
    → ((q : ℕ) (cs : List ℕ) → length cs ≤ length bs → Spread (length cs + 1) (q + length cs) (go q cs))
    → Spread (length (b ∷ bs) + 1) (p + length (b ∷ bs)) (past o go p (b ∷ bs))
spread_past none go p b bs w s again = tt
spread_past (some f) go p b bs w s again =
    let cs = drop f.size (b ∷ bs) in
    let left = length-drop f.size (b ∷ bs) in
    let first : Lexeme = record { token = f.token; place = p } in
    let rest = go (p + f.size) cs in
    let end : p + f.size + length cs ≡ p + length (b ∷ bs) = omega linear in
    spread_more (suc (length cs + 1)) (length (b ∷ bs) + 1) (p + length (b ∷ bs)) (with_first first rest) (omega linear)
    (spread_first first (length cs + 1) (p + length (b ∷ bs)) rest (omega linear)
    (subst (λ (n : ℕ). Spread (length cs + 1) n rest) end (again (p + f.size) cs (omega linear))))

spread_if : (t : Bool) (k n : ℕ) (a b : Scanned) → Spread k n a → Spread k n b → Spread k n (cond t a b)
spread_if true k n a b x y = x
spread_if false k n a b x y = y

spread_from : (n p : ℕ) (bs : List ℕ) → Spread (length bs + 1) (p + length bs) (scan_from n p bs)
unfolding scan_from
spread_from zero p bs = (omega linear, (omega linear, tt))
spread_from (suc n) p [] = (omega linear, (omega linear, tt))
spread_from (suc n) p (b ∷ bs) =
    let end : p + 1 + length bs ≡ p + length (b ∷ bs) = omega linear in
    spread_if (is_blank b) (length (b ∷ bs) + 1) (p + length (b ∷ bs)) (scan_from n (p + 1) bs)
    (past (token_at (b ∷ bs)) (λ q cs. scan_from n q cs) p (b ∷ bs))
    (spread_more (length bs + 1) (length (b ∷ bs) + 1) (p + length (b ∷ bs)) (scan_from n (p + 1) bs) (omega linear)
    (subst (λ (m : ℕ). Spread (length bs + 1) m (scan_from n (p + 1) bs)) end (spread_from n (p + 1) bs)))
    (spread_past (token_at (b ∷ bs)) (λ q cs. scan_from n q cs) p b bs (token_within b bs) (token_size b bs)
    (λ q cs l. spread_from n q cs))

pub scan_spread : (bs : List ℕ) (ls : List Lexeme) → scan bs ≡ lexemes ls
    → (length ls ≤ length bs + 1) × UpTo (length bs) ls
unfolding scan
scan_spread bs ls e =
    let h = subst (λ r. Spread (length bs + 1) (0 + length bs) r) e (spread_from (length bs) 0 bs) in
    let same : 0 + length bs ≡ length bs = omega linear in
    (h.0, rw same at h.1)

pub placed : (n : ℕ) (ls : List Lexeme) → n < nowhere → UpTo n ls → Placed ls
placed n [] l h = tt
placed n (m ∷ ls) l h = let i = h.0 in (omega linear, placed n ls l h.1)
