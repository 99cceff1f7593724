-- At the front of bytes one token begins at most, and its length is settled too (`one_token`). Where a blank stands
-- none begins (`blank_begins_none`).
-- Argument: the longest piece is one, and bytes spell one token at most (`one_spelling`): from a digit on a numeral,
-- from v and a digit on a variable, and else one of the keywords and symbols, no two of which have the same bytes
-- (computed tests). Assumes nothing.
use Rattle.std.specs.Prelude.{ℕ, zero, suc, ◌≤◌, ◌≡◌, refl, List, [], ◌∷◌, ◌++◌, Bool, true, false, cond, not, ◌&&◌, ◌||◌, eqb, take}
use Rattle.std.proofs.Common.{sym, ap, subst, ◌∙◌, inl, inr, arith as linear, eqb-true}
use Rattle.std.proofs.Math.Option.{Option, none, some}
use Rattle.std.proofs.lemmas.Bool.{not-true}
use Rattle.grammar.specs.Tests.{false_is_not}
use Rattle.theorems.specs.Options.{some_inj}
use Rattle.grammar.specs.Tokens.{Token, numeral, variable}
use Rattle.grammar.specs.Scanning.{is_blank, is_digit, number, same_bytes, Spelling, keywords, symbols}
use Rattle.grammar.specs.Pieces.{Listed, Piece, digits, word, symbol, SpelledBy, as_numeral, as_variable, as_keyword, as_symbol, TokenBegins}
use Rattle.grammar.specs.Tests.{both}
use Rattle.grammar.specs.Fronts.{either, digit_range, letter_range, same_refl, same_true}
use Rattle.grammar.specs.Longest.{one_longest, begins_some}

-- ---- keywords and symbols

abbrev pub spellings : List Spelling
spellings = keywords ++ symbols

abbrev every : (List ℕ → Bool) → List Spelling → Bool
every test [] = true
every test (s ∷ ss) = test s.bytes && every test ss

listed_every : (test : List ℕ → Bool) (ss : List Spelling) (t : Token) (w : List ℕ) → every test ss ≡ true
    → Listed ss t w → test w ≡ true
listed_every test [] t w e l = absurd l
listed_every test (s ∷ ss) t w e (inl h) =
    subst (λ v. test v ≡ true) h.1 (both (test s.bytes) (every test ss) e).0
listed_every test (s ∷ ss) t w e (inr l) = listed_every test ss t w (both (test s.bytes) (every test ss) e).1 l

keyword_listed : (ss rs : List Spelling) (t : Token) (w : List ℕ) → Listed ss t w → Listed (ss ++ rs) t w
keyword_listed [] rs t w l = absurd l
keyword_listed (s ∷ ss) rs t w (inl h) = inl h
keyword_listed (s ∷ ss) rs t w (inr l) = inr (keyword_listed ss rs t w l)

symbol_listed : (ss rs : List Spelling) (t : Token) (w : List ℕ) → Listed rs t w → Listed (ss ++ rs) t w
symbol_listed [] rs t w l = l
symbol_listed (s ∷ ss) rs t w l = inr (symbol_listed ss rs t w l)

-- ---- no two have the same bytes

abbrev is_in : List ℕ → List Spelling → Bool
is_in w [] = false
is_in w (s ∷ ss) = same_bytes s.bytes w || is_in w ss

abbrev distinct : List Spelling → Bool
distinct [] = true
distinct (s ∷ ss) = not (is_in s.bytes ss) && distinct ss

or_later : (a b : Bool) → b ≡ true → (a || b) ≡ true
or_later true b e = refl
or_later false b e = e

listed_in : (ss : List Spelling) (t : Token) (w : List ℕ) → Listed ss t w → is_in w ss ≡ true
listed_in [] t w l = absurd l
listed_in (s ∷ ss) t w (inl h) = rw (h.1, same_refl w)
listed_in (s ∷ ss) t w (inr l) = or_later (same_bytes s.bytes w) (is_in w ss) (listed_in ss t w l)

-- the token of the first that is w
abbrev pub listed_token : List Spelling → List ℕ → Option Token
listed_token [] w = none
listed_token (s ∷ ss) w = cond (same_bytes s.bytes w) (some s.token) (listed_token ss w)

listed_first : (ss : List Spelling) (t : Token) (w : List ℕ) → distinct ss ≡ true → Listed ss t w
    → listed_token ss w ≡ some t
listed_first [] t w e l = absurd l
listed_first (s ∷ ss) t w e (inl h) = rw (h.1, same_refl w) (ap some h.0)
listed_first (s ∷ ss) t w e (inr l) =
    let d = both (not (is_in s.bytes ss)) (distinct ss) e in
    at_test (same_bytes s.bytes w) refl (not-true (is_in s.bytes ss) d.0) (listed_first ss t w d.1 l)
  where
    at_test : (k : Bool) → same_bytes s.bytes w ≡ k → is_in s.bytes ss ≡ false → listed_token ss w ≡ some t
        → cond k (some s.token) (listed_token ss w) ≡ some t
    at_test true q new again =
        let same = ap (λ v. is_in v ss) (same_true s.bytes w q) in
        false_is_not (sym new ∙ same ∙ listed_in ss t w l)
    at_test false q new again = again

-- ---- the token that bytes spell

abbrev pub digit_first : List ℕ → Bool
digit_first [] = false
digit_first (b ∷ bs) = is_digit b

abbrev pub meant : List ℕ → Option Token
meant [] = none
meant (b ∷ w) =
    cond (is_digit b) (some (numeral (number (b ∷ w))))
    (cond (eqb b 118 && digit_first w) (some (variable (number w))) (listed_token spellings (b ∷ w)))

-- neither a digit nor v and a digit stand first
abbrev no_number : List ℕ → Bool
no_number [] = false
no_number (b ∷ w) = not (is_digit b) && not (eqb b 118 && digit_first w)

listed_meant : (t : Token) (w : List ℕ) → Listed spellings t w → meant w ≡ some t
listed_meant t [] l = false_is_not (listed_every no_number spellings t [] refl l)
listed_meant t (b ∷ w) l =
    let first = listed_every no_number spellings t (b ∷ w) refl l in
    let h = both (not (is_digit b)) (not (eqb b 118 && digit_first w)) first in
    rw (not-true (is_digit b) h.0, not-true (eqb b 118 && digit_first w) h.1)
    (listed_first spellings t (b ∷ w) refl l)

variable_meant : (t : Token) (ds : List ℕ) → digit_first ds ≡ true → variable (number ds) ≡ t → meant (118 ∷ ds) ≡ some t
variable_meant t ds d q = rw d (ap some q)

pub spelled_meant : (w : List ℕ) (t : Token) → SpelledBy w t → meant w ≡ some t
spelled_meant [] t (as_numeral d q) = absurd d
spelled_meant (b ∷ w) t (as_numeral d q) = rw d.0 (ap some q)
spelled_meant w t (as_variable [] d i q) = absurd d
spelled_meant w t (as_variable (c ∷ ds) d i q) =
    subst (λ v. meant v ≡ some t) i (variable_meant t (c ∷ ds) d.0 q)
spelled_meant w t (as_keyword l) = listed_meant t w (keyword_listed keywords symbols t w l)
spelled_meant w t (as_symbol l) = listed_meant t w (symbol_listed keywords symbols t w l)

pub one_spelling : (w : List ℕ) (t u : Token) → SpelledBy w t → SpelledBy w u → t ≡ u
one_spelling w t u h k = some_inj (sym (spelled_meant w t h) ∙ spelled_meant w u k)

-- ---- the token at the front

pub one_token : {bs : List ℕ} {t u : Token} {n m : ℕ} → TokenBegins bs t n → TokenBegins bs u m → (t ≡ u) × (n ≡ m)
one_token {bs} {t} {u} {n} {m} h k =
    let size = one_longest h.longest k.longest in
    (one_spelling (take m bs) t u (subst (λ i. SpelledBy (take i bs) t) size h.spells) k.spells, size)

blank_range : (b : ℕ) → is_blank b ≡ true → b ≤ 32
blank_range b e =
    either (eqb b 32 || eqb b 9 || eqb b 13) (eqb b 10) e
    (λ f. either (eqb b 32 || eqb b 9) (eqb b 13) f
    (λ g. either (eqb b 32) (eqb b 9) g (λ h. omega (linear, eqb-true b 32 h)) (λ h. omega (linear, eqb-true b 9 h)))
    (λ h. omega (linear, eqb-true b 13 h)))
    (λ h. omega (linear, eqb-true b 10 h))

abbrev no_blank_first : List ℕ → Bool
no_blank_first [] = false
no_blank_first (b ∷ w) = not (is_blank b)

piece_no_blank : (b : ℕ) (w : List ℕ) → is_blank b ≡ true → Piece (b ∷ w) → ⊥
piece_no_blank b w e (digits h) = omega (linear, blank_range b e, digit_range b h.0)
piece_no_blank b w e (word h) = omega (linear, blank_range b e, letter_range b h.0)
piece_no_blank b w e (symbol t l) =
    false_is_not (sym (not-true (is_blank b) (listed_every no_blank_first symbols t (b ∷ w) refl l)) ∙ e)

pub blank_begins_none : {b : ℕ} {bs : List ℕ} {t : Token} (n : ℕ) → is_blank b ≡ true → TokenBegins (b ∷ bs) t n → ⊥
blank_begins_none zero e h = omega (linear, begins_some h)
blank_begins_none {b} {bs} (suc n) e h = piece_no_blank b (take n bs) e h.longest.piece
