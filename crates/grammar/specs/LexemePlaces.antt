-- The tokens that cover a text, with the bytes at their places: each begins there, but for the end of the text
-- (`placed`), and the places rise (`places_rise`). Assumes nothing.
use Rattle.std.specs.Prelude.{ℕ, zero, suc, ◌≤◌, ◌≡◌, refl, ◌⊎◌, List, [], ◌∷◌, ◌++◌, length, drop}
use Rattle.std.proofs.Common.{sym, ap, subst, ◌∙◌, inl, inr, arith as linear, drop-drop}
use Rattle.std.proofs.Math.Option.{some}
use Rattle.std.proofs.Math.ListN.{get_elem?}
use Rattle.theorems.specs.Options.{none_is_not, some_inj}
use Rattle.grammar.specs.Tokens.{Token, closer_word, end_of_text}
use Rattle.grammar.specs.Scanning.{Lexeme}
use Rattle.grammar.specs.Pieces.{TokenBegins}
use Rattle.grammar.specs.Covers.{Covers, nothing, blank, token, ScannedAs}

-- the token begins at its place
abbrev pub Stands : List ℕ → Lexeme → Type 0
Stands bytes l = (n : ℕ) × TokenBegins (drop l.place bytes) l.token n

abbrev pub the_end : List ℕ → Lexeme
the_end bytes = record { token = closer_word end_of_text; place = length bytes }

-- from p on, no place is before the one that it follows
abbrev pub Rising : ℕ → List Lexeme → Type 0
Rising p [] = Unit {0}
Rising p (l ∷ ls) = (p ≤ l.place) × Rising l.place ls

-- ---- each begins at its place

module _ (bytes : List ℕ) (end : Lexeme) where
  stands : {q : ℕ} {cs : List ℕ} {p : ℕ} {bs : List ℕ} {ls : List Lexeme} → Covers q cs p bs ls → bs ≡ drop p bytes
      → (i : ℕ) (l : Lexeme) → get_elem? (ls ++ (end ∷ [])) i ≡ some l → Stands bytes l ⊎ (end ≡ l)
  stands nothing here zero l e = inr (some_inj e)
  stands nothing here (suc i) l e = none_is_not e
  stands (blank {p = p} b h) here i l e = stands h (ap (drop 1) here ∙ drop-drop 1 p bytes) i l e
  stands (token {p = p} {n = n} {t = t} b h) here zero l e =
      inl (subst (Stands bytes) (some_inj e) (n, subst (λ cs. TokenBegins cs t n) here b))
  stands (token {p = p} {n = n} b h) here (suc i) l e = stands h (ap (drop n) here ∙ drop-drop n p bytes) i l e

pub placed : (bytes : List ℕ) (ls : List Lexeme) → ScannedAs bytes ls → (i : ℕ) (l : Lexeme) → get_elem? ls i ≡ some l
    → Stands bytes l ⊎ (the_end bytes ≡ l)
placed bytes ls h i l e =
    stands bytes (the_end bytes) h.covers refl i l (subst (λ (ms : List Lexeme). get_elem? ms i ≡ some l) h.ends e)

-- ---- the places rise

pub rising_from : {p q : ℕ} (ls : List Lexeme) → p ≤ q → Rising q ls → Rising p ls
rising_from [] l h = tt
rising_from (m ∷ ls) l h = (omega (linear, h.0), h.1)

pub rising_at : {p : ℕ} (ls : List Lexeme) → Rising p ls → (i : ℕ) (l : Lexeme) → get_elem? ls i ≡ some l → p ≤ l.place
rising_at [] h i l e = none_is_not e
rising_at {p} (m ∷ ls) h zero l e = subst (λ (k : Lexeme). p ≤ k.place) (some_inj e) h.0
rising_at (m ∷ ls) h (suc i) l e = omega (linear, h.0, rising_at ls h.1 i l e)

covers_rise : {q : ℕ} {cs : List ℕ} {p : ℕ} {bs : List ℕ} {ls : List Lexeme} (t : Token) → Covers q cs p bs ls
    → Rising p (ls ++ (record { token = t; place = q } ∷ []))
covers_rise t nothing = (omega linear, tt)
covers_rise {q} t (blank {ls = ls} b h) =
    rising_from (ls ++ (record { token = t; place = q } ∷ [])) (omega linear) (covers_rise t h)
covers_rise {q} t (token {ls = ls} b h) =
    (omega linear, rising_from (ls ++ (record { token = t; place = q } ∷ [])) (omega linear) (covers_rise t h))

pub places_rise : (bytes : List ℕ) (ls : List Lexeme) → ScannedAs bytes ls → Rising 0 ls
places_rise bytes ls h = subst (Rising 0) (sym h.ends) (covers_rise (closer_word end_of_text) h.covers)
