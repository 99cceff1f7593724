-- Tokens and blanks cover a text in one way (`one_cover`), so the covering of `Covers` settles the scan: it stops at p
-- exactly where the text is covered up to p and no further (`stops_exactly`), and gives tokens exactly where these cover
-- the text (`reads_exactly`). A text that is covered to a stop is not covered whole, and stops nowhere else.
-- Assumes nothing.
use Rattle.std.specs.Prelude.{ℕ, ◌+◌, ◌≡◌, refl, ◌↔◌, List, [], ◌∷◌, ◌++◌, true, length, drop, get_or}
use Rattle.std.proofs.Common.{sym, ap, subst, ◌∙◌, arith as linear, get_or-drop, add-zero}
use Rattle.grammar.specs.Tests.{false_is_not}
use Rattle.grammar.specs.Tokens.{Token, closer_word, end_of_text}
use Rattle.grammar.specs.Scanning.{is_blank, Lexeme, Scanned, no_token, lexemes, scan}
use Rattle.grammar.specs.Pieces.{TokenBegins}
use Rattle.grammar.specs.Longest.{begins_some}
use Rattle.grammar.specs.OneToken.{one_token, blank_begins_none}
use Rattle.grammar.specs.Covers.{Covers, nothing, blank, token, ScannedAs, Stopped, scan_reads, scan_stops}

-- neither a blank nor a token stands at the front
pub record Final (cs : List ℕ) : Type 0 where
  pub no_blank : (b : ℕ) (bs : List ℕ) → b ∷ bs ≡ cs → is_blank b ≡ true → ⊥
  pub no_token : (t : Token) (n : ℕ) → TokenBegins cs t n → ⊥

pub one_cover : {q r : ℕ} {cs ds : List ℕ} {p : ℕ} {bs : List ℕ} {ls ms : List Lexeme} → Final cs → Final ds
    → Covers q cs p bs ls → Covers r ds p bs ms → (q ≡ r) × (ls ≡ ms)
one_cover f g nothing nothing = (refl, refl)
one_cover f g nothing (blank e k) = absurd (f.no_blank _ _ refl e)
one_cover f g nothing (token b k) = absurd (f.no_token _ _ b)
one_cover f g (blank e h) nothing = absurd (g.no_blank _ _ refl e)
one_cover f g (blank e h) (blank d k) = one_cover f g h k
one_cover f g (blank e h) (token {n = n} b k) = absurd (blank_begins_none n e b)
one_cover f g (token b h) nothing = absurd (g.no_token _ _ b)
one_cover f g (token {n = n} b h) (blank e k) = absurd (blank_begins_none n e b)
one_cover {r = r} {ds = ds} f g (token {p = p} {bs = bs} {ls = ls} b h) (token {ls = ms} c k) =
    let one = one_token b c in
    let there = subst (λ n. Covers r ds (p + n) (drop n bs) ms) (sym one.1) k in
    let later = one_cover f g h there in
    (later.0, rw (one.0, later.1))

-- ---- the ends of a covering

at_end : Final []
at_end = record {
  no_blank = λ b bs e d. let z : ◌≡◌ {A = ℕ} 1 0 = cc e in omega linear;
  no_token = λ t n h. omega (linear, begins_some h, h.longest.within);
}

at_stop : (bs : List ℕ) (p : ℕ) → Stopped bs p → Final (drop p bs)
at_stop bs p h = record {
  no_blank = λ b cs e d.
      let first = ap (λ ds. get_or ds 0 0) e ∙ get_or-drop p bs 0 0 ∙ ap (λ k. get_or bs k 0) (add-zero p) in
      false_is_not (sym h.no_blank ∙ ap is_blank (sym first) ∙ d);
  no_token = h.no_token;
}

-- ---- one stop, or one list of tokens

pub one_stop : (bs : List ℕ) (p q : ℕ) → Stopped bs p → Stopped bs q → p ≡ q
one_stop bs p q h k = (one_cover (at_stop bs p h) (at_stop bs q k) h.covers k.covers).0

pub stop_or_end : (bs : List ℕ) (p : ℕ) (ls : List Lexeme) → Stopped bs p → ScannedAs bs ls → ⊥
stop_or_end bs p ls h k =
    omega (linear, h.within, (one_cover (at_stop bs p h) at_end h.covers k.covers).0)

pub one_scan : (bs : List ℕ) (ls ms : List Lexeme) → ScannedAs bs ls → ScannedAs bs ms → ls ≡ ms
one_scan bs ls ms h k =
    let same = (one_cover at_end at_end h.covers k.covers).1 in
    let last : Lexeme = record { token = closer_word end_of_text; place = length bs } in
    h.ends ∙ ap (λ (us : List Lexeme). us ++ (last ∷ [])) same ∙ sym k.ends

-- ---- the scan

stopped_scan : (bs : List ℕ) (p : ℕ) → Stopped bs p → scan bs ≡ no_token p
stopped_scan bs p h = at_test (scan bs) refl
  where
    at_test : (o : Scanned) → scan bs ≡ o → o ≡ no_token p
    at_test (no_token q) e = ap no_token (one_stop bs q p (scan_stops bs q e) h)
    at_test (lexemes ls) e = absurd (stop_or_end bs p ls h (scan_reads bs ls e))

covered_scan : (bs : List ℕ) (ls : List Lexeme) → ScannedAs bs ls → scan bs ≡ lexemes ls
covered_scan bs ls h = at_test (scan bs) refl
  where
    at_test : (o : Scanned) → scan bs ≡ o → o ≡ lexemes ls
    at_test (no_token q) e = absurd (stop_or_end bs q ls (scan_stops bs q e) h)
    at_test (lexemes ms) e = ap lexemes (one_scan bs ms ls (scan_reads bs ms e) h)

pub stops_exactly : (bs : List ℕ) (p : ℕ) → (scan bs ≡ no_token p) ↔ Stopped bs p
stops_exactly bs p = (scan_stops bs p, stopped_scan bs p)

pub reads_exactly : (bs : List ℕ) (ls : List Lexeme) → (scan bs ≡ lexemes ls) ↔ ScannedAs bs ls
reads_exactly bs ls = (scan_reads bs ls, covered_scan bs ls)
