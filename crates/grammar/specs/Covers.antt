-- What a scan gives, said of the bytes alone. Tokens and blanks, one after the other, cover the text: each token stands
-- at its place and is the longest that begins there (`TokenBegins`, in Pieces), and only blanks lie between tokens and
-- after the last. A scan that gives tokens covers the whole text (`scan_reads`). One that gives a place covers the text
-- up to there, and what stands there is no blank and begins no token (`scan_stops`). The other way round is in
-- `CoversOnce`. Assumes nothing.
use Rattle.std.specs.Prelude.{ℕ, zero, suc, ◌+◌, ◌-◌, ◌≤◌, ◌<◌, ◌≡◌, refl, List, [], ◌∷◌, ◌++◌, Bool, true, false, cond, length, get_or, drop}
use Rattle.std.proofs.Common.{ap, subst, ◌∙◌, add-zero, arith as linear, length-drop, drop-drop, get_or-drop}
use Rattle.std.proofs.Math.Option.{Option, none, some}
use Rattle.grammar.specs.Tokens.{Token, closer_word, end_of_text}
use Rattle.grammar.specs.Scanning.{is_blank, Found, token_at, Lexeme, Scanned, no_token, lexemes, with_first, past, scan_from, scan}
use Rattle.grammar.specs.Pieces.{TokenBegins}
use Rattle.grammar.specs.Longest.{Begun, begun, begins_some}

-- from place p, where bs stands, these tokens and blanks lead to place q, where cs stands
pub data Covers (q : ℕ) (cs : List ℕ) : ℕ → List ℕ → List Lexeme → Type 0 where
  nothing : Covers q cs q cs []
  blank : {p b : ℕ} {bs : List ℕ} {ls : List Lexeme} → is_blank b ≡ true → Covers q cs (p + 1) bs ls
      → Covers q cs p (b ∷ bs) ls
  token : {p n : ℕ} {bs : List ℕ} {t : Token} {ls : List Lexeme} → TokenBegins bs t n → Covers q cs (p + n) (drop n bs) ls
      → Covers q cs p bs (record { token = t; place = p } ∷ ls)

-- ---- the law

-- the whole text is covered, and the end of the text is the last token
pub record ScannedAs (bs : List ℕ) (ls : List Lexeme) : Type 0 where
  pub tokens : List Lexeme
  pub covers : Covers (length bs) [] 0 bs tokens
  pub ends : ls ≡ tokens ++ (record { token = closer_word end_of_text; place = length bs } ∷ [])

-- the text is covered up to place p, where a byte stands that is no blank and begins no token
pub record Stopped (bs : List ℕ) (p : ℕ) : Type 0 where
  pub tokens : List Lexeme
  pub covers : Covers p (drop p bs) 0 bs tokens
  pub within : p < length bs
  pub no_blank : is_blank (get_or bs p 0) ≡ false
  pub no_token : (t : Token) (n : ℕ) → TokenBegins (drop p bs) t n → ⊥

-- ---- its proof, from any place on

record Reads (p : ℕ) (bs : List ℕ) (ls : List Lexeme) : Type 0 where
  end : ℕ
  tokens : List Lexeme
  covers : Covers end [] p bs tokens
  ends : ls ≡ tokens ++ (record { token = closer_word end_of_text; place = end } ∷ [])

record Halts (p : ℕ) (bs : List ℕ) (q : ℕ) : Type 0 where
  tokens : List Lexeme
  byte : ℕ
  rest : List ℕ
  covers : Covers q (byte ∷ rest) p bs tokens
  no_blank : is_blank byte ≡ false
  no_token : (t : Token) (n : ℕ) → TokenBegins (byte ∷ rest) t n → ⊥

abbrev Covered : ℕ → List ℕ → Scanned → Type 0
Covered p bs (no_token q) = Halts p bs q
Covered p bs (lexemes ls) = Reads p bs ls

after_blank : (p b : ℕ) (bs : List ℕ) (r : Scanned) → is_blank b ≡ true → Covered (p + 1) bs r → Covered p (b ∷ bs) r
after_blank p b bs (no_token q) e h =
    record {
      tokens = h.tokens;
      byte = h.byte;
      rest = h.rest;
      covers = blank e h.covers;
      no_blank = h.no_blank;
      no_token = h.no_token;
    }
after_blank p b bs (lexemes ls) e h =
    record { end = h.end; tokens = h.tokens; covers = blank e h.covers; ends = h.ends }

after_token : (p n : ℕ) (bs : List ℕ) (t : Token) (r : Scanned) → TokenBegins bs t n → Covered (p + n) (drop n bs) r
    → Covered p bs (with_first (record { token = t; place = p }) r)
after_token p n bs t (no_token q) e h =
    record {
      tokens = record { token = t; place = p } ∷ h.tokens;
      byte = h.byte;
      rest = h.rest;
      covers = token e h.covers;
      no_blank = h.no_blank;
      no_token = h.no_token;
    }
after_token p n bs t (lexemes ls) e h =
    record {
      end = h.end;
      tokens = record { token = t; place = p } ∷ h.tokens;
      covers = token e h.covers;
      ends = ap (λ (l : List Lexeme). record { token = t; place = p } ∷ l) h.ends;
    }

after_none : (p b : ℕ) (bs : List ℕ) (o : Option Found) (go : ℕ → List ℕ → Scanned) → is_blank b ≡ false
    → Begun (b ∷ bs) o → ((q : ℕ) (cs : List ℕ) → length cs ≤ length bs → Covered q cs (go q cs))
    → Covered p (b ∷ bs) (past o go p (b ∷ bs))
after_none p b bs none go e h on =
    record { tokens = []; byte = b; rest = bs; covers = nothing; no_blank = e; no_token = h }
after_none p b bs (some f) go e h on =
    let cs = drop f.size (b ∷ bs) in
    after_token p f.size (b ∷ bs) f.token (go (p + f.size) cs) h
    (on (p + f.size) cs (omega (linear, begins_some h, length-drop f.size (b ∷ bs))))

covered : (n p : ℕ) (bs : List ℕ) → length bs ≤ n → Covered p bs (scan_from n p bs)
unfolding scan_from
covered zero p [] h = record { end = p; tokens = []; covers = nothing; ends = refl }
covered zero p (b ∷ bs) h = absurd (omega linear)
covered (suc n) p [] h = record { end = p; tokens = []; covers = nothing; ends = refl }
covered (suc n) p (b ∷ bs) h =
    by_test (is_blank b) refl (covered n (p + 1) bs (omega linear)) (λ q cs l. covered n q cs (omega linear))
  where
    by_test : (k : Bool) → is_blank b ≡ k → Covered (p + 1) bs (scan_from n (p + 1) bs)
        → ((q : ℕ) (cs : List ℕ) → length cs ≤ length bs → Covered q cs (scan_from n q cs))
        → Covered p (b ∷ bs)
        (cond k (scan_from n (p + 1) bs) (past (token_at (b ∷ bs)) (λ q cs. scan_from n q cs) p (b ∷ bs)))
    by_test true e h on = after_blank p b bs (scan_from n (p + 1) bs) e h
    by_test false e h on = after_none p b bs (token_at (b ∷ bs)) (λ q cs. scan_from n q cs) e (begun (b ∷ bs)) on

-- what stands at the place that is reached
reached : {q : ℕ} {cs : List ℕ} {p : ℕ} {bs : List ℕ} {ls : List Lexeme} → Covers q cs p bs ls
    → (p ≤ q) × (q + length cs ≡ p + length bs) × (cs ≡ drop (q - p) bs)
reached {q} {cs} nothing =
    let none : q - q ≡ 0 = omega linear in
    (omega linear, refl, rw none)
reached {q} {cs} (blank {p = p} {b = b} {bs = bs} e h) =
    let r = reached h in
    let one : q - p ≡ suc (q - (p + 1)) = omega linear in
    (omega linear, omega linear, rw one r.2)
reached {q} {cs} (token {p = p} {n = n} {bs = bs} e h) =
    let r = reached h in
    let all : n + (q - (p + n)) ≡ q - p = omega linear in
    let there = r.2 ∙ drop-drop (q - (p + n)) n bs ∙ ap (λ k. drop k bs) all in
    (omega linear, omega (linear, length-drop n bs, e.longest.within), there)

whole : (bs : List ℕ) (ls : List Lexeme) → Reads 0 bs ls → ScannedAs bs ls
whole bs ls h =
    let last : h.end ≡ length bs = omega (linear, (reached h.covers).1) in
    record {
      tokens = h.tokens;
      covers = subst (λ q. Covers q [] 0 bs h.tokens) last h.covers;
      ends = rw (← last) h.ends;
    }

partly : (bs : List ℕ) (p : ℕ) → Halts 0 bs p → Stopped bs p
partly bs p h =
    let r = reached h.covers in
    let place : p - 0 ≡ p = omega linear in
    let here : h.byte ∷ h.rest ≡ drop p bs = r.2 ∙ ap (λ k. drop k bs) place in
    let first = ap (λ cs. get_or cs 0 0) here ∙ get_or-drop p bs 0 0 ∙ ap (λ k. get_or bs k 0) (add-zero p) in
    record {
      tokens = h.tokens;
      covers = subst (λ cs. Covers p cs 0 bs h.tokens) here h.covers;
      within = omega linear;
      no_blank = rw (← first) h.no_blank;
      no_token = rw (← here) h.no_token;
    }

pub scan_reads : (bs : List ℕ) (ls : List Lexeme) → scan bs ≡ lexemes ls → ScannedAs bs ls
unfolding scan
scan_reads bs ls e = whole bs ls (subst (Covered 0 bs) e (covered (length bs) 0 bs (omega linear)))

pub scan_stops : (bs : List ℕ) (p : ℕ) → scan bs ≡ no_token p → Stopped bs p
unfolding scan
scan_stops bs p e = partly bs p (subst (Covered 0 bs) e (covered (length bs) 0 bs (omega linear)))
