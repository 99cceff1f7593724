-- 41, "at the first token that no text of the grammar .. could have there", said of texts: tokens begin those of some derivation
-- exactly where they begin those of a text, in bytes, that has one (`begins_text`).
-- Argument: every run of tokens before the end is that of a text, with a blank after each (`written`, by `TokenSpelling`); in a derivation
-- the end stands last only (`inside`). Assumes nothing.
use Rattle.std.specs.Prelude.{ℕ, ◌+◌, ◌≡◌, refl, ◌↔◌, List, [], ◌∷◌, ◌++◌, length}
use Rattle.std.proofs.Common.{sym, ap, ◌∙◌, subst, add-zero, arith as linear, length-append}
use Rattle.std.proofs.Math.Seq.{drop-append_seam}
use Rattle.grammar.specs.Tokens.{end_of_text, Token, closer_word}
use Rattle.grammar.specs.Scanning.{Lexeme, tokens_of}
use Rattle.grammar.specs.Covers.{Covers, nothing, blank, token, ScannedAs}
use Rattle.grammar.specs.Productions.{Nonterminal, script, statements, statement, implication, disjunction, conjunction, negation, comparison, sum, product, negative, operand, Derives, whole, last_statement, in_order, skips, assigns, asserts, chooses, loops, to_implication, implies, to_disjunction, or, to_conjunction, and, to_negation, not, compares, a_true, a_false, formula_group, to_sum, plus, minus, to_product, times, divides, remains, to_negative, negates, a_numeral, a_variable, a_mark, a_when, expression_group}
use Rattle.grammar.specs.Grammar.{Phrase}
use Rattle.grammar.specs.Text.{Spells}
use Rattle.grammar.specs.Derivations.{derives_exactly}
use Rattle.grammar.specs.TextViable.{Begins}
use Rattle.text_claims.specs.Reading.{Reading}
use Rattle.text_claims.specs.TokenSpelling.{spelling, BeforeEnd, begins}

-- ---- tokens, written with a blank after each

data AllBefore : List Token → Type 0 where
  none : AllBefore []
  first : {t : Token} {ts : List Token} → BeforeEnd t → AllBefore ts → AllBefore (t ∷ ts)

abbrev bytes_of : List Token → List ℕ
bytes_of [] = []
bytes_of (t ∷ ts) = spelling t ++ (32 ∷ bytes_of ts)

abbrev lexemes_from : ℕ → List Token → List Lexeme
lexemes_from p [] = []
lexemes_from p (t ∷ ts) = record { token = t; place = p } ∷ lexemes_from (p + length (spelling t) + 1) ts

covers_from : (ts : List Token) → AllBefore ts → (p q : ℕ) → q ≡ p + length (bytes_of ts) → Covers q [] p (bytes_of ts) (lexemes_from p ts)
covers_from [] none p q e = subst (λ k. Covers q [] k [] []) (e ∙ add-zero p) nothing
covers_from (t ∷ ts) (first b h) p q e =
    let w = spelling t in
    let rest = bytes_of ts in
    let far : q ≡ p + length w + 1 + length rest = omega (linear, e, length-append w (32 ∷ rest)) in
    token (begins t b rest)
    (subst (λ bs. Covers q [] (p + length w) bs (lexemes_from (p + length w + 1) ts)) (sym (drop-append_seam w (32 ∷ rest)))
    (blank {b = 32} refl (covers_from ts h (p + length w + 1) q far)))

tokens_are : (ts : List Token) (p : ℕ) (l : Lexeme) → tokens_of (lexemes_from p ts ++ (l ∷ [])) ≡ ts ++ (l.token ∷ [])
tokens_are [] p l = refl
tokens_are (t ∷ ts) p l = ap (λ (us : List Token). t ∷ us) (tokens_are ts (p + length (spelling t) + 1) l)

-- a text of the tokens
abbrev TextOf : List Token → Type 0
TextOf ks = (bs : List ℕ) × (ls : List Lexeme) × ScannedAs bs ls × (tokens_of ls ≡ ks)

written : (ts : List Token) → AllBefore ts → TextOf (ts ++ (closer_word end_of_text ∷ []))
written ts h =
    let bs = bytes_of ts in
    let last : Lexeme = record { token = closer_word end_of_text; place = length bs } in (
      bs,
      lexemes_from 0 ts ++ (last ∷ []),
      record { tokens = lexemes_from 0 ts; covers = covers_from ts h 0 (length bs) (omega linear); ends = refl },
      tokens_are ts 0 last,
    )

-- ---- in a derivation the end stands last only

all_append : {us vs : List Token} → AllBefore us → AllBefore vs → AllBefore (us ++ vs)
all_append none k = k
all_append (first b h) k = first b (all_append h k)

abbrev Inner : Nonterminal → Type 0
Inner script = ⊥
Inner statements = Unit {0}
Inner statement = Unit {0}
Inner implication = Unit {0}
Inner disjunction = Unit {0}
Inner conjunction = Unit {0}
Inner negation = Unit {0}
Inner comparison = Unit {0}
Inner sum = Unit {0}
Inner product = Unit {0}
Inner negative = Unit {0}
Inner operand = Unit {0}

inside : {n : Nonterminal} {ts : List Token} → Derives n ts → Inner n → AllBefore ts
inside (whole d e f) h = absurd h
inside (last_statement d) h = inside d tt
inside (in_order d e) h = all_append (inside d tt) (first tt (inside e tt))
inside skips h = first tt none
inside (assigns v d) h = first tt (first tt (inside d tt))
inside (asserts d) h = first tt (inside d tt)
inside (chooses d e f) h =
    all_append (all_append (all_append (first tt (inside d tt)) (first tt (inside e tt))) (first tt (inside f tt))) (first tt none)
inside (loops d e f g) h =
    all_append
    (all_append (all_append (all_append (first tt (inside d tt)) (first tt (inside e tt))) (first tt (inside f tt))) (first tt (inside g tt)))
    (first tt none)
inside (to_implication d) h = inside d tt
inside (implies d e) h = all_append (inside d tt) (first tt (inside e tt))
inside (to_disjunction d) h = inside d tt
inside (or d e) h = all_append (inside d tt) (first tt (inside e tt))
inside (to_conjunction d) h = inside d tt
inside (and d e) h = all_append (inside d tt) (first tt (inside e tt))
inside (to_negation d) h = inside d tt
inside (not d) h = first tt (inside d tt)
inside (compares r d e) h = all_append (inside d tt) (first tt (inside e tt))
inside a_true h = first tt none
inside a_false h = first tt none
inside (formula_group d) h = all_append (first tt (inside d tt)) (first tt none)
inside (to_sum d) h = inside d tt
inside (plus d e) h = all_append (inside d tt) (first tt (inside e tt))
inside (minus d e) h = all_append (inside d tt) (first tt (inside e tt))
inside (to_product d) h = inside d tt
inside (times d e) h = all_append (inside d tt) (first tt (inside e tt))
inside (divides d e) h = all_append (inside d tt) (first tt (inside e tt))
inside (remains d e) h = all_append (inside d tt) (first tt (inside e tt))
inside (to_negative d) h = inside d tt
inside (negates d) h = first tt (inside d tt)
inside (a_numeral n) h = first tt none
inside (a_variable v) h = first tt none
inside (a_mark k) h = first tt (first tt (first tt (first tt none)))
inside (a_when d e f) h =
    all_append (all_append (all_append (first tt (first tt (inside d tt))) (first tt (inside e tt))) (first tt (inside f tt))) (first tt none)
inside (expression_group d) h = all_append (first tt (inside d tt)) (first tt none)

derivation_written : {ks : List Token} → Derives script ks → TextOf ks
derivation_written (whole d e f) =
    written _ (all_append (all_append (first tt (inside d tt)) (first tt (inside e tt))) (first tt (first tt (inside f tt))))

-- ---- so tokens that begin a derivation's begin a text's

pub begins_text : (ts : List Token)
    → Begins ts ↔ ((bs : List ℕ) × (x : Phrase) × (r : Reading bs x) × (us : List Token) × (tokens_of r.found ≡ ts ++ us))
begins_text ts = (there, back)
  where
    there : Begins ts → (bs : List ℕ) × (x : Phrase) × (r : Reading bs x) × (us : List Token) × (tokens_of r.found ≡ ts ++ us)
    there b =
        let w = derivation_written ((derives_exactly (ts ++ b.then)).1 (b.of, b.spells)) in
        let spells = subst (λ (ks : List Token). Spells b.of ks) (sym w.3) b.spells in
        (w.0, b.of, record { found = w.1; covered = w.2; spells = spells }, b.then, w.3)

    back : (bs : List ℕ) × (x : Phrase) × (r : Reading bs x) × (us : List Token) × (tokens_of r.found ≡ ts ++ us) → Begins ts
    back h = record { then = h.3; of = h.1; spells = subst (λ (ks : List Token). Spells h.1 ks) h.4 h.2.spells }
