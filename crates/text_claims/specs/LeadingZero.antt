-- "or with a leading zero": a text that has a derivation, and at the place of one of its tokens 0 and a further digit, or
-- v, 0 and a further digit, is refused with 42, at that place or before it, whatever the room (`zero_led_refused`). So it
-- gets no 43 and is not read: its numbers are not all in range (`zero_led_not_in_range`).
-- Argument: such a token is the numeral or variable 4294967295 (`zero_led_token`), and a token whose flag is true is
-- within the bounds of `Bounds`. Assumes nothing.
use Rattle.std.specs.Prelude.{ℕ, zero, suc, ◌+◌, ◌≤◌, ◌≡◌, refl, List, [], ◌∷◌, Bool, true, false, cond, length, drop}
use Rattle.std.proofs.Common.{sym, ap, subst, ◌∙◌, ⊎_elim, arith as linear}
use Rattle.std.proofs.Math.Option.{Option, some}
use Rattle.std.proofs.Math.ListN.{get_elem?}
use Rattle.std.proofs.Math.Seq.{drop-length}
use Rattle.theorems.specs.Options.{none_is_not, some_inj, went_on}
use Rattle.grammar.specs.Grammar.{Phrase}
use Rattle.grammar.specs.Tokens.{Token, numeral, variable}
use Rattle.grammar.specs.States.{after, State, at, start}
use Rattle.grammar.specs.Reader.{take, read}
use Rattle.grammar.specs.TextRead.{text_read}
use Rattle.grammar.specs.Scanning.{Lexeme, tokens_of}
use Rattle.grammar.specs.Covers.{ScannedAs}
use Rattle.grammar.specs.LexemePlaces.{Stands, Rising, placed, rising_at, places_rise}
use Rattle.grammar.specs.ZeroLed.{ZeroLed, zero_led_some, zero_led_token}
use Rattle.grammar.specs.Ranges.{flag, all_of}
use Rattle.grammar.specs.AllLaws.{all_true}
use Rattle.grammar.specs.Outcome.{refused, out_of_range, outcome}
use Rattle.text_claims.specs.Reading.{Reading, Short, InRange}
use Rattle.text_claims.specs.Ranges.{out_exactly, none_out}
use Rattle.text_claims.specs.OpenBodies.{open_bodies, opens_one}
use Rattle.text_claims.specs.Bounds.{Within, flag_within, few_open}
use Rattle.text_claims.specs.Exactly.{read_exactly}

-- ---- such a token is out of bounds

numeral_out : (t : Token) → t ≡ numeral 4294967295 → ¬ Within t
numeral_out t e h = let k : Within (numeral 4294967295) = subst Within e h in omega linear

variable_out : (t : Token) → t ≡ variable 4294967295 → ¬ Within t
variable_out t e h = let k : Within (variable 4294967295) = subst Within e h in omega linear

zero_led_out : (bytes : List ℕ) (ls : List Lexeme) → ScannedAs bytes ls → (i : ℕ) (l : Lexeme) → get_elem? ls i ≡ some l
    → ZeroLed (drop l.place bytes) → ¬ Within l.token
zero_led_out bytes ls h i l e z =
    ⊎_elim stands (λ last. absurd (at_end (subst (λ (m : Lexeme). ZeroLed (drop m.place bytes)) (sym last) z)))
    (placed bytes ls h i l e)
  where
    stands : Stands bytes l → ¬ Within l.token
    stands s = ⊎_elim (numeral_out l.token) (variable_out l.token) (zero_led_token z s.1)

    at_end : ZeroLed (drop (length bytes) bytes) → ⊥
    at_end y = omega (linear, zero_led_some y, ap length (drop-length bytes))

-- ---- the place that is told

-- at l or before it a place is told
abbrev ToldBy : Option ℕ → Lexeme → Type 0
ToldBy o l = (p : ℕ) × (p ≤ l.place) × (o ≡ some p)

told_by : (ls : List Lexeme) (s r : State) (p i : ℕ) (l : Lexeme) → read s (tokens_of ls) ≡ some r
    → open_bodies s + length ls ≤ 2147483648 → Rising p ls
    → get_elem? ls i ≡ some l → ¬ Within l.token → ToldBy (out_of_range s ls) l
unfolding out_of_range read
told_by [] s r p i l e few rising at_i out = none_is_not at_i
told_by (m ∷ ls) s r p i l e few rising at_i out =
    let k = went_on (take s m.token) (λ q. read q (tokens_of ls)) e in
    let q = k.0 in
    let more = opens_one s m.token q k.1 in
    rw k.1
    (at_flag (all_of (flag s.mode s.stack m.token)) refl i at_i q k.1
    (λ j g. told_by ls q r m.place j l k.2 (omega linear) rising.1 g out))
  where
    at_flag : (b : Bool) → all_of (flag s.mode s.stack m.token) ≡ b → (j : ℕ) → get_elem? (m ∷ ls) j ≡ some l
        → (q : State) → take s m.token ≡ some q
        → ((k : ℕ) → get_elem? ls k ≡ some l → ToldBy (out_of_range q ls) l)
        → ToldBy (cond b (out_of_range q ls) (some m.place)) l
    at_flag false f j g q t later =
        (m.place, rising_at {p = m.place} (m ∷ ls) (omega linear, rising.1) j l g, refl)
    at_flag true f zero g q t later =
        let all = all_true (flag s.mode s.stack m.token) f in
        let within = flag_within s.mode s.stack m.token q t (omega linear) all in
        absurd (out (subst (λ (n : Lexeme). Within n.token) (some_inj g) within))
    at_flag true f (suc j) g q t later = later j g

-- ---- a text with a derivation, and a token of it that is so written

module _ (bytes : List ℕ) (short : Short bytes) (x : Phrase) (r : Reading bytes x)
    (i : ℕ) (l : Lexeme) (token : get_elem? r.found i ≡ some l) (written : ZeroLed (drop l.place bytes)) where
  told : ToldBy (out_of_range start r.found) l
  told =
      told_by r.found start (at (after x) []) 0 i l (text_read x (tokens_of r.found) r.spells)
      (few_open bytes short x r) (places_rise bytes r.found r.covered) token
      (zero_led_out bytes r.found r.covered i l token written)

  pub zero_led_refused : (room : ℕ) → (p : ℕ) × (p ≤ l.place) × (outcome room bytes ≡ refused 42 p)
  zero_led_refused room =
      let p = told.0 in
      let first = (out_exactly x r.found r.spells p).0 told.2 in
      let at_p = (read_exactly room bytes).out_of_range_at p in
      (p, told.1, at_p.1 (record { short = short; of = x; reading = r; first = first }))

  pub zero_led_not_in_range : ¬ InRange x
  zero_led_not_in_range h = none_is_not (sym ((none_out x r.found r.spells).1 h) ∙ told.2)
