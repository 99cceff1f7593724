-- Number 41 without the reader, both ways: the reader is stuck at p exactly where the tokens before p begin some text
-- and with the token at p they begin none (`stuck_iff`); where a text has a derivation it is stuck nowhere
-- (`derived_not_stuck`). Assumes nothing.
use Rattle.std.specs.Prelude.{ℕ, ◌≡◌, refl, ◌↔◌, List, [], ◌∷◌, ◌++◌}
use Rattle.std.proofs.Common.{sym, ap, ◌∙◌}
use Rattle.std.proofs.Math.Option.{Option, none, some}
use Rattle.script.specs.Listing.{◌>>=◌}
use Rattle.theorems.specs.Options.{went_on}
use Rattle.grammar.specs.Tokens.{Token}
use Rattle.grammar.specs.Scanning.{Lexeme, tokens_of}
use Rattle.grammar.specs.Grammar.{Phrase}
use Rattle.grammar.specs.Text.{Spells}
use Rattle.grammar.specs.States.{after, State, at, start}
use Rattle.grammar.specs.Reader.{take, read}
use Rattle.grammar.specs.Outcome.{or_at, stuck}
use Rattle.grammar.specs.TextRead.{text_read}
use Rattle.grammar.specs.TextViable.{read_append, Begins, text_viable}
use Rattle.grammar.specs.Places.{StuckAt, stuck_exactly}
use Rattle.grammar.specs.Given.{read_not_stuck}

-- what begins a text is taken
taken_state : (ts : List Token) → Begins ts → (s : State) × (read start ts ≡ some s)
taken_state ts b =
    let whole = text_read b.of (ts ++ b.then) b.spells in
    let k = went_on (read start ts) (λ s. read s b.then) (sym (read_append ts b.then start) ∙ whole) in
    (k.0, k.1)

-- past what is taken
stuck_past : (us ls : List Lexeme) (s r : State) → read s (tokens_of us) ≡ some r → stuck s (us ++ ls) ≡ stuck r ls
unfolding read stuck
stuck_past [] ls s r e = ap (λ (o : Option State). or_at o 0 (λ q. stuck q ls)) e
stuck_past (u ∷ us) ls s r e =
    let k = went_on (take s u.token) (λ q. read q (tokens_of us)) e in
    rw k.1 (stuck_past us ls k.0 r k.2)

-- with a token that no text has there it is refused
refused_there : (us : List Token) (t : Token) (s : State) → read start us ≡ some s → (Begins (us ++ (t ∷ [])) → ⊥)
    → take s t ≡ none
unfolding read
refused_there us t s e none-begins = at_test (take s t) refl
  where
    at_test : (o : Option State) → take s t ≡ o → o ≡ none
    at_test none k = refl
    at_test (some r) k =
        let past = ap (λ (o : Option State). o >>= λ q. read q (t ∷ [])) e in
        absurd (none-begins (text_viable (us ++ (t ∷ [])) r (read_append us (t ∷ []) start ∙ past ∙ rw k)))

pub stuck_iff : (ls : List Lexeme) (p : ℕ) → (stuck start ls ≡ some p) ↔ StuckAt ls p
unfolding stuck
stuck_iff ls p = (stuck_exactly ls p, found)
  where
    found : StuckAt ls p → stuck start ls ≡ some p
    found h =
        let s = taken_state (tokens_of h.taken) h.before in
        let stop = refused_there (tokens_of h.taken) h.lexeme.token s.0 s.1 h.after_it in
        ap (λ (ms : List Lexeme). stuck start ms) (sym h.parted)
        ∙ stuck_past h.taken (h.lexeme ∷ h.rest) start s.0 s.1
        ∙ ap (λ (o : Option State). or_at o h.lexeme.place (λ q. stuck q h.rest)) stop ∙ ap some h.placed

pub derived_not_stuck : (x : Phrase) (ls : List Lexeme) → Spells x (tokens_of ls) → stuck start ls ≡ none
derived_not_stuck x ls h = read_not_stuck ls start (at (after x) []) (text_read x (tokens_of ls) h)
