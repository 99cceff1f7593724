-- What the reader of a text takes begins some text, and what it refuses begins none (`text_viable`, `text_refused`).
-- Assumes nothing.
use Rattle.std.specs.Prelude.{◌≡◌, refl, List, [], ◌∷◌, ◌++◌}
use Rattle.std.proofs.Common.{sym, ap, ◌∙◌}
use Rattle.std.proofs.Math.Option.{Option, none, some}
use Rattle.script.specs.Listing.{◌>>=◌}
use Rattle.theorems.specs.Options.{none_is_not}
use Rattle.grammar.specs.Tokens.{Token}
use Rattle.grammar.specs.Grammar.{Phrase}
use Rattle.grammar.specs.Text.{text, Spells}
use Rattle.grammar.specs.States.{State, start}
use Rattle.grammar.specs.Reader.{take, read}
use Rattle.grammar.specs.Viable.{state_extends}
use Rattle.grammar.specs.TextSound.{text_append, read_keeps, came}
use Rattle.grammar.specs.TextRead.{text_read}

-- ---- where it stops

-- the words begin a text
pub record Begins (ts : List Token) : Type 0 where
  pub then : List Token
  pub of : Phrase
  pub spells : Spells of (ts ++ then)

pub text_viable : (ts : List Token) (s : State) → read start ts ≡ some s → Begins ts
text_viable ts s e =
    let h = read_keeps ts start [] s came e in
    let x = state_extends s.mode s.stack h.through h.reads in
    let d = x.derives in
    record {
      then = text x.more;
      of = x.text;
      spells = record {
        good = d.good;
        whole = d.whole;
        spelt = ap text d.spelt ∙ text_append h.through x.more ∙ ap (λ l. l ++ text x.more) h.spelt;
      };
    }

pub read_append : (ts us : List Token) (s : State) → read s (ts ++ us) ≡ (read s ts >>= λ r. read r us)
unfolding read
read_append [] us s = refl
read_append (t ∷ ts) us s = further (λ r. read_append ts us r) (take s t)
  where
    further : ((r : State) → read r (ts ++ us) ≡ (read r ts >>= λ q. read q us)) → (o : Option State)
        → (o >>= λ r. read r (ts ++ us)) ≡ ((o >>= λ r. read r ts) >>= λ r. read r us)
    further again none = refl
    further again (some r) = again r

pub text_refused : (ts : List Token) → read start ts ≡ none → Begins ts → ⊥
text_refused ts e b =
    let whole = text_read b.of (ts ++ b.then) b.spells in
    none_is_not (sym (read_append ts b.then start ∙ ap (λ (o : Option State). o >>= λ r. read r b.then) e) ∙ whole)
