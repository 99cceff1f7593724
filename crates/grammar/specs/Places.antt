-- Number 41: the place where the reader is stuck is that of the first token with which no text goes on
-- (`stuck_exactly`); where it is stuck nowhere, it has read all (`not_stuck`). Assumes nothing.
use Rattle.std.specs.Prelude.{ℕ, ◌≡◌, refl, List, [], ◌∷◌, ◌++◌}
use Rattle.std.proofs.Common.{sym, ap, ◌∙◌, append_assoc}
use Rattle.std.proofs.Math.Option.{Option, none, some}
use Rattle.script.specs.Listing.{◌>>=◌}
use Rattle.theorems.specs.Options.{none_is_not, some_inj}
use Rattle.grammar.specs.Scanning.{Lexeme, tokens_of}
use Rattle.grammar.specs.States.{State, start}
use Rattle.grammar.specs.Reader.{take, read}
use Rattle.grammar.specs.Outcome.{or_at, stuck}
use Rattle.grammar.specs.TextViable.{read_append, Begins, text_viable, text_refused}

pub record StuckAt (ls : List Lexeme) (p : ℕ) : Type 0 where
  pub taken : List Lexeme
  pub lexeme : Lexeme
  pub rest : List Lexeme
  pub parted : taken ++ (lexeme ∷ rest) ≡ ls
  pub placed : lexeme.place ≡ p
  -- what was taken begins a text
  pub before : Begins (tokens_of taken)
  -- with this token it begins none
  pub after_it : Begins (tokens_of taken ++ (lexeme.token ∷ [])) → ⊥

tokens_join : (us : List Lexeme) (l : Lexeme) → tokens_of (us ++ (l ∷ [])) ≡ tokens_of us ++ (l.token ∷ [])
tokens_join [] l = refl
tokens_join (u ∷ us) l = ap (λ ts. u.token ∷ ts) (tokens_join us l)

stuck_from : (ls us : List Lexeme) (s : State) (p : ℕ) → read start (tokens_of us) ≡ some s → stuck s ls ≡ some p → StuckAt (us ++ ls) p
unfolding stuck read
stuck_from [] us s p h e = none_is_not e
stuck_from (l ∷ ls) us s p h e = at_test (take s l.token) refl (λ r q d. stuck_from ls (us ++ (l ∷ [])) r p q d) e
  where
    at_test : (o : Option State) → take s l.token ≡ o
        → ((r : State) → read start (tokens_of (us ++ (l ∷ []))) ≡ some r → stuck r ls ≡ some p → StuckAt ((us ++ (l ∷ [])) ++ ls) p)
        → or_at o l.place (λ r. stuck r ls) ≡ some p → StuckAt (us ++ (l ∷ ls)) p
    at_test none k again q =
        record {
          taken = us;
          lexeme = l;
          rest = ls;
          parted = refl;
          placed = some_inj q;
          before = text_viable (tokens_of us) s h;
          after_it = text_refused (tokens_of us ++ (l.token ∷ [])) (read_append (tokens_of us) (l.token ∷ []) start ∙ rw (h, k));
        }
    at_test (some r) k again q =
        rw (← append_assoc us (l ∷ []) ls)
        (again r (ap (λ ts. read start ts) (tokens_join us l) ∙ read_append (tokens_of us) (l.token ∷ []) start ∙ rw (h, k)) q)

pub stuck_exactly : (ls : List Lexeme) (p : ℕ) → stuck start ls ≡ some p → StuckAt ls p
unfolding read
stuck_exactly ls p e = stuck_from ls [] start p refl e

pub not_stuck : (ls : List Lexeme) (s : State) → stuck s ls ≡ none → (r : State) × (read s (tokens_of ls) ≡ some r)
unfolding stuck read
not_stuck [] s e = (s, refl)
not_stuck (l ∷ ls) s e = at_test (take s l.token) (λ r d. not_stuck ls r d) e
  where
    at_test : (o : Option State) → ((r : State) → stuck r ls ≡ none → (q : State) × (read r (tokens_of ls) ≡ some q))
        → or_at o l.place (λ r. stuck r ls) ≡ none → (q : State) × ((o >>= λ r. read r (tokens_of ls)) ≡ some q)
    at_test none again q = none_is_not (sym q)
    at_test (some r) again q = again r q
