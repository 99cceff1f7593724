-- The numbers of a text that has a derivation (`numbers_exactly`): it gets 42 exactly where one of them is out of
-- range, with the place of the first such numeral or variable. Assumes nothing.
use Rattle.std.specs.Prelude.{ℕ, zero, suc, ◌≡◌, refl, ◌↔◌, List, [], ◌∷◌, Bool, false}
use Rattle.std.proofs.Common.{sym, ◌∙◌, subst}
use Rattle.std.proofs.Math.Option.{Option, none, some}
use Rattle.std.proofs.Math.ListN.{get_elem?}
use Rattle.theorems.specs.Options.{none_is_not, some_inj}
use Rattle.grammar.specs.Tests.{false_is_not}
use Rattle.grammar.specs.Grammar.{Phrase}
use Rattle.grammar.specs.States.{start}
use Rattle.grammar.specs.Scanning.{Lexeme}
use Rattle.grammar.specs.CoversOnce.{one_scan}
use Rattle.grammar.specs.Ranges.{flags, All}
use Rattle.grammar.specs.Outcome.{refused, out_of_range, outcome}
use Rattle.text_claims.specs.Reading.{Reading, Short, InRange, one_reading}
use Rattle.text_claims.specs.FirstOut.{number_places, FirstOut}
use Rattle.text_claims.specs.Ranges.{out_exactly, none_out}
use Rattle.text_claims.specs.Occasions.{OutOfRangeAt}
use Rattle.text_claims.specs.Exactly.{read_exactly}

pub record NumbersExactly (room : ℕ) (bytes : List ℕ) (x : Phrase) (r : Reading bytes x) : Type 0 where
  pub refused_if_out : ((p : ℕ) × (outcome room bytes ≡ refused 42 p)) ↔ (¬ InRange x)
  pub first_out : (p : ℕ)
      → (outcome room bytes ≡ refused 42 p) ↔ FirstOut (flags 0 false x) (number_places r.found) p

not_all : (bs : List Bool) (n : ℕ) → get_elem? bs n ≡ some false → All bs → ⊥
not_all [] n e h = none_is_not e
not_all (b ∷ bs) zero e h = false_is_not (sym (some_inj e) ∙ h.0)
not_all (b ∷ bs) (suc n) e h = not_all bs n e h.1

module _ (room : ℕ) (bytes : List ℕ) (short : Short bytes) (x : Phrase) (r : Reading bytes x) where
  told : (p : ℕ) → (outcome room bytes ≡ refused 42 p) ↔ FirstOut (flags 0 false x) (number_places r.found) p
  told p =
      let exactly = (read_exactly room bytes).out_of_range_at p in
      (λ e. same (exactly.0 e), λ f. exactly.1 (record { short = short; of = x; reading = r; first = f }))
    where
      same : OutOfRangeAt bytes p → FirstOut (flags 0 false x) (number_places r.found) p
      same h =
          let q = h.reading in
          let lexemes_same = one_scan bytes q.found r.found q.covered r.covered in
          subst (λ (y : Phrase). FirstOut (flags 0 false y) (number_places r.found) p)
          (one_reading bytes h.of x q r)
          (subst (λ (ls : List Lexeme). FirstOut (flags 0 false h.of) (number_places ls) p) lexemes_same h.first)

  out_somewhere : ¬ InRange x → (p : ℕ) × (outcome room bytes ≡ refused 42 p)
  out_somewhere out = at_test (out_of_range start r.found) refl
    where
      at_test : (o : Option ℕ) → out_of_range start r.found ≡ o → (p : ℕ) × (outcome room bytes ≡ refused 42 p)
      at_test none e = absurd (out ((none_out x r.found r.spells).0 e))
      at_test (some p) e = (p, (told p).1 ((out_exactly x r.found r.spells p).0 e))

  pub numbers_exactly : NumbersExactly room bytes x r
  numbers_exactly = record {
    refused_if_out =
        (λ h a. let f = (told h.0).0 h.1 in not_all (flags 0 false x) f.nth f.out a, out_somewhere);
    first_out = told;
  }
