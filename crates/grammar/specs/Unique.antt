-- What is read is exactly the words of the good scripts, each of one (`derived_read`, `read_derived`, `unique`): the
-- automaton is a function. Assumes nothing.
use Rattle.std.specs.Prelude.{◌≡◌, List, []}
use Rattle.std.proofs.Common.{sym, ap, ◌∙◌}
use Rattle.std.proofs.Math.Option.{some}
use Rattle.theorems.specs.Options.{some_inj}
use Rattle.grammar.specs.Sorts.{script}
use Rattle.grammar.specs.Tokens.{Token}
use Rattle.grammar.specs.Grammar.{Phrase, words, sort, Good}
use Rattle.grammar.specs.States.{State, at, after, start}
use Rattle.grammar.specs.Automaton.{run}
use Rattle.grammar.specs.Tests.{same_sorts}
use Rattle.grammar.specs.Complete.{read_whole}
use Rattle.grammar.specs.Sound.{sound}

-- a derivation of a whole text
pub record Derives (x : Phrase) (ts : List Token) : Type 0 where
  pub good : Good x
  pub whole : sort x ≡ script
  pub spelt : words x ≡ ts

abbrev pub ReadsAs : List Token → Phrase → Type 0
ReadsAs ts x = run start ts ≡ some (at (after x) [])

pub derived_read : (x : Phrase) (ts : List Token) → Derives x ts → ReadsAs ts x
derived_read x ts d = rw (← d.spelt) (read_whole x d.good (same_sorts d.whole))

pub read_derived : (x : Phrase) (ts : List Token) → ReadsAs ts x → Derives x ts
read_derived x ts e = let s = sound ts x e in record { good = s.0; whole = s.1; spelt = s.2 }

pub unique : (x y : Phrase) (ts : List Token) → Derives x ts → Derives y ts → x ≡ y
unique x y ts d e =
    let p = ap (λ (s : State). s.mode) (some_inj (sym (derived_read x ts d) ∙ derived_read y ts e)) in
    cc
