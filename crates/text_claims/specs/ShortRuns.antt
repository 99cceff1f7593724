-- From a text to the runs of its script, through the shortened list (02, P6). If the text is read, the generator plans
-- its table in some room and scratch, and the pass over the list left has room enough, then every run of the text's
-- script, begun where its precondition holds, keeps demand 3's promise: where every condition of the shortened list is
-- true in all states (`short_text_runs`), where none of their scripts of P1 has a model (`solved_short_text_runs`), and
-- where for each index below the count a text was written for the shortened list whose script has none
-- (`refuted_short_text_runs`). Assumes nothing.
use Rattle.std.specs.Prelude.{ℕ, ◌<◌, ◌≡◌, List, ℤ}
use Rattle.std.proofs.Common.{subst}
use Rattle.script.specs.Meaning.{Arithmetic, whole}
use Rattle.script.specs.Promise.{ListValid}
use Rattle.smt.specs.Verdicts.{ListUnsatisfiable}
use Rattle.smt.specs.Refutations.{Refuted}
use Rattle.grammar.specs.Grammar.{Phrase}
use Rattle.grammar.specs.Meaning.{text_tree}
use Rattle.grammar.specs.Outcome.{given, outcome}
use Rattle.shortening.specs.Simplify.{Order}
use Rattle.shortening.specs.Laws.{Lawful, All}
use Rattle.shortening.specs.Shortened.{Written, written, used_words}
use Rattle.shortening.specs.Through.{keeps_through, solved_through, verdicts_through}
use Rattle.text_claims.specs.Reading.{Reading}
use Rattle.text_claims.specs.Runs.{KeepsPromise, generated, Planned, list_left, same_script}

-- the generator leaves a list for the table, the pass another one for that list
abbrev pub shortened : Order → List ℤ → ℕ → ℕ → ℕ → Written
shortened o table list scratch output = written o (list_left (generated table list scratch)) output

module _ (o : Order) (room : ℕ) (bytes : List ℕ) (table : List ℤ) (read : outcome room bytes ≡ given table)
    (list scratch : ℕ) (planned : Planned (generated table list scratch))
    (output : ℕ) (fits : (shortened o table list scratch output).number ≡ 0) where
  abbrev new_list : List ℤ
  new_list = used_words (shortened o table list scratch output)

  -- for any arithmetic with the laws that the rules use, in which the conditions are true and the script runs
  pub short_text_runs : (𝔸 : Arithmetic) → Lawful 𝔸 All → ListValid 𝔸 new_list
      → (x : Phrase) → Reading bytes x → KeepsPromise 𝔸 (text_tree x)
  short_text_runs 𝔸 law valid x r =
      subst (KeepsPromise 𝔸) (same_script room bytes table read x r)
      (keeps_through o table list scratch output planned fits 𝔸 law valid)

  pub solved_short_text_runs : ListUnsatisfiable new_list
      → (x : Phrase) → Reading bytes x → KeepsPromise whole (text_tree x)
  solved_short_text_runs unsatisfiable x r =
      subst (KeepsPromise whole) (same_script room bytes table read x r)
      (solved_through o table list scratch output planned fits unsatisfiable)

  pub refuted_short_text_runs : ((i : ℕ) → i < (generated table list scratch).answer.conditions → Refuted new_list i)
      → (x : Phrase) → Reading bytes x → KeepsPromise whole (text_tree x)
  refuted_short_text_runs refuted x r =
      subst (KeepsPromise whole) (same_script room bytes table read x r)
      (verdicts_through o table list scratch output planned fits refuted)
