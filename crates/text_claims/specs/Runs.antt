-- From a text to the runs of its script. If the text is read, the generator plans its table in some room and scratch,
-- and every condition of the list left is true in all states, then every run of the text's script, begun where its
-- precondition holds, fails no assertion, divides by no zero, ends, meets the postcondition, and begins loops' bodies no
-- more often than their variants say (`text_runs`). The same if no condition's script has a model (`solved_text_runs`),
-- and from the texts that the writer of scripts left (`refuted_text_runs`). The script is `text_tree x`, x any derivation
-- of the text; there is one (`has_reading`). The table that the text is read into has that tree (`same_script`). That the text is
-- read into a table is what the reader answers: number 0, and the table in the words used (`answered_iff`). Assumes nothing.
use Rattle.std.specs.Prelude.{ℕ, ◌<◌, ◌≡◌, refl, ◌↔◌, List, T, ℤ, take}
use Rattle.std.proofs.Common.{sym, ◌∙◌, arith as linear}
use Rattle.std.proofs.Math.Path.{ap, subst}
use Rattle.std.proofs.Math.Seq.{take-append_seam}
use Rattle.script.specs.Syntax.{Tree}
use Rattle.script.specs.Meaning.{Arithmetic, State, whole, holds}
use Rattle.script.specs.Run.{TotalCorrectness}
use Rattle.script.specs.Trees.{tree}
use Rattle.script.specs.Generated as Generated
use Rattle.script.specs.Promise.{ListValid}
use Rattle.theorems.specs.Demand.{keeps}
use Rattle.smt.specs.Verdicts.{ListUnsatisfiable, Solved, unsatisfiable_correct}
use Rattle.smt.specs.Refutations.{Refuted, verdicts_to_runs}
use Rattle.grammar.specs.Grammar.{Phrase}
use Rattle.grammar.specs.Meaning.{text_table, text_tree}
use Rattle.grammar.specs.TextTree.{text_tree_is}
use Rattle.grammar.specs.Outcome.{Outcome, refused, given, outcome}
use Rattle.grammar.specs.Answer.{told, answer}
use Rattle.grammar.specs.Given.{table_given}
use Rattle.text_claims.specs.Reading.{Reading, scan_of, one_reading}
use Rattle.text_claims.specs.Exactly.{read_exactly}

-- what demand 3 promises of a script: of every run, from a start that meets the precondition
abbrev pub KeepsPromise : Arithmetic → Tree → Type 0
KeepsPromise 𝔸 t = (s : State) → T (holds 𝔸 s t.pre) → TotalCorrectness 𝔸 t s

-- what the generator leaves for a table, in so many words of list and scratch
abbrev pub generated : List ℤ → ℕ → ℕ → Generated.Outcome
generated table list scratch = Generated.outcome table list scratch

-- "planned": number 0
abbrev pub Planned : Generated.Outcome → Type 0
Planned o = o.answer.number ≡ 0

-- the list left
abbrev pub list_left : Generated.Outcome → List ℤ
list_left o = take o.answer.words o.list

-- ---- the reader's answer

-- a text is read into a table exactly where the reader's number is 0 and the words used are the table
pub answered_iff : (room : ℕ) (bytes : List ℕ) (table : List ℤ)
    → let a = answer bytes room in
    ((a.number ≡ 0) × (take a.used a.words ≡ table)) ↔ (outcome room bytes ≡ given table)
unfolding answer told
answered_iff room bytes table = of_outcome (outcome room bytes) refl
  where
    of_outcome : (o : Outcome) → outcome room bytes ≡ o
        → (((told room o).number ≡ 0) × (take (told room o).used (told room o).words ≡ table)) ↔ (o ≡ given table)
    of_outcome (refused n p) e = (
      λ h. let k = (read_exactly room bytes).no_other n p e in absurd (omega (linear, h.0)),
      λ q. let z : ◌≡◌ {A = ℕ} 0 1 = cc in absurd (omega linear),
    )
    of_outcome (given ws) e =
        (λ h. ap given (sym (take-append_seam ws _) ∙ h.1), λ q. let same : ws ≡ table = cc in (refl, take-append_seam ws _ ∙ same))

-- ---- the tree of the text is that of the table

module _ (room : ℕ) (bytes : List ℕ) (table : List ℤ) (read : outcome room bytes ≡ given table) where
  -- a text that is read has a derivation
  pub has_reading : (x : Phrase) × Reading bytes x
  has_reading =
      let g = table_given room bytes table read in
      (g.of, record { found = g.is.found; covered = (scan_of bytes g.is.found).1 g.is.scanned; spells = g.is.spells })

  pub same_script : (x : Phrase) → Reading bytes x → tree table ≡ text_tree x
  unfolding has_reading
  same_script x r =
      let g = table_given room bytes table read in
      let same : g.of ≡ x = one_reading bytes g.of x has_reading.1 r in
      ap tree (g.table ∙ ap text_table same) ∙ text_tree_is x r.spells.good r.spells.whole

-- ---- the theorems

module _ (room : ℕ) (bytes : List ℕ) (table : List ℤ) (read : outcome room bytes ≡ given table)
    (list scratch : ℕ) (planned : Planned (generated table list scratch)) where
  -- for any arithmetic, in which the conditions are true and the script runs
  pub text_runs : (𝔸 : Arithmetic) → ListValid 𝔸 (list_left (generated table list scratch))
      → (x : Phrase) → Reading bytes x → KeepsPromise 𝔸 (text_tree x)
  text_runs 𝔸 valid x r =
      subst (KeepsPromise 𝔸) (same_script room bytes table read x r) (keeps table list scratch 𝔸 planned valid)

  pub solved_text_runs : ListUnsatisfiable (list_left (generated table list scratch))
      → (x : Phrase) → Reading bytes x → KeepsPromise whole (text_tree x)
  unfolding Solved
  solved_text_runs unsatisfiable x r =
      subst (KeepsPromise whole) (same_script room bytes table read x r)
      (unsatisfiable_correct table list scratch planned unsatisfiable)

  -- for each index below the count a text was written, and its script has no model
  pub refuted_text_runs : ((i : ℕ) → i < (generated table list scratch).answer.conditions
      → Refuted (list_left (generated table list scratch)) i)
      → (x : Phrase) → Reading bytes x → KeepsPromise whole (text_tree x)
  refuted_text_runs refuted x r =
      subst (KeepsPromise whole) (same_script room bytes table read x r)
      (verdicts_to_runs table list scratch planned refuted)
