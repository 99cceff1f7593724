-- 02, P11, from a text to the machine: where a text is read and its conditions are proved, every call of `machine_run` on its table, from values
-- that meet the text's precondition, is safe: neither 52 nor 53 is answered, and at 0 the text's postcondition holds in the values left
-- (`SafeText`). The conditions are proved as in `Runs`: true in all states (`machine_text`), or no script of theirs has a model
-- (`solved_machine_text`, `refuted_machine_text`). And with a limit of enough steps the answer is not 54 (`machine_text_enough`).
-- Argument: the runs of the text's script keep the promise (`Runs`), and the machine follows them (P11's theorems). Assumes nothing.
use Rattle.std.specs.Prelude.{ℕ, ◌≤◌, ◌<◌, ◌≡◌, ◌≢◌, List, T, ℤ}
use Rattle.std.proofs.Common.{subst}
use Rattle.std.proofs.Math.Path.{subst⁻¹}
use Rattle.script.specs.Syntax.{Tree}
use Rattle.script.specs.Meaning.{Arithmetic, holds}
use Rattle.script.specs.Run.{start, after, TotalCorrectness}
use Rattle.script.specs.Trees.{tree}
use Rattle.script.specs.Promise.{ListValid}
use Rattle.stepping.specs.Machine.{Mode, mode_64, state_of, Ran, machine_run}
use Rattle.stepping.specs.Proved.{safe}
use Rattle.stepping.specs.StepBound.{most_steps}
use Rattle.stepping.specs.EnoughSteps.{Arrivals, total_never_spent}
use Rattle.smt.specs.Verdicts.{ListUnsatisfiable}
use Rattle.smt.specs.Refutations.{Refuted}
use Rattle.grammar.specs.Grammar.{Phrase}
use Rattle.grammar.specs.Meaning.{text_tree}
use Rattle.grammar.specs.Outcome.{given, outcome}
use Rattle.text_claims.specs.Reading.{Reading}
use Rattle.text_claims.specs.Runs.{KeepsPromise, generated, Planned, list_left, same_script, text_runs, solved_text_runs, refuted_text_runs}

-- what is promised of a call that answers a, of a script
pub record SafeText (𝔸 : Arithmetic) (c : Tree) (a : Ran) : Type 0 where
  pub never_false : a.number ≢ 52
  pub never_zero : a.number ≢ 53
  pub post : a.number ≡ 0 → T (holds 𝔸 (state_of a.vars a.marks) c.post)

-- every call on the table, from values that meet the precondition
abbrev pub SafeCalls : Mode → List ℤ → Tree → Type 0
SafeCalls M table c = (stack : List ℕ) (vars marks : List ℤ) (limit : ℕ) → T (holds M.arithmetic (state_of vars marks) c.pre)
    → SafeText M.arithmetic c (machine_run M table stack vars marks limit)

-- of a table and its own tree
promised_calls : (M : Mode) (table : List ℤ) → KeepsPromise M.arithmetic (tree table) → SafeCalls M table (tree table)
promised_calls M table keeps stack vars marks limit pre =
    let p = safe M table stack vars marks (keeps (state_of vars marks) pre) limit in
    record { never_false = p.never_false; never_zero = p.never_zero; post = p.post }

module _ (room : ℕ) (bytes : List ℕ) (table : List ℤ) (read : outcome room bytes ≡ given table)
    (list scratch : ℕ) (planned : Planned (generated table list scratch)) (x : Phrase) (r : Reading bytes x) where
  of_text : (M : Mode) → KeepsPromise M.arithmetic (text_tree x) → SafeCalls M table (text_tree x)
  of_text M keeps =
      let same = same_script room bytes table read x r in
      subst (SafeCalls M table) same (promised_calls M table (subst⁻¹ (KeepsPromise M.arithmetic) same keeps))

  pub machine_text : (M : Mode) → ListValid M.arithmetic (list_left (generated table list scratch)) → SafeCalls M table (text_tree x)
  machine_text M valid = of_text M (text_runs room bytes table read list scratch planned M.arithmetic valid x r)

  pub solved_machine_text : ListUnsatisfiable (list_left (generated table list scratch)) → SafeCalls mode_64 table (text_tree x)
  solved_machine_text unsatisfiable =
      of_text mode_64 (solved_text_runs room bytes table read list scratch planned unsatisfiable x r)

  pub refuted_machine_text : ((i : ℕ) → i < (generated table list scratch).answer.conditions
      → Refuted (list_left (generated table list scratch)) i) → SafeCalls mode_64 table (text_tree x)
  refuted_machine_text refuted = of_text mode_64 (refuted_text_runs room bytes table read list scratch planned refuted x r)

  -- where every arrival at a loop is with a variant of at most `top`
  pub machine_text_enough : (M : Mode) → ListValid M.arithmetic (list_left (generated table list scratch))
      → (stack : List ℕ) (vars marks : List ℤ) (limit top : ℕ) → T (holds M.arithmetic (state_of vars marks) (text_tree x).pre)
      → ((n : ℕ) → Arrivals top (after M.arithmetic n (start (text_tree x) (state_of vars marks))))
      → most_steps top (text_tree x).body ≤ limit → (machine_run M table stack vars marks limit).number ≢ 54
  machine_text_enough M valid stack vars marks limit top pre arrivals enough =
      let same = same_script room bytes table read x r in
      let total = text_runs room bytes table read list scratch planned M.arithmetic valid x r (state_of vars marks) pre in
      total_never_spent M table stack vars marks limit top
      (subst⁻¹ (λ (c : Tree). (n : ℕ) → Arrivals top (after M.arithmetic n (start c (state_of vars marks)))) same arrivals)
      (subst⁻¹ (λ (c : Tree). most_steps top c.body ≤ limit) same enough)
      (subst⁻¹ (λ (c : Tree). TotalCorrectness M.arithmetic c (state_of vars marks)) same total)
