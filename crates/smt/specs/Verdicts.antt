-- From a solver's verdicts to runs: if a table is planned, and of every condition that is read from the list the script has
-- no model, then every run from a start that meets the precondition fails no assertion, divides by no zero, ends, meets the
-- postcondition, and begins loops' bodies no more often than their variants say (`unsatisfiable_correct`). The same of the
-- scripts that are read from the texts (`unsatisfiable_texts_correct`). And of a single text: what is read back means the
-- same in every state (`text_means`), and its script has no model exactly when the condition is valid (`text_valid_iff`).
-- Assumes nothing.
use Rattle.std.specs.Prelude.{ℕ, ◌≡◌, ◌↔◌, List, [], ◌∷◌, ℤ, T, take}
use Rattle.std.proofs.Common.{sym, ◌∙◌}
use Rattle.std.proofs.Math.Bool as Bool
use Rattle.std.proofs.Math.Option.{some}
use Rattle.script.specs.declared.Answer.{Answer}
use Rattle.script.specs.Syntax.{Formula}
use Rattle.script.specs.Meaning.{State, whole, holds}
use Rattle.script.specs.Run.{TotalCorrectness}
use Rattle.script.specs.Conditions.{Condition}
use Rattle.script.specs.Trees.{tree}
use Rattle.script.specs.Listing.{read_list}
use Rattle.script.specs.Generated.{outcome}
use Rattle.script.specs.Promise.{Valid, AllValid, Demand3}
use Rattle.theorems.specs.Options.{some_inj}
use Rattle.theorems.specs.Demand.{demand_3}
use Rattle.smt.specs.Smt.{Division, Script, Satisfies, Satisfiable}
use Rattle.smt.specs.Translate.{script}
use Rattle.smt.specs.Agreement.{model, in_every_state, satisfies_iff, no_model_iff}
use Rattle.smt.specs.Reader.{read_script}
use Rattle.smt.specs.Text.{script_text}
use Rattle.smt.specs.ReadBack.{script_read}

-- ---- verdicts on scripts

-- no script of these conditions has a model
abbrev pub AllUnsatisfiable : List Condition → Type 0
AllUnsatisfiable [] = Unit {0}
AllUnsatisfiable (c ∷ cs) = (¬ Satisfiable (script c.claim)) × AllUnsatisfiable cs

-- no script of the conditions that are read from these words has a model
abbrev pub ListUnsatisfiable : List ℤ → Type 0
ListUnsatisfiable ws = (cs : List Condition) → read_list ws ≡ some cs → AllUnsatisfiable cs

-- that is so exactly where they are true in all states
pub unsatisfiable_iff : (cs : List Condition) → AllUnsatisfiable cs ↔ AllValid whole cs
unsatisfiable_iff [] = (λ h. tt, λ v. tt)
unsatisfiable_iff (c ∷ cs) =
    let one = no_model_iff c.claim in
    let rest = unsatisfiable_iff cs in
    (λ h. (one.0 h.0, rest.0 h.1), λ v. (one.1 v.0, rest.1 v.1))

-- the promise of a table, an answer and the list left with it
unfoldable pub Solved : List ℤ → Answer → List ℤ → Type 0
Solved table answer list =
    answer.number ≡ 0
    → ListUnsatisfiable (take answer.words list)
    → (s : State) → T (holds whole s (tree table).pre) → TotalCorrectness whole (tree table) s

pub demand_solved : (table : List ℤ) (answer : Answer) (list : List ℤ) → Demand3 table answer list → Solved table answer list
unfolding Solved Demand3
demand_solved table answer list d e h = d e (λ cs r. (unsatisfiable_iff cs).0 (h cs r))

pub unsatisfiable_correct : (table : List ℤ) (list scratch : ℕ)
    → Solved table (outcome table list scratch).answer (outcome table list scratch).list
unsatisfiable_correct table list scratch = demand_solved table _ _ (demand_3 table list scratch)

-- ---- verdicts on texts

-- whatever is read from the text has no model
abbrev pub UnsatisfiableText : List ℕ → Type 0
UnsatisfiableText t = (cs : Script) → read_script t ≡ some cs → ¬ Satisfiable cs

abbrev pub AllUnsatisfiableTexts : List Condition → Type 0
AllUnsatisfiableTexts [] = Unit {0}
AllUnsatisfiableTexts (c ∷ cs) = UnsatisfiableText (script_text (script c.claim)) × AllUnsatisfiableTexts cs

abbrev pub ListUnsatisfiableTexts : List ℤ → Type 0
ListUnsatisfiableTexts ws = (cs : List Condition) → read_list ws ≡ some cs → AllUnsatisfiableTexts cs

texts_scripts : (cs : List Condition) → AllUnsatisfiableTexts cs → AllUnsatisfiable cs
texts_scripts [] h = tt
texts_scripts (c ∷ cs) h = (h.0 (script c.claim) (script_read c.claim), texts_scripts cs h.1)

pub unsatisfiable_texts_correct : (table : List ℤ) (list scratch : ℕ)
    → let o = outcome table list scratch in
    o.answer.number ≡ 0 → ListUnsatisfiableTexts (take o.answer.words o.list)
    → (s : State) → T (holds whole s (tree table).pre) → TotalCorrectness whole (tree table) s
unfolding Solved
unsatisfiable_texts_correct table list scratch e h = unsatisfiable_correct table list scratch e (λ cs r. texts_scripts cs (h cs r))

-- ---- a text

module _ (f : Formula) where
  read_only : (cs : Script) → read_script (script_text (script f)) ≡ some cs → cs ≡ script f
  read_only cs e = some_inj (sym e ∙ script_read f)

  -- "The tree read back must mean the same in every state."
  pub text_means : (cs : Script) → read_script (script_text (script f)) ≡ some cs → (s : State) (D : Division)
      → Satisfies (model s D) cs ↔ T (Bool.not (holds whole s f))
  text_means cs e s D = rw (read_only cs e, ← in_every_state s D f) (satisfies_iff (model s D) f)

  -- the text's script has no model exactly when the condition is valid
  pub text_valid_iff : UnsatisfiableText (script_text (script f)) ↔ Valid whole f
  text_valid_iff =
      (λ h. (no_model_iff f).0 (h (script f) (script_read f)), λ v cs e. rw (read_only cs e) ((no_model_iff f).1 v))
