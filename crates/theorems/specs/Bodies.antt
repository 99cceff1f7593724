-- Bodies, of which 01, "A reviewer's attempts", speaks, and what is asked of them: demands 1 and 2, which equate what is
-- answered and left with `outcome` (`Meets`), or demand 3 alone (`Demanded`). What is assumed of a wrong body is what it does with
-- accepted tables where it has room (`Lists`): `such_a_body` is one that does so. One that lists what is true in all states for a
-- table of which a run fails does not meet demand 3 (`claims_nothing`, `lists_valid`). Assumes nothing.
use Rattle.std.specs.Prelude.{ℕ, ◌-◌, ◌≤◌, ◌≡◌, refl, List, ◌++◌, T, ℤ, length, take}
use Rattle.std.proofs.Common.{sym, ap, ◌∙◌, subst}
use Rattle.std.proofs.Math.Option.{some}
use Rattle.std.proofs.Math.Seq.{take-append_seam}
use Rattle.script.specs.declared.Answer.{Answer}
use Rattle.script.specs.Syntax.{Stmt}
use Rattle.script.specs.Meaning.{whole, holds}
use Rattle.script.specs.Run.{Cause, failed, start, after, Good, TotalCorrectness}
use Rattle.script.specs.Conditions.{Condition}
use Rattle.script.specs.Trees.{tree}
use Rattle.script.specs.Refusals.{accepted, verdict}
use Rattle.script.specs.Generated.{Outcome, zeros, scratch_need, outcome}
use Rattle.script.specs.Listing.{read_list}
use Rattle.script.specs.Promise.{AllValid, ListValid, Demand3}
use Rattle.script.specs.Computed.{zero_state}
use Rattle.theorems.specs.Options.{some_inj}

-- ---- bodies, and what is asked of them

-- what a body answers and leaves, for a table, a list length and a scratch length
abbrev pub Body : Type 0
Body = List ℤ → ℕ → ℕ → Outcome

-- demands 1 and 2: answer, list and scratch
pub record Meets (f : Body) : Type 0 where
  pub answer : (t : List ℤ) (l s : ℕ) → (f t l s).answer ≡ (outcome t l s).answer
  pub list : (t : List ℤ) (l s : ℕ) → (f t l s).list ≡ (outcome t l s).list
  pub scratch : (t : List ℤ) (l s : ℕ) → (f t l s).scratch ≡ (outcome t l s).scratch

-- demand 3, and nothing else
abbrev pub Demanded : Body → Type 0
Demanded f = (t : List ℤ) (l s : ℕ) → Demand3 t (f t l s).answer (f t l s).list

abbrev pub planned : ℕ → ℕ → Answer
planned n w = record { number = 0; row = 0; conditions = n; words = w }

-- a body that plans every accepted table for which it has room and scratch, with the words `ws` of n conditions for it
abbrev pub Lists : Body → (List ℤ → ℕ) → (List ℤ → List ℤ) → Type 0
Lists f n ws = (t : List ℤ) (l s : ℕ) → verdict t ≡ accepted → length (ws t) ≤ l → scratch_need t ≤ s
    → ((f t l s).answer ≡ planned (n t) (length (ws t))) × (take (length (ws t)) (f t l s).list ≡ ws t)

-- there is such a body, whatever the words
pub such_a_body : (n : List ℤ → ℕ) (ws : List ℤ → List ℤ) → (f : Body) × Lists f n ws
such_a_body n ws = (f, λ t l s h fits enough. (refl, take-append_seam (ws t) _))
  where
    f : Body
    f t l s = record { answer = planned (n t) (length (ws t)); list = ws t ++ zeros (l - length (ws t)); scratch = zeros s }

-- ---- a run that fails refutes demand 3

-- an accepted table whose run from a state that meets the precondition fails, with scratch enough
pub record Failing (t : List ℤ) : Type 0 where
  pub accepts : verdict t ≡ accepted
  pub need : scratch_need t ≤ 5120
  pub pre : T (holds whole zero_state (tree t).pre)
  pub steps : ℕ
  pub cause : Cause
  pub due : Stmt
  pub fails : after whole steps (start (tree t) zero_state) ≡ failed cause due

not_correct : (t : List ℤ) → Failing t → TotalCorrectness whole (tree t) zero_state → ⊥
not_correct t F c = subst Good F.fails (c.good F.steps)

-- where the words left claim nothing false, a run that fails refutes the body
pub claims_nothing : (f : Body) → Demanded f → (t : List ℤ) → Failing t → (f t 512 5120).answer.number ≡ 0
    → ListValid whole (take (f t 512 5120).answer.words (f t 512 5120).list) → ⊥
unfolding Demand3
claims_nothing f demanded t F planned valid = not_correct t F (demanded t 512 5120 planned valid zero_state F.pre)

-- a list of conditions that are true in all states
all_valid : (ws : List ℤ) (ds : List Condition) → read_list ws ≡ some ds → AllValid whole ds → ListValid whole ws
all_valid ws ds q valid cs p = subst (AllValid whole) (some_inj (sym q ∙ p)) valid

pub lists_valid : (f : Body) → Demanded f → (n : List ℤ → ℕ) (ws : List ℤ → List ℤ) → Lists f n ws → (t : List ℤ) → Failing t
    → length (ws t) ≤ 512 → (ds : List Condition) → read_list (ws t) ≡ some ds → AllValid whole ds → ⊥
lists_valid f demanded n ws h t F fits ds q valid =
    let g = h t 512 5120 F.accepts fits F.need in
    let words : (f t 512 5120).answer.words ≡ length (ws t) = ap (λ (a : Answer). a.words) g.0 in
    claims_nothing f demanded t F (ap (λ (a : Answer). a.number) g.0) (rw (words, g.1) (all_valid (ws t) ds q valid))
