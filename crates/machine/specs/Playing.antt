-- Steps up to the limit: at each turn, what the rest of the play leaves is what the whole leaves (`Playing`), and whichever way it ends the
-- answer and the lent words are those of `shown` (`Told`). Assumes nothing.
use Rattle.std.specs.Prelude.{ℕ, zero, suc, ◌+◌, ◌-◌, ◌≤◌, ◌<◌, ◌≡◌, refl, ℤ, length, replicate, Result, Ok, Err}
use Rattle.std.proofs.Common.{sym, ◌∙◌, add-one}
use Rattle.std.proofs.Math.Path.{ap, subst}
use mathlib.Core.List.{List, [], ◌∷◌, ◌++◌, reverse}
use native.Mathlib.Omega.{arith as linear}
use Rattle.script.specs.Rows.{variables}
use Rattle.script.specs.Refusals.{verdict, accepted}
use Rattle.theorems.specs.Accepted.{passed}
use Rattle.stepping.specs.Values.{mode_64}
use Rattle.stepping.specs.Machine.{Held, hold, Stepped, on, faulty, untrue, mark_values, next, Stopped, stopped, proceed, play, Ran, shown}
use Rattle.stepping.specs.Heights.{Roomy, step_roomy}
use Rattle.machine.specs.declared.RunAnswer.{RunAnswer}
use Rattle.machine.specs.declared.Refusal.{Refusal}
use Rattle.machine.specs.declared.Refusal.TheVariants.{Table, Short}
use Rattle.machine.specs.declared.End.{End}
use Rattle.machine.specs.declared.End.TheVariants.{Done, Failed, Spent}
use Rattle.machine.specs.declared.Played.{Played}
use Rattle.rows.specs.Numbers as Faults
use Rattle.stepper.specs.declared.steps.Failure.{Failure}
use Rattle.stepper.specs.DueRows.{due_row, next_row}
use Rattle.stepper.specs.Stack.{held_in, top, Zeros, held_length, top_first, words_are}
use Rattle.stepper.specs.Steps.{Stage, Halts, stepped, Tried, went, halted, failure_number}

-- the answer and the lent words are those of the outcome
pub record Told (m : Ran) (a : RunAnswer) (words : List ℕ) (vars marks : List ℤ) : Type 0 where
  pub number : a.number ≡ m.number
  pub row : a.row ≡ m.row
  pub steps : a.steps ≡ m.steps
  pub height : a.height ≡ m.height
  pub words_told : words ≡ m.stack
  pub variables_told : vars ≡ m.vars
  pub marks_told : marks ≡ m.marks

-- an accepted table, rows in the stack that never get too many, and all the values
pub record Begun (t : List ℤ) (words : List ℕ) (height : ℕ) (vars marks : List ℤ) : Type 0 where
  pub checked : verdict t ≡ accepted
  pub zeros : Zeros words height
  pub roomy : Roomy t (length words) (held_in words height)
  pub all_variables : variables ≤ length vars
  pub all_marks : mark_values ≤ length marks

abbrev pub answer : ℕ → ℕ → ℕ → ℕ → RunAnswer
answer number row steps height = record { number = number; row = row; steps = steps; height = height }

-- what a call's result says
abbrev pub played_answer : End → ℕ → ℕ → RunAnswer
played_answer Done steps height = answer 0 0 steps height
played_answer (Failed e r) steps height = answer (failure_number e) r.0 steps height
played_answer (Spent r) steps height = answer 54 r.0 steps height

abbrev pub refusal_answer : Refusal → RunAnswer
refusal_answer (Table e) = answer (Faults.number e.fault) e.row.0 0 0
refusal_answer Short = answer 51 0 0 0

abbrev pub answer_of : Result Played Refusal → RunAnswer
answer_of (Ok p) = played_answer p.end p.steps p.height
answer_of (Err e) = refusal_answer e

-- what the machine leaves that begins with the rows in so many words
abbrev pub played : List ℤ → List ℕ → ℕ → List ℤ → List ℤ → ℕ → Ran
played t words height vars marks limit =
    shown mode_64 t words vars marks limit (play mode_64 t limit 0 (held_in words height) vars marks)

-- a step that fails ends the play
halts_proceed : (t : List ℤ) (more : Held → Stopped) (steps r : ℕ) (h : Held) (n : ℕ) (x : Stepped) → Halts n x
    → proceed mode_64 t more steps r h x ≡ stopped n r steps h
halts_proceed t more steps r h n (on k) i = absurd i
halts_proceed t more steps r h n (faulty x) i = rw i
halts_proceed t more steps r h n untrue i = rw i

module _ (t : List ℤ) (words₀ : List ℕ) (begun : ℕ) (vars₀ marks₀ : List ℤ) (limit : ℕ) where
  abbrev whole : Stopped
  whole = play mode_64 t limit 0 (held_in words₀ begun) vars₀ marks₀

  pub record Playing (words : List ℕ) (vars marks : List ℤ) (height steps : ℕ) : Type 0 where
    pub state : Begun t words height vars marks
    pub words_kept : length words ≡ length words₀
    pub variables_kept : length vars ≡ length vars₀
    pub marks_kept : length marks ≡ length marks₀
    pub within : steps ≤ limit
    pub same : play mode_64 t (limit - steps) steps (held_in words height) vars marks ≡ whole

  pub playing_begun : Begun t words₀ begun vars₀ marks₀ → Playing words₀ vars₀ marks₀ begun 0
  playing_begun B = record {
    state = B;
    words_kept = refl;
    variables_kept = refl;
    marks_kept = refl;
    within = omega linear;
    same = let e : limit - 0 ≡ limit = omega linear in rw e;
  }

  module _ {words : List ℕ} {vars marks : List ℤ} {height steps : ℕ} (P : Playing words vars marks height steps) where
    -- the play stops here
    told : {n r : ℕ} → stopped n r steps (hold (held_in words height) vars marks) ≡ whole
        → Told (played t words₀ begun vars₀ marks₀ limit) (answer n r steps height) words vars marks
    told {n} {r} e = rw (← e) (record {
      number = refl;
      row = refl;
      steps = refl;
      height = sym h;
      words_told = words_are words height P.state.zeros ∙ ap (λ (k : ℕ). reverse (held_in words height) ++ replicate k 0) left;
      variables_told = refl;
      marks_told = refl;
    })
      where
        h : length (held_in words height) ≡ height
        h = held_length words height P.state.zeros.inside

        left : length words - height ≡ length words₀ - length (held_in words height)
        left = let k = P.words_kept in let i = h in omega linear

    -- nothing is left to do
    pub told_ended : height ≡ 0 → Told (played t words₀ begun vars₀ marks₀ limit) (answer 0 0 steps 0) words vars marks
    unfolding play
    told_ended e = subst (λ (k : ℕ). Told (played t words₀ begun vars₀ marks₀ limit) (answer 0 0 steps k) words vars marks) e (told (by (limit - steps) refl))
      where
        none : held_in words height ≡ []
        none = ap (held_in words) e

        by : (k : ℕ) → limit - steps ≡ k → stopped 0 0 steps (hold (held_in words height) vars marks) ≡ whole
        by zero i = rw none (rw (i, none) at P.same)
        by (suc k) i = rw none (rw (i, none) at P.same)

    module _ (high : 0 < height) {r : ℕ} (due : r ≡ due_row t (top words height)) where
      pub stage : Stage t words height vars marks r
      stage = record {
        ready = record { checked = P.state.checked; high = high; zeros = P.state.zeros; roomy = P.state.roomy };
        all_variables = P.state.all_variables;
        all_marks = P.state.all_marks;
        due = due;
      }

      -- the next row and those below it
      first : held_in words height ≡ top words height ∷ held_in words (height - 1)
      first = top_first words height P.state.zeros.inside high

      row_is : (next t (top words height) (held_in words (height - 1))).at ≡ r
      row_is = next_row t (top words height) (held_in words (height - 1)) ∙ sym due

      -- the limit is spent
      pub told_spent : steps ≡ limit → Told (played t words₀ begun vars₀ marks₀ limit) (answer 54 r steps height) words vars marks
      unfolding play
      told_spent e =
          let z : limit - steps ≡ 0 = omega linear in
          told (rw (first, ← row_is) (rw (z, first) at P.same))

      module _ (less : steps < limit) where
        one_more : limit - steps ≡ suc (limit - (steps + 1))
        one_more = omega linear

        -- one step more is tried
        tried : proceed mode_64 t (λ h. play mode_64 t (limit - (steps + 1)) (suc steps) h.stack h.vars h.marks) steps r
            (hold (held_in words height) vars marks) (stepped t words height vars marks) ≡ whole
        unfolding play
        tried = rw (first, ← row_is) (rw (one_more, first) at P.same)

        pub told_failed : {e : Failure} {words' : List ℕ} {vars' marks' : List ℤ} → Tried t words height vars marks words' vars' marks' (Err e)
            → Told (played t words₀ begun vars₀ marks₀ limit) (answer (failure_number e) r steps height) words' vars' marks'
        told_failed {e} (halted i ew ev em) =
            rw (ew, ev, em)
            (told (sym (halts_proceed t _ steps r (hold (held_in words height) vars marks) (failure_number e) (stepped t words height vars marks) i) ∙ tried))

        pub playing_on : {left : ℕ} {words' : List ℕ} {vars' marks' : List ℤ} → Tried t words height vars marks words' vars' marks' (Ok left)
            → Playing words' vars' marks' left (steps + 1)
        playing_on {left} {words'} {vars'} {marks'} (went e z lw lv lm) = record {
          state = record {
            checked = P.state.checked;
            zeros = z;
            roomy = rw lw (step_roomy t (passed t P.state.checked) (length words) mode_64 (top words height) (held_in words (height - 1)) vars marks e
                (subst (Roomy t (length words)) first P.state.roomy));
            all_variables = let a = P.state.all_variables in omega linear;
            all_marks = let a = P.state.all_marks in omega linear;
          };
          words_kept = lw ∙ P.words_kept;
          variables_kept = lv ∙ P.variables_kept;
          marks_kept = lm ∙ P.marks_kept;
          within = omega linear;
          same = subst (λ (k : ℕ). play mode_64 t (limit - (steps + 1)) k (held_in words' left) vars' marks' ≡ whole) (sym (add-one steps)) (rw e at tried);
        }
