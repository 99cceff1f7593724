-- 02, P11: "When a script's conditions are proved and its start meets the precondition, 52 and 53 do not occur." `safe`: from a start
-- whose run is totally correct no call answers 52 or 53, and where it answers 0 the postcondition holds in the state left (`Safe`);
-- the same of a call that goes on (`safe_on`). So it is where the conditions of the list left are true in all states: `safe_list`
-- for any arithmetic, of what the generator leaves, `safe_64` of demand 3 in whole numbers.
-- Argument: the run is where the machine stopped (`CallAnswers`), good at every moment, and has one end. Assumes nothing.
use Rattle.std.specs.Prelude.{ℕ, ◌+◌, ◌-◌, ◌≤◌, ◌≡◌, ◌≢◌, List, [], ◌∷◌, T, ℤ, length, take}
use Rattle.std.proofs.Common.{sym, ap, ◌∙◌, subst, arith as linear}
use Rattle.script.specs.declared.Answer.{Answer}
use Rattle.script.specs.Meaning.{Arithmetic, State, whole, holds}
use Rattle.script.specs.Run.{Frame, at, after, start, Good, TotalCorrectness}
use Rattle.script.specs.Rows.{row, rows}
use Rattle.script.specs.Trees.{tree}
use Rattle.script.specs.Generated.{outcome}
use Rattle.script.specs.Promise.{ListValid, Demand3}
use Rattle.theorems.specs.Numbers.{one_to_ten}
use Rattle.theorems.specs.Demand.{keeps}
use Rattle.stepping.specs.Machine.{Mode, mode_64, state_of, Ran, statement_of, machine_run, machine_on}
use Rattle.stepping.specs.Reached.{ended_frames}
use Rattle.stepping.specs.Within.{end_rests, one_rest, same_state}
use Rattle.stepping.specs.Answers.{Place, denied_at, divided_at}
use Rattle.stepping.specs.Calls.{start_frames, played, Call, table_refused, runs_short, plays, calls}
use Rattle.stepping.specs.CallAnswers.{call_place}
use Rattle.stepping.specs.Watching.{run_then_on}

-- what is promised of a call that answers a
pub record Safe (𝔸 : Arithmetic) (t : List ℤ) (a : Ran) : Type 0 where
  pub never_false : a.number ≢ 52
  pub never_zero : a.number ≢ 53
  pub post : a.number ≡ 0 → T (holds 𝔸 (state_of a.vars a.marks) (tree t).post)

module _ (M : Mode) (t : List ℤ) (stack : List ℕ) (vars marks : List ℤ) where
  abbrev 𝔸 : Arithmetic
  𝔸 = M.arithmetic

  abbrev s : State
  s = state_of vars marks

  module _ (total : TotalCorrectness 𝔸 (tree t) s) where
    abbrev begun : List ℕ
    begun = statement_of (row t (rows t - 1)) ∷ []

    call_safe : (limit : ℕ) {a : Ran} → Call M t stack vars marks limit (rows t) begun a → Safe 𝔸 t a
    call_safe limit (table_refused {n} {r} h) =
        let k = one_to_ten t n r h in
        record { never_false = λ e. omega linear; never_zero = λ e. omega linear; post = λ e. absurd (omega linear) }
    call_safe limit (runs_short h e) =
        record { never_false = λ e. omega linear; never_zero = λ e. omega linear; post = λ e. absurd (omega linear) }
    call_safe limit (plays p) =
        let q = p.reaches in
        let same = start_frames t p.accepts s in
        let x = start (tree t) s in
        let n = (played M t stack vars marks limit (rows t) begun).number in
        let r = (played M t stack vars marks limit (rows t) begun).row in
        let told = subst (λ y. Place t 𝔸 y limit n r) same (call_place M t stack vars marks limit (rows t) begun p) in
        record {
          never_false = λ e. subst Good (denied_at t 𝔸 x limit n r told e) (total.good limit);
          never_zero = λ e. subst Good (divided_at t 𝔸 x limit n r told e) (total.good limit);
          post = λ e.
              let ends = ap (after 𝔸 q.more) (sym same) ∙ q.comes ∙ ap (λ (k : List Frame). at k q.state) (ended_frames t M q.stops e) in
              let one = one_rest 𝔸 total.steps q.more x total.ends (end_rests 𝔸 total.end) ends (end_rests 𝔸 q.state) in
              subst (λ (z : State). T (holds 𝔸 z (tree t).post)) (same_state one ∙ q.follows.state) total.post;
        }

    pub safe : (limit : ℕ) → Safe 𝔸 t (machine_run M t stack vars marks limit)
    unfolding machine_run
    safe limit = call_safe limit (calls M t stack vars marks limit (rows t) begun)

    -- and of a call that goes on where one with the limit spent stopped
    pub safe_on : (limit more : ℕ) → let r = machine_run M t stack vars marks limit in
        r.number ≡ 54 → r.height + rows t ≤ length stack → Safe 𝔸 t (machine_on M t r.stack r.vars r.marks more r.height)
    safe_on limit more z l =
        let both = subst (Safe 𝔸 t) (run_then_on M t stack vars marks limit more z l) (safe (limit + more)) in
        record { never_false = both.never_false; never_zero = both.never_zero; post = both.post }

  -- of what the generator leaves with an answer, for lists and scratch of these lengths
  pub safe_list : (limit list scratch : ℕ) → let o = outcome t list scratch in
      o.answer.number ≡ 0 → ListValid 𝔸 (take o.answer.words o.list) → T (holds 𝔸 s (tree t).pre)
      → Safe 𝔸 t (machine_run M t stack vars marks limit)
  safe_list limit list scratch e valid pre = safe (keeps t list scratch 𝔸 e valid s pre) limit

-- of demand 3, whatever the list and the answer are from
pub safe_64 : (t : List ℤ) (a : Answer) (l : List ℤ) → Demand3 t a l → a.number ≡ 0 → ListValid whole (take a.words l)
    → (stack : List ℕ) (vars marks : List ℤ) (limit : ℕ) → T (holds whole (state_of vars marks) (tree t).pre)
    → Safe whole t (machine_run mode_64 t stack vars marks limit)
unfolding Demand3
safe_64 t a l promise e valid stack vars marks limit pre =
    safe mode_64 t stack vars marks (promise e valid (state_of vars marks) pre) limit
