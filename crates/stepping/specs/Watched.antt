-- 02, P11, for a caller who watches a script: no call changes the stack's length (`run_length`, `on_length`); with a stack of twice as many
-- words as the table has rows a run can always be gone on with (`run_goes_on`); and any number of calls that go on, each with its limit and
-- as long as the limit is spent, are one call with the limits added (`watched_is_run`; step by step: `single_steps`). So of a script
-- whose run is totally correct they are safe (`watched_safe`).
-- Argument: stacks keep within the table's rows (`Heights`); calls gone on with add up (`Watching`). Assumes nothing.
use Rattle.std.specs.Prelude.{ℕ, zero, suc, ◌+◌, ◌*◌, ◌-◌, ◌≤◌, ◌≡◌, Bool, ℤ, length, take, replicate}
use Rattle.std.proofs.Math.Path.{refl, sym, subst⁻¹}
use Rattle.std.proofs.Common.{ap, ◌∙◌, arith as linear, eqb-true}
use Rattle.std.proofs.Math.Bool.{true, false, cond}
use mathlib.Core.List.{List, [], ◌∷◌, reverse}
use Rattle.std.proofs.lemmas.Bool.{eqb-false}
use Rattle.std.proofs.Math.Dec.{eqb}
use Rattle.std.proofs.Math.ListN.{length-reverse}
use Rattle.std.proofs.Math.Seq.{length-take-le}
use Rattle.script.specs.Run.{TotalCorrectness}
use Rattle.script.specs.Rows.{row, rows}
use Rattle.script.specs.Trees.{tree}
use Rattle.theorems.specs.Accepted.{Accepted}
use Rattle.stepping.specs.Machine.{Mode, state_of, play, Ran, statement_of, machine_run, machine_on}
use Rattle.stepping.specs.Heights.{run_height, on_height}
use Rattle.stepping.specs.Calls.{Call, table_refused, runs_short, plays, calls}
use Rattle.stepping.specs.Watching.{shown_length, more_steps, run_then_on, settled}
use Rattle.stepping.specs.Proved.{Safe, safe}

module _ (M : Mode) (t : List ℤ) (stack : List ℕ) (vars marks : List ℤ) where
  -- ---- how long and how high the stack is

  module _ (limit : ℕ) where
    call_length : (need : ℕ) (begun : List ℕ) {a : Ran}
        → (need ≤ length stack → Accepted t → length (play M t limit 0 begun vars marks).held.stack ≤ need)
        → Call M t stack vars marks limit need begun a → length a.stack ≡ length stack
    call_length need begun high (table_refused h) = refl
    call_length need begun high (runs_short h e) = refl
    call_length need begun high (plays p) =
        let fits = high p.room p.accepts in
        let room = p.room in
        shown_length (play M t limit 0 begun vars marks).held.stack (length stack) (omega linear)

    pub run_length : length (machine_run M t stack vars marks limit).stack ≡ length stack
    unfolding machine_run
    run_length =
        let begun = statement_of (row t (rows t - 1)) ∷ [] in
        call_length (rows t) begun (λ l ok. run_height t ok M limit vars marks) (calls M t stack vars marks limit (rows t) begun)

    pub on_length : (height : ℕ) → length (machine_on M t stack vars marks limit height).stack ≡ length stack
    unfolding machine_on
    on_length height =
        let begun = reverse (take height stack) in
        call_length (height + rows t) begun (λ l ok.
        let most = on_height t ok M limit begun vars marks in
        let same = length-reverse (take height stack) in
        let cut = length-take-le height stack (omega linear) in
        omega linear)
        (calls M t stack vars marks limit (height + rows t) begun)

    call_low : (a : Ran) → Call M t stack vars marks limit (rows t) (statement_of (row t (rows t - 1)) ∷ []) a → a.height ≤ rows t
    call_low a (table_refused h) = omega linear
    call_low a (runs_short h e) = omega linear
    call_low a (plays p) = run_height t p.accepts M limit vars marks

    pub run_low : (machine_run M t stack vars marks limit).height ≤ rows t
    unfolding machine_run
    run_low = call_low _ (calls M t stack vars marks limit (rows t) (statement_of (row t (rows t - 1)) ∷ []))

  -- ---- calls gone on with

  abbrev pub run : ℕ → Ran
  run limit = machine_run M t stack vars marks limit

  -- what a caller does with an answer: where the limit was spent, one more call with so many steps, counted on
  abbrev pub gone_on : ℕ → Ran → Ran
  gone_on more r =
      cond (eqb r.number 54) (more_steps r.steps (machine_on M t r.stack r.vars r.marks more r.height)) r

  -- and so on with these limits
  abbrev pub watched : Ran → List ℕ → Ran
  watched r [] = r
  watched r (n ∷ ns) = watched (gone_on n r) ns

  abbrev pub total : ℕ → List ℕ → ℕ
  total limit [] = limit
  total limit (n ∷ ns) = total (limit + n) ns

  module _ (room : 2 * rows t ≤ length stack) where
    pub run_goes_on : (limit more : ℕ) → let r = run limit in
        r.number ≡ 54 → run (limit + more) ≡ more_steps r.steps (machine_on M t r.stack r.vars r.marks more r.height)
    run_goes_on limit more z = run_then_on M t stack vars marks limit more z (let low = run_low limit in omega linear)

    gone_on_is_run : (limit more : ℕ) → gone_on more (run limit) ≡ run (limit + more)
    unfolding machine_run
    gone_on_is_run limit more = by (eqb (run limit).number 54) refl
      where
        by : (b : Bool) → eqb (run limit).number 54 ≡ b
            → cond b (more_steps (run limit).steps
            (machine_on M t (run limit).stack (run limit).vars (run limit).marks more (run limit).height)) (run limit)
            ≡ run (limit + more)
        by true e = sym (run_goes_on limit more (eqb-true (run limit).number 54 e))
        by false e =
            sym (settled M t stack vars marks limit more (rows t) (statement_of (row t (rows t - 1)) ∷ []) (eqb-false (run limit).number 54 e))

    pub watched_is_run : (limit : ℕ) (limits : List ℕ) → watched (run limit) limits ≡ run (total limit limits)
    watched_is_run limit [] = refl
    watched_is_run limit (n ∷ ns) = ap (λ r. watched r ns) (gone_on_is_run limit n) ∙ watched_is_run (limit + n) ns

    ones : (limit k : ℕ) → total limit (replicate k 1) ≡ limit + k
    ones limit zero = omega linear
    ones limit (suc k) = ones (limit + 1) k ∙ (let e : limit + 1 + k ≡ limit + suc k = omega linear in e)

    -- k single steps
    pub single_steps : (limit k : ℕ) → watched (run limit) (replicate k 1) ≡ run (limit + k)
    single_steps limit k = watched_is_run limit (replicate k 1) ∙ ap run (ones limit k)

    pub watched_safe : TotalCorrectness M.arithmetic (tree t) (state_of vars marks) → (limit : ℕ) (limits : List ℕ)
        → Safe M.arithmetic t (watched (run limit) limits)
    watched_safe correct limit limits =
        subst⁻¹ (Safe M.arithmetic t) (watched_is_run limit limits) (safe M t stack vars marks correct (total limit limits))
