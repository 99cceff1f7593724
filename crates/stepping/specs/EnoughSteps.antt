-- 02, P11: a limit that the bound on steps gives is never spent in vain. Where the run's passes are bounded and its arrivals are at
-- variants of at most `top`, no call with a limit of at least `most_steps top` of the script's statement answers 54 (`never_spent`).
-- So of a script whose run is totally correct: the answer of a call that is played is 0 or 50 (`ends_or_leaves`); and so where its
-- conditions are proved (`proved_enough`, in whole numbers `proved_enough_64`).
-- Argument: after so many steps the run is over (`StepBound`), and 54 is given only where it is not (`CallAnswers`). Assumes nothing.
use Rattle.std.specs.Prelude.{ℕ, ◌-◌, ◌≤◌, ◌≡◌, refl, ◌≢◌, ◌⊎◌, false, List, [], ◌∷◌, T, ℤ, take}
use Rattle.std.proofs.Common.{sym, ◌∙◌, subst, inl, inr, arith as linear}
use Rattle.script.specs.declared.Answer.{Answer}
use Rattle.script.specs.Meaning.{Arithmetic, whole, holds}
use Rattle.script.specs.Run.{begin, Config, at, failed, after, start, Good, TotalCorrectness}
use Rattle.script.specs.Rows.{row, rows}
use Rattle.script.specs.Trees.{tree}
use Rattle.script.specs.Refusals.{accepted, verdict}
use Rattle.script.specs.Generated.{outcome}
use Rattle.script.specs.Promise.{ListValid, Demand3}
use Rattle.theorems.specs.Numbers.{one_to_ten}
use Rattle.theorems.specs.Demand.{keeps}
use Rattle.stepping.specs.Machine.{Mode, mode_64, state_of, Ran, statement_of, too_short, machine_run}
use Rattle.stepping.specs.Within.{Waits}
use Rattle.stepping.specs.Answers.{Place, at_end, out_of_range, at_false, at_zero, at_limit, spent_at}
use Rattle.stepping.specs.Calls.{start_frames, played, Call, table_refused, runs_short, plays, calls}
use Rattle.stepping.specs.CallAnswers.{call_place, run_place}
use Rattle.stepping.specs.Proved.{safe}
use Rattle.stepping.specs.StepBound.{most_steps, ArrivedWithin, Fine, potential, Over, has_ended, has_failed, AlwaysFine, run_bounded}

-- a run that waits is not over
not_over : {X : Type 0} {𝔸 : Arithmetic} {x : Config} {limit : ℕ} → Waits 𝔸 x limit → {g : Config} → after 𝔸 limit x ≡ g → Over g → X
not_over w e has_ended = let h : at w.frames w.state ≡ at [] _ = sym w.comes ∙ e in absurd (w.some (cc))
not_over w e has_failed =
    absurd (let h = sym w.comes ∙ e in let z : ◌≡◌ {A = ℕ} 0 1 = cc in omega linear)

-- of each moment of a run, that the loops it is in were arrived at with variants of at most `top`
abbrev pub Arrivals : ℕ → Config → Type 0
Arrivals top (at k s) = ArrivedWithin top k
Arrivals top (failed c x) = Unit {0}

fine_moment : (top : ℕ) (g : Config) → Good g → Arrivals top g → Fine top g
fine_moment top (at k s) h l = (h, l)
fine_moment top (failed c x) h l = tt

module _ (M : Mode) (t : List ℤ) (stack : List ℕ) (vars marks : List ℤ) (limit top : ℕ) where
  abbrev 𝔸 : Arithmetic
  𝔸 = M.arithmetic

  abbrev x : Config
  x = start (tree t) (state_of vars marks)

  abbrev begun : List ℕ
  begun = statement_of (row t (rows t - 1)) ∷ []

  module _ (fine : AlwaysFine 𝔸 top x) (enough : most_steps top (tree t).body ≤ limit) where
    over : Over (after 𝔸 limit x)
    unfolding potential
    over = run_bounded 𝔸 top limit (begin (tree t).body ∷ []) (state_of vars marks) fine (omega linear)

    call_never_spent : {a : Ran} → Call M t stack vars marks limit (rows t) begun a → a.number ≢ 54
    call_never_spent (table_refused {n = n} {r = r} h) e = let k = one_to_ten t n r h in omega linear
    call_never_spent (runs_short h s) e = omega linear
    call_never_spent (plays p) e =
        let n = (played M t stack vars marks limit (rows t) begun).number in
        let r = (played M t stack vars marks limit (rows t) begun).row in
        let told = subst (λ y. Place t 𝔸 y limit n r) (start_frames t p.accepts (state_of vars marks))
        (call_place M t stack vars marks limit (rows t) begun p) in
        not_over (spent_at t 𝔸 x limit n r told e) refl over

    pub never_spent : (machine_run M t stack vars marks limit).number ≢ 54
    unfolding machine_run
    never_spent = call_never_spent (calls M t stack vars marks limit (rows t) begun)

  -- ---- proved scripts

  module _ (arrivals : (n : ℕ) → Arrivals top (after 𝔸 n x)) (enough : most_steps top (tree t).body ≤ limit) where
    pub total_never_spent : TotalCorrectness 𝔸 (tree t) (state_of vars marks) → (machine_run M t stack vars marks limit).number ≢ 54
    total_never_spent total = never_spent (λ n. fine_moment top (after 𝔸 n x) (total.good n) (arrivals n)) enough

    pub ends_or_leaves : TotalCorrectness 𝔸 (tree t) (state_of vars marks) → verdict t ≡ accepted
        → too_short M t stack vars marks limit (rows t) ≡ false
        → ((machine_run M t stack vars marks limit).number ≡ 0) ⊎ ((machine_run M t stack vars marks limit).number ≡ 50)
    ends_or_leaves total ok room = by (run_place M t stack vars marks limit ok room)
      where
        a : Ran
        a = machine_run M t stack vars marks limit

        by : Place t 𝔸 x limit a.number a.row → (a.number ≡ 0) ⊎ (a.number ≡ 50)
        by (at_end z h) = inl z
        by (out_of_range z) = inr z
        by (at_false z h) = absurd ((safe M t stack vars marks total limit).never_false z)
        by (at_zero z h) = absurd ((safe M t stack vars marks total limit).never_zero z)
        by (at_limit z h) = absurd (total_never_spent total z)

    -- of what the generator leaves with an answer, for lists and scratch of these lengths
    pub proved_enough : (list scratch : ℕ) → let o = outcome t list scratch in
        o.answer.number ≡ 0 → ListValid 𝔸 (take o.answer.words o.list) → T (holds 𝔸 (state_of vars marks) (tree t).pre)
        → (machine_run M t stack vars marks limit).number ≢ 54
    proved_enough list scratch e valid pre = total_never_spent (keeps t list scratch 𝔸 e valid (state_of vars marks) pre)

-- of demand 3, whatever the list and the answer are from
pub proved_enough_64 : (t : List ℤ) (a : Answer) (l : List ℤ) → Demand3 t a l → a.number ≡ 0 → ListValid whole (take a.words l)
    → (stack : List ℕ) (vars marks : List ℤ) (limit top : ℕ) → T (holds whole (state_of vars marks) (tree t).pre)
    → ((n : ℕ) → Arrivals top (after whole n (start (tree t) (state_of vars marks)))) → most_steps top (tree t).body ≤ limit
    → (machine_run mode_64 t stack vars marks limit).number ≢ 54
unfolding Demand3
proved_enough_64 t a l promise e valid stack vars marks limit top pre arrivals enough =
    total_never_spent mode_64 t stack vars marks limit top arrivals enough (promise e valid (state_of vars marks) pre)
