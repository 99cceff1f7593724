-- 02, P11, what a call answers: its numbers are 1 to 10, 51, 0, 50, 52, 53 and 54 (`call_number`), its steps are at most the limit
-- (`call_steps`), and at number 0 the row and the height are 0 and the stack is all zeros (`call_end`). Where the table is
-- accepted and nothing is too short: the run is where the machine stopped, after as many steps (`run_comes`, `on_comes`), and the
-- number says where it is (`run_place`, `on_place`; where it is not 50, both ways: `run_answers`, `on_answers`).
-- Argument: a play is `Reached`, whose numbers are those of `Answers`. Assumes nothing.
use Rattle.std.specs.Prelude.{ℕ, ◌+◌, ◌-◌, ◌≤◌, ◌≡◌, refl, ◌≢◌, List, [], ◌∷◌, ◌++◌, reverse, false, ℤ, length, take, replicate}
use Rattle.std.proofs.Common.{ap, ◌∙◌, arith as linear}
use Rattle.std.proofs.Math.Path.{subst, subst⁻¹}
use Rattle.script.specs.Meaning.{State}
use Rattle.script.specs.Run.{Frame, Config, at, start, after}
use Rattle.script.specs.Rows.{row, rows}
use Rattle.script.specs.Trees.{tree}
use Rattle.script.specs.Refusals.{accepted, verdict}
use Rattle.theorems.specs.Accepted.{passed}
use Rattle.theorems.specs.Numbers.{one_to_ten}
use Rattle.stepping.specs.Machine.{Mode, state_of, Stopped, Ran, statement_of, shown, too_short, called, machine_run, machine_on}
use Rattle.stepping.specs.StepForStep.{Stands, nothing, begins, tests_again}
use Rattle.stepping.specs.Reached.{Stops, ends, leaves_range, denied, divided, waits, RowDue, ended_frames}
use Rattle.stepping.specs.Within.{Answers}
use Rattle.stepping.specs.Answers.{Place, place, answers}
use Rattle.stepping.specs.Calls.{frames_of, start_frames, played, begins_at, Played, Call, table_refused, runs_short, plays, accepted_plays, called_plays}

-- the numbers that can occur
pub data Number (n : ℕ) : Type 0 where
  ended : n ≡ 0 → Number n
  of_the_table : 1 ≤ n → n ≤ 10 → Number n
  out_of_range : n ≡ 50 → Number n
  too_little : n ≡ 51 → Number n
  false_assertion : n ≡ 52 → Number n
  zero_divisor : n ≡ 53 → Number n
  limit_spent : n ≡ 54 → Number n

module _ (M : Mode) (t : List ℤ) (stack : List ℕ) (vars marks : List ℤ) (limit : ℕ) where
  -- where the run from x is when the call answers a
  pub record ComesTo (x : Config) (a : Ran) : Type 0 where
    pub frames : List Frame
    pub comes : after M.arithmetic a.steps x ≡ at frames (state_of a.vars a.marks)
    pub rows_left : List ℕ
    pub stands : Stands t rows_left frames
    pub stacked : a.stack ≡ reverse rows_left ++ replicate (length stack - length rows_left) 0
    pub high : a.height ≡ length rows_left
    pub row_due : RowDue t M frames a.row

  module _ (need : ℕ) (begun : List ℕ) where
    abbrev C : Ran → Type 0
    C = Call M t stack vars marks limit need begun

    stop_number : {k : List Frame} {s : State} {m : ℕ} {p : Stopped} → Stops t M k s m limit p → Number p.number
    stop_number (ends z e) = ended z
    stop_number (leaves_range z e l g) = out_of_range z
    stop_number (denied z l e) = false_assertion z
    stop_number (divided z l e) = zero_divisor z
    stop_number (waits z e n) = limit_spent z

    pub call_number : {a : Ran} → C a → Number a.number
    call_number (table_refused {n} {r} h) = let k = one_to_ten t n r h in of_the_table k.0 k.1
    call_number (runs_short h e) = too_little refl
    call_number (plays p) = stop_number p.reaches.stops

    pub call_steps : {a : Ran} → C a → a.steps ≤ limit
    call_steps (table_refused h) = omega linear
    call_steps (runs_short h e) = omega linear
    call_steps (plays p) = let q = p.reaches in let c = q.counted in let l = q.allowed in omega linear

    -- at the end nothing is left on the stack, and no row is due
    pub record AtEnd (a : Ran) : Type 0 where
      pub no_row : a.row ≡ 0
      pub no_height : a.height ≡ 0
      pub all_zeros : a.stack ≡ replicate (length stack) 0

    nothing_left : {k : List Frame} {rs : List ℕ} → Stands t rs k → k ≡ [] → rs ≡ []
    nothing_left nothing e = refl
    nothing_left (begins st) e = absurd (let z : ◌≡◌ {A = ℕ} 0 1 = cc in omega linear)
    nothing_left (tests_again h g g' st) e = absurd (let z : ◌≡◌ {A = ℕ} 0 1 = cc in omega linear)

    zeros_left : (p : Stopped) → p.row ≡ 0 → p.held.stack ≡ [] → AtEnd (shown M t stack vars marks limit p)
    zeros_left p r e = record {
      no_row = r;
      no_height = ap length e;
      all_zeros = ap (λ (rs : List ℕ). reverse rs ++ replicate (length stack - length rs) 0) e
          ∙ ap (λ n. replicate n 0) (let none : length stack - 0 ≡ length stack = omega linear in none);
    }

    pub call_end : {a : Ran} → C a → a.number ≡ 0 → AtEnd a
    call_end (table_refused {n} {r} h) z = let k = one_to_ten t n r h in absurd (omega linear)
    call_end (runs_short h e) z = absurd (omega linear)
    call_end (plays p) z =
        let q = p.reaches in
        let none = ended_frames t M q.stops z in
        zeros_left (played M t stack vars marks limit need begun) (subst (λ (f : List Frame). RowDue t M f _) none q.row_due)
        (nothing_left q.follows.stands none)

    -- ---- a call that is played

    pub comes_to : Played M t stack vars marks limit need begun
        → ComesTo (begins_at M t stack vars marks limit need begun)
        (shown M t stack vars marks limit (played M t stack vars marks limit need begun))
    comes_to p =
        let q = p.reaches in
        record {
          frames = q.frames;
          comes = ap (λ j. after M.arithmetic j (begins_at M t stack vars marks limit need begun)) (q.counted ∙ omega linear)
              ∙ q.comes ∙ ap (at q.frames) q.follows.state;
          rows_left = (played M t stack vars marks limit need begun).held.stack;
          stands = q.follows.stands;
          stacked = refl;
          high = refl;
          row_due = q.row_due;
        }

    pub call_place : Played M t stack vars marks limit need begun
        → Place t M.arithmetic (begins_at M t stack vars marks limit need begun) limit
        (played M t stack vars marks limit need begun).number (played M t stack vars marks limit need begun).row
    call_place p =
        place t M (frames_of t begun) (state_of vars marks) limit (played M t stack vars marks limit need begun) p.reaches

  -- ---- the two entries

  module _ (accepts : verdict t ≡ accepted) where
    -- the place of the run is told with the number and the row
    abbrev Told : Config → Ran → Type 0
    Told x a = Place t M.arithmetic x limit a.number a.row

    module _ (need : ℕ) (begun : List ℕ) (e : too_short M t stack vars marks limit need ≡ false) where
      called_place : Told (begins_at M t stack vars marks limit need begun) (called M t stack vars marks limit need begun)
      called_place =
          subst⁻¹ (Told (begins_at M t stack vars marks limit need begun)) (called_plays M t stack vars marks limit need begun accepts e)
          (call_place need begun (accepted_plays M t stack vars marks limit need begun accepts e))

      called_comes : ComesTo (begins_at M t stack vars marks limit need begun) (called M t stack vars marks limit need begun)
      called_comes =
          subst⁻¹ (ComesTo (begins_at M t stack vars marks limit need begun)) (called_plays M t stack vars marks limit need begun accepts e)
          (comes_to need begun (accepted_plays M t stack vars marks limit need begun accepts e))

    module _ (e : too_short M t stack vars marks limit (rows t) ≡ false) where
      abbrev x : Config
      x = start (tree t) (state_of vars marks)

      abbrev a : Ran
      a = machine_run M t stack vars marks limit

      pub run_place : Place t M.arithmetic x limit a.number a.row
      unfolding machine_run
      run_place =
          subst (λ y. Told y a) (start_frames t (passed t accepts) (state_of vars marks))
          (called_place (rows t) (statement_of (row t (rows t - 1)) ∷ []) e)

      pub run_comes : ComesTo x a
      unfolding machine_run
      run_comes =
          subst (λ y. ComesTo y a) (start_frames t (passed t accepts) (state_of vars marks))
          (called_comes (rows t) (statement_of (row t (rows t - 1)) ∷ []) e)

      pub run_answers : a.number ≢ 50 → Answers M.arithmetic x limit a.number
      run_answers kept = answers t M.arithmetic x limit a.number a.row kept run_place

    module _ (height : ℕ) (e : too_short M t stack vars marks limit (height + rows t) ≡ false) where
      abbrev y : Config
      y = at (frames_of t (reverse (take height stack))) (state_of vars marks)

      abbrev b : Ran
      b = machine_on M t stack vars marks limit height

      pub on_place : Place t M.arithmetic y limit b.number b.row
      unfolding machine_on
      on_place = called_place (height + rows t) (reverse (take height stack)) e

      pub on_comes : ComesTo y b
      unfolding machine_on
      on_comes = called_comes (height + rows t) (reverse (take height stack)) e

      pub on_answers : b.number ≢ 50 → Answers M.arithmetic y limit b.number
      on_answers kept = answers t M.arithmetic y limit b.number b.row kept on_place
