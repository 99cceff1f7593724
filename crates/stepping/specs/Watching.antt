-- 02, P11, calls with higher limits. A call that did not stop with 54 is the same with every higher limit (`settled`). One that did can
-- be gone on with from what it left: `machine_on` then does what the first call would have done with the limits added, its steps
-- added (`goes_on`; of `machine_run` `run_then_on`, of `machine_on` `on_then_on`). A caller who watches a script step by step relies
-- on that.
-- Argument: plays go on (`Onward`), and the rows left are read back from the words of the stack. Assumes nothing.
use Prim.Native.Nat.{ℕ, ◌+◌, ◌-◌, ◌≤◌}
use Rattle.std.specs.Prelude.{◌≡◌, ◌≢◌, Bool, true, false, cond, ◌||◌, ℤ, eqb, take}
use Rattle.std.proofs.Common.{sym, ◌∙◌, arith as linear, le-ltb, eq-eqb, ne_eqb, length-append, take_at}
use Rattle.std.proofs.Math.Path.{ap}
use mathlib.Core.List.{List, [], ◌∷◌, ◌++◌, reverse, reverse-reverse}
use Rattle.std.proofs.Math.ListN.{length, replicate}
use Rattle.std.proofs.lemmas.List.{length-replicate, length-reverse}
use Rattle.script.specs.Rows.{row, rows, variables}
use Rattle.theorems.specs.Numbers.{one_to_ten}
use Rattle.stepping.specs.Machine.{Mode, mark_values, Stopped, play, Ran, statement_of, shown, too_short, called, machine_run, machine_on}
use Rattle.stepping.specs.Calls.{Played, Call, table_refused, runs_short, plays, calls, called_refused, called_short, called_plays}
use Rattle.stepping.specs.Kept.{play_kept}
use Rattle.stepping.specs.Onward.{play_sum, counted_from, play_counted}

-- ---- the stack, read back

read_back : (st : List ℕ) (n : ℕ) → reverse (take (length st) (reverse st ++ replicate n 0)) ≡ st
read_back st n = ap reverse (take_at (reverse st) (replicate n 0) (length st) (length-reverse st)) ∙ reverse-reverse st

pub shown_length : (st : List ℕ) (n : ℕ) → length st ≤ n → length (reverse st ++ replicate (n - length st) 0) ≡ n
shown_length st n h =
    let a = length-append (reverse st) (replicate (n - length st) 0) in
    let b = length-reverse st in
    let c = length-replicate {A = ℕ} (n - length st) 0 in
    omega linear

no_test : {a b c : Bool} → a ≡ false → b ≡ false → c ≡ false → (a || (b || c)) ≡ false
no_test e f g = rw (e, f, g)

-- ---- a call, gone on with

-- steps added
abbrev pub more_steps : ℕ → Ran → Ran
more_steps n a = record {
  number = a.number;
  row = a.row;
  steps = n + a.steps;
  height = a.height;
  stack = a.stack;
  vars = a.vars;
  marks = a.marks;
}

module _ (M : Mode) (t : List ℤ) where
  roomy : (stack : List ℕ) (vars marks : List ℤ) (limit need : ℕ) → need ≤ length stack → variables ≤ length vars → mark_values ≤ length marks
      → too_short M t stack vars marks limit need ≡ false
  roomy stack vars marks limit need a b c =
      no_test (le-ltb (length stack) need a) (le-ltb (length vars) variables b) (le-ltb (length marks) mark_values c)

  module _ (stack : List ℕ) (vars marks : List ℤ) (a b need : ℕ) (begun : List ℕ) where
    -- what is left by a play that goes on
    abbrev left : Stopped
    left = play M t a 0 begun vars marks

    abbrev rest : Stopped
    rest = play M t b 0 left.held.stack left.held.vars left.held.marks

    longer : (c : Bool) → eqb left.number 54 ≡ c
        → play M t (a + b) 0 begun vars marks
        ≡ cond c (play M t b left.steps left.held.stack left.held.vars left.held.marks) left
    longer c e =
        play_sum M t a b 0 begun vars marks
        ∙ ap (λ d. cond d (play M t b left.steps left.held.stack left.held.vars left.held.marks) left) e

    spent_sum : left.number ≡ 54 → play M t (a + b) 0 begun vars marks ≡ counted_from M t left.steps rest
    spent_sum z =
        longer true (eq-eqb left.number 54 z)
        ∙ ap (λ n. play M t b n left.held.stack left.held.vars left.held.marks)
        (let e : left.steps ≡ left.steps + 0 = omega linear in e)
        ∙ play_counted M t b left.steps 0 left.held.stack left.held.vars left.held.marks

    module _ (p : Played M t stack vars marks a need begun) where
      sum_called : called M t stack vars marks (a + b) need begun
          ≡ shown M t stack vars marks (a + b) (play M t (a + b) 0 begun vars marks)
      sum_called =
          called_plays M t stack vars marks (a + b) need begun p.table
          (roomy stack vars marks (a + b) need p.room p.vars_room p.marks_room)

      -- the second call is played from what the first left
      on_played : length left.held.stack + rows t ≤ length stack → let r = shown M t stack vars marks a left in
          machine_on M t r.stack r.vars r.marks b r.height ≡ shown M t stack vars marks b rest
      unfolding machine_on
      on_played h =
          let r = shown M t stack vars marks a left in
          let st = left.held.stack in
          let same : length r.stack ≡ length stack = shown_length st (length stack) (omega linear) in
          let kept = play_kept M t p.accepts a 0 begun vars marks in
          let vl = kept.vars_length in
          let ml = kept.marks_length in
          let vr = p.vars_room in
          let mr = p.marks_room in
          called_plays M t r.stack r.vars r.marks b (length st + rows t) (reverse (take (length st) r.stack)) p.table
          (roomy r.stack r.vars r.marks b (length st + rows t) (omega linear) (omega linear) (omega linear))
          ∙ ap (λ rs. shown M t r.stack r.vars r.marks b (play M t b 0 rs r.vars r.marks)) (read_back st (length stack - length st))
          ∙ ap (λ n. shown_within n rest) same
        where
          -- what is shown depends on the length of the stack alone
          shown_within : ℕ → Stopped → Ran
          shown_within n q = record {
            number = q.number;
            row = q.row;
            steps = q.steps;
            height = length q.held.stack;
            stack = reverse q.held.stack ++ replicate (n - length q.held.stack) 0;
            vars = q.held.vars;
            marks = q.held.marks;
          }

    call_goes_on : {r : Ran} → Call M t stack vars marks a need begun r → r.number ≡ 54 → r.height + rows t ≤ length stack
        → called M t stack vars marks (a + b) need begun ≡ more_steps r.steps (machine_on M t r.stack r.vars r.marks b r.height)
    call_goes_on (table_refused {n = n} {r = k} h) z l = let w = one_to_ten t n k h in absurd (omega linear)
    call_goes_on (runs_short h e) z l = absurd (omega linear)
    call_goes_on (plays p) z l =
        sum_called p ∙ ap (shown M t stack vars marks (a + b)) (spent_sum z) ∙ ap (more_steps left.steps) (sym (on_played p l))

    call_settled : {r : Ran} → Call M t stack vars marks a need begun r → r.number ≢ 54 → called M t stack vars marks (a + b) need begun ≡ r
    call_settled (table_refused h) z = called_refused M t stack vars marks (a + b) need begun h
    call_settled (runs_short h e) z = called_short M t stack vars marks (a + b) need begun h e
    call_settled (plays p) z = sum_called p ∙ ap (shown M t stack vars marks (a + b)) (longer false (ne_eqb left.number 54 z))

  pub goes_on : (stack : List ℕ) (vars marks : List ℤ) (a b need : ℕ) (begun : List ℕ) → let r = called M t stack vars marks a need begun in
      r.number ≡ 54 → r.height + rows t ≤ length stack
      → called M t stack vars marks (a + b) need begun ≡ more_steps r.steps (machine_on M t r.stack r.vars r.marks b r.height)
  goes_on stack vars marks a b need begun = call_goes_on stack vars marks a b need begun (calls M t stack vars marks a need begun)

  pub settled : (stack : List ℕ) (vars marks : List ℤ) (a b need : ℕ) (begun : List ℕ) → (called M t stack vars marks a need begun).number ≢ 54
      → called M t stack vars marks (a + b) need begun ≡ called M t stack vars marks a need begun
  settled stack vars marks a b need begun = call_settled stack vars marks a b need begun (calls M t stack vars marks a need begun)

  -- ---- the two entries

  pub run_then_on : (stack : List ℕ) (vars marks : List ℤ) (a b : ℕ) → let r = machine_run M t stack vars marks a in
      r.number ≡ 54 → r.height + rows t ≤ length stack
      → machine_run M t stack vars marks (a + b) ≡ more_steps r.steps (machine_on M t r.stack r.vars r.marks b r.height)
  unfolding machine_run
  run_then_on stack vars marks a b = goes_on stack vars marks a b (rows t) (statement_of (row t (rows t - 1)) ∷ [])

  pub on_then_on : (stack : List ℕ) (vars marks : List ℤ) (a b height : ℕ) → let r = machine_on M t stack vars marks a height in
      r.number ≡ 54 → r.height + rows t ≤ length stack
      → machine_on M t stack vars marks (a + b) height
      ≡ more_steps r.steps (machine_on M t r.stack r.vars r.marks b r.height)
  unfolding machine_on
  on_then_on stack vars marks a b height = goes_on stack vars marks a b (height + rows t) (reverse (take height stack))
