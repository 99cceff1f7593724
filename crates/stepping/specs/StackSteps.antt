-- 02, P11, which rows a call leaves: where the table is accepted and nothing is too short, `machine_run` leaves a stack that is `Proper`, and
-- with a number that is not 0 the row answered is that of a statement that is no sequence, with which the next row on the stack begins
-- (`LeftRows`; `run_rows`; `on_rows` where the stack lent is proper).
-- Argument: a step begins what is in the statement due, or tests its loop again; by induction on the limit. In this order: a step, plays,
-- calls. Assumes nothing.
use Prim.Native.Nat.{ℕ, zero, suc, ◌+◌, ◌-◌}
use Rattle.std.specs.Prelude.{◌≡◌, ◌≢◌, Bool, true, false, cond, ℤ, length, take, replicate}
use Rattle.std.proofs.Math.Path.{refl, subst⁻¹}
use mathlib.Core.List.{List, [], ◌∷◌, ◌++◌, reverse}
use Rattle.script.specs.declared.RowNumber.{RowNumber}
use Rattle.script.specs.declared.StatementRow.{StatementRow}
use Rattle.script.specs.declared.StatementRow.TheVariants.{Skip, Assign, Sequence, If, While, Assert}
use Rattle.script.specs.declared.Row.{Row}
use Rattle.script.specs.declared.Sort.TheVariants.{Formula, Note}
use Rattle.script.specs.Rows.{row, rows, sort_of}
use Rattle.script.specs.Trees.{expr_at, formula_at}
use Rattle.script.specs.Refusals.{accepted, verdict, same_sort}
use Rattle.theorems.specs.Accepted.{Accepted, passed}
use Rattle.stepping.specs.Values.{Mode, Worked, got, stop, work, judge}
use Rattle.stepping.specs.Machine.{Held, hold, state_of, next, Stepped, on, faulty, untrue, carry, done, act, pass, if_note, if_statement, machine_step, Stopped, proceed, play, Ran, statement_of, too_short, called, machine_run, machine_on}
use Rattle.stepping.specs.Stands.{second_of}
use Rattle.stepping.specs.Calls.{played, called_plays}
use Rattle.stepping.specs.StackRows.{SingleRow, of_sort, itself, in_then, in_else, again_after, BeginsFirst, Proper, still_over, sorts, third_sort, is_sort, due_proper, next_begins, due_row, start_row}

-- ---- a step

module _ (t : List ℤ) (ok : Accepted t) where
  abbrev pub Properˢ : Stepped → Type 0
  Properˢ (on h) = Proper t h.stack
  Properˢ (faulty x) = Unit {0}
  Properˢ untrue = Unit {0}

  carry_proper : {A : Type 0} (w : Worked A) (f : A → Stepped) → ((a : A) → Properˢ (f a)) → Properˢ (carry w f)
  carry_proper (got a) f h = h a
  carry_proper (stop x) f h = tt

  cond_proper : (b : Bool) (x y : Stepped) → Properˢ x → Properˢ y → Properˢ (cond b x y)
  cond_proper true x y h k = h
  cond_proper false x y h k = k

  side_proper : (c : Bool) (r : ℕ) (rest : List ℕ) (b x y : RowNumber) → row t r ≡ Row.Statement (If b x y) → Proper t (r ∷ rest)
      → Proper t (cond c x.0 y.0 ∷ rest)
  side_proper true r rest b x y e h = (
    of_sort t ok x.0 (row t x.0) refl
        (second_of (same_sort (sort_of (row t b.0)) Formula) (is_sort t ok x.0) (is_sort t ok y.0) (sorts t ok r e)),
    still_over t rest (in_then e itself) h.1,
    h.2,
  )
  side_proper false r rest b x y e h = (
    of_sort t ok y.0 (row t y.0) refl
        (third_sort t ok (same_sort (sort_of (row t b.0)) Formula) (is_sort t ok x.0) (is_sort t ok y.0) (sorts t ok r e)),
    still_over t rest (in_else e itself) h.1,
    h.2,
  )

  pass_proper : (r : ℕ) (rest : List ℕ) (b i x : RowNumber) → row t r ≡ Row.Statement (While b i x) → Proper t (r ∷ rest)
      → Proper t (x.0 ∷ r ∷ rest)
  pass_proper r rest b i x e h = (
    of_sort t ok x.0 (row t x.0) refl
        (third_sort t ok (same_sort (sort_of (row t b.0)) Formula) (same_sort (sort_of (row t i.0)) Note) (is_sort t ok x.0) (sorts t ok r e)),
    again_after e itself,
    h,
  )

  module _ (M : Mode) where
    act_proper : (r : ℕ) (rest : List ℕ) (vars marks : List ℤ) (w : StatementRow) → row t r ≡ Row.Statement w → Proper t (r ∷ rest)
        → Properˢ (act M t rest vars marks r w)
    act_proper r rest vars marks Skip e h = h.2
    act_proper r rest vars marks (Assign v x) e h = carry_proper (work M (state_of vars marks) true (expr_at t x.0)) _ (λ z. h.2)
    act_proper r rest vars marks (Sequence a b) e h = h.2
    act_proper r rest vars marks (If b x y) e h =
        carry_proper (judge M (state_of vars marks) true (formula_at t b.0)) _ (λ c. side_proper c r rest b x y e h)
    act_proper r rest vars marks (While b i x) e h =
        carry_proper (judge M (state_of vars marks) true (formula_at t b.0)) _ (λ c. cond_proper c _ _ (by (row t i.0)) h.2)
      where
        by : (n : Row) → Properˢ (if_note (done M t rest vars marks) (pass M t rest vars marks r x.0) n)
        by (Row.Note f v) = carry_proper (work M (state_of vars marks) false (expr_at t v.0)) _ (λ z. pass_proper r rest b i x e h)
        by (Row.Statement w) = h.2
        by (Row.Expression w) = h.2
        by (Row.Formula w) = h.2
        by (Row.Script p s q) = h.2
        by Row.Unknown = h.2
    act_proper r rest vars marks (Assert f) e h =
        carry_proper (judge M (state_of vars marks) false (formula_at t f.0)) _ (λ c. cond_proper c _ _ h.2 tt)

    pub step_proper : (r : ℕ) (rest : List ℕ) (vars marks : List ℤ) → Proper t (r ∷ rest) → Properˢ (machine_step M t r rest vars marks)
    unfolding machine_step
    step_proper r rest vars marks h =
        let d = next t r rest in by d.at d.rest (row t d.at) refl (due_proper t ok (rows t) r rest h)
      where
        by : (k : ℕ) (more : List ℕ) (w : Row) → row t k ≡ w → Proper t (k ∷ more)
            → Properˢ (if_statement (done M t more vars marks) (act M t more vars marks k) w)
        by k more (Row.Statement w) e p = act_proper k more vars marks w e p
        by k more (Row.Expression w) e p = p.2
        by k more (Row.Formula w) e p = p.2
        by k more (Row.Note i v) e p = p.2
        by k more (Row.Script a s q) e p = p.2
        by k more Row.Unknown e p = p.2

    -- ---- plays

    -- what is left where the machine stops
    pub record WellStopped (p : Stopped) : Type 0 where
      pub proper : Proper t p.held.stack
      pub due_single : p.number ≢ 0 → SingleRow t p.row
      pub due_first : p.number ≢ 0 → BeginsFirst t p.row p.held.stack

    proceed_proper : (more : Held → Stopped) (steps r : ℕ) (k : Held) (x : Stepped) → ((h : Held) → Proper t h.stack → WellStopped (more h))
        → Proper t k.stack → SingleRow t r → BeginsFirst t r k.stack → Properˢ x → WellStopped (proceed M t more steps r k x)
    proceed_proper more steps r k (on h) go l d b p = go h p
    proceed_proper more steps r k (faulty x) go l d b p = record { proper = l; due_single = λ n. d; due_first = λ n. b }
    proceed_proper more steps r k untrue go l d b p = record { proper = l; due_single = λ n. d; due_first = λ n. b }

    pub play_proper : (limit steps : ℕ) (stack : List ℕ) (vars marks : List ℤ) → Proper t stack
        → WellStopped (play M t limit steps stack vars marks)
    unfolding play
    play_proper zero steps [] vars marks h = record { proper = tt; due_single = λ n. absurd (n refl); due_first = λ n. absurd (n refl) }
    play_proper zero steps (r ∷ rest) vars marks h = record { proper = h; due_single = λ n. due_row t ok r rest h; due_first = λ n. next_begins t ok r rest }
    play_proper (suc limit) steps [] vars marks h = record { proper = tt; due_single = λ n. absurd (n refl); due_first = λ n. absurd (n refl) }
    play_proper (suc limit) steps (r ∷ rest) vars marks h =
        proceed_proper _ steps (next t r rest).at (hold (r ∷ rest) vars marks) (machine_step M t r rest vars marks)
        (λ k l. play_proper limit (suc steps) k.stack k.vars k.marks l) h (due_row t ok r rest h) (next_begins t ok r rest) (step_proper r rest vars marks h)

-- ---- calls

module _ (M : Mode) (t : List ℤ) (stack : List ℕ) (vars marks : List ℤ) (limit : ℕ) where
  -- the rows left by a call that answers a, and its row
  pub record LeftRows (a : Ran) : Type 0 where
    pub rows_left : List ℕ
    pub stacked : a.stack ≡ reverse rows_left ++ replicate (length stack - length rows_left) 0
    pub high : a.height ≡ length rows_left
    pub proper : Proper t rows_left
    pub due_single : a.number ≢ 0 → SingleRow t a.row
    pub due_first : a.number ≢ 0 → BeginsFirst t a.row rows_left

  module _ (accepts : verdict t ≡ accepted) where
    pub called_rows : (need : ℕ) (begun : List ℕ) → Proper t begun → too_short M t stack vars marks limit need ≡ false
        → LeftRows (called M t stack vars marks limit need begun)
    called_rows need begun h e =
        let p = played M t stack vars marks limit need begun in
        let w = play_proper t (passed t accepts) M limit 0 begun vars marks h in
        subst⁻¹ LeftRows (called_plays M t stack vars marks limit need begun accepts e)
        (record { rows_left = p.held.stack; stacked = refl; high = refl; proper = w.proper; due_single = w.due_single; due_first = w.due_first })

    pub run_rows : too_short M t stack vars marks limit (rows t) ≡ false → LeftRows (machine_run M t stack vars marks limit)
    unfolding machine_run
    run_rows = called_rows (rows t) (statement_of (row t (rows t - 1)) ∷ []) (start_row t (passed t accepts), tt, tt)

    pub on_rows : (height : ℕ) → Proper t (reverse (take height stack)) → too_short M t stack vars marks limit (height + rows t) ≡ false
        → LeftRows (machine_on M t stack vars marks limit height)
    unfolding machine_on
    on_rows height h = called_rows (height + rows t) (reverse (take height stack)) h
