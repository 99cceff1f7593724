-- 02, P11: "51 when the stack has fewer words than rows": so many are always enough. From the script's statement on the machine
-- never has more rows to do than the table has (`run_height`), and from any rows at all never more than these and as many as the
-- table has (`on_height`).
-- Argument: a row to do never becomes more rows than it has statements in it (`Sizes`), which each step keeps (`step_roomy`). In this
-- order: stacks that keep within a number, the statement due, a step, steps up to a limit, stacks to begin with. Assumes nothing.
use Prim.Native.Nat.{ℕ, zero, suc, ◌+◌, ◌-◌, ◌≤◌}
use Rattle.std.specs.Prelude.{◌≡◌, Bool, cond, ℤ, length}
use Rattle.std.proofs.Math.Path.{refl, ap}
use Rattle.std.proofs.Math.Bool.{true, false}
use mathlib.Core.List.{List, [], ◌∷◌}
use native.Mathlib.Omega.{arith as linear}
use Rattle.script.specs.declared.StatementRow.{StatementRow}
use Rattle.script.specs.declared.StatementRow.TheVariants.{Skip, Assign, Sequence, If, While, Assert}
use Rattle.script.specs.declared.Row.{Row}
use Rattle.script.specs.Rows.{row, rows}
use Rattle.script.specs.Trees.{expr_at, formula_at, stmt_at}
use Rattle.theorems.specs.Accepted.{Accepted}
use Rattle.theorems.specs.RowTrees.{stmt_is}
use Rattle.stepping.specs.Values.{Mode, Worked, got, stop}
use Rattle.stepping.specs.Places.{statement_inside}
use Rattle.stepping.specs.Sizes.{size, some_size, row_size}
use Rattle.stepping.specs.Machine.{Held, hold, Due, due_at, due_statement, due, next, Stepped, on, faulty, untrue, carry, done, act, pass, if_note, if_statement, machine_step, Stopped, proceed, play, statement_of, state_of, work, judge}

-- ---- a stack that keeps within N, whatever becomes of its rows

abbrev pub Roomy : List ℤ → ℕ → List ℕ → Type 0
Roomy t N [] = Unit {0}
Roomy t N (r ∷ rest) = (size (stmt_at t r) + length rest ≤ N) × Roomy t N rest

pub roomy_length : (t : List ℤ) (N : ℕ) (stack : List ℕ) → Roomy t N stack → length stack ≤ N
roomy_length t N [] h = omega linear
roomy_length t N (r ∷ rest) h = let p = some_size (stmt_at t r) in let q = h.0 in omega linear

pub roomy_more : (t : List ℤ) {N N' : ℕ} (stack : List ℕ) → N ≤ N' → Roomy t N stack → Roomy t N' stack
roomy_more t [] l h = tt
roomy_more t (r ∷ rest) l h = let q = h.0 in (omega linear, roomy_more t rest l h.1)

module _ (t : List ℤ) (ok : Accepted t) where
  -- ---- the statement due

  module _ (N : ℕ) where
    -- a sequence becomes its parts
    pub split_roomy : (r : ℕ) (rest : List ℕ) {a b : ℕ} → row t r ≡ Row.Statement (Sequence (record { 0 = a }) (record { 0 = b }))
        → Roomy t N (r ∷ rest) → Roomy t N (a ∷ b ∷ rest)
    unfolding size
    split_roomy r rest e h =
        let s = ap size (stmt_is t ok r (statement_inside t ok r e) e) in
        let q = h.0 in
        (omega linear, (omega linear, h.1))

    abbrev Roomyᵈ : Due → Type 0
    Roomyᵈ d = Roomy t N (d.at ∷ d.rest)

    -- where D says what is due of a first part
    due_by : (D : ℕ → List ℕ → Due) → ((k : ℕ) (more : List ℕ) → Roomy t N (k ∷ more) → Roomyᵈ (D k more)) → (r : ℕ) (rest : List ℕ) (w : Row)
        → row t r ≡ w → Roomy t N (r ∷ rest) → Roomyᵈ (if_statement (due_at r rest) (due_statement D r rest) w)
    due_by D go r rest (Row.Statement (Sequence a b)) e h = go a.0 (b.0 ∷ rest) (split_roomy r rest e h)
    due_by D go r rest (Row.Statement Skip) e h = h
    due_by D go r rest (Row.Statement (Assign v x)) e h = h
    due_by D go r rest (Row.Statement (If b x y)) e h = h
    due_by D go r rest (Row.Statement (While b i x)) e h = h
    due_by D go r rest (Row.Statement (Assert f)) e h = h
    due_by D go r rest (Row.Expression x) e h = h
    due_by D go r rest (Row.Formula x) e h = h
    due_by D go r rest (Row.Note i v) e h = h
    due_by D go r rest (Row.Script p s q) e h = h
    due_by D go r rest Row.Unknown e h = h

    due_roomy : (n r : ℕ) (rest : List ℕ) → Roomy t N (r ∷ rest) → Roomyᵈ (due t n r rest)
    unfolding due
    due_roomy zero r rest h = h
    due_roomy (suc n) r rest h = due_by (due t n) (due_roomy n) r rest (row t r) refl h

    pub next_roomy : (r : ℕ) (rest : List ℕ) → Roomy t N (r ∷ rest) → Roomyᵈ (next t r rest)
    next_roomy r rest h = due_roomy (rows t) r rest h

    -- ---- a step

    abbrev Roomyˢ : Stepped → Type 0
    Roomyˢ (on h) = Roomy t N h.stack
    Roomyˢ (faulty x) = Unit {0}
    Roomyˢ untrue = Unit {0}

    carry_roomy : {A : Type 0} (w : Worked A) (f : A → Stepped) → ((a : A) → Roomyˢ (f a)) → Roomyˢ (carry w f)
    carry_roomy (got a) f h = h a
    carry_roomy (stop x) f h = tt

    cond_roomy : (b : Bool) (x y : Stepped) → Roomyˢ x → Roomyˢ y → Roomyˢ (cond b x y)
    cond_roomy true x y h k = h
    cond_roomy false x y h k = k

    -- the side of an if
    side_roomy : (c : Bool) (r : ℕ) (rest : List ℕ) {b x y : ℕ}
        → row t r ≡ Row.Statement (If (record { 0 = b }) (record { 0 = x }) (record { 0 = y }))
        → Roomy t N (r ∷ rest) → Roomy t N (cond c x y ∷ rest)
    unfolding size
    side_roomy true r rest e h =
        let s = ap size (stmt_is t ok r (statement_inside t ok r e) e) in
        let q = h.0 in
        (omega linear, h.1)
    side_roomy false r rest e h =
        let s = ap size (stmt_is t ok r (statement_inside t ok r e) e) in
        let q = h.0 in
        (omega linear, h.1)

    -- a pass of a loop, whose note is at row i
    pass_roomy : (r : ℕ) (rest : List ℕ) {b i x f v : ℕ}
        → row t r ≡ Row.Statement (While (record { 0 = b }) (record { 0 = i }) (record { 0 = x }))
        → row t i ≡ Row.Note (record { 0 = f }) (record { 0 = v })
        → Roomy t N (r ∷ rest) → Roomy t N (x ∷ r ∷ rest)
    unfolding size
    pass_roomy r rest e n h =
        let s = rw n at (ap size (stmt_is t ok r (statement_inside t ok r e) e)) in
        let q = h.0 in
        (omega linear, h)

    module _ (M : Mode) where
      act_roomy : (r : ℕ) (rest : List ℕ) (vars marks : List ℤ) (w : StatementRow) → row t r ≡ Row.Statement w
          → Roomy t N (r ∷ rest) → Roomyˢ (act M t rest vars marks r w)
      act_roomy r rest vars marks Skip e h = h.1
      act_roomy r rest vars marks (Assign v x) e h =
          carry_roomy (work M (state_of vars marks) true (expr_at t x.0)) _ (λ z. h.1)
      act_roomy r rest vars marks (Sequence a b) e h = h.1
      act_roomy r rest vars marks (If b x y) e h =
          carry_roomy (judge M (state_of vars marks) true (formula_at t b.0)) _ (λ c. side_roomy c r rest e h)
      act_roomy r rest vars marks (While b i x) e h =
          carry_roomy (judge M (state_of vars marks) true (formula_at t b.0)) _ (λ c. cond_roomy c _ _ (by (row t i.0) refl) h.1)
        where
          by : (n : Row) → row t i.0 ≡ n → Roomyˢ (if_note (done M t rest vars marks) (pass M t rest vars marks r x.0) n)
          by (Row.Note f v) k = carry_roomy (work M (state_of vars marks) false (expr_at t v.0)) _ (λ z. pass_roomy r rest e k h)
          by (Row.Statement w) k = h.1
          by (Row.Expression w) k = h.1
          by (Row.Formula w) k = h.1
          by (Row.Script p s q) k = h.1
          by Row.Unknown k = h.1
      act_roomy r rest vars marks (Assert f) e h =
          carry_roomy (judge M (state_of vars marks) false (formula_at t f.0)) _ (λ c. cond_roomy c _ _ h.1 tt)

      step_by : (r : ℕ) (rest : List ℕ) (vars marks : List ℤ) (w : Row) → row t r ≡ w → Roomy t N (r ∷ rest)
          → Roomyˢ (if_statement (done M t rest vars marks) (act M t rest vars marks r) w)
      step_by r rest vars marks (Row.Statement w) e h = act_roomy r rest vars marks w e h
      step_by r rest vars marks (Row.Expression w) e h = h.1
      step_by r rest vars marks (Row.Formula w) e h = h.1
      step_by r rest vars marks (Row.Note i v) e h = h.1
      step_by r rest vars marks (Row.Script p s q) e h = h.1
      step_by r rest vars marks Row.Unknown e h = h.1

      tried_roomy : (r : ℕ) (rest : List ℕ) (vars marks : List ℤ) → Roomy t N (r ∷ rest) → Roomyˢ (machine_step M t r rest vars marks)
      unfolding machine_step
      tried_roomy r rest vars marks h =
          let d = next t r rest in step_by d.at d.rest vars marks (row t d.at) refl (next_roomy r rest h)

      -- a whole step keeps within N
      pub step_roomy : (r : ℕ) (rest : List ℕ) (vars marks : List ℤ) {h : Held} → machine_step M t r rest vars marks ≡ on h
          → Roomy t N (r ∷ rest) → Roomy t N h.stack
      step_roomy r rest vars marks e h = rw e at (tried_roomy r rest vars marks h)

      -- ---- steps up to a limit

      proceed_roomy : (more : Held → Stopped) (steps r : ℕ) (k : Held) (x : Stepped) → ((h : Held) → Roomy t N h.stack → Roomy t N (more h).held.stack)
          → Roomy t N k.stack → Roomyˢ x → Roomy t N (proceed M t more steps r k x).held.stack
      proceed_roomy more steps r k (on h) go l p = go h p
      proceed_roomy more steps r k (faulty x) go l p = l
      proceed_roomy more steps r k untrue go l p = l

      pub play_roomy : (limit steps : ℕ) (stack : List ℕ) (vars marks : List ℤ) → Roomy t N stack
          → Roomy t N (play M t limit steps stack vars marks).held.stack
      unfolding play
      play_roomy zero steps [] vars marks h = tt
      play_roomy zero steps (r ∷ rest) vars marks h = h
      play_roomy (suc limit) steps [] vars marks h = tt
      play_roomy (suc limit) steps (r ∷ rest) vars marks h =
          proceed_roomy _ steps (next t r rest).at (hold (r ∷ rest) vars marks) (machine_step M t r rest vars marks)
          (λ k l. play_roomy limit (suc steps) k.stack k.vars k.marks l) h (tried_roomy r rest vars marks h)

      pub play_height : (limit : ℕ) (stack : List ℕ) (vars marks : List ℤ) → Roomy t N stack
          → length (play M t limit 0 stack vars marks).held.stack ≤ N
      play_height limit stack vars marks h =
          roomy_length t N (play M t limit 0 stack vars marks).held.stack (play_roomy limit 0 stack vars marks h)

  -- ---- stacks to begin with

  pub any_roomy : (stack : List ℕ) → Roomy t (length stack + rows t) stack
  any_roomy [] = tt
  any_roomy (r ∷ rest) = let s = row_size t ok r in (omega linear, roomy_more t rest (omega linear) (any_roomy rest))

  pub one_roomy : (r : ℕ) → Roomy t (rows t) (r ∷ [])
  one_roomy r = let s = row_size t ok r in (omega linear, tt)

  pub run_height : (M : Mode) (limit : ℕ) (vars marks : List ℤ)
      → length (play M t limit 0 (statement_of (row t (rows t - 1)) ∷ []) vars marks).held.stack ≤ rows t
  run_height M limit vars marks =
      let s = statement_of (row t (rows t - 1)) in play_height (rows t) M limit (s ∷ []) vars marks (one_roomy s)

  pub on_height : (M : Mode) (limit : ℕ) (stack : List ℕ) (vars marks : List ℤ)
      → length (play M t limit 0 stack vars marks).held.stack ≤ length stack + rows t
  on_height M limit stack vars marks = play_height (length stack + rows t) M limit stack vars marks (any_roomy stack)
