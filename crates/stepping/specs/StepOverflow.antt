-- 02, P11: "50 when a value leaves 64 bits", of a step: it is not made because of an overflow exactly where the statement due works out a
-- result outside the range (`Overflows`, `step_overflow_iff`): an assigned expression, an if's guard, a while's guard, its variant
-- where the guard is true, an assertion. When an expression does so: `Overflow.overflow_iff`.
-- Argument: by the kind of the row due. Assumes nothing.
use Rattle.std.specs.Prelude.{ℕ, ◌≡◌, refl, ◌↔◌, List, ◌∷◌, Bool, true, false, cond, ℤ, T, set}
use Rattle.std.proofs.Common.{ap, ◌∙◌, arith as linear}
use Rattle.script.specs.declared.RowNumber.{RowNumber}
use Rattle.script.specs.declared.StatementRow.{StatementRow}
use Rattle.script.specs.declared.StatementRow.TheVariants.{Skip, Assign, Sequence, If, While, Assert}
use Rattle.script.specs.declared.Row.{Row}
use Rattle.script.specs.declared.Sort.TheVariants.{Note}
use Rattle.script.specs.Syntax.{Expr, Formula, Stmt, skip, assign, branch, loop, assert}
use Rattle.script.specs.Meaning.{State}
use Rattle.script.specs.Rows.{row, parts, sort_of}
use Rattle.script.specs.Trees.{loop_node, stmt_node, expr_at, formula_at, stmt_at}
use Rattle.script.specs.Refusals.{same_sort, well_sorted}
use Rattle.theorems.specs.Accepted.{Accepted}
use Rattle.theorems.specs.RowTrees.{stmt_is}
use Rattle.stepping.specs.Values.{Mode, Fault, overflow, Worked, got, stop, work, judge}
use Rattle.stepping.specs.Machine.{Held, hold, state_of, Due, next, Stepped, on, faulty, untrue, carry, if_statement, if_note, done, pass, act, machine_step}
use Rattle.stepping.specs.Stands.{Single, loop_sorted}
use Rattle.stepping.specs.Ready.{idle_gives, idle_skip, Ready, single, idle, split}
use Rattle.stepping.specs.Calls.{frames_of, stands_begun}

-- the statement due works out a result outside the range
pub data Overflows (M : Mode) (s : State) : Stmt → Type 0 where
  assigned : {v : ℕ} {e : Expr} → work M s true e ≡ stop overflow → Overflows M s (assign v e)
  if_guard : {b : Formula} {x y : Stmt} → judge M s true b ≡ stop overflow → Overflows M s (branch b x y)
  while_guard : {m : ℕ} {b i : Formula} {v : Expr} {x : Stmt} → judge M s true b ≡ stop overflow → Overflows M s (loop m b i v x)
  while_variant : {m : ℕ} {b i : Formula} {v : Expr} {x : Stmt} → judge M s true b ≡ got true → work M s false v ≡ stop overflow
      → Overflows M s (loop m b i v x)
  asserted : {a : Formula} → judge M s false a ≡ stop overflow → Overflows M s (assert a)

-- ---- what is carried

made : {X : Type 0} {h : Held} → on h ≡ faulty overflow → X
made e = absurd (let z : ◌≡◌ {A = ℕ} 0 1 = cc in omega linear)

denied : {X : Type 0} → untrue ≡ faulty overflow → X
denied e = absurd (let z : ◌≡◌ {A = ℕ} 0 1 = cc in omega linear)

same_fault : {x y : Fault} → faulty x ≡ faulty y → x ≡ y
same_fault e = cc

module _ {A : Type 0} (f : A → Stepped) where
  -- what was carried stopped, or what was made of it does
  carried : {X : Type 0} (w : Worked A) → carry w f ≡ faulty overflow → (w ≡ stop overflow → X)
      → ((a : A) → w ≡ got a → f a ≡ faulty overflow → X) → X
  carried (got a) e x y = y a refl e
  carried (stop z) e x y = x (ap stop (same_fault e))

module _ (M : Mode) (t : List ℤ) (rest : List ℕ) (vars marks : List ℤ) where
  abbrev s : State
  s = state_of vars marks

  -- ---- a loop

  module _ (r : ℕ) (b x : RowNumber) where
    abbrev tree_of : Row → Stmt
    tree_of w = loop_node (expr_at t) (formula_at t) r (formula_at t b.0) w (stmt_at t x.0)

    abbrev passes : Row → Bool → Stepped
    passes w c = cond c (if_note (done M t rest vars marks) (pass M t rest vars marks r x.0) w) (done M t rest vars marks)

    loop_out : (w : Row) → T (same_sort (sort_of w) Note) → carry (judge M s true (formula_at t b.0)) (passes w) ≡ faulty overflow
        → Overflows M s (tree_of w)
    loop_out (Row.Note i v) h e = carried (passes (Row.Note i v)) (judge M s true (formula_at t b.0)) e while_guard in_pass
      where
        in_pass : (c : Bool) → judge M s true (formula_at t b.0) ≡ got c → passes (Row.Note i v) c ≡ faulty overflow
            → Overflows M s (tree_of (Row.Note i v))
        in_pass true g k =
            carried (λ z. on (hold (x.0 ∷ r ∷ rest) vars (set marks r z))) (work M s false (expr_at t v.0)) k (while_variant g)
            (λ a q z. made z)
        in_pass false g k = made k
    loop_out (Row.Expression w) h e = absurd h
    loop_out (Row.Formula w) h e = absurd h
    loop_out (Row.Statement w) h e = absurd h
    loop_out (Row.Script p a q) h e = absurd h
    loop_out Row.Unknown h e = absurd h

    loop_back : (w : Row) → T (same_sort (sort_of w) Note) → Overflows M s (tree_of w)
        → carry (judge M s true (formula_at t b.0)) (passes w) ≡ faulty overflow
    loop_back (Row.Note i v) h (while_guard e) = ap (λ j. carry j (passes (Row.Note i v))) e
    loop_back (Row.Note i v) h (while_variant e k) =
        ap (λ j. carry j (passes (Row.Note i v))) e ∙ ap (λ w. carry w (λ z. on (hold (x.0 ∷ r ∷ rest) vars (set marks r z)))) k
    loop_back (Row.Expression w) h o = absurd h
    loop_back (Row.Formula w) h o = absurd h
    loop_back (Row.Statement w) h o = absurd h
    loop_back (Row.Script p a q) h o = absurd h
    loop_back Row.Unknown h o = absurd h

  -- ---- what is due

  act_out : (r : ℕ) (w : StatementRow) → Single w → T (well_sorted t (parts (Row.Statement w))) → act M t rest vars marks r w ≡ faulty overflow
      → Overflows M s (stmt_node (expr_at t) (formula_at t) (stmt_at t) (row t) r (Row.Statement w))
  act_out r Skip one g e = made e
  act_out r (Assign v x) one g e =
      carried (λ z. on (hold rest (set vars v.0 z) marks)) (work M s true (expr_at t x.0)) e assigned (λ a q z. made z)
  act_out r (Sequence a b) one g e = absurd one
  act_out r (If b x y) one g e =
      carried (λ c. on (hold (cond c x.0 y.0 ∷ rest) vars marks)) (judge M s true (formula_at t b.0)) e if_guard (λ a q z. made z)
  act_out r (While b i x) one g e = loop_out r b x (row t i.0) (loop_sorted t b i x g) e
  act_out r (Assert f) one g e =
      carried (λ c. cond c (done M t rest vars marks) untrue) (judge M s false (formula_at t f.0)) e asserted told
    where
      told : {X : Type 0} (c : Bool) → judge M s false (formula_at t f.0) ≡ got c
          → cond c (done M t rest vars marks) untrue ≡ faulty overflow → X
      told true q z = made z
      told false q z = denied z

  act_back : (r : ℕ) (w : StatementRow) → Single w → T (well_sorted t (parts (Row.Statement w)))
      → Overflows M s (stmt_node (expr_at t) (formula_at t) (stmt_at t) (row t) r (Row.Statement w)) → act M t rest vars marks r w ≡ faulty overflow
  act_back r Skip one g o = elim o [ ]
  act_back r (Assign v x) one g (assigned e) = ap (λ w. carry w (λ z. on (hold rest (set vars v.0 z) marks))) e
  act_back r (Sequence a b) one g o = absurd one
  act_back r (If b x y) one g (if_guard e) = ap (λ w. carry w (λ c. on (hold (cond c x.0 y.0 ∷ rest) vars marks))) e
  act_back r (While b i x) one g o = loop_back r b x (row t i.0) (loop_sorted t b i x g) o
  act_back r (Assert f) one g (asserted e) = ap (λ w. carry w (λ c. cond c (done M t rest vars marks) untrue)) e

no_skip : {M : Mode} {s : State} → Overflows M s skip → ⊥
no_skip o = elim o [ ]

module _ (M : Mode) (t : List ℤ) (ok : Accepted t) (vars marks : List ℤ) where
  ready_iff : (d : Due) → Ready t d.at
      → (if_statement (done M t d.rest vars marks) (act M t d.rest vars marks d.at) (row t d.at) ≡ faulty overflow)
      ↔ Overflows M (state_of vars marks) (stmt_at t d.at)
  ready_iff d (single {w} h e one) =
      rw (stmt_is t ok d.at h e, e)
      (let g = rw e at (ok.sorted d.at h) in
      (act_out M t d.rest vars marks d.at w one g, act_back M t d.rest vars marks d.at w one g))
  ready_iff d (idle {w} e h) =
      rw (idle_skip t d.at w e h, e, idle_gives (done M t d.rest vars marks) (act M t d.rest vars marks d.at) w h)
      (λ z. made z, λ o. absurd (no_skip o))

  pub step_overflow_iff : (r : ℕ) (rest : List ℕ)
      → (machine_step M t r rest vars marks ≡ faulty overflow) ↔ Overflows M (state_of vars marks) (stmt_at t (next t r rest).at)
  unfolding machine_step
  step_overflow_iff r rest = ready_iff (next t r rest) (split t ok r rest (frames_of t rest) (stands_begun t rest)).ready
