-- 02, P11, what a call leaves of the values lent (`Kept`): runs stay as long as they are, words beyond 1,024 and 2,048 stay, and every
-- frozen variable stays: of a play `play_kept`, of every call `call_kept`.
-- Argument: a step puts a value only where an accepted table lets it: at a variable in range that is not frozen, or at the mark of
-- a loop's row. Assumes nothing.
use Prim.Native.Nat.{ℕ, zero, suc, ◌<◌}
use Rattle.std.specs.Prelude.{◌≡◌, ◌≢◌, Bool, true, false, cond, not, ◌||◌, ℤ, pos, T, length, get_or, set, drop}
use Rattle.std.proofs.Math.Path.{refl}
use Rattle.std.proofs.Common.{◌∙◌, subst, arith as linear, length-set, drop-set-lt, get_or-set_other}
use mathlib.Core.List.{List, [], ◌∷◌}
use Rattle.script.specs.declared.StatementRow.{StatementRow}
use Rattle.script.specs.declared.StatementRow.TheVariants.{Skip, Assign, Sequence, If, While, Assert}
use Rattle.script.specs.declared.Row.{Row}
use Rattle.script.specs.Rows.{row, rows, fields, variables}
use Rattle.script.specs.Trees.{expr_at, formula_at}
use Rattle.script.specs.Refusals.{frozen, in_range, assigns_frozen}
use Rattle.theorems.specs.Accepted.{Accepted}
use Rattle.theorems.specs.RowTrees.{lower₁}
use Rattle.stepping.specs.Machine.{Mode, Fault, Worked, got, stop, work, judge, Held, hold, mark_values, state_of, next, Stepped, on, faulty, untrue, carry, if_note, done, pass, act, machine_step, Stopped, proceed, play, Ran, if_statement}
use Rattle.stepping.specs.Places.{statement_inside}
use Rattle.stepping.specs.Calls.{Call, table_refused, runs_short, plays}

pub record Kept (vars marks vars' marks' : List ℤ) : Type 0 where
  pub vars_length : length vars' ≡ length vars
  pub marks_length : length marks' ≡ length marks
  pub vars_beyond : drop variables vars' ≡ drop variables vars
  pub marks_beyond : drop mark_values marks' ≡ drop mark_values marks
  pub frozen_kept : (i : ℕ) → T (frozen i) → get_or vars' i (pos 0) ≡ get_or vars i (pos 0)

pub same_kept : (vars marks : List ℤ) → Kept vars marks vars marks
same_kept vars marks =
    record { vars_length = refl; marks_length = refl; vars_beyond = refl; marks_beyond = refl; frozen_kept = λ i h. refl }

then_kept : {a b c d e f : List ℤ} → Kept a b c d → Kept c d e f → Kept a b e f
then_kept h k = record {
  vars_length = k.vars_length ∙ h.vars_length;
  marks_length = k.marks_length ∙ h.marks_length;
  vars_beyond = k.vars_beyond ∙ h.vars_beyond;
  marks_beyond = k.marks_beyond ∙ h.marks_beyond;
  frozen_kept = λ i z. k.frozen_kept i z ∙ h.frozen_kept i z;
}

not_frozen : (v i : ℕ) → T (not (frozen v || false)) → T (frozen i) → i ≢ v
not_frozen v i h k e = by (frozen v) h (subst (λ j. T (frozen j)) e k)
  where
    by : (b : Bool) → T (not (b || false)) → T b → ⊥
    by true h k = h
    by false h k = k

-- ---- a step

module _ (M : Mode) (t : List ℤ) (ok : Accepted t) where
  -- what a step leaves, of these values
  data Leaves (vars marks : List ℤ) : Stepped → Type 0 where
    goes : {h : Held} → Kept vars marks h.vars h.marks → Leaves vars marks (on h)
    faults : {x : Fault} → Leaves vars marks (faulty x)
    denies : Leaves vars marks untrue

  module _ (vars marks : List ℤ) where
    carried : {A : Type 0} (w : Worked A) (f : A → Stepped) → ((a : A) → Leaves vars marks (f a)) → Leaves vars marks (carry w f)
    carried (got a) f h = h a
    carried (stop x) f h = faults

    either : (b : Bool) {x y : Stepped} → Leaves vars marks x → Leaves vars marks y → Leaves vars marks (cond b x y)
    either true h k = h
    either false h k = k

    unmoved : (stack : List ℕ) → Leaves vars marks (on (hold stack vars marks))
    unmoved stack = goes (same_kept vars marks)

    pass_leaves : (rest : List ℕ) (r x v : ℕ) → r < rows t → Leaves vars marks (pass M t rest vars marks r x v)
    pass_leaves rest r x v l =
        let short = ok.short in
        let inside : r < mark_values = omega linear in
        carried (work M (state_of vars marks) false (expr_at t v)) (λ z. on (hold (x ∷ r ∷ rest) vars (set marks r z)))
        (λ z. goes (record {
          vars_length = refl;
          marks_length = length-set marks r z;
          vars_beyond = refl;
          marks_beyond = drop-set-lt mark_values marks r z inside;
          frozen_kept = λ i h. refl;
        }))

    note_leaves : (rest : List ℕ) (r x : ℕ) (w : Row) → r < rows t
        → Leaves vars marks (if_note (done M t rest vars marks) (pass M t rest vars marks r x) w)
    note_leaves rest r x (Row.Note i v) l = pass_leaves rest r x v.0 l
    note_leaves rest r x (Row.Expression w) l = unmoved rest
    note_leaves rest r x (Row.Formula w) l = unmoved rest
    note_leaves rest r x (Row.Statement w) l = unmoved rest
    note_leaves rest r x (Row.Script p s q) l = unmoved rest
    note_leaves rest r x Row.Unknown l = unmoved rest

    act_leaves : (rest : List ℕ) (r : ℕ) (w : StatementRow) → r < rows t → T (in_range t (fields (Row.Statement w)))
        → T (not (assigns_frozen t (fields (Row.Statement w)))) → Leaves vars marks (act M t rest vars marks r w)
    act_leaves rest r Skip l g o = unmoved rest
    act_leaves rest r (Assign v e) l g o =
        carried (work M (state_of vars marks) true (expr_at t e.0)) (λ z. on (hold rest (set vars v.0 z) marks))
        (λ z. goes (record {
          vars_length = length-set vars v.0 z;
          marks_length = refl;
          vars_beyond = drop-set-lt variables vars v.0 z (lower₁ v.0 variables g);
          marks_beyond = refl;
          frozen_kept = λ i h. get_or-set_other vars v.0 i z (pos 0) (not_frozen v.0 i o h);
        }))
    act_leaves rest r (Sequence a b) l g o = unmoved rest
    act_leaves rest r (If b x y) l g o =
        carried (judge M (state_of vars marks) true (formula_at t b.0)) (λ c. on (hold (cond c x.0 y.0 ∷ rest) vars marks))
        (λ c. unmoved (cond c x.0 y.0 ∷ rest))
    act_leaves rest r (While b i x) l g o =
        carried (judge M (state_of vars marks) true (formula_at t b.0))
        (λ c. cond c (if_note (done M t rest vars marks) (pass M t rest vars marks r x.0) (row t i.0)) (done M t rest vars marks))
        (λ c. either c (note_leaves rest r x.0 (row t i.0) l) (unmoved rest))
    act_leaves rest r (Assert f) l g o =
        carried (judge M (state_of vars marks) false (formula_at t f.0)) (λ c. cond c (done M t rest vars marks) untrue)
        (λ c. either c (unmoved rest) denies)

    row_leaves : (rest : List ℕ) (r : ℕ) (w : Row) → row t r ≡ w
        → Leaves vars marks (if_statement (done M t rest vars marks) (act M t rest vars marks r) w)
    row_leaves rest r (Row.Statement w) e =
        let l = statement_inside t ok r e in
        act_leaves rest r w l (rw e at (ok.ranged r l)) (rw e at (ok.ordinary r l))
    row_leaves rest r (Row.Expression w) e = unmoved rest
    row_leaves rest r (Row.Formula w) e = unmoved rest
    row_leaves rest r (Row.Note i v) e = unmoved rest
    row_leaves rest r (Row.Script p s q) e = unmoved rest
    row_leaves rest r Row.Unknown e = unmoved rest

    step_leaves : (r : ℕ) (rest : List ℕ) → Leaves vars marks (machine_step M t r rest vars marks)
    unfolding machine_step
    step_leaves r rest = row_leaves (next t r rest).rest (next t r rest).at (row t (next t r rest).at) refl

  -- ---- steps, and a call

  proceeds : (more : Held → Stopped) → ((h : Held) → Kept h.vars h.marks (more h).held.vars (more h).held.marks) → (steps r : ℕ)
      (h : Held) {w : Stepped} → Leaves h.vars h.marks w
      → Kept h.vars h.marks (proceed M t more steps r h w).held.vars (proceed M t more steps r h w).held.marks
  proceeds more rec steps r h (goes {h = h'} k) = then_kept k (rec h')
  proceeds more rec steps r h faults = same_kept h.vars h.marks
  proceeds more rec steps r h denies = same_kept h.vars h.marks

  pub play_kept : (limit steps : ℕ) (stack : List ℕ) (vars marks : List ℤ)
      → Kept vars marks (play M t limit steps stack vars marks).held.vars (play M t limit steps stack vars marks).held.marks
  unfolding play
  play_kept zero steps [] vars marks = same_kept vars marks
  play_kept zero steps (r ∷ rest) vars marks = same_kept vars marks
  play_kept (suc limit) steps [] vars marks = same_kept vars marks
  play_kept (suc limit) steps (r ∷ rest) vars marks =
      proceeds (λ h. play M t limit (suc steps) h.stack h.vars h.marks)
      (λ h. play_kept limit (suc steps) h.stack h.vars h.marks) steps (next t r rest).at (hold (r ∷ rest) vars marks)
      (step_leaves vars marks r rest)

module _ (M : Mode) (t : List ℤ) (stack : List ℕ) (vars marks : List ℤ) (limit need : ℕ) (begun : List ℕ) where
  pub call_kept : {a : Ran} → Call M t stack vars marks limit need begun a → Kept vars marks a.vars a.marks
  call_kept (table_refused h) = same_kept vars marks
  call_kept (runs_short h e) = same_kept vars marks
  call_kept (plays p) = play_kept M t p.accepts limit 0 begun vars marks
