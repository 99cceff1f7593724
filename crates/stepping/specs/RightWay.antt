-- With the right ways the machine of `Variants` is the machine defined (`right_way`).
-- Argument: by induction on expressions and on the limit. Assumes nothing.
use Prim.Native.Nat.{ℕ, zero, suc, ◌-◌}
use Rattle.std.specs.Prelude.{◌≡◌, Bool, true, false, ℤ, set}
use Rattle.std.proofs.Math.Path.{refl, ap}
use Rattle.std.proofs.Common.{ap₂, ◌∙◌}
use mathlib.Core.List.{List, [], ◌∷◌}
use Rattle.std.proofs.Math.Bool.{cond}
use Rattle.std.proofs.Math.Bool as Bool
use Rattle.script.specs.declared.StatementRow.{StatementRow}
use Rattle.script.specs.declared.StatementRow.TheVariants.{Skip, Assign, Sequence, If, While, Assert}
use Rattle.script.specs.declared.Row.{Row}
use Rattle.script.specs.Syntax.{Expr, const, var, mark, arith, neg, choose, Formula, truth, cmp, not, join}
use Rattle.script.specs.Meaning.{State, relate, connect}
use Rattle.script.specs.Rows.{row, rows}
use Rattle.script.specs.Trees.{expr_at, formula_at}
use Rattle.script.specs.Refusals.{accepted, refused, verdict}
use Rattle.stepping.specs.Values.{Mode, got, ◌then◌, tested, operated, work, judge}
use Rattle.stepping.specs.Machine.{Held, hold, state_of, next, Stepped, on, faulty, untrue, carry, if_statement, if_note, done, pass, act, Stopped, proceed, machine_step, play, statement_of, unchanged, shown, too_short, called, machine_run}
use Rattle.stepping.specs.Variants.{right, work_by, judge_by, act_by, proceed_by, play_by, run_by}

module _ (M : Mode) where
  module _ (s : State) (code : Bool) where
    mutual
      unfolding work work_by

      work_right : (e : Expr) → work_by right M s code e ≡ work M s code e
      work_right (const z) = refl
      work_right (var v) = refl
      work_right (mark m) = refl
      work_right (arith o a b) = ap₂ (λ v w. v then λ x. w then λ y. operated M s code o x y) (work_right a) (work_right b)
      work_right (neg a) = ap (λ v. v then λ x. tested M s code (M.arithmetic.neg x)) (work_right a)
      work_right (choose f a b) =
          ap (λ c. c then λ t. cond t (work_by right M s code a) (work_by right M s code b)) (judge_right f)
          ∙ ap₂ (λ v w. judge M s code f then λ t. cond t v w) (work_right a) (work_right b)

      judge_right : (f : Formula) → judge_by right M s code f ≡ judge M s code f
      judge_right (truth b) = refl
      judge_right (cmp r a b) = ap₂ (λ v w. v then λ x. w then λ y. got (relate r x y)) (work_right a) (work_right b)
      judge_right (not f) = ap (λ c. c then λ t. got (Bool.not t)) (judge_right f)
      judge_right (join c f g) = ap₂ (λ v w. v then λ t. w then λ u. got (connect c t u)) (judge_right f) (judge_right g)

  module _ (t : List ℤ) where
    module _ (rest : List ℕ) (vars marks : List ℤ) where
      abbrev s : State
      s = state_of vars marks

      note_right : (r x : ℕ) (w : Row)
          → if_note (done M t rest vars marks)
          (λ v. carry (work_by right M s false (expr_at t v)) (λ z. on (hold (x ∷ r ∷ rest) vars (set marks r z)))) w
          ≡ if_note (done M t rest vars marks) (pass M t rest vars marks r x) w
      note_right r x (Row.Note i v) =
          ap (λ w. carry w (λ z. on (hold (x ∷ r ∷ rest) vars (set marks r z)))) (work_right s false (expr_at t v.0))
      note_right r x (Row.Expression w) = refl
      note_right r x (Row.Formula w) = refl
      note_right r x (Row.Statement w) = refl
      note_right r x (Row.Script p a q) = refl
      note_right r x Row.Unknown = refl

      act_right : (r : ℕ) (w : StatementRow) → act_by right M t rest vars marks r w ≡ act M t rest vars marks r w
      act_right r Skip = refl
      act_right r (Assign v e) = ap (λ w. carry w (λ z. on (hold rest (set vars v.0 z) marks))) (work_right s true (expr_at t e.0))
      act_right r (Sequence a b) = refl
      act_right r (If b x y) =
          ap (λ w. carry w (λ c. on (hold (cond c x.0 y.0 ∷ rest) vars marks))) (judge_right s true (formula_at t b.0))
      act_right r (While b i x) =
          ap₂ (λ w n. carry w (λ c. cond c n (done M t rest vars marks))) (judge_right s true (formula_at t b.0))
          (note_right r x.0 (row t i.0))
      act_right r (Assert f) =
          ap (λ w. carry w (λ c. cond c (done M t rest vars marks) untrue)) (judge_right s false (formula_at t f.0))

      row_right : (r : ℕ) (w : Row)
          → if_statement (done M t rest vars marks) (act_by right M t rest vars marks r) w
          ≡ if_statement (done M t rest vars marks) (act M t rest vars marks r) w
      row_right r (Row.Statement w) = act_right r w
      row_right r (Row.Expression w) = refl
      row_right r (Row.Formula w) = refl
      row_right r (Row.Note i v) = refl
      row_right r (Row.Script p a q) = refl
      row_right r Row.Unknown = refl

    step_right : (f g : Held → Stopped) → ((h : Held) → f h ≡ g h) → (steps r : ℕ) (rest : List ℕ) (vars marks : List ℤ) (w : Stepped)
        → proceed_by right M t f steps r rest (next t r rest) vars marks w
        ≡ proceed M t g steps (next t r rest).at (hold (r ∷ rest) vars marks) w
    step_right f g h steps r rest vars marks (on k) = h k
    step_right f g h steps r rest vars marks (faulty x) = refl
    step_right f g h steps r rest vars marks untrue = refl

    play_right : (limit steps : ℕ) (stack : List ℕ) (vars marks : List ℤ)
        → play_by right M t limit steps stack vars marks ≡ play M t limit steps stack vars marks
    unfolding play play_by machine_step
    play_right zero steps [] vars marks = refl
    play_right zero steps (r ∷ rest) vars marks = refl
    play_right (suc limit) steps [] vars marks = refl
    play_right (suc limit) steps (r ∷ rest) vars marks =
        let d = next t r rest in
        ap (proceed_by right M t (λ h. play_by right M t limit (suc steps) h.stack h.vars h.marks) steps r rest d vars marks)
        (row_right d.rest vars marks d.at (row t d.at))
        ∙ step_right (λ h. play_by right M t limit (suc steps) h.stack h.vars h.marks)
        (λ h. play M t limit (suc steps) h.stack h.vars h.marks)
        (λ h. play_right limit (suc steps) h.stack h.vars h.marks) steps r rest vars marks (machine_step M t r rest vars marks)

    pub right_way : (stack : List ℕ) (vars marks : List ℤ) (limit : ℕ)
        → run_by right M t stack vars marks limit ≡ machine_run M t stack vars marks limit
    unfolding run_by machine_run called
    right_way stack vars marks limit =
        ap (λ (p : Stopped). elim (verdict t) [
          | refused n r ↦ unchanged M t stack vars marks limit n r
          | accepted ↦ cond (too_short M t stack vars marks limit (rows t)) (unchanged M t stack vars marks limit 51 0)
              (shown M t stack vars marks limit p)
        ]) (play_right limit 0 (statement_of (row t (rows t - 1)) ∷ []) vars marks)
