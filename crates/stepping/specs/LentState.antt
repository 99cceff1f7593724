-- A value put into the lent runs is put into the state that they are (`state_var`, `state_mark`). Assumes nothing.
use Rattle.std.specs.Prelude.{ℕ, ◌<◌, ◌≤◌, ◌≡◌, refl, Bool, true, false, cond, List, ℤ, pos, eqb, ltb, length, get_or, set}
use Rattle.std.proofs.Common.{ap, ◌∙◌, arith as linear, get_or-set_same, get_or-set_other, eqb-true, lt-ltb}
use Rattle.std.proofs.lemmas.Bool.{eqb-false}
use Rattle.script.specs.Run.{put, set_var, set_mark}
use Rattle.script.specs.Rows.{variables}
use Rattle.stepping.specs.Machine.{mark_values, lent, state_of}

module _ (size : ℕ) (zs : List ℤ) (k : ℕ) (z : ℤ) (inside : k < size) (long : size ≤ length zs) where
  set_puts : (i : ℕ) → lent size (set zs k z) i ≡ put (lent size zs) k z i
  set_puts i = by (eqb i k) refl
    where
      by : (b : Bool) → eqb i k ≡ b → lent size (set zs k z) i ≡ cond b z (lent size zs i)
      by true e =
          ap (λ (j : ℕ). lent size (set zs k z) j) (eqb-true i k e)
          ∙ ap (λ b. cond b (get_or (set zs k z) k (pos 0)) (pos 0)) (lt-ltb k size inside)
          ∙ get_or-set_same zs k z (pos 0) (omega linear)
      by false e = ap (λ y. cond (ltb i size) y (pos 0)) (get_or-set_other zs k i z (pos 0) (eqb-false i k e))

pub state_var : (vars marks : List ℤ) (v : ℕ) (z : ℤ) → v < variables → variables ≤ length vars
    → state_of (set vars v z) marks ≡ set_var (state_of vars marks) v z
state_var vars marks v z h l = λ j. record { var = λ i. set_puts variables vars v z h l i j; mark = lent mark_values marks }

pub state_mark : (vars marks : List ℤ) (m : ℕ) (z : ℤ) → m < mark_values → mark_values ≤ length marks
    → state_of vars (set marks m z) ≡ set_mark (state_of vars marks) m z
state_mark vars marks m z h l = λ j. record { var = lent variables vars; mark = λ i. set_puts mark_values marks m z h l i j }
