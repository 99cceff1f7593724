-- A row of an accepted table: what is worked out there is what its node says of its parts, its words are in the table, and the same is
-- asked of its parts. Assumes nothing.
use Prim.Native.Nat.{ℕ, ◌+◌, ◌*◌, ◌<◌}
use mathlib.Core.Path.{◌≡◌, sym, ap}
use mathlib.Core.Bool.{Bool, ◌&&◌}
use mathlib.Core.List.{List}
use native.Mathlib.Omega.{arith as linear}
use lib.Dec.{T, ltb, ltb→lt}
use lib.IntN.{ℤ, pos}
use lib.ListN.{length, get_or}
use borrow.Author.Tests.{lt-ltb}
use Rattle.script.specs.declared.Row.{Row}
use Rattle.script.specs.Rows.{row, rows, fields}
use Rattle.script.specs.Trees.{expr_node, formula_node, expr_at, formula_at}
use Rattle.script.specs.Refusals.{in_range}
use Rattle.theorems.specs.Accepted.{Accepted, passed, both}
use Rattle.theorems.specs.RowTrees.{expr_is, formula_is}
use Rattle.stepping.specs.Values.{Worked, got, mode_64, work, judge}
use Rattle.stepping.specs.Machine.{state_of, lent}
use Rattle.evaluation.specs.Worked.{Lent}

abbrev pub value : List ℤ → List ℤ → List ℤ → Bool → ℕ → Worked ℤ
value t vars marks code n = work mode_64 (state_of vars marks) code (expr_at t n)

abbrev pub truth : List ℤ → List ℤ → List ℤ → Bool → ℕ → Worked Bool
truth t vars marks code n = judge mode_64 (state_of vars marks) code (formula_at t n)

pub ranged_as : (t : List ℤ) → Accepted t → (r : ℕ) {w : Row} → r < rows t → row t r ≡ w → T (in_range t (fields w))
ranged_as t ok r h e = rw e at (ok.ranged r h)

pub first_below : (n limit : ℕ) (rest : Bool) → T (ltb n limit && rest) → n < limit
first_below n limit rest h = ltb→lt n limit (both (ltb n limit) rest h).0

-- a number among the lent ones
pub among : (size n : ℕ) (zs : List ℤ) → n < size → got (get_or zs n (pos 0)) ≡ got (lent size zs n)
among size n zs h = rw (lt-ltb n size h)

module _ {t vars marks : List ℤ} {r : ℕ} (g : Lent t vars marks r) where
  pub table_is : Accepted t
  table_is = passed t g.accepted

  pub row_low : r < 2048
  row_low = let i = g.inside in let s = table_is.short in omega linear

  -- its words are in the table
  pub words_in : 4 * r + 3 < length t
  words_in = let i = g.inside in let f = table_is.fours in omega linear

  -- a part, at row n
  pub part_ready : {m n : ℕ} → r ≡ m → n < r → (n < m) × Lent t vars marks n
  part_ready e h =
      let i = g.inside in
      (omega linear, record { accepted = g.accepted; inside = omega linear; all_variables = g.all_variables; all_marks = g.all_marks })

  module _ (code : Bool) where
    pub value_by : {w : Row} → row t r ≡ w → work mode_64 (state_of vars marks) code (expr_node (expr_at t) (formula_at t) w) ≡ value t vars marks code r
    value_by e = sym (ap (work mode_64 (state_of vars marks) code) (expr_is t table_is r g.inside e))

    pub truth_by : {w : Row} → row t r ≡ w → judge mode_64 (state_of vars marks) code (formula_node (expr_at t) (formula_at t) w) ≡ truth t vars marks code r
    truth_by e = sym (ap (judge mode_64 (state_of vars marks) code) (formula_is t table_is r g.inside e))
