-- What is worked out at the row of an expression, by its kind, from what is worked out at its parts; and that its parts are lower.
-- Assumes nothing.
use Prim.Native.Nat.{ℕ, ◌<◌}
use mathlib.Core.Path.{◌≡◌, refl, sym, ap, ◌∙◌}
use mathlib.Core.Bool.{Bool, true, false, cond}
use mathlib.Core.List.{List, []}
use native.Mathlib.Omega.{arith as linear}
use lib.IntN.{ℤ, pos}
use lib.ListN.{length, get_or}
use Rattle.script.specs.declared.kinds.Kind.{Kind}
use Rattle.script.specs.Kinds.{number, kind_of}
use Rattle.script.specs.Rows.{field_number, row_of, rows, word, variables}
use Rattle.script.specs.Trees.{expr_at, formula_at}
use Rattle.theorems.specs.RowTrees.{below, lower₁, lower₂, lower₃}
use Rattle.stepping.specs.Values.{Worked, got, stop, ◌then◌, Fault, mode_64, operated, work}
use Rattle.stepping.specs.Machine.{state_of}
use Rattle.evaluation.specs.Worked.{opposite, Lent}
use Rattle.evaluation.specs.Kinds.{operator_of}
use Rattle.evaluation.proofs.Stops.{then_stops, then_goes, Pair}
use Rattle.evaluation.proofs.RowKinds.{Operates, PastExpressions, of_kind, operation, no_expression}
use Rattle.evaluation.proofs.AtRow.{value, truth, ranged_as, first_below, among, table_is, value_by}

module _ {t vars marks : List ℤ} {r : ℕ} (g : Lent t vars marks r) (code : Bool) {k : Kind} (read : k ≡ kind_of (field_number (word t r 0))) where
  -- ---- a constant

  pub constant : k ≡ Kind.Constant → got (word t r 1) ≡ value t vars marks code r
  unfolding row_of work
  constant e = value_by g code (of_kind t r read e refl)

  -- ---- a variable, and a mark

  module _ (e : k ≡ Kind.Variable) {v : ℕ} (named : v ≡ field_number (word t r 1)) where
    variable_small : field_number (word t r 1) < variables
    unfolding row_of
    variable_small = first_below (field_number (word t r 1)) variables true (ranged_as t (table_is g) r g.inside (of_kind t r read e refl))

    pub variable_low : v < 1024
    variable_low = rw named variable_small

    pub variable_fits : v < length vars
    variable_fits = let l = variable_low in let a = g.all_variables in omega linear

    pub variable : got (get_or vars v (pos 0)) ≡ value t vars marks code r
    unfolding row_of work
    variable = rw named (among variables (field_number (word t r 1)) vars variable_small ∙ value_by g code (of_kind t r read e refl))

  module _ (e : k ≡ Kind.Mark) {m : ℕ} (named : m ≡ field_number (word t r 1)) where
    mark_small : field_number (word t r 1) < 2048
    unfolding row_of
    mark_small =
        let l = first_below (field_number (word t r 1)) (rows t) true (ranged_as t (table_is g) r g.inside (of_kind t r read e refl)) in
        let n = (table_is g).short in
        omega linear

    pub mark_low : m < 2048
    mark_low = rw named mark_small

    pub mark_fits : m < length marks
    mark_fits = let l = mark_low in let a = g.all_marks in omega linear

    pub mark : got (get_or marks m (pos 0)) ≡ value t vars marks code r
    unfolding row_of work
    mark = rw named (among 2048 (field_number (word t r 1)) marks mark_small ∙ value_by g code (of_kind t r read e refl))

  -- ---- a negation

  module _ (e : k ≡ Kind.Negate) {a : ℕ} (ha : a ≡ field_number (word t r 1)) where
    pub negated_low : a < r
    unfolding row_of
    negated_low = rw ha (lower₁ (field_number (word t r 1)) r (below t (table_is g) r g.inside (of_kind t r read e refl)))

    pub negation : {x : Worked ℤ} → x ≡ value t vars marks code a → opposite x ≡ value t vars marks code r
    unfolding row_of work
    negation h = ap opposite (h ∙ ap (value t vars marks code) ha) ∙ value_by g code (of_kind t r read e refl)

  -- ---- a choice, with the parts f, a and b

  module _ (e : k ≡ Kind.Choose) where
    lows : (field_number (word t r 1) < r) × ((field_number (word t r 2) < r) × (field_number (word t r 3) < r))
    unfolding row_of
    lows = lower₃ (field_number (word t r 1)) (field_number (word t r 2)) (field_number (word t r 3)) r (below t (table_is g) r g.inside (of_kind t r read e refl))

    pub choice_low : {f : ℕ} → f ≡ field_number (word t r 1) → f < r
    choice_low h = rw h lows.0

    pub first_low : {a : ℕ} → a ≡ field_number (word t r 2) → a < r
    first_low h = rw h lows.1.0

    pub second_low : {b : ℕ} → b ≡ field_number (word t r 3) → b < r
    second_low h = rw h lows.1.1

    -- the side that is taken
    abbrev sides : Bool → Worked ℤ
    sides first = cond first (value t vars marks code (field_number (word t r 2))) (value t vars marks code (field_number (word t r 3)))

    chosen : truth t vars marks code (field_number (word t r 1)) then sides ≡ value t vars marks code r
    unfolding row_of work
    chosen = value_by g code (of_kind t r read e refl)

    module _ {f : ℕ} (hf : f ≡ field_number (word t r 1)) where
      pub choice_stops : {x : Fault} → stop x ≡ truth t vars marks code f → stop x ≡ value t vars marks code r
      choice_stops h = then_stops sides (rw hf at h) ∙ chosen

      pub first_chosen : {a : ℕ} {w : Worked ℤ} → got true ≡ truth t vars marks code f → a ≡ field_number (word t r 2)
          → w ≡ value t vars marks code a → w ≡ value t vars marks code r
      first_chosen h ha i = (rw ha at i) ∙ then_goes sides (rw hf at h) ∙ chosen

      pub second_chosen : {b : ℕ} {w : Worked ℤ} → got false ≡ truth t vars marks code f → b ≡ field_number (word t r 3)
          → w ≡ value t vars marks code b → w ≡ value t vars marks code r
      second_chosen h hb i = (rw hb at i) ∙ then_goes sides (rw hf at h) ∙ chosen

  -- ---- an operator, with the parts a and b

  module _ (o : Operates k) {a b : ℕ} (ha : a ≡ field_number (word t r 1)) (hb : b ≡ field_number (word t r 2)) where
    pub operands_low : (a < r) × (b < r)
    operands_low =
        rw (ha, hb) (lower₂ (field_number (word t r 1)) (field_number (word t r 2)) r (below t (table_is g) r g.inside (operation t r read o)))

    pub operands : Pair (value t vars marks code a) (value t vars marks code b) (operated mode_64 (state_of [] []) code (operator_of (number k)))
        (value t vars marks code r)
    unfolding work
    operands = rw (ha, hb) (record { is = value_by g code (operation t r read o) })

  -- ---- any other row has no expression

  pub no_value : PastExpressions k → got (pos 0) ≡ value t vars marks code r
  unfolding work
  no_value p = sym (ap (work mode_64 (state_of vars marks) code) (no_expression t r read (expr_at t) (formula_at t) p)) ∙ value_by g code refl
