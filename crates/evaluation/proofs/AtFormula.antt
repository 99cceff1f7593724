-- What is worked out at the row of a formula, by its kind, from what is worked out at its parts; and that its parts are lower.
-- Assumes nothing.
use Prim.Native.Nat.{ℕ, ◌<◌}
use mathlib.Core.Path.{◌≡◌, refl, sym, ap, ◌∙◌}
use mathlib.Core.Bool.{Bool, true, false}
use mathlib.Core.List.{List}
use lib.IntN.{ℤ}
use Rattle.script.specs.Meaning.{relate, connect}
use Rattle.script.specs.declared.kinds.Kind.{Kind}
use Rattle.script.specs.Kinds.{number, kind_of}
use Rattle.script.specs.Rows.{field_number, row_of, word}
use Rattle.script.specs.Trees.{expr_at, formula_at}
use Rattle.theorems.specs.RowTrees.{below, lower₁, lower₂}
use Rattle.stepping.specs.Values.{Worked, got, mode_64, work, judge}
use Rattle.stepping.specs.Machine.{state_of}
use Rattle.evaluation.specs.Worked.{denial, Lent}
use Rattle.evaluation.specs.Kinds.{relation_of, connective_of}
use Rattle.evaluation.proofs.Stops.{Pair}
use Rattle.evaluation.proofs.RowKinds.{Relates, Connects, PastFormulas, of_kind, comparison, junction, no_formula_here}
use Rattle.evaluation.proofs.AtRow.{value, truth, table_is, truth_by}

module _ {t vars marks : List ℤ} {r : ℕ} (g : Lent t vars marks r) (code : Bool) {k : Kind} (read : k ≡ kind_of (field_number (word t r 0))) where
  -- ---- false

  pub falsehood : k ≡ Kind.False → got false ≡ truth t vars marks code r
  unfolding row_of work
  falsehood e = truth_by g code (of_kind t r read e refl)

  -- ---- not

  module _ (e : k ≡ Kind.Not) {a : ℕ} (ha : a ≡ field_number (word t r 1)) where
    pub denied_low : a < r
    unfolding row_of
    denied_low = rw ha (lower₁ (field_number (word t r 1)) r (below t (table_is g) r g.inside (of_kind t r read e refl)))

    pub denial_is : {x : Worked Bool} → x ≡ truth t vars marks code a → denial x ≡ truth t vars marks code r
    unfolding row_of work
    denial_is h = ap denial (h ∙ ap (truth t vars marks code) ha) ∙ truth_by g code (of_kind t r read e refl)

  -- ---- a relation or a connective, with the parts a and b

  module _ {a b : ℕ} (ha : a ≡ field_number (word t r 1)) (hb : b ≡ field_number (word t r 2)) where
    module _ (o : Relates k) where
      pub compared_low : (a < r) × (b < r)
      compared_low =
          rw (ha, hb) (lower₂ (field_number (word t r 1)) (field_number (word t r 2)) r (below t (table_is g) r g.inside (comparison t r read o)))

      pub compared : Pair (value t vars marks code a) (value t vars marks code b) (λ x y. got (relate (relation_of (number k)) x y)) (truth t vars marks code r)
      unfolding work
      compared = rw (ha, hb) (record { is = truth_by g code (comparison t r read o) })

    module _ (o : Connects k) where
      pub joined_low : (a < r) × (b < r)
      joined_low =
          rw (ha, hb) (lower₂ (field_number (word t r 1)) (field_number (word t r 2)) r (below t (table_is g) r g.inside (junction t r read o)))

      pub joined : Pair (truth t vars marks code a) (truth t vars marks code b) (λ x y. got (connect (connective_of (number k)) x y)) (truth t vars marks code r)
      unfolding work
      joined = rw (ha, hb) (record { is = truth_by g code (junction t r read o) })

  -- ---- any other row has no formula, or is true

  pub no_truth : PastFormulas k → got true ≡ truth t vars marks code r
  unfolding work
  no_truth p = sym (ap (judge mode_64 (state_of vars marks) code) (no_formula_here t r read (expr_at t) (formula_at t) p)) ∙ truth_by g code refl
