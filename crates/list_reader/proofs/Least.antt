-- How many words a part takes at least: an expression two, a formula one. Assumes nothing.
use Prim.Native.Nat.{ℕ, zero, suc, ◌+◌, ◌≤◌, ◌<◌}
use native.Mathlib.Omega.{arith as linear}
use mathlib.Core.Path.{◌≡◌, refl}
use mathlib.Core.Option.{Option, none, some}
use mathlib.Core.List.{List, [], ◌∷◌}
use lib.IntN.{ℤ}
use lib.ListN.{length}
use Rattle.script.specs.Listing.{◌>>=◌, read_expr_within}
use Rattle.list_reader.specs.declared.formulas.ExpressionNode.{ExpressionNode}
use Rattle.list_reader.specs.declared.formulas.ExpressionNode.TheVariants as E
use Rattle.list_reader.specs.declared.formulas.FormulaNode.{FormulaNode}
use Rattle.list_reader.specs.declared.formulas.FormulaNode.TheVariants as F
use Rattle.list_reader.specs.Nodes.{expression_node, formula_node, first_row}
use Rattle.list_reader.specs.Ends.{after_expression, after_formula}
use Rattle.list_reader.proofs.Parts.{expression_parts, formula_parts, expression_next, formula_next}

-- where something was read, k words at least are no longer left
pub data Takes (k : ℕ) (us : List ℤ) : Option (List ℤ) → Type 0 where
  nothing : Takes k us none
  leaves : (vs : List ℤ) → k + length vs ≤ length us → Takes k us (some vs)

pub too_few : {k : ℕ} {us : List ℤ} {o : Option (List ℤ)} → length us < k → Takes k us o → o ≡ none
too_few l nothing = refl
too_few l (leaves vs h) = absurd (omega linear)

least : {k m : ℕ} {us : List ℤ} {o : Option (List ℤ)} → m ≤ k → Takes k us o → Takes m us o
least l nothing = nothing
least l (leaves vs h) = leaves vs (omega linear)

one_more : {k : ℕ} {us : List ℤ} (w : ℤ) {o : Option (List ℤ)} → Takes k us o → Takes (suc k) (w ∷ us) o
one_more w nothing = nothing
one_more w (leaves vs h) = leaves vs (omega linear)

onward : (k : ℕ) {m : ℕ} {us vs : List ℤ} {o : Option (List ℤ)} → k + length vs ≤ length us → Takes m vs o → Takes (k + m) us o
onward k l nothing = nothing
onward k l (leaves ws h) = leaves ws (omega linear)

both : {k m : ℕ} {us : List ℤ} {o : Option (List ℤ)} (f : List ℤ → Option (List ℤ)) → ((vs : List ℤ) → Takes m vs (f vs)) → Takes k us o
    → Takes (k + m) us (o >>= f)
both f g nothing = nothing
both {k} f g (leaves vs h) = onward k h (g vs)

-- ---- the parts of a node, then what a node takes

module _ (n : ℕ) (expression : (us : List ℤ) → Takes 2 us (after_expression n us))
    (formula : (us : List ℤ) → Takes 1 us (after_formula n us)) where
  expression_parts_take : (v : ExpressionNode) (us : List ℤ) → Takes 1 us (expression_parts n v us)
  expression_parts_take E.Number [] = nothing
  expression_parts_take E.Number (u ∷ us) = leaves us (omega linear)
  expression_parts_take E.Negate us = least (omega linear) (expression us)
  expression_parts_take E.Arithmetic us = least (omega linear) (both (after_expression n) expression (expression us))
  expression_parts_take E.Choose us =
      least (omega linear) (both (after_expression n) expression (both (after_expression n) expression (formula us)))
  expression_parts_take E.Nothing us = nothing

  formula_parts_take : (v : FormulaNode) (us : List ℤ) → Takes 0 us (formula_parts n v us)
  formula_parts_take F.Truth us = leaves us (omega linear)
  formula_parts_take F.Comparison us = least (omega linear) (both (after_expression n) expression (expression us))
  formula_parts_take F.Not us = least (omega linear) (formula us)
  formula_parts_take F.Junction us = least (omega linear) (both (after_formula n) formula (formula us))
  formula_parts_take F.Nothing us = nothing

pub no_bound_expression : (us : List ℤ) → after_expression 0 us ≡ none
unfolding after_expression read_expr_within
no_bound_expression [] = refl
no_bound_expression (u ∷ us) = refl

pub no_bound_formula : (us : List ℤ) → after_formula 0 us ≡ none
unfolding after_formula read_expr_within
no_bound_formula [] = refl
no_bound_formula (u ∷ us) = refl

mutual
  pub expression_takes : (n : ℕ) (us : List ℤ) → Takes 2 us (after_expression n us)
  expression_takes zero us = rw (no_bound_expression us) nothing
  expression_takes (suc n) [] = rw (expression_next n []) nothing
  expression_takes (suc n) (u ∷ us) =
      rw (expression_next n (u ∷ us))
      (one_more u (expression_parts_take n (λ vs. expression_takes n vs) (λ vs. formula_takes n vs) (expression_node (first_row (u ∷ us))) us))

  pub formula_takes : (n : ℕ) (us : List ℤ) → Takes 1 us (after_formula n us)
  formula_takes zero us = rw (no_bound_formula us) nothing
  formula_takes (suc n) [] = rw (formula_next n []) nothing
  formula_takes (suc n) (u ∷ us) =
      rw (formula_next n (u ∷ us))
      (one_more u (formula_parts_take n (λ vs. expression_takes n vs) (λ vs. formula_takes n vs) (formula_node (first_row (u ∷ us))) us))
