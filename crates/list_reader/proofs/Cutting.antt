-- Words cut off at the end: what is read of those before them is what is read of all the words, where it ends before the
-- cut; where nothing is read before the cut, a part of all the words ends past it. Assumes nothing.
use Prim.Native.Nat.{ℕ, zero, suc, ◌+◌, ◌<◌}
use native.Mathlib.Omega.{arith as linear}
use mathlib.Core.Path.{◌≡◌, refl, sym, ◌∙◌}
use mathlib.Core.Option.{Option, none, some}
use mathlib.Core.List.{List, [], ◌∷◌, ◌++◌}
use mathlib.Core.Bool.{Bool, true, false, cond}
use lib.IntN.{ℤ, pos}
use lib.Dec.{eqb}
use lib.ListN.{length, get_or}
use Rattle.script.specs.Rows.{Kind, listed, kinds, row_of, field_number}
use Rattle.script.specs.Listing.{◌>>=◌}
use Rattle.list_reader.specs.declared.formulas.ExpressionNode.{ExpressionNode}
use Rattle.list_reader.specs.declared.formulas.ExpressionNode.TheVariants as E
use Rattle.list_reader.specs.declared.formulas.FormulaNode.{FormulaNode}
use Rattle.list_reader.specs.declared.formulas.FormulaNode.TheVariants as F
use Rattle.list_reader.specs.Nodes.{expression_node, formula_node, first_row}
use Rattle.list_reader.specs.Ends.{after_expression, after_formula}
use Rattle.list_reader.proofs.Parts.{expression_parts, formula_parts, expression_next, formula_next}
use Rattle.list_reader.proofs.Least.{Takes, nothing, leaves, too_few, expression_takes, formula_takes}
use Rattle.list_reader.proofs.Least.{no_bound_expression, no_bound_formula}

-- what is left of some words, and what is left of them with xs behind
pub data Cut (xs : List ℤ) : Option (List ℤ) → Option (List ℤ) → Type 0 where
  before : (vs : List ℤ) → Cut xs (some vs) (some (vs ++ xs))
  neither : Cut xs none none
  beyond : (ys : List ℤ) → length ys < length xs → Cut xs none (some ys)

-- nothing before the cut: what is read then reaches past it
reaches : {k : ℕ} {xs us : List ℤ} {o : Option (List ℤ)} → length us < k + length xs → Takes k us o → Cut xs none o
reaches l nothing = neither
reaches l (leaves ys h) = beyond ys (omega linear)

both : {xs : List ℤ} {o p : Option (List ℤ)} (f : List ℤ → Option (List ℤ)) (k : ℕ) → ((vs : List ℤ) → Takes k vs (f vs))
    → ((vs : List ℤ) → Cut xs (f vs) (f (vs ++ xs))) → Cut xs o p → Cut xs (o >>= f) (p >>= f)
both f k t g (before vs) = g vs
both f k t g neither = neither
both f k t g (beyond ys l) = reaches (omega linear) (t ys)

-- ---- a formula's node is its first word's alone

abbrev listed_node : ℕ → List Kind → FormulaNode
listed_node n [] = F.Nothing
listed_node n (k ∷ ks) = cond (eqb n k.number) (formula_node k.of) (listed_node n ks)

node_is : (n : ℕ) (ks : List Kind) → formula_node (listed n ks) ≡ listed_node n ks
node_is n [] = refl
node_is n (k ∷ ks) = go (eqb n k.number) (node_is n ks)
  where
    go : (b : Bool) → formula_node (listed n ks) ≡ listed_node n ks
        → formula_node (cond b k.of (listed n ks)) ≡ cond b (formula_node k.of) (listed_node n ks)
    go true q = refl
    go false q = q

formula_word : (n : ℕ) (x y : ℤ) → formula_node (row_of n x (pos 0) (pos 0)) ≡ formula_node (row_of n y (pos 0) (pos 0))
unfolding row_of
formula_word n x y = node_is n (kinds x (pos 0) (pos 0)) ∙ sym (node_is n (kinds y (pos 0) (pos 0)))

-- ---- the parts of a node, then what a node leaves

module _ (n : ℕ) (xs : List ℤ) (expression : (us : List ℤ) → Cut xs (after_expression n us) (after_expression n (us ++ xs)))
    (formula : (us : List ℤ) → Cut xs (after_formula n us) (after_formula n (us ++ xs))) where
  and_expression : {o p : Option (List ℤ)} → Cut xs o p → Cut xs (o >>= after_expression n) (p >>= after_expression n)
  and_expression c = both (after_expression n) 2 (expression_takes n) expression c

  expression_parts_cut : (v : ExpressionNode) (u : ℤ) (us : List ℤ)
      → Cut xs (expression_parts n v (u ∷ us)) (expression_parts n v (u ∷ us ++ xs))
  expression_parts_cut E.Number u us = before us
  expression_parts_cut E.Negate u us = expression (u ∷ us)
  expression_parts_cut E.Arithmetic u us = and_expression (expression (u ∷ us))
  expression_parts_cut E.Choose u us = and_expression (and_expression (formula (u ∷ us)))
  expression_parts_cut E.Nothing u us = neither

  formula_parts_cut : (v : FormulaNode) (us : List ℤ) → Cut xs (formula_parts n v us) (formula_parts n v (us ++ xs))
  formula_parts_cut F.Truth us = before us
  formula_parts_cut F.Comparison us = and_expression (expression us)
  formula_parts_cut F.Not us = formula us
  formula_parts_cut F.Junction us = both (after_formula n) 1 (formula_takes n) formula (formula us)
  formula_parts_cut F.Nothing us = neither

mutual
  pub expression_cut : (n : ℕ) (us xs : List ℤ) → Cut xs (after_expression n us) (after_expression n (us ++ xs))
  expression_cut zero us xs = rw (no_bound_expression us, no_bound_expression (us ++ xs)) neither
  expression_cut (suc n) [] xs = rw (expression_next n []) (reaches (omega linear) (expression_takes (suc n) xs))
  expression_cut (suc n) (w ∷ []) xs =
      rw (too_few (omega linear) (expression_takes (suc n) (w ∷ []))) (reaches (omega linear) (expression_takes (suc n) (w ∷ xs)))
  expression_cut (suc n) (w ∷ u ∷ us) xs =
      rw (expression_next n (w ∷ u ∷ us), expression_next n (w ∷ u ∷ us ++ xs))
      (expression_parts_cut n xs (λ vs. expression_cut n vs xs) (λ vs. formula_cut n vs xs) (expression_node (first_row (w ∷ u ∷ us))) u us)

  pub formula_cut : (n : ℕ) (us xs : List ℤ) → Cut xs (after_formula n us) (after_formula n (us ++ xs))
  formula_cut zero us xs = rw (no_bound_formula us, no_bound_formula (us ++ xs)) neither
  formula_cut (suc n) [] xs = rw (formula_next n []) (reaches (omega linear) (formula_takes (suc n) xs))
  formula_cut (suc n) (w ∷ us) xs =
      rw (formula_next n (w ∷ us), formula_next n (w ∷ us ++ xs), formula_word (field_number w) (get_or (us ++ xs) 0 (pos 0)) (get_or us 0 (pos 0)))
      (formula_parts_cut n xs (λ vs. expression_cut n vs xs) (λ vs. formula_cut n vs xs) (formula_node (first_row (w ∷ us))) us)
