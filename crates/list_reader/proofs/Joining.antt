-- One part is read after another: each from where the one before it ends, and where that is one word past the end of all,
-- nothing is left to read. In this order: two parts, a node by its first word, the end as it is defined. Assumes nothing.
use Prim.Native.Nat.{ℕ, zero, suc, ◌+◌, ◌≤◌}
use native.Mathlib.Omega.{arith as linear}
use mathlib.Core.Path.{◌≡◌, refl, sym, ◌∙◌}
use mathlib.Core.Option.{Option, none}
use mathlib.Core.List.{List, [], ◌∷◌}
use lib.IntN.{ℤ}
use lib.ListN.{length, drop, length-drop, drop_of_length-le}
use lib.Seq.{drop-drop}
use Rattle.script.specs.Listing.{◌>>=◌}
use Rattle.script.specs.declared.Row.{Row}
use Rattle.list_reader.specs.declared.formulas.ExpressionNode.{ExpressionNode}
use Rattle.list_reader.specs.declared.formulas.FormulaNode.{FormulaNode}
use Rattle.list_reader.specs.Nodes.{expression_node, formula_node, first_row, Opens}
use Rattle.list_reader.specs.Ends.{Ends, nowhere, here, Reads, place_of, ExpressionEnds, FormulaEnds}
use Rattle.list_reader.specs.Ends.{after_expression, after_formula, expression_end, formula_end}
use Rattle.list_reader.proofs.Parts.{expression_parts, formula_parts, expression_next, formula_next}

-- ---- one part after another

pub weaken : {ws : List ℤ} {at k e : ℕ} {o : Option (List ℤ)} → at ≤ k → Ends ws k e o → Ends ws at e o
weaken l (nowhere h) = nowhere h
weaken l (here h k m) = here h (omega linear) m

-- what is beyond the end is beyond it from any place
none_left : {ws : List ℤ} (at : ℕ) {k e : ℕ} → Ends ws k e none → Ends ws at e none
none_left at (nowhere h) = nowhere h

onward : {ws : List ℤ} {k e : ℕ} {o : Option (List ℤ)} (n : ℕ) → length ws ≤ n + k → Ends ws k e o → length ws ≤ n + e
onward n l (nowhere h) = omega linear
onward n l (here h k m) = omega linear

joined : {ws : List ℤ} {at e₁ e₂ : ℕ} {o : Option (List ℤ)} (f : List ℤ → Option (List ℤ)) → f [] ≡ none → Ends ws at e₁ o
    → Ends ws e₁ e₂ (f (drop e₁ ws)) → Ends ws at e₂ (o >>= f)
joined {ws} {at} {e₁} {e₂} f z (nowhere h) y =
    let l : length ws ≤ e₁ = omega linear in
    none_left at (rw (drop_of_length-le ws l, z) at y)
joined {ws} f z (here h l m) y = rw h (weaken (omega linear) y)

pub pair : {ws : List ℤ} {at e₁ e₂ : ℕ} (f g : ℕ → List ℤ → Option (List ℤ)) → ((n : ℕ) → g n [] ≡ none) → Reads f ws at e₁ → Reads g ws e₁ e₂
    → Reads (λ n us. f n us >>= g n) ws at e₂
pair f g z x y n h = joined (g n) (z n) (x n h) (y n (onward n h (x n h)))

pub no_expression : (n : ℕ) → after_expression n [] ≡ none
unfolding after_expression
no_expression n = refl

pub no_formula : (n : ℕ) → after_formula n [] ≡ none
unfolding after_formula
no_formula n = refl

-- ---- a node by its first word

module _ {K : Type 0} (node : Row → K) (parts : ℕ → K → List ℤ → Option (List ℤ)) (after : ℕ → List ℤ → Option (List ℤ))
    (nothing : (n : ℕ) (us : List ℤ) → parts n (node Row.Unknown) us ≡ none) (absent : (n : ℕ) → after n [] ≡ none)
    (step : (n : ℕ) (us : List ℤ) → after (suc n) us ≡ parts n (node (first_row us)) (drop 1 us)) (ws : List ℤ) (at e : ℕ) where
  reads_of : (n : ℕ) (us : List ℤ) → length us ≤ n → ((m : ℕ) → length us ≤ suc m → Ends ws at e (parts m (node (first_row us)) (drop 1 us)))
      → Ends ws at e (after n us)
  reads_of zero [] h f = rw absent (rw nothing at (f zero (omega linear)))
  reads_of zero (w ∷ us) h f = absurd (let l : suc (length us) ≤ 0 = h in omega linear)
  reads_of (suc n) us h f = rw step (f n h)

  by_node : {k : K} → node (first_row (drop at ws)) ≡ k → ((n : ℕ) → length ws ≤ n + (at + 1) → Ends ws at e (parts n k (drop (at + 1) ws)))
      → Reads after ws at e
  by_node q f n h =
      reads_of n (drop at ws) (rw length-drop (omega linear)) λ m l. rw (q, drop-drop 1 at ws) (f m (omega (linear, length-drop at ws)))

-- ---- the end is the one defined

place_is : {ws : List ℤ} {at e : ℕ} {o : Option (List ℤ)} → Ends ws at e o → e ≡ place_of ws o
place_is (nowhere h) = h
place_is {ws} {at} {e} (here h l m) = rw (h, length-drop) (omega linear)

pub expression_ends : (ws : List ℤ) (at e : ℕ) → Reads after_expression ws at e → ExpressionEnds ws at e
unfolding expression_end
expression_ends ws at e f = record { is = place_is (f (length ws) (omega linear)); reads = f }

formula_ends : (ws : List ℤ) (at e : ℕ) → Reads after_formula ws at e → FormulaEnds ws at e
unfolding formula_end
formula_ends ws at e f = record { is = place_is (f (length ws) (omega linear)); reads = f }

-- ---- by the node, under every bound

module _ {ws : List ℤ} {at : ℕ} {k v : ExpressionNode} (o : Opens expression_node ws at k) (q : k ≡ v) (e : ℕ) where
  pub expression_node_ends : ((n : ℕ) → length ws ≤ n + (at + 1) → Ends ws at e (expression_parts n v (drop (at + 1) ws))) → ExpressionEnds ws at e
  expression_node_ends f =
      expression_ends ws at e
      (by_node expression_node expression_parts after_expression (λ n us. refl) no_expression expression_next ws at e (sym o.is ∙ q) f)

module _ {ws : List ℤ} {at : ℕ} {k v : FormulaNode} (o : Opens formula_node ws at k) (q : k ≡ v) (e : ℕ) where
  pub formula_node_ends : ((n : ℕ) → length ws ≤ n + (at + 1) → Ends ws at e (formula_parts n v (drop (at + 1) ws))) → FormulaEnds ws at e
  formula_node_ends f =
      formula_ends ws at e (by_node formula_node formula_parts after_formula (λ n us. refl) no_formula formula_next ws at e (sym o.is ∙ q) f)
