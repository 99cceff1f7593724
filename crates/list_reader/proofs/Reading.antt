-- A node ends where the last of its parts ends: the lemma for each kind of node, for a word that opens none, and how far a
-- part reaches. Assumes nothing.
use Prim.Native.Nat.{ℕ, ◌+◌, ◌-◌, ◌≤◌, ◌<◌}
use native.Mathlib.Omega.{arith as linear}
use native.Mathlib.Numerals.{add-one}
use mathlib.Core.Path.{◌≡◌, refl, sym, ap, ◌∙◌}
use mathlib.Core.Option.{Option}
use mathlib.Core.List.{List, []}
use mathlib.Core.Bool.{Bool, true, false}
use lib.IntN.{ℤ}
use lib.Dec.{ltb}
use lib.ListN.{length, drop, drop_of_length-le}
use borrow.Author.Tests.{ltb-true, ltb-false}
use Rattle.script.specs.declared.Row.{Row}
use Rattle.script.specs.Listing.{◌>>=◌}
use Rattle.list_reader.specs.declared.formulas.ExpressionNode.{ExpressionNode}
use Rattle.list_reader.specs.declared.formulas.ExpressionNode.TheVariants as E
use Rattle.list_reader.specs.declared.formulas.FormulaNode.{FormulaNode}
use Rattle.list_reader.specs.declared.formulas.FormulaNode.TheVariants as F
use Rattle.list_reader.specs.Nodes.{expression_node, formula_node, first_row, Opens}
use Rattle.list_reader.specs.Ends.{Ends, nowhere, here, NumberEnds, ExpressionEnds, FormulaEnds, after_expression, after_formula}
use Rattle.list_reader.proofs.Opening.{closed}
use Rattle.list_reader.proofs.Joining.{weaken, pair, no_expression, no_formula, expression_node_ends, formula_node_ends}

module _ {ws : List ℤ} {at : ℕ} {k : ExpressionNode} (o : Opens expression_node ws at k) where
  pub number_ends : k ≡ E.Number → (e : ℕ) → NumberEnds ws (at + 1) e → ExpressionEnds ws at e
  number_ends q e x = expression_node_ends o q e λ n h. weaken (omega linear) x

  pub negate_ends : k ≡ E.Negate → {e : ℕ} → ExpressionEnds ws (at + 1) e → ExpressionEnds ws at e
  negate_ends q {e} x = expression_node_ends o q e λ n h. weaken (omega linear) (x.reads n h)

  pub arithmetic_ends : k ≡ E.Arithmetic → {e₁ e₂ : ℕ} → ExpressionEnds ws (at + 1) e₁ → ExpressionEnds ws e₁ e₂ → ExpressionEnds ws at e₂
  arithmetic_ends q {e₁} {e₂} x y =
      expression_node_ends o q e₂ λ n h. weaken (omega linear) (pair after_expression after_expression no_expression x.reads y.reads n h)

  pub choose_ends : k ≡ E.Choose → {e₁ e₂ e₃ : ℕ} → FormulaEnds ws (at + 1) e₁ → ExpressionEnds ws e₁ e₂ → ExpressionEnds ws e₂ e₃
      → ExpressionEnds ws at e₃
  choose_ends q {e₁} {e₂} {e₃} x y z =
      expression_node_ends o q e₃ λ n h. weaken (omega linear)
      (pair (λ m us. after_formula m us >>= after_expression m) after_expression no_expression
      (pair after_formula after_expression no_expression x.reads y.reads)
      z.reads n h)

  pub expression_missing : k ≡ E.Nothing → ExpressionEnds ws at (length ws + 1)
  expression_missing q = expression_node_ends o q (length ws + 1) λ n h. nowhere (add-one (length ws))

module _ {ws : List ℤ} {at : ℕ} {k : FormulaNode} (o : Opens formula_node ws at k) where
  pub truth_ends : k ≡ F.Truth → at < length ws → FormulaEnds ws at (at + 1)
  truth_ends q l = formula_node_ends o q (at + 1) λ n h. here refl (omega linear) (omega linear)

  pub comparison_ends : k ≡ F.Comparison → {e₁ e₂ : ℕ} → ExpressionEnds ws (at + 1) e₁ → ExpressionEnds ws e₁ e₂ → FormulaEnds ws at e₂
  comparison_ends q {e₁} {e₂} x y =
      formula_node_ends o q e₂ λ n h. weaken (omega linear) (pair after_expression after_expression no_expression x.reads y.reads n h)

  pub not_ends : k ≡ F.Not → {e : ℕ} → FormulaEnds ws (at + 1) e → FormulaEnds ws at e
  not_ends q {e} x = formula_node_ends o q e λ n h. weaken (omega linear) (x.reads n h)

  pub junction_ends : k ≡ F.Junction → {e₁ e₂ : ℕ} → FormulaEnds ws (at + 1) e₁ → FormulaEnds ws e₁ e₂ → FormulaEnds ws at e₂
  junction_ends q {e₁} {e₂} x y =
      formula_node_ends o q e₂ λ n h. weaken (omega linear) (pair after_formula after_formula no_formula x.reads y.reads n h)

  pub formula_missing : k ≡ F.Nothing → FormulaEnds ws at (length ws + 1)
  formula_missing q = formula_node_ends o q (length ws + 1) λ n h. nowhere (add-one (length ws))

-- ---- a word that opens something is one of the words

abbrev pub is_expression : ExpressionNode → Bool
is_expression E.Number = true
is_expression E.Negate = true
is_expression E.Arithmetic = true
is_expression E.Choose = true
is_expression E.Nothing = false

abbrev pub is_formula : FormulaNode → Bool
is_formula F.Truth = true
is_formula F.Comparison = true
is_formula F.Not = true
is_formula F.Junction = true
is_formula F.Nothing = false

stands : {K : Type 0} {node : Row → K} (opens : K → Bool) → opens (node Row.Unknown) ≡ false → {ws : List ℤ} {at : ℕ} {k v : K}
    → Opens node ws at k → k ≡ v → opens v ≡ true → at < length ws
stands {node = node} opens z {ws} {at} o q t = go (ltb at (length ws)) refl
  where
    go : (b : Bool) → ltb at (length ws) ≡ b → at < length ws
    go true e = ltb-true at (length ws) e
    go false e =
        let d : drop at ws ≡ [] = drop_of_length-le ws (ltb-false at (length ws) e) in
        let y : true ≡ false = sym t ∙ ap opens (sym q ∙ o.is ∙ ap (λ (us : List ℤ). node (first_row us)) d) ∙ z in
        let x : ◌≡◌ {A = ℕ} 0 1 = cc in
        absurd (omega linear)

pub expression_stands : {ws : List ℤ} {at : ℕ} {k v : ExpressionNode} → Opens expression_node ws at k → k ≡ v → is_expression v ≡ true
    → at < length ws
expression_stands o q t = stands is_expression refl o q t

pub formula_stands : {ws : List ℤ} {at : ℕ} {k v : FormulaNode} → Opens formula_node ws at k → k ≡ v → is_formula v ≡ true → at < length ws
formula_stands o q t = stands is_formula refl o q t

-- ---- a part that begins within the words, or at their end, takes a word at least

farther : {ws : List ℤ} {at e : ℕ} {o : Option (List ℤ)} → at ≤ length ws → Ends ws at e o → at < e
farther l (nowhere h) = omega linear
farther l (here h k m) = k

pub expression_farther : {ws : List ℤ} {at e : ℕ} → at ≤ length ws → ExpressionEnds ws at e → at < e
expression_farther {ws} l x = farther l (x.reads (length ws) (omega linear))

pub formula_farther : {ws : List ℤ} {at e : ℕ} → at ≤ length ws → FormulaEnds ws at e → at < e
formula_farther {ws} l x = farther l (x.reads (length ws) (omega linear))

-- ---- past the end of all there is no part

pub no_expression_left : (ws : List ℤ) → ExpressionEnds ws (length ws + 1) (length ws + 1)
no_expression_left ws = expression_missing (closed ws (length ws + 1) (omega linear) expression_node) refl

pub no_formula_left : (ws : List ℤ) → FormulaEnds ws (length ws + 1) (length ws + 1)
no_formula_left ws = formula_missing (closed ws (length ws + 1) (omega linear) formula_node) refl

-- ---- the words left fall, from a place k after the one at hand

pub falls : {m n begin at k t : ℕ} → m ≡ n → n - begin ≡ t → begin ≤ at → at < n → at < k → m - k < t
falls q h l i j = omega linear
