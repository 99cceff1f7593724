-- What the kinds open: those that stand in a run of numbers, then all that open nothing. Assumes nothing.
use Prim.Native.Nat.{ℕ, zero, suc, ◌+◌, ◌≤◌, ◌<◌}
use native.Mathlib.Omega.{arith as linear}
use mathlib.Core.Path.{◌≡◌, refl, sym, ap, ◌∙◌}
use mathlib.Core.List.{List, [], ◌∷◌}
use mathlib.Core.Bool.{Bool, true, false, cond, ◌&&◌}
use lib.IntN.{ℤ, pos}
use lib.Dec.{eqb, ltb, leb}
use borrow.Author.Tests.{eqb-true, eqb-false, leb-true, le-ltb}
use Rattle.script.specs.declared.Row.{Row}
use Rattle.script.specs.Rows.{Kind, listed, kinds, row_of}
use Rattle.list_reader.specs.declared.formulas.ExpressionNode.{ExpressionNode}
use Rattle.list_reader.specs.declared.formulas.ExpressionNode.TheVariants as E
use Rattle.list_reader.specs.declared.formulas.FormulaNode.{FormulaNode}
use Rattle.list_reader.specs.declared.formulas.FormulaNode.TheVariants as F
use Rattle.list_reader.specs.Nodes.{expression_node, formula_node}
use Rattle.list_reader.proofs.Reading.{is_expression, is_formula}

-- ---- a run of numbers

abbrev Run : (ℕ → Type 0) → ℕ → ℕ → Type 0
Run P from zero = Unit {0}
Run P from (suc k) = P from × Run P (suc from) k

within : (P : ℕ → Type 0) (from k n : ℕ) → Run P from k → from ≤ n → n < from + k → P n
within P from zero n r h l = absurd (omega linear)
within P from (suc k) n r h l = go (eqb from n) refl (within P (suc from) k n r.1)
  where
    go : (b : Bool) → eqb from n ≡ b → (suc from ≤ n → n < suc from + k → P n) → P n
    go true e f = rw (← eqb-true from n e) r.0
    go false e f = f (omega (linear, eqb-false from n e)) (omega linear)

module _ (next : ℤ) {n : ℕ} where
  pub arithmetic_kind : 3 ≤ n → n < 8 → E.Arithmetic ≡ expression_node (row_of n next (pos 0) (pos 0))
  unfolding row_of
  arithmetic_kind h l =
      within (λ k. E.Arithmetic ≡ expression_node (row_of k next (pos 0) (pos 0))) 3 5 n (refl, (refl, (refl, (refl, (refl, tt))))) h l

  pub truth_kind : 16 ≤ n → n < 18 → F.Truth ≡ formula_node (row_of n next (pos 0) (pos 0))
  unfolding row_of
  truth_kind h l = within (λ k. F.Truth ≡ formula_node (row_of k next (pos 0) (pos 0))) 16 2 n (refl, (refl, tt)) h l

  pub comparison_kind : 18 ≤ n → n < 22 → F.Comparison ≡ formula_node (row_of n next (pos 0) (pos 0))
  unfolding row_of
  comparison_kind h l = within (λ k. F.Comparison ≡ formula_node (row_of k next (pos 0) (pos 0))) 18 4 n (refl, (refl, (refl, (refl, tt)))) h l

  pub junction_kind : 23 ≤ n → n < 26 → F.Junction ≡ formula_node (row_of n next (pos 0) (pos 0))
  unfolding row_of
  junction_kind h l = within (λ k. F.Junction ≡ formula_node (row_of k next (pos 0) (pos 0))) 23 3 n (refl, (refl, (refl, tt))) h l

-- ---- every other number

abbrev between : ℕ → ℕ → ℕ → Bool
between a b n = leb a n && ltb n b

outside : (a b n : ℕ) → (a ≤ n → b ≤ n) → between a b n ≡ false
outside a b n f = go (leb a n) refl
  where
    go : (t : Bool) → leb a n ≡ t → t && ltb n b ≡ false
    go true e = le-ltb n b (f (leb-true a n e))
    go false e = refl

-- of the kinds, only those from a up to b open something
abbrev only : ℕ → ℕ → (Row → Bool) → List Kind → Bool
only a b opens [] = true
only a b opens (k ∷ ks) = cond (between a b k.number) true (cond (opens k.of) false true) && only a b opens ks

nothing_opened : (a b : ℕ) (opens : Row → Bool) (n : ℕ) → between a b n ≡ false → opens Row.Unknown ≡ false → (ks : List Kind)
    → only a b opens ks ≡ true → opens (listed n ks) ≡ false
nothing_opened a b opens n z u [] h = u
nothing_opened a b opens n z u (k ∷ ks) h =
    go (eqb n k.number) refl (between a b k.number) refl (opens k.of) refl h (nothing_opened a b opens n z u ks)
  where
    go : (s : Bool) → eqb n k.number ≡ s → (t : Bool) → between a b k.number ≡ t → (o : Bool) → opens k.of ≡ o
        → cond t true (cond o false true) && only a b opens ks ≡ true → (only a b opens ks ≡ true → opens (listed n ks) ≡ false)
        → opens (cond s k.of (listed n ks)) ≡ false
    go true e true q o r h f =
        let y : true ≡ false = sym q ∙ ap (between a b) (sym (eqb-true n k.number e)) ∙ z in
        let x : ◌≡◌ {A = ℕ} 0 1 = cc in
        absurd (omega linear)
    go true e false q true r h f = let x : ◌≡◌ {A = ℕ} 0 1 = cc in absurd (omega linear)
    go true e false q false r h f = r
    go false e true q o r h f = f h
    go false e false q true r h f = let x : ◌≡◌ {A = ℕ} 0 1 = cc in absurd (omega linear)
    go false e false q false r h f = f h

no_expression : (k : ExpressionNode) → is_expression k ≡ false → E.Nothing ≡ k
no_expression E.Number h = let x : ◌≡◌ {A = ℕ} 0 1 = cc in absurd (omega linear)
no_expression E.Negate h = let x : ◌≡◌ {A = ℕ} 0 1 = cc in absurd (omega linear)
no_expression E.Arithmetic h = let x : ◌≡◌ {A = ℕ} 0 1 = cc in absurd (omega linear)
no_expression E.Choose h = let x : ◌≡◌ {A = ℕ} 0 1 = cc in absurd (omega linear)
no_expression E.Nothing h = refl

no_formula : (k : FormulaNode) → is_formula k ≡ false → F.Nothing ≡ k
no_formula F.Truth h = let x : ◌≡◌ {A = ℕ} 0 1 = cc in absurd (omega linear)
no_formula F.Comparison h = let x : ◌≡◌ {A = ℕ} 0 1 = cc in absurd (omega linear)
no_formula F.Not h = let x : ◌≡◌ {A = ℕ} 0 1 = cc in absurd (omega linear)
no_formula F.Junction h = let x : ◌≡◌ {A = ℕ} 0 1 = cc in absurd (omega linear)
no_formula F.Nothing h = refl

module _ (next : ℤ) {n : ℕ} where
  pub no_expression_kind : (1 ≤ n → 11 ≤ n) → E.Nothing ≡ expression_node (row_of n next (pos 0) (pos 0))
  unfolding row_of
  no_expression_kind l =
      no_expression (expression_node (row_of n next (pos 0) (pos 0)))
      (nothing_opened 1 11 (λ w. is_expression (expression_node w)) n (outside 1 11 n l) refl (kinds next (pos 0) (pos 0)) refl)

  pub no_formula_kind : (16 ≤ n → 26 ≤ n) → F.Nothing ≡ formula_node (row_of n next (pos 0) (pos 0))
  unfolding row_of
  no_formula_kind l =
      no_formula (formula_node (row_of n next (pos 0) (pos 0)))
      (nothing_opened 16 26 (λ w. is_formula (formula_node w)) n (outside 16 26 n l) refl (kinds next (pos 0) (pos 0)) refl)
