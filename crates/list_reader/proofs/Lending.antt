-- The first of two expressions is read in all the words but the last two, which the second needs at least: both together
-- end where they end in all the words. Assumes nothing.
use Prim.Native.Nat.{ℕ, zero, suc, ◌+◌, ◌-◌, ◌≤◌, ◌<◌}
use native.Mathlib.Omega.{arith as linear}
use native.Mathlib.Numerals.{add-one}
use native.Mathlib.Nat.{sub-zero}
use mathlib.Core.Path.{◌≡◌, refl, sym, ap, ◌∙◌}
use mathlib.Core.Option.{Option, none}
use mathlib.Core.List.{List, [], ◌∷◌, ◌++◌}
use mathlib.Core.Bool.{Bool, true, false, cond}
use lib.IntN.{ℤ}
use lib.Dec.{leb}
use lib.ListN.{length, take, drop, length-drop, take-append-drop}
use lib.Seq.{length-take-le}
use borrow.Author.Tests.{leb-true, leb-false}
use Rattle.script.specs.Listing.{◌>>=◌}
use Rattle.list_reader.specs.declared.formulas.FormulaNode.{FormulaNode}
use Rattle.list_reader.specs.declared.formulas.FormulaNode.TheVariants as F
use Rattle.list_reader.specs.Nodes.{formula_node, Opens}
use Rattle.list_reader.specs.Ends.{Ends, nowhere, here, ExpressionEnds, FormulaEnds, after_expression}
use Rattle.list_reader.proofs.Joining.{expression_ends, formula_node_ends}
use Rattle.list_reader.proofs.Reading.{comparison_ends, expression_farther, no_expression_left}
use Rattle.list_reader.proofs.Least.{too_few, expression_takes}
use Rattle.list_reader.proofs.Cutting.{Cut, before, neither, beyond, expression_cut}

rejoined : (at c : ℕ) (ws : List ℤ) → at ≤ c → drop at (take c ws) ++ drop c ws ≡ drop at ws
rejoined zero c ws h = take-append-drop c ws
rejoined (suc at) zero ws h = absurd (omega linear)
rejoined (suc at) (suc c) [] h = refl
rejoined (suc at) (suc c) (w ∷ ws) h = rejoined at c ws (omega linear)

begins : {us : List ℤ} {at e : ℕ} {o : Option (List ℤ)} → Ends us at e o → e ≤ length us → at < e
begins (nowhere h) l = absurd (omega linear)
begins (here h k m) l = k

missed : {us : List ℤ} {at e : ℕ} {o : Option (List ℤ)} → Ends us at e o → length us < e → o ≡ none
missed (nowhere h) l = refl
missed (here h k m) l = absurd (omega linear)

module _ (ws : List ℤ) (c at e : ℕ) (inside : c ≤ length ws) where
  size : length (take c ws) ≡ c
  size = length-take-le c ws inside

  extended : {o p : Option (List ℤ)} → e ≤ c → Ends (take c ws) at e o → Cut (drop c ws) o p → Ends ws at e p
  extended l (nowhere h) x = absurd (omega (linear, size))
  extended l (here h k m) (before vs) =
      here (ap (λ (us : List ℤ). us ++ drop c ws) h ∙ rejoined e c ws l) k (omega linear)

  -- what ends before the cut ends there in all the words
  lent : ExpressionEnds (take c ws) at e → e ≤ c → ExpressionEnds ws at e
  lent x l =
      let start : at < e = begins (x.reads (length (take c ws)) (omega linear)) (omega (linear, size)) in
      expression_ends ws at e λ n h.
      rw (← rejoined at c ws (omega linear))
      (extended l (x.reads n (omega (linear, size))) (expression_cut n (drop at (take c ws)) (drop c ws)))

  -- what reaches past the cut leaves less than two words
  none_after : (n : ℕ) {p : Option (List ℤ)} → length ws ≤ c + 2 → Cut (drop c ws) none p → p >>= after_expression n ≡ none
  none_after n l neither = refl
  none_after n l (beyond ys k) = too_few (omega (linear, length-drop c ws)) (expression_takes n ys)

  no_pair : length ws ≤ c + 2 → ExpressionEnds (take c ws) at e → c < e → (n : ℕ) → length ws ≤ n + at
      → after_expression n (drop at ws) >>= after_expression n ≡ none
  no_pair s x l n h = go (leb at c) refl
    where
      go : (b : Bool) → leb at c ≡ b → after_expression n (drop at ws) >>= after_expression n ≡ none
      go true q =
          let i : at ≤ c = leb-true at c q in
          let cut = expression_cut n (drop at (take c ws)) (drop c ws) in
          none_after n s (rw (missed (x.reads n (omega (linear, size))) (omega (linear, size)), rejoined at c ws i) at cut)
      go false q =
          let i : c < at = leb-false at c q in
          rw (too_few (omega (linear, length-drop at ws)) (expression_takes n (drop at ws)))

-- ---- a comparison's sides: e is where the first ends in the room, m is e or one word past the end of all

module _ {ws : List ℤ} {at room e m : ℕ} {k : FormulaNode} (o : Opens formula_node ws at k) (q : k ≡ F.Comparison)
    (r : room ≡ length ws - 2) (x : ExpressionEnds (take (room - 0) ws) (at + 1) e) (h : m ≡ cond (leb e room) e (length ws + 1)) where
  first_lent : e ≤ room → ExpressionEnds ws (at + 1) e
  first_lent l = lent ws room (at + 1) e (omega linear) (rw (sub-zero room) at x) l

  pub sides_end : {z : ℕ} → ExpressionEnds ws m z → FormulaEnds ws at z
  sides_end {z} y = go (leb e room) refl h
    where
      go : (b : Bool) → leb e room ≡ b → m ≡ cond b e (length ws + 1) → FormulaEnds ws at z
      go true t i = comparison_ends o q (first_lent (leb-true e room t)) (rw i at y)
      go false t i =
          let last : z ≡ suc (length ws) = y.is ∙ rw i (sym (no_expression_left ws).is) ∙ add-one (length ws) in
          formula_node_ends o q z λ n j.
          rw (no_pair ws room (at + 1) e (omega linear) (omega linear) (rw (sub-zero room) at x) (leb-false e room t) n j)
          (nowhere last)

  pub side_farther : at < length ws → at < m
  side_farther i = go (leb e room) refl h
    where
      go : (b : Bool) → leb e room ≡ b → m ≡ cond b e (length ws + 1) → at < m
      go true t j = omega (linear, expression_farther (omega linear) (first_lent (leb-true e room t)))
      go false t j = omega linear
