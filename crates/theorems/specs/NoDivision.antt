-- 02, P5: "What has no div or mod adds nothing", of tables: where no guard and no assigned expression of a table's tree
-- divides, the generator answers and leaves what it would with 01's conditions, whatever scratch is needed (`same_by`), so by the
-- present rule (`same_outcome`; by the rule of 01 it is `ScratchRules.before_division`); and so it does for a table without a div
-- or mod row (`same_for_table`), and for every table that is refused with 1 to 10.
-- Argument: the first by `same_conditions`; the second by induction on the depth, since a tree's operators are those of its
-- rows; past the last row of an accepted table there is none (`past_end`). Assumes nothing.
use Prim.Native.Nat.{ℕ, zero, suc, ◌+◌, ◌*◌, ◌-◌, ◌≤◌, ◌<◌}
use Rattle.std.proofs.Common.{arith as linear, ap, ap₂}
use Rattle.std.proofs.Math.Decide.{dec_lt}
use Rattle.std.specs.Prelude.{◌≡◌, Bool, false, ◌||◌, List, [], ◌∷◌, ℤ, pos, length, get_or}
use Rattle.std.proofs.Math.Path.{refl}
use Rattle.script.specs.declared.ExpressionRow.TheVariants.{Constant, Variable, Arithmetic, Negate, Mark, Choose}
use Rattle.script.specs.declared.FormulaRow.TheVariants.{True, False, Comparison, Not, Junction}
use Rattle.script.specs.declared.StatementRow.TheVariants.{Skip, Assign, Sequence, If, While, Assert}
use Rattle.script.specs.declared.Row.{Row}
use Rattle.script.specs.Syntax.{Expr, Formula, Stmt, Tree}
use Rattle.script.specs.Rows.{at_kind, row_of, row, rows}
use Rattle.script.specs.Trees.{expr_node, formula_node, loop_node, stmt_node, script_node, expr, formula, stmt, expr_at, formula_at, stmt_at, tree}
use Rattle.script.specs.Refusals.{Verdict, accepted, refused, verdict}
use Rattle.script.specs.Conditions.{Condition, conditions}
use Rattle.script.specs.Generated.{Outcome, refuse, scratch_need, outcome_for, outcome, outcome_within}
use Rattle.theorems.specs.Accepted.{passed}
use Rattle.theorems.specs.Unchanged.{is_division, divides, dividesᶠ, Undivided, conditions₀, same_conditions}

-- ---- with other conditions, and another need for scratch

abbrev pub outcome_by : (Tree → List Condition) → ℕ → List ℤ → ℕ → ℕ → Outcome
outcome_by cs need table list scratch =
    elim (verdict table) [
      | refused n r ↦ refuse n r list scratch
      | accepted ↦ outcome_for need (cs (tree table)) list scratch
    ]

-- with the conditions of before P5, by the present rule for scratch and in the present form of lists
unfoldable pub outcome₀ : List ℤ → ℕ → ℕ → Outcome
outcome₀ table list scratch = outcome_by conditions₀ (scratch_need table) table list scratch

pub same_by : (need : ℕ) (t : List ℤ) (list scratch : ℕ) → (verdict t ≡ accepted → Undivided (tree t).body)
    → outcome_by conditions need t list scratch ≡ outcome_by conditions₀ need t list scratch
same_by need t list scratch u = by_verdict (verdict t) u
  where
    by_verdict : (v : Verdict) → (v ≡ accepted → Undivided (tree t).body)
        → ◌≡◌ {A = Outcome} (elim v [ refused n r ↦ refuse n r list scratch | accepted ↦ outcome_for need (conditions (tree t)) list scratch ])
        (elim v [ refused n r ↦ refuse n r list scratch | accepted ↦ outcome_for need (conditions₀ (tree t)) list scratch ])
    by_verdict (refused n r) w = refl
    by_verdict accepted w = ap (λ cs. outcome_for need cs list scratch) (same_conditions (tree t) (w refl))

pub same_outcome : (t : List ℤ) (list scratch : ℕ) → (verdict t ≡ accepted → Undivided (tree t).body)
    → outcome t list scratch ≡ outcome₀ t list scratch
unfolding outcome_within outcome₀
same_outcome t list scratch u = same_by (scratch_need t) t list scratch u

-- ---- a table without a div or mod row

abbrev pub is_division_row : Row → Bool
is_division_row (Row.Expression (Arithmetic o a b)) = is_division o
is_division_row (Row.Expression (Constant z)) = false
is_division_row (Row.Expression (Variable v)) = false
is_division_row (Row.Expression (Negate a)) = false
is_division_row (Row.Expression (Mark m)) = false
is_division_row (Row.Expression (Choose f a b)) = false
is_division_row (Row.Formula w) = false
is_division_row (Row.Statement w) = false
is_division_row (Row.Note i v) = false
is_division_row (Row.Script p s q) = false
is_division_row Row.Unknown = false

neither : {p q : Bool} → p ≡ false → q ≡ false → (p || q) ≡ false
neither h k = ap₂ ◌||◌ h k

-- a row's tree, from trees E, F and S of its links that do not divide
module _ (E : ℕ → Expr) (F : ℕ → Formula) (hE : (k : ℕ) → divides (E k) ≡ false) (hF : (k : ℕ) → dividesᶠ (F k) ≡ false) where
  undivided_expr_node : (w : Row) → is_division_row w ≡ false → divides (expr_node E F w) ≡ false
  unfolding divides
  undivided_expr_node (Row.Expression (Constant z)) h = refl
  undivided_expr_node (Row.Expression (Variable v)) h = refl
  undivided_expr_node (Row.Expression (Arithmetic o a b)) h = neither (neither (hE a.0) (hE b.0)) h
  undivided_expr_node (Row.Expression (Negate a)) h = hE a.0
  undivided_expr_node (Row.Expression (Mark m)) h = refl
  undivided_expr_node (Row.Expression (Choose f a b)) h = neither (neither (hF f.0) (hE a.0)) (hE b.0)
  undivided_expr_node (Row.Formula w) h = refl
  undivided_expr_node (Row.Statement w) h = refl
  undivided_expr_node (Row.Note i v) h = refl
  undivided_expr_node (Row.Script p s q) h = refl
  undivided_expr_node Row.Unknown h = refl

  undivided_formula_node : (w : Row) → dividesᶠ (formula_node E F w) ≡ false
  unfolding dividesᶠ
  undivided_formula_node (Row.Formula True) = refl
  undivided_formula_node (Row.Formula False) = refl
  undivided_formula_node (Row.Formula (Comparison o a b)) = neither (hE a.0) (hE b.0)
  undivided_formula_node (Row.Formula (Not f)) = hF f.0
  undivided_formula_node (Row.Formula (Junction o f g)) = neither (hF f.0) (hF g.0)
  undivided_formula_node (Row.Expression w) = refl
  undivided_formula_node (Row.Statement w) = refl
  undivided_formula_node (Row.Note i v) = refl
  undivided_formula_node (Row.Script p s q) = refl
  undivided_formula_node Row.Unknown = refl

  undivided_loop_node : (r : ℕ) (g : Formula) (x : Stmt) → dividesᶠ g ≡ false → Undivided x → (w : Row) → Undivided (loop_node E F r g w x)
  undivided_loop_node r g x h u (Row.Note i v) = (h, u)
  undivided_loop_node r g x h u (Row.Expression w) = tt
  undivided_loop_node r g x h u (Row.Formula w) = tt
  undivided_loop_node r g x h u (Row.Statement w) = tt
  undivided_loop_node r g x h u (Row.Script p s q) = tt
  undivided_loop_node r g x h u Row.Unknown = tt

  undivided_stmt_node : (S : ℕ → Stmt) (N : ℕ → Row) (r : ℕ) → ((k : ℕ) → Undivided (S k)) → (w : Row) → Undivided (stmt_node E F S N r w)
  undivided_stmt_node S N r u (Row.Statement Skip) = tt
  undivided_stmt_node S N r u (Row.Statement (Assign v e)) = hE e.0
  undivided_stmt_node S N r u (Row.Statement (Sequence a b)) = (u a.0, u b.0)
  undivided_stmt_node S N r u (Row.Statement (If b x y)) = (hF b.0, u x.0, u y.0)
  undivided_stmt_node S N r u (Row.Statement (While b i x)) = undivided_loop_node r (F b.0) (S x.0) (hF b.0) (u x.0) (N i.0)
  undivided_stmt_node S N r u (Row.Statement (Assert f)) = tt
  undivided_stmt_node S N r u (Row.Expression w) = tt
  undivided_stmt_node S N r u (Row.Formula w) = tt
  undivided_stmt_node S N r u (Row.Note i v) = tt
  undivided_stmt_node S N r u (Row.Script p s q) = tt
  undivided_stmt_node S N r u Row.Unknown = tt

module _ (t : List ℤ) (none : (r : ℕ) → is_division_row (row t r) ≡ false) where
  mutual
    unfolding expr formula divides dividesᶠ

    undivided_expr : (n r : ℕ) → divides (expr t n r) ≡ false
    undivided_expr zero r = refl
    undivided_expr (suc n) r =
        undivided_expr_node (λ k. expr t n k) (λ k. formula t n k) (λ k. undivided_expr n k) (λ k. undivided_formula n k) (row t r) (none r)

    undivided_formula : (n r : ℕ) → dividesᶠ (formula t n r) ≡ false
    undivided_formula zero r = refl
    undivided_formula (suc n) r =
        undivided_formula_node (λ k. expr t n k) (λ k. formula t n k) (λ k. undivided_expr n k) (λ k. undivided_formula n k) (row t r)

  undivided_stmt : (n r : ℕ) → Undivided (stmt t n r)
  unfolding stmt
  undivided_stmt zero r = tt
  undivided_stmt (suc n) r =
      undivided_stmt_node (expr t n) (formula t n) (undivided_expr n) (undivided_formula n) (stmt t n) (row t) r (λ k. undivided_stmt n k) (row t r)

  undivided_tree : Undivided (tree t).body
  unfolding tree stmt_at
  undivided_tree = node (row t (rows t - 1))
    where
      node : (w : Row) → Undivided (script_node (expr_at t) (formula_at t) (stmt_at t) (rows t - 1) w).body
      node (Row.Script p s q) = undivided_stmt (rows t) s.0
      node (Row.Expression w) = tt
      node (Row.Formula w) = tt
      node (Row.Statement w) = tt
      node (Row.Note i v) = tt
      node Row.Unknown = tt

-- ---- past its end a table has no row

nothing_past : (ws : List ℤ) (i : ℕ) → length ws ≤ i → get_or ws i (pos 0) ≡ pos 0
nothing_past [] i h = refl
nothing_past (w ∷ ws) zero h = absurd (omega linear)
nothing_past (w ∷ ws) (suc i) h = nothing_past ws i (omega linear)

pub past_end : (t : List ℤ) → length t ≡ 4 * rows t → (r : ℕ) → rows t ≤ r → row t r ≡ Row.Unknown
unfolding row row_of
past_end t fours r h = ap (λ (z : ℤ). at_kind t z r) (nothing_past t (4 * r + 0) (omega linear))

pub same_for_table : (t : List ℤ) → ((r : ℕ) → r < rows t → is_division_row (row t r) ≡ false) → (list scratch : ℕ)
    → outcome t list scratch ≡ outcome₀ t list scratch
same_for_table t none list scratch = same_outcome t list scratch λ ok. undivided_tree t λ r. everywhere ok r (dec_lt r (rows t))
  where
    everywhere : verdict t ≡ accepted → (r : ℕ) → Dec (r < rows t) → is_division_row (row t r) ≡ false
    everywhere ok r (yes l) = none r l
    everywhere ok r (no l) = ap is_division_row (past_end t (passed t ok).fours r (omega linear))
