-- What a path of assignments makes of a formula. A path is a run with an entry for each assignment that was passed, the
-- latest last. W of an assignment replaces a variable, and replacing one after another is replacing all at once: `under` says
-- by what, and `assign_passed` that an assignment which is put on the path need not be carried out, but for its D (02, P5).
-- Assumes nothing.
use Rattle.std.specs.Prelude.{ℕ, zero, suc, ◌+◌, ◌*◌, ◌/◌, ◌%◌, ◌≡◌, Bool, cond, List, eqb, ℤ, pos, get_or}
use Rattle.std.proofs.Math.Path.{refl}
use Rattle.std.proofs.Common.{ap, ◌∙◌}
use Rattle.std.proofs.Math.Bool.{true, false}
use Rattle.std.proofs.Math.Option.{Option, none, some}
use Rattle.script.specs.Syntax.{Expr, const, var, mark, arith, neg, choose, Formula, truth, cmp, not, join, Stmt, skip, assign, seq, branch, loop, assert}
use Rattle.script.specs.Conditions.{subst_expr, subst_formula, divisors, ◌and◌, wp}
use Rattle.script.specs.Words.{expr_words, formula_words}
use Rattle.script.specs.Rows.{field_number, word}
use Rattle.script.specs.Trees.{expr_at, formula_at, stmt_at}

-- every variable v replaced by τ v, all at once
module _ (τ : ℕ → Expr) where
  unfoldable mutual
    pub replaceᵉ : Expr → Expr
    replaceᵉ (const z) = const z
    replaceᵉ (var v) = τ v
    replaceᵉ (mark m) = mark m
    replaceᵉ (arith o a b) = arith o (replaceᵉ a) (replaceᵉ b)
    replaceᵉ (neg a) = neg (replaceᵉ a)
    replaceᵉ (choose f a b) = choose (replaceᶠ f) (replaceᵉ a) (replaceᵉ b)

    pub replaceᶠ : Formula → Formula
    replaceᶠ (truth b) = truth b
    replaceᶠ (cmp r a b) = cmp r (replaceᵉ a) (replaceᵉ b)
    replaceᶠ (not f) = not (replaceᶠ f)
    replaceᶠ (join c f g) = join c (replaceᶠ f) (replaceᶠ g)

-- D, with its variables replaced
abbrev pub replaceᵒ : (ℕ → Expr) → Option Formula → Option Formula
replaceᵒ τ none = none
replaceᵒ τ (some f) = some (replaceᶠ τ f)

-- what variable w stands for once a statement is passed, where τ says what it stood for before
abbrev pub passing : Stmt → (ℕ → Expr) → ℕ → Expr
passing (assign v e) τ w = cond (eqb w v) (replaceᵉ τ e) (τ w)
passing skip τ w = τ w
passing (seq a b) τ w = τ w
passing (branch b x y) τ w = τ w
passing (loop m b i v x) τ w = τ w
passing (assert f) τ w = τ w

-- the entry of the assignment at row r, which is below 2048: the row, and beside it the variable that is assigned
abbrev pub entry : List ℤ → ℕ → ℤ
entry t r = pos (2048 * field_number (word t r 1) + r)

-- the entry at place i of a path, and the row and the variable in it

abbrev pub entry_on : List ℤ → ℕ → ℕ
entry_on path i = field_number (get_or path i (pos 0))

abbrev pub passed_row : List ℤ → ℕ → ℕ
passed_row path i = entry_on path i % 2048

abbrev pub passed_variable : List ℤ → ℕ → ℕ
passed_variable path i = entry_on path i / 2048

-- what a variable stands for under the first j assignments of the path
unfoldable pub under : List ℤ → List ℤ → ℕ → ℕ → Expr
under t path zero = var
under t path (suc j) = passing (stmt_at t (passed_row path j)) (under t path j)

-- the words of the expression and of the formula at a row, under the first j assignments of the path
abbrev pub expr_under : List ℤ → List ℤ → ℕ → ℕ → List ℤ
expr_under t path j r = expr_words (replaceᵉ (under t path j) (expr_at t r))

abbrev pub formula_under : List ℤ → List ℤ → ℕ → ℕ → List ℤ
formula_under t path j r = formula_words (replaceᶠ (under t path j) (formula_at t r))

-- ---- an assignment that is passed

module _ (τ : ℕ → Expr) (v : ℕ) (e : Expr) where
  at_variable : (w : ℕ) (b : Bool) → replaceᵉ τ (cond b e (var w)) ≡ cond b (replaceᵉ τ e) (τ w)
  unfolding replaceᵉ
  at_variable w true = refl
  at_variable w false = refl

  mutual
    unfolding replaceᵉ replaceᶠ subst_expr subst_formula

    after_expr : (x : Expr) → replaceᵉ τ (subst_expr v e x) ≡ replaceᵉ (passing (assign v e) τ) x
    after_expr (const z) = refl
    after_expr (var w) = at_variable w (eqb w v)
    after_expr (mark m) = refl
    after_expr (arith o a b) = rw (after_expr a, after_expr b)
    after_expr (neg a) = rw (after_expr a)
    after_expr (choose f a b) = rw (after_formula f, after_expr a, after_expr b)

    after_formula : (x : Formula) → replaceᶠ τ (subst_formula v e x) ≡ replaceᶠ (passing (assign v e) τ) x
    after_formula (truth b) = refl
    after_formula (cmp r a b) = rw (after_expr a, after_expr b)
    after_formula (not f) = rw (after_formula f)
    after_formula (join c f g) = rw (after_formula f, after_formula g)

pub and_replaced : (τ : ℕ → Expr) (x : Option Formula) (q : Formula) → replaceᶠ τ (x and q) ≡ replaceᵒ τ x and replaceᶠ τ q
unfolding replaceᶠ
and_replaced τ none q = refl
and_replaced τ (some d) q = refl

-- W of an assignment, under a path, is D under it, and what follows, under the path with the assignment on it
pub assign_passed : (t path : List ℤ) (j : ℕ) {v : ℕ} {e : Expr} (q : Formula) → stmt_at t (passed_row path j) ≡ assign v e
    → replaceᶠ (under t path j) (wp (stmt_at t (passed_row path j)) q)
    ≡ replaceᵒ (under t path j) (divisors e) and replaceᶠ (under t path (suc j)) q
unfolding under wp
assign_passed t path j {v} {e} q h =
    rw h
    (and_replaced (under t path j) (divisors e) (subst_formula v e q)
    ∙ ap (λ f. replaceᵒ (under t path j) (divisors e) and f) (after_formula (under t path j) v e q))

-- ---- with no assignment passed

mutual
  unfolding replaceᵉ replaceᶠ

  same_expr : (x : Expr) → replaceᵉ var x ≡ x
  same_expr (const z) = refl
  same_expr (var w) = refl
  same_expr (mark m) = refl
  same_expr (arith o a b) = rw (same_expr a, same_expr b)
  same_expr (neg a) = rw (same_expr a)
  same_expr (choose f a b) = rw (same_formula f, same_expr a, same_expr b)

  same_formula : (x : Formula) → replaceᶠ var x ≡ x
  same_formula (truth b) = refl
  same_formula (cmp r a b) = rw (same_expr a, same_expr b)
  same_formula (not f) = rw (same_formula f)
  same_formula (join c f g) = rw (same_formula f, same_formula g)

pub none_passedᵉ : (t path : List ℤ) (x : Expr) → replaceᵉ (under t path 0) x ≡ x
unfolding under
none_passedᵉ t path x = same_expr x

pub none_passed : (t path : List ℤ) (f : Formula) → replaceᶠ (under t path 0) f ≡ f
unfolding under
none_passed t path f = same_formula f

pub none_passedᵒ : (t path : List ℤ) (x : Option Formula) → replaceᵒ (under t path 0) x ≡ x
none_passedᵒ t path none = refl
none_passedᵒ t path (some f) = ap some (none_passed t path f)
