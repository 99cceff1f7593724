-- The conditions of a tree whose numbers are in range have theirs in range: `conditions_in_range`.
-- Argument: substitution, D, W and the walk put in no number but those of the tree, and depths, which stay below the nesting; each by
-- induction. Assumes nothing.
use Rattle.std.specs.Prelude.{ℕ, suc, ◌+◌, ◌≤◌, ◌<◌, Bool, true, false, cond, List, [], ◌∷◌, ◌++◌, eqb}
use Rattle.std.proofs.Math.Option.{Option, none, some}
use Rattle.std.proofs.Common.{arith as linear}
use Rattle.script.specs.Syntax.{Expr, const, var, mark, arith, neg, choose, Formula, truth, cmp, not, join, Stmt, skip, assign, seq, branch, loop, assert, Tree}
use Rattle.script.specs.declared.Rule.TheVariants.{Step}
use Rattle.script.specs.Conditions.{subst_expr, subst_formula, divisors, divisorsᶠ, ◌and◌, guard, wp, Condition, condition, decreased, step, walk, conditions}
use Rattle.script.specs.Words.{with_depth}
use Rattle.script.specs.Rows.{variables}
use Rattle.script.specs.Trees.{nesting}
use Rattle.script.specs.Listing.{row_limit, depth_limit}
use Rattle.script.specs.WellFormed.{InRange, InRangeᶠ, AllInRange}
use Rattle.theorems.specs.DivisorNames.{Namesᵒ, divisors_names, divisors_namesᶠ}

chosen : (b : Bool) (e a : Expr) → InRange e → InRange a → InRange (cond b e a)
chosen true e a h k = h
chosen false e a h k = k

module _ (v : ℕ) (e : Expr) (h : InRange e) where
  mutual
    unfolding subst_expr

    subst_in_range : (a : Expr) → InRange a → InRange (subst_expr v e a)
    subst_in_range (const z) k = tt
    subst_in_range (var w) k = chosen (eqb w v) e (var w) h k
    subst_in_range (mark m) k = k
    subst_in_range (arith o a b) k = (subst_in_range a k.0, subst_in_range b k.1)
    subst_in_range (neg a) k = subst_in_range a k
    subst_in_range (choose f a b) k = (subst_in_rangeᶠ f k.0, subst_in_range a k.1, subst_in_range b k.2)

    subst_in_rangeᶠ : (f : Formula) → InRangeᶠ f → InRangeᶠ (subst_formula v e f)
    subst_in_rangeᶠ (truth b) k = tt
    subst_in_rangeᶠ (cmp r a b) k = (subst_in_range a k.0, subst_in_range b k.1)
    subst_in_rangeᶠ (not f) k = subst_in_rangeᶠ f k
    subst_in_rangeᶠ (join c f g) k = (subst_in_rangeᶠ f k.0, subst_in_rangeᶠ g k.1)

-- what a statement gives to conditions is in range
abbrev pub InRangeˢ : Stmt → Type 0
InRangeˢ skip = Unit {0}
InRangeˢ (assign v e) = InRange e
InRangeˢ (seq a b) = InRangeˢ a × InRangeˢ b
InRangeˢ (branch b x y) = InRangeᶠ b × InRangeˢ x × InRangeˢ y
InRangeˢ (loop m b i v x) = (m < row_limit) × InRangeᶠ b × InRangeᶠ i × InRange v × InRangeˢ x
InRangeˢ (assert a) = InRangeᶠ a

abbrev InRangeᵒ : Option Formula → Type 0
InRangeᵒ x = Namesᵒ (λ v. v < variables) (λ m. m < row_limit) x

and_in_range : (x : Option Formula) (q : Formula) → InRangeᵒ x → InRangeᶠ q → InRangeᶠ (x and q)
and_in_range none q h k = k
and_in_range (some d) q h k = (h, k)

wp_in_range : (s : Stmt) (q : Formula) → InRangeˢ s → InRangeᶠ q → InRangeᶠ (wp s q)
unfolding wp
wp_in_range skip q h k = k
wp_in_range (assign v e) q h k = and_in_range (divisors e) _ (divisors_names _ _ e h) (subst_in_rangeᶠ v e h q k)
wp_in_range (seq a b) q h k = wp_in_range a (wp b q) h.0 (wp_in_range b q h.1 k)
wp_in_range (branch b x y) q h k =
    and_in_range (divisorsᶠ b) _ (divisors_namesᶠ _ _ b h.0) ((h.0, wp_in_range x q h.1 k), (h.0, wp_in_range y q h.2 k))
wp_in_range (loop m b i v x) q h k = h.2
wp_in_range (assert a) q h k = (h, k)

abbrev InList : List Condition → Type 0
InList = AllInRange with_depth

all_append : (cs ds : List Condition) → InList cs → InList ds → InList (cs ++ ds)
all_append [] ds h k = k
all_append (c ∷ cs) ds h k = (h.0, h.1, all_append cs ds h.2 k)

guard_in_range : (m depth : ℕ) (i : Formula) (x : Option Formula) → (m < row_limit) × (depth < depth_limit) → InRangeᶠ i → InRangeᵒ x
    → InList (guard m depth i x)
guard_in_range m depth i none l h k = tt
guard_in_range m depth i (some d) l h k = (l, (h, k), tt)

walk_in_range : (depth : ℕ) (s : Stmt) (q : Formula) → depth + nesting s ≤ depth_limit → InRangeˢ s → InRangeᶠ q → InList (walk depth s q)
unfolding walk nesting
walk_in_range depth skip q l h k = tt
walk_in_range depth (assign v e) q l h k = tt
walk_in_range depth (seq a b) q l h k =
    all_append (walk depth b q) (walk depth a (wp b q)) (walk_in_range depth b q (omega linear) h.1 k)
    (walk_in_range depth a (wp b q) (omega linear) h.0 (wp_in_range b q h.1 k))
walk_in_range depth (branch b x y) q l h k =
    all_append (walk depth x q) (walk depth y q) (walk_in_range depth x q (omega linear) h.1 k)
    (walk_in_range depth y q (omega linear) h.2 k)
walk_in_range depth (loop m b i v x) q l h k =
    let test = h.1 in
    let invariant = h.2 in
    let variant = h.3 in
    let numbers : (m < row_limit) × (depth < depth_limit) = (h.0, omega linear) in
    let after : InRangeᶠ (decreased m i v) = (invariant, (variant, h.0)) in
    let body = walk_in_range (suc depth) x (decreased m i v) (omega linear) h.4 after in
    let last : InList (condition Step m depth (step m b i v x) ∷ []) =
    (numbers, (((invariant, test), (variant, h.0)), wp_in_range x (decreased m i v) h.4 after), tt) in
    let rest = all_append (walk (suc depth) x (decreased m i v)) (condition Step m depth (step m b i v x) ∷ []) body last in
    all_append (guard m depth i (divisorsᶠ b)) _ (guard_in_range m depth i (divisorsᶠ b) numbers invariant (divisors_namesᶠ _ _ b test))
    (numbers, ((invariant, test), k), (numbers, ((invariant, test), (tt, variant)), rest))
walk_in_range depth (assert a) q l h k = tt

-- the parts of a whole tree
pub record InRangeᵗ (t : Tree) : Type 0 where
  pub pre : InRangeᶠ t.pre
  pub body : InRangeˢ t.body
  pub post : InRangeᶠ t.post
  pub row : t.row < row_limit

pub conditions_in_range : (t : Tree) → InRangeᵗ t → nesting t.body ≤ depth_limit → AllInRange with_depth (conditions t)
unfolding conditions
conditions_in_range t h l =
    all_append (walk 0 t.body t.post) _ (walk_in_range 0 t.body t.post (omega linear) h.body h.post)
    ((h.row, omega linear), (h.pre, wp_in_range t.body t.post h.body h.post), tt)
