-- The rules of 01 and of 02, P5 and P9, with what a wrong turn changes as fields (`Rules`: of D, of W, of the walk and its words, of
-- depths); with the right fields it is the list defined (`right_list`). A wrong turn is a change of one field of one of these four
-- (`WrongTurns`, `WrongDivisors`; of two fields, where D is asked for at another place), and is told from the list defined by
-- giving other words for one table (`OtherWords`). Assumes nothing.
use Rattle.std.specs.Prelude.{ℕ, suc, ◌≡◌, refl, ◌≢◌, Bool, true, ◌&&◌, List, [], ◌∷◌, ◌++◌, ℤ, T, length}
use Rattle.std.proofs.Common.{ap, ◌∙◌}
use Rattle.std.proofs.Math.Option.{Option}
use Rattle.script.specs.declared.Connective.TheVariants.{And, Implies}
use Rattle.script.specs.declared.Rule.TheVariants.{Exit, Floor, Step, Main}
use Rattle.script.specs.declared.Relation.TheVariants.{Equal}
use Rattle.script.specs.Syntax.{Expr, mark, Formula, cmp, not, join, Stmt, skip, assign, seq, branch, loop, assert, Tree}
use Rattle.script.specs.Conditions.{Condition, condition, ◌and◌, decreased, exit, floor, guard, conditions, walk, wp, subst_formula}
use Rattle.script.specs.Words.{with_depth, trailer, line_words, all_lines, count_word, list_words, formula_words}
use Rattle.script.specs.Trees.{tree}
use Rattle.theorems.specs.Truths.{both}
use Rattle.theorems.specs.Differ.{other, told}
use Rattle.theorems.specs.WrongItems.{Items, divisors_by, divisors_byᶠ, right_items, right_divisors, right_divisorsᶠ}

-- ---- the rules, with what a wrong turn changes as fields

-- of W
pub record Weakest : Type 0 where
  -- of an assignment, from D(E), v, E and Q
  pub assigned : Option Formula → ℕ → Expr → Formula → Formula
  -- of an if, from D(B) and the old formula
  pub tested : Option Formula → Formula → Formula
  -- of an assertion, from D(A), A and Q
  pub asserted : Option Formula → Formula → Formula → Formula
  -- of a while, from D(B) and I
  pub arrived : Option Formula → Formula → Formula

-- of the walk and of the words
pub record Listed : Type 0 where
  -- of the conditions of the first part and of the second
  pub sequence : List Condition → List Condition → List Condition
  -- of those of then and of else
  pub branches : List Condition → List Condition → List Condition
  -- the condition of kind 5, from the loop's row and depth, B, I and D(B)
  pub guarded : ℕ → ℕ → Formula → Formula → Option Formula → List Condition
  -- of guard, exit, floor, the conditions of the body, and step
  pub looped : List Condition → Condition → Condition → List Condition → Condition → List Condition
  -- what the body is walked with, of Q and (I and (V less m))
  pub within : Formula → Formula → Formula
  pub trailed : Condition → List ℤ

-- of the depth, and of the last word
pub record Depths : Type 0 where
  -- of what stands in a branch, from that of the branch
  pub in_branch : ℕ → ℕ
  -- of what stands in a loop's body, from that of the loop
  pub in_body : ℕ → ℕ
  -- the last word, from the number of conditions
  pub ended : ℕ → ℤ

pub record Rules : Type 0 where
  pub items : Items
  pub weakest : Weakest
  pub listed : Listed
  pub depths : Depths

module _ (R : Rules) where
  unfoldable pub wp_by : Stmt → Formula → Formula
  wp_by skip q = q
  wp_by (assign v e) q = R.weakest.assigned (divisors_by R.items e) v e q
  wp_by (seq a b) q = wp_by a (wp_by b q)
  wp_by (branch b x y) q =
      R.weakest.tested (divisors_byᶠ R.items b) (join And (join Implies b (wp_by x q)) (join Implies (not b) (wp_by y q)))
  wp_by (loop m b i v x) q = R.weakest.arrived (divisors_byᶠ R.items b) i
  wp_by (assert a) q = R.weakest.asserted (divisors_byᶠ R.items a) a q

  abbrev step_by : ℕ → Formula → Formula → Expr → Stmt → Formula
  step_by m b i v x = join Implies (join And (join And i b) (cmp Equal v (mark m))) (wp_by x (decreased m i v))

  unfoldable pub walk_by : ℕ → Stmt → Formula → List Condition
  walk_by n skip q = []
  walk_by n (assign v e) q = []
  walk_by n (seq a b) q = R.listed.sequence (walk_by n a (wp_by b q)) (walk_by n b q)
  walk_by n (branch b x y) q = R.listed.branches (walk_by (R.depths.in_branch n) x q) (walk_by (R.depths.in_branch n) y q)
  walk_by n (loop m b i v x) q =
      R.listed.looped (R.listed.guarded m n b i (divisors_byᶠ R.items b)) (condition Exit m n (exit b i q)) (condition Floor m n (floor b i v))
      (walk_by (R.depths.in_body n) x (R.listed.within q (decreased m i v))) (condition Step m n (step_by m b i v x))
  walk_by n (assert a) q = []

  unfoldable pub lines_by : List Condition → List ℤ
  lines_by [] = []
  lines_by (c ∷ cs) = (formula_words c.claim ++ R.listed.trailed c) ++ lines_by cs

  unfoldable pub conditions_by : Tree → List Condition
  conditions_by t = walk_by 0 t.body t.post ++ (condition Main t.row 0 (join Implies t.pre (wp_by t.body t.post)) ∷ [])

  unfoldable pub list_by : Tree → List ℤ
  list_by t = lines_by (conditions_by t) ++ (R.depths.ended (length (conditions_by t)) ∷ [])

abbrev pub right_weakest : Weakest
right_weakest = record {
  assigned = λ d v e q. d and subst_formula v e q;
  tested = λ d f. d and f;
  asserted = λ d a q. join And a q;
  arrived = λ d i. i;
}

abbrev pub right_listed : Listed
right_listed = record {
  sequence = λ a b. b ++ a;
  branches = λ x y. x ++ y;
  guarded = λ m n b i d. guard m n i d;
  looped = λ g e f x s. g ++ (e ∷ f ∷ (x ++ (s ∷ [])));
  within = λ q d. d;
  trailed = trailer with_depth;
}

abbrev pub right_depths : Depths
right_depths = record { in_branch = λ n. n; in_body = λ n. suc n; ended = count_word with_depth }

abbrev pub right : Rules
right = record { items = right_items; weakest = right_weakest; listed = right_listed; depths = right_depths }

right_wp : (x : Stmt) (q : Formula) → wp_by right x q ≡ wp x q
unfolding wp_by wp
right_wp skip q = refl
right_wp (assign v e) q = ap (λ d. d and subst_formula v e q) (right_divisors e)
right_wp (seq a b) q = right_wp a (wp_by right b q) ∙ ap (wp a) (right_wp b q)
right_wp (branch b x y) q = rw (right_divisorsᶠ b, right_wp x q, right_wp y q)
right_wp (loop m b i v x) q = refl
right_wp (assert a) q = refl

right_walk : (n : ℕ) (x : Stmt) (q : Formula) → walk_by right n x q ≡ walk n x q
unfolding walk_by walk
right_walk n skip q = refl
right_walk n (assign v e) q = refl
right_walk n (seq a b) q = rw (right_wp b q, right_walk n b q, right_walk n a (wp b q))
right_walk n (branch b x y) q = rw (right_walk n x q, right_walk n y q)
right_walk n (loop m b i v x) q = rw (right_divisorsᶠ b, right_walk (suc n) x (decreased m i v), right_wp x (decreased m i v))
right_walk n (assert a) q = refl

right_lines : (cs : List Condition) → lines_by right cs ≡ all_lines with_depth cs
unfolding lines_by all_lines line_words
right_lines [] = refl
right_lines (c ∷ cs) = ap (λ (l : List ℤ). (formula_words c.claim ++ trailer with_depth c) ++ l) (right_lines cs)

pub right_list : (t : Tree) → list_by right t ≡ list_words with_depth (conditions t)
unfolding list_by conditions_by list_words conditions
right_list t = rw (right_walk 0 t.body t.post, right_wp t.body t.post, right_lines)

-- ---- a wrong turn, with a table

pub record Wrong : Type 0 where
  pub rules : Rules
  pub table : List ℤ

abbrev pub wrong : Rules → List ℤ → Wrong
wrong R t = record { rules = R; table = t }

-- each gives other words than those of the list defined
abbrev pub OtherWords : List Wrong → Type 0
OtherWords [] = Unit {0}
OtherWords (w ∷ ws) = (list_by w.rules (tree w.table) ≢ list_words with_depth (conditions (tree w.table))) × OtherWords ws

abbrev as_words : List ℤ → List ℤ
as_words l = l

-- tested, for all of them
abbrev pub differ : List Wrong → Bool
differ [] = true
differ (w ∷ ws) = other as_words (list_by w.rules (tree w.table)) (list_words with_depth (conditions (tree w.table))) && differ ws

pub all_told : (ws : List Wrong) → T (differ ws) → OtherWords ws
all_told [] h = tt
all_told (w ∷ ws) h =
    let k = both (other as_words (list_by w.rules (tree w.table)) (list_words with_depth (conditions (tree w.table)))) (differ ws) h in
    (told as_words _ _ k.0, all_told ws k.1)
