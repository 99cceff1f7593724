-- 01, "Wrong turns taken before", and others near them: each is a definition of its own, beside the right one, and is told
-- from it at one input. Those of the rules and of their words differ from the right ones in one field (`WrongRules.Weakest`,
-- `Listed`), and give other words for the table of a trial row (`other_words`), so that row fails for them. Assumes nothing.
use Rattle.std.specs.Prelude.{ℕ, zero, suc, ◌+◌, ◌-◌, ◌%◌, ◌≤◌, ◌≡◌, refl, Bool, true, false, ◌&&◌, ◌||◌, List, [], ◌∷◌, ◌++◌, ℤ, pos, negsuc, neg_ℤ, nat_abs, ◌-ℤ◌, T, length}
use Rattle.std.proofs.Common.{arith as linear, subst, lt→ltb, le-ltb}
use Rattle.std.proofs.Math.Bool as Bool
use Rattle.std.specs.Int.Signed.{le_z, lt_z}
use Rattle.script.specs.declared.StatementRow.TheVariants.{Skip, Assign, Sequence, If, While, Assert}
use Rattle.script.specs.declared.Row.{Row}
use Rattle.script.specs.declared.Rule.{Rule}
use Rattle.script.specs.declared.Rule.TheVariants.{Exit, Floor, Step, Main, Guard}
use Rattle.script.specs.Syntax.{Tree}
use Rattle.script.specs.Meaning.{State, modZ, eqZ, whole, value, holds, defined, definedᶠ}
use Rattle.script.specs.Run.{Frame, begin, again, Config, at, failed, first_step, step_of, after}
use Rattle.script.specs.Run as Run
use Rattle.script.specs.Rows.{rows, row, row_of}
use Rattle.script.specs.Conditions.{Condition, ◌and◌, conditions, walk, wp, divisors, divisorsᶠ, subst_expr, subst_formula}
use Rattle.script.specs.Words.{rule_number, without_depth, trailer, count_word, line_words, all_lines, list_words, expr_words, formula_words}
use Rattle.script.specs.Trees.{expr, formula, stmt, expr_at, formula_at, stmt_at, tree}
use Rattle.script.specs.Refusals.{misread_node, misread, misreads}
use Rattle.script.specs.Promise.{AllValid}
use Rattle.script.specs.Computed.{◌⨾◌, example, example_a, loops_in_branches, loops_in_sequence, loop_in_loop, counting_down, zero_state, moment}
use Rattle.theorems.specs.Tests.{equal_numbers}
use Rattle.theorems.specs.Truths.{implies_true}
use Rattle.theorems.specs.WrongItems.{divisors_by, divisors_byᶠ, right_items}
use Rattle.theorems.specs.WrongRules.{Listed, Depths, Rules, right_weakest, right_listed, right_depths, wp_by, walk_by, lines_by, conditions_by, list_by, Wrong, wrong, OtherWords, all_told}

-- ---- the wrong rules of the walk and of its words, each with the table of a trial row

abbrev walked : Listed → Rules
walked l = record { items = right_items; weakest = right_weakest; listed = l; depths = right_depths }

-- with the parts joined so: sequence, branches, loop
abbrev parts_joined : (List Condition → List Condition → List Condition) → (List Condition → List Condition → List Condition)
    → (List Condition → Condition → Condition → List Condition → Condition → List Condition) → Rules
parts_joined s b l = walked (record {
  sequence = s;
  branches = b;
  guarded = right_listed.guarded;
  looped = l;
  within = right_listed.within;
  trailed = right_listed.trailed;
})

-- "Listing no conditions for a loop inside a branch"
abbrev pub branch_lost : Rules
branch_lost = parts_joined right_listed.sequence (λ x y. []) right_listed.looped

-- "or another loop"
abbrev pub body_lost : Rules
body_lost = parts_joined right_listed.sequence right_listed.branches (λ g e f x s. g ++ (e ∷ f ∷ s ∷ []))

abbrev pub else_first : Rules
else_first = parts_joined right_listed.sequence (λ x y. y ++ x) right_listed.looped

abbrev pub first_part_first : Rules
first_part_first = parts_joined (λ a b. a ++ b) right_listed.branches right_listed.looped

abbrev pub floor_first : Rules
floor_first = parts_joined right_listed.sequence right_listed.branches (λ g e f x s. g ++ (f ∷ e ∷ (x ++ (s ∷ []))))

-- the body walked with Q
abbrev pub body_with_post : Rules
body_with_post = walked (record {
  sequence = right_listed.sequence;
  branches = right_listed.branches;
  guarded = right_listed.guarded;
  looped = right_listed.looped;
  within = λ q d. q;
  trailed = right_listed.trailed;
})

-- "Replacing v in E again after E was put in"
abbrev pub replaced_twice : Rules
replaced_twice = record {
  items = right_items;
  weakest = record {
    assigned = λ d v e q. d and subst_formula v e (subst_formula v e q);
    tested = right_weakest.tested;
    asserted = right_weakest.asserted;
    arrived = right_weakest.arrived;
  };
  listed = right_listed;
  depths = right_depths;
}

-- with trailers so
abbrev trailed_by : (Condition → List ℤ) → Rules
trailed_by t = walked (record {
  sequence = right_listed.sequence;
  branches = right_listed.branches;
  guarded = right_listed.guarded;
  looped = right_listed.looped;
  within = right_listed.within;
  trailed = t;
})

abbrev pub without_row : Rules
without_row = trailed_by (λ c. pos (rule_number c.rule) ∷ pos (length (formula_words c.claim)) ∷ pos c.depth ∷ [])

-- ---- wrong turns of 02, P9

-- "after the length", not before it
abbrev pub depth_before_length : Rules
depth_before_length =
    trailed_by (λ c. pos (rule_number c.rule) ∷ pos c.row ∷ pos c.depth ∷ pos (length (formula_words c.claim)) ∷ [])

-- the loop itself is counted among those that enclose it; main has 0
abbrev with_itself : Rule → ℕ → ℕ
with_itself Exit d = suc d
with_itself Floor d = suc d
with_itself Step d = suc d
with_itself Main d = d
with_itself Guard d = suc d

abbrev pub itself_counted : Rules
itself_counted =
    trailed_by
    (λ c. pos (rule_number c.rule) ∷ pos c.row ∷ pos (length (formula_words c.claim)) ∷ pos (with_itself c.rule c.depth) ∷ [])

-- the form of 01 with the last word of the new one
abbrev pub depth_lost : Rules
depth_lost = trailed_by (trailer without_depth)

abbrev with_depths : Depths → Rules
with_depths d = record { items = right_items; weakest = right_weakest; listed = right_listed; depths = d }

abbrev pub branches_counted : Rules
branches_counted = with_depths (record { in_branch = λ n. suc n; in_body = right_depths.in_body; ended = right_depths.ended })

abbrev pub bodies_uncounted : Rules
bodies_uncounted = with_depths (record { in_branch = right_depths.in_branch; in_body = λ n. n; ended = right_depths.ended })

-- the last word as in the form of 01
abbrev pub count_not_negated : Rules
count_not_negated =
    with_depths (record { in_branch = right_depths.in_branch; in_body = right_depths.in_body; ended = count_word without_depth })

pub wrongs : List Wrong
wrongs =
    wrong branch_lost loops_in_branches
    ∷ wrong body_lost loop_in_loop
    ∷ wrong else_first loops_in_branches
    ∷ wrong first_part_first loops_in_sequence
    ∷ wrong floor_first example_a
    ∷ wrong body_with_post loop_in_loop
    ∷ wrong replaced_twice example_a
    ∷ wrong without_row example_a
    ∷ wrong depth_before_length example_a
    ∷ wrong itself_counted example_a
    ∷ wrong depth_lost example_a
    ∷ wrong branches_counted loops_in_branches
    ∷ wrong bodies_uncounted loop_in_loop
    ∷ wrong count_not_negated example_a
    ∷ []

pub other_words : OtherWords wrongs
unfolding wrongs divisors_by divisors_byᶠ wp_by walk_by lines_by conditions_by list_by ◌⨾◌ example example_a loops_in_branches loops_in_sequence loop_in_loop row row_of expr formula stmt expr_at formula_at stmt_at tree conditions walk wp divisors divisorsᶠ subst_expr subst_formula list_words all_lines line_words expr_words formula_words
other_words = all_told wrongs tt

-- ---- "Bounding the passes by v. With guard 0 ≤ x, variant x and body x := x − 1, a start at 0 makes one pass."

abbrev pub Below : ℤ → ℕ → Type 0
Below (pos v) n = n ≤ v
Below (negsuc v) n = n ≡ zero

abbrev pub PassesBelow : List Frame → Type 0
PassesBelow [] = Unit {0}
PassesBelow (begin x ∷ k) = PassesBelow k
PassesBelow (again m b i v x v₀ n ∷ k) = Below v₀ n × PassesBelow k

abbrev pub GoodBelow : Config → Type 0
GoodBelow (at k s) = PassesBelow k
GoodBelow (failed c x) = ⊥

too_many : GoodBelow (moment 1) → ⊥
unfolding moment counting_down zero_state after Run.step step_of first_step Run.test value holds defined definedᶠ
too_many h = omega (linear, h.0)

-- the conditions of that script are true in all states
itself : (b : Bool) → T (Bool.not b || b)
itself true = tt
itself false = tt

one_less : (x : ℤ) → T (lt_z (x -ℤ pos 1) x)
one_less (pos zero) = tt
one_less (pos (suc k)) = rw (le-ltb (suc k) 1 (omega linear)) (lt→ltb (suc k - 1) (suc k) (omega linear))
one_less (negsuc k) = lt→ltb k (suc (k + 0)) (omega linear)

falls : (a : Bool) (x m : ℤ) → T (Bool.not (a && eqZ x m) || lt_z (x -ℤ pos 1) m)
falls false x m = tt
falls true x m = go (eqZ x m) refl
  where
    go : (b : Bool) → eqZ x m ≡ b → T (Bool.not b || lt_z (x -ℤ pos 1) m)
    go true e = subst (λ (y : ℤ). T (lt_z (x -ℤ pos 1) y)) (equal_numbers x m e) (one_less x)
    go false e = tt

all_true : AllValid whole (conditions counting_down)
unfolding counting_down conditions walk wp divisors divisorsᶠ subst_expr subst_formula value holds
all_true = (
  λ s. implies_true (Bool.not (le_z (pos 0) (s.var 0))),
  (
    λ s. itself (le_z (pos 0) (s.var 0)),
    (
      λ s. falls (le_z (pos 0) (s.var 0)) (s.var 0) (s.mark 0),
      (λ s. tt, tt),
    ),
  ),
)

-- so a promise with this bound, made of every script and start, would be false
pub bound_unsound : ((t : Tree) → AllValid whole (conditions t) → (s : State) → T (holds whole s t.pre) → (n : ℕ)
    → GoodBelow (after whole n (Run.start t s))) → ⊥
unfolding moment counting_down holds
bound_unsound h = too_many (h counting_down all_true zero_state tt 1)

-- ---- "Letting a loop's invariant read its own mark"

-- the loops in whose body a row's parts stand, a loop's own note among them
abbrev with_own : Row → ℕ → List ℕ → List ℕ
with_own (Row.Statement (While b i x)) r inside = r ∷ inside
with_own (Row.Statement Skip) r inside = inside
with_own (Row.Statement (Assign v e)) r inside = inside
with_own (Row.Statement (Sequence a b)) r inside = inside
with_own (Row.Statement (If b x y)) r inside = inside
with_own (Row.Statement (Assert f)) r inside = inside
with_own (Row.Expression w) r inside = inside
with_own (Row.Formula w) r inside = inside
with_own (Row.Note i v) r inside = inside
with_own (Row.Script p s q) r inside = inside
with_own Row.Unknown r inside = inside

unfoldable pub own_misread : List ℤ → ℕ → Bool → List ℕ → ℕ → List ℕ
own_misread ws zero code inside r = []
own_misread ws (suc n) code inside r =
    misread_node ws (λ c i k. own_misread ws n c (with_own (row ws r) r i) k) code inside r (row ws r)

-- the trial row in which row 9, of the loop's note, is the loop's mark: it is refused for that row, and would pass
unfoldable pub own_mark : List ℤ
own_mark = example (9, 15, 0, 0) (4, 11, 12, 0) (33, 0, 13, 0)

pub own_mark_unseen : (misreads own_mark ≡ 9 ∷ []) × (own_misread own_mark (rows own_mark) false [] (rows own_mark - 1) ≡ [])
unfolding own_mark own_misread misreads misread example ◌⨾◌ row row_of
own_mark_unseen = (refl, refl)

-- ---- "Taking the remainder's sign from the dividend."

-- by the divisor's size
abbrev pub signed_by : ℤ → ℕ → ℤ
signed_by n zero = n
signed_by (pos a) (suc d) = pos (a % suc d)
signed_by (negsuc a) (suc d) = neg_ℤ (pos (suc a % suc d))

-- the trial row of -7 by 2: -1, and not 1
pub sign_differs : (signed_by (negsuc 6) (nat_abs (pos 2)) ≡ negsuc 0) × (modZ (negsuc 6) (pos 2) ≡ pos 1)
sign_differs = (refl, refl)
