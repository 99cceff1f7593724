-- The kinds of nodes are those below 32: in a table that passed, a row whose first word is the number n is a node just where n
-- is below 32 (`known_node`, `node_kind`). By the list of kinds. Assumes nothing.
use Rattle.std.specs.Prelude.{ℕ, ◌≤◌, ◌<◌, ◌≡◌, refl, Bool, true, false, cond, List, [], ◌∷◌, T, eqb, ℤ}
use Rattle.std.proofs.Common.{sym, subst, arith as linear, eqb-true, lit<, lit≤}
use Rattle.std.proofs.lemmas.Bool.{false≢true}
use Rattle.script.specs.declared.Row.{Row}
use Rattle.script.specs.declared.Sort.{Sort}
use Rattle.script.specs.Rows.{Kind, listed, kinds, field_number, row_of, row, rows, word, sort_of}
use Rattle.script.specs.Laws.{row_is}
use Rattle.script.specs.Refusals.{verdict, accepted, same_sort, row_fault, row_fault_within, row_test_within}
use Rattle.theorems.specs.Lowest.{lowest_accepts}
use Rattle.theorems.specs.Accepted.{all_tests}
use Rattle.dividing.specs.Nodes.{is_node, Node}

-- ---- the kinds of nodes are those below 32

abbrev Ranged : ℕ → Row → Type 0
Ranged n (Row.Expression w) = n < 32
Ranged n (Row.Formula w) = n < 32
Ranged n (Row.Statement w) = 32 ≤ n
Ranged n (Row.Note i v) = 32 ≤ n
Ranged n (Row.Script p s q) = 32 ≤ n
Ranged n Row.Unknown = Unit {0}

abbrev Each : List Kind → Type 0
Each [] = Unit {0}
Each (k ∷ ks) = Ranged k.number k.of × Each ks

listed_ranged : (n : ℕ) (ks : List Kind) → Each ks → Ranged n (listed n ks)
listed_ranged n [] h = tt
listed_ranged n (k ∷ ks) h = pick (eqb n k.number) refl (listed_ranged n ks h.1)
  where
    pick : (b : Bool) → eqb n k.number ≡ b → Ranged n (listed n ks) → Ranged n (cond b k.of (listed n ks))
    pick true e later = subst (λ (m : ℕ). Ranged m k.of) (sym (eqb-true n k.number e)) h.0
    pick false e later = later

-- the facts about a list of kinds, one after the other
infixr 20 ◌also◌
abbrev ◌also◌ : {P Q : Type 0} → P → Q → P × Q
p also q = (p, q)

row_ranged : (n : ℕ) (a b c : ℤ) → Ranged n (row_of n a b c)
unfolding row_of
row_ranged n a b c =
    listed_ranged n (kinds a b c)
    (lit< tt also lit< tt also lit< tt also lit< tt also lit< tt also lit< tt also lit< tt also lit< tt also lit< tt also lit< tt
    also lit< tt also lit< tt also lit< tt also lit< tt also lit< tt also lit< tt also lit< tt also lit< tt also lit< tt also lit< tt
    also lit≤ tt also lit≤ tt also lit≤ tt also lit≤ tt also lit≤ tt also lit≤ tt also lit≤ tt also lit≤ tt also tt)

node_by : (n : ℕ) (w : Row) → Ranged n w → same_sort (sort_of w) Sort.Unknown ≡ false → n < 32 → T (is_node (sort_of w))
node_by n (Row.Expression w) a k h = tt
node_by n (Row.Formula w) a k h = tt
node_by n (Row.Statement w) a k h = absurd (omega linear)
node_by n (Row.Note i v) a k h = absurd (omega linear)
node_by n (Row.Script p s q) a k h = absurd (omega linear)
node_by n Row.Unknown a k h = absurd (false≢true (sym k))

below_by : (n : ℕ) (w : Row) → Ranged n w → T (is_node (sort_of w)) → n < 32
below_by n (Row.Expression w) a h = a
below_by n (Row.Formula w) a h = a
below_by n (Row.Statement w) a h = absurd h
below_by n (Row.Note i v) a h = absurd h
below_by n (Row.Script p s q) a h = absurd h
below_by n Row.Unknown a h = absurd h

-- a row of a table that passed is of a known kind
no_fault : (b : Bool) (x : ℕ) → cond b 2 x ≡ 0 → b ≡ false
no_fault true x h = absurd (omega linear)
no_fault false x h = refl

known : (t : List ℤ) → verdict t ≡ accepted → (r : ℕ) → r < rows t → same_sort (sort_of (row t r)) Sort.Unknown ≡ false
unfolding row_test_within row_fault_within
known t v r h =
    no_fault (same_sort (sort_of (row t r)) Sort.Unknown) _
    ((lowest_accepts (row_fault t) (rows t) 0).0 (all_tests t v).row r (omega linear) (omega linear))

module _ (t : List ℤ) (r : ℕ) {n : ℕ} (read : n ≡ field_number (word t r 0)) where
  ranged : Ranged n (row t r)
  ranged = rw (sym (row_is t r), ← read) (row_ranged n (word t r 1) (word t r 2) (word t r 3))

  pub known_node : verdict t ≡ accepted → r < rows t → n < 32 → Node t r
  known_node v h k = node_by n (row t r) ranged (known t v r h) k

  pub node_kind : Node t r → n < 32
  node_kind h = below_by n (row t r) ranged h
