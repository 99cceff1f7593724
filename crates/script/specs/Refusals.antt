-- 01, "Room and scratch": the refusals 1 to 10 of a table, in the order of their tests.
-- "Number 1 is tested first. Then rows from 0 up, in each row 2 to 6 in order over all its fields; the first faulty row
-- decides, and that row is the one returned, not one it links to. Then 7 to 12 in order." 02, P2: "3 and 20 now begin at
-- 1,024". What reads how many variables there are takes it as an argument (`-within`), so that the verdict within 256 is still
-- a definition that theorems can speak of. Assumes nothing.
use Rattle.std.specs.Prelude.{ℕ, zero, suc, ◌%◌, ◌-◌, List, [], ◌∷◌, ◌++◌, Bool, true, false, cond, not, ◌&&◌, ◌||◌, ℤ, pos, negsuc, eqb, ltb, leb, length, drop}
use Rattle.script.specs.declared.ExpressionRow.TheVariants.{Constant, Variable, Arithmetic, Negate, Mark, Choose}
use Rattle.script.specs.declared.FormulaRow.TheVariants.{True, False, Comparison, Not, Junction}
use Rattle.script.specs.declared.StatementRow.TheVariants.{Skip, Assign, Sequence, If, While, Assert}
use Rattle.script.specs.declared.Row.{Row}
use Rattle.script.specs.declared.Sort.{Sort}
use Rattle.script.specs.declared.Sort.TheVariants.{Expression, Formula, Statement, Note, Script, Unknown}
use Rattle.script.specs.Rows.{Field, value, variable, target, loop, link, fields, sort_of, Part, parts, variables, rows, word, row}
use Rattle.script.specs.Trees.{tree, nesting}

pub data Verdict : Type 0 where
  accepted : Verdict
  -- the number and the row
  refused : ℕ → ℕ → Verdict

infixr 20 ◌and_then◌
-- the first of two verdicts that refuses
abbrev pub ◌and_then◌ : Verdict → Verdict → Verdict
accepted and_then v = v
refused n r and_then v = refused n r

-- the lowest of the n rows from r up that has a fault: `fault` gives its number, or 0
unfoldable pub lowest : (ℕ → ℕ) → ℕ → ℕ → Verdict
lowest fault zero r = accepted
lowest fault (suc n) r = elim (eqb (fault r) 0) [ true ↦ lowest fault n (suc r) | false ↦ refused (fault r) r ]

abbrev pub member : ℕ → List ℕ → Bool
member k [] = false
member k (x ∷ xs) = eqb k x || member k xs

-- "128 to 255 are frozen"; 02, P2: "128 to 255 stay frozen"
abbrev pub frozen : ℕ → Bool
frozen v = leb 128 v && leb v 255

-- ---- 1: "no words, not a multiple of 4, or over 8,192"

abbrev pub bad_length : ℕ → Bool
bad_length n = eqb n 0 || (not (eqb (n % 4) 0) || ltb 8192 n)

-- ---- 2 to 6: the faults of one row

abbrev sort_code : Sort → ℕ
sort_code Expression = 0
sort_code Formula = 1
sort_code Statement = 2
sort_code Note = 3
sort_code Script = 4
sort_code Unknown = 5

abbrev pub same_sort : Sort → Sort → Bool
same_sort a b = eqb (sort_code a) (sort_code b)

abbrev pub is_zero : ℤ → Bool
is_zero (pos a) = eqb a 0
is_zero (negsuc a) = false

abbrev pub all_zero : List ℤ → Bool
all_zero [] = true
all_zero (z ∷ zs) = is_zero z && all_zero zs

module _ (limit : ℕ) (ws : List ℤ) where
  -- 3: "variable number not 0 to 255, a mark's row not in the table", with a limit in place of 256
  abbrev pub in_range_within : List Field → Bool
  in_range_within [] = true
  in_range_within (value ∷ fs) = in_range_within fs
  in_range_within (variable v ∷ fs) = ltb v limit && in_range_within fs
  in_range_within (target v ∷ fs) = ltb v limit && in_range_within fs
  in_range_within (loop m ∷ fs) = ltb m (rows ws) && in_range_within fs
  in_range_within (link s r ∷ fs) = in_range_within fs

module _ (ws : List ℤ) where
  -- 3: "or an unused field not 0"
  abbrev pub unused_zero : ℕ → ℕ → Bool
  unused_zero r used = all_zero (drop used (word ws r 1 ∷ word ws r 2 ∷ word ws r 3 ∷ []))

  -- 4: "link not from 0 to its row less 1"
  abbrev pub all_below : ℕ → List Part → Bool
  all_below r [] = true
  all_below r (p ∷ ps) = ltb p.at r && all_below r ps

  -- 5: "a linked row has the wrong sort"
  abbrev pub well_sorted : List Part → Bool
  well_sorted [] = true
  well_sorted (p ∷ ps) = same_sort (sort_of (row ws p.at)) p.sort && well_sorted ps

  -- the rows that the rows below r link to, the latest first
  abbrev pub adding : List Part → List ℕ → List ℕ
  adding [] seen = seen
  adding (p ∷ ps) seen = adding ps (p.at ∷ seen)

  unfoldable pub linked : ℕ → List ℕ
  linked zero = []
  linked (suc r) = adding (parts (row ws r)) (linked r)

  -- 6: "a link's row already linked by a lower row or an earlier field"
  abbrev pub all_new : List ℕ → List Part → Bool
  all_new seen [] = true
  all_new seen (p ∷ ps) = not (member p.at seen) && all_new (p.at ∷ seen) ps

module _ (limit : ℕ) (ws : List ℤ) where
  -- the first fault of row r, or 0
  unfoldable pub row_fault_within : ℕ → ℕ
  row_fault_within r =
      let w = row ws r in
      cond (same_sort (sort_of w) Unknown) 2
      (cond (not (in_range_within limit ws (fields w) && unused_zero ws r (length (fields w)))) 3
      (cond (not (all_below ws r (parts w))) 4
      (cond (not (well_sorted ws (parts w))) 5
      (cond (not (all_new ws (linked ws r) (parts w))) 6 0))))

module _ (ws : List ℤ) where
  -- ---- 7: "last row is no script (that row); else the lowest row but the last that nothing links to". 01 calls such a row
  -- a loose part.

  abbrev pub unlinked_fault : ℕ → ℕ
  unlinked_fault r = cond (member r (linked ws (rows ws))) 0 7

  -- ---- 8: "an assignment to a frozen name; lowest such row"

  abbrev pub assigns_frozen : List Field → Bool
  assigns_frozen [] = false
  assigns_frozen (value ∷ fs) = assigns_frozen fs
  assigns_frozen (variable v ∷ fs) = assigns_frozen fs
  assigns_frozen (target v ∷ fs) = frozen v || assigns_frozen fs
  assigns_frozen (loop m ∷ fs) = assigns_frozen fs
  assigns_frozen (link s r ∷ fs) = assigns_frozen fs

  abbrev pub target_fault : ℕ → ℕ
  target_fault r = cond (assigns_frozen (fields (row ws r))) 8 0

  -- ---- 9: "a frozen name in a guard or assigned expression, or a mark where it may not stand (one whose row is no while
  -- stands nowhere); lowest such variable or mark row"

  -- those rows at row r and below, from those M at and below the rows that it links to. `code`: r stands in a guard or an
  -- assigned expression; `inside`: the loops in whose body it stands. "It may stand only in an annotation (assertion,
  -- invariant, variant) inside the body of the loop it names. A loop's own note is not inside its body."
  abbrev pub misread_node : (Bool → List ℕ → ℕ → List ℕ) → Bool → List ℕ → ℕ → Row → List ℕ
  misread_node M code inside r (Row.Expression (Constant z)) = []
  misread_node M code inside r (Row.Expression (Variable v)) = cond (code && frozen v.0) (r ∷ []) []
  misread_node M code inside r (Row.Expression (Arithmetic o a b)) = M code inside a.0 ++ M code inside b.0
  misread_node M code inside r (Row.Expression (Negate a)) = M code inside a.0
  misread_node M code inside r (Row.Expression (Mark m)) = cond (code || not (member m.0 inside)) (r ∷ []) []
  misread_node M code inside r (Row.Expression (Choose f a b)) =
      M code inside f.0 ++ (M code inside a.0 ++ M code inside b.0)
  misread_node M code inside r (Row.Formula True) = []
  misread_node M code inside r (Row.Formula False) = []
  misread_node M code inside r (Row.Formula (Comparison o a b)) = M code inside a.0 ++ M code inside b.0
  misread_node M code inside r (Row.Formula (Not f)) = M code inside f.0
  misread_node M code inside r (Row.Formula (Junction o f g)) = M code inside f.0 ++ M code inside g.0
  misread_node M code inside r (Row.Statement Skip) = []
  misread_node M code inside r (Row.Statement (Assign v e)) = M true inside e.0
  misread_node M code inside r (Row.Statement (Sequence a b)) = M false inside a.0 ++ M false inside b.0
  misread_node M code inside r (Row.Statement (If b x y)) =
      M true inside b.0 ++ (M false inside x.0 ++ M false inside y.0)
  misread_node M code inside r (Row.Statement (While b i x)) =
      M true inside b.0 ++ (M false inside i.0 ++ M false (r ∷ inside) x.0)
  misread_node M code inside r (Row.Statement (Assert f)) = M false inside f.0
  misread_node M code inside r (Row.Note i v) = M false inside i.0 ++ M false inside v.0
  misread_node M code inside r (Row.Script p s q) =
      M false inside p.0 ++ (M false inside s.0 ++ M false inside q.0)
  misread_node M code inside r Row.Unknown = []

  -- the first number bounds the depth
  unfoldable pub misread : ℕ → Bool → List ℕ → ℕ → List ℕ
  misread zero code inside r = []
  misread (suc n) code inside r = misread_node (misread n) code inside r (row ws r)

  -- those of the whole script
  unfoldable pub misreads : List ℕ
  misreads = misread (rows ws) false [] (rows ws - 1)

  abbrev pub reading_fault : ℕ → ℕ
  reading_fault r = cond (member r misreads) 9 0

  -- ---- the tests

  unfoldable pub length_test : Verdict
  length_test = cond (bad_length (length ws)) (refused 1 0) accepted

  unfoldable pub script_test : Verdict
  script_test = cond (same_sort (sort_of (row ws (rows ws - 1))) Script) accepted (refused 7 (rows ws - 1))

  unfoldable pub unlinked_test : Verdict
  unlinked_test = lowest unlinked_fault (rows ws - 1) 0

  unfoldable pub target_test : Verdict
  target_test = lowest target_fault (rows ws) 0

  unfoldable pub reading_test : Verdict
  reading_test = lowest reading_fault (rows ws) 0

  -- 10: "nesting over 8"
  unfoldable pub nesting_test : Verdict
  nesting_test = cond (leb (nesting (tree ws).body) 8) accepted (refused 10 0)

module _ (limit : ℕ) (ws : List ℤ) where
  unfoldable pub row_test_within : Verdict
  row_test_within = lowest (row_fault_within limit ws) (rows ws) 0

  unfoldable pub verdict_within : Verdict
  verdict_within =
      length_test ws
      and_then row_test_within
      and_then script_test ws
      and_then unlinked_test ws
      and_then target_test ws
      and_then reading_test ws
      and_then nesting_test ws

-- ---- with as many variables as there are

abbrev pub in_range : List ℤ → List Field → Bool
in_range = in_range_within variables

abbrev pub row_fault : List ℤ → ℕ → ℕ
row_fault = row_fault_within variables

abbrev pub row_test : List ℤ → Verdict
row_test = row_test_within variables

abbrev pub verdict : List ℤ → Verdict
verdict = verdict_within variables
