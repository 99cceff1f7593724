-- 02, P11, which rows a play has on its stack (`Proper`): each is a statement's row of the table (`IsStatementRow`), and each but the last
-- stands over its neighbour (`Over`): that is a while in whose body it is, or the second part of a sequence in whose first part it is.
-- The row that is due on such a stack is a statement's that is no sequence (`due_row`), what the next row begins with (`next_begins`).
-- Argument: links from statements to statements have that sort. In this order: rows of statements, what is in a statement, stacks, the
-- statement due, the start. Assumes nothing.
use Prim.Native.Nat.{ℕ, zero, suc, ◌-◌, ◌<◌}
use Rattle.std.specs.Prelude.{◌≡◌, Bool, true, ◌&&◌, List, [], ◌∷◌, T, ℤ}
use Rattle.std.proofs.Math.Path.{refl}
use Rattle.std.proofs.Common.{sym, ◌∙◌, subst, arith as linear}
use Rattle.script.specs.declared.RowNumber.{RowNumber}
use Rattle.script.specs.declared.StatementRow.{StatementRow}
use Rattle.script.specs.declared.StatementRow.TheVariants.{Skip, Assign, Sequence, If, While, Assert}
use Rattle.script.specs.declared.Row.{Row}
use Rattle.script.specs.declared.Sort.TheVariants.{Formula, Statement, Script}
use Rattle.script.specs.Rows.{row, rows, parts, sort_of}
use Rattle.script.specs.Refusals.{same_sort, well_sorted}
use Rattle.theorems.specs.Accepted.{Accepted}
use Rattle.theorems.specs.Truths.{both}
use Rattle.stepping.specs.Machine.{Due, due_at, due_statement, due, next, if_statement, statement_of}
use Rattle.stepping.specs.Places.{statement_inside}
use Rattle.stepping.specs.Stands.{Single, second_of}
use Rattle.stepping.specs.Ready.{Idle, Ready, single, idle, split}
use Rattle.stepping.specs.Calls.{frames_of, stands_begun}

module _ (t : List ℤ) where
  -- ---- rows of statements

  pub record IsStatementRow (r : ℕ) : Type 0 where
    pub kind : StatementRow
    pub is : row t r ≡ Row.Statement kind
    pub inside : r < rows t

  -- of one that a step is made of
  pub record SingleRow (r : ℕ) : Type 0 where
    pub kind : StatementRow
    pub is : row t r ≡ Row.Statement kind
    pub inside : r < rows t
    pub one : Single kind

  pub of_sort : Accepted t → (r : ℕ) (w : Row) → row t r ≡ w → T (same_sort (sort_of w) Statement) → IsStatementRow r
  of_sort ok r (Row.Statement w) e h = record { kind = w; is = e; inside = statement_inside t ok r e }
  of_sort ok r (Row.Expression w) e h = absurd h
  of_sort ok r (Row.Formula w) e h = absurd h
  of_sort ok r (Row.Note i v) e h = absurd h
  of_sort ok r (Row.Script p s q) e h = absurd h
  of_sort ok r Row.Unknown e h = absurd h

  -- ---- what is in a statement

  -- the statement at the first row is the one at the second, or in it
  pub data Inside (y : ℕ) : ℕ → Type 0 where
    itself : Inside y y
    in_first : {r : ℕ} {a b : RowNumber} → row t r ≡ Row.Statement (Sequence a b) → Inside y a.0 → Inside y r
    in_second : {r : ℕ} {a b : RowNumber} → row t r ≡ Row.Statement (Sequence a b) → Inside y b.0 → Inside y r
    in_then : {r : ℕ} {b x z : RowNumber} → row t r ≡ Row.Statement (If b x z) → Inside y x.0 → Inside y r
    in_else : {r : ℕ} {b x z : RowNumber} → row t r ≡ Row.Statement (If b x z) → Inside y z.0 → Inside y r
    in_body : {r : ℕ} {b i x : RowNumber} → row t r ≡ Row.Statement (While b i x) → Inside y x.0 → Inside y r

  -- the statement at the first row is what the one at the second begins with: of a sequence what its first part begins with
  pub data BeginsWith (y : ℕ) : ℕ → Type 0 where
    at_once : BeginsWith y y
    by_first : {r : ℕ} {a b : RowNumber} → row t r ≡ Row.Statement (Sequence a b) → BeginsWith y a.0 → BeginsWith y r

  -- of the next row on a stack
  abbrev pub BeginsFirst : ℕ → List ℕ → Type 0
  BeginsFirst y [] = ⊥
  BeginsFirst y (r ∷ rest) = BeginsWith y r

  deeper : {y r z : ℕ} → Inside y r → Inside r z → Inside y z
  deeper h itself = h
  deeper h (in_first e k) = in_first e (deeper h k)
  deeper h (in_second e k) = in_second e (deeper h k)
  deeper h (in_then e k) = in_then e (deeper h k)
  deeper h (in_else e k) = in_else e (deeper h k)
  deeper h (in_body e k) = in_body e (deeper h k)

  -- ---- stacks

  -- why the second row is to do after the first
  pub data Over (r next_row : ℕ) : Type 0 where
    again_after : {b i x : RowNumber} → row t next_row ≡ Row.Statement (While b i x) → Inside r x.0 → Over r next_row
    second_after : (q : ℕ) {a b : RowNumber} → row t q ≡ Row.Statement (Sequence a b) → b.0 ≡ next_row → Inside r a.0 → Over r next_row

  abbrev pub OverFirst : ℕ → List ℕ → Type 0
  OverFirst r [] = Unit {0}
  OverFirst r (z ∷ rest) = Over r z

  abbrev pub Proper : List ℕ → Type 0
  Proper [] = Unit {0}
  Proper (r ∷ rest) = IsStatementRow r × OverFirst r rest × Proper rest

  -- what is in the first row stands over the second as that does
  pub still_over : {y r : ℕ} (rest : List ℕ) → Inside y r → OverFirst r rest → OverFirst y rest
  still_over [] h o = tt
  still_over (z ∷ rest) h (again_after e k) = again_after e (deeper h k)
  still_over (z ∷ rest) h (second_after q e n k) = second_after q e n (deeper h k)

  module _ (ok : Accepted t) where
    pub sorts : (r : ℕ) {w : StatementRow} → row t r ≡ Row.Statement w → T (well_sorted t (parts (Row.Statement w)))
    sorts r e = rw e at (ok.sorted r (statement_inside t ok r e))

    second_sort : (a b : Bool) → T (a && (b && true)) → T b
    second_sort a b h = (both b true (both a (b && true) h).1).0

    pub third_sort : (a b c : Bool) → T (a && (b && (c && true))) → T c
    third_sort a b c h = second_sort b c (both a (b && (c && true)) h).1

    abbrev pub is_sort : ℕ → Bool
    is_sort r = same_sort (sort_of (row t r)) Statement

    -- ---- the statement due

    split_proper : (r : ℕ) (rest : List ℕ) (a b : RowNumber) → row t r ≡ Row.Statement (Sequence a b) → Proper (r ∷ rest)
        → Proper (a.0 ∷ b.0 ∷ rest)
    split_proper r rest a b e h = (
      of_sort ok a.0 (row t a.0) refl (both (is_sort a.0) (is_sort b.0 && true) (sorts r e)).0,
      second_after r e refl itself,
      (
        of_sort ok b.0 (row t b.0) refl (second_sort (is_sort a.0) (is_sort b.0) (sorts r e)),
        still_over rest (in_second e itself) h.1,
        h.2,
      ),
    )

    abbrev Properᵈ : Due → Type 0
    Properᵈ d = Proper (d.at ∷ d.rest)

    -- where D says what is due of a first part
    due_by : (D : ℕ → List ℕ → Due) → ((k : ℕ) (more : List ℕ) → Proper (k ∷ more) → Properᵈ (D k more)) → (r : ℕ) (rest : List ℕ) (w : Row)
        → row t r ≡ w → Proper (r ∷ rest) → Properᵈ (if_statement (due_at r rest) (due_statement D r rest) w)
    due_by D go r rest (Row.Statement (Sequence a b)) e h = go a.0 (b.0 ∷ rest) (split_proper r rest a b e h)
    due_by D go r rest (Row.Statement Skip) e h = h
    due_by D go r rest (Row.Statement (Assign v x)) e h = h
    due_by D go r rest (Row.Statement (If b x y)) e h = h
    due_by D go r rest (Row.Statement (While b i x)) e h = h
    due_by D go r rest (Row.Statement (Assert f)) e h = h
    due_by D go r rest (Row.Expression x) e h = h
    due_by D go r rest (Row.Formula x) e h = h
    due_by D go r rest (Row.Note i v) e h = h
    due_by D go r rest (Row.Script p s q) e h = h
    due_by D go r rest Row.Unknown e h = h

    pub due_proper : (n r : ℕ) (rest : List ℕ) → Proper (r ∷ rest) → Properᵈ (due t n r rest)
    unfolding due
    due_proper zero r rest h = h
    due_proper (suc n) r rest h = due_by (due t n) (due_proper n) r rest (row t r) refl h

    begins_by : (D : ℕ → List ℕ → Due) → ((k : ℕ) (more : List ℕ) → BeginsWith (D k more).at k) → (r : ℕ) (rest : List ℕ) (w : Row)
        → row t r ≡ w → BeginsWith (if_statement (due_at r rest) (due_statement D r rest) w).at r
    begins_by D go r rest (Row.Statement (Sequence a b)) e = by_first e (go a.0 (b.0 ∷ rest))
    begins_by D go r rest (Row.Statement Skip) e = at_once
    begins_by D go r rest (Row.Statement (Assign v x)) e = at_once
    begins_by D go r rest (Row.Statement (If b x y)) e = at_once
    begins_by D go r rest (Row.Statement (While b i x)) e = at_once
    begins_by D go r rest (Row.Statement (Assert f)) e = at_once
    begins_by D go r rest (Row.Expression x) e = at_once
    begins_by D go r rest (Row.Formula x) e = at_once
    begins_by D go r rest (Row.Note i v) e = at_once
    begins_by D go r rest (Row.Script p s q) e = at_once
    begins_by D go r rest Row.Unknown e = at_once

    due_begins : (n r : ℕ) (rest : List ℕ) → BeginsWith (due t n r rest).at r
    unfolding due
    due_begins zero r rest = at_once
    due_begins (suc n) r rest = begins_by (due t n) (due_begins n) r rest (row t r) refl

    pub next_begins : (r : ℕ) (rest : List ℕ) → BeginsWith (next t r rest).at r
    next_begins r rest = due_begins (rows t) r rest

    single_of : (r : ℕ) → IsStatementRow r → Ready t r → SingleRow r
    single_of r s (single {w} h e one) = record { kind = w; is = e; inside = h; one = one }
    single_of r s (idle e h) = absurd (subst Idle (sym e ∙ s.is) h)

    pub due_row : (r : ℕ) (rest : List ℕ) → Proper (r ∷ rest) → SingleRow (next t r rest).at
    due_row r rest h =
        single_of (next t r rest).at (due_proper (rows t) r rest h).0 (split t ok r rest (frames_of t rest) (stands_begun t rest)).ready

    -- ---- the start

    start_node : (w : Row) → T (same_sort (sort_of w) Script) → T (well_sorted t (parts w)) → IsStatementRow (statement_of w)
    start_node (Row.Script p s q) h g =
        of_sort ok s.0 (row t s.0) refl
        (second_of (same_sort (sort_of (row t p.0)) Formula) (is_sort s.0) (same_sort (sort_of (row t q.0)) Formula) g)
    start_node (Row.Expression w) h g = absurd h
    start_node (Row.Formula w) h g = absurd h
    start_node (Row.Statement w) h g = absurd h
    start_node (Row.Note i v) h g = absurd h
    start_node Row.Unknown h g = absurd h

    pub start_row : IsStatementRow (statement_of (row t (rows t - 1)))
    start_row = let f = ok.filled in start_node (row t (rows t - 1)) ok.script (ok.sorted (rows t - 1) (omega linear))
