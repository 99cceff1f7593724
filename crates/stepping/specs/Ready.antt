-- 02, P11: "a sequence is none, split only as the next step begins". What is due on the machine's stack is due in the run, and
-- both split the sequences above it alike (`split`): the row is that of the statement due (`is_due`), and no sequence's (`never_sequence`).
-- In this order: rows that are no statement stand for skip, what is due, sequences split, what the stack says is due.
-- Argument: by induction on the rows, links fall. Assumes nothing.
use Prim.Native.Nat.{ℕ, zero, suc, ◌<◌}
use Rattle.std.specs.Prelude.{◌≡◌, List, [], ◌∷◌, ℤ}
use Rattle.std.proofs.Math.Path.{refl, ap, subst⁻¹}
use Rattle.std.proofs.Common.{sym, ◌∙◌, subst, arith as linear}
use Rattle.std.proofs.Math.Option.{some}
use Rattle.script.specs.declared.RowNumber.{RowNumber}
use Rattle.script.specs.declared.StatementRow.{StatementRow}
use Rattle.script.specs.declared.StatementRow.TheVariants.{Skip, Assign, Sequence, If, While, Assert}
use Rattle.script.specs.declared.Row.{Row}
use Rattle.script.specs.Syntax.{Formula, Stmt, skip}
use Rattle.script.specs.Meaning.{Arithmetic, State}
use Rattle.script.specs.Run.{Frame, begin, again, first_step}
use Rattle.script.specs.Rows.{row, rows}
use Rattle.script.specs.Trees.{loop_node, stmt_node, expr_at, formula_at, stmt, stmt_at}
use Rattle.theorems.specs.Accepted.{Accepted}
use Rattle.theorems.specs.RowTrees.{below, lower₂, stmt_is}
use Rattle.theorems.specs.Due as Run
use Rattle.stepping.specs.Machine.{Due, due_at, due_statement, due, next, if_statement}
use Rattle.stepping.specs.Places.{by_place, row_beyond, statement_inside}
use Rattle.stepping.specs.Stands.{Single, Stands, begins, tests_again}

-- no statement
abbrev pub Idle : Row → Type 0
Idle (Row.Statement w) = ⊥
Idle (Row.Expression w) = Unit {0}
Idle (Row.Formula w) = Unit {0}
Idle (Row.Note i v) = Unit {0}
Idle (Row.Script p s q) = Unit {0}
Idle Row.Unknown = Unit {0}

pub idle_gives : {A : Type 0} (a : A) (f : StatementRow → A) (w : Row) → Idle w → if_statement a f w ≡ a
idle_gives a f (Row.Statement w) h = absurd h
idle_gives a f (Row.Expression w) h = refl
idle_gives a f (Row.Formula w) h = refl
idle_gives a f (Row.Note i v) h = refl
idle_gives a f (Row.Script p s q) h = refl
idle_gives a f Row.Unknown h = refl

module _ (t : List ℤ) where
  idle_node : (n r : ℕ) (w : Row) → row t r ≡ w → Idle w → stmt t n r ≡ skip
  unfolding stmt
  idle_node zero r w e h = refl
  idle_node (suc n) r (Row.Statement w) e h = absurd h
  idle_node (suc n) r (Row.Expression w) e h = rw e
  idle_node (suc n) r (Row.Formula w) e h = rw e
  idle_node (suc n) r (Row.Note i v) e h = rw e
  idle_node (suc n) r (Row.Script p s q) e h = rw e
  idle_node (suc n) r Row.Unknown e h = rw e

  pub idle_skip : (r : ℕ) (w : Row) → row t r ≡ w → Idle w → stmt_at t r ≡ skip
  unfolding stmt_at
  idle_skip r w e h = idle_node (rows t) r w e h

  -- ---- what is due

  -- the row of a statement that a step is made of, or of none
  pub data Ready (r : ℕ) : Type 0 where
    single : {w : StatementRow} → r < rows t → row t r ≡ Row.Statement w → Single w → Ready r
    idle : {w : Row} → row t r ≡ w → Idle w → Ready r

  first_loop : (r : ℕ) (b : Formula) (w : Row) (x : Stmt)
      → Run.first_of (loop_node (expr_at t) (formula_at t) r b w x) ≡ loop_node (expr_at t) (formula_at t) r b w x
  first_loop r b (Row.Note i v) x = refl
  first_loop r b (Row.Expression w) x = refl
  first_loop r b (Row.Formula w) x = refl
  first_loop r b (Row.Statement w) x = refl
  first_loop r b (Row.Script p s q) x = refl
  first_loop r b Row.Unknown x = refl

  first_single : (r : ℕ) (w : StatementRow) → Single w
      → Run.first_of (stmt_node (expr_at t) (formula_at t) (stmt_at t) (row t) r (Row.Statement w))
      ≡ stmt_node (expr_at t) (formula_at t) (stmt_at t) (row t) r (Row.Statement w)
  first_single r Skip one = refl
  first_single r (Assign v e) one = refl
  first_single r (Sequence a b) one = absurd one
  first_single r (If b x y) one = refl
  first_single r (While b i x) one = first_loop r (formula_at t b.0) (row t i.0) (stmt_at t x.0)
  first_single r (Assert f) one = refl

  module _ (ok : Accepted t) where
    first_ready : (r : ℕ) → Ready r → Run.first_of (stmt_at t r) ≡ stmt_at t r
    first_ready r (single {w} h e one) =
        let same = stmt_is t ok r h e in
        ap Run.first_of same ∙ first_single r w one ∙ sym same
    first_ready r (idle {w} e h) = let same = idle_skip r w e h in ap Run.first_of same ∙ sym same

    -- ---- sequences split

    -- with k to do after it, the statement at row r begins with what d says is due
    pub record Split (d : Due) (r : ℕ) (k : List Frame) : Type 0 where
      pub frames : List Frame
      pub stands : Stands t d.rest frames
      pub same : (𝔸 : Arithmetic) (s : State) → first_step 𝔸 (stmt_at t r) k s ≡ first_step 𝔸 (stmt_at t d.at) frames s
      pub first : Run.first_of (stmt_at t r) ≡ stmt_at t d.at
      pub ready : Ready d.at

    itself : (r : ℕ) {rest : List ℕ} {k : List Frame} → Stands t rest k → Ready r → Split (due_at r rest) r k
    itself r {rest} {k} st h =
        record { frames = k; stands = st; same = λ 𝔸 s. refl; first = first_ready r h; ready = h }

    split_node : (r : ℕ) → r < rows t → (rest : List ℕ) (k : List Frame) → Stands t rest k → (D : ℕ → List ℕ → Due)
        → ((a : ℕ) → a < r → (rest' : List ℕ) (k' : List Frame) → Stands t rest' k' → Split (D a rest') a k')
        → (w : StatementRow) → row t r ≡ Row.Statement w → Split (due_statement D r rest w) r k
    unfolding first_step
    split_node r h rest k st D lower (Sequence a b) e =
        let d = lower₂ a.0 b.0 r (below t ok r h e) in
        let p = lower a.0 d.0 (b.0 ∷ rest) (begin (stmt_at t b.0) ∷ k) (begins st) in
        record {
          frames = p.frames;
          stands = p.stands;
          same = λ 𝔸 s. ap (λ (z : Stmt). first_step 𝔸 z k s) (stmt_is t ok r h e) ∙ p.same 𝔸 s;
          first = ap Run.first_of (stmt_is t ok r h e) ∙ p.first;
          ready = p.ready;
        }
    split_node r h rest k st D lower Skip e = itself r st (single h e tt)
    split_node r h rest k st D lower (Assign v x) e = itself r st (single h e tt)
    split_node r h rest k st D lower (If b x y) e = itself r st (single h e tt)
    split_node r h rest k st D lower (While b i x) e = itself r st (single h e tt)
    split_node r h rest k st D lower (Assert f) e = itself r st (single h e tt)

    split_row : (r : ℕ) → r < rows t → (rest : List ℕ) (k : List Frame) → Stands t rest k → (D : ℕ → List ℕ → Due)
        → ((a : ℕ) → a < r → (rest' : List ℕ) (k' : List Frame) → Stands t rest' k' → Split (D a rest') a k')
        → (w : Row) → row t r ≡ w → Split (if_statement (due_at r rest) (due_statement D r rest) w) r k
    split_row r h rest k st D lower (Row.Statement w) e = split_node r h rest k st D lower w e
    split_row r h rest k st D lower (Row.Expression w) e = itself r st (idle e tt)
    split_row r h rest k st D lower (Row.Formula w) e = itself r st (idle e tt)
    split_row r h rest k st D lower (Row.Note i v) e = itself r st (idle e tt)
    split_row r h rest k st D lower (Row.Script p a q) e = itself r st (idle e tt)
    split_row r h rest k st D lower Row.Unknown e = itself r st (idle e tt)

    split_below : (n r : ℕ) → r < n → r < rows t → (rest : List ℕ) (k : List Frame) → Stands t rest k → Split (due t n r rest) r k
    unfolding due
    split_below zero r l h rest k st = absurd (omega linear)
    split_below (suc n) r l h rest k st =
        split_row r h rest k st (due t n) (λ a m rest' k' st'. split_below n a (omega linear) (omega linear) rest' k' st') (row t r) refl

    -- a row whose own statement is due is due at once
    at_once : (n r : ℕ) (rest : List ℕ) {w : Row} → row t r ≡ w
        → ((D : ℕ → List ℕ → Due) → if_statement (due_at r rest) (due_statement D r rest) w ≡ due_at r rest) → due t n r rest ≡ due_at r rest
    unfolding due
    at_once zero r rest e h = refl
    at_once (suc n) r rest e h = ap (if_statement (due_at r rest) (due_statement (due t n) r rest)) e ∙ h (due t n)

    pub split : (r : ℕ) (rest : List ℕ) (k : List Frame) → Stands t rest k → Split (next t r rest) r k
    split r rest k st =
        by_place t r (λ h. split_below (rows t) r h h rest k st)
        (λ h.
        let u = row_beyond t ok r h in
        subst⁻¹ (λ d. Split d r k) (at_once (rows t) r rest u (λ D. refl)) (itself r st (idle u tt)))

    pub due_loop : (r : ℕ) (rest : List ℕ) {b i x : RowNumber} → row t r ≡ Row.Statement (While b i x) → next t r rest ≡ due_at r rest
    due_loop r rest e = at_once (rows t) r rest e (λ D. refl)

    -- ---- what the stack says is due

    pub is_due : (r : ℕ) (rest : List ℕ) (k : List Frame) → Stands t (r ∷ rest) k → Run.due k ≡ some (stmt_at t (next t r rest).at)
    is_due r rest [] x' = elim x' [ ]
    is_due r rest (begin x ∷ k) (begins st) = ap some (split r rest k st).first
    is_due r rest (again m b i v x v₀ n ∷ k) (tests_again {b = b'} {i = i'} {x = x'} h e e' st) =
        let node : Row → Stmt = λ w. loop_node (expr_at t) (formula_at t) r (formula_at t b'.0) w (stmt_at t x'.0) in
        ap some (sym (ap (λ (d : Due). stmt_at t d.at) (due_loop r rest e) ∙ stmt_is t ok r h e ∙ ap node e'))

    -- "the row of the statement due (never a sequence)"
    pub never_sequence : (k : List Frame) (r : ℕ) → Run.due k ≡ some (stmt_at t r) → {a b : RowNumber}
        → ¬ (row t r ≡ Row.Statement (Sequence a b))
    never_sequence k r d e =
        let same = stmt_is t ok r (statement_inside t ok r e) e in
        subst (λ (x : Stmt). ¬ Run.Sequence x) same (Run.due_no_sequence k (stmt_at t r) d) tt
