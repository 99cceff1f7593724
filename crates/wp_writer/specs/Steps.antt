-- What is known at each turn of the writer of W, of the statement at hand, its parts and what follows; the turns at skip, a
-- sequence and an assertion, and the end at a loop. Assumes nothing.
use Rattle.std.specs.Prelude.{ℕ, ◌+◌, ◌*◌, ◌<◌, ◌≡◌, List, [], ◌∷◌, ◌++◌, ℤ, pos, length}
use Rattle.std.proofs.Common.{sym, ◌∙◌, arith as linear}
use Rattle.std.proofs.Math.Path.{ap}
use Rattle.script.specs.declared.RowNumber.{RowNumber}
use Rattle.script.specs.declared.StatementRow.TheVariants.{Skip, Sequence, Assert}
use Rattle.script.specs.declared.Row.{Row}
use Rattle.script.specs.declared.Sort.{Sort}
use Rattle.script.specs.Syntax.{Stmt, Formula}
use Rattle.script.specs.Conditions.{wp}
use Rattle.script.specs.Words.{formula_words}
use Rattle.script.specs.Rows.{field_number, row, rows, word}
use Rattle.script.specs.Trees.{stmt_node, expr_at, formula_at, stmt_at}
use Rattle.output.specs.declared.Output.{Output}
use Rattle.output.specs.Written.{Written, then}
use Rattle.formula_writer.specs.Paths.{replaceᶠ, formula_under}
use Rattle.formula_writer.specs.Links.{Linked}
use Rattle.formula_writer.specs.Nodes.{Ready}
use Rattle.dividing.specs.Nodes.{Node}
use Rattle.divisor_writer.specs.Words.{DivisorReady}
use Rattle.following.specs.Follow.{row_on, follow_in}
use Rattle.following.specs.Course.{left, next, stands, course_at}
use Rattle.following.specs.Kinds.{number, Past, assert_row}
use Rattle.following.specs.Parts.{inside, stmt_here, links_here, on_from, left_falls, first_course, after_sequence, left_first}
use Rattle.wp_writer.specs.Loops.{Loop, invariant_row, invariant_linked, loop_is}
use Rattle.wp_writer.specs.Ends.{end_formula, words_under, ready_at}
use Rattle.wp_writer.specs.Same.{Same, same_refl}
use Rattle.wp_writer.specs.Walked.{Before, before_end, Step}

module _ (t follow path : List ℤ) (j end s : ℕ) (g : Before t follow path j end s) (more : s ≡ 2048 → ⊥) where
  abbrev spell : Formula → List ℤ
  spell f = words_under t path j f

  -- what is to hold after the statement at hand
  abbrev rest : Formula
  rest = before_end t follow (next t follow s) end

  pub in_rows : s < rows t
  in_rows = inside t follow g.course more

  pub in_table : 4 * s + 3 < length t
  in_table = let h = in_rows in let k = g.course.table.fours in omega linear

  pub in_scratch : rows t + s < length path
  in_scratch = let h = in_rows in let e = g.long in omega linear

  -- the row of an assertion, where the other kinds were passed over
  pub assert_known : {n f : ℕ} → n ≡ field_number (word t s 0) → Past n → f ≡ field_number (word t s 1) → row t s ≡ Row.Statement (Assert (number f))
  assert_known read p h = assert_row t s read (stands t follow more g.course).here.1 p h

  -- a node below s
  pub node_here : (a : ℕ) {k : Sort} → Linked t s a k → Ready t path j a k
  node_here a l = let h = in_rows in let i = l.0 in ready_at t path j a g.course.table g.along (omega linear, l.1)

  -- D of a node
  pub divisors_here : (a : ℕ) → Node t a → a < rows t → DivisorReady t (follow_in t path) path j a
  divisors_here a n h =
      let e = g.course.followed.long in
      rw g.noted (record { table = g.course.table; along = g.along; inside = h; node = n; divided = g.divided; long = omega linear })

  -- W from s on, where its row is known
  pub after_here : {w : Row} → row t s ≡ w → before_end t follow s end ≡ wp (stmt_node (expr_at t) (formula_at t) (stmt_at t) (row t) s w) rest
  after_here e = (stands t follow more g.course).after_step (end_formula t end) ∙ ap (λ (x : Stmt). wp x rest) (stmt_here t follow g.course more e)

  -- ---- what follows comes next

  -- from what was read
  pub next_is : {path' : List ℤ} {s' : ℕ} → Same (rows t) j path path' → s' ≡ row_on (follow_in t path') s → s' ≡ next t follow s
  next_is k h = h ∙ ap (λ f. row_on f s) (k.behind ∙ g.noted)

  pub next_falls : {path' : List ℤ} {s' : ℕ} → Same (rows t) j path path' → s' ≡ row_on (follow_in t path') s → left t follow s' < left t follow s
  next_falls k h = rw (next_is k h) (left_falls t follow g.course more)

  on_before : {s' : ℕ} → s' ≡ next t follow s → Before t follow path j end s'
  on_before e = record { course = course_at t follow e (on_from t follow g.course more); divided = g.divided; ended = g.ended; along = g.along; long = g.long; noted = g.noted }

  -- with the words ws written
  on_step : {s' : ℕ} {o o' : Output ℤ} → s' ≡ next t follow s
      → ((o'' : Output ℤ) → Written o' (spell rest) o'' → Written o (spell (before_end t follow s end)) o'')
      → Step t follow end s j path o s' j path o'
  on_step {s'} e f = record {
    before = on_before e;
    longer = omega linear;
    kept = same_refl (rows t) j path;
    falls = rw e (left_falls t follow g.course more);
    words = λ o'' w. f o'' (rw e at w);
  }

  pub skip_step : {s' : ℕ} {o : Output ℤ} → row t s ≡ Row.Statement Skip → s' ≡ row_on (follow_in t path) s
      → Step t follow end s j path o s' j path o
  unfolding wp
  skip_step r h = on_step (next_is (same_refl (rows t) j path) h) (λ o'' w. rw (after_here r) w)

  -- ---- an assertion

  module _ {f : RowNumber} (r : row t s ≡ Row.Statement (Assert f)) where
    pub assert_ready : Ready t path j f.0 Sort.Formula
    assert_ready = node_here f.0 (links_here t follow g.course more r).0

    assert_spelled : spell (before_end t follow s end) ≡ pos 23 ∷ (spell (formula_at t f.0) ++ spell rest)
    unfolding wp formula_words replaceᶠ
    assert_spelled = ap spell (after_here r)

    pub assert_step : {s' : ℕ} {o o₁ o₂ : Output ℤ} → s' ≡ row_on (follow_in t path) s → Written o (pos 23 ∷ []) o₁
        → Written o₁ (formula_under t path j f.0) o₂ → Step t follow end s j path o s' j path o₂
    assert_step h w₁ w₂ = on_step (next_is (same_refl (rows t) j path) h) (λ o'' w. rw assert_spelled (then w₁ (then w₂ w)))

  -- ---- a sequence

  pub sequence_step : {a b : RowNumber} {o : Output ℤ} → row t s ≡ Row.Statement (Sequence a b)
      → Step t follow end s j path o a.0 j path o
  sequence_step r = record {
    before = record { course = first_course t follow g.course more r; divided = g.divided; ended = g.ended; along = g.along; long = g.long; noted = g.noted };
    longer = omega linear;
    kept = same_refl (rows t) j path;
    falls = left_first t follow g.course more r;
    words = λ o'' w. rw (after_sequence t follow g.course more r (end_formula t end)) w;
  }

  -- ---- a loop

  module _ {n : ℕ} (read : n ≡ field_number (word t s 0)) (kind : n ≡ 36) where
    pub loop_here : Loop t s
    loop_here = record { table = g.course.table; inside = in_rows; while = sym read ∙ kind }

    pub invariant_ready : {i : ℕ} → i ≡ invariant_row t s → Ready t path j i Sort.Formula
    invariant_ready {i} e = ready_at t path j i g.course.table g.along (rw e (invariant_linked t s loop_here))

    pub loop_wrote : {i : ℕ} {o o' : Output ℤ} → i ≡ invariant_row t s → Written o (formula_under t path j i) o'
        → Written o (spell (before_end t follow s end)) o'
    unfolding wp
    loop_wrote e w =
        let a = (stands t follow more g.course).after_step (end_formula t end) ∙ ap (λ (x : Stmt). wp x rest) (loop_is t s loop_here) in
        rw a (rw e at w)
