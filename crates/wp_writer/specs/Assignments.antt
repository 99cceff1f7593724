-- The turn of the writer of W at an assignment: D of its value is written, and its entry is put on the path. Assumes nothing.
use Rattle.std.specs.Prelude.{ℕ, ◌+◌, ◌<◌, ◌≡◌, List, ◌++◌, ℤ, pos, length, set}
use Rattle.std.proofs.Common.{sym, ap, ◌∙◌, ⊎_elim, arith as linear, add-one, length-set, get_or-set_same}
use Rattle.script.specs.declared.RowNumber.{RowNumber}
use Rattle.script.specs.declared.VariableNumber.{VariableNumber}
use Rattle.script.specs.declared.StatementRow.TheVariants.{Assign}
use Rattle.script.specs.declared.Row.TheVariants as Row
use Rattle.script.specs.declared.Sort.TheVariants as Sort
use Rattle.script.specs.Syntax.{Formula}
use Rattle.script.specs.Conditions.{divisors, wp}
use Rattle.script.specs.Words.{formula_words}
use Rattle.script.specs.Rows.{row, rows}
use Rattle.script.specs.Trees.{expr_at, stmt_at}
use Rattle.theorems.specs.Counting.{eq_or_lt}
use Rattle.output.specs.declared.Output.{Output}
use Rattle.output.specs.Written.{Written, then, written_as}
use Rattle.formula_writer.specs.Paths.{replaceᶠ, under, entry, passed_row, assign_passed}
use Rattle.formula_writer.specs.Nodes.{Assignment, Passed, OnPath, Ready}
use Rattle.following.specs.Follow.{row_on, follow_in}
use Rattle.following.specs.Course.{next, left, stands, course_at, left_bounded}
use Rattle.following.specs.Parts.{stmt_here, links_here, passed_on, left_falls}
use Rattle.dividing.specs.Nodes.{expression_is_node, expression_divisors}
use Rattle.divisor_writer.specs.Words.{DivisorReady, conjunct_words, conjunct_and}
use Rattle.wp_writer.specs.Ends.{end_formula, words_under}
use Rattle.wp_writer.specs.Same.{Same, same_set, under_same, along_same}
use Rattle.wp_writer.specs.Walked.{Before, before_end, Step}
use Rattle.wp_writer.specs.Steps.{in_rows, node_here, divisors_here, next_is, next_falls}

-- the entry of row s is stored at place n of a path: there stands the row
entry_stored : (t xs : List ℤ) (n s : ℕ) {z : ℤ} → s < 2048 → n < length xs → z ≡ entry t s → passed_row (set xs n z) n ≡ s
entry_stored t xs n s {z} small h e = rw (get_or-set_same xs n z (pos 0) h, e) (omega linear)

module _ (t follow path : List ℤ) (j end s : ℕ) (g : Before t follow path j end s) (more : s ≡ 2048 → ⊥) where
  abbrev spell : Formula → List ℤ
  spell f = words_under t path j f

  abbrev rest : Formula
  rest = before_end t follow (next t follow s) end

  abbrev here : s < rows t
  here = in_rows t follow path j end s g more

  assign_below : j < rows t
  assign_below = let w = left_bounded t follow (passed_on t follow g.course more) in omega linear

  pub assign_room : j < length path
  assign_room =
      let h = assign_below in
      let u = g.long in
      omega linear

  pub assignment_here : {v : VariableNumber} {x : RowNumber} → row t s ≡ Row.Statement (Assign v x) → Assignment t s
  assignment_here {v} {x} r = record { inside = here; target = v; value = x; is = r }

  module _ {v : VariableNumber} {x : RowNumber} (r : row t s ≡ Row.Statement (Assign v x)) where
    value_ready : Ready t path j x.0 Sort.Expression
    value_ready = node_here t follow path j end s g more x.0 (links_here t follow g.course more r).0

    pub value_divisors : DivisorReady t (follow_in t path) path j x.0
    value_divisors = divisors_here t follow path j end s g more x.0 (expression_is_node t x.0 value_ready.sort) value_ready.inside

  module _ {z : ℤ} (is : z ≡ entry t s) {v : VariableNumber} {x : RowNumber} (r : row t s ≡ Row.Statement (Assign v x)) where
    abbrev kept : Same (rows t) j path (set path j z)
    kept = same_set (rows t) j path z assign_below

    stored : passed_row (set path j z) j ≡ s
    stored = let h = here in let k = g.course.table.short in entry_stored t path j s (omega linear) assign_room is

    passed_here : Passed t (set path j z) j
    passed_here = record {
      assigns = rw stored (assignment_here r);
      entered = rw (stored, get_or-set_same path j z (pos 0) assign_room) is;
    }

    passed_along : OnPath t (set path j z) (j + 1)
    passed_along =
        let a = length-set path j z in
        let h = assign_room in
        let before = along_same t j kept g.along in
        record {
          bound = omega linear;
          passed = λ i k. ⊎_elim (λ e. rw e passed_here) (before.passed i) (eq_or_lt i j (omega linear));
        }

    -- D under the path, and what follows under the path with the assignment on it
    assign_words : (q : Formula) → spell (wp (stmt_at t s) q) ≡ conjunct_words t path j x.0 ++ words_under t (set path j z) (j + 1) q
    assign_words q =
        let c = assign_passed t (set path j z) j q (ap (stmt_at t) stored ∙ stmt_here t follow g.course more r) in
        rw (expression_divisors t x.0 (value_ready r).sort)
        (ap formula_words (rw (← under_same t j kept, ← stored, add-one) c)
        ∙ conjunct_and (under t path j) (divisors (expr_at t x.0)) (replaceᶠ (under t (set path j z) (j + 1)) q))

    assign_spelled : spell (before_end t follow s end) ≡ conjunct_words t path j x.0 ++ words_under t (set path j z) (j + 1) rest
    assign_spelled = ap spell ((stands t follow more g.course).after_step (end_formula t end)) ∙ assign_words rest

    -- what follows, as it is read from the scratch with the assignment on the path
    pub assign_next : {s' : ℕ} → s' ≡ row_on (follow_in t (set path j z)) s → s' ≡ next t follow s
    assign_next h = next_is t follow path j end s g more kept h

    pub assign_falls : {s' : ℕ} → s' ≡ row_on (follow_in t (set path j z)) s → left t follow s' < left t follow s
    assign_falls h = next_falls t follow path j end s g more kept h

    pub assign_step : {s' : ℕ} {o o₁ : Output ℤ} → s' ≡ row_on (follow_in t (set path j z)) s
        → Written o (conjunct_words t path j x.0) o₁ → Step t follow end s j path o s' (j + 1) (set path j z) o₁
    assign_step h w₁ =
        let e = assign_next h in
        let a = length-set path j z in
        record {
          before = record {
            course = course_at t follow e (passed_on t follow g.course more);
            divided = g.divided;
            ended = g.ended;
            along = passed_along;
            long = a ∙ g.long;
            noted = kept.behind ∙ g.noted;
          };
          longer = omega linear;
          kept = kept;
          falls = rw e (left_falls t follow g.course more);
          words = λ o'' w. written_as (sym assign_spelled) (then w₁ (rw e at w));
        }
