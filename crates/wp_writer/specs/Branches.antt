-- The turn of the writer of W at a branch: D of its guard is written, its guard and its then part, its guard once more, and its
-- else part comes next. Assumes nothing.
use Rattle.std.specs.Prelude.{ℕ, ◌≤◌, ◌<◌, ◌≡◌, List, [], ◌∷◌, ◌++◌, ℤ, pos}
use Rattle.std.proofs.Common.{sym, ap, ◌∙◌, append_assoc, arith as linear}
use Rattle.script.specs.declared.RowNumber.{RowNumber}
use Rattle.script.specs.declared.StatementRow.TheVariants.{If}
use Rattle.script.specs.declared.Row.TheVariants as Row
use Rattle.script.specs.declared.Sort.TheVariants as Sort
use Rattle.script.specs.Syntax.{Formula}
use Rattle.script.specs.Conditions.{divisorsᶠ, wp}
use Rattle.script.specs.Words.{formula_words}
use Rattle.script.specs.Rows.{row, rows}
use Rattle.script.specs.Trees.{formula_at}
use Rattle.output.specs.declared.Output.{Output}
use Rattle.output.specs.Written.{Written, then, written_as}
use Rattle.formula_writer.specs.Paths.{replaceᶠ, under, and_replaced, formula_under}
use Rattle.formula_writer.specs.Nodes.{Ready}
use Rattle.dividing.specs.Nodes.{formula_is_node, formula_divisors}
use Rattle.divisor_writer.specs.Words.{DivisorReady, conjunct_words, conjunct_and}
use Rattle.following.specs.Follow.{follow_in}
use Rattle.following.specs.Course.{left}
use Rattle.following.specs.Parts.{links_here, then_course, else_course, after_then, after_else, left_then, left_else}
use Rattle.wp_writer.specs.Ends.{end_formula, words_under}
use Rattle.wp_writer.specs.Same.{Same, same_refl, under_same, along_same}
use Rattle.wp_writer.specs.Walked.{Before, before_end, Walked, Step}
use Rattle.wp_writer.specs.Steps.{node_here, divisors_here, after_here}

flat : (u w b x y : List ℤ) → (((u ++ b) ++ x) ++ (w ++ b)) ++ y ≡ u ++ (b ++ (x ++ (w ++ (b ++ y))))
flat u w b x y = simp append_assoc

-- "(B implies W(S, Q)) and ((not B) implies W(T, Q))", in the order in which it is written
if_words : (b x y : List ℤ) → ((((pos 23 ∷ pos 25 ∷ []) ++ b) ++ x) ++ ((pos 25 ∷ pos 22 ∷ []) ++ b)) ++ y
    ≡ pos 23 ∷ ((pos 25 ∷ (b ++ x)) ++ (pos 25 ∷ ((pos 22 ∷ b) ++ y)))
if_words b x y =
    flat (pos 23 ∷ pos 25 ∷ []) (pos 25 ∷ pos 22 ∷ []) b x y
    ∙ ap (λ (z : List ℤ). pos 23 ∷ pos 25 ∷ z) (sym (append_assoc b x (pos 25 ∷ pos 22 ∷ (b ++ y))))

module _ (t follow path : List ℤ) (j end s : ℕ) (g : Before t follow path j end s) (more : s ≡ 2048 → ⊥) {b x y : RowNumber}
    (r : row t s ≡ Row.Statement (If b x y)) where
  abbrev spell : Formula → List ℤ
  spell f = words_under t path j f

  -- the guard, whatever the path has past what is used
  pub guard_ready : {path' : List ℤ} → Same (rows t) j path path' → Ready t path' j b.0 Sort.Formula
  guard_ready {path'} k =
      let n : Ready t path j b.0 Sort.Formula = node_here t follow path j end s g more b.0 (links_here t follow g.course more r).0 in
      record { table = n.table; along = along_same t j k n.along; inside = n.inside; sort = n.sort }

  pub then_before : Before t follow path j end x.0
  then_before = record { course = then_course t follow g.course more r; divided = g.divided; ended = g.ended; along = g.along; long = g.long; noted = g.noted }

  -- as the call asks it
  pub then_ready : {m k : ℕ} → left t follow s ≤ m → m ≡ k
      → (left t (follow_in t path) x.0 < k) × Before t (follow_in t path) path j end x.0
  then_ready h e = let l = left_then t follow g.course more r in rw g.noted (omega linear, then_before)

  else_before : {path' : List ℤ} → Same (rows t) j path path' → Before t follow path' j end y.0
  else_before k = record {
    course = else_course t follow g.course more r;
    divided = g.divided;
    ended = g.ended;
    along = along_same t j k g.along;
    long = k.long ∙ g.long;
    noted = k.behind ∙ g.noted;
  }

  pub guard_divisors : DivisorReady t (follow_in t path) path j b.0
  guard_divisors =
      let n = guard_ready (same_refl (rows t) j path) in
      divisors_here t follow path j end s g more b.0 (formula_is_node t b.0 n.sort) n.inside

  -- what 01 says of a branch
  abbrev split_words : List ℤ
  split_words =
      pos 23 ∷ ((pos 25 ∷ (spell (formula_at t b.0) ++ spell (before_end t follow x.0 end)))
      ++ (pos 25 ∷ ((pos 22 ∷ spell (formula_at t b.0)) ++ spell (before_end t follow y.0 end))))

  branch_spelled : spell (before_end t follow s end) ≡ conjunct_words t path j b.0 ++ split_words
  unfolding wp formula_words replaceᶠ
  branch_spelled =
      let u = after_then t follow g.course more r (end_formula t end) in
      let v = after_else t follow g.course more r (end_formula t end) in
      rw (u, v, formula_divisors t b.0 (guard_ready (same_refl (rows t) j path)).sort)
      (ap spell (after_here t follow path j end s g more r)
      ∙ (ap formula_words (and_replaced (under t path j) (divisorsᶠ (formula_at t b.0)) _)
      ∙ conjunct_and (under t path j) (divisorsᶠ (formula_at t b.0)) _))

  pub branch_step : {o o₀ o₁ o₂ o₃ o₄ o₅ : Output ℤ} {path₃ : List ℤ}
      → Written o (conjunct_words t path j b.0) o₀
      → Written o₀ (pos 23 ∷ pos 25 ∷ []) o₁
      → Written o₁ (formula_under t path j b.0) o₂
      → Walked t path j (before_end t (follow_in t path) x.0 end) o₂ o₃ path₃
      → Written o₃ (pos 25 ∷ pos 22 ∷ []) o₄
      → Written o₄ (formula_under t path₃ j b.0) o₅
      → Step t follow end s j path o y.0 j path₃ o₅
  branch_step {o₂ = o₂} {o₃ = o₃} {o₄ = o₄} {o₅ = o₅} w₀ w₁ w₂ w₃ w₄ w₅ =
      let same = under_same t j w₃.kept in
      let c₃ : Written o₂ (spell (before_end t follow x.0 end)) o₃ = rw g.noted at w₃.words in
      let c₅ : Written o₄ (spell (formula_at t b.0)) o₅ = rw same at w₅ in
      record {
        before = else_before w₃.kept;
        longer = omega linear;
        kept = w₃.kept;
        falls = left_else t follow g.course more r;
        words = λ o'' w.
            let c₆ : Written o₅ (spell (before_end t follow y.0 end)) o'' = rw same at w in
            let f = if_words (spell (formula_at t b.0)) (spell (before_end t follow x.0 end)) (spell (before_end t follow y.0 end)) in
            rw branch_spelled (then w₀ (written_as f (then (then (then (then w₁ w₂) c₃) (then w₄ c₅)) c₆)));
      }
