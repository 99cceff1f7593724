-- The conditions of a loop and the main one: what their writers ask, and that the words of their parts, one run after another,
-- are the formula of the condition. Assumes nothing.
use Rattle.std.specs.Prelude.{ℕ, ◌+◌, ◌<◌, ◌≡◌, List, [], ◌∷◌, ℤ, pos, length}
use Rattle.std.proofs.Common.{ap, ◌∙◌, arith as linear}
use Rattle.script.specs.declared.Sort.{Sort}
use Rattle.script.specs.declared.Rule.{Rule}
use Rattle.script.specs.declared.Rule.TheVariants.{Exit, Floor, Step, Main}
use Rattle.script.specs.declared.Connective.TheVariants.{And, Implies}
use Rattle.script.specs.Syntax.{Formula, join}
use Rattle.script.specs.Conditions.{Condition, condition, exit, floor, step, wp}
use Rattle.script.specs.Words.{expr_words, formula_words}
use Rattle.script.specs.Rows.{rows}
use Rattle.script.specs.Trees.{expr_at, formula_at, stmt_at}
use Rattle.script.specs.Generated.{scratch_need}
use Rattle.theorems.specs.Accepted.{Accepted}
use Rattle.output.specs.declared.Output.{Output}
use Rattle.output.specs.Written.{Written, then, written_as}
use Rattle.formula_writer.specs.Paths.{none_passed, none_passedᵉ, expr_under, formula_under}
use Rattle.formula_writer.specs.Links.{Linked}
use Rattle.formula_writer.specs.Nodes.{OnPath, Ready}
use Rattle.following.specs.Follow.{row_on, follow_in, Followed}
use Rattle.dividing.specs.Divided.{Divided}
use Rattle.following.specs.Course.{next}
use Rattle.following.specs.Parts.{not_end, alone, after_alone, on_from}
use Rattle.wp_writer.specs.Loops.{Loop, guard_row, invariant_row, variant_row, body_row, guard_at, invariant_at, variant_at, body_at, while_is, body_linked, Script, pre_row, statement_row, script_is, statement_linked}
use Rattle.wp_writer.specs.Ends.{end_formula, script, body, end_decreased, words_under, ready_at}
use Rattle.wp_writer.specs.Same.{Same}
use Rattle.wp_writer.specs.Walked.{Before, before_end, Walked}
use Rattle.line_writer.specs.declared.Lines.{Lines}
use Rattle.line_writer.specs.Listed.{Listed, on}
use Rattle.line_writer.specs.Spelled.{Finished, line_finished}

-- ---- the conditions of the loop at row k, which so many loops enclose, met with what follows it and the formula at the end; and of the
-- script at row r

abbrev pub exit_line : List ℤ → List ℤ → ℕ → ℕ → ℕ → Condition
exit_line t follow end depth k = condition Exit k depth (exit (guard_at t k) (invariant_at t k) (before_end t follow (next t follow k) end))

abbrev pub floor_line : List ℤ → ℕ → ℕ → Condition
floor_line t depth k = condition Floor k depth (floor (guard_at t k) (invariant_at t k) (variant_at t k))

abbrev pub step_line : List ℤ → ℕ → ℕ → Condition
step_line t depth k = condition Step k depth (step k (guard_at t k) (invariant_at t k) (variant_at t k) (body_at t k))

abbrev pub main_line : List ℤ → ℕ → Condition
main_line t r = condition Main r 0 (join Implies (formula_at t (pre_row t r)) (wp (stmt_at t (statement_row t r)) (end_formula t r)))

-- ---- what is asked

pub record StepReady (t : List ℤ) (k : ℕ) (follow path : List ℤ) : Type 0 where
  pub loops : Loop t k
  pub followed : Followed t follow
  pub divided : Divided t follow
  pub long : length path ≡ scratch_need t
  pub noted : follow_in t path ≡ follow

pub record MainReady (t : List ℤ) (r : ℕ) (follow path : List ℤ) : Type 0 where
  pub scripts : Script t r
  pub followed : Followed t follow
  pub divided : Divided t follow
  pub long : length path ≡ scratch_need t
  pub noted : follow_in t path ≡ follow

-- ---- what is left: the lines of cs, and a scratch that is as long as before, with the same `follow`

pub record Lined (t path : List ℤ) (cs : List Condition) (ls ls' : Lines) (path' : List ℤ) : Type 0 where
  pub lines : Listed ls cs ls'
  pub kept : Same (rows t) 0 path path'

-- a line whose formula ends with what was walked
pub line_walked : (rule : Rule) (row depth : ℕ) (f : Formula)
    {t path path' : List ℤ} {g : Formula} {ls ls' : Lines} {o₁ o₂ : Output ℤ}
    → Walked t path 0 g o₁ o₂ path' → Written ls.out.now (formula_words f) o₂ → Finished ls.out.now.at rule row depth (on ls o₂) ls'
    → Lined t path (condition rule row depth f ∷ []) ls ls' path'
line_walked rule row depth f w v e = record { lines = line_finished rule row depth f v e; kept = w.kept }

-- ---- no assignment was passed

no_entry : {i : ℕ} → i < 0 → ⊥
no_entry h = omega linear

pub nothing_passed : (t path : List ℤ) → OnPath t path 0
nothing_passed t path = record { bound = omega linear; passed = λ i h. absurd (no_entry h) }

-- a part, from the row that was read
pub node_ready : (t path : List ℤ) {a b : ℕ} {s : Sort} → Accepted t → Linked t (rows t) a s → b ≡ a → Ready t path 0 b s
node_ready t path {a} {b} ok l e = ready_at t path 0 b ok (nothing_passed t path) (rw e l)

module _ (t path : List ℤ) {o o' : Output ℤ} where
  plain : (f : Formula) → Written o (words_under t path 0 f) o' → Written o (formula_words f) o'
  plain f w = written_as (ap formula_words (none_passed t path f)) w

  pub plain_formula : (a : ℕ) {b : ℕ} → b ≡ a → Written o (formula_under t path 0 b) o' → Written o (formula_words (formula_at t a)) o'
  plain_formula a e w = plain (formula_at t a) (rw e at w)

  plain_expr : (a : ℕ) {b : ℕ} → b ≡ a → Written o (expr_under t path 0 b) o' → Written o (expr_words (expr_at t a)) o'
  plain_expr a e w = written_as (ap expr_words (none_passedᵉ t path (expr_at t a))) (rw e at w)

-- ---- the formulas of a loop's conditions

module _ (t : List ℤ) (k : ℕ) (path : List ℤ) where
  pub wrote_exit : (q : Formula) {b i : ℕ} {o o₁ o₂ o₃ o₄ o₅ : Output ℤ} → b ≡ guard_row t k → i ≡ invariant_row t k
      → Written o (pos 25 ∷ pos 23 ∷ []) o₁ → Written o₁ (formula_under t path 0 i) o₂ → Written o₂ (pos 22 ∷ []) o₃
      → Written o₃ (formula_under t path 0 b) o₄ → Written o₄ (words_under t path 0 q) o₅
      → Written o (formula_words (exit (guard_at t k) (invariant_at t k) q)) o₅
  unfolding formula_words
  wrote_exit q eb ei w₁ w₂ w₃ w₄ w₅ =
      then (then w₁ (then (plain_formula t path (invariant_row t k) ei w₂) (then w₃ (plain_formula t path (guard_row t k) eb w₄)))) (plain t path q w₅)

  pub wrote_entered : {b i : ℕ} {o o₁ o₂ o₃ : Output ℤ} → b ≡ guard_row t k → i ≡ invariant_row t k
      → Written o (pos 23 ∷ []) o₁ → Written o₁ (formula_under t path 0 i) o₂ → Written o₂ (formula_under t path 0 b) o₃
      → Written o (formula_words (join And (invariant_at t k) (guard_at t k))) o₃
  unfolding formula_words
  wrote_entered eb ei w₁ w₂ w₃ = then w₁ (then (plain_formula t path (invariant_row t k) ei w₂) (plain_formula t path (guard_row t k) eb w₃))

  pub wrote_floor : {v : ℕ} {o o₁ o₂ o₃ o₄ o₅ : Output ℤ} → v ≡ variant_row t k
      → Written o (pos 25 ∷ []) o₁ → Written o₁ (formula_words (join And (invariant_at t k) (guard_at t k))) o₂
      → Written o₂ (pos 19 ∷ []) o₃ → Written o₃ (pos 1 ∷ pos 0 ∷ []) o₄ → Written o₄ (expr_under t path 0 v) o₅
      → Written o (formula_words (floor (guard_at t k) (invariant_at t k) (variant_at t k))) o₅
  unfolding formula_words expr_words
  wrote_floor ev w₁ w₂ w₃ w₄ w₅ = then w₁ (then w₂ (then w₃ (then w₄ (plain_expr t path (variant_row t k) ev w₅))))

  module _ {follow : List ℤ} (g : StepReady t k follow path) where
    body_last : next t follow (body_row t k) ≡ 2048
    body_last = g.followed.at k g.loops.inside (while_is t k g.loops)

    -- the body, read as s, is the last before its own end
    pub step_before : {s : ℕ} → s ≡ body_row t k → Before t follow path 0 k s
    step_before {s} e = rw e (record {
      course = alone t follow (body_row t k) g.loops.table g.followed (body_linked t k g.loops) body_last;
      divided = g.divided;
      ended = body g.loops;
      along = nothing_passed t path;
      long = g.long;
      noted = g.noted;
    })

    body_after : before_end t follow (body_row t k) k ≡ wp (body_at t k) (end_formula t k)
    body_after = after_alone t follow (body_row t k) (end_formula t k) g.loops.table g.followed (body_linked t k g.loops) body_last

    pub wrote_step : {s v : ℕ} {path' : List ℤ} {o o₁ o₂ o₃ o₄ o₅ o₆ : Output ℤ} → s ≡ body_row t k → v ≡ variant_row t k
        → Written o (pos 25 ∷ pos 23 ∷ []) o₁ → Written o₁ (formula_words (join And (invariant_at t k) (guard_at t k))) o₂
        → Written o₂ (pos 20 ∷ []) o₃ → Written o₃ (expr_under t path 0 v) o₄ → Written o₄ (pos 9 ∷ pos k ∷ []) o₅
        → Walked t path 0 (before_end t follow s k) o₅ o₆ path'
        → Written o (formula_words (step k (guard_at t k) (invariant_at t k) (variant_at t k) (body_at t k))) o₆
    unfolding formula_words expr_words
    wrote_step es ev w₁ w₂ w₃ w₄ w₅ w₆ =
        then (then w₁ (then w₂ (then w₃ (then (plain_expr t path (variant_row t k) ev w₄) w₅))))
        (written_as (ap (λ (f : Formula). formula_words (wp (body_at t k) f)) (end_decreased g.loops))
        (plain t path (wp (body_at t k) (end_formula t k)) (rw (es, body_after) at w₆.words)))

-- ---- what follows a loop

module _ (t : List ℤ) (k : ℕ) (follow : List ℤ) (end : ℕ) {path : List ℤ} (looped : Loop t k) (g : Before t follow path 0 end k) where
  pub in_scratch : rows t + k < length path
  in_scratch = let a = looped.inside in let c = g.long in omega linear

  module _ {s : ℕ} (read : s ≡ row_on (follow_in t path) k) where
    next_is : s ≡ next t follow k
    next_is = read ∙ ap (λ f. row_on f k) g.noted

    pub exit_before : Before t follow path 0 end s
    exit_before = record {
      course = rw next_is (on_from t follow g.course (not_end t looped.table looped.inside));
      divided = g.divided;
      ended = g.ended;
      along = g.along;
      long = g.long;
      noted = g.noted;
    }

    pub exit_walked : {o o' : Output ℤ} {path' : List ℤ} → Walked t path 0 (before_end t follow s end) o o' path'
        → Walked t path 0 (before_end t follow (next t follow k) end) o o' path'
    exit_walked w = rw next_is at w

-- ---- the main condition

module _ (t : List ℤ) (r : ℕ) (follow path : List ℤ) (g : MainReady t r follow path) where
  script_last : next t follow (statement_row t r) ≡ 2048
  script_last = g.followed.at r g.scripts.inside (script_is t r g.scripts)

  pub main_before : {s : ℕ} → s ≡ statement_row t r → Before t follow path 0 r s
  main_before e = rw e (record {
    course = alone t follow (statement_row t r) g.scripts.table g.followed (statement_linked t r g.scripts) script_last;
    divided = g.divided;
    ended = script g.scripts;
    along = nothing_passed t path;
    long = g.long;
    noted = g.noted;
  })

  script_after : before_end t follow (statement_row t r) r ≡ wp (stmt_at t (statement_row t r)) (end_formula t r)
  script_after =
      after_alone t follow (statement_row t r) (end_formula t r) g.scripts.table g.followed (statement_linked t r g.scripts) script_last

  pub wrote_main : {s f : ℕ} {path' : List ℤ} {o o₁ o₂ o₃ : Output ℤ} → s ≡ statement_row t r → f ≡ pre_row t r
      → Written o (pos 25 ∷ []) o₁ → Written o₁ (formula_under t path 0 f) o₂ → Walked t path 0 (before_end t follow s r) o₂ o₃ path'
      → Written o (formula_words (main_line t r).claim) o₃
  unfolding formula_words
  wrote_main es ef w₁ w₂ w₃ =
      then w₁ (then (plain_formula t path (pre_row t r) ef w₂)
      (plain t path (wp (stmt_at t (statement_row t r)) (end_formula t r)) (rw (es, script_after) at w₃.words)))
