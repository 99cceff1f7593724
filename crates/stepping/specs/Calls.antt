-- 02, P11, a whole call (`called`, which `machine_run` and `machine_on` are): "1 to 10 come first, then 51, all lent words
-- unchanged"; a call that is not refused so is played (`calls`: `Call` has the three ways, `Played` what is said of a play). A
-- call begins with each row on its stack as a statement to begin (`frames_of`), `machine_run` with the script's (`start_frames`). Way
-- by way: `called_refused`, `called_short`, `called_plays`.
-- Argument: by the verdict and the test of the lent runs; a play is `Reached`. Assumes nothing.
use Rattle.std.specs.Prelude.{ℕ, ◌-◌, ◌≤◌, ◌≡◌, List, [], ◌∷◌, Bool, true, false, ◌||◌, T, ltb, ℤ, length}
use Rattle.std.proofs.Math.Path.{refl, ap}
use Rattle.std.proofs.Common.{sym, ◌∙◌, arith as linear, ltb-false}
use Rattle.std.proofs.Math.Bool.{cond}
use Rattle.script.specs.declared.Row.{Row}
use Rattle.script.specs.declared.Sort.TheVariants.{Script}
use Rattle.script.specs.Meaning.{State}
use Rattle.script.specs.Run.{Frame, begin, Config, at, start}
use Rattle.script.specs.Rows.{row, rows, sort_of, variables}
use Rattle.script.specs.Trees.{script_node, expr_at, formula_at, stmt_at, tree}
use Rattle.script.specs.Refusals.{Verdict, accepted, refused, verdict, same_sort}
use Rattle.theorems.specs.Accepted.{Accepted, passed}
use Rattle.theorems.specs.RowTrees.{tree_is}
use Rattle.stepping.specs.Machine.{Mode, mark_values, state_of, Stopped, play, Ran, statement_of, unchanged, shown, too_short, called}
use Rattle.stepping.specs.StepForStep.{Stands, nothing, begins}
use Rattle.stepping.specs.Reached.{Reached, reached}

-- ---- the start

-- every row on the stack is a statement to begin
abbrev pub frames_of : List ℤ → List ℕ → List Frame
frames_of t [] = []
frames_of t (r ∷ rs) = begin (stmt_at t r) ∷ frames_of t rs

pub stands_begun : (t : List ℤ) (rs : List ℕ) → Stands t rs (frames_of t rs)
stands_begun t [] = nothing
stands_begun t (r ∷ rs) = begins (stands_begun t rs)

-- "starts as the script's statement"
module _ (t : List ℤ) (ok : Accepted t) where
  body_node : (w : Row) → T (same_sort (sort_of w) Script)
      → (script_node (expr_at t) (formula_at t) (stmt_at t) (rows t - 1) w).body ≡ stmt_at t (statement_of w)
  body_node (Row.Script p s q) h = refl
  body_node (Row.Expression w) h = absurd h
  body_node (Row.Formula w) h = absurd h
  body_node (Row.Statement w) h = absurd h
  body_node (Row.Note i v) h = absurd h
  body_node Row.Unknown h = absurd h

  pub body_at : (tree t).body ≡ stmt_at t (statement_of (row t (rows t - 1)))
  body_at = ap (λ c. c.body) (tree_is t refl) ∙ body_node (row t (rows t - 1)) ok.script

  pub start_frames : (s : State) → at (frames_of t (statement_of (row t (rows t - 1)) ∷ [])) s ≡ start (tree t) s
  start_frames s = ap (λ b. at (begin b ∷ []) s) (sym body_at)

-- ---- a whole call

module _ (M : Mode) (t : List ℤ) (stack : List ℕ) (vars marks : List ℤ) (limit : ℕ) where
  module _ (need : ℕ) (begun : List ℕ) where
    abbrev pub played : Stopped
    played = play M t limit 0 begun vars marks

    abbrev pub begins_at : Config
    begins_at = at (frames_of t begun) (state_of vars marks)

    -- what is said of a call that was not refused
    pub record Played : Type 0 where
      pub table : verdict t ≡ accepted
      pub accepts : Accepted t
      pub room : need ≤ length stack
      pub vars_room : variables ≤ length vars
      pub marks_room : mark_values ≤ length marks
      pub reaches : Reached t M (frames_of t begun) (state_of vars marks) limit 0 played

    pub data Call : Ran → Type 0 where
      table_refused : {n r : ℕ} → verdict t ≡ refused n r → Call (unchanged M t stack vars marks limit n r)
      runs_short : verdict t ≡ accepted → too_short M t stack vars marks limit need ≡ true
          → Call (unchanged M t stack vars marks limit 51 0)
      plays : Played → Call (shown M t stack vars marks limit played)

    -- none of three tests refuses
    none_of : (a b c : Bool) → (a || (b || c)) ≡ false → (a ≡ false) × (b ≡ false) × (c ≡ false)
    none_of false false false e = (refl, refl, refl)
    none_of true b c e = absurd (let z : ◌≡◌ {A = ℕ} 0 1 = cc in omega linear)
    none_of false true c e = absurd (let z : ◌≡◌ {A = ℕ} 0 1 = cc in omega linear)
    none_of false false true e = absurd (let z : ◌≡◌ {A = ℕ} 0 1 = cc in omega linear)

    pub accepted_plays : verdict t ≡ accepted → too_short M t stack vars marks limit need ≡ false → Played
    accepted_plays h e =
        let ok = passed t h in
        let d = none_of (ltb (length stack) need) (ltb (length vars) variables) (ltb (length marks) mark_values) e in
        let a = ltb-false (length stack) need d.0 in
        let b = ltb-false (length vars) variables d.1 in
        let c = ltb-false (length marks) mark_values d.2 in
        record {
          table = h;
          accepts = ok;
          room = a;
          vars_room = b;
          marks_room = c;
          reaches = reached t M ok limit 0 begun vars marks (frames_of t begun) (state_of vars marks)
              (record { stands = stands_begun t begun; state = refl; vars_size = b; marks_size = c });
        }

    of_tests : verdict t ≡ accepted → (b : Bool) → too_short M t stack vars marks limit need ≡ b
        → Call (cond b (unchanged M t stack vars marks limit 51 0) (shown M t stack vars marks limit played))
    of_tests h true e = runs_short h e
    of_tests h false e = plays (accepted_plays h e)

    of_verdict : (v : Verdict) → verdict t ≡ v
        → Call (elim v [
          | refused n r ↦ unchanged M t stack vars marks limit n r
          | accepted ↦ cond (too_short M t stack vars marks limit need) (unchanged M t stack vars marks limit 51 0)
              (shown M t stack vars marks limit played)
        ])
    of_verdict accepted h = of_tests h (too_short M t stack vars marks limit need) refl
    of_verdict (refused n r) h = table_refused h

    pub calls : Call (called M t stack vars marks limit need begun)
    unfolding called
    calls = of_verdict (verdict t) refl

    -- ---- a call, way by way

    by_verdict : {v : Verdict} → verdict t ≡ v
        → called M t stack vars marks limit need begun
        ≡ elim v [
          | refused n r ↦ unchanged M t stack vars marks limit n r
          | accepted ↦ cond (too_short M t stack vars marks limit need) (unchanged M t stack vars marks limit 51 0)
              (shown M t stack vars marks limit played)
        ]
    unfolding called
    by_verdict h = ap (λ (v : Verdict). elim v [
      | refused n r ↦ unchanged M t stack vars marks limit n r
      | accepted ↦ cond (too_short M t stack vars marks limit need) (unchanged M t stack vars marks limit 51 0)
          (shown M t stack vars marks limit played)
    ]) h

    by_room : (b : Bool) → verdict t ≡ accepted → too_short M t stack vars marks limit need ≡ b
        → called M t stack vars marks limit need begun
        ≡ cond b (unchanged M t stack vars marks limit 51 0) (shown M t stack vars marks limit played)
    by_room b h e =
        by_verdict h
        ∙ ap (λ c. cond c (unchanged M t stack vars marks limit 51 0)
        (shown M t stack vars marks limit played)) e

    -- "1 to 10 come first, then 51, all lent words unchanged"
    pub called_refused : {n r : ℕ} → verdict t ≡ refused n r
        → called M t stack vars marks limit need begun ≡ unchanged M t stack vars marks limit n r
    called_refused h = by_verdict h

    pub called_short : verdict t ≡ accepted → too_short M t stack vars marks limit need ≡ true
        → called M t stack vars marks limit need begun ≡ unchanged M t stack vars marks limit 51 0
    called_short = by_room true

    pub called_plays : verdict t ≡ accepted → too_short M t stack vars marks limit need ≡ false
        → called M t stack vars marks limit need begun ≡ shown M t stack vars marks limit played
    called_plays = by_room false
