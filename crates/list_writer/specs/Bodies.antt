-- The conditions of a loop: guard where its guard divides, exit, floor, those of its body, one loop deeper, and step. Assumes nothing.
use Rattle.std.specs.Prelude.{ℕ, suc, ◌+◌, ◌<◌, ◌≡◌, List, [], ◌∷◌, ◌++◌, ℤ}
use Rattle.std.proofs.Common.{sym, ◌∙◌, add-one, arith as linear}
use Rattle.std.proofs.Math.Path.{ap}
use Rattle.script.specs.Syntax.{Stmt}
use Rattle.script.specs.Conditions.{decreased, walk}
use Rattle.script.specs.Rows.{field_number, rows, word}
use Rattle.following.specs.Follow.{follow_in}
use Rattle.following.specs.Course.{next, after_end}
use Rattle.wp_writer.specs.Loops.{Loop, body_row, invariant_at, variant_at, body_at, while_is, body_below, loop_is}
use Rattle.wp_writer.specs.Ends.{end_formula, end_decreased}
use Rattle.wp_writer.specs.Same.{Same, same_trans}
use Rattle.wp_writer.specs.Walked.{Before, own_run}
use Rattle.line_writer.specs.declared.Lines.{Lines}
use Rattle.line_writer.specs.Listed.{Listed, InRoom, listed_then, listed_as, in_room_on}
use Rattle.line_writer.specs.Guards.{GuardReady, guard_lines}
use Rattle.line_writer.specs.Loops.{Lined, StepReady, exit_line, floor_line, step_line, step_before}
use Rattle.list_writer.specs.Walks.{Walking, Turned, walk_at, rest_of, listed}

module _ (t follow : List ℤ) (end depth : ℕ) {s₀ : ℕ} {path₀ : List ℤ} {ls₀ : Lines} {s : ℕ} {path : List ℤ} {ls : Lines}
    (g : Turned t follow end depth s₀ path₀ ls₀ s path ls) {n : ℕ} (read : n ≡ field_number (word t s 0)) (kind : n ≡ 36) where
  pub loop_here : Loop t s
  loop_here = record { table = g.walking.before.course.table; inside = g.walking.here; while = sym read ∙ kind }

  not_deep : depth < 2048
  not_deep = let d = g.walking.shallow in omega linear

  pub guard_ready : GuardReady t s (follow_in t path) × InRoom ls × (depth < 2048)
  guard_ready =
      let before = own_run g.walking.before in
      let e = before.course.followed.long in
      (record { loops = loop_here; divided = before.divided; long = omega linear }, g.walking.room, not_deep)

  module _ {ls₁ : Lines} (guarded : Listed ls (guard_lines t depth s) ls₁) where
    after_guard : InRoom ls₁
    after_guard = in_room_on g.walking.room guarded

    pub exit_ready : Loop t s × Before t (follow_in t path) path 0 end s × InRoom ls₁ × (depth < 2048)
    exit_ready = (loop_here, own_run g.walking.before, after_guard, not_deep)

    module _ {path₂ : List ℤ} {ls₂ : Lines} (exited : Lined t path (exit_line t (follow_in t path) end depth s ∷ []) ls₁ ls₂ path₂) where
      after_exit : InRoom ls₂
      after_exit = in_room_on after_guard exited.lines

      pub floor_ready : Loop t s × InRoom ls₂ × (depth < 2048)
      floor_ready = (loop_here, after_exit, not_deep)

      module _ {ls₃ : Lines} (floored : Listed ls₂ (floor_line t depth s ∷ []) ls₃) where
        -- the scratch is as long as before, and has the same run
        ready : {path' : List ℤ} → Same (rows t) 0 path path' → StepReady t s follow path'
        ready e = record {
          loops = loop_here;
          followed = g.walking.before.course.followed;
          divided = g.walking.before.divided;
          long = e.long ∙ g.walking.before.long;
          noted = e.behind ∙ g.walking.before.noted;
        }

        after_floor : InRoom ls₃
        after_floor = in_room_on after_exit floored

        module _ {x : ℕ} (part : x ≡ body_row t s) where
          pub body_walking : {k : ℕ} → s₀ ≡ k → (x < k) × Walking t (follow_in t path₂) path₂ s (depth + 1) x ls₃
          body_walking e =
              let a = g.lower in
              let h = g.walking.here in
              let d = g.walking.shallow in
              let b = (body_below t s loop_here).0 in
              let before = own_run (step_before t s path₂ (ready exited.kept) part) in
              (omega linear, record { before = before; here = omega linear; shallow = omega linear; room = after_floor })

          module _ {path₄ : List ℤ} {ls₄ : Lines}
              (walked : Lined t path₂ (walk_at t (follow_in t path₂) s (depth + 1) x) ls₃ ls₄ path₄) where
            still : Same (rows t) 0 path path₄
            still = same_trans exited.kept walked.kept

            pub step_ready : StepReady t s (follow_in t path₄) path₄ × InRoom ls₄ × (depth < 2048)
            step_ready = (rw (ready still).noted (ready still), in_room_on after_floor walked.lines, not_deep)

            body_walk : walk_at t follow s (depth + 1) x ≡ walk (suc depth) (body_at t s) (decreased s (invariant_at t s) (variant_at t s))
            body_walk =
                let last = g.walking.before.course.followed.at s g.walking.here (while_is t s loop_here) in
                ap (λ (d : ℕ). walk_at t follow s d x) (add-one depth)
                ∙ (ap (λ (r : ℕ). walk_at t follow s (suc depth) r) part
                ∙ (ap (walk (suc depth) (body_at t s)) (after_end t follow (next t follow (body_row t s)) (end_formula t s) last)
                ∙ ap (walk (suc depth) (body_at t s)) (end_decreased loop_here)))

            loop_walk : walk_at t follow end depth s
                ≡ guard_lines t depth s
                ++ ((exit_line t follow end depth s ∷ [])
                ++ ((floor_line t depth s ∷ [])
                ++ (walk (suc depth) (body_at t s) (decreased s (invariant_at t s) (variant_at t s)) ++ (step_line t depth s ∷ []))))
            unfolding walk
            loop_walk = ap (λ (y : Stmt). walk depth y (rest_of t follow end s)) (loop_is t s loop_here)

            pub loop_lined : {path₅ : List ℤ} {ls₅ : Lines} → Lined t path₄ (step_line t depth s ∷ []) ls₄ ls₅ path₅
                → Lined t path₀ (walk_at t follow end depth s₀) ls₀ ls₅ path₅
            loop_lined stepped = listed t follow end depth g (record {
              lines = listed_as loop_walk
                  (listed_then guarded
                  (listed_then (rw g.walking.before.noted at exited.lines)
                  (listed_then floored (listed_then (rw ((ready exited.kept).noted, body_walk) at walked.lines) stepped.lines))));
              kept = same_trans still stepped.kept;
            })
