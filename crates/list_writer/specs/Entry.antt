-- The last row of an accepted table is its script: what its parts are asked for, and that the lines of its statement, then
-- main, are those of the script's conditions. Assumes nothing.
use Rattle.std.specs.Prelude.{ℕ, ◌+◌, ◌-◌, ◌*◌, ◌≤◌, ◌<◌, ◌≡◌, List, [], ◌∷◌, ◌++◌, ℤ, length, take, drop}
use Rattle.std.proofs.Common.{ap, ◌∙◌, append-nil, arith as linear, length-append, length-drop, drop_of_length-le, length-take-le, drop_at}
use Rattle.script.specs.Conditions.{walk, conditions}
use Rattle.script.specs.Rows.{rows}
use Rattle.script.specs.Trees.{stmt_at, tree}
use Rattle.script.specs.Refusals.{verdict, accepted}
use Rattle.script.specs.Generated.{scratch_need}
use Rattle.theorems.specs.Accepted.{passed}
use Rattle.theorems.specs.RowTrees.{tree_is}
use Rattle.following.specs.Follow.{follow_in, Followed}
use Rattle.dividing.specs.Divided.{Divided}
use Rattle.following.specs.Course.{next, after_end}
use Rattle.following.specs.Kinds.{script_kind}
use Rattle.wp_writer.specs.Loops.{Script, statement_row, script_is, statement_linked}
use Rattle.wp_writer.specs.Ends.{end_formula, end_post}
use Rattle.wp_writer.specs.Same.{Same, same_refl}
use Rattle.line_writer.specs.declared.Lines.{Lines}
use Rattle.line_writer.specs.Listed.{Listed, InRoom, size, listed_then, listed_as, in_room_on}
use Rattle.line_writer.specs.Loops.{Lined, MainReady, main_line, main_before}
use Rattle.list_writer.specs.Walks.{Walking, walk_at}

-- ---- the run stands where it was lent

-- the scratch, with a run in the place of the words behind the path
abbrev pub with_run : List ℤ → List ℤ → List ℤ → List ℤ
with_run t scratch follow = take (rows t) scratch ++ (follow ++ drop (length scratch - rows t) (drop (rows t) scratch))

module _ (t scratch follow : List ℤ) (b : length scratch ≡ scratch_need t) where
  path_long : length (take (rows t) scratch) ≡ rows t
  path_long = length-take-le (rows t) scratch (omega linear)

  run_last : follow ++ drop (length scratch - rows t) (drop (rows t) scratch) ≡ follow
  run_last =
      ap (λ (l : List ℤ). follow ++ l) (drop_of_length-le (drop (rows t) scratch) {i = length scratch - rows t} (omega (linear, length-drop (rows t) scratch)))
      ∙ append-nil follow

  pub run_there : follow_in t (with_run t scratch follow) ≡ follow
  run_there = drop_at (take (rows t) scratch) _ (rows t) path_long ∙ run_last

  pub run_fits : length follow ≡ rows t → length (with_run t scratch follow) ≡ length scratch
  run_fits k =
      ap (λ (l : List ℤ). length (take (rows t) scratch ++ l)) run_last
      ∙ omega (linear, length-append (take (rows t) scratch) follow, path_long)

module _ (t : List ℤ) (ok : verdict t ≡ accepted) where
  abbrev last : ℕ
  last = rows t - 1

  pub filled : 1 ≤ rows t
  filled = (passed t ok).filled

  pub last_in_table : 4 * (rows t - 1) + 3 < length t
  last_in_table = let a = (passed t ok).filled in let b = (passed t ok).fours in omega linear

  script_here : Script t last
  script_here = record { table = passed t ok; inside = let a = filled in omega linear; script = script_kind t last (passed t ok).script }

  -- the scratch, with the run filled in
  module _ (path : List ℤ) (b : length path ≡ scratch_need t) (k : Followed t (follow_in t path)) (d : Divided t (follow_in t path)) where
    ready : {path' : List ℤ} → Same (rows t) 0 path path' → MainReady t last (follow_in t path) path'
    ready e = record { scripts = script_here; followed = k; divided = d; long = e.long ∙ b; noted = e.behind }

    module _ {s : ℕ} (part : s ≡ statement_row t last) {ls₀ : Lines} (h : size ls₀.out.now ≤ 16384) (none : ls₀.count ≤ ls₀.out.now.at) where
      pub first_walking : Walking t (follow_in t path) path last 0 s ls₀
      first_walking = record {
        before = main_before t last (follow_in t path) path (ready (same_refl (rows t) 0 path)) part;
        here = rw part (statement_linked t last script_here).0;
        shallow = let h = (statement_linked t last script_here).0 in let m = (passed t ok).short in omega linear;
        room = record { short = h; few = λ i. none };
      }

      module _ {path₁ : List ℤ} {ls₁ : Lines} (walked : Lined t path (walk_at t (follow_in t path) last 0 s) ls₀ ls₁ path₁) where
        after_statement : InRoom ls₁
        after_statement = in_room_on first_walking.room walked.lines

        pub main_ready : MainReady t last (follow_in t path₁) path₁ × InRoom ls₁
        main_ready = (rw (ready walked.kept).noted (ready walked.kept), after_statement)

        script_walk : walk_at t (follow_in t path) last 0 s ≡ walk 0 (stmt_at t (statement_row t last)) (end_formula t last)
        script_walk =
            let end = k.at last script_here.inside (script_is t last script_here) in
            ap (λ (r : ℕ). walk_at t (follow_in t path) last 0 r) part
            ∙ ap (walk 0 (stmt_at t (statement_row t last)))
            (after_end t (follow_in t path) (next t (follow_in t path) (statement_row t last)) (end_formula t last) end)

        module _ {path₂ : List ℤ} {ls₂ : Lines} (main : Lined t path₁ (main_line t last ∷ []) ls₁ ls₂ path₂) where
          pub count_ready : InRoom ls₂
          count_ready = in_room_on after_statement main.lines

          pub conditions_listed : Listed ls₀ (conditions (tree t)) ls₂
          unfolding conditions
          conditions_listed =
              let e = end_post t last script_here.script in
              listed_as (ap conditions (tree_is t (script_is t last script_here)))
              (listed_then (rw (script_walk, e) at walked.lines) (rw e at main.lines))

          pub as_long : length path₂ ≡ length path
          as_long = main.kept.long ∙ walked.kept.long
