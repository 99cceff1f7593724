-- What the walk asks, and what holds at each of its turns: whatever lists the conditions of the statement at hand lists those
-- of the first. A sequence's second part and a branch's then part are listed by a call, and the other part comes next.
-- Assumes nothing.
use Rattle.std.specs.Prelude.{ℕ, ◌+◌, ◌*◌, ◌≤◌, ◌<◌, ◌≡◌, List, [], ◌++◌, ℤ, length}
use Rattle.std.proofs.Math.Path.{refl}
use Rattle.std.proofs.Common.{ap, ◌∙◌, arith as linear}
use Rattle.script.specs.declared.RowNumber.{RowNumber}
use Rattle.script.specs.declared.StatementRow.TheVariants.{Sequence, If}
use Rattle.script.specs.declared.Row.{Row}
use Rattle.script.specs.Syntax.{Stmt, Formula}
use Rattle.script.specs.Conditions.{Condition, walk}
use Rattle.script.specs.Rows.{field_number, row, rows, word, parts}
use Rattle.script.specs.Trees.{stmt_node, expr_at, formula_at, stmt_at}
use Rattle.formula_writer.specs.Links.{Links}
use Rattle.following.specs.Follow.{follow_in}
use Rattle.following.specs.Course.{Course, next, stands}
use Rattle.following.specs.Kinds.{PastParts, leaf_row}
use Rattle.following.specs.Parts.{not_end, stmt_here, links_here, follows_here, second_course, first_course, after_first, after_second, then_course, else_course}
use Rattle.wp_writer.specs.Ends.{end_formula}
use Rattle.wp_writer.specs.Same.{Same, same_refl, same_trans}
use Rattle.wp_writer.specs.Walked.{Before, before_end, own_run}
use Rattle.line_writer.specs.declared.Lines.{Lines}
use Rattle.line_writer.specs.Listed.{Listed, InRoom, size, listed_then, listed_none, listed_full, listed_as, in_room_on}
use Rattle.line_writer.specs.Loops.{Lined, nothing_passed}

-- the statement at row s is at hand, in the bodies of so many loops, and these lines are listed
pub record Walking (t follow path : List ℤ) (end depth s : ℕ) (ls : Lines) : Type 0 where
  pub before : Before t follow path 0 end s
  pub here : s < rows t
  -- the body of a loop is in a lower row than the loop
  pub shallow : depth + s < 2048
  pub room : InRoom ls

-- what is to hold after it
abbrev pub rest_of : List ℤ → List ℤ → ℕ → ℕ → Formula
rest_of t follow end s = before_end t follow (next t follow s) end

-- its conditions
abbrev pub walk_at : List ℤ → List ℤ → ℕ → ℕ → ℕ → List Condition
walk_at t follow end depth s = walk depth (stmt_at t s) (rest_of t follow end s)

module _ (t follow : List ℤ) (end depth : ℕ) where
  -- ---- some turns

  pub record Turned (s₀ : ℕ) (path₀ : List ℤ) (ls₀ : Lines) (s : ℕ) (path : List ℤ) (ls : Lines) : Type 0 where
    pub walking : Walking t follow path end depth s ls
    pub kept : Same (rows t) 0 path₀ path
    pub lower : s ≤ s₀
    pub lines : (ls'' : Lines) → Listed ls (walk_at t follow end depth s) ls'' → Listed ls₀ (walk_at t follow end depth s₀) ls''

  pub begun : {s : ℕ} {path : List ℤ} {ls : Lines} → Walking t follow path end depth s ls → Turned s path ls s path ls
  begun {path = path} g = record { walking = g; kept = same_refl (rows t) 0 path; lower = omega linear; lines = λ ls'' w. w }

  module _ {s₀ : ℕ} {path₀ : List ℤ} {ls₀ : Lines} {s : ℕ} {path : List ℤ} {ls : Lines} (g : Turned s₀ path₀ ls₀ s path ls) where
    abbrev Done : Lines → List ℤ → Type 0
    Done ls' path' = Lined t path₀ (walk_at t follow end depth s₀) ls₀ ls' path'

    abbrev course : Course t follow s 0
    course = g.walking.before.course

    pub more : s ≡ 2048 → ⊥
    more = not_end t course.table g.walking.here

    pub in_table : 4 * s + 3 < length t
    in_table = let h = g.walking.here in let k = course.table.fours in omega linear

    -- the rest was listed
    pub listed : {ls' : Lines} {path' : List ℤ} → Lined t path (walk_at t follow end depth s) ls ls' path' → Done ls' path'
    listed {ls'} w = record { lines = g.lines ls' w.lines; kept = same_trans g.kept w.kept }

    pub listed_at_full : size ls.out.now < ls.out.now.at → Done ls path
    listed_at_full h = listed (record { lines = listed_full h; kept = same_refl (rows t) 0 path })

    -- ---- skip, an assignment, an assertion: nothing is listed

    abbrev nothing : Row → Type 0
    nothing w = walk depth (stmt_node (expr_at t) (formula_at t) (stmt_at t) (row t) s w) (rest_of t follow end s) ≡ []

    pub leaf_lined : {n : ℕ} → n ≡ field_number (word t s 0) → PastParts n → Done ls path
    unfolding walk
    leaf_lined read past =
        let none = leaf_row nothing refl (λ v e. refl) (λ f. refl) t s read (stands t follow more course).here.1 past in
        listed (record {
          lines = listed_as (ap (λ (x : Stmt). walk depth x (rest_of t follow end s)) (stmt_here t follow course more refl) ∙ none)
              (listed_none ls);
          kept = same_refl (rows t) 0 path;
        })

    -- ---- a part of the statement at hand

    part_before : {r : ℕ} {path' : List ℤ} → Course t follow r 0 → Same (rows t) 0 path path' → Before t follow path' 0 end r
    part_before {path' = path'} c e = record {
      course = c;
      divided = g.walking.before.divided;
      ended = g.walking.before.ended;
      along = nothing_passed t path';
      long = e.long ∙ g.walking.before.long;
      noted = e.behind ∙ g.walking.before.noted;
    }

    -- where it is listed by a call
    call : {r k : ℕ} → Course t follow r 0 → r < s → s₀ ≡ k → (r < k) × Walking t (follow_in t path) path end depth r ls
    call c h e =
        let a = g.lower in
        let b = g.walking.here in
        let d = g.walking.shallow in
        let before = own_run (part_before c (same_refl (rows t) 0 path)) in
        (omega linear, record { before = before; here = omega linear; shallow = omega linear; room = g.walking.room })

    -- what it listed
    called : (r : ℕ) {path₁ : List ℤ} {ls₁ : Lines} → Lined t path (walk_at t (follow_in t path) end depth r) ls ls₁ path₁
        → Lined t path (walk_at t follow end depth r) ls ls₁ path₁
    called r w = rw g.walking.before.noted at w

    -- where it comes next, once cs were listed
    module _ {r : ℕ} {cs : List Condition} {path₁ : List ℤ} {ls₁ : Lines} (c : Course t follow r 0) (h : r < s)
        (e : walk_at t follow end depth s ≡ cs ++ walk_at t follow end depth r) (w : Lined t path cs ls ls₁ path₁) where
      goes_on : Turned s₀ path₀ ls₀ r path₁ ls₁
      goes_on =
          let a = g.lower in
          let b = g.walking.here in
          let d = g.walking.shallow in
          let before = part_before c w.kept in
          let room = in_room_on g.walking.room w.lines in
          record {
            walking = record { before = before; here = omega linear; shallow = omega linear; room = room };
            kept = same_trans g.kept w.kept;
            lower = omega linear;
            lines = λ ls'' v. g.lines ls'' (listed_as e (listed_then w.lines v));
          }

    -- ---- a sequence

    module _ {a b : RowNumber} (e : row t s ≡ Row.Statement (Sequence a b)) where
      sequence_links : Links t s (parts (Row.Statement (Sequence a b)))
      sequence_links = links_here t follow course more e

      pub second_walking : {k : ℕ} → s₀ ≡ k → (b.0 < k) × Walking t (follow_in t path) path end depth b.0 ls
      second_walking m = call (second_course t follow course more e) sequence_links.1.0.0 m

      sequence_walk : walk_at t follow end depth s ≡ walk_at t follow end depth b.0 ++ walk_at t follow end depth a.0
      unfolding walk
      sequence_walk =
          let u = after_second t follow course more e (end_formula t end) in
          let v = after_first t follow course more e (end_formula t end) in
          rw (u, v) (ap (λ (x : Stmt). walk depth x (rest_of t follow end s)) (stmt_here t follow course more e))

      pub first_lower : a.0 < s
      first_lower = sequence_links.0.0

      pub first_turned : {path₁ : List ℤ} {ls₁ : Lines} → Lined t path (walk_at t (follow_in t path) end depth b.0) ls ls₁ path₁
          → Turned s₀ path₀ ls₀ a.0 path₁ ls₁
      first_turned w = goes_on (first_course t follow course more e) first_lower sequence_walk (called b.0 w)

    -- ---- a branch

    module _ {b x y : RowNumber} (e : row t s ≡ Row.Statement (If b x y)) where
      branch_links : Links t s (parts (Row.Statement (If b x y)))
      branch_links = links_here t follow course more e

      pub then_walking : {k : ℕ} → s₀ ≡ k → (x.0 < k) × Walking t (follow_in t path) path end depth x.0 ls
      then_walking m = call (then_course t follow course more e) branch_links.1.0.0 m

      branch_walk : walk_at t follow end depth s ≡ walk_at t follow end depth x.0 ++ walk_at t follow end depth y.0
      unfolding walk
      branch_walk =
          let u = (follows_here t follow course more e).0 in
          let v = (follows_here t follow course more e).1 in
          rw (u, v) (ap (λ (z : Stmt). walk depth z (rest_of t follow end s)) (stmt_here t follow course more e))

      pub else_lower : y.0 < s
      else_lower = branch_links.1.1.0.0

      pub else_turned : {path₁ : List ℤ} {ls₁ : Lines} → Lined t path (walk_at t (follow_in t path) end depth x.0) ls ls₁ path₁
          → Turned s₀ path₀ ls₀ y.0 path₁ ls₁
      else_turned w = goes_on (else_course t follow course more e) else_lower branch_walk (called x.0 w)
