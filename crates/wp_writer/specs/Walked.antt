-- What the writer of W asks and what it leaves, and what holds at each of its turns: whatever writes W from the statement at
-- hand on, writes W from the first on. Assumes nothing.
use Rattle.std.specs.Prelude.{ℕ, ◌≤◌, ◌<◌, ◌≡◌, List, ℤ, length}
use Rattle.std.proofs.Common.{arith as linear}
use Rattle.script.specs.Syntax.{Formula}
use Rattle.script.specs.Rows.{rows}
use Rattle.script.specs.Generated.{scratch_need}
use Rattle.output.specs.declared.Output.{Output}
use Rattle.output.specs.Written.{Written, no_room}
use Rattle.formula_writer.specs.Nodes.{OnPath}
use Rattle.following.specs.Follow.{follow_in}
use Rattle.following.specs.Course.{Course, after, left, after_end}
use Rattle.dividing.specs.Divided.{Divided}
use Rattle.wp_writer.specs.Ends.{end_formula, Ended, EndReady, words_under}
use Rattle.wp_writer.specs.Same.{Same, same_refl, same_trans, same_less}

-- ---- what is asked: a course from s on, after the j assignments of the path, before the formula at the end. `path` is the whole
-- scratch, which the path begins; `follow` is its second run

pub record Before (t follow path : List ℤ) (j end s : ℕ) : Type 0 where
  pub course : Course t follow s j
  pub divided : Divided t follow
  pub ended : Ended t end
  pub along : OnPath t path j
  pub long : length path ≡ scratch_need t
  pub noted : follow_in t path ≡ follow

-- the run in the scratch is meant
pub own_run : {t follow path : List ℤ} {j end s : ℕ} → Before t follow path j end s → Before t (follow_in t path) path j end s
own_run g = rw g.noted g

-- W of it
abbrev pub before_end : List ℤ → List ℤ → ℕ → ℕ → Formula
before_end t follow s end = after t follow s (end_formula t end)

-- ---- what is left: the words of f, the path as far as it is used, and `follow`

pub record Walked (t path : List ℤ) (j : ℕ) (f : Formula) (o o' : Output ℤ) (path' : List ℤ) : Type 0 where
  pub words : Written o (words_under t path j f) o'
  pub kept : Same (rows t) j path path'

module _ (t follow : List ℤ) (end : ℕ) where
  -- ---- a turn, from a statement to another that is nearer to the end

  pub record Step (s j : ℕ) (path : List ℤ) (o : Output ℤ) (s' j' : ℕ) (path' : List ℤ) (o' : Output ℤ) : Type 0 where
    pub before : Before t follow path' j' end s'
    pub longer : j ≤ j'
    pub kept : Same (rows t) j path path'
    pub falls : left t follow s' < left t follow s
    pub words : (o'' : Output ℤ) → Written o' (words_under t path' j' (before_end t follow s' end)) o''
        → Written o (words_under t path j (before_end t follow s end)) o''

  -- ---- some turns

  pub record Turned (s₀ j₀ : ℕ) (path₀ : List ℤ) (o₀ : Output ℤ) (s j : ℕ) (path : List ℤ) (o : Output ℤ) : Type 0 where
    pub before : Before t follow path j end s
    pub longer : j₀ ≤ j
    pub kept : Same (rows t) j₀ path₀ path
    pub falls : left t follow s ≤ left t follow s₀
    pub words : (o'' : Output ℤ) → Written o (words_under t path j (before_end t follow s end)) o''
        → Written o₀ (words_under t path₀ j₀ (before_end t follow s₀ end)) o''

  pub begun : {s j : ℕ} {path : List ℤ} {o : Output ℤ} → Before t follow path j end s → Turned s j path o s j path o
  begun {j = j} {path = path} b = record { before = b; longer = omega linear; kept = same_refl (rows t) j path; falls = omega linear; words = λ o'' w. w }

  pub turned : {s₀ j₀ s j s' j' : ℕ} {path₀ path path' : List ℤ} {o₀ o o' : Output ℤ} → Turned s₀ j₀ path₀ o₀ s j path o
      → Step s j path o s' j' path' o' → Turned s₀ j₀ path₀ o₀ s' j' path' o'
  turned g h =
      let a = g.longer in
      let b = h.longer in
      let c = g.falls in
      let d = h.falls in
      record {
        before = h.before;
        longer = omega linear;
        kept = same_trans g.kept (same_less a h.kept);
        falls = omega linear;
        words = λ o'' w. g.words o'' (h.words o'' w);
      }

  -- ---- the end

  module _ {s₀ j₀ s j : ℕ} {path₀ path : List ℤ} {o₀ o : Output ℤ} (g : Turned s₀ j₀ path₀ o₀ s j path o) where
    abbrev Done : Output ℤ → Type 0
    Done o' = Walked t path₀ j₀ (before_end t follow s₀ end) o₀ o' path

    pub written : {o' : Output ℤ} → Written o (words_under t path j (before_end t follow s end)) o' → Done o'
    written {o'} w = record { words = g.words o' w; kept = g.kept }

    pub written_full : length o.list.now < o.at → Done o
    written_full h = written (no_room (words_under t path j (before_end t follow s end)) h)

    pub end_ready : EndReady t path j end
    end_ready = record { table = g.before.course.table; along = g.before.along; ended = g.before.ended }

    pub written_end : {o' : Output ℤ} → s ≡ 2048 → Written o (words_under t path j (end_formula t end)) o' → Done o'
    written_end {o'} e w = written (rw (after_end t follow s (end_formula t end) e) w)
