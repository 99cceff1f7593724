-- What the writer asks and leaves (`Begins`, `WroteShort`), and what holds at each of its turns: whatever writes what is ahead writes the
-- whole of what it was to write (`Going`, `Turn`); at the beginning (`begin`) and at the end (`end_turn`). The turns between are in
-- `Arms` and `Moves`. Assumes nothing.
use Rattle.std.specs.Prelude.{ℕ, ◌+◌, ◌≤◌, ◌≡◌, refl, List, [], ◌∷◌, ℤ, length, get_or}
use Rattle.std.proofs.Common.{sym, append-nil, arith as linear}
use Rattle.script.specs.Syntax.{Formula}
use Rattle.script.specs.Words.{formula_words}
use Rattle.output.specs.declared.Output.{Output}
use Rattle.output.specs.Written.{Written, Left, nothing_written, written_as}
use Rattle.theorems.specs.WordsAt.{Stands, Node, formula, words_of, size}
use Rattle.shortening.specs.Simplify.{order, shortenᶠ}
use Rattle.shortener.specs.Tasks.{Task, write, task_words, Noted, Ahead, ahead_none}

-- ---- what the writer asks and leaves

-- the run has the ends of nodes, and room for all words
pub record Ended (ws : List ℤ) (es : List ℕ) : Type 0 where
  pub room : length ws ≤ length es
  pub end : (at : ℕ) (x : Node) → Stands ws at (words_of x) → get_or es at 0 ≡ at + size x

-- a formula stands from one place to another, and what becomes of its nodes is told
pub record Begins (ws : List ℤ) (first end : ℕ) (es ks : List ℕ) : Type 0 where
  pub claim : Formula
  pub stands : Stands ws first (formula_words claim)
  pub ends : first + length (formula_words claim) ≡ end
  pub ended : Ended ws es
  pub told : Noted ws ks first end
  pub room : length ws ≤ length ks

-- from a place on, two runs have the same
pub record SameFrom (end : ℕ) (ks₀ ks : List ℕ) : Type 0 where
  pub length : length ks ≡ length ks₀
  pub same : (at : ℕ) → end ≤ at → get_or ks at 0 ≡ get_or ks₀ at 0

-- whatever formula stands there was written, shortened; what becomes of the nodes after it is noted as before
pub record WroteShort (ws : List ℤ) (first end : ℕ) (ks₀ : List ℕ) (o : Output ℤ) (ks : List ℕ) (o' : Output ℤ) : Type 0 where
  pub wrote : (f : Formula) → Stands ws first (formula_words f) → first + length (formula_words f) ≡ end
      → Written o (formula_words (shortenᶠ order f)) o'
  pub same : SameFrom end ks₀ ks

-- ---- a turn

pub record Going (ws : List ℤ) (end at : ℕ) (ks : List ℕ) (o₀ : Output ℤ) (whole : List ℤ) (o : Output ℤ) : Type 0 where
  pub tasks : List Task
  pub ahead : Ahead ws ks end at tasks
  pub left : Left o₀ whole o (task_words tasks)

pub record Turn (ws : List ℤ) (first end : ℕ) (es ks₀ : List ℕ) (o₀ : Output ℤ) (at : ℕ) (ks : List ℕ) (o : Output ℤ) : Type 0 where
  pub begun : Begins ws first end es ks₀
  pub same : SameFrom end ks₀ ks
  pub list : length o.list.now ≡ length o₀.list.now
  pub going : (f : Formula) → Stands ws first (formula_words f) → first + length (formula_words f) ≡ end
      → Going ws end at ks o₀ (formula_words (shortenᶠ order f)) o

pub begin : {ws : List ℤ} {first end : ℕ} {es ks : List ℕ} {o : Output ℤ} → Begins ws first end es ks
    → Turn ws first end es ks o first ks o
begin b = record {
  begun = b;
  same = record { length = refl; same = λ at h. refl };
  list = refl;
  going = λ f s e. record {
    tasks = write (formula f) ∷ [];
    ahead = (s, (record { told = λ at x h i. b.told.told at x h (omega (linear, e)) }, e));
    left = λ o' w. written_as (append-nil (formula_words (shortenᶠ order f))) w;
  };
}

pub end_turn : {ws : List ℤ} {first end : ℕ} {es ks₀ ks : List ℕ} {o₀ o : Output ℤ} {at : ℕ}
    → Turn ws first end es ks₀ o₀ at ks o → end ≤ at → WroteShort ws first end ks₀ o₀ ks o
end_turn {ws} {first} {end} {es} {ks₀} {ks} {o₀} {o} {at} t h = record {
  wrote = λ f s e.
      let g = t.going f s e in
      g.left o (written_as (sym (ahead_none ws ks end at g.tasks g.ahead h)) (nothing_written o));
  same = t.same;
}
