-- The words of D of a row under a path (`divisor_words`), those that it puts before a formula (`conjunct_words`), and what their
-- writers ask (`DivisorReady`). Then what the callers use: D before a formula (`conjunct_and`), and with no assignment passed
-- (`divisor_words_first`). Assumes nothing.
use Rattle.std.specs.Prelude.{ℕ, ◌≤◌, ◌<◌, ◌≡◌, true, List, ◌++◌, ℤ, length}
use Rattle.std.proofs.Common.{sym, ap, ◌∙◌, append_assoc}
use Rattle.std.proofs.Math.Option.{Option}
use Rattle.script.specs.Syntax.{Expr, Formula}
use Rattle.script.specs.Conditions.{◌and◌}
use Rattle.script.specs.Words.{formula_words}
use Rattle.script.specs.Rows.{rows}
use Rattle.theorems.specs.Accepted.{Accepted}
use Rattle.theorems.specs.Unchanged.{stands}
use Rattle.theorems.specs.DivisorWords.{item_words, and_if_both, and_words}
use Rattle.formula_writer.specs.Paths.{replaceᵒ, under, none_passedᵒ}
use Rattle.formula_writer.specs.Nodes.{OnPath}
use Rattle.dividing.specs.Nodes.{Node, divisors_at}
use Rattle.dividing.specs.Divided.{Divided}

-- the words that an item puts before a formula: an and, and its own, where it stands
abbrev pub item_and : Option Formula → List ℤ
item_and x = and_if_both (stands x) true ++ item_words x

-- D of the node at row r, under the first j assignments of the path
abbrev pub divisors_under : List ℤ → List ℤ → ℕ → ℕ → Option Formula
divisors_under t path j r = replaceᵒ (under t path j) (divisors_at t r)

-- its words: none where it does not stand
abbrev pub divisor_words : List ℤ → List ℤ → ℕ → ℕ → List ℤ
divisor_words t path j r = item_words (divisors_under t path j r)

abbrev pub conjunct_words : List ℤ → List ℤ → ℕ → ℕ → List ℤ
conjunct_words t path j r = item_and (divisors_under t path j r)

pub record DivisorReady (t follow path : List ℤ) (j r : ℕ) : Type 0 where
  pub table : Accepted t
  pub along : OnPath t path j
  pub inside : r < rows t
  pub node : Node t r
  pub divided : Divided t follow
  pub long : rows t ≤ length follow

-- ---- for the callers

pub conjunct_and : (τ : ℕ → Expr) (x : Option Formula) (q : Formula)
    → formula_words (replaceᵒ τ x and q) ≡ item_and (replaceᵒ τ x) ++ formula_words q
conjunct_and τ x q =
    and_words (replaceᵒ τ x) q
    ∙ sym (append_assoc (and_if_both (stands (replaceᵒ τ x)) true) (item_words (replaceᵒ τ x)) (formula_words q))

pub divisor_words_first : (t path : List ℤ) (r : ℕ) → divisor_words t path 0 r ≡ item_words (divisors_at t r)
divisor_words_first t path r = ap item_words (none_passedᵒ t path (divisors_at t r))
