-- The guard condition of a loop (02, P5): none where its guard does not divide, else "I implies D(B)"; what its writer asks, and
-- what it lists in either case (`guard_listed`, `guard_unlisted`). Assumes nothing.
use Rattle.std.specs.Prelude.{ℕ, ◌≤◌, ◌<◌, ◌≡◌, Bool, true, false, List, [], ◌∷◌, T, ℤ, pos, length}
use Rattle.std.proofs.Common.{sym, ap, ◌∙◌, arith as linear}
use Rattle.std.proofs.lemmas.Bool.{false≢true}
use Rattle.std.proofs.Math.Option.{Option, none, some}
use Rattle.script.specs.declared.Sort.TheVariants as Sort
use Rattle.script.specs.declared.Rule.TheVariants.{Guard}
use Rattle.script.specs.declared.Connective.TheVariants.{Implies}
use Rattle.script.specs.Syntax.{Formula, join}
use Rattle.script.specs.Conditions.{Condition, divisorsᶠ, guard}
use Rattle.script.specs.Words.{formula_words}
use Rattle.script.specs.Rows.{row, rows, sort_of}
use Rattle.script.specs.Trees.{formula_at}
use Rattle.script.specs.Refusals.{same_sort}
use Rattle.theorems.specs.Unchanged.{stands}
use Rattle.theorems.specs.DivisorWords.{item_words}
use Rattle.output.specs.declared.Output.{Output}
use Rattle.output.specs.Written.{Written, then, written_as}
use Rattle.formula_writer.specs.Paths.{formula_under}
use Rattle.dividing.specs.Nodes.{formula_is_node, divisors_at, formula_divisors}
use Rattle.dividing.specs.Divided.{Divided, marked, marked_stands}
use Rattle.divisor_writer.specs.Words.{DivisorReady, divisor_words, divisor_words_first}
use Rattle.wp_writer.specs.Loops.{Loop, guard_row, invariant_row, guard_at, invariant_at, guard_linked}
use Rattle.line_writer.specs.declared.Lines.{Lines}
use Rattle.line_writer.specs.Listed.{Listed, on, listed_none}
use Rattle.line_writer.specs.Spelled.{Finished, line_finished}
use Rattle.line_writer.specs.Loops.{nothing_passed, plain_formula}

abbrev pub guard_lines : List ℤ → ℕ → ℕ → List Condition
guard_lines t depth k = guard k depth (invariant_at t k) (divisorsᶠ (guard_at t k))

pub record GuardReady (t : List ℤ) (k : ℕ) (follow : List ℤ) : Type 0 where
  pub loops : Loop t k
  pub divided : Divided t follow
  pub long : rows t ≤ length follow

guard_is : (k depth : ℕ) (i : Formula) (x : Option Formula) → stands x ≡ true
    → {ls ls' : Lines} {o₁ o₂ o₃ : Output ℤ}
    → Written ls.out.now (pos 25 ∷ []) o₁ → Written o₁ (formula_words i) o₂ → Written o₂ (item_words x) o₃
    → Finished ls.out.now.at Guard k depth (on ls o₃) ls' → Listed ls (guard k depth i x) ls'
unfolding formula_words
guard_is k depth i none h w₁ w₂ w₃ f = absurd (false≢true h)
guard_is k depth i (some d) h w₁ w₂ w₃ f = line_finished Guard k depth (join Implies i d) (then w₁ (then w₂ w₃)) f

guard_none : (k depth : ℕ) (i : Formula) (x : Option Formula) → stands x ≡ false → (ls : Lines) → Listed ls (guard k depth i x) ls
guard_none k depth i none h ls = listed_none ls
guard_none k depth i (some d) h ls = absurd (false≢true (sym h))

module _ (t : List ℤ) (k : ℕ) (follow : List ℤ) (g : GuardReady t k follow) {b : ℕ} (eb : b ≡ guard_row t k) where
  guard_sort : T (same_sort (sort_of (row t b)) Sort.Formula)
  guard_sort = rw eb (guard_linked t k g.loops).1

  guard_inside : b < rows t
  guard_inside = rw eb (guard_linked t k g.loops).0

  pub guard_below : b < length follow
  guard_below = let h = guard_inside in let e = g.long in omega linear

  pub guard_divisors : (path : List ℤ) → DivisorReady t follow path 0 b
  guard_divisors path = record {
    table = g.loops.table;
    along = nothing_passed t path;
    inside = guard_inside;
    node = formula_is_node t b guard_sort;
    divided = g.divided;
    long = g.long;
  }

  -- D of the guard, and whether it stands
  guard_D : divisors_at t b ≡ divisorsᶠ (guard_at t k)
  guard_D = formula_divisors t b guard_sort ∙ ap (λ (r : ℕ). divisorsᶠ (formula_at t r)) eb

  guard_stands : {d : Bool} → d ≡ marked follow b → stands (divisorsᶠ (guard_at t k)) ≡ d
  guard_stands e = ap stands (sym guard_D) ∙ (sym (marked_stands t follow b g.divided guard_inside (formula_is_node t b guard_sort)) ∙ sym e)

  module _ {d : Bool} (is : d ≡ marked follow b) where
    pub guard_listed : (path : List ℤ) {i depth : ℕ} {ls ls' : Lines} {o₁ o₂ o₃ : Output ℤ} → d ≡ true
        → i ≡ invariant_row t k
        → Written ls.out.now (pos 25 ∷ []) o₁ → Written o₁ (formula_under t path 0 i) o₂ → Written o₂ (divisor_words t path 0 b) o₃
        → Finished ls.out.now.at Guard k depth (on ls o₃) ls' → Listed ls (guard_lines t depth k) ls'
    guard_listed path {depth = depth} h ei w₁ w₂ w₃ f =
        guard_is k depth (invariant_at t k) (divisorsᶠ (guard_at t k)) (guard_stands is ∙ h) w₁
        (plain_formula t path (invariant_row t k) ei w₂)
        (written_as (divisor_words_first t path b ∙ ap item_words guard_D) w₃) f

    pub guard_unlisted : d ≡ false → (depth : ℕ) (ls : Lines) → Listed ls (guard_lines t depth k) ls
    guard_unlisted h depth ls = guard_none k depth (invariant_at t k) (divisorsᶠ (guard_at t k)) (guard_stands is ∙ h) ls
