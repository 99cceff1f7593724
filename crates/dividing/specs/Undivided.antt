-- The rows before the first div or mod: no D stands there (`undivided_row`), so the entries of nodes are 0; and what holds at each
-- turn of the pass over them (`Undivided`). Assumes nothing.
use Rattle.std.specs.Prelude.{ℕ, ◌+◌, ◌<◌, ◌≡◌, refl, false, List, ℤ, pos, set}
use Rattle.std.proofs.Common.{ap, ◌∙◌, ⊎_elim, arith as linear}
use Rattle.std.proofs.Math.Option.{none}
use Rattle.script.specs.declared.ExpressionRow.TheVariants.{Constant, Variable, Arithmetic, Negate, Mark, Choose}
use Rattle.script.specs.declared.FormulaRow.TheVariants.{True, False, Comparison, Not, Junction}
use Rattle.script.specs.declared.Row.{Row}
use Rattle.script.specs.Rows.{field_number, row, rows, parts, word}
use Rattle.script.specs.Trees.{expr_at, formula_at}
use Rattle.script.specs.Refusals.{verdict, accepted}
use Rattle.theorems.specs.Accepted.{Accepted, passed}
use Rattle.theorems.specs.Counting.{eq_or_lt}
use Rattle.theorems.specs.Kinds.{Fits}
use Rattle.theorems.specs.Unchanged.{stands}
use Rattle.formula_writer.specs.Links.{Links, links_of}
use Rattle.formula_writer.specs.Kinds.{fits_here}
use Rattle.following.specs.Follow.{Followed}
use Rattle.dividing.specs.Nodes.{Node, divisors_at, divisors_node, divisors_is}
use Rattle.dividing.specs.Divided.{nothing}
use Rattle.dividing.specs.Divisions.{division, divisor_of, operator_divisor}
use Rattle.dividing.specs.Filling.{Filled, begun, filled_past, filled_more}

-- no D stands below row n
abbrev pub NoneBelow : List ℤ → ℕ → Type 0
NoneBelow t n = (k : ℕ) → k < n → divisors_at t k ≡ none

-- ---- a row that is no div or mod, with none below it

module _ (t : List ℤ) (ok : Accepted t) (r n : ℕ) (h : r < rows t) (read : n ≡ field_number (word t r 0)) (plain : division n ≡ false)
    (below : NoneBelow t r) where
  none_here : (w : Row) → Links t r (parts w) → Fits (pos n) (word t r 1) w
      → divisors_node (expr_at t) (formula_at t) (divisors_at t) w ≡ none
  none_here (Row.Expression (Constant z)) l f = refl
  none_here (Row.Expression (Variable v)) l f = refl
  none_here (Row.Expression (Arithmetic o a b)) l f =
      rw (below a.0 l.0.0, below b.0 l.1.0.0)
      (operator_divisor o f (expr_at t b.0) ∙ ap (λ d. divisor_of d (expr_at t b.0)) plain)
  none_here (Row.Expression (Negate a)) l f = below a.0 l.0.0
  none_here (Row.Expression (Mark m)) l f = refl
  none_here (Row.Expression (Choose g a b)) l f = rw (below g.0 l.0.0, below a.0 l.1.0.0, below b.0 l.1.1.0.0) refl
  none_here (Row.Formula True) l f = refl
  none_here (Row.Formula False) l f = refl
  none_here (Row.Formula (Comparison o a b)) l f = rw (below a.0 l.0.0, below b.0 l.1.0.0) refl
  none_here (Row.Formula (Not g)) l f = below g.0 l.0.0
  none_here (Row.Formula (Junction o a b)) l f = rw (below a.0 l.0.0, below b.0 l.1.0.0) refl
  none_here (Row.Statement w) l f = refl
  none_here (Row.Note i v) l f = refl
  none_here (Row.Script p s q) l f = refl
  none_here Row.Unknown l f = refl

  pub undivided_row : divisors_at t r ≡ none
  undivided_row = divisors_is t ok r h refl ∙ none_here (row t r) (links_of t ok r h refl) (fits_here t r n read)

-- ---- the turns

pub record Undivided (t follow : List ℤ) (r : ℕ) : Type 0 where
  pub filled : Filled t follow r
  pub none_below : NoneBelow t r

module _ (t : List ℤ) (v : verdict t ≡ accepted) where
  pub begun_undivided : {follow : List ℤ} → Followed t follow → Undivided t follow 0
  begun_undivided f = record { filled = begun t v f; none_below = λ k h. absurd (no_row h) }
    where
      no_row : {k : ℕ} → k < 0 → ⊥
      no_row h = omega linear

  module _ {follow : List ℤ} {r : ℕ} (g : Undivided t follow r) {n : ℕ} (h : r < rows t) (read : n ≡ field_number (word t r 0))
      (plain : division n ≡ false) where
    none_to : NoneBelow t (r + 1)
    none_to k i =
        ⊎_elim (λ (e : k ≡ r). rw e (undivided_row t (passed t v) r n h read plain g.none_below))
        (λ (d : k < r). g.none_below k d) (eq_or_lt k r (omega linear))

    pub past_row : (Node t r → ⊥) → Undivided t follow (r + 1)
    past_row e = record { filled = filled_past t v g.filled h e; none_below = none_to }

    pub past_node : Node t r → Undivided t (set follow r (pos 0)) (r + 1)
    past_node node = record {
      filled = filled_more t v g.filled h node (nothing refl (ap stands (none_to r (omega linear)))) refl;
      none_below = none_to;
    }
