-- The rows that a row links to are lower and of their sorts (`links_of`). Assumes nothing.
use Rattle.std.specs.Prelude.{ℕ, ◌<◌, ◌≡◌, List, [], ◌∷◌, T, ltb, ℤ}
use Rattle.std.proofs.Common.{ltb→lt}
use Rattle.script.specs.declared.Row.{Row}
use Rattle.script.specs.declared.Sort.{Sort}
use Rattle.script.specs.Rows.{row, rows, Part, parts, sort_of}
use Rattle.script.specs.Refusals.{all_below, well_sorted, same_sort}
use Rattle.theorems.specs.Accepted.{Accepted, both}

abbrev pub Linked : List ℤ → ℕ → ℕ → Sort → Type 0
Linked t r a s = (a < r) × T (same_sort (sort_of (row t a)) s)

abbrev pub Links : List ℤ → ℕ → List Part → Type 0
Links t r [] = Unit {0}
Links t r (p ∷ ps) = Linked t r p.at p.sort × Links t r ps

links_by : (t : List ℤ) (r : ℕ) (ps : List Part) → T (all_below t r ps) → T (well_sorted t ps) → Links t r ps
links_by t r [] l s = tt
links_by t r (p ∷ ps) l s =
    let a = both (ltb p.at r) (all_below t r ps) l in
    let b = both (same_sort (sort_of (row t p.at)) p.sort) (well_sorted t ps) s in
    ((ltb→lt p.at r a.0, b.0), links_by t r ps a.1 b.1)

pub links_of : (t : List ℤ) → Accepted t → (r : ℕ) {w : Row} → r < rows t → row t r ≡ w → Links t r (parts w)
links_of t ok r {w} h e = links_by t r (parts w) (rw e at (ok.ordered r h)) (rw e at (ok.sorted r h))
