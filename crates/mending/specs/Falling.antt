-- Links that fall, what number 4 leaves; kinds that are known, what number 2 leaves. Assumes nothing.
use Rattle.std.specs.Prelude.{ℕ, suc, ◌≤◌, ◌<◌, ◌≡◌, refl, List, Bool, true, false, cond, ◌&&◌, ℤ, T, ltb, leb}
use Rattle.std.proofs.Common.{arith as linear, ltb→lt, leb-true, leb-false}
use Rattle.script.specs.declared.StatementRow.TheVariants.{Skip, Assign, Sequence, If, While, Assert}
use Rattle.script.specs.declared.Sort.TheVariants.{Unknown}
use Rattle.script.specs.declared.Row.{Row}
use Rattle.script.specs.Rows.{Part, parts, sort_of, rows, row}
use Rattle.script.specs.Refusals.{all_below}
use Rattle.theorems.specs.Truths.{both, pair}
use Rattle.theorems.specs.Links.{Link, here, there}
use Rattle.mending.specs.Reached.{outside}

-- a number up to another, or above it
pub by_order : {X : Type 0} (q j : ℕ) → (q ≤ j → X) → (suc j ≤ q → X) → X
by_order {X} q j f g = go (leb q j) refl
  where
    go : (b : Bool) → leb q j ≡ b → X
    go true e = f (leb-true q j e)
    go false e = g (leb-false q j e)

-- "A link is the number of a lower row."
abbrev pub Falls : List ℤ → Type 0
Falls t = (r : ℕ) → r < rows t → T (all_below t r (parts (row t r)))

-- every kind is listed
abbrev pub Known : List ℤ → Type 0
Known t = (r : ℕ) → r < rows t → sort_of (row t r) ≡ Unknown → ⊥

pub link_below : (t : List ℤ) (r : ℕ) {k i : ℕ} {ps : List Part} → T (all_below t r ps) → Link k i ps → k < r
link_below t r h (here {p = p} {ps = ps} e) =
    let l = ltb→lt p.at r (both (ltb p.at r) (all_below t r ps) h).0 in
    omega linear
link_below t r h (there {p = p} {ps = ps} l) = link_below t r (both (ltb p.at r) (all_below t r ps) h).1 l

-- the links of a row, with or without that of a loop to its body
pub outside_below : (t : List ℤ) (r : ℕ) (b : Bool) (w : Row) → T (all_below t r (parts w))
    → T (all_below t r (cond b (outside w) (parts w)))
unfolding outside
outside_below t r false w h = h
outside_below t r true (Row.Expression x) h = h
outside_below t r true (Row.Formula x) h = h
outside_below t r true (Row.Statement Skip) h = h
outside_below t r true (Row.Statement (Assign v e)) h = h
outside_below t r true (Row.Statement (Sequence a b)) h = h
outside_below t r true (Row.Statement (If b x y)) h = h
outside_below t r true (Row.Statement (While b n x)) h =
    let p = both (ltb b.0 r) (ltb n.0 r && (ltb x.0 r && true)) h in
    let q = both (ltb n.0 r) (ltb x.0 r && true) p.1 in
    pair (ltb b.0 r) (ltb n.0 r && true) p.0 (pair (ltb n.0 r) true q.0 tt)
outside_below t r true (Row.Statement (Assert f)) h = h
outside_below t r true (Row.Note i v) h = h
outside_below t r true (Row.Script p s q) h = h
outside_below t r true Row.Unknown h = h
