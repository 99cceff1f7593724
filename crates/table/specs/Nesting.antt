-- The nesting of each row from those of the rows below it, by the number of its kind: `Nested`, with a lemma for each kind that
-- has one. Argument: at every bound above the row, a node's nesting is made of those of its links. Assumes nothing.
use Prim.Native.Nat.{ℕ, zero, suc, ◌+◌, ◌-◌, ◌≤◌, ◌<◌, max}
use Rattle.std.specs.Prelude.{◌≡◌, ◌≢◌, true, ◌&&◌, List, ℤ, length, get_or, set}
use Rattle.std.proofs.Math.Path.{refl}
use Rattle.std.proofs.Common.{sym, ap, ◌∙◌, arith as linear, add-one, ne_eqb, Fits, length-set, get_or-set_same, get_or-set_other}
use Rattle.std.proofs.Math.Decide.{ℕ_discrete}
use Rattle.std.proofs.Math.Dec.{T, eqb→eq}
use Rattle.std.specs.Int.{w16, w64}
use Rattle.script.specs.declared.RowNumber.{RowNumber}
use Rattle.script.specs.declared.StatementRow.TheVariants.{Skip, Assign, Sequence, If, While, Assert}
use Rattle.script.specs.declared.Row.{Row}
use Rattle.script.specs.declared.Sort.TheVariants.{Formula, Statement, Note, Script}
use Rattle.script.specs.Laws.{row_is}
use Rattle.script.specs.Syntax.{Expr, Formula as Test, Stmt}
use Rattle.script.specs.Rows.{field_number, parts, row, row_no, row_of, rows, sort_of, word}
use Rattle.script.specs.Trees.{expr, formula, loop_node, stmt_node, stmt, stmt_at, nesting, tree}
use Rattle.script.specs.Refusals.{accepted, all_below, well_sorted, same_sort, script_test}
use Rattle.theorems.specs.Accepted.{both, pass_true}
use Rattle.theorems.specs.RowTrees.{lower₂, lower₃}
use Rattle.table.specs.Kinds.{kind_nesting, row_nesting, nesting_at, script_at}
use Rattle.table.specs.Misread.{Sound}

loop_nesting : (E : ℕ → Expr) (F : ℕ → Test) (r : ℕ) (b : Test) (w : Row) (x : Stmt) → T (same_sort (sort_of w) Note)
    → nesting (loop_node E F r b w x) ≡ suc (nesting x)
unfolding nesting
loop_nesting E F r b (Row.Note i v) x h = refl
loop_nesting E F r b (Row.Expression w) x h = absurd h
loop_nesting E F r b (Row.Formula w) x h = absurd h
loop_nesting E F r b (Row.Statement w) x h = absurd h
loop_nesting E F r b (Row.Script p s q) x h = absurd h
loop_nesting E F r b Row.Unknown x h = absurd h

module _ (t : List ℤ) (E : ℕ → Expr) (F : ℕ → Test) (S : ℕ → Stmt) (r : ℕ) where
  node_nesting : (w : Row) → T (well_sorted t (parts w))
      → nesting (stmt_node E F S (row t) r w) ≡ row_nesting (λ k. nesting (S k)) w
  unfolding nesting
  node_nesting (Row.Expression x) h = refl
  node_nesting (Row.Formula x) h = refl
  node_nesting (Row.Statement Skip) h = refl
  node_nesting (Row.Statement (Assign v e)) h = refl
  node_nesting (Row.Statement (Sequence a b)) h = refl
  node_nesting (Row.Statement (If b x y)) h = refl
  node_nesting (Row.Statement (While b i x)) h = loop_nesting E F r (F b.0) (row t i.0) (S x.0) (note b i x h)
    where
      note : (b i x : RowNumber) → T (well_sorted t (parts (Row.Statement (While b i x)))) → T (same_sort (sort_of (row t i.0)) Note)
      note b i x h =
          let a = both (same_sort (sort_of (row t b.0)) Formula) (same_sort (sort_of (row t i.0)) Note && (same_sort (sort_of (row t x.0)) Statement && true)) h in
          (both (same_sort (sort_of (row t i.0)) Note) (same_sort (sort_of (row t x.0)) Statement && true) a.1).0
  node_nesting (Row.Statement (Assert f)) h = refl
  node_nesting (Row.Note i v) h = refl
  node_nesting (Row.Script p s q) h = refl
  node_nesting Row.Unknown h = refl

-- ---- the nesting of row r, and of each row below r in an array

pub record Nested (t : List ℤ) (r d : ℕ) : Type 0 where
  pub at : (n : ℕ) → r < n → d ≡ nesting (stmt t n r)
  pub small : d ≤ r

pub record Nestings (t : List ℤ) (r : ℕ) (s : List ℕ) : Type 0 where
  pub long : length s ≡ 2048
  pub at : (k : ℕ) → k < r → Nested t k (get_or s k 0)

pub nestings_none : {t : List ℤ} {s : List ℕ} → length s ≡ 2048 → Nestings t 0 s
nestings_none h = record { long = h; at = λ k l. absurd (omega linear) }

pub nestings_more : {t : List ℤ} {r d : ℕ} {s : List ℕ} → r < 2048 → Nestings t r s → Nested t r d → Nestings t (r + 1) (set s r d)
nestings_more {t} {r} {d} {s} b ns e = record { long = length-set s r d ∙ ns.long; at = λ k l. go k l (ℕ_discrete k r) }
  where
    go : (k : ℕ) → k < r + 1 → Dec (k ≡ r) → Nested t k (get_or (set s r d) k 0)
    go k l (yes z) = rw (z, get_or-set_same s r d 0 (omega (linear, ns.long))) e
    go k l (no z) = rw (get_or-set_other s r k d 0 z) (ns.at k (omega linear))

-- ---- row r by its kind n and the numbers a, b and c in its fields

pub record Of (t : List ℤ) (r : ℕ) (ds : List ℕ) (n a b c : ℕ) : Type 0 where
  pub sound : Sound t
  pub inside : r < rows t
  pub nested : Nestings t r ds
  pub kind : n ≡ field_number (word t r 0)
  pub first : a ≡ field_number (word t r 1)
  pub second : b ≡ field_number (word t r 2)
  pub third : c ≡ field_number (word t r 3)

pub of_row : {t : List ℤ} {r : ℕ} {ds : List ℕ} {a b c : ℕ} → Sound t × ((r < rows t) × Nestings t r ds) → a ≡ field_number (word t r 1)
    → b ≡ field_number (word t r 2) → c ≡ field_number (word t r 3) → Of t r ds (field_number (word t r 0)) a b c
of_row h ea eb ec =
    record { sound = h.0; inside = h.1.0; nested = h.1.1; kind = refl; first = ea; second = eb; third = ec }

module _ {t : List ℤ} {r : ℕ} {ds : List ℕ} {n a b c : ℕ} (f : Of t r ds n a b c) where
  lower : T (all_below t r (parts (row_of n (word t r 1) (word t r 2) (word t r 3))))
  lower = rw (f.kind, row_is t r) (f.sound.ordered r f.inside)

  sequence_lower : n ≡ 34 → (a < r) × (b < r)
  unfolding row_of
  sequence_lower e = rw (f.first, f.second) (lower₂ (field_number (word t r 1)) (field_number (word t r 2)) r (rw e at lower))

  if_lower : n ≡ 35 → (b < r) × (c < r)
  unfolding row_of
  if_lower e =
      rw (f.second, f.third)
      (lower₃ (field_number (word t r 1)) (field_number (word t r 2)) (field_number (word t r 3)) r (rw e at lower)).1

  while_lower : n ≡ 36 → c < r
  unfolding row_of
  while_lower e =
      rw f.third (lower₃ (field_number (word t r 1)) (field_number (word t r 2)) (field_number (word t r 3)) r (rw e at lower)).1.1

  in_array : {k : ℕ} → k < r → k < 2048
  in_array h = let i = f.inside in let j = f.sound.size.short in omega linear

  pub sequence_in : n ≡ 34 → (a < 2048) × (b < 2048)
  sequence_in e = (in_array (sequence_lower e).0, in_array (sequence_lower e).1)

  pub if_in : n ≡ 35 → (b < 2048) × (c < 2048)
  if_in e = (in_array (if_lower e).0, in_array (if_lower e).1)

  pub while_in : n ≡ 36 → c < 2048
  while_in e = in_array (while_lower e)

  by_node : {d : ℕ} → d ≤ r → ((m : ℕ) → r ≤ m → d ≡ kind_nesting (λ k. nesting (stmt t m k)) n a b c) → Nested t r d
  unfolding stmt
  by_node low h = record { at = go h; small = low }
    where
      go : {d : ℕ} → ((m : ℕ) → r ≤ m → d ≡ kind_nesting (λ k. nesting (stmt t m k)) n a b c) → (m : ℕ) → r < m → d ≡ nesting (stmt t m r)
      go h zero l = absurd (omega linear)
      go h (suc m) l =
          rw (
            node_nesting t (expr t m) (formula t m) (stmt t m) r (row t r) (f.sound.sorted r f.inside),
            nesting_at t (λ k. nesting (stmt t m k)) r,
            ← f.kind,
            ← f.first,
            ← f.second,
            ← f.third,
          )
          (h m (omega linear))

  -- the nesting x of a lower row k
  of_lower : {k x : ℕ} → k < r → x ≡ get_or ds k 0 → Nested t k x
  of_lower {k} h e = rw e (f.nested.at k h)

  pub nothing_nested : n ≢ 34 → n ≢ 35 → n ≢ 36 → Nested t r 0
  nothing_nested x y z = by_node (omega linear) (λ m l. rw (ne_eqb n 34 x, ne_eqb n 35 y, ne_eqb n 36 z))

  module _ {d x y : ℕ} where
    pub sequence_nested : n ≡ 34 → x ≡ get_or ds a 0 → y ≡ get_or ds b 0 → d ≡ max x y → Nested t r d
    sequence_nested e ex ey m =
        let h = sequence_lower e in
        let u = of_lower h.0 ex in
        let v = of_lower h.1 ey in
        let i = u.small in
        let j = v.small in
        by_node (omega linear) (λ k l. rw (e, ← u.at k (omega linear), ← v.at k (omega linear)) m)

    if_less : n ≡ 35 → x ≡ get_or ds b 0 → y ≡ get_or ds c 0 → d ≡ max x y → d < r
    if_less e ex ey m =
        let h = if_lower e in
        let i = (of_lower h.0 ex).small in
        let j = (of_lower h.1 ey).small in
        omega linear

    pub if_nested : n ≡ 35 → x ≡ get_or ds b 0 → y ≡ get_or ds c 0 → d ≡ max x y → Nested t r (d + 1)
    if_nested e ex ey m =
        let h = if_lower e in
        let u = of_lower h.0 ex in
        let v = of_lower h.1 ey in
        let i = if_less e ex ey m in
        by_node (omega linear) (λ k l. rw (e, ← u.at k (omega linear), ← v.at k (omega linear), add-one d) (ap suc m))

    pub if_fits : n ≡ 35 → x ≡ get_or ds b 0 → y ≡ get_or ds c 0 → d ≡ max x y → Fits w16 (d + 1)
    if_fits e ex ey m = let i = in_array (if_less e ex ey m) in record { fits = omega linear }

  pub while_nested : {x : ℕ} → n ≡ 36 → x ≡ get_or ds c 0 → Nested t r (x + 1)
  while_nested {x} e ex =
      let h = while_lower e in
      let u = of_lower h ex in
      let i = u.small in
      by_node (omega linear) (λ k l. rw (e, ← u.at k (omega linear), add-one x))

  pub while_fits : {x : ℕ} → n ≡ 36 → x ≡ get_or ds c 0 → Fits w16 (x + 1)
  while_fits e ex =
      let h = while_lower e in
      let i = (of_lower h ex).small in
      let j = in_array h in
      record { fits = omega linear }

-- ---- the script's statement, in row b

module _ {t : List ℤ} {b : ℕ} (z : Sound t) (ok : script_test t ≡ accepted) (eb : b ≡ field_number (word t (rows t - 1) 2)) where
  script_row : row t (rows t - 1) ≡ Row.Script (row_no (word t (rows t - 1) 1)) (row_no (word t (rows t - 1) 2)) (row_no (word t (rows t - 1) 3))
  unfolding script_test row_of
  script_row =
      let h = pass_true (same_sort (sort_of (row t (rows t - 1))) Script) 7 (rows t - 1) ok in
      let e : field_number (word t (rows t - 1) 0) ≡ 48 = eqb→eq (field_number (word t (rows t - 1) 0)) 48 (rw (script_at t (rows t - 1)) at h) in
      rw e at (sym (row_is t (rows t - 1)))

  pub body_lower : b < rows t - 1
  body_lower =
      let a = z.size.filled in
      let l = rw script_row at (z.ordered (rows t - 1) (omega linear)) in
      rw eb
      (lower₃ (field_number (word t (rows t - 1) 1)) (field_number (word t (rows t - 1) 2)) (field_number (word t (rows t - 1) 3)) (rows t - 1) l).1.0

  -- ds is the array once all rows below i are in it
  pub script_nesting_of : {d i : ℕ} {ds : List ℕ} → Nestings t i ds → rows t ≤ i → d ≡ get_or ds b 0 → d ≡ nesting (tree t).body
  unfolding tree stmt_at
  script_nesting_of ns h e =
      let l = body_lower in
      rw (script_row, ← eb) (e ∙ (ns.at b (omega linear)).at (rows t) (omega linear))

  pub body_in : b < 2048
  body_in = let l = body_lower in let a = z.size.short in omega linear

  pub body_fits : {d i : ℕ} {ds : List ℕ} → Nestings t i ds → rows t ≤ i → d ≡ get_or ds b 0 → Fits w64 d
  body_fits ns h e =
      let l = body_lower in
      let j = body_in in
      let k = (ns.at b (omega linear)).small in
      record { fits = omega linear }
