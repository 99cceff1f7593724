-- The entry over two lists: the part that it hands back, as the code tells it (`Told`), and the list that it stands in (`chosen`).
-- Assumes nothing.
use Rattle.std.specs.Prelude.{ℕ, ◌-◌, ◌≤◌, ◌<◌, ◌≡◌, refl, Bool, true, false, cond, List, eqb, ltb, ℤ, length, Result, Ok, Err}
use Rattle.std.proofs.Common.{sym, ap, ◌∙◌, arith, eq-eqb, lt-ltb, le-ltb}
use Rattle.script.specs.declared.Line.{Line}
use Rattle.script.specs.Listing.{line_at, no_line}
use Rattle.shortening.specs.Shortened as Shortened
use Rattle.shortening.specs.Shortened.{Which, no_part, part, part_for, shorter}
use Rattle.list_reader.specs.declared.lines.Missing.{Missing}
use Rattle.list_reader.specs.declared.lines.Missing.TheVariants.{NoList, NoLine}
use Rattle.list_reader.specs.Lines.{refusal}
use Rattle.shortener.specs.declared.Part.{Part}
use Rattle.shortener.specs.declared.Side.{Side}
use Rattle.shortener.specs.declared.Side.TheVariants.{Old, New}

abbrev pub Ordered : Line → Type 0
Ordered l = l.start ≤ l.end

abbrev pub which_of : Side → Which
which_of Old = Shortened.old
which_of New = Shortened.new

-- it is the part p of one of the lists
pub record Stands (p : Shortened.Part) (r : Part) : Type 0 where
  pub number : 0 ≡ p.number
  pub which : which_of r.side ≡ p.which
  pub start : r.start ≡ p.start
  pub end : r.end ≡ p.end

-- an answer is the part p, or why p is none
abbrev pub Told : Shortened.Part → Result Part Missing → Type 0
Told p (Ok r) = Stands p r
Told p (Err m) = p ≡ no_part (refusal m)

-- the one of two that a part stands in
abbrev pub among : {A : Type 0} → Which → A → A → A
among Shortened.old a b = a
among Shortened.new a b = b

abbrev pub chosen : {A : Type 0} → Shortened.Part → A → A → A
chosen p a b = among p.which a b

stands_as : {p q : Shortened.Part} {r : Part} → p ≡ q → Stands q r → Stands p r
stands_as e t = rw e t

module _ (a b : Line) where
  pub new_shorter : a.number ≡ 0 → b.number ≡ 0 → b.end - b.start < a.end - a.start
      → Stands (part_for a b) (record { side = New; start = b.start; end = b.end })
  new_shorter e f h =
      stands_as {q = part Shortened.new b} (rw (eq-eqb a.number 0 e, eq-eqb b.number 0 f, lt-ltb (b.end - b.start) (a.end - a.start) h))
      (record { number = refl; which = refl; start = refl; end = refl })

  pub old_shorter : a.number ≡ 0 → b.number ≡ 0 → a.end - a.start ≤ b.end - b.start
      → Stands (part_for a b) (record { side = Old; start = a.start; end = a.end })
  old_shorter e f h =
      stands_as {q = part Shortened.old a} (rw (eq-eqb a.number 0 e, eq-eqb b.number 0 f, le-ltb (b.end - b.start) (a.end - a.start) h))
      (record { number = refl; which = refl; start = refl; end = refl })

-- ---- it stands within its list

pub record Within (us vs : List ℤ) (p : Shortened.Part) : Type 0 where
  pub ordered : p.start ≤ p.end
  pub inside : p.end ≤ length (chosen p us vs)

pub part_within : (us vs : List ℤ) (a b : Line) → Ordered a → a.end ≤ length us → Ordered b → b.end ≤ length vs → Within us vs (part_for a b)
part_within us vs a b oa ia ob ib = go (eqb a.number 0) (eqb b.number 0) (ltb (b.end - b.start) (a.end - a.start))
  where
    empty : (n : ℕ) → Within us vs (no_part n)
    empty n = record { ordered = omega arith; inside = omega arith }

    go : (x y z : Bool)
        → Within us vs (cond x (cond y (cond z (part Shortened.new b) (part Shortened.old a)) (no_part b.number)) (no_part a.number))
    go true true true = record { ordered = ob; inside = ib }
    go true true false = record { ordered = oa; inside = ia }
    go true false z = empty b.number
    go false y z = empty a.number

-- the list that it stands in
pub in_new_list : {p : Shortened.Part} {r : Part} → Stands p r → r.side ≡ New → p.which ≡ Shortened.new
in_new_list t e = sym t.which ∙ ap which_of e

pub in_old_list : {p : Shortened.Part} {r : Part} → Stands p r → r.side ≡ Old → p.which ≡ Shortened.old
in_old_list t e = sym t.which ∙ ap which_of e

-- from what was read of the two lists
module _ (us vs : List ℤ) (i : ℤ) where
  pub told_shorter : {a b : Line} {r : Part} → a ≡ line_at us i → b ≡ line_at vs i → Stands (part_for a b) r → Stands (shorter us vs i) r
  unfolding shorter
  told_shorter e f t = stands_as (sym (λ j. part_for (e j) (f j))) t

  pub old_refused : (m : Missing) → no_line (refusal m) ≡ line_at us i → Told (shorter us vs i) (Err m)
  unfolding shorter
  old_refused NoList e = rw (← e)
  old_refused NoLine e = rw (← e)

  pub new_refused : (m : Missing) → (line_at us i).number ≡ 0 → no_line (refusal m) ≡ line_at vs i → Told (shorter us vs i) (Err m)
  unfolding shorter
  new_refused NoList z e = rw (z, ← e)
  new_refused NoLine z e = rw (z, ← e)

pub shorter_within : (us vs : List ℤ) (i : ℤ) → Ordered (line_at us i) → (line_at us i).end ≤ length us → Ordered (line_at vs i)
    → (line_at vs i).end ≤ length vs → Within us vs (shorter us vs i)
unfolding shorter
shorter_within us vs i oa ia ob ib = part_within us vs (line_at us i) (line_at vs i) oa ia ob ib

-- the part of the list that it stands in
module _ {us vs : List ℤ} {p : Shortened.Part} {r : Part} (t : Stands p r) (w : Within us vs p) where
  pub new_bounds : r.side ≡ New → (r.start ≤ r.end) × (r.end ≤ length vs)
  new_bounds e =
      let n = ap (λ (k : Which). length (among k us vs)) (in_new_list t e) in
      (omega (arith, t.start, t.end, w.ordered), omega (arith, t.end, w.inside, n))

  pub old_bounds : r.side ≡ Old → (r.start ≤ r.end) × (r.end ≤ length us)
  old_bounds e =
      let n = ap (λ (k : Which). length (among k us vs)) (in_old_list t e) in
      (omega (arith, t.start, t.end, w.ordered), omega (arith, t.end, w.inside, n))
