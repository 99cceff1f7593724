-- The entry of a node, from those of its parts: what is asked for a row (`RowReady`), and a law for each kind of node: a leaf has
-- 0, a source its own row (`choice_first`, `choice_second`, `pair_division`, `pair_both`), and a node that has no D but a
-- part's has the entry of that part. Assumes nothing.
use Rattle.std.specs.Prelude.{ℕ, ◌+◌, ◌≤◌, ◌<◌, ◌≡◌, refl, Bool, true, false, ◌||◌, List, ℤ, length}
use Rattle.std.proofs.Common.{sym, ap, ◌∙◌, arith as linear}
use Rattle.std.proofs.Math.Option.{Option, none, some}
use Rattle.script.specs.Syntax.{Formula, not}
use Rattle.script.specs.Conditions.{◌joined◌, behind}
use Rattle.script.specs.Rows.{rows}
use Rattle.script.specs.Trees.{expr_at, formula_at}
use Rattle.theorems.specs.Accepted.{Accepted}
use Rattle.theorems.specs.Unchanged.{stands, no_item, joined_stands, behind_stands}
use Rattle.following.specs.Follow.{row_on}
use Rattle.dividing.specs.Nodes.{Node, divisors_at}
use Rattle.dividing.specs.Sizes.{size, joined_size, both_size, premise_size, behind_size, divisor_size}
use Rattle.dividing.specs.Divided.{marked, Own, Entry, nothing, from, entry_stands}
use Rattle.dividing.specs.Divisions.{division, divisor_of, divisor_of_stands}
use Rattle.dividing.specs.Parts.{Below, expression_below, formula_below, Single, Choice, Pair}

-- the entries of the nodes below row n
pub record DividedTo (t follow : List ℤ) (n : ℕ) : Type 0 where
  pub at : (r : ℕ) → r < n → Node t r → Entry t r (row_on follow r)

pub record RowReady (t follow : List ℤ) (r : ℕ) : Type 0 where
  pub table : Accepted t
  pub inside : r < rows t
  pub node : Node t r
  pub below : DividedTo t follow r
  pub long : rows t ≤ length follow

-- of three items that stand or not, one does

second_of : (x : Bool) {y : Bool} (z : Bool) → y ≡ true → ((x || y) || z) ≡ true
second_of true z e = refl
second_of false z e = rw e refl

third_of : (x y : Bool) {z : Bool} → z ≡ true → ((x || y) || z) ≡ true
third_of true y e = refl
third_of false true e = refl
third_of false false e = e

-- or one alone

first_alone : (x : Option Formula) {y z : Option Formula} → y ≡ none → z ≡ none → x joined y joined z ≡ x
first_alone none hy hz = rw (hy, hz) refl
first_alone (some f) hy hz = rw (hy, hz) refl

second_alone : {x : Option Formula} (y : Option Formula) {z : Option Formula} → x ≡ none → z ≡ none → x joined y joined z ≡ y
second_alone none hx hz = rw (hx, hz) refl
second_alone (some f) hx hz = rw (hx, hz) refl

-- the entry of a part, for a node that has no D but the part's
taken_over : {t : List ℤ} {r a e : ℕ} → a < r → divisors_at t r ≡ divisors_at t a → Entry t a e → Entry t r e
taken_over h is (nothing i k) = nothing i (ap stands is ∙ k)
taken_over h is (from s i k) =
    let w = k.within in
    from s i (record {
      within = omega linear;
      node = k.node;
      same = k.same ∙ sym is;
      stood = k.stood;
      own = k.own;
    })

pub entry_bound : {t : List ℤ} {r e : ℕ} → Entry t r e → e ≤ r + 1
entry_bound (nothing i h) = omega linear
entry_bound (from s i h) = let w = h.within in omega linear

module _ {t follow : List ℤ} {r : ℕ} (g : RowReady t follow r) where
  pub in_run : {a : ℕ} → Below t r a → a < length follow
  in_run b = let h = g.inside in let l = g.long in let i = b.0 in omega linear

  part_marked : {a : ℕ} → Below t r a → marked follow a ≡ stands (divisors_at t a)
  part_marked {a} b = entry_stands (g.below.at a b.0 b.1)

  part_none : {a : ℕ} → Below t r a → marked follow a ≡ false → divisors_at t a ≡ none
  part_none {a} b h = no_item (divisors_at t a) (sym (part_marked b) ∙ h)

  pub leaf_entry : divisors_at t r ≡ none → Entry t r 0
  leaf_entry e = nothing refl (ap stands e)

  part_entry : {a e : ℕ} → Below t r a → divisors_at t r ≡ divisors_at t a → e ≡ row_on follow a → Entry t r e
  part_entry {a} b is e = rw e (taken_over b.0 is (g.below.at a b.0 b.1))

  pub single_entry : {a e : ℕ} → Single t r a → e ≡ row_on follow a → Entry t r e
  single_entry s e = part_entry s.part s.is e

  -- the node is a source
  own_entry : stands (divisors_at t r) ≡ true → Own t r → Entry t r (r + 1)
  own_entry h o = from r refl (record { within = omega linear; node = g.node; same = refl; stood = h; own = o })

  -- ---- a choice

  module _ {f a b : ℕ} (c : Choice t r f a b) where
    abbrev one_side : Below t r a
    one_side = expression_below t c.first

    abbrev other_side : Below t r b
    other_side = expression_below t c.second

    choice_stands : stands (divisors_at t r) ≡ ((marked follow f || marked follow a) || marked follow b)
    choice_stands =
        ap stands c.is
        ∙ joined_stands (divisors_at t f joined behind (formula_at t f) (divisors_at t a)) (behind (not (formula_at t f)) (divisors_at t b))
        (joined_stands (divisors_at t f) (behind (formula_at t f) (divisors_at t a)) (sym (part_marked (formula_below t c.by)))
        (behind_stands (formula_at t f) (divisors_at t a) ∙ sym (part_marked one_side)))
        (behind_stands (not (formula_at t f)) (divisors_at t b) ∙ sym (part_marked other_side))

    -- D of one side stands, behind its premise
    abbrev behind_first : Option Formula
    behind_first = behind (formula_at t f) (divisors_at t a)

    abbrev behind_second : Option Formula
    behind_second = behind (not (formula_at t f)) (divisors_at t b)

    choice_own : size (divisors_at t a) + size (divisors_at t b) < size behind_first + size behind_second → Own t r
    choice_own h =
        let e = ap size c.is in
        let s₁ = joined_size (divisors_at t f) behind_first in
        let s₂ = joined_size (divisors_at t f joined behind_first) behind_second in
        let s₃ = behind_size (formula_at t f) (divisors_at t a) in
        let s₄ = behind_size (not (formula_at t f)) (divisors_at t b) in
        c.own (omega linear) (omega linear) (omega linear)

    pub choice_first : marked follow a ≡ true → Entry t r (r + 1)
    choice_first h =
        let s₁ = premise_size (formula_at t f) (divisors_at t a) (sym (part_marked one_side) ∙ h) in
        let s₂ = behind_size (not (formula_at t f)) (divisors_at t b) in
        own_entry (choice_stands ∙ second_of (marked follow f) (marked follow b) h) (choice_own (omega linear))

    pub choice_second : marked follow b ≡ true → Entry t r (r + 1)
    choice_second h =
        let s₁ = behind_size (formula_at t f) (divisors_at t a) in
        let s₂ = premise_size (not (formula_at t f)) (divisors_at t b) (sym (part_marked other_side) ∙ h) in
        own_entry (choice_stands ∙ third_of (marked follow f) (marked follow a) h) (choice_own (omega linear))

    pub choice_by : {e : ℕ} → marked follow a ≡ false → marked follow b ≡ false → e ≡ row_on follow f → Entry t r e
    choice_by ha hb e =
        part_entry (formula_below t c.by)
        (c.is
        ∙ first_alone (divisors_at t f) (ap (behind (formula_at t f)) (part_none one_side ha))
        (ap (behind (not (formula_at t f))) (part_none other_side hb)))
        e

  -- ---- two parts

  module _ {n a b : ℕ} (p : Pair t r n a b) where
    pair_stands : stands (divisors_at t r) ≡ ((marked follow a || marked follow b) || division n)
    pair_stands =
        ap stands p.is
        ∙ joined_stands (divisors_at t a joined divisors_at t b) (divisor_of (division n) (expr_at t b))
        (joined_stands (divisors_at t a) (divisors_at t b) (sym (part_marked p.first)) (sym (part_marked p.second)))
        (divisor_of_stands (division n) (expr_at t b))

    no_divisor : division n ≡ false → divisor_of (division n) (expr_at t b) ≡ none
    no_divisor h = ap (λ d. divisor_of d (expr_at t b)) h

    pair_own :
        size (divisors_at t a) + size (divisors_at t b) < size (divisors_at t a joined divisors_at t b) + size (divisor_of (division n) (expr_at t b))
        → Own t r
    pair_own h =
        let e = ap size p.is in
        let s = joined_size (divisors_at t a joined divisors_at t b) (divisor_of (division n) (expr_at t b)) in
        p.own (omega linear) (omega linear)

    pub pair_division : division n ≡ true → Entry t r (r + 1)
    pair_division h =
        let s = joined_size (divisors_at t a) (divisors_at t b) in
        let d = divisor_size (expr_at t b) in
        let i = ap (λ x. size (divisor_of x (expr_at t b))) h in
        own_entry (pair_stands ∙ third_of (marked follow a) (marked follow b) h) (pair_own (omega linear))

    pub pair_both : marked follow a ≡ true → marked follow b ≡ true → Entry t r (r + 1)
    pair_both h k =
        let s = both_size (divisors_at t a) (divisors_at t b) (sym (part_marked p.first) ∙ h) (sym (part_marked p.second) ∙ k) in
        own_entry (pair_stands ∙ second_of (marked follow a) (division n) k) (pair_own (omega linear))

    module _ {e : ℕ} (plain : division n ≡ false) where
      pub pair_first : marked follow b ≡ false → e ≡ row_on follow a → Entry t r e
      pair_first h i =
          part_entry p.first (p.is ∙ first_alone (divisors_at t a) (part_none p.second h) (no_divisor plain)) i

      pub pair_second : marked follow a ≡ false → e ≡ row_on follow b → Entry t r e
      pair_second h i =
          part_entry p.second (p.is ∙ second_alone (divisors_at t b) (part_none p.first h) (no_divisor plain)) i
