-- The rows that a phrase makes, each with its parts and its sort (`Shape`): the number of a variable is in range, that of
-- a mark's row too, and a field that is not used is 0. Where such a row stands in a table (`Holds`), it passes the tests 2
-- and 3 (`sound_at`). Assumes nothing.
use Rattle.std.specs.Prelude.{ℕ, suc, ◌+◌, ◌<◌, ◌≡◌, List, [], ◌∷◌, ◌++◌, Bool, cond, ◌&&◌, ℤ, pos, length, drop}
use Rattle.std.proofs.Common.{arith as linear, ap, ◌∙◌, subst, lt-ltb}
use Rattle.std.proofs.Math.Path.{refl}
use Rattle.std.proofs.Math.Bool.{true, false}
use Rattle.script.specs.declared.Operator.TheVariants.{Plus, Minus, Times, Div, Mod}
use Rattle.script.specs.declared.Relation.TheVariants.{Less, AtMost, Equal, Unequal}
use Rattle.script.specs.declared.Connective.TheVariants.{And, Or, Implies}
use Rattle.script.specs.declared.Row.{Row}
use Rattle.script.specs.declared.Sort.{Sort as Row-sort}
use Rattle.script.specs.declared.Sort.TheVariants.{Expression, Formula, Statement, Note, Script, Unknown}
use Rattle.script.specs.Rows.{Part, parts, fields, sort_of, rows, word, row, row_of}
use Rattle.script.specs.Refusals.{same_sort, all_zero, in_range, unused_zero}
use Rattle.grammar.specs.Sorts.{Sort, number, expression, formula, statement, script}
use Rattle.grammar.specs.Operators.{Infix, semicolon, connective, relation, operator, infix_takes, infix_makes, Prefix, not_prefix, minus_prefix, assert_prefix, assign_prefix, prefix_takes, prefix_makes}
use Rattle.grammar.specs.Rows.{Quad, quad, constant, prefix_row, infix_kind}
use Rattle.grammar.specs.Ranges.{All, variable_fits, prefix_flags}
use Rattle.grammar.specs.SameRows.{quad_row}
use Rattle.text_claims.specs.Spans.{part, SoundAt}

-- the sort of the last row of a phrase of this sort; a mark's number has no row
abbrev pub row_sort : Sort → Row-sort
row_sort number = Unknown
row_sort expression = Expression
row_sort formula = Formula
row_sort statement = Statement
row_sort script = Script

both_true : {a b : Bool} → a ≡ true → b ≡ true → (a && b) ≡ true
both_true p q = rw (p, q)

module _ (ws : List ℤ) where
  -- ---- rows that stand in the table

  pub record HoldsRow (r : ℕ) (q : Quad) : Type 0 where
    pub is : row ws r ≡ quad_row q
    pub one : word ws r 1 ≡ q.first
    pub two : word ws r 2 ≡ q.second
    pub three : word ws r 3 ≡ q.third

  -- from b on
  abbrev pub Holds : ℕ → List Quad → Type 0
  Holds b [] = Unit {0}
  Holds b (q ∷ qs) = HoldsRow b q × Holds (suc b) qs

  pub holds_at : {b c : ℕ} (qs : List Quad) → b ≡ c → Holds b qs → Holds c qs
  holds_at qs e h = subst (λ (k : ℕ). Holds k qs) e h

  holds_split : (ps qs : List Quad) (b : ℕ) → Holds b (ps ++ qs) → Holds b ps × Holds (b + length ps) qs
  holds_split [] qs b h = (tt, holds_at qs (omega linear) h)
  holds_split (p ∷ ps) qs b h =
      let s = holds_split ps qs (suc b) h.1 in
      ((h.0, s.0), holds_at qs (omega linear) s.1)

  pub holds_parts : (ps qs : List Quad) (b n : ℕ) → length ps ≡ n → Holds b (ps ++ qs) → Holds b ps × Holds (b + n) qs
  holds_parts ps qs b n e h = let s = holds_split ps qs b h in (s.0, holds_at qs (omega linear) s.1)

  -- ---- what a row is

  pub record Shape (q : Quad) (ps : List Part) (s : Row-sort) : Type 0 where
    pub parts_are : parts (quad_row q) ≡ ps
    pub sort_is : sort_of (quad_row q) ≡ s
    pub known : same_sort s Unknown ≡ false
    pub ranged : in_range ws (fields (quad_row q)) ≡ true
    pub unused : all_zero (drop (length (fields (quad_row q))) (q.first ∷ q.second ∷ q.third ∷ [])) ≡ true

  pub sound_at : {r : ℕ} {q : Quad} {ps : List Part} {s : Row-sort} → HoldsRow r q → Shape q ps s → SoundAt ws r ps s
  sound_at {r} {q} h k =
      let n = length (fields (quad_row q)) in
      let zeros : unused_zero ws r n ≡ true = rw (h.one, h.two, h.three) k.unused in
      record {
        parts_are = ap parts h.is ∙ k.parts_are;
        sort_is = ap sort_of h.is ∙ k.sort_is;
        known = k.known;
        ranged = ap (λ (w : Row). in_range ws (fields w) && unused_zero ws r (length (fields w))) h.is
            ∙ both_true k.ranged zeros;
      }

  -- ---- leaves

  pub constant_shape : (z : ℤ) → Shape (constant z) [] Expression
  unfolding row_of
  constant_shape z = record { parts_are = refl; sort_is = refl; known = refl; ranged = refl; unused = refl }

  pub variable_shape : (v : ℕ) → variable_fits v ≡ true → Shape (quad (pos 2) v 0 0) [] Expression
  unfolding row_of
  variable_shape v h = record { parts_are = refl; sort_is = refl; known = refl; ranged = rw h; unused = refl }

  pub truth_shape : (b : Bool) → Shape (quad (cond b (pos 16) (pos 17)) 0 0 0) [] Formula
  unfolding row_of
  truth_shape true = record { parts_are = refl; sort_is = refl; known = refl; ranged = refl; unused = refl }
  truth_shape false = record { parts_are = refl; sort_is = refl; known = refl; ranged = refl; unused = refl }

  pub skip_shape : Shape (quad (pos 32) 0 0 0) [] Statement
  unfolding row_of
  skip_shape = record { parts_are = refl; sort_is = refl; known = refl; ranged = refl; unused = refl }

  pub mark_shape : (m : ℕ) → m < rows ws → Shape (quad (pos 9) m 0 0) [] Expression
  unfolding row_of
  mark_shape m h =
      record { parts_are = refl; sort_is = refl; known = refl; ranged = rw (lt-ltb m (rows ws) h); unused = refl }

  -- ---- operators

  pub prefix_shape : (p : Prefix) (r : ℕ) → All (prefix_flags p)
      → Shape (prefix_row p r) (part r (row_sort (prefix_takes p)) ∷ []) (row_sort (prefix_makes p))
  unfolding row_of
  prefix_shape not_prefix r h = record { parts_are = refl; sort_is = refl; known = refl; ranged = refl; unused = refl }
  prefix_shape minus_prefix r h = record { parts_are = refl; sort_is = refl; known = refl; ranged = refl; unused = refl }
  prefix_shape assert_prefix r h = record { parts_are = refl; sort_is = refl; known = refl; ranged = refl; unused = refl }
  prefix_shape (assign_prefix v) r h =
      record { parts_are = refl; sort_is = refl; known = refl; ranged = rw h.0; unused = refl }

  abbrev Joins : Infix → Type 0
  Joins o =
      (i k : ℕ) → Shape (quad (infix_kind o) i k 0) (part i (row_sort (infix_takes o)) ∷ part k (row_sort (infix_takes o)) ∷ [])
      (row_sort (infix_makes o))

  pub infix_shape : (o : Infix) → Joins o
  unfolding row_of
  infix_shape semicolon i k = record { parts_are = refl; sort_is = refl; known = refl; ranged = refl; unused = refl }
  infix_shape (connective And) i k = record { parts_are = refl; sort_is = refl; known = refl; ranged = refl; unused = refl }
  infix_shape (connective Or) i k = record { parts_are = refl; sort_is = refl; known = refl; ranged = refl; unused = refl }
  infix_shape (connective Implies) i k = record { parts_are = refl; sort_is = refl; known = refl; ranged = refl; unused = refl }
  infix_shape (relation Less) i k = record { parts_are = refl; sort_is = refl; known = refl; ranged = refl; unused = refl }
  infix_shape (relation AtMost) i k = record { parts_are = refl; sort_is = refl; known = refl; ranged = refl; unused = refl }
  infix_shape (relation Equal) i k = record { parts_are = refl; sort_is = refl; known = refl; ranged = refl; unused = refl }
  infix_shape (relation Unequal) i k = record { parts_are = refl; sort_is = refl; known = refl; ranged = refl; unused = refl }
  infix_shape (operator Plus) i k = record { parts_are = refl; sort_is = refl; known = refl; ranged = refl; unused = refl }
  infix_shape (operator Minus) i k = record { parts_are = refl; sort_is = refl; known = refl; ranged = refl; unused = refl }
  infix_shape (operator Times) i k = record { parts_are = refl; sort_is = refl; known = refl; ranged = refl; unused = refl }
  infix_shape (operator Div) i k = record { parts_are = refl; sort_is = refl; known = refl; ranged = refl; unused = refl }
  infix_shape (operator Mod) i k = record { parts_are = refl; sort_is = refl; known = refl; ranged = refl; unused = refl }

  -- ---- forms, and the note of a loop

  module _ (i j k : ℕ) where
    pub when_shape : Shape (quad (pos 10) i j k) (part i Formula ∷ part j Expression ∷ part k Expression ∷ []) Expression
    unfolding row_of
    when_shape = record { parts_are = refl; sort_is = refl; known = refl; ranged = refl; unused = refl }

    pub if_shape : Shape (quad (pos 35) i j k) (part i Formula ∷ part j Statement ∷ part k Statement ∷ []) Statement
    unfolding row_of
    if_shape = record { parts_are = refl; sort_is = refl; known = refl; ranged = refl; unused = refl }

    pub while_shape : Shape (quad (pos 36) i j k) (part i Formula ∷ part j Note ∷ part k Statement ∷ []) Statement
    unfolding row_of
    while_shape = record { parts_are = refl; sort_is = refl; known = refl; ranged = refl; unused = refl }

    pub script_shape : Shape (quad (pos 48) i j k) (part i Formula ∷ part j Statement ∷ part k Formula ∷ []) Script
    unfolding row_of
    script_shape = record { parts_are = refl; sort_is = refl; known = refl; ranged = refl; unused = refl }

  pub note_shape : (i j : ℕ) → Shape (quad (pos 37) i j 0) (part i Formula ∷ part j Expression ∷ []) Note
  unfolding row_of
  note_shape i j = record { parts_are = refl; sort_is = refl; known = refl; ranged = refl; unused = refl }
