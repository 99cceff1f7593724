-- The rows of a phrase are one part of the table that they stand in (`Grows`): none has a fault from 2 to 6, all but the
-- last are linked, each once, and the last has the phrase's sort. Here for leaves and operators, and what a form gives its
-- parts (`parts_of`); of the ranges only those of variables are asked. Assumes nothing.
use Rattle.std.specs.Prelude.{ℕ, zero, suc, ◌+◌, ◌≤◌, ◌<◌, ◌≡◌, List, [], ◌∷◌, ◌++◌, Bool, true, cond, ℤ, pos, get_or}
use Rattle.std.proofs.Common.{arith as linear, sym, ap}
use Rattle.std.proofs.Math.Path.{refl}
use Rattle.std.proofs.Math.Option.{Option, none, some}
use Rattle.std.proofs.Math.Bool.{false}
use Rattle.script.specs.declared.Sort.{Sort as Row-sort}
use Rattle.script.specs.Rows.{rows}
use Rattle.theorems.specs.Options.{none_is_not}
use Rattle.grammar.specs.Tests.{false_is_not}
use Rattle.grammar.specs.Sorts.{number, same_sort}
use Rattle.grammar.specs.Operators.{Infix, infix_takes, Prefix, not_prefix, minus_prefix, assert_prefix, assign_prefix, prefix_takes, prefix_makes}
use Rattle.grammar.specs.Tokens.{Leaf, constant_leaf, number_leaf, variable_leaf, truth_leaf, skip_leaf}
use Rattle.grammar.specs.Grammar.{Phrase, leaf, before, between, closed, Chain, begun, more, place, sort}
use Rattle.grammar.specs.Counts.{negated, minus, size, chain_size, prefix_size, form_size, begins_body, last, roots}
use Rattle.grammar.specs.Rows.{Quad, quad, constant, prefix_row, prefix_rows, infix_kind, nth_loop, counts, form_rows, note_rows, by_row, inside, table, chain_table}
use Rattle.grammar.specs.Ranges.{All, is_minus, prefix_flags, deeper, flags, chain_flags}
use Rattle.grammar.specs.AllLaws.{all_parts}
use Rattle.grammar.specs.Sizes.{table_length, chain_length, prefix_not_number, infix_not_number}
use Rattle.text_claims.specs.Spans.{Above, Grown, grown_as, above_part, no_front, with_part, node}
use Rattle.text_claims.specs.RowShapes.{row_sort, Holds, holds_parts, Shape, sound_at, constant_shape, variable_shape, truth_shape, skip_shape, prefix_shape, infix_shape}

module _ (ws : List ℤ) (filled : 0 < rows ws) where
  -- the rows of loops are in the table
  abbrev pub Low : List ℕ → Type 0
  Low [] = Unit {0}
  Low (l ∷ ls) = (l < rows ws) × Low ls

  pub nth_low : (ls : List ℕ) (i : ℕ) → Low ls → get_or ls i 0 < rows ws
  nth_low [] i h = filled
  nth_low (l ∷ ls) zero h = h.0
  nth_low (l ∷ ls) (suc i) h = nth_low ls i h.1

  -- the rows of x stand in the table from b on, with these loops around; d and m are those of its flags
  pub record Given (x : Phrase) (d : ℕ) (m : Bool) (ls : List ℕ) (b : ℕ) : Type 0 where
    pub ranges : All (flags d m x)
    pub low : Low ls
    pub room : b + size x ≤ rows ws
    pub holds : Holds ws b (table by_row ls b x)

  abbrev pub Grows : Phrase → Type 0
  Grows x =
      same_sort (sort x) number ≡ false → (d : ℕ) (m : Bool) (ls : List ℕ) (b : ℕ) → Given x d m ls b → Above ws b
      → Grown ws b (b + size x) (row_sort (sort x))

  -- a row without parts
  alone : {q : Quad} {b : ℕ} {s : Row-sort} → Above ws b → Holds ws b (q ∷ []) → Shape ws q [] s → Grown ws b (b + 1) s
  alone {b = b} a h k = grown_as ws refl (omega linear) refl (node ws (no_front ws b a) refl (sound_at ws h.0 k))

  pub leaf_grows : (l : Leaf) → Grows (leaf l)
  unfolding flags size table
  leaf_grows (constant_leaf n) e d m ls b g a = alone a g.holds (constant_shape ws (pos n))
  leaf_grows (number_leaf n) e d m ls b g a = false_is_not (sym e)
  leaf_grows (variable_leaf v) e d m ls b g a = alone a g.holds (variable_shape ws v g.ranges.0)
  leaf_grows (truth_leaf t) e d m ls b g a = alone a g.holds (truth_shape ws t)
  leaf_grows skip_leaf e d m ls b g a = alone a g.holds (skip_shape ws)

  -- ---- operators

  negative_grown : (p : Prefix) (x : Phrase) (z b : ℕ) → negated p x ≡ some z → Above ws b
      → Holds ws b (constant (minus z) ∷ []) → Grown ws b (b + 1) (row_sort (prefix_makes p))
  negative_grown not_prefix x z b k a h = none_is_not k
  negative_grown minus_prefix x z b k a h = alone a h (constant_shape ws (minus z))
  negative_grown assert_prefix x z b k a h = none_is_not k
  negative_grown (assign_prefix v) x z b k a h = none_is_not k

  pub before_grows : (p : Prefix) (x : Phrase) → sort x ≡ prefix_takes p → Grows x → Grows (before p x)
  unfolding flags size table
  before_grows p x s inner e d m ls b g a = at_constant (negated p x) refl g.room g.holds
    where
      at_constant : (o : Option ℕ) → negated p x ≡ o → b + prefix_size o (size x) ≤ rows ws
          → Holds ws b (prefix_rows p o (last b (size x)) (table by_row ls b x))
          → Grown ws b (b + prefix_size o (size x)) (row_sort (prefix_makes p))
      at_constant (some z) k l h = negative_grown p x z b k a h
      at_constant none k l h =
          let h2 = holds_parts ws (table by_row ls b x) (prefix_row p (last b (size x)) ∷ []) b (size x) (table_length by_row x ls b) h in
          let r = all_parts (prefix_flags p) (flags d (is_minus p) x) g.ranges in
          let given : Given x d (is_minus p) ls b = record { ranges = r.1; low = g.low; room = omega linear; holds = h2.0 } in
          let y = grown_as ws refl refl (ap row_sort s) (inner (rw s (prefix_not_number p)) d (is_minus p) ls b given a) in
          grown_as ws refl (omega linear) refl
          (node ws (with_part ws (no_front ws b a) refl y) refl (sound_at ws h2.1.0 (prefix_shape ws p (last b (size x)) r.0)))

  pub between_grows : (o : Infix) (x y : Phrase) → sort x ≡ infix_takes o → sort y ≡ infix_takes o → Grows x → Grows y → Grows (between o x y)
  unfolding flags size table
  between_grows o x y s t left right e d m ls b g a =
      let q = quad (infix_kind o) (last b (size x)) (last (b + size x) (size y)) 0 in
      let h1 = holds_parts ws (table by_row ls b x) (table by_row ls (b + size x) y ++ (q ∷ [])) b (size x) (table_length by_row x ls b) g.holds in
      let h2 = holds_parts ws (table by_row ls (b + size x) y) (q ∷ []) (b + size x) (size y) (table_length by_row y ls (b + size x)) h1.1 in
      let r = all_parts (flags d false x) (flags d false y) g.ranges in
      let room = g.room in
      let u : Given x d false ls b = record { ranges = r.0; low = g.low; room = omega linear; holds = h1.0 } in
      let v : Given y d false ls (b + size x) = record { ranges = r.1; low = g.low; room = omega linear; holds = h2.0 } in
      let i = grown_as ws refl refl (ap row_sort s) (left (rw s (infix_not_number o)) d false ls b u a) in
      let j = grown_as ws refl refl (ap row_sort t) (right (rw t (infix_not_number o)) d false ls (b + size x) v (above_part ws refl i)) in
      grown_as ws refl (omega linear) refl
      (node ws (with_part ws (with_part ws (no_front ws b a) refl i) refl j) refl
      (sound_at ws h2.1.0 (infix_shape ws o (last b (size x)) (last (b + size x) (size y)))))

  -- ---- the parts of a form

  abbrev pub ChainGiven : Chain → ℕ → List ℕ → ℕ → Type 0
  ChainGiven (begun f) d ls b = Unit {0}
  ChainGiven (more c x q) d ls b =
      ChainGiven c d ls b × Given x d false ls (b + chain_size c)
      × Holds ws (b + chain_size c + size x) (note_rows (begins_body q) (roots b c) (last (b + chain_size c) (size x)))

  chain_given : (c : Chain) (d : ℕ) (ls : List ℕ) (b : ℕ) → All (chain_flags d c) → Low ls → b + chain_size c ≤ rows ws
      → Holds ws b (chain_table by_row ls b c) → ChainGiven c d ls b
  unfolding flags size table
  chain_given (begun f) d ls b r l n h = tt
  chain_given (more c x q) d ls b r l n h =
      let p = b + chain_size c in
      let rest = note_rows (begins_body q) (roots b c) (last p (size x)) in
      let h1 = holds_parts ws (chain_table by_row ls b c) (table by_row ls p x ++ rest) b (chain_size c) (chain_length by_row c ls b) h in
      let h2 = holds_parts ws (table by_row ls p x) rest p (size x) (table_length by_row x ls p) h1.1 in
      let f = all_parts (chain_flags d c) (flags d false x) r in
      let given : Given x d false ls p = record { ranges = f.1; low = l; room = omega linear; holds = h2.0 } in
      (chain_given c d ls b f.0 l (omega linear) h1.0, given, h2.1)

  -- the form's last part stands in the body of its loop, if it is one
  inside_low : (t : Bool) (r : ℕ) (ls : List ℕ) → r < rows ws → Low ls → Low (cond t (r ∷ ls) ls)
  inside_low true r ls h l = (h, l)
  inside_low false r ls h l = l

  pub record Parts (c : Chain) (x : Phrase) (d : ℕ) (ls : List ℕ) (b : ℕ) : Type 0 where
    pub front : ChainGiven c d ls b
    pub back : Given x (deeper (place c) d) false (inside by_row (place c) (last b (chain_size c + size x + form_size (place c))) ls) (b + chain_size c)
    pub own : Holds ws (b + chain_size c + size x) (form_rows (place c) (nth_loop ls (counts x)) (roots b c) (last (b + chain_size c) (size x)))

  pub parts_of : (c : Chain) (x : Phrase) (d : ℕ) (m : Bool) (ls : List ℕ) (b : ℕ) → Given (closed c x) d m ls b → Parts c x d ls b
  unfolding flags size table
  parts_of c x d m ls b g =
      let p = b + chain_size c in
      let r = last b (chain_size c + size x + form_size (place c)) in
      let js = inside by_row (place c) r ls in
      let rest = form_rows (place c) (nth_loop ls (counts x)) (roots b c) (last p (size x)) in
      let h1 = holds_parts ws (chain_table by_row ls b c) (table by_row js p x ++ rest) b (chain_size c) (chain_length by_row c ls b) g.holds in
      let h2 = holds_parts ws (table by_row js p x) rest p (size x) (table_length by_row x js p) h1.1 in
      let f = all_parts (chain_flags d c) (flags (deeper (place c) d) false x) g.ranges in
      let room = g.room in
      record {
        front = chain_given c d ls b f.0 g.low (omega linear) h1.0;
        back = record {
          ranges = f.1;
          low = inside_low (begins_body (place c)) r ls (omega linear) g.low;
          room = omega linear;
          holds = h2.0;
        };
        own = h2.1;
      }
