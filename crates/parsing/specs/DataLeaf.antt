-- A leaf that the machine begins: its row is written, where it has one, and it is the part that is complete
-- (`count_data`, `constant_data`, `variable_data`, `truth_data`, `skip_data`). Assumes nothing.
use Rattle.std.specs.Prelude.{ℕ, ◌+◌, ◌-◌, ◌<◌, ◌≡◌, Bool, true, false, cond, ℤ, pos, leb, length}
use Rattle.std.proofs.Math.Path.{refl, subst}
use Rattle.std.proofs.Common.{sym, ap, ◌∙◌, arith as linear, lit<, length-append}
use mathlib.Core.List.{List, [], ◌∷◌, ◌++◌, append-nil}
use borrow.Author.Tests.{ltb-true}
use Rattle.grammar.specs.Sorts.{Sort, number, same_sort}
use Rattle.grammar.specs.Operators.{not_prefix, minus_prefix, assert_prefix, assign_prefix}
use Rattle.grammar.specs.Tokens.{constant_leaf, number_leaf, variable_leaf, truth_leaf, skip_leaf}
use Rattle.grammar.specs.Grammar.{Phrase, leaf, before, sort}
use Rattle.grammar.specs.Counts.{minus}
use Rattle.grammar.specs.Rows.{Quad, quad, constant}
use Rattle.grammar.specs.States.{prefix, infix_after, Frame, pending, open_at, operand, after, at}
use Rattle.grammar.specs.Automaton.{constant_on, leaf_on}
use Rattle.grammar.specs.Ranges.{limit, variable_fits, mark_fits, after_minus}
use Rattle.grammar.specs.Outcome.{has_room}
use Rattle.grammar.specs.Tests.{false_is_not}
use Rattle.grammar.specs.Written.{stack_rows, part_rows, written_in, constant_writes, leaf_writes}
use Rattle.parser.specs.Machine.{Config, config, begin_count, begin_constant, begin_variable, begin_leaf}
use Rattle.parsing.specs.Encoding.{Data, frame_words, framed}
use Rattle.parsing.specs.DataRows.{Held, Writable, with_words_held, with_row_held}
use Rattle.parsing.specs.DataStack.{topped, framed_popped}

-- ---- one row more

-- a part that is no mark's number, with its rows written
pub part_after : (x : Phrase) (fs : List Frame) (c : Config) → Held c.words (part_rows x fs)
    → framed c.stack c.state.top ≡ frame_words fs → same_sort (sort x) number ≡ false → Data (at (after x) fs) c
part_after x fs c h f n =
    record { words = h; frames = f; count = λ e. false_is_not (sym n ∙ ap (λ (s : Sort). same_sort s number) e) }

-- there is room for the row that is written next
pub writable : (ws : List ℤ) (qs new : List Quad) (q : Quad) (rows : ℕ) → Held ws qs → rows ≡ length qs
    → new ≡ qs ++ (q ∷ [])
    → has_room (length ws) (length new) ≡ true → Writable ws qs rows
writable ws qs new q rows h r e room =
    let l : length qs + 1 ≡ length new = omega (linear, length-append qs (q ∷ []), ap length e) in
    record { counted = r; holds = h; room = ap (λ (n : ℕ). has_room (length ws) n) l ∙ room }

-- ---- leaves

module _ (fs : List Frame) (c : Config) (d : Data (at operand fs) c) where
  pub count_data : (k p : ℕ) → mark_fits c.state.bodies k ≡ true
      → Data (leaf_on (number_leaf k) fs) (config (begin_count c.state k p) c.stack c.words)
  unfolding begin_count
  count_data k p e =
      record {
        words = subst (λ (qs : List Quad). Held c.words qs)
            (sym (leaf_writes (number_leaf k) fs ∙ append-nil (stack_rows fs))) d.words;
        frames = d.frames;
        count = λ n. rw e;
      }

  module _ (r : c.state.rows ≡ length (stack_rows fs)) where
    pub variable_data : (v p : ℕ) → variable_fits v ≡ true
        → has_room (length c.words) (length (written_in (leaf_on (variable_leaf v) fs))) ≡ true
        → Data (leaf_on (variable_leaf v) fs) (begin_variable c v p)
    unfolding begin_variable
    variable_data v p e room =
        let is = leaf_writes (variable_leaf v) fs in
        let low = ltb-true v 1024 e in
        let w = writable c.words (stack_rows fs) (written_in (leaf_on (variable_leaf v) fs)) (quad (pos 2) v 0 0)
        c.state.rows d.words r is room in
        part_after (leaf (variable_leaf v)) fs (begin_variable c v p)
        (subst (λ (qs : List Quad). Held (begin_variable c v p).words qs) (sym is)
        (rw e (with_row_held c.words (stack_rows fs) c.state.rows 2 v 0 0 w (lit< tt) (omega linear) (lit< tt)
        (lit< tt))))
        d.frames refl

    word_data : (x : Phrase) (k : ℕ) → k < 65536 → part_rows x fs ≡ stack_rows fs ++ (quad (pos k) 0 0 0 ∷ [])
        → same_sort (sort x) number ≡ false
        → has_room (length c.words) (length (part_rows x fs)) ≡ true → Data (at (after x) fs) (begin_leaf c k)
    unfolding begin_leaf
    word_data x k l is n room =
        let w = writable c.words (stack_rows fs) (part_rows x fs) (quad (pos k) 0 0 0) c.state.rows
        d.words r is room in
        part_after x fs (begin_leaf c k)
        (subst (λ (qs : List Quad). Held (begin_leaf c k).words qs) (sym is)
        (with_row_held c.words (stack_rows fs) c.state.rows k 0 0 0 w l (lit< tt) (lit< tt) (lit< tt)))
        d.frames n

    pub truth_data : (b : Bool) → has_room (length c.words) (length (written_in (leaf_on (truth_leaf b) fs))) ≡ true
        → Data (leaf_on (truth_leaf b) fs) (begin_leaf c (cond b 16 17))
    truth_data true room =
        word_data (leaf (truth_leaf true)) 16 (lit< tt) (leaf_writes (truth_leaf true) fs) refl room
    truth_data false room =
        word_data (leaf (truth_leaf false)) 17 (lit< tt) (leaf_writes (truth_leaf false) fs) refl room

    pub skip_data : has_room (length c.words) (length (written_in (leaf_on skip_leaf fs))) ≡ true
        → Data (leaf_on skip_leaf fs) (begin_leaf c 32)
    skip_data room = word_data (leaf skip_leaf) 32 (lit< tt) (leaf_writes skip_leaf fs) refl room

    -- a constant, after a unary minus or not
    written_constant : (m : Bool) (v p : ℕ) (x : Phrase) (gs : List Frame) → leb v (limit m) ≡ true
        → part_rows x gs ≡ stack_rows fs ++ (constant (cond m (minus v) (pos v)) ∷ [])
        → same_sort (sort x) number ≡ false
        → framed c.stack (cond m (c.state.top - 1) c.state.top) ≡ frame_words gs
        → has_room (length c.words) (length (part_rows x gs)) ≡ true
        → Data (at (after x) gs) (begin_constant c m v p)
    unfolding begin_constant
    written_constant m v p x gs e is n f room =
        let q = constant (cond m (minus v) (pos v)) in
        let w = writable c.words (stack_rows fs) (part_rows x gs) q c.state.rows d.words r is room in
        part_after x gs (begin_constant c m v p)
        (subst (λ (qs : List Quad). Held (begin_constant c m v p).words qs) (sym is)
        (rw e (with_words_held c.words (stack_rows fs) q c.state.rows w)))
        f n

pub constant_data : (fs : List Frame) (c : Config) → Data (at operand fs) c → c.state.rows ≡ length (stack_rows fs)
    → (v p : ℕ)
    → leb v (limit (after_minus fs)) ≡ true
    → has_room (length c.words) (length (written_in (constant_on v fs))) ≡ true
    → Data (constant_on v fs) (begin_constant c (after_minus fs) v p)
unfolding frame_words
constant_data [] c d r v p e room =
    written_constant [] c d r false v p (leaf (constant_leaf v)) [] e (constant_writes v []) refl d.frames room
constant_data (pending (prefix not_prefix) ∷ fs) c d r v p e room =
    let gs = pending (prefix not_prefix) ∷ fs in
    written_constant gs c d r false v p (leaf (constant_leaf v)) gs e (constant_writes v gs) refl d.frames room
constant_data (pending (prefix minus_prefix) ∷ fs) c d r v p e room =
    let gs = pending (prefix minus_prefix) ∷ fs in
    written_constant gs c d r true v p (before minus_prefix (leaf (constant_leaf v))) fs e (constant_writes v gs) refl
    (framed_popped (topped c.stack c.state.top _ (frame_words fs) d.frames)) room
constant_data (pending (prefix assert_prefix) ∷ fs) c d r v p e room =
    let gs = pending (prefix assert_prefix) ∷ fs in
    written_constant gs c d r false v p (leaf (constant_leaf v)) gs e (constant_writes v gs) refl d.frames room
constant_data (pending (prefix (assign_prefix a)) ∷ fs) c d r v p e room =
    let gs = pending (prefix (assign_prefix a)) ∷ fs in
    written_constant gs c d r false v p (leaf (constant_leaf v)) gs e (constant_writes v gs) refl d.frames room
constant_data (pending (infix_after o x) ∷ fs) c d r v p e room =
    let gs = pending (infix_after o x) ∷ fs in
    written_constant gs c d r false v p (leaf (constant_leaf v)) gs e (constant_writes v gs) refl d.frames room
constant_data (open_at h i ∷ fs) c d r v p e room =
    let gs = open_at h i ∷ fs in
    written_constant gs c d r false v p (leaf (constant_leaf v)) gs e (constant_writes v gs) refl d.frames room
