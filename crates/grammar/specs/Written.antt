-- The rows that are written when the automaton is in a state: those of the complete parts, in order (`written`). Each
-- move of the automaton only adds rows, and these laws say which: an operator that takes its part (`pop_writes`), a
-- leaf (`leaf_writes`), the end of a place (`advance_writes`); a frame that is pushed adds none (`push_writes`,
-- `shift_writes`). The row of a mark holds the mark's number, since its loop's row is not written yet. Assumes nothing.
use Rattle.std.specs.Prelude.{ℕ, ◌+◌, ◌≡◌, refl, List, [], ◌∷◌, ◌++◌, false, pos}
use Rattle.std.proofs.Common.{sym, ◌∙◌, append_assoc, append-nil}
use Rattle.std.proofs.Math.Option.{Option, none, some}
use Rattle.grammar.specs.Sorts.{Hole}
use Rattle.grammar.specs.Operators.{Infix, Prefix, not_prefix, minus_prefix, assert_prefix, assign_prefix}
use Rattle.grammar.specs.Forms.{Place}
use Rattle.grammar.specs.Tokens.{Leaf, constant_leaf, number_leaf, variable_leaf, truth_leaf, skip_leaf, Due, Opening, prefix_opening, form_opening}
use Rattle.grammar.specs.Grammar.{Phrase, leaf, before, between, closed, Chain, place}
use Rattle.grammar.specs.Counts.{constant_in, negated, minus, size, chain_size, last, roots, begins_body}
use Rattle.grammar.specs.Rows.{Quad, quad, constant, leaf_rows, prefix_row, infix_kind, counts, form_rows, note_rows, Naming, table, chain_table}
use Rattle.grammar.specs.States.{Pending, prefix, infix_after, Frame, pending, open_at, apply, Mode, operand, after, due, State}
use Rattle.grammar.specs.Automaton.{advance, constant_on, leaf_on, opening_frame, pushed}

-- a mark's row holds its number
abbrev pub by_count : Naming
by_count = record { Loops = Unit {0}; around = λ r l. l; says = λ l k. k }

-- how many rows are written below the hole
unfoldable pub stack_size : List Frame → ℕ
stack_size [] = 0
stack_size (pending (prefix p) ∷ fs) = stack_size fs
stack_size (pending (infix_after o x) ∷ fs) = stack_size fs + size x
stack_size (open_at h c ∷ fs) = stack_size fs + chain_size c

unfoldable pub stack_rows : List Frame → List Quad
stack_rows [] = []
stack_rows (pending (prefix p) ∷ fs) = stack_rows fs
stack_rows (pending (infix_after o x) ∷ fs) = stack_rows fs ++ table by_count tt (stack_size fs) x
stack_rows (open_at h c ∷ fs) = stack_rows fs ++ chain_table by_count tt (stack_size fs) c

abbrev pub part_rows : Phrase → List Frame → List Quad
part_rows x fs = stack_rows fs ++ table by_count tt (stack_size fs) x

abbrev pub written : Mode → List Frame → List Quad
written operand fs = stack_rows fs
written (after x) fs = part_rows x fs
written (due d f) fs = stack_rows (f ∷ fs)

abbrev pub written_in : State → List Quad
written_in s = written s.mode s.stack

-- ---- an operator that takes its part

abbrev pub pending_row : Pending → ℕ → ℕ → Quad
pending_row (prefix p) b n = prefix_row p (last b n)
pending_row (infix_after o y) b n = quad (infix_kind o) (last b (size y)) (last (b + size y) n) 0

-- no unary minus waits for a numeral: that was one constant at once
abbrev pub Apart : Pending → Phrase → Type 0
Apart (prefix p) x = negated p x ≡ none
Apart (infix_after o y) x = Unit {0}

pub pop_writes : (f : Pending) (x : Phrase) (fs : List Frame) → Apart f x
    → part_rows (apply f x) fs ≡ part_rows x (pending f ∷ fs) ++ (pending_row f (stack_size fs) (size x) ∷ [])
unfolding table stack_rows stack_size
pop_writes (prefix p) x fs h = rw h (sym (append_assoc (stack_rows fs) (table by_count tt (stack_size fs) x) (prefix_row p (last (stack_size fs) (size x)) ∷ [])))
pop_writes (infix_after o y) x fs h =
    let row = pending_row (infix_after o y) (stack_size fs) (size x) ∷ [] in
    let left = table by_count tt (stack_size fs) y in
    let right = table by_count tt (stack_size fs + size y) x in
    sym (append_assoc (stack_rows fs) left (right ++ row)) ∙ sym (append_assoc (stack_rows fs ++ left) right row)

-- ---- a leaf

abbrev pub constant_row : ℕ → List Frame → Quad
constant_row n [] = constant (pos n)
constant_row n (pending (prefix not_prefix) ∷ fs) = constant (pos n)
constant_row n (pending (prefix minus_prefix) ∷ fs) = constant (minus n)
constant_row n (pending (prefix assert_prefix) ∷ fs) = constant (pos n)
constant_row n (pending (prefix (assign_prefix v)) ∷ fs) = constant (pos n)
constant_row n (pending (infix_after o x) ∷ fs) = constant (pos n)
constant_row n (open_at h c ∷ fs) = constant (pos n)

pub constant_writes : (n : ℕ) (fs : List Frame) → written_in (constant_on n fs) ≡ stack_rows fs ++ (constant_row n fs ∷ [])
unfolding table stack_rows stack_size
constant_writes n [] = refl
constant_writes n (pending (prefix not_prefix) ∷ fs) = refl
constant_writes n (pending (prefix minus_prefix) ∷ fs) = refl
constant_writes n (pending (prefix assert_prefix) ∷ fs) = refl
constant_writes n (pending (prefix (assign_prefix v)) ∷ fs) = refl
constant_writes n (pending (infix_after o x) ∷ fs) = refl
constant_writes n (open_at h c ∷ fs) = refl

abbrev pub leaf_on_rows : Leaf → List Frame → List Quad
leaf_on_rows (constant_leaf n) fs = constant_row n fs ∷ []
leaf_on_rows (number_leaf n) fs = leaf_rows (number_leaf n)
leaf_on_rows (variable_leaf v) fs = leaf_rows (variable_leaf v)
leaf_on_rows (truth_leaf b) fs = leaf_rows (truth_leaf b)
leaf_on_rows skip_leaf fs = leaf_rows skip_leaf

pub leaf_writes : (l : Leaf) (fs : List Frame) → written_in (leaf_on l fs) ≡ stack_rows fs ++ leaf_on_rows l fs
unfolding table
leaf_writes (constant_leaf n) fs = constant_writes n fs
leaf_writes (number_leaf n) fs = refl
leaf_writes (variable_leaf v) fs = refl
leaf_writes (truth_leaf b) fs = refl
leaf_writes skip_leaf fs = refl

-- ---- the end of a place

abbrev pub advance_rows : Option Place → Chain → Phrase → List Frame → List Quad
advance_rows none c x fs =
    form_rows (place c) (counts x) (roots (stack_size fs) c) (last (stack_size fs + chain_size c) (size x))
advance_rows (some q) c x fs = note_rows (begins_body q) (roots (stack_size fs) c) (last (stack_size fs + chain_size c) (size x))

-- a place before the last begins no body
abbrev pub NoBody : Option Place → Chain → Type 0
NoBody none c = Unit {0}
NoBody (some q) c = begins_body (place c) ≡ false

regroup : (a b c d : List Quad) → a ++ (b ++ (c ++ d)) ≡ ((a ++ b) ++ c) ++ d
regroup a b c d = sym (append_assoc a b (c ++ d)) ∙ sym (append_assoc (a ++ b) c d)

pub advance_writes : (o : Option Place) (h : Hole) (c : Chain) (x : Phrase) (fs : List Frame) → NoBody o c
    → written_in (advance o c x fs) ≡ part_rows x (open_at h c ∷ fs) ++ advance_rows o c x fs
unfolding table chain_table stack_rows stack_size
advance_writes none h c x fs n =
    regroup (stack_rows fs) (chain_table by_count tt (stack_size fs) c)
    (table by_count tt (stack_size fs + chain_size c) x) (advance_rows none c x fs)
advance_writes (some q) h c x fs n =
    regroup (stack_rows fs) (chain_table by_count tt (stack_size fs) c)
    (table by_count tt (stack_size fs + chain_size c) x) (advance_rows (some q) c x fs)

-- ---- frames that are pushed

pub shift_writes : (o : Infix) (x : Phrase) (fs : List Frame) → stack_rows (pending (infix_after o x) ∷ fs) ≡ part_rows x fs
unfolding stack_rows
shift_writes o x fs = refl

pub push_writes : (d : Option Due) (h : Hole) (o : Opening) (fs : List Frame) → written_in (pushed d (opening_frame h o) fs) ≡ stack_rows fs
unfolding stack_rows chain_table
push_writes none h (prefix_opening p) fs = refl
push_writes none h (form_opening f) fs = append-nil (stack_rows fs)
push_writes (some d) h (prefix_opening p) fs = refl
push_writes (some d) h (form_opening f) fs = append-nil (stack_rows fs)

-- ---- no unary minus ever waits for a numeral: `Apart` holds where a part is complete, and where an operator has taken one

abbrev pub ApartOn : List Frame → Phrase → Type 0
ApartOn [] x = Unit {0}
ApartOn (pending f ∷ fs) x = Apart f x
ApartOn (open_at h c ∷ fs) x = Unit {0}

abbrev pub Settled : Mode → List Frame → Type 0
Settled operand fs = Unit {0}
Settled (after x) fs = ApartOn fs x
Settled (due d f) fs = Unit {0}

none_negated : (p : Prefix) (x : Phrase) → constant_in x ≡ none → negated p x ≡ none
none_negated not_prefix x e = refl
none_negated minus_prefix x e = e
none_negated assert_prefix x e = refl
none_negated (assign_prefix v) x e = refl

pub apart_none : (fs : List Frame) (x : Phrase) → constant_in x ≡ none → ApartOn fs x
apart_none [] x e = tt
apart_none (pending (prefix p) ∷ fs) x e = none_negated p x e
apart_none (pending (infix_after o y) ∷ fs) x e = tt
apart_none (open_at h c ∷ fs) x e = tt

pub apart_apply : (f : Pending) (x : Phrase) (fs : List Frame) → ApartOn fs (apply f x)
apart_apply (prefix p) x fs = apart_none fs (before p x) refl
apart_apply (infix_after o y) x fs = apart_none fs (between o y x) refl

apart_constant : (n : ℕ) (fs : List Frame) → Settled (constant_on n fs).mode (constant_on n fs).stack
apart_constant n [] = tt
apart_constant n (pending (prefix not_prefix) ∷ fs) = refl
apart_constant n (pending (prefix minus_prefix) ∷ fs) = apart_none fs (before minus_prefix (leaf (constant_leaf n))) refl
apart_constant n (pending (prefix assert_prefix) ∷ fs) = refl
apart_constant n (pending (prefix (assign_prefix v)) ∷ fs) = refl
apart_constant n (pending (infix_after o x) ∷ fs) = tt
apart_constant n (open_at h c ∷ fs) = tt

pub apart_leaf : (l : Leaf) (fs : List Frame) → Settled (leaf_on l fs).mode (leaf_on l fs).stack
apart_leaf (constant_leaf n) fs = apart_constant n fs
apart_leaf (number_leaf n) fs = apart_none fs (leaf (number_leaf n)) refl
apart_leaf (variable_leaf v) fs = apart_none fs (leaf (variable_leaf v)) refl
apart_leaf (truth_leaf b) fs = apart_none fs (leaf (truth_leaf b)) refl
apart_leaf skip_leaf fs = apart_none fs (leaf skip_leaf) refl

pub apart_advance : (o : Option Place) (c : Chain) (x : Phrase) (fs : List Frame)
    → Settled (advance o c x fs).mode (advance o c x fs).stack
apart_advance none c x fs = apart_none fs (closed c x) refl
apart_advance (some q) c x fs = tt
