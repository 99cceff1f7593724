-- A token where a part begins: the machine's move for what it begins (`begin_move`) keeps what is known (`begin_data`),
-- given that the token's number is in range (`BegunRange`, from the automaton's flag by `begun_range`). Then a word
-- that was due, the semicolon that `post` gives up (`given_up_data`), and the start (`start_data`). Assumes nothing.
use Rattle.std.specs.Prelude.{ℕ, ◌*◌, ◌-◌, ◌≤◌, ◌<◌, ◌≡◌, refl, Bool, true, false, cond, List, [], ◌∷◌, ℤ, pos, leb, length, replicate}
use Rattle.std.proofs.Common.{sym, ap, ◌∙◌, subst, arith as linear, leb-true, ltb-true}
use Rattle.std.proofs.Math.Option.{some}
use Rattle.theorems.specs.Options.{none_is_not, some_inj, held}
use Rattle.grammar.specs.Sorts.{number, same_sort, begins}
use Rattle.grammar.specs.Operators.{Infix, not_prefix, minus_prefix, assert_prefix, assign_prefix}
use Rattle.grammar.specs.Tokens.{Leaf, constant_leaf, number_leaf, variable_leaf, truth_leaf, skip_leaf, leaf_makes, Opening, prefix_opening, form_opening, opening_makes, opening_word, opening_due, Token, numeral, variable, Beginning, leaf_beginning, opening_beginning, no_beginning}
use Rattle.grammar.specs.Grammar.{Phrase, sort}
use Rattle.grammar.specs.Meaning.{flat}
use Rattle.grammar.specs.States.{infix_after, Frame, pending, hole, operand, after, State, at, start}
use Rattle.grammar.specs.Automaton.{leaf_on, opening_frame, pushed, begin}
use Rattle.grammar.specs.Ranges.{limit, variable_fits, mark_fits, leaf_flags, prefix_flags, depth, after_minus, operand_flag, All}
use Rattle.grammar.specs.Outcome.{has_room}
use Rattle.grammar.specs.Numbers.{most, token_number, token_value}
use Rattle.grammar.specs.Tests.{both}
use Rattle.grammar.specs.WordLaws.{Begun}
use Rattle.grammar.specs.StateFlags.{leaf_flag}
use Rattle.grammar.specs.Written.{stack_rows, written_in, shift_writes}
use Rattle.parser.specs.Machine.{Config, config, complete, S, top_frame, hole as machine-hole, begin_count, begin_constant, begin_variable, begin_assignment, begin_leaf, begin_form, start as machine-start}
use Rattle.parsing.specs.Encoding.{hole_letter, frame_words, Data}
use Rattle.parsing.specs.DataRows.{Held}
use Rattle.parsing.specs.DataStack.{top_counts, topped, framed_popped}
use Rattle.parsing.specs.DataLeaf.{part_after, count_data, constant_data, variable_data, truth_data, skip_data}
use Rattle.parsing.specs.DataOpen.{assign_data, form_data}
use Rattle.parsing.specs.DataAfter.{found_data}

-- ---- the machine's moves

abbrev pub leaf_move : Leaf → List Frame → Config → ℕ → Config
leaf_move (constant_leaf v) fs c p = begin_constant c (after_minus fs) v p
leaf_move (number_leaf k) fs c p = config (begin_count c.state k p) c.stack c.words
leaf_move (variable_leaf v) fs c p = begin_variable c v p
leaf_move (truth_leaf b) fs c p = begin_leaf c (cond b 16 17)
leaf_move skip_leaf fs c p = begin_leaf c 32

abbrev pub opening_move : Opening → Config → ℕ → Config
opening_move (prefix_opening not_prefix) c p = begin_form c (token_number (opening_word (prefix_opening not_prefix)))
opening_move (prefix_opening minus_prefix) c p = begin_form c
    (token_number (opening_word (prefix_opening minus_prefix)))
opening_move (prefix_opening assert_prefix) c p = begin_form c
    (token_number (opening_word (prefix_opening assert_prefix)))
opening_move (prefix_opening (assign_prefix v)) c p = begin_assignment c v p
opening_move (form_opening f) c p = begin_form c (token_number (opening_word (form_opening f)))

abbrev pub begin_move : Beginning → List Frame → Config → ℕ → Config
begin_move no_beginning fs c p = c
begin_move (leaf_beginning l) fs c p = leaf_move l fs c p
begin_move (opening_beginning o) fs c p = opening_move o c p

-- ---- ranges

abbrev pub opening_flags : Opening → List Bool
opening_flags (prefix_opening p) = prefix_flags p
opening_flags (form_opening f) = []

-- what the token begins has its number in range
abbrev pub BegunRange : Beginning → List Frame → Type 0
BegunRange no_beginning fs = Unit {0}
BegunRange (leaf_beginning l) fs = All (leaf_flags (depth fs) (after_minus fs) l)
BegunRange (opening_beginning o) fs = All (opening_flags o)

opening_range : (o : Opening) (fs : List Frame) → opening_flags o ≡ operand_flag fs (opening_word o)
opening_range (prefix_opening not_prefix) fs = refl
opening_range (prefix_opening minus_prefix) fs = refl
opening_range (prefix_opening assert_prefix) fs = refl
opening_range (prefix_opening (assign_prefix v)) fs = refl
opening_range (form_opening f) fs = refl

-- from the flag of the token that is taken
pub begun_range : (b : Beginning) (t : Token) (fs : List Frame) (s : State) → Begun t b → begin b fs ≡ some s
    → All (operand_flag fs t)
    → BegunRange b fs
begun_range no_beginning t fs s b e a = tt
begun_range (leaf_beginning l) t fs s b e a =
    let g = (held (begins (hole fs) (leaf_makes l)) (some (leaf_on l fs)) e).0 in
    subst All (sym (leaf_flag l fs g ∙ ap (λ (w : Token). operand_flag fs w) b)) a
begun_range (opening_beginning o) t fs s b e a =
    subst All (sym (opening_range o fs ∙ ap (λ (w : Token). operand_flag fs w) b)) a

-- ---- what is kept

module _ (fs : List Frame) (c : Config) (d : Data (at operand fs) c) (p : ℕ) where
  leaf_data : (l : Leaf) → c.state.rows ≡ length (stack_rows fs) → c.state.bodies ≡ depth fs
      → All (leaf_flags (depth fs) (after_minus fs) l)
      → has_room (length c.words) (length (written_in (leaf_on l fs))) ≡ true
      → Data (leaf_on l fs) (leaf_move l fs c p)
  leaf_data (constant_leaf v) r i a room = constant_data fs c d r v p a.0 room
  leaf_data (number_leaf k) r i a room = count_data fs c d k p (ap (λ (n : ℕ). mark_fits n k) i ∙ a.0)
  leaf_data (variable_leaf v) r i a room = variable_data fs c d r v p a.0 room
  leaf_data (truth_leaf b) r i a room = truth_data fs c d r b room
  leaf_data skip_leaf r i a room = skip_data fs c d r room

  opening_data : (o : Opening) → c.state.top < length c.stack → All (opening_flags o)
      → begins (hole fs) (opening_makes o) ≡ true
      → machine-hole (top_frame c.stack c.state.top) ≡ hole_letter (hole fs)
      → Data (pushed (opening_due o) (opening_frame (hole fs) o) fs) (opening_move o c p)
  opening_data (prefix_opening not_prefix) l a b h = form_data (prefix_opening not_prefix) fs c tt d l b h
  opening_data (prefix_opening minus_prefix) l a b h = form_data (prefix_opening minus_prefix) fs c tt d l b h
  opening_data (prefix_opening assert_prefix) l a b h = form_data (prefix_opening assert_prefix) fs c tt d l b h
  opening_data (prefix_opening (assign_prefix v)) l a b h = assign_data fs c v p d l a.0
  opening_data (form_opening f) l a b h = form_data (form_opening f) fs c tt d l b h

  pub begin_data : (b : Beginning) (s : State) → c.state.rows ≡ length (stack_rows fs) → c.state.bodies ≡ depth fs
      → length fs < length c.stack → machine-hole (top_frame c.stack c.state.top) ≡ hole_letter (hole fs)
      → BegunRange b fs → begin b fs ≡ some s → has_room (length c.words) (length (written_in s)) ≡ true
      → Data s (begin_move b fs c p)
  begin_data no_beginning s r i l h a e room = none_is_not e
  begin_data (leaf_beginning j) s r i l h a e room =
      let is = (held (begins (hole fs) (leaf_makes j)) (some (leaf_on j fs)) e).1 in
      found_data (leaf_data j r i a (ap (λ (q : State). has_room (length c.words) (length (written_in q)))
      (some_inj is) ∙ room)) is
  begin_data (opening_beginning o) s r i l h a e room =
      let g = held (begins (hole fs) (opening_makes o))
      (some (pushed (opening_due o) (opening_frame (hole fs) o) fs)) e in
      let top = top_counts c.stack c.state.top fs d.frames in
      found_data (opening_data o (omega linear) a g.0 h) g.1

-- ---- numbers as they are scanned

pub constant_value : (m : Bool) (n : ℕ) → leb n (limit m) ≡ true → token_value (numeral n) ≡ n
unfolding token_value
constant_value true n e = let l = leb-true n 2147483648 e in omega linear
constant_value false n e = let l = leb-true n 2147483647 e in omega linear

pub mark_value : (d n : ℕ) → mark_fits d n ≡ true → d ≤ most → token_value (numeral n) ≡ n
unfolding token_value
mark_value d n e l = let k = leb-true n d (both (leb 1 n) (leb n d) e).1 in omega linear

pub variable_value : (v : ℕ) → variable_fits v ≡ true → token_value (variable v) ≡ v
unfolding token_value
variable_value v e = let l = ltb-true v 1024 e in omega linear

-- ---- post, and the start

-- the semicolon that waits is given up
pub given_up_data : (o : Infix) (x : Phrase) (fs : List Frame) (c : Config)
    → Data (at operand (pending (infix_after o x) ∷ fs)) c
    → same_sort (sort x) number ≡ false
    → Data (at (after x) fs) (config (complete c.state S c.state.rows (c.state.top - 1)) c.stack c.words)
unfolding frame_words
given_up_data o x fs c d n =
    part_after x fs (config (complete c.state S c.state.rows (c.state.top - 1)) c.stack c.words)
    (subst (λ (qs : List _). Held c.words qs) (shift_writes o x fs) d.words)
    (framed_popped (topped c.stack c.state.top _ (frame_words fs) d.frames)) n

pub start_data : (st : List ℕ) (ws : List ℤ) → ws ≡ replicate (length ws) (pos 0) → Data start (machine-start st ws)
unfolding stack_rows flat frame_words Rattle.parsing.specs.Encoding.framed
start_data st ws e =
    let z : length ws ≡ length ws - 4 * 0 = omega linear in
    record { words = e ∙ ap (λ (n : ℕ). replicate n (pos 0)) z; frames = refl; count = tt }
