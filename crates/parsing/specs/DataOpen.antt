-- Frames that the machine pushes: an assignment (`assign_data`), the other openings (`form_data`), an infix operator
-- after its left part (`infix_data`), and a second word that was due (`due_data`). No row is written. Assumes nothing.
use Rattle.std.specs.Prelude.{ℕ, ◌-◌, ◌<◌, ◌≡◌, refl, true, List, ◌∷◌, length}
use Rattle.std.proofs.Common.{sym, ap, ◌∙◌, subst, arith as linear}
use Rattle.std.proofs.Math.Option.{Option, none, some}
use Rattle.grammar.specs.Sorts.{number, expression, formula, statement, script, Hole, only, either, begins}
use Rattle.grammar.specs.Operators.{Infix, not_prefix, minus_prefix, assert_prefix, assign_prefix}
use Rattle.grammar.specs.Forms.{group_form, mark_form, when_form, if_form, while_form, script_form}
use Rattle.grammar.specs.Tokens.{Due, becomes_due, Opening, prefix_opening, form_opening, opening_makes, opening_word, opening_due}
use Rattle.grammar.specs.Grammar.{Phrase}
use Rattle.grammar.specs.Counts.{size, last, roots}
use Rattle.grammar.specs.Rows.{Quad}
use Rattle.grammar.specs.States.{prefix, infix_after, Frame, pending, hole, operand, after, due, at}
use Rattle.grammar.specs.Automaton.{opening_frame, pushed}
use Rattle.grammar.specs.Ranges.{variable_fits}
use Rattle.grammar.specs.Numbers.{infix_number, token_number}
use Rattle.grammar.specs.Tests.{false_is_not}
use Rattle.grammar.specs.Written.{stack_size, stack_rows, part_rows, push_writes, shift_writes}
use Rattle.parser.specs.Machine.{Config, config, frame, top_frame, hole as machine-hole, opened, begin_assignment, begin_form, push_infix, due as machine-due}
use Rattle.parsing.specs.Encoding.{hole_letter, frame_word, frame_words, framed, Data}
use Rattle.parsing.specs.DataRows.{Held}
use Rattle.parsing.specs.DataStack.{framed_put}
use Rattle.parsing.specs.DataSizes.{part_length}

-- ---- openings

-- the frame of an opening is pushed, and then perhaps a second word is due
push_data : (d : Option Due) (h : Hole) (o : Opening) (fs : List Frame) (c e : Config) → Data (at operand fs) c
    → e.words ≡ c.words
    → framed e.stack e.state.top ≡ frame_word (opening_frame h o) (stack_size fs) ∷ framed c.stack
    c.state.top
    → Data (pushed d (opening_frame h o) fs) e
unfolding frame_words
push_data none h o fs c e p w f =
    record {
      words = subst (λ (qs : List Quad). Held e.words qs) (sym (push_writes none h o fs))
          (subst (λ (ws : List _). Held ws (stack_rows fs)) (sym w) p.words);
      frames = f ∙ ap (λ (l : List ℕ). frame_word (opening_frame h o) (stack_size fs) ∷ l) p.frames;
      count = tt;
    }
push_data (some d) h o fs c e p w f =
    record {
      words = subst (λ (qs : List Quad). Held e.words qs) (sym (push_writes (some d) h o fs))
          (subst (λ (ws : List _). Held ws (stack_rows fs)) (sym w) p.words);
      frames = f ∙ ap (λ (l : List ℕ). frame_word (opening_frame h o) (stack_size fs) ∷ l) p.frames;
      count = tt;
    }

pub assign_data : (fs : List Frame) (c : Config) (v p : ℕ) → Data (at operand fs) c → c.state.top < length c.stack
    → variable_fits v ≡ true
    → Data (pushed (some becomes_due) (pending (prefix (assign_prefix v))) fs) (begin_assignment c v p)
unfolding begin_assignment
assign_data fs c v p d l e =
    push_data (some becomes_due) (hole fs) (prefix_opening (assign_prefix v)) fs c (begin_assignment c v p) d refl
    (rw e (framed_put c.stack c.state.top (frame 33 v 0) l))

-- all but an assignment
abbrev pub Worded : Opening → Type 0
Worded (prefix_opening not_prefix) = Unit {0}
Worded (prefix_opening minus_prefix) = Unit {0}
Worded (prefix_opening assert_prefix) = Unit {0}
Worded (prefix_opening (assign_prefix v)) = ⊥
Worded (form_opening f) = Unit {0}

-- a group has its number by what it takes
group_opened : (h : Hole) (b : ℕ) → begins h expression ≡ true
    → frame (opened 40 (hole_letter h)) 0 0 ≡ frame_word (opening_frame h (form_opening group_form)) b
unfolding roots
group_opened (only number) b e = false_is_not e
group_opened (only expression) b e = refl
group_opened (only formula) b e = refl
group_opened (only statement) b e = false_is_not e
group_opened (only script) b e = false_is_not e
group_opened either b e = refl

opened_is : (o : Opening) (h : Hole) (b : ℕ) → Worded o → begins h (opening_makes o) ≡ true
    → frame (opened (token_number (opening_word o)) (hole_letter h)) 0 0 ≡ frame_word (opening_frame h o) b
unfolding token_number roots
opened_is (prefix_opening not_prefix) h b w e = refl
opened_is (prefix_opening minus_prefix) h b w e = refl
opened_is (prefix_opening assert_prefix) h b w e = refl
opened_is (prefix_opening (assign_prefix v)) h b w e = absurd w
opened_is (form_opening group_form) h b w e = group_opened h b e
opened_is (form_opening mark_form) h b w e = refl
opened_is (form_opening when_form) h b w e = refl
opened_is (form_opening if_form) h b w e = refl
opened_is (form_opening while_form) h b w e = refl
opened_is (form_opening script_form) h b w e = refl

pub form_data : (o : Opening) (fs : List Frame) (c : Config) → Worded o → Data (at operand fs) c
    → c.state.top < length c.stack
    → begins (hole fs) (opening_makes o) ≡ true → machine-hole (top_frame c.stack c.state.top) ≡ hole_letter
    (hole fs)
    → Data (pushed (opening_due o) (opening_frame (hole fs) o) fs) (begin_form c (token_number (opening_word o)))
unfolding begin_form
form_data o fs c w d l b h =
    let k = token_number (opening_word o) in
    push_data (opening_due o) (hole fs) o fs c (begin_form c k) d refl
    (framed_put c.stack c.state.top (frame (opened k
    (machine-hole (top_frame c.stack c.state.top))) 0 0) l
    ∙ ap (λ (f : ℕ). f ∷ framed c.stack c.state.top)
    (ap (λ (i : ℕ). frame (opened k i) 0 0) h ∙ opened_is o (hole fs) (stack_size fs) w b))

-- the word that was due has come
pub due_data : (d : Due) (f : Frame) (fs : List Frame) (c : Config) → Data (at (due d f) fs) c
    → Data (at operand (f ∷ fs)) (config (machine-due c.state 0 c.state.top) c.stack c.words)
due_data d f fs c p = record { words = p.words; frames = p.frames; count = tt }

-- ---- an infix operator

pub infix_data : (o : Infix) (x : Phrase) (fs : List Frame) (c : Config) → Data (at (after x) fs) c
    → c.state.rows ≡ length (part_rows x fs) → c.state.top < length c.stack
    → Data (at operand (pending (infix_after o x) ∷ fs)) (push_infix c (infix_number o))
unfolding push_infix frame_words
infix_data o x fs c d r l =
    let e : c.state.rows - 1 ≡ last (stack_size fs) (size x) = omega (linear, part_length x fs) in
    record {
      words = subst (λ (qs : List Quad). Held c.words qs) (sym (shift_writes o x fs)) d.words;
      frames =
          framed_put c.stack c.state.top (frame (infix_number o) (c.state.rows - 1) 0) l
          ∙ ap (λ (a : ℕ). frame (infix_number o) a 0 ∷ framed c.stack c.state.top) e
          ∙ ap (λ (k : List ℕ). frame (infix_number o) (last (stack_size fs) (size x)) 0 ∷ k) d.frames;
      count = tt;
    }
