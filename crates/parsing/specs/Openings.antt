-- The moves by which a frame is opened, each against that of the automaton: a prefix operator, a form, a variable
-- that is assigned. Assumes nothing.
use Rattle.std.specs.Prelude.{ℕ, ◌%◌, ◌<◌, ◌≡◌, refl, Bool, true, List, ◌∷◌, length}
use Rattle.std.proofs.Common.{sym, ap, ◌∙◌}
use Rattle.std.proofs.Math.Option.{Option, none, some}
use Rattle.grammar.specs.Sorts.{Hole}
use Rattle.grammar.specs.Operators.{assign_prefix}
use Rattle.grammar.specs.Forms.{group_form, mark_form, when_form, if_form, while_form, script_form}
use Rattle.grammar.specs.Tokens.{Due, bracket_due, becomes_due, Opening, prefix_opening, form_opening, opening_due}
use Rattle.grammar.specs.States.{prefix, Frame, pending, operand, due, at, hole as hole-of}
use Rattle.grammar.specs.Automaton.{opening_frame, pushed}
use Rattle.grammar.specs.Ranges.{variable_fits, depth}
use Rattle.grammar.specs.Written.{push_writes}
use Rattle.parser.specs.declared.State.{State}
use Rattle.parser.specs.Machine.{Config, config, frame, top_frame, put, top_after, hole, kept, begin_assignment, opened, due_after, begin_form}
use Rattle.parsing.specs.Encoding.{frame_number, mode_number, Control}
use Rattle.parsing.specs.DataStack.{put_length}
use Rattle.parsing.specs.Stacks.{stands_push, frame_mod}
use Rattle.parsing.specs.Counted.{rows_kept}
use Rattle.parsing.specs.Following.{from, Kept}

-- ---- frames that are opened

abbrev pub due_number : Option Due → ℕ
due_number none = 0
due_number (some bracket_due) = 2
due_number (some becomes_due) = 3

due_mode : (d : Due) (f : Frame) → due_number (some d) ≡ mode_number (due d f)
due_mode bracket_due f = refl
due_mode becomes_due f = refl

-- no body begins with a form
opening_depth : (h : Hole) (o : Opening) (fs : List Frame) → depth (opening_frame h o ∷ fs) ≡ depth fs
unfolding depth
opening_depth h (prefix_opening p) fs = refl
opening_depth h (form_opening group_form) fs = refl
opening_depth h (form_opening mark_form) fs = refl
opening_depth h (form_opening when_form) fs = refl
opening_depth h (form_opening if_form) fs = refl
opening_depth h (form_opening while_form) fs = refl
opening_depth h (form_opening script_form) fs = refl

pub opening_kept : (d : Option Due) (h : Hole) (o : Opening) (fs : List Frame) (c : Config) (s : State) (w : ℕ)
    (b : Bool) (p : ℕ)
    → Control (at operand fs) c → length fs < length c.stack → w % 64 ≡ frame_number (opening_frame h o)
    → s.mode ≡ due_number d
    → s.top ≡ top_after c.stack c.state.top → s.bodies ≡ c.state.bodies → s.rows ≡ c.state.rows
    → s.out ≡ (from c b p).out → s.place ≡ c.state.place
    → Kept (pushed d (opening_frame h o) fs) (from c b p) (config s (put c.stack c.state.top w) c.words)
opening_kept none h o fs c s w b p k l e m t d r u i =
    let f = opening_frame h o in
    record {
      control = record {
        mode = m;
        numbers = rw t (stands_push f fs c.stack c.state.top w k.numbers l e);
        sort = tt;
        bodies = d ∙ k.bodies ∙ sym (opening_depth h o fs);
        rows = r ∙ rows_kept (length c.words) c.state.rows _ _ k.rows (ap length (push_writes none h o fs));
      };
      out = u;
      place = i;
      stack = put_length c.stack c.state.top w;
      words = refl;
    }
opening_kept (some q) h o fs c s w b p k l e m t d r u i =
    let f = opening_frame h o in
    record {
      control = record {
        mode = m ∙ due_mode q f;
        numbers = rw t (stands_push f fs c.stack c.state.top w k.numbers l e);
        sort = tt;
        bodies = d ∙ k.bodies ∙ sym (opening_depth h o fs);
        rows =
            r ∙ rows_kept (length c.words) c.state.rows _ _ k.rows
            (ap length (push_writes (some q) h o fs));
      };
      out = u;
      place = i;
      stack = put_length c.stack c.state.top w;
      words = refl;
    }

pub assignment_kept : (fs : List Frame) (c : Config) (n v p : ℕ) → Control (at operand fs) c
    → length fs < length c.stack
    → variable_fits v ≡ variable_fits n
    → Kept (at (due becomes_due (pending (prefix (assign_prefix n)))) fs) (from c (variable_fits n) p)
    (begin_assignment c v p)
unfolding begin_assignment
assignment_kept fs c n v p k l e =
    opening_kept (some becomes_due) (hole-of fs) (prefix_opening (assign_prefix n)) fs c _
    (frame 33 (kept (variable_fits v) v) 0) (variable_fits n) p
    k l (frame_mod 33 (kept (variable_fits v) v) 0) refl refl refl refl (rw e) refl

pub form_kept : (o : Opening) (fs : List Frame) (c : Config) (n p : ℕ) → Control (at operand fs) c
    → length fs < length c.stack
    → opened n (hole (top_frame c.stack c.state.top)) % 64 ≡ frame_number (opening_frame (hole-of fs) o)
    → due_after n ≡ due_number (opening_due o)
    → Kept (pushed (opening_due o) (opening_frame (hole-of fs) o) fs) (from c true p) (begin_form c n)
unfolding begin_form
form_kept o fs c n p k l e d =
    let i = opened n (hole (top_frame c.stack c.state.top)) in
    opening_kept (opening_due o) (hole-of fs) o fs c _ (frame i 0 0) true p k l (frame_mod i 0 0 ∙ e) d refl refl
    refl refl refl
