-- Where the reader stops. The first token that is refused is the first with which no text goes on (`stops_exactly`);
-- and when the end of the text is taken, a script is read whole (`ended`). Assumes nothing.
use Rattle.std.specs.Prelude.{◌≡◌, refl, List, [], ◌∷◌, ◌++◌, true, false}
use Rattle.std.proofs.Common.{sym, ap, ◌∙◌, subst, append_assoc, arith as linear}
use Rattle.std.proofs.Math.Option.{Option, none, some}
use Rattle.script.specs.Listing.{◌>>=◌, guarded}
use Rattle.theorems.specs.Options.{none_is_not, some_inj, held, went_on}
use Rattle.grammar.specs.Sorts.{expression, script, Hole, only, either, number, formula, statement, takes, wide, begins}
use Rattle.grammar.specs.Operators.{semicolon, connective, relation, operator, not_prefix, minus_prefix, assert_prefix, assign_prefix}
use Rattle.grammar.specs.Forms.{Place, in_group, in_mark, when_first, when_second, when_third, if_guard, if_then, if_else, while_guard, while_keep, while_fall, while_body, script_pre, script_body, script_post, next_place, place_takes, place_makes, group_form, mark_form, when_form, if_form, while_form, script_form}
use Rattle.grammar.specs.Tokens.{end_of_text, by_closer, ending, same_ending, Token, closer_word}
use Rattle.grammar.specs.Grammar.{Phrase, closed, Chain, begun, more, place, sort}
use Rattle.grammar.specs.States.{Pending, prefix, infix_after, Frame, pending, open_at, wants, hole, Mode, operand, after, due, State, at, start}
use Rattle.grammar.specs.Automaton.{reduce, go_on, close, advance, step_at}
use Rattle.grammar.specs.Reader.{take, read}
use Rattle.grammar.specs.Tests.{false_is_not}
use Rattle.grammar.specs.Complete.{chain_takes}
use Rattle.grammar.specs.Contexts.{GoodStack, Reads}
use Rattle.grammar.specs.Reduces.{reduce_keeps}
use Rattle.grammar.specs.Sound.{lower}
use Rattle.grammar.specs.TextSound.{came, read_keeps}
use Rattle.grammar.specs.TextViable.{read_append, Begins, text_viable, text_refused}

-- ---- the first token that is refused

-- the tokens that are taken, and the one that is not
pub record Stop (ts : List Token) : Type 0 where
  pub taken : List Token
  pub at_token : Token
  pub rest : List Token
  pub parted : taken ++ (at_token ∷ rest) ≡ ts
  -- what was taken begins a text
  pub before : Begins taken
  -- with this token it begins none
  pub after_it : Begins (taken ++ (at_token ∷ [])) → ⊥

stop_from : (ts : List Token) (us : List Token) (s : State) → read start us ≡ some s → read s ts ≡ none → Stop (us ++ ts)
unfolding read
stop_from [] us s h e = none_is_not (sym e)
stop_from (t ∷ ts) us s h e = at_test (take s t) refl (λ r q d. stop_from ts (us ++ (t ∷ [])) r q d) e
  where
    at_test : (o : Option State) → take s t ≡ o
        → ((r : State) → read start (us ++ (t ∷ [])) ≡ some r → read r ts ≡ none → Stop ((us ++ (t ∷ [])) ++ ts))
        → (o >>= λ r. read r ts) ≡ none → Stop (us ++ (t ∷ ts))
    at_test none k again q =
        record {
          taken = us;
          at_token = t;
          rest = ts;
          parted = refl;
          before = text_viable us s h;
          after_it = text_refused (us ++ (t ∷ [])) (read_append us (t ∷ []) start ∙ rw (h, k));
        }
    at_test (some r) k again q = rw (← append_assoc us (t ∷ []) ts) (again r (read_append us (t ∷ []) start ∙ rw (h, k)) q)

pub stops_exactly : (ts : List Token) → read start ts ≡ none → Stop ts
unfolding read
stops_exactly ts e = stop_from ts [] start refl e

-- ---- the end of the text

place_not_script : (p : Place) → begins (place_takes p) script ≡ false
place_not_script in_group = refl
place_not_script in_mark = refl
place_not_script when_first = refl
place_not_script when_second = refl
place_not_script when_third = refl
place_not_script if_guard = refl
place_not_script if_then = refl
place_not_script if_else = refl
place_not_script while_guard = refl
place_not_script while_keep = refl
place_not_script while_fall = refl
place_not_script while_body = refl
place_not_script script_pre = refl
place_not_script script_body = refl
place_not_script script_post = refl

group_not_script : (h : Hole) → begins h expression ≡ true → begins (wide h) script ≡ false
group_not_script (only number) e = refl
group_not_script (only expression) e = refl
group_not_script (only formula) e = refl
group_not_script (only statement) e = refl
group_not_script (only script) e = false_is_not e
group_not_script either e = refl

chain_not_script : (c : Chain) (h : Hole) → begins h (place_makes (place c) expression) ≡ true → begins (chain_takes h c) script ≡ false
chain_not_script (begun group_form) h e = group_not_script h e
chain_not_script (begun mark_form) h e = refl
chain_not_script (begun when_form) h e = refl
chain_not_script (begun if_form) h e = refl
chain_not_script (begun while_form) h e = refl
chain_not_script (begun script_form) h e = refl
chain_not_script (more c x q) h e = place_not_script q

wants_no_script : (f : Pending) → begins (only (wants f)) script ≡ false
wants_no_script (prefix not_prefix) = refl
wants_no_script (prefix minus_prefix) = refl
wants_no_script (prefix assert_prefix) = refl
wants_no_script (prefix (assign_prefix v)) = refl
wants_no_script (infix_after semicolon x) = refl
wants_no_script (infix_after (connective c) x) = refl
wants_no_script (infix_after (relation r) x) = refl
wants_no_script (infix_after (operator o) x) = refl

-- a script stands only at the bottom
at_bottom : (fs : List Frame) → GoodStack fs → begins (hole fs) script ≡ true → fs ≡ []
unfolding GoodStack
at_bottom [] g e = refl
at_bottom (pending f ∷ fs) g e = false_is_not (sym (wants_no_script f) ∙ e)
at_bottom (open_at h c ∷ fs) g e =
    let on = g.1 in
    false_is_not (sym (chain_not_script c (hole fs) on.2) ∙ ap (λ (i : Hole). begins i script) (sym on.1) ∙ e)

end_place : (p : Place) → same_ending (by_closer end_of_text) (ending p) ≡ true → p ≡ script_post
end_place in_group e = false_is_not e
end_place in_mark e = false_is_not e
end_place when_first e = false_is_not e
end_place when_second e = false_is_not e
end_place when_third e = false_is_not e
end_place if_guard e = false_is_not e
end_place if_then e = false_is_not e
end_place if_else e = false_is_not e
end_place while_guard e = false_is_not e
end_place while_keep e = false_is_not e
end_place while_fall e = false_is_not e
end_place while_body e = false_is_not e
end_place script_pre e = false_is_not e
end_place script_body e = false_is_not e
end_place script_post e = refl

Whole : State → Type 0
Whole s = (x : Phrase) × (s ≡ at (after x) [])

close_ends : (x : Phrase) (fs : List Frame) (s : State) → GoodStack fs → close (by_closer end_of_text) x fs ≡ some s → Whole s
unfolding Whole GoodStack
close_ends x [] s g e = none_is_not e
close_ends x (pending f ∷ fs) s g e = none_is_not e
close_ends x (open_at h c ∷ fs) s g e =
    let on = g.1 in
    let o : Option State = some (advance (next_place (place c)) c x fs) in
    let fit = held (takes h (sort x)) (guarded (same_ending (by_closer end_of_text) (ending (place c))) o) e in
    let end = held (same_ending (by_closer end_of_text) (ending (place c))) o fit.1 in
    let here = end_place (place c) end.0 in
    let bottom = at_bottom fs g.0 (ap (λ (p : Place). begins (hole fs) (place_makes p expression)) (sym here) ∙ on.2) in (
      closed c x,
      sym (some_inj end.1) ∙ ap (λ (p : Place). advance (next_place p) c x fs) here ∙ ap (λ (gs : List Frame). at (after (closed c x)) gs) bottom,
    )

end_step : (m : Mode) (fs : List Frame) (ts : List Token) (s : State) → Reads m fs ts → step_at m fs (closer_word end_of_text) ≡ some s → Whole s
end_step operand fs ts s h e = none_is_not e
end_step (due d f) fs ts s h e = none_is_not e
end_step (after x) fs ts s h e =
    let r = went_on (reduce 0 x fs) (go_on (closer_word end_of_text)) e in
    let l = reduce_keeps fs 0 x ts r.0 (lower 0 (omega linear) h) r.1 in
    close_ends r.0.got r.0.rest s l.part.stacked r.2

pub ended : (ts : List Token) (s : State) → read start (ts ++ (closer_word end_of_text ∷ [])) ≡ some s → (x : Phrase) × (s ≡ at (after x) [])
unfolding Whole read
ended ts s e =
    let k = went_on (read start ts) (λ r. read r (closer_word end_of_text ∷ [])) (sym (read_append ts (closer_word end_of_text ∷ []) start) ∙ e) in
    let q = k.0 in
    let c = read_keeps ts start [] q came k.1 in
    let j = went_on (take q (closer_word end_of_text)) (λ r. read r []) k.2 in
    subst Whole (some_inj j.2) (end_step q.mode q.stack c.through j.0 c.reads j.1)
