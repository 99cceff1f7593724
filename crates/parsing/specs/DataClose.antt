-- The end of a place, as the machine tells places apart: `close_data`. Assumes nothing.
use Rattle.std.specs.Prelude.{ℕ, ◌+◌, ◌%◌, ◌<◌, ◌≡◌, refl, true, false, List, ◌∷◌, pos, eqb, length}
use Rattle.std.proofs.Common.{sym, ap, ◌∙◌, subst, lit<}
use Rattle.std.proofs.Math.Option.{some}
use Rattle.grammar.specs.Sorts.{Sort, number, expression, formula, statement, script, same_sort, sort-discrete, Hole, only, either, takes}
use Rattle.grammar.specs.Forms.{Place, in_group, in_mark, when_first, when_second, when_third, if_guard, if_then, if_else, while_guard, while_keep, while_fall, while_body, script_pre, script_body, script_post, next_place, place_takes, place_makes}
use Rattle.grammar.specs.Grammar.{Phrase, closed, Chain, place, sort}
use Rattle.grammar.specs.Counts.{begins_body}
use Rattle.grammar.specs.Rows.{counts, form_rows, three}
use Rattle.grammar.specs.States.{Frame, open_at, after, at}
use Rattle.grammar.specs.Automaton.{advance}
use Rattle.grammar.specs.Ranges.{All}
use Rattle.grammar.specs.Outcome.{has_room}
use Rattle.grammar.specs.Tests.{false_is_not, same_is}
use Rattle.grammar.specs.StateFlags.{part_flags}
use Rattle.grammar.specs.Written.{part_rows, written_in}
use Rattle.parser.specs.Machine.{Config, top_frame, form_kind, is_last, is_group, close_form, close_mark, open_body, next_place as machine-next, close}
use Rattle.parsing.specs.Encoding.{group_number, place_number, Data}
use Rattle.parsing.specs.DataPlace.{place_number_is, next_data, body_data}
use Rattle.parsing.specs.DataForms.{popped, group_data, mark_data, closed_data}

-- ---- the machine's choice

module _ (m : Config) (g n : ℕ) (e : g % 64 ≡ n) where
  at_group : is_group n ≡ true → close m g ≡ popped m
  unfolding close
  at_group a = rw (e, a)

  at_mark : is_group n ≡ false → eqb n 9 ≡ true → close m g ≡ close_mark m
  unfolding close
  at_mark a b = rw (e, a, b)

  at_last : is_group n ≡ false → eqb n 9 ≡ false → is_last n ≡ true → close m g ≡ close_form m g
  unfolding close
  at_last a b l = rw (e, a, b, l)

  at_body : is_group n ≡ false → eqb n 9 ≡ false → is_last n ≡ false → eqb n 57 ≡ true → close m g ≡ open_body m g
  unfolding close
  at_body a b l k = rw (e, a, b, l, k)

  at_next : is_group n ≡ false → eqb n 9 ≡ false → is_last n ≡ false → eqb n 57 ≡ false → close m g ≡ machine-next m g
  unfolding close
  at_next a b l k = rw (e, a, b, l, k)

group_number_is : (h : Hole) → is_group (group_number h) ≡ true
group_number_is (only s) = refl
group_number_is either = refl

-- ---- every place

no_number : (s : Sort) → takes either s ≡ true → same_sort s number ≡ false
no_number number e = false_is_not e
no_number expression e = refl
no_number formula e = refl
no_number statement e = refl
no_number script e = refl

module _ (h : Hole) (c : Chain) (x : Phrase) (fs : List Frame) (m : Config)
    (d : Data (at (after x) (open_at h c ∷ fs)) m)
    (r : m.state.rows ≡ length (part_rows x (open_at h c ∷ fs))) (a : All (part_flags x (open_at h c ∷ fs))) where
  abbrev top : ℕ
  top = top_frame m.stack m.state.top

  number_at : (p : Place) → place c ≡ p → top % 64 ≡ place_number h p
  number_at p e = place_number_is h c x fs m d r ∙ ap (λ (q : Place). place_number h q) e

  -- the next place begins no body
  to_next : (p q : Place) → place c ≡ p → begins_body p ≡ false → begins_body q ≡ false
      → place_number h p + 1 ≡ place_number (place_takes q) q
      → close m top ≡ machine-next m top
      → has_room (length m.words) (length (written_in (advance (some q) c x fs))) ≡ true
      → Data (advance (some q) c x fs) (close m top)
  to_next p q e b n k i room =
      subst (λ (u : Config). Data (advance (some q) c x fs) u) (sym i)
      (next_data h c x fs m d r q (ap begins_body e ∙ b) n (ap (λ (u : Place). place_number h u + 1) e ∙ k) room)

  to_form : (p : Place) (k : ℕ) → place c ≡ p → form_kind (place_number h p) ≡ k → k < 65536
      → ((rs : List ℕ) (e : ℕ) → form_rows p (counts x) rs e ≡ three (pos k) rs e)
      → same_sort (place_makes p (sort x)) number ≡ false
      → close m top ≡ close_form m top → has_room (length m.words) (length (part_rows (closed c x) fs)) ≡ true
      → Data (at (after (closed c x)) fs) (close m top)
  to_form p k e i l t n s room =
      subst (λ (u : Config). Data (at (after (closed c x)) fs) u) (sym s)
      (closed_data h c x fs m d r k (ap (λ (q : Place). form_kind (place_number h q)) e ∙ i) l
      (λ rs z. ap (λ (q : Place). form_rows q (counts x) rs z) e ∙ t rs z)
      (ap (λ (q : Place). same_sort (place_makes q (sort x)) number) e ∙ n) room)

  close_at : (p : Place) → place c ≡ p → takes (place_takes p) (sort x) ≡ true
      → has_room (length m.words) (length (written_in (advance (next_place p) c x fs))) ≡ true
      → Data (advance (next_place p) c x fs) (close m top)
  close_at in_group e t room =
      subst (λ (u : Config). Data (at (after (closed c x)) fs) u)
      (sym (at_group m top (group_number h) (number_at in_group e) (group_number_is h)))
      (group_data h c x fs m d r e (no_number (sort x) t))
  close_at in_mark e t room =
      subst (λ (u : Config). Data (at (after (closed c x)) fs) u)
      (sym (at_mark m top 9 (number_at in_mark e) refl refl))
      (mark_data h c x fs m d r e (sym (same_is sort-discrete number (sort x) t)) a room)
  close_at when_first e t room =
      to_next when_first when_second e refl refl refl
      (at_next m top 49 (number_at when_first e) refl refl refl refl) room
  close_at when_second e t room =
      to_next when_second when_third e refl refl refl
      (at_next m top 50 (number_at when_second e) refl refl refl refl) room
  close_at when_third e t room =
      to_form when_third 10 e refl (lit< tt) (λ rs z. refl) refl
      (at_last m top 51 (number_at when_third e) refl refl refl) room
  close_at if_guard e t room =
      to_next if_guard if_then e refl refl refl (at_next m top 52 (number_at if_guard e) refl refl refl refl) room
  close_at if_then e t room =
      to_next if_then if_else e refl refl refl (at_next m top 53 (number_at if_then e) refl refl refl refl) room
  close_at if_else e t room =
      to_form if_else 35 e refl (lit< tt) (λ rs z. refl) refl
      (at_last m top 54 (number_at if_else e) refl refl refl) room
  close_at while_guard e t room =
      to_next while_guard while_keep e refl refl refl
      (at_next m top 55 (number_at while_guard e) refl refl refl refl) room
  close_at while_keep e t room =
      to_next while_keep while_fall e refl refl refl
      (at_next m top 56 (number_at while_keep e) refl refl refl refl) room
  close_at while_fall e t room =
      let s : same_sort (sort x) number ≡ false =
      ap (λ (u : Sort). same_sort u number) (sym (same_is sort-discrete expression (sort x) t)) in
      subst (λ (u : Config). Data (advance (some while_body) c x fs) u)
      (sym (at_body m top 57 (number_at while_fall e) refl refl refl refl))
      (body_data h c x fs m d r (ap begins_body e) s room)
  close_at while_body e t room =
      to_form while_body 36 e refl (lit< tt) (λ rs z. refl) refl
      (at_last m top 58 (number_at while_body e) refl refl refl) room
  close_at script_pre e t room =
      to_next script_pre script_body e refl refl refl
      (at_next m top 59 (number_at script_pre e) refl refl refl refl) room
  close_at script_body e t room =
      to_next script_body script_post e refl refl refl
      (at_next m top 60 (number_at script_body e) refl refl refl refl) room
  close_at script_post e t room =
      to_form script_post 48 e refl (lit< tt) (λ rs z. refl) refl
      (at_last m top 61 (number_at script_post e) refl refl refl) room

  pub close_data : takes (place_takes (place c)) (sort x) ≡ true
      → has_room (length m.words) (length (written_in (advance (next_place (place c)) c x fs))) ≡ true
      → Data (advance (next_place (place c)) c x fs) (close m top)
  close_data t room = close_at (place c) refl t room
