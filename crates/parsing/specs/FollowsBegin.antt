-- Where a part begins, the machine follows the automaton (`begin_follows`): a token's letter is the sort that it may
-- begin. By the moves of `Beginnings`. Assumes nothing.
use Rattle.std.specs.Prelude.{ℕ, ◌%◌, ◌<◌, ◌≡◌, true, false, List, [], ◌∷◌, ◌++◌, length}
use Rattle.std.proofs.Math.Path.{refl, ap}
use Rattle.std.proofs.Common.{◌∙◌}
use Rattle.std.proofs.Math.Option.{none, some}
use Rattle.script.specs.Listing.{guarded}
use Rattle.script.specs.declared.Operator.TheVariants.{Plus, Minus, Times, Div, Mod}
use Rattle.script.specs.declared.Relation.TheVariants.{Less, AtMost, Equal, Unequal}
use Rattle.script.specs.declared.Connective.TheVariants.{And, Or, Implies}
use Rattle.grammar.specs.Sorts.{number, expression, formula, statement, script, Hole, only, either, wide, begins}
use Rattle.grammar.specs.Operators.{semicolon, connective, relation, operator, not_prefix, minus_prefix, assert_prefix}
use Rattle.grammar.specs.Forms.{group_form, mark_form, when_form, if_form, while_form, script_form}
use Rattle.grammar.specs.Tokens.{bracket_closer, comma_closer, then_closer, else_closer, end_closer, keep_closer, fall_closer, do_closer, post_closer, end_of_text, Token, numeral, variable, truth_word, skip_word, not_word, assert_word, becomes, infix_word, form_word, closer_word, Leaf, truth_leaf, skip_leaf, leaf_makes, Opening, prefix_opening, form_opening, opening_makes, opening_due, opening_beginning, beginning as beginning-of}
use Rattle.grammar.specs.Grammar.{leaf}
use Rattle.grammar.specs.Rows.{Quad}
use Rattle.grammar.specs.States.{Frame, operand, after, at, hole as hole-of}
use Rattle.grammar.specs.Automaton.{opening_frame, begin as begin-at}
use Rattle.grammar.specs.Ranges.{depth, operand_flag, all_of}
use Rattle.grammar.specs.Numbers.{most, token_number, token_value}
use Rattle.grammar.specs.Tests.{false_is_not}
use Rattle.grammar.specs.Contexts.{GoodStack}
use Rattle.grammar.specs.Written.{stack_rows, part_rows, leaf_writes}
use Rattle.parser.specs.Symbols.{begins as beginnings}
use Rattle.parser.specs.Machine.{Config, beginning, begins as begins_by, is_leaf, opened, due_after, begin_leaf, begin_form, begin_word, begin}
use Rattle.parsing.specs.Encoding.{sort_letter, hole_letter, frame_number, group_number, Control}
use Rattle.parsing.specs.DataBegin.{leaf_move, opening_move, begin_move}
use Rattle.parsing.specs.Letters.{begins_nothing}
use Rattle.parsing.specs.Following.{from, Follows, went, stopped, tested}
use Rattle.parsing.specs.FollowsNumbers.{hole_here, begins_is, numeral_follows, variable_follows}
use Rattle.parsing.specs.Beginnings.{leaf_kept}
use Rattle.parsing.specs.Openings.{due_number, form_kept}

-- the number of a group tells whether it takes an expression only
group_opened : (h : Hole) → begins h expression ≡ true → opened 40 (hole_letter h) % 64 ≡ group_number (wide h)
group_opened (only number) e = false_is_not e
group_opened (only expression) e = refl
group_opened (only formula) e = refl
group_opened (only statement) e = false_is_not e
group_opened (only script) e = false_is_not e
group_opened either e = refl

module _ (fs : List Frame) (c : Config) (g : GoodStack fs) (k : Control (at operand fs) c) where
  -- ---- words: n is the number of the token

  leaf_follows : (l : Leaf) (q : Quad) (n p : ℕ) → part_rows (leaf l) fs ≡ stack_rows fs ++ (q ∷ [])
      → beginning n ≡ sort_letter (leaf_makes l)
      → is_leaf n ≡ true → begin_leaf c n ≡ leaf_move l fs c p
      → Follows (guarded (begins (hole-of fs) (leaf_makes l)) (some (at (after (leaf l)) fs))) (from c true p)
      (leaf_move l fs c p) (begin_word c n p)
  unfolding begin_word
  leaf_follows l q n p w e i m =
      tested _ (begins (hole-of fs) (leaf_makes l)) (begins_is fs c g k (beginning n) (leaf_makes l) e)
      (λ h. rw i (went (leaf_kept l q fs c n p k w e) (λ r. m)))
      (record { mode = refl; place = refl })

  opening_follows : (o : Opening) (n p : ℕ) → length fs < length c.stack
      → beginning n ≡ sort_letter (opening_makes o) → is_leaf n ≡ false
      → (begins (hole-of fs) (opening_makes o) ≡ true
      → opened n (hole_letter (hole-of fs)) % 64 ≡ frame_number (opening_frame (hole-of fs) o))
      → due_after n ≡ due_number (opening_due o) → begin_form c n ≡ opening_move o c p
      → Follows (begin-at (opening_beginning o) fs) (from c true p) (opening_move o c p) (begin_word c n p)
  unfolding begin_word
  opening_follows o n p l e i f d m =
      tested _ (begins (hole-of fs) (opening_makes o)) (begins_is fs c g k (beginning n) (opening_makes o) e)
      (λ h. rw i (went (form_kept o fs c n p k l (rw (hole_here fs c g k) (f h)) d) (λ r. m)))
      (record { mode = refl; place = refl })

  nothing_follows : (n p : ℕ) → beginning n ≡ 95 → Follows none (from c true p) c (begin_word c n p)
  unfolding begin_word
  nothing_follows n p e =
      rw (ap (λ b. begins_by b (beginning n)) (hole_here fs c g k) ∙ ap (λ b. begins_by (hole_letter (hole-of fs)) b)
      e ∙ begins_nothing (hole-of fs))
      (stopped (record { mode = refl; place = refl }))

  -- ---- all tokens

  pub begin_follows : (t : Token) (p : ℕ) → length fs < length c.stack → depth fs < most
      → Follows (begin-at (beginning-of t (hole-of fs)) fs) (from c (all_of (operand_flag fs t)) p)
      (begin_move (beginning-of t (hole-of fs)) fs c p)
      (begin c (token_number t) (token_value t) p)
  unfolding begin token_number token_value beginnings
  begin_follows (numeral n) p l d = numeral_follows fs c g k n p d
  begin_follows (variable v) p l d = variable_follows fs c g k v p l
  begin_follows (truth_word true) p l d =
      leaf_follows (truth_leaf true) _ 16 p (leaf_writes (truth_leaf true) fs) refl refl refl
  begin_follows (truth_word false) p l d =
      leaf_follows (truth_leaf false) _ 17 p (leaf_writes (truth_leaf false) fs) refl refl refl
  begin_follows skip_word p l d = leaf_follows skip_leaf _ 32 p (leaf_writes skip_leaf fs) refl refl refl
  begin_follows not_word p l d = opening_follows (prefix_opening not_prefix) 22 p l refl refl (λ h. refl) refl refl
  begin_follows assert_word p l d =
      opening_follows (prefix_opening assert_prefix) 38 p l refl refl (λ h. refl) refl refl
  begin_follows becomes p l d = nothing_follows 33 p refl
  begin_follows (infix_word semicolon) p l d = nothing_follows 34 p refl
  begin_follows (infix_word (connective And)) p l d = nothing_follows 23 p refl
  begin_follows (infix_word (connective Or)) p l d = nothing_follows 24 p refl
  begin_follows (infix_word (connective Implies)) p l d = nothing_follows 25 p refl
  begin_follows (infix_word (relation Less)) p l d = nothing_follows 18 p refl
  begin_follows (infix_word (relation AtMost)) p l d = nothing_follows 19 p refl
  begin_follows (infix_word (relation Equal)) p l d = nothing_follows 20 p refl
  begin_follows (infix_word (relation Unequal)) p l d = nothing_follows 21 p refl
  begin_follows (infix_word (operator Plus)) p l d = nothing_follows 3 p refl
  begin_follows (infix_word (operator Minus)) p l d =
      opening_follows (prefix_opening minus_prefix) 4 p l refl refl (λ h. refl) refl refl
  begin_follows (infix_word (operator Times)) p l d = nothing_follows 5 p refl
  begin_follows (infix_word (operator Div)) p l d = nothing_follows 6 p refl
  begin_follows (infix_word (operator Mod)) p l d = nothing_follows 7 p refl
  begin_follows (form_word group_form) p l d =
      opening_follows (form_opening group_form) 40 p l refl refl (group_opened (hole-of fs)) refl refl
  begin_follows (form_word mark_form) p l d =
      opening_follows (form_opening mark_form) 9 p l refl refl (λ h. refl) refl refl
  begin_follows (form_word when_form) p l d =
      opening_follows (form_opening when_form) 10 p l refl refl (λ h. refl) refl refl
  begin_follows (form_word if_form) p l d =
      opening_follows (form_opening if_form) 35 p l refl refl (λ h. refl) refl refl
  begin_follows (form_word while_form) p l d =
      opening_follows (form_opening while_form) 36 p l refl refl (λ h. refl) refl refl
  begin_follows (form_word script_form) p l d =
      opening_follows (form_opening script_form) 48 p l refl refl (λ h. refl) refl refl
  begin_follows (closer_word bracket_closer) p l d = nothing_follows 41 p refl
  begin_follows (closer_word comma_closer) p l d = nothing_follows 42 p refl
  begin_follows (closer_word then_closer) p l d = nothing_follows 43 p refl
  begin_follows (closer_word else_closer) p l d = nothing_follows 44 p refl
  begin_follows (closer_word end_closer) p l d = nothing_follows 45 p refl
  begin_follows (closer_word keep_closer) p l d = nothing_follows 46 p refl
  begin_follows (closer_word fall_closer) p l d = nothing_follows 47 p refl
  begin_follows (closer_word do_closer) p l d = nothing_follows 49 p refl
  begin_follows (closer_word post_closer) p l d = nothing_follows 50 p refl
  begin_follows (closer_word end_of_text) p l d = nothing_follows 51 p refl
