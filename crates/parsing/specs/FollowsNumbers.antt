-- Where a part begins with a numeral or a variable, the machine follows the automaton (`numeral_follows`,
-- `variable_follows`). By the moves of `Beginnings`. Assumes nothing.
use Rattle.std.specs.Prelude.{ℕ, ◌%◌, ◌<◌, min, ◌≡◌, Bool, cond, ◌&&◌, List, [], ◌∷◌, leb, length}
use Rattle.std.proofs.Math.Path.{refl, ap}
use Rattle.std.proofs.Common.{◌∙◌, arith as linear}
use Rattle.std.proofs.Math.Bool.{true, false}
use Rattle.std.proofs.Math.Dec.{eqb}
use Rattle.grammar.specs.Sorts.{Sort, number, expression, statement, begins}
use Rattle.grammar.specs.Operators.{not_prefix, minus_prefix, assert_prefix, assign_prefix}
use Rattle.grammar.specs.Tokens.{numeral, variable, constant_leaf, number_leaf, variable_leaf, prefix_opening, leaf_beginning, opening_beginning, beginning as beginning-of}
use Rattle.grammar.specs.Grammar.{place}
use Rattle.grammar.specs.States.{prefix, infix_after, Frame, pending, open_at, operand, at, hole as hole-of}
use Rattle.grammar.specs.Automaton.{begin as begin-at}
use Rattle.grammar.specs.Ranges.{limit, mark_fits, variable_fits, after_minus, depth, operand_flag, all_of}
use Rattle.grammar.specs.Numbers.{most, token_value}
use Rattle.grammar.specs.Contexts.{GoodStack}
use Rattle.parser.specs.Machine.{Config, config, top_frame, hole, begins as begins_by, refused, begin_count, begin_constant, begin_numeral, begin_variable, begin_assignment, begin_name}
use Rattle.parsing.specs.Encoding.{sort_letter, hole_letter, Control}
use Rattle.parsing.specs.DataBegin.{begin_move, constant_value, mark_value, variable_value}
use Rattle.parsing.specs.Letters.{begins_letters, counts_letter, assigns_letter}
use Rattle.parsing.specs.FrameLetters.{top_number, place_letters}
use Rattle.parsing.specs.TokenLetters.{infix_letters}
use Rattle.parsing.specs.Stacks.{hole_is, stands_top}
use Rattle.parsing.specs.Capped.{limit_capped, variable_capped, mark_capped}
use Rattle.parsing.specs.Following.{from, Follows, went, tested}
use Rattle.parsing.specs.Beginnings.{count_kept, constant_kept, variable_kept}
use Rattle.parsing.specs.Openings.{assignment_kept}

and_true : (b : Bool) → (b && true) ≡ b
and_true true = refl
and_true false = refl

minus_top : (fs : List Frame) → eqb (top_number fs) 8 ≡ after_minus fs
minus_top [] = refl
minus_top (pending (prefix not_prefix) ∷ fs) = refl
minus_top (pending (prefix minus_prefix) ∷ fs) = refl
minus_top (pending (prefix assert_prefix) ∷ fs) = refl
minus_top (pending (prefix (assign_prefix v)) ∷ fs) = refl
minus_top (pending (infix_after o x) ∷ fs) = (infix_letters o).6
minus_top (open_at h c ∷ fs) = (place_letters h (place c)).2

module _ (fs : List Frame) (c : Config) (g : GoodStack fs) (k : Control (at operand fs) c) where
  top_is : top_frame c.stack c.state.top % 64 ≡ top_number fs
  top_is = stands_top fs c.stack c.state.top k.numbers

  pub hole_here : hole (top_frame c.stack c.state.top) ≡ hole_letter (hole-of fs)
  hole_here = hole_is fs c.stack c.state.top g k.numbers

  pub begins_is : (n : ℕ) (s : Sort) → n ≡ sort_letter s
      → begins_by (hole (top_frame c.stack c.state.top)) n ≡ begins (hole-of fs) s
  begins_is n s e = rw (hole_here, e) (begins_letters (hole-of fs) s)

  -- ---- numerals

  pub numeral_follows : (n p : ℕ) → depth fs < most
      → Follows (begin-at (beginning-of (numeral n) (hole-of fs)) fs) (from c (all_of (operand_flag fs (numeral n))) p)
      (begin_move (beginning-of (numeral n) (hole-of fs)) fs c p) (begin_numeral c (min n most) p)
  unfolding begin_numeral token_value
  numeral_follows n p l =
      rw (
        ap (λ h. eqb h 78) hole_here ∙ counts_letter (hole-of fs),
        begins_is 69 expression refl,
        ap (λ i. eqb i 8)
            top_is ∙ minus_top fs,
      )
      (at_test (begins (hole-of fs) number) refl)
    where
      at_test : (b : Bool) → begins (hole-of fs) number ≡ b
          → Follows (begin-at (leaf_beginning (cond b (number_leaf n) (constant_leaf n))) fs)
          (from c (cond b (mark_fits (depth fs) n) (leb n (limit (after_minus fs))) && true) p)
          (begin_move (leaf_beginning (cond b (number_leaf n) (constant_leaf n))) fs c p)
          (cond b (config (begin_count c.state (min n most) p) c.stack c.words)
          (cond (begins (hole-of fs) expression) (begin_constant c (after_minus fs) (min n most) p)
          (config (refused c.state p) c.stack c.words)))
      at_test true e =
          rw (e, and_true (mark_fits (depth fs) n)) (went
          (count_kept fs c n (min n most) p k (mark_capped (depth fs) n l))
          (λ h. ap (λ (v : ℕ). config (begin_count c.state v p) c.stack c.words)
          (mark_value (depth fs) n h (omega linear))))
      at_test false e =
          rw (and_true (leb n (limit (after_minus fs))))
          (tested (begins (hole-of fs) expression) (begins (hole-of fs) expression) refl
          (λ h. went (constant_kept fs c n (min n most) p k (limit_capped (after_minus fs) n))
          (λ i. ap (λ (v : ℕ). begin_constant c (after_minus fs) v p) (constant_value (after_minus fs) n i)))
          (record { mode = refl; place = refl }))

  -- ---- variables

  pub variable_follows : (n p : ℕ) → length fs < length c.stack
      → Follows (begin-at (beginning-of (variable n) (hole-of fs)) fs)
      (from c (all_of (operand_flag fs (variable n))) p)
      (begin_move (beginning-of (variable n) (hole-of fs)) fs c p) (begin_name c (min n most) p)
  unfolding begin_name token_value
  variable_follows n p l =
      rw (
        ap (λ h. eqb h 83) hole_here ∙ assigns_letter (hole-of fs),
        begins_is 69 expression refl,
        and_true
            (variable_fits n),
      )
      (at_test (begins (hole-of fs) statement) refl)
    where
      at_test : (b : Bool) → begins (hole-of fs) statement ≡ b
          → Follows (begin-at (cond b (opening_beginning (prefix_opening (assign_prefix n)))
          (leaf_beginning (variable_leaf n))) fs)
          (from c (variable_fits n) p)
          (begin_move (cond b (opening_beginning (prefix_opening (assign_prefix n)))
          (leaf_beginning (variable_leaf n))) fs c p)
          (cond b (begin_assignment c (min n most) p)
          (cond (begins (hole-of fs) expression) (begin_variable c (min n most) p)
          (config (refused c.state p) c.stack c.words)))
      at_test true e =
          rw e (went (assignment_kept fs c n (min n most) p k l (variable_capped n))
          (λ i. ap (λ (v : ℕ). begin_assignment c v p) (variable_value n i)))
      at_test false e =
          tested (begins (hole-of fs) expression) (begins (hole-of fs) expression) refl
          (λ h. went (variable_kept fs c n (min n most) p k (variable_capped n))
          (λ i. ap (λ (v : ℕ). begin_variable c v p) (variable_value n i))) (record { mode = refl; place = refl })
