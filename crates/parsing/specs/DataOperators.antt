-- The row that the machine writes for an operator that takes its part (`operator_held`). Assumes nothing.
use Rattle.std.specs.Prelude.{ℕ, ◌+◌, ◌-◌, ◌%◌, ◌<◌, ◌≡◌, refl, Bool, true, false, cond, List, [], ◌∷◌, ◌++◌, ℤ, pos, length}
use Rattle.std.proofs.Common.{sym, subst, arith as linear, ltb-true, lit<}
use Rattle.script.specs.declared.Operator.TheVariants.{Plus, Minus, Times, Div, Mod}
use Rattle.script.specs.declared.Relation.TheVariants.{Less, AtMost, Equal, Unequal}
use Rattle.script.specs.declared.Connective.TheVariants.{And, Or, Implies}
use Rattle.grammar.specs.Operators.{Infix, semicolon, connective, relation, operator, not_prefix, minus_prefix, assert_prefix, assign_prefix}
use Rattle.grammar.specs.Grammar.{Phrase}
use Rattle.grammar.specs.Counts.{size, last}
use Rattle.grammar.specs.Rows.{Quad, quad, infix_kind}
use Rattle.grammar.specs.States.{Pending, prefix, infix_after, Frame, pending}
use Rattle.grammar.specs.Ranges.{depth, All}
use Rattle.grammar.specs.Numbers.{infix_number}
use Rattle.grammar.specs.StateFlags.{frame_flags}
use Rattle.grammar.specs.Written.{stack_size, pending_row}
use Rattle.parser.specs.Machine.{first_part, word, with_words, with_row, is_single, operator_row}
use Rattle.parsing.specs.Encoding.{pending_word}
use Rattle.parsing.specs.DataRows.{Held, with_row_held, with_words_length, Writable, row_small}
use Rattle.parsing.specs.DataStack.{first_is}
use Rattle.parsing.specs.DataLetters.{operator_letters, pending_word_number}

-- its number is the kind of its row
infix_kind_is : (o : Infix) → infix_kind o ≡ pos (infix_number o)
infix_kind_is semicolon = refl
infix_kind_is (connective And) = refl
infix_kind_is (connective Or) = refl
infix_kind_is (connective Implies) = refl
infix_kind_is (relation Less) = refl
infix_kind_is (relation AtMost) = refl
infix_kind_is (relation Equal) = refl
infix_kind_is (relation Unequal) = refl
infix_kind_is (operator Plus) = refl
infix_kind_is (operator Minus) = refl
infix_kind_is (operator Times) = refl
infix_kind_is (operator Div) = refl
infix_kind_is (operator Mod) = refl

infix_not_single : (o : Infix) → is_single (infix_number o) ≡ false
infix_not_single semicolon = refl
infix_not_single (connective And) = refl
infix_not_single (connective Or) = refl
infix_not_single (connective Implies) = refl
infix_not_single (relation Less) = refl
infix_not_single (relation AtMost) = refl
infix_not_single (relation Equal) = refl
infix_not_single (relation Unequal) = refl
infix_not_single (operator Plus) = refl
infix_not_single (operator Minus) = refl
infix_not_single (operator Times) = refl
infix_not_single (operator Div) = refl
infix_not_single (operator Mod) = refl

double_row : (ws : List ℤ) (rows f k a : ℕ) → f % 64 ≡ k → is_single k ≡ false → first_part f ≡ a
    → operator_row ws rows f ≡ with_row ws rows k a (rows - 1) 0
double_row ws rows f k a e s p = rw (e, s, p)

module _ (ws : List ℤ) (qs : List Quad) (rows : ℕ) (w : Writable ws qs rows) where
  single_held : (k r : ℕ) → k < 64 → rows - 1 ≡ r → Held (with_row ws rows k (rows - 1) 0 0)
      (qs ++ (quad (pos k) r 0 0 ∷ []))
  single_held k r l e =
      let c = w.counted in
      let small = row_small w in
      subst (λ (a : ℕ). Held (with_row ws rows k (rows - 1) 0 0) (qs ++ (quad (pos k) a 0 0 ∷ []))) e
      (with_row_held ws qs rows k (rows - 1) 0 0 w (omega linear) (omega linear) (lit< tt) (lit< tt))

  double_held : (k a r : ℕ) → k < 64 → a < 4096 → rows - 1 ≡ r
      → Held (with_row ws rows k a (rows - 1) 0) (qs ++ (quad (pos k) a r 0 ∷ []))
  double_held k a r l m e =
      let c = w.counted in
      let small = row_small w in
      subst (λ (b : ℕ). Held (with_row ws rows k a (rows - 1) 0) (qs ++ (quad (pos k) a b 0 ∷ []))) e
      (with_row_held ws qs rows k a (rows - 1) 0 w (omega linear) (omega linear) (omega linear) (lit< tt))

pub operator_held : (f : Pending) (fs : List Frame) (x : Phrase) (ws : List ℤ) (qs : List Quad) (rows : ℕ)
    → Writable ws qs rows
    → length qs ≡ stack_size (pending f ∷ fs) + size x → All (frame_flags (depth fs) (pending f))
    → Held (operator_row ws rows (pending_word f (stack_size fs))) (qs ++ (pending_row f (stack_size fs) (size x) ∷ []))
unfolding stack_size
operator_held (prefix not_prefix) fs x ws qs rows w l h =
    let c = w.counted in
    single_held ws qs rows w 22 (last (stack_size fs) (size x)) (lit< tt) (omega linear)
operator_held (prefix minus_prefix) fs x ws qs rows w l h =
    let c = w.counted in
    single_held ws qs rows w 8 (last (stack_size fs) (size x)) (lit< tt) (omega linear)
operator_held (prefix assert_prefix) fs x ws qs rows w l h =
    let c = w.counted in
    single_held ws qs rows w 38 (last (stack_size fs) (size x)) (lit< tt) (omega linear)
operator_held (prefix (assign_prefix v)) fs x ws qs rows w l h =
    let c = w.counted in
    let low = ltb-true v 1024 h.0 in
    let r = last (stack_size fs) (size x) in
    let f = pending_word (prefix (assign_prefix v)) (stack_size fs) in
    subst (λ (k : List ℤ). Held k (qs ++ (quad (pos 33) v r 0 ∷ [])))
    (sym (double_row ws rows f 33 v (pending_word_number (prefix (assign_prefix v)) (stack_size fs)) refl
    (first_is 33 v 0 (omega linear))))
    (double_held ws qs rows w 33 v r (lit< tt) (omega linear) (omega linear))
operator_held (infix_after o y) fs x ws qs rows w l h =
    let c = w.counted in
    let small = row_small w in
    let a = last (stack_size fs) (size y) in
    let r = last (stack_size fs + size y) (size x) in
    let f = pending_word (infix_after o y) (stack_size fs) in
    let low : a < 4096 = omega linear in
    subst (λ (k : List ℤ). Held k (qs ++ (pending_row (infix_after o y) (stack_size fs) (size x) ∷ [])))
    (sym (double_row ws rows f (infix_number o) a (pending_word_number (infix_after o y) (stack_size fs))
    (infix_not_single o)
    (first_is (infix_number o) a 0 low)))
    (rw (infix_kind_is o) (double_held ws qs rows w (infix_number o) a r (operator_letters (infix_after o y)).0 low
    (omega linear)))

pub operator_row_length : (ws : List ℤ) (rows f : ℕ) → length (operator_row ws rows f) ≡ length ws
operator_row_length ws rows f =
    at (is_single (f % 64)) (word (f % 64) ∷ word (rows - 1) ∷ word 0 ∷ word 0 ∷ [])
    (word (f % 64) ∷ word (first_part f) ∷ word (rows - 1) ∷ word 0 ∷ [])
  where
    at : (b : Bool) (us vs : List ℤ) → length (cond b (with_words ws rows us) (with_words ws rows vs)) ≡ length ws
    at true us vs = with_words_length ws us rows
    at false us vs = with_words_length ws vs rows
