-- Rows and frames against tokens: a phrase makes no more rows than it has words (`size_fits`), the parts of a form
-- fewer than its words so far (`chain_fits`), and a stack has a word for each of its frames besides one for each row
-- (`stack_fits`). Assumes nothing.
use Rattle.std.specs.Prelude.{ℕ, ◌+◌, ◌≤◌, List, [], ◌∷◌, ◌++◌, Bool, true, false, cond, length}
use Rattle.std.proofs.Math.Option.{Option, none, some}
use Rattle.std.proofs.Common.{arith as linear, length-append}
use Rattle.grammar.specs.Forms.{Place, in_group, in_mark, when_first, when_second, when_third, if_guard, if_then, if_else, while_guard, while_keep, while_fall, while_body, script_pre, script_body, script_post}
use Rattle.grammar.specs.Tokens.{Token, infix_word, ending, ending_word, Leaf, constant_leaf, number_leaf, variable_leaf, truth_leaf, skip_leaf, prefix_opening}
use Rattle.grammar.specs.Grammar.{Phrase, leaf, before, between, closed, Chain, begun, more, place, opening_words, words, chain_words}
use Rattle.grammar.specs.Counts.{negated, size, chain_size, leaf_size, prefix_size, form_size, note_size, begins_body}
use Rattle.grammar.specs.States.{prefix, infix_after, Frame, pending, open_at}
use Rattle.grammar.specs.Contexts.{pending_words, stack_words}
use Rattle.grammar.specs.Written.{stack_size}

leaf_fits : (l : Leaf) → leaf_size l ≤ 1
leaf_fits (constant_leaf n) = omega linear
leaf_fits (number_leaf n) = omega linear
leaf_fits (variable_leaf v) = omega linear
leaf_fits (truth_leaf b) = omega linear
leaf_fits skip_leaf = omega linear

prefix_fits : (o : Option ℕ) (n m : ℕ) → n + 1 ≤ m → prefix_size o n ≤ m
prefix_fits none n m h = omega linear
prefix_fits (some z) n m h = omega linear

form_fits : (p : Place) → form_size p ≤ 1
form_fits in_group = omega linear
form_fits in_mark = omega linear
form_fits when_first = omega linear
form_fits when_second = omega linear
form_fits when_third = omega linear
form_fits if_guard = omega linear
form_fits if_then = omega linear
form_fits if_else = omega linear
form_fits while_guard = omega linear
form_fits while_keep = omega linear
form_fits while_fall = omega linear
form_fits while_body = omega linear
form_fits script_pre = omega linear
form_fits script_body = omega linear
form_fits script_post = omega linear

note_fits : (q : Place) → note_size q ≤ 1
note_fits q = at (begins_body q)
  where
    at : (b : Bool) → cond b 1 0 ≤ 1
    at true = omega linear
    at false = omega linear

three_words : (u v w : List Token) {a b c n : ℕ} → a ≤ length u → b ≤ length v → c ≤ length w → n ≤ a + b + c → n ≤ length (u ++ (v ++ w))
three_words u v w h i j k = omega (linear, length-append u (v ++ w), length-append v w)

mutual
  unfolding size words

  pub size_fits : (x : Phrase) → size x ≤ length (words x)
  size_fits (leaf l) = leaf_fits l
  size_fits (before p x) =
      prefix_fits (negated p x) (size x) _ (omega (linear, length-append (opening_words (prefix_opening p)) (words x), size_fits x))
  size_fits (between o x y) =
      omega (linear, length-append (words x) (infix_word o ∷ words y), size_fits x, size_fits y)
  size_fits (closed c x) =
      let e = ending_word (ending (place c)) ∷ [] in
      three_words (chain_words c) (words x) e (chain_fits c) (size_fits x) (form_fits (place c)) (omega linear)

  pub chain_fits : (c : Chain) → chain_size c + 1 ≤ length (chain_words c)
  chain_fits (begun f) = omega linear
  chain_fits (more c x q) =
      let e = ending_word (ending (place c)) ∷ [] in
      three_words (chain_words c) (words x) e (chain_fits c) (size_fits x) (note_fits q) (omega linear)

pub stack_fits : (fs : List Frame) → stack_size fs + length fs ≤ length (stack_words fs)
unfolding stack_size stack_words
stack_fits [] = omega linear
stack_fits (pending (prefix p) ∷ fs) =
    omega (linear, length-append (stack_words fs) (pending_words (prefix p)), stack_fits fs)
stack_fits (pending (infix_after o x) ∷ fs) =
    omega (linear, length-append (stack_words fs) (pending_words (infix_after o x)), length-append (words x) (infix_word o ∷ []), size_fits x, stack_fits fs)
stack_fits (open_at h c ∷ fs) = omega (linear, length-append (stack_words fs) (chain_words c), chain_fits c, stack_fits fs)
