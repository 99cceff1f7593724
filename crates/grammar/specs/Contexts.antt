-- A stack is a derivation with a hole: the words before the hole (`stack_words`), and that what stands there is good
-- (`GoodStack`). `Reads m fs ts` says that a state is what the words ts come to. Assumes nothing.
use Rattle.std.specs.Prelude.{ℕ, suc, ◌≤◌, ◌≡◌, List, [], ◌∷◌, ◌++◌, true}
use Rattle.grammar.specs.Sorts.{Sort, expression, begins}
use Rattle.grammar.specs.Operators.{infix_takes, infix_makes, infix_binds, prefix_level, prefix_makes, tight}
use Rattle.grammar.specs.Forms.{place_makes}
use Rattle.grammar.specs.Tokens.{Token, infix_word, due_word, prefix_opening}
use Rattle.grammar.specs.Grammar.{Phrase, place, words, chain_words, opening_words, sort, level, binds, Good, GoodChain}
use Rattle.grammar.specs.States.{Pending, prefix, infix_after, Frame, pending, open_at, hole, Mode, operand, after, due}
use Rattle.grammar.specs.Complete.{Below, chain_takes}

abbrev pub pending_words : Pending → List Token
pending_words (prefix p) = opening_words (prefix_opening p)
pending_words (infix_after o x) = words x ++ (infix_word o ∷ [])

abbrev pub frame_words : Frame → List Token
frame_words (pending f) = pending_words f
frame_words (open_at h c) = chain_words c

unfoldable pub stack_words : List Frame → List Token
stack_words [] = []
stack_words (f ∷ fs) = stack_words fs ++ frame_words f

abbrev pub pending_binds : Pending → ℕ
pending_binds (prefix p) = suc (prefix_level p)
pending_binds (infix_after o x) = infix_binds o

abbrev pub pending_makes : Pending → Sort
pending_makes (prefix p) = prefix_makes p
pending_makes (infix_after o x) = infix_makes o

abbrev pub GoodPending : Pending → Type 0
GoodPending (prefix p) = Unit {0}
GoodPending (infix_after o x) = Good x × (sort x ≡ infix_takes o) × (infix_binds o ≤ level x)

-- a frame on a stack
abbrev pub GoodOn : Frame → List Frame → Type 0
GoodOn (pending f) fs = GoodPending f × Below fs (pending_binds f) × (begins (hole fs) (pending_makes f) ≡ true)
GoodOn (open_at h c) fs = GoodChain c × (h ≡ chain_takes (hole fs) c) × (begins (hole fs) (place_makes (place c) expression) ≡ true)

unfoldable pub GoodStack : List Frame → Type 0
GoodStack [] = Unit {0}
GoodStack (f ∷ fs) = GoodStack fs × GoodOn f fs

-- a complete part on a stack
pub record Part (n : ℕ) (x : Phrase) (fs : List Frame) (ts : List Token) : Type 0 where
  pub stacked : GoodStack fs
  pub good : Good x
  pub below : Below fs (binds x)
  pub high : n ≤ level x
  pub fits : begins (hole fs) (sort x) ≡ true
  pub spelt : stack_words fs ++ words x ≡ ts

abbrev pub Reads : Mode → List Frame → List Token → Type 0
Reads operand fs ts = GoodStack fs × (stack_words fs ≡ ts)
Reads (after x) fs ts = Part tight x fs ts
Reads (due d f) fs ts = GoodStack (f ∷ fs) × (stack_words (f ∷ fs) ≡ ts ++ (due_word d ∷ []))
