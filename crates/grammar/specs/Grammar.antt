-- The grammar of `Productions`, as trees. A phrase is a tree of the text, with its brackets: a leaf, an operator with its
-- parts, or a closed form with the chain of its parts. `words` are its tokens; `Good` says that each part has the sort
-- and the level that its place asks for: a derivation is a good phrase. What it stands for is in `Meaning`. Assumes
-- nothing.
use Rattle.std.specs.Prelude.{ℕ, suc, ◌≤◌, ◌<◌, ◌≡◌, List, [], ◌∷◌, ◌++◌, true}
use Rattle.std.proofs.Math.Option.{Option, none, some}
use Rattle.grammar.specs.Sorts.{Sort, takes}
use Rattle.grammar.specs.Operators.{Infix, Prefix, infix_takes, infix_makes, prefix_takes, prefix_makes, infix_level, infix_binds, prefix_level, top}
use Rattle.grammar.specs.Forms.{Form, Place, first_place, next_place, place_takes, place_makes}
use Rattle.grammar.specs.Tokens.{Token, infix_word, Due, due_word, ending, ending_word, Leaf, leaf_makes, leaf_word, Opening, prefix_opening, form_opening, opening_word, opening_due}

mutual
  pub data Phrase : Type 0 where
    leaf : Leaf → Phrase
    before : Prefix → Phrase → Phrase
    between : Infix → Phrase → Phrase → Phrase
    -- a form: what stands before its last part, and that part
    closed : Chain → Phrase → Phrase

  -- what stands before a place of a form
  pub data Chain : Type 0 where
    begun : Form → Chain
    -- one part more, up to this place
    more : Chain → Phrase → Place → Chain

abbrev pub place : Chain → Place
place (begun f) = first_place f
place (more c p q) = q

-- ---- tokens

abbrev pub due_words : Option Due → List Token
due_words none = []
due_words (some d) = due_word d ∷ []

abbrev pub opening_words : Opening → List Token
opening_words o = opening_word o ∷ due_words (opening_due o)

unfoldable mutual
  pub words : Phrase → List Token
  words (leaf l) = leaf_word l ∷ []
  words (before p x) = opening_words (prefix_opening p) ++ words x
  words (between o x y) = words x ++ (infix_word o ∷ words y)
  words (closed c x) = chain_words c ++ (words x ++ (ending_word (ending (place c)) ∷ []))

  pub chain_words : Chain → List Token
  chain_words (begun f) = opening_words (form_opening f)
  chain_words (more c x q) = chain_words c ++ (words x ++ (ending_word (ending (place c)) ∷ []))

-- ---- sort and level

abbrev pub sort : Phrase → Sort
sort (leaf l) = leaf_makes l
sort (before p x) = prefix_makes p
sort (between o x y) = infix_makes o
sort (closed c x) = place_makes (place c) (sort x)

abbrev pub level : Phrase → ℕ
level (leaf l) = top
level (before p x) = prefix_level p
level (between o x y) = infix_level o
level (closed c x) = top

-- the level below which an operator left of it must be
abbrev pub binds : Phrase → ℕ
binds (leaf l) = suc top
binds (before p x) = suc (prefix_level p)
binds (between o x y) = infix_binds o
binds (closed c x) = suc top

-- ---- what a derivation is

unfoldable mutual
  pub Good : Phrase → Type 0
  Good (leaf l) = Unit {0}
  Good (before p x) = Good x × (sort x ≡ prefix_takes p) × (prefix_level p < binds x)
  Good (between o x y) =
      Good x × Good y × (sort x ≡ infix_takes o) × (sort y ≡ infix_takes o) × (infix_binds o ≤ level x) × (infix_level o < binds y)
  Good (closed c x) = GoodChain c × Good x × (takes (place_takes (place c)) (sort x) ≡ true) × (next_place (place c) ≡ none)

  pub GoodChain : Chain → Type 0
  GoodChain (begun f) = Unit {0}
  GoodChain (more c x q) = GoodChain c × Good x × (takes (place_takes (place c)) (sort x) ≡ true) × (next_place (place c) ≡ some q)
