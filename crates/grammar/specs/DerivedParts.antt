-- What the phrase of a derivation from a nonterminal is: good, of its sort, of at least its level, and spelled by the same
-- tokens (`Part`); and how the productions that raise, begin and join make one. Assumes nothing.
use Rattle.std.specs.Prelude.{ℕ, suc, ◌≤◌, ◌<◌, ◌≡◌, List, [], ◌∷◌, ◌++◌, true}
use Rattle.std.proofs.Common.{sym, ap, ◌∙◌, arith as linear}
use Rattle.grammar.specs.Sorts.{Sort, expression, formula, statement as statement-sort, script as script-sort, only, takes}
use Rattle.grammar.specs.Operators.{Infix, infix_takes, infix_makes, infix_level, infix_binds, Prefix, prefix_takes, prefix_makes, prefix_level}
use Rattle.grammar.specs.Tokens.{Token, infix_word, Leaf, leaf_makes, leaf_word, prefix_opening}
use Rattle.grammar.specs.Productions.{Nonterminal, script, statements, statement, implication, disjunction, conjunction, negation, comparison, sum, product, negative, operand}
use Rattle.grammar.specs.Grammar.{Phrase, leaf, before, between, opening_words, words, sort, level, binds, Good}
use Rattle.grammar.specs.Text.{text}
use Rattle.grammar.specs.Tests.{same_sorts}
use Rattle.grammar.specs.TextSound.{text_append}
use Rattle.grammar.specs.FormTexts.{prefix_text, leaf_text}

-- ---- sort and level of a nonterminal

abbrev pub sort_of : Nonterminal → Sort
sort_of script = script-sort
sort_of statements = statement-sort
sort_of statement = statement-sort
sort_of implication = formula
sort_of disjunction = formula
sort_of conjunction = formula
sort_of negation = formula
sort_of comparison = formula
sort_of sum = expression
sort_of product = expression
sort_of negative = expression
sort_of operand = expression

abbrev pub level_of : Nonterminal → ℕ
level_of script = 10
level_of statements = 0
level_of statement = 1
level_of implication = 2
level_of disjunction = 3
level_of conjunction = 4
level_of negation = 5
level_of comparison = 6
level_of sum = 7
level_of product = 8
level_of negative = 9
level_of operand = 10

abbrev pub binds_of : Nonterminal → ℕ
binds_of script = 11
binds_of statements = 1
binds_of statement = 2
binds_of implication = 3
binds_of disjunction = 3
binds_of conjunction = 4
binds_of negation = 6
binds_of comparison = 6
binds_of sum = 7
binds_of product = 8
binds_of negative = 10
binds_of operand = 11

pub record Part (n : Nonterminal) (x : Phrase) (ts : List Token) : Type 0 where
  pub good : Good x
  pub fits : sort x ≡ sort_of n
  pub high : level_of n ≤ level x
  pub bound : binds_of n ≤ binds x
  pub spelt : text (words x) ≡ ts

-- ---- productions of every kind

pub raised : {x : Phrase} {ts : List Token} (n m : Nonterminal) → sort_of m ≡ sort_of n → (level_of n ≤ level_of m) × (binds_of n ≤ binds_of m)
    → Part m x ts → Part n x ts
raised n m e l p = record {
  good = p.good;
  fits = p.fits ∙ e;
  high = omega (linear, p.high);
  bound = omega (linear, p.bound);
  spelt = p.spelt;
}

pub a_leaf : (n : Nonterminal) (l : Leaf) → leaf_makes l ≡ sort_of n → (level_of n ≤ 10) × (binds_of n ≤ 11) → Part n (leaf l) (leaf_word l ∷ [])
unfolding Good words
a_leaf n l e h = record { good = tt; fits = e; high = h.0; bound = h.1; spelt = leaf_text l }

pub prefixed : {x : Phrase} {ts : List Token} (n m : Nonterminal) (p : Prefix) → sort_of m ≡ prefix_takes p → prefix_makes p ≡ sort_of n
    → (prefix_level p < binds_of m) × (level_of n ≤ prefix_level p) × (binds_of n ≤ suc (prefix_level p)) → Part m x ts
    → Part n (before p x) (opening_words (prefix_opening p) ++ ts)
unfolding Good words
prefixed {x} {ts} n m p e f l h = record {
  good = (h.good, h.fits ∙ e, omega (linear, h.bound));
  fits = f;
  high = l.1;
  bound = l.2;
  spelt = text_append (opening_words (prefix_opening p)) (words x) ∙ ap (λ k. k ++ text (words x)) (prefix_text p)
      ∙ ap (λ k. opening_words (prefix_opening p) ++ k) h.spelt;
}

pub joined : {x y : Phrase} {us vs : List Token} (n a b : Nonterminal) (o : Infix) → sort_of a ≡ infix_takes o → sort_of b ≡ infix_takes o
    → infix_makes o ≡ sort_of n
    → (infix_binds o ≤ level_of a) × (infix_level o < binds_of b) × (level_of n ≤ infix_level o) × (binds_of n ≤ infix_binds o)
    → Part a x us → Part b y vs → Part n (between o x y) (us ++ (infix_word o ∷ vs))
unfolding Good words text
joined {x} {y} {us} {vs} n a b o e f g l h k = record {
  good = (h.good, k.good, h.fits ∙ e, k.fits ∙ f, omega (linear, h.high), omega (linear, k.bound));
  fits = g;
  high = l.2;
  bound = l.3;
  spelt = text_append (words x) (infix_word o ∷ words y) ∙ ap (λ i. i ++ (infix_word o ∷ text (words y))) h.spelt
      ∙ ap (λ i. us ++ (infix_word o ∷ i)) k.spelt;
}

-- a part stands at a place of its sort
pub own : (s : Sort) (x : Phrase) → sort x ≡ s → takes (only s) (sort x) ≡ true
own s x e = same_sorts (sym e)
