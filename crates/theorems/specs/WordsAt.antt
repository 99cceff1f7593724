-- Words that stand at a place of others, and what then stands at the places of their parts; expressions and formulas alike, as
-- nodes, with their words. Assumes nothing.
use Rattle.std.specs.Prelude.{ℕ, suc, ◌+◌, ◌<◌, ◌≡◌, refl, Bool, true, false, List, [], ◌∷◌, ◌++◌, ltb, ℤ, pos, length, get_or, drop}
use Rattle.std.proofs.Common.{sym, ap, ◌∙◌, append_assoc, append-nil, add-one, arith as linear, ltb-true, ltb-false, drop_of_length-le, drop-cons, drop-drop}
use Rattle.std.proofs.Math.Seq.{drop-append_seam}
use Rattle.script.specs.Syntax.{Expr, const, var, mark, arith, neg, choose, Formula, truth, cmp, not, join}
use Rattle.script.specs.Words.{expr_words, formula_words}

-- ---- the words from a place on: the first, and those after it

module _ (ws : List ℤ) (at : ℕ) {w : ℤ} {us : List ℤ} (d : drop at ws ≡ w ∷ us) where
  pub first_inside : at < length ws
  first_inside = by_length (ltb at (length ws)) refl
    where
      not_nil : {v : ℤ} {vs : List ℤ} → ◌≡◌ {A = List ℤ} [] (v ∷ vs) → ◌≡◌ {A = ℕ} 0 1
      not_nil e = cc

      by_length : (b : Bool) → ltb at (length ws) ≡ b → at < length ws
      by_length true e = ltb-true at (length ws) e
      by_length false e = absurd (omega (linear, not_nil (sym (drop_of_length-le ws (ltb-false at (length ws) e)) ∙ d)))

  whole : get_or ws at (pos 0) ∷ drop (suc at) ws ≡ w ∷ us
  whole = sym (drop-cons ws at (pos 0) first_inside) ∙ d

  pub first_word : get_or ws at (pos 0) ≡ w
  first_word = first whole
    where
      first : {v u : ℤ} {vs us : List ℤ} → v ∷ vs ≡ u ∷ us → v ≡ u
      first e = cc

  pub after_first : drop (at + 1) ws ≡ us
  after_first = rw add-one (others whole)
    where
      others : {v u : ℤ} {vs us : List ℤ} → v ∷ vs ≡ u ∷ us → vs ≡ us
      others e = cc

-- ---- words that stand at a place

-- us stands in ws from the place at on
pub record Stands (ws : List ℤ) (at : ℕ) (us : List ℤ) : Type 0 where
  pub rest : List ℤ
  pub is : drop at ws ≡ us ++ rest

-- ---- its parts

module _ {ws : List ℤ} {at : ℕ} where
  pub front : {us : List ℤ} (vs : List ℤ) → Stands ws at (us ++ vs) → Stands ws at us
  front {us} vs s = record { rest = vs ++ s.rest; is = s.is ∙ append_assoc us vs s.rest }

  pub behind : (us : List ℤ) {vs : List ℤ} → Stands ws at (us ++ vs) → Stands ws (at + length us) vs
  behind us {vs} s = record {
    rest = s.rest;
    is =
        sym (drop-drop (length us) at ws)
        ∙ ap (drop (length us)) (s.is ∙ append_assoc us vs s.rest)
        ∙ drop-append_seam us (vs ++ s.rest);
  }

  -- the first word
  module _ {w : ℤ} {us : List ℤ} (s : Stands ws at (w ∷ us)) where
    pub inside : at < length ws
    inside = first_inside ws at s.is

    pub word : get_or ws at (pos 0) ≡ w
    word = first_word ws at s.is

    pub past : Stands ws (at + 1) us
    past = record { rest = s.rest; is = after_first ws at s.is }

  pub stands_as : {us vs : List ℤ} → us ≡ vs → Stands ws at us → Stands ws at vs
  stands_as e s = rw e at s

pub whole_words : (ws : List ℤ) → Stands ws 0 ws
whole_words ws = record { rest = []; is = sym (append-nil ws) }

-- ---- nodes

pub data Node : Type 0 where
  expression : Expr → Node
  formula : Formula → Node

abbrev pub words_of : Node → List ℤ
words_of (expression e) = expr_words e
words_of (formula f) = formula_words f

abbrev pub size : Node → ℕ
size x = length (words_of x)

-- a node has a word at least
pub node_inside : (x : Node) {ws : List ℤ} {at : ℕ} → Stands ws at (words_of x) → at < length ws
unfolding expr_words
node_inside (expression (const z)) s = inside s
node_inside (expression (var v)) s = inside s
node_inside (expression (mark m)) s = inside s
node_inside (expression (arith o a b)) s = inside s
node_inside (expression (neg a)) s = inside s
node_inside (expression (choose f a b)) s = inside s
node_inside (formula (truth b)) s = inside s
node_inside (formula (cmp r a b)) s = inside s
node_inside (formula (not f)) s = inside s
node_inside (formula (join c f g)) s = inside s

pub node_size : (x : Node) → 0 < size x
unfolding expr_words
node_size (expression (const z)) = omega linear
node_size (expression (var v)) = omega linear
node_size (expression (mark m)) = omega linear
node_size (expression (arith o a b)) = omega linear
node_size (expression (neg a)) = omega linear
node_size (expression (choose f a b)) = omega linear
node_size (formula (truth b)) = omega linear
node_size (formula (cmp r a b)) = omega linear
node_size (formula (not f)) = omega linear
node_size (formula (join c f g)) = omega linear
