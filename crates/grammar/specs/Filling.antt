-- A hole of any sort can be filled (`filled`), and a part that is not yet what its hole takes becomes the left side of
-- a comparison (`fitting`). Assumes nothing.
use Rattle.std.specs.Prelude.{suc, ◌≡◌, refl, List, [], ◌∷◌, ◌++◌, Bool, true, false}
use Rattle.std.proofs.Common.{sym, ap, ◌∙◌, append_assoc, append-nil, arith as linear}
use Rattle.script.specs.declared.Relation.TheVariants.{Less}
use Rattle.grammar.specs.Sorts.{number, expression, formula, statement, script, Hole, only, either, takes}
use Rattle.grammar.specs.Operators.{relation, top}
use Rattle.grammar.specs.Forms.{script_form, script_body, script_post}
use Rattle.grammar.specs.Tokens.{Token, numeral, infix_word, constant_leaf, number_leaf, truth_leaf, skip_leaf}
use Rattle.grammar.specs.Grammar.{Phrase, leaf, between, closed, begun, more, words, sort, binds, Good, GoodChain}
use Rattle.grammar.specs.States.{Frame, pending, open_at, wants, hole}
use Rattle.grammar.specs.Tests.{same_sorts}
use Rattle.grammar.specs.HoleLaws.{takes_begins, begins_other}
use Rattle.grammar.specs.LevelLaws.{expression_level, holds_formula}
use Rattle.grammar.specs.Complete.{Below}
use Rattle.grammar.specs.Contexts.{stack_words, GoodStack, Part}
use Rattle.grammar.specs.Reduces.{below_top}

-- ---- what fills a hole

abbrev pub fill : Hole → Phrase
fill (only number) = leaf (number_leaf 1)
fill (only expression) = leaf (constant_leaf 0)
fill (only formula) = leaf (truth_leaf true)
fill (only statement) = leaf skip_leaf
fill (only script) = closed (more (more (begun script_form) (leaf (truth_leaf true)) script_body) (leaf skip_leaf) script_post) (leaf (truth_leaf true))
fill either = leaf (constant_leaf 0)

fill_good : (h : Hole) → Good (fill h)
unfolding Good GoodChain
fill_good (only number) = tt
fill_good (only expression) = tt
fill_good (only formula) = tt
fill_good (only statement) = tt
fill_good (only script) = ((((tt, tt, refl, refl)), tt, refl, refl), tt, refl, refl)
fill_good either = tt

pub fill_takes : (h : Hole) → takes h (sort (fill h)) ≡ true
fill_takes (only number) = refl
fill_takes (only expression) = refl
fill_takes (only formula) = refl
fill_takes (only statement) = refl
fill_takes (only script) = refl
fill_takes either = refl

fill_binds : (h : Hole) → binds (fill h) ≡ suc top
fill_binds (only number) = refl
fill_binds (only expression) = refl
fill_binds (only formula) = refl
fill_binds (only statement) = refl
fill_binds (only script) = refl
fill_binds either = refl

pub filled : (fs : List Frame) (ts : List Token) → GoodStack fs → stack_words fs ≡ ts → Part 0 (fill (hole fs)) fs (ts ++ words (fill (hole fs)))
filled fs ts g e =
    let h = hole fs in
    record {
      stacked = g;
      good = fill_good h;
      below = rw (fill_binds h) (below_top fs);
      high = omega linear;
      fits = takes_begins h (sort (fill h)) (fill_takes h);
      spelt = ap (λ l. l ++ words (fill h)) e;
    }

-- ---- a part that is not yet what the hole takes becomes the left side of a comparison

pub record Fitting (fs : List Frame) (ts : List Token) : Type 0 where
  pub then : List Token
  pub of : Phrase
  pub part : Part 0 of fs (ts ++ then)
  pub taken_in : takes (hole fs) (sort of) ≡ true

below_formula : (fs : List Frame) → hole fs ≡ only formula → Below fs 6
below_formula [] e = tt
below_formula (pending f ∷ fs) e = let q : wants f ≡ formula = cc in holds_formula f q
below_formula (open_at h c ∷ fs) e = tt

pub fitting : (fs : List Frame) (x : Phrase) (ts : List Token) → Part 0 x fs ts → Fitting fs ts
unfolding words Good
fitting fs x ts p = at_test (takes (hole fs) (sort x)) refl
  where
    compared : (sort x ≡ expression) × (hole fs ≡ only formula) → Fitting fs ts
    compared e =
        let y = between (relation Less) x (leaf (constant_leaf 0)) in
        let us = infix_word (relation Less) ∷ numeral 0 ∷ [] in
        let level-x = expression_level x (same_sorts e.0) in
        record {
          then = us;
          of = y;
          part = record {
            stacked = p.stacked;
            good = (p.good, tt, e.0, refl, level-x, omega linear);
            below = below_formula fs e.1;
            high = omega linear;
            fits = rw e.1;
            spelt = sym (append_assoc (stack_words fs) (words x) us) ∙ ap (λ l. l ++ us) p.spelt;
          };
          taken_in = rw e.1;
        }

    at_test : (k : Bool) → takes (hole fs) (sort x) ≡ k → Fitting fs ts
    at_test true e = record { then = []; of = x; part = rw (append-nil ts) p; taken_in = e }
    at_test false e = compared (begins_other (hole fs) (sort x) p.fits e)
