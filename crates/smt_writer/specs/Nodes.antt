-- The text of a node, and that a node stands at a place of some words. Assumes nothing.
use Rattle.std.specs.Prelude.{ℕ, ◌≡◌, List, ℤ}
use Rattle.std.proofs.Common.{sym, ◌∙◌}
use Rattle.script.specs.Syntax.{Formula}
use Rattle.script.specs.Words.{formula_words}
use Rattle.script.specs.WellFormed.{InRange, InRangeᶠ}
use Rattle.smt.specs.Pieces.{expr_text, formula_text}
use Rattle.theorems.specs.WordsAt.{Stands, stands_as, whole_words, Node, expression, formula, words_of}

abbrev pub text_of : Node → List ℕ
text_of (expression e) = expr_text e
text_of (formula f) = formula_text f

abbrev pub Ranged : Node → Type 0
Ranged (expression e) = InRange e
Ranged (formula f) = InRangeᶠ f

pub record NodeAt (ws : List ℤ) (at : ℕ) (x : Node) : Type 0 where
  pub words : Stands ws at (words_of x)
  pub range : Ranged x

pub at_place : {ws : List ℤ} {x : Node} {a b : ℕ} → a ≡ b → NodeAt ws b x → NodeAt ws a x
at_place e s = rw e s

-- the words of a formula, and no others
pub record Spells (ws : List ℤ) (f : Formula) : Type 0 where
  pub words : formula_words f ≡ ws
  pub range : InRangeᶠ f

pub record Spelled (ws : List ℤ) : Type 0 where
  pub claim : Formula
  pub spells : Spells ws claim

-- the same words, said otherwise
pub spells_as : {us ws : List ℤ} {f : Formula} → us ≡ ws → Spells us f → Spells ws f
spells_as e s = record { words = s.words ∙ e; range = s.range }

pub spelled_as : {us ws : List ℤ} → us ≡ ws → Spelled us → Spelled ws
spelled_as e s = record { claim = s.claim; spells = spells_as e s.spells }

pub at_front : {ws : List ℤ} {f : Formula} → Spells ws f → NodeAt ws 0 (formula f)
at_front {ws} s = record { words = stands_as (sym s.words) (whole_words ws); range = s.range }
