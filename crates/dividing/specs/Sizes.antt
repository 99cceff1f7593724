-- How many words D of a node has, from its items: no fewer than these together (`joined_size`), and more where two stand
-- (`both_size`) or one stands behind a formula (`premise_size`); the divisor unequal to 0 has words (`divisor_size`).
-- Assumes nothing.
use Rattle.std.specs.Prelude.{ℕ, ◌+◌, ◌≤◌, ◌<◌, ◌≡◌, refl, true, pos, length}
use Rattle.std.proofs.Common.{ap, arith as linear, length-append}
use Rattle.std.proofs.lemmas.Bool.{false≢true}
use Rattle.std.proofs.Math.Option.{Option, none, some}
use Rattle.script.specs.declared.Relation.TheVariants.{Unequal}
use Rattle.script.specs.Syntax.{Expr, const, Formula, cmp}
use Rattle.script.specs.Conditions.{◌joined◌, behind}
use Rattle.script.specs.Words.{formula_words}
use Rattle.theorems.specs.Unchanged.{stands}
use Rattle.theorems.specs.DivisorWords.{item_words}

abbrev pub size : Option Formula → ℕ
size x = length (item_words x)

pub same_size : {x y : Option Formula} → x ≡ y → size y < size x → ⊥
same_size is h = let e = ap size is in omega linear

pub joined_size : (x y : Option Formula) → size x + size y ≤ size (x joined y)
unfolding formula_words
joined_size none y = omega linear
joined_size (some f) none = omega linear
joined_size (some f) (some g) = let e = length-append (formula_words f) (formula_words g) in omega linear

pub both_size : (x y : Option Formula) → stands x ≡ true → stands y ≡ true → size x + size y < size (x joined y)
unfolding formula_words
both_size none y h k = absurd (false≢true h)
both_size (some f) none h k = absurd (false≢true k)
both_size (some f) (some g) h k = let e = length-append (formula_words f) (formula_words g) in omega linear

pub premise_size : (f : Formula) (x : Option Formula) → stands x ≡ true → size x < size (behind f x)
unfolding formula_words
premise_size f none h = absurd (false≢true h)
premise_size f (some g) h = let e = length-append (formula_words f) (formula_words g) in omega linear

pub behind_size : (f : Formula) (x : Option Formula) → size x ≤ size (behind f x)
behind_size f none = omega linear
behind_size f (some g) = let h = premise_size f (some g) refl in omega linear

pub divisor_size : (d : Expr) → 0 < size (some (cmp Unequal d (const (pos 0))))
unfolding formula_words
divisor_size d = omega linear
