-- D of a node with its variables replaced keeps its shape, with the divisors and the formulas of choices replaced. So its words
-- are the ands and then the items of its parts (`three_under`, `behind_under`, `divisor_under`). Then what is written of an and
-- and of what is put before an item, where the items stand or not. Assumes nothing.
use Rattle.std.specs.Prelude.{ℕ, ◌≡◌, Bool, ◌||◌, List, [], ◌∷◌, ◌++◌, ℤ, pos}
use Rattle.std.proofs.Math.Path.{refl, ap}
use Rattle.std.proofs.Common.{sym, ◌∙◌, append_assoc}
use Rattle.std.proofs.Math.Bool.{true, false}
use Rattle.std.proofs.Math.Option.{Option, none, some}
use Rattle.script.specs.Syntax.{Expr, Formula}
use Rattle.script.specs.Conditions.{◌joined◌, behind}
use Rattle.script.specs.Words.{expr_words, formula_words}
use Rattle.theorems.specs.Unchanged.{stands}
use Rattle.theorems.specs.DivisorWords.{item_words, and_if_both, three_words}
use Rattle.output.specs.declared.Output.{Output}
use Rattle.output.specs.Written.{Written, nothing_written}
use Rattle.formula_writer.specs.Paths.{replaceᵉ, replaceᶠ, replaceᵒ}
use Rattle.dividing.specs.Divisions.{divisor_of}

-- the ands of three items that stand or not, grouped from the left
abbrev pub ands : Bool → Bool → Bool → List ℤ
ands p q r = and_if_both (p || q) r ++ and_if_both p q

-- what is put before an item that stands
abbrev pub lead : Bool → List ℤ → List ℤ
lead true us = us
lead false us = []

-- what a choice puts before D of a side: its formula, with these words, and for the second side its denial, implies
abbrev pub premise : Bool → List ℤ → List ℤ
premise false us = pos 25 ∷ us
premise true us = pos 25 ∷ pos 22 ∷ us

-- what says that an expression with these words is no zero
abbrev pub unequal_zero : List ℤ → List ℤ
unequal_zero us = pos 21 ∷ (us ++ (pos 1 ∷ pos 0 ∷ []))

module _ (τ : ℕ → Expr) where
  -- the words of an item with its variables replaced
  abbrev pub words_of : Option Formula → List ℤ
  words_of x = item_words (replaceᵒ τ x)

  joined_replaced : (x y : Option Formula) → replaceᵒ τ (x joined y) ≡ replaceᵒ τ x joined replaceᵒ τ y
  unfolding replaceᶠ
  joined_replaced none y = refl
  joined_replaced (some f) none = refl
  joined_replaced (some f) (some g) = refl

  pub replaced_stands : (x : Option Formula) → stands (replaceᵒ τ x) ≡ stands x
  replaced_stands none = refl
  replaced_stands (some f) = refl

  pub three_under : (x y z : Option Formula) {p q r : Bool} → stands x ≡ p → stands y ≡ q → stands z ≡ r
      → words_of (x joined y joined z) ≡ ands p q r ++ (words_of x ++ (words_of y ++ words_of z))
  three_under x y z {p} {q} {r} hx hy hz =
      ap item_words (joined_replaced (x joined y) z ∙ ap (λ u. u joined replaceᵒ τ z) (joined_replaced x y))
      ∙ (three_words (replaceᵒ τ x) (replaceᵒ τ y) (replaceᵒ τ z) (replaced_stands x ∙ hx) (replaced_stands y ∙ hy) (replaced_stands z ∙ hz)
      ∙ sym (append_assoc (and_if_both (p || q) r) (and_if_both p q) (words_of x ++ (words_of y ++ words_of z))))

  pub behind_under : (f : Formula) (x : Option Formula) {p : Bool} → stands x ≡ p
      → words_of (behind f x) ≡ lead p (pos 25 ∷ formula_words (replaceᶠ τ f)) ++ words_of x
  unfolding formula_words replaceᶠ
  behind_under f x h = one x ∙ ap (λ p. lead p (pos 25 ∷ formula_words (replaceᶠ τ f)) ++ words_of x) h
    where
      one : (x : Option Formula) → words_of (behind f x) ≡ lead (stands x) (pos 25 ∷ formula_words (replaceᶠ τ f)) ++ words_of x
      one none = refl
      one (some g) = refl

  pub divisor_under : (b : Bool) (d : Expr) → words_of (divisor_of b d) ≡ lead b (unequal_zero (expr_words (replaceᵉ τ d)))
  unfolding expr_words formula_words replaceᵉ replaceᶠ
  divisor_under true d = refl
  divisor_under false d = refl

-- ---- pieces that are written where items stand

module _ {o : Output ℤ} where
  pub both_written : {x y : Bool} {o' : Output ℤ} → x ≡ true → y ≡ true → Written o (pos 23 ∷ []) o' → Written o (and_if_both x y) o'
  both_written hx hy w = rw (hx, hy) w

  pub no_first : {x : Bool} (y : Bool) → x ≡ false → Written o (and_if_both x y) o
  no_first y hx = rw hx (nothing_written o)

  pub no_second : (x : Bool) {y : Bool} → y ≡ false → Written o (and_if_both x y) o
  no_second true hy = rw hy (nothing_written o)
  no_second false hy = nothing_written o

  -- where d was found for b
  module _ {b d : Bool} (told : d ≡ b) where
    pub lead_written : {us : List ℤ} {o' : Output ℤ} → d ≡ true → Written o us o' → Written o (lead b us) o'
    lead_written h w = rw (sym told ∙ h) w

    pub no_lead : (us : List ℤ) → d ≡ false → Written o (lead b us) o
    no_lead us h = rw (sym told ∙ h) (nothing_written o)

  pub denial_written : {b : Bool} {us : List ℤ} {o' : Output ℤ} → b ≡ true → Written o (pos 25 ∷ pos 22 ∷ us) o' → Written o (premise b us) o'
  denial_written h w = rw h w

  pub assent_written : {b : Bool} {us : List ℤ} {o' : Output ℤ} → b ≡ false → Written o (pos 25 ∷ us) o' → Written o (premise b us) o'
  assent_written h w = rw h w
