-- The words of items joined, from which of them stand (`two_words`, `three_words`), and of D before a formula (`and_words`): the
-- ands first, then the items in order. What a writer over rows follows, once it knows which rows divide
-- (`Unchanged.divisors_stand`). By cases of which items stand. Assumes nothing.
use Rattle.std.specs.Prelude.{◌≡◌, refl, Bool, true, false, ◌||◌, List, [], ◌∷◌, ◌++◌, ℤ, pos}
use Rattle.std.proofs.Common.{sym, ap, ap₂, ◌∙◌, append_assoc, append-nil}
use Rattle.std.proofs.Math.Option.{Option, none, some}
use Rattle.script.specs.Syntax.{Formula}
use Rattle.script.specs.Conditions.{◌joined◌, ◌and◌}
use Rattle.script.specs.Words.{formula_words}
use Rattle.theorems.specs.Unchanged.{stands, joined_stands}

abbrev pub item_words : Option Formula → List ℤ
item_words none = []
item_words (some f) = formula_words f

-- the and of two items, where both stand
abbrev pub and_if_both : Bool → Bool → List ℤ
and_if_both true true = pos 23 ∷ []
and_if_both true false = []
and_if_both false q = []

two_items : (x y : Option Formula) → item_words (x joined y) ≡ and_if_both (stands x) (stands y) ++ (item_words x ++ item_words y)
unfolding formula_words
two_items none y = refl
two_items (some f) none = sym (append-nil (formula_words f))
two_items (some f) (some g) = refl

pub two_words : (x y : Option Formula) {p q : Bool} → stands x ≡ p → stands y ≡ q
    → item_words (x joined y) ≡ and_if_both p q ++ (item_words x ++ item_words y)
two_words x y h k = two_items x y ∙ ap₂ (λ p q. and_if_both p q ++ (item_words x ++ item_words y)) h k

pub three_words : (x y z : Option Formula) {p q r : Bool} → stands x ≡ p → stands y ≡ q → stands z ≡ r
    → item_words (x joined y joined z) ≡ and_if_both (p || q) r ++ (and_if_both p q ++ (item_words x ++ (item_words y ++ item_words z)))
three_words x y z {p} {q} {r} h k l =
    two_words (x joined y) z (joined_stands x y h k) l
    ∙ ap (λ us. and_if_both (p || q) r ++ us)
    (ap (λ us. us ++ item_words z) (two_words x y h k)
    ∙ append_assoc (and_if_both p q) (item_words x ++ item_words y) (item_words z)
    ∙ ap (λ us. and_if_both p q ++ us) (append_assoc (item_words x) (item_words y) (item_words z)))

pub and_words : (x : Option Formula) (q : Formula) → formula_words (x and q) ≡ and_if_both (stands x) true ++ (item_words x ++ formula_words q)
unfolding formula_words
and_words none q = refl
and_words (some d) q = refl
