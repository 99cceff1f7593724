-- The text of a node in the order of writing: what stands before its last part, the last part, and what closes it; by the
-- number of its kind. Assumes nothing.
use Rattle.std.specs.Prelude.{ℕ, ◌≡◌, List, [], ◌∷◌, ◌++◌, cond, eqb, ℤ, replicate}
use Rattle.std.proofs.Common.{◌∙◌, append_assoc, ne_eqb}
use Rattle.script.specs.Rows.{field_number}
use Rattle.script.specs.Syntax.{Expr, arith, choose, Formula}
use Rattle.script.specs.declared.Operator.TheVariants.{Div, Mod}
use Rattle.text.specs.Ascii.{bytes}
use Rattle.smt.specs.Translate.{variable, mark, name}
use Rattle.smt.specs.Pieces.{expr_text, formula_text, constant_text, arith_text, choose_text}

-- ---- what stands before the first part of a node

abbrev openings : List (ℕ × List ℕ)
openings =
    (3, bytes "(+ ") ∷ (4, bytes "(- ") ∷ (5, bytes "(* ") ∷ (8, bytes "(- ") ∷ (10, bytes "(ite ") ∷ (18, bytes "(< ") ∷ (19, bytes "(<= ")
    ∷ (20, bytes "(= ") ∷ (21, bytes "(distinct ") ∷ (22, bytes "(not ") ∷ (23, bytes "(and ") ∷ (24, bytes "(or ") ∷ []

-- of every other number, that of implies
abbrev find : List (ℕ × List ℕ) → ℕ → List ℕ
find [] k = bytes "(=> "
find (t ∷ ts) k = cond (eqb k t.0) t.1 (find ts k)

unfoldable pub opening : ℕ → List ℕ
opening k = find openings k

-- in the order of the arms
abbrev PastOpenings : ℕ → Type 0
PastOpenings k =
    ((((((((((((Unit {0} × (k ≡ 3 → ⊥)) × (k ≡ 4 → ⊥)) × (k ≡ 5 → ⊥)) × (k ≡ 8 → ⊥)) × (k ≡ 10 → ⊥)) × (k ≡ 18 → ⊥)) × (k ≡ 19 → ⊥)) × (k ≡ 20 → ⊥)) × (k ≡ 21 → ⊥)) × (k ≡ 22 → ⊥)) × (k ≡ 23 → ⊥)) × (k ≡ 24 → ⊥))

pub other_opening : (k : ℕ) → PastOpenings k → opening k ≡ bytes "(=> "
unfolding opening
other_opening k h =
    rw (ne_eqb k 3 h.0.0.0.0.0.0.0.0.0.0.0.1, ne_eqb k 4 h.0.0.0.0.0.0.0.0.0.0.1, ne_eqb k 5 h.0.0.0.0.0.0.0.0.0.1, ne_eqb k 8 h.0.0.0.0.0.0.0.0.1, ne_eqb k 10 h.0.0.0.0.0.0.0.1, ne_eqb k 18 h.0.0.0.0.0.0.1, ne_eqb k 19 h.0.0.0.0.0.1, ne_eqb k 20 h.0.0.0.0.1, ne_eqb k 21 h.0.0.0.1, ne_eqb k 22 h.0.0.1, ne_eqb k 23 h.0.1, ne_eqb k 24 h.1)

-- ---- what has no parts

-- a constant, a variable or a mark, from its two words
unfoldable pub leaf_text : ℕ → ℤ → List ℕ
leaf_text k z =
    cond (eqb k 1) (constant_text z) (cond (eqb k 2) (name (variable (field_number z))) (name (mark (field_number z))))

unfoldable pub truth_name : ℕ → List ℕ
truth_name k = cond (eqb k 16) (bytes "true") (bytes "false")

-- ---- closing parentheses

abbrev pub closes : ℕ → List ℕ
closes n = replicate n 41

-- ---- in the order of writing

pub in_turn : (u a v b c : List ℕ) → u ++ (a ++ (v ++ (b ++ c))) ≡ ((u ++ a) ++ v) ++ (b ++ c)
in_turn u a v b c = simp append_assoc

three_in_turn : (u a v b w d c : List ℕ) → u ++ (a ++ (v ++ (b ++ (w ++ (d ++ c))))) ≡ ((((u ++ a) ++ v) ++ b) ++ w) ++ (d ++ c)
three_in_turn u a v b w d c = simp append_assoc

-- two parts
abbrev pub before_second : ℕ → List ℕ → List ℕ
before_second k a = (opening k ++ a) ++ bytes " "

-- three parts
abbrev pub before_third : ℕ → List ℕ → List ℕ → List ℕ
before_third k a b = (((opening k ++ a) ++ bytes " ") ++ b) ++ bytes " "

pub choose_turn : (f : Formula) (a b : Expr)
    → expr_text (choose f a b) ≡ before_third 10 (formula_text f) (expr_text a) ++ (expr_text b ++ closes 1)
unfolding opening
choose_turn f a b =
    choose_text f a b ∙ three_in_turn (bytes "(ite ") (formula_text f) (bytes " ") (expr_text a) (bytes " ") (expr_text b) (bytes ")")

-- ---- a division

-- what it is by zero, and what stands before the dividend
unfoldable pub by_zero_text : ℕ → Expr → List ℕ
by_zero_text k n = cond (eqb k 6) (bytes "0 (div ") (expr_text n ++ bytes " (mod ")

abbrev pub before_divisor : ℕ → Expr → Expr → List ℕ
before_divisor k n d = ((((bytes "(ite (= " ++ expr_text d) ++ bytes " 0) ") ++ by_zero_text k n) ++ expr_text n) ++ bytes " "

quotient_in_turn : (u a v z b w c : List ℕ)
    → u ++ (a ++ ((v ++ z) ++ (b ++ (w ++ (a ++ c))))) ≡ (((((u ++ a) ++ v) ++ z) ++ b) ++ w) ++ (a ++ c)
quotient_in_turn u a v z b w c = simp append_assoc

remainder_in_turn : (u a v b m w c : List ℕ)
    → u ++ (a ++ (v ++ (b ++ (m ++ (b ++ (w ++ (a ++ c))))))) ≡ (((((u ++ a) ++ v) ++ (b ++ m)) ++ b) ++ w) ++ (a ++ c)
remainder_in_turn u a v b m w c = simp append_assoc

pub div_turn : (n d : Expr) → expr_text (arith Div n d) ≡ before_divisor 6 n d ++ (expr_text d ++ closes 2)
unfolding by_zero_text
div_turn n d =
    arith_text Div n d
    ∙ quotient_in_turn (bytes "(ite (= ") (expr_text d) (bytes " 0) ") (bytes "0 (div ") (expr_text n) (bytes " ") (bytes "))")

pub mod_turn : (n d : Expr) → expr_text (arith Mod n d) ≡ before_divisor 7 n d ++ (expr_text d ++ closes 2)
unfolding by_zero_text
mod_turn n d =
    arith_text Mod n d
    ∙ remainder_in_turn (bytes "(ite (= ") (expr_text d) (bytes " 0) ") (expr_text n) (bytes " (mod ") (bytes " ") (bytes "))")
