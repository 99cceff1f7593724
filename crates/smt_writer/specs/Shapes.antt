-- What the kind word of a node tells: what it opens (`shape_of`), and so the words and the text of its parts (`view`).
-- Assumes nothing.
use Rattle.std.specs.Prelude.{ℕ, ◌≡◌, cond, List, [], ◌∷◌, ◌++◌, eqb, ℤ, get_or}
use Rattle.std.proofs.Math.Path.{refl}
use Rattle.std.proofs.Common.{sym, ap, ◌∙◌, subst, ne_eqb}
use Rattle.std.proofs.Math.Bool as Bool
use Rattle.std.proofs.Math.IntN.{pos}
use Rattle.script.specs.declared.Operator.TheVariants.{Plus, Minus, Times, Div, Mod}
use Rattle.script.specs.declared.Relation.TheVariants.{Less, AtMost, Equal, Unequal}
use Rattle.script.specs.declared.Connective.TheVariants.{And, Or, Implies}
use Rattle.script.specs.Syntax.{Expr, const, var, mark, arith, neg, choose, truth, cmp, not, join}
use Rattle.script.specs.Rows.{field_number}
use Rattle.script.specs.Words.{expr_words}
use Rattle.text.specs.Ascii.{bytes}
use Rattle.smt.specs.Pieces.{expr_text, around_two, const_text, var_text, mark_text, arith_text, neg_text, truth_text, cmp_text, not_text, join_text}
use Rattle.smt_writer.specs.declared.terms.Shape.{Shape}
use Rattle.smt_writer.specs.declared.terms.Shape.TheVariants.{Leaf, Truth, Single, Pair, Division, Choice}
use Rattle.theorems.specs.WordsAt.{Stands, word, Node, expression, formula, words_of}
use Rattle.smt_writer.specs.Nodes.{text_of, Ranged, NodeAt}
use Rattle.smt_writer.specs.Openings.{opening, leaf_text, truth_name, closes, in_turn, before_second, before_third, choose_turn, before_divisor, div_turn, mod_turn}

unfoldable pub shape_of : ℕ → Shape
shape_of k =
    cond (eqb k 1) Leaf (cond (eqb k 2) Leaf (cond (eqb k 9) Leaf (cond (eqb k 16) Truth (cond (eqb k 17) Truth
    (cond (eqb k 8) Single (cond (eqb k 22) Single (cond (eqb k 6) Division (cond (eqb k 7) Division (cond (eqb k 10) Choice Pair)))))))))

-- in the order of the arms
abbrev PastShapes : ℕ → Type 0
PastShapes k =
    ((((((((((Unit {0} × (k ≡ 1 → ⊥)) × (k ≡ 2 → ⊥)) × (k ≡ 9 → ⊥)) × (k ≡ 16 → ⊥)) × (k ≡ 17 → ⊥)) × (k ≡ 8 → ⊥)) × (k ≡ 22 → ⊥)) × (k ≡ 6 → ⊥)) × (k ≡ 7 → ⊥)) × (k ≡ 10 → ⊥))

pub other_shape : (k : ℕ) → PastShapes k → Pair ≡ shape_of k
unfolding shape_of
other_shape k h =
    rw (ne_eqb k 1 h.0.0.0.0.0.0.0.0.0.1, ne_eqb k 2 h.0.0.0.0.0.0.0.0.1, ne_eqb k 9 h.0.0.0.0.0.0.0.1, ne_eqb k 16 h.0.0.0.0.0.0.1, ne_eqb k 17 h.0.0.0.0.0.1, ne_eqb k 8 h.0.0.0.0.1, ne_eqb k 22 h.0.0.0.1, ne_eqb k 6 h.0.0.1, ne_eqb k 7 h.0.1, ne_eqb k 10 h.1)

-- ---- a node of each shape

pub record ALeaf (k : ℕ) (x : Node) : Type 0 where
  pub number : ℤ
  pub words : words_of x ≡ pos k ∷ number ∷ []
  pub text : text_of x ≡ leaf_text k number

pub record ATruth (k : ℕ) (x : Node) : Type 0 where
  pub words : words_of x ≡ pos k ∷ []
  pub text : text_of x ≡ truth_name k

pub record ASingle (k : ℕ) (x : Node) : Type 0 where
  pub part : Node
  pub words : words_of x ≡ pos k ∷ words_of part
  pub text : text_of x ≡ opening k ++ (text_of part ++ closes 1)
  pub range : Ranged x → Ranged part

pub record APair (k : ℕ) (x : Node) : Type 0 where
  pub first : Node
  pub second : Node
  pub words : words_of x ≡ pos k ∷ (words_of first ++ words_of second)
  pub text : text_of x ≡ before_second k (text_of first) ++ (text_of second ++ closes 1)
  pub ranges : Ranged x → Ranged first × Ranged second

pub record ADivision (k : ℕ) (x : Node) : Type 0 where
  pub dividend : Expr
  pub divisor : Expr
  pub words : words_of x ≡ pos k ∷ (expr_words dividend ++ expr_words divisor)
  pub text : text_of x ≡ before_divisor k dividend divisor ++ (expr_text divisor ++ closes 2)
  pub ranges : Ranged x → Ranged (expression dividend) × Ranged (expression divisor)

pub record AChoice (k : ℕ) (x : Node) : Type 0 where
  pub test : Node
  pub first : Node
  pub second : Node
  pub words : words_of x ≡ pos k ∷ (words_of test ++ (words_of first ++ words_of second))
  pub text : text_of x ≡ before_third k (text_of test) (text_of first) ++ (text_of second ++ closes 1)
  pub ranges : Ranged x → Ranged test × Ranged first × Ranged second

-- ---- the node at a place, by the kind that is read there

pub data View (k : ℕ) (x : Node) : Shape → Type 0 where
  a_leaf : ALeaf k x → View k x Leaf
  a_truth : ATruth k x → View k x Truth
  a_single : ASingle k x → View k x Single
  a_pair : APair k x → View k x Pair
  a_division : ADivision k x → View k x Division
  a_choice : AChoice k x → View k x Choice

two_parts : {k : ℕ} (a b : Node) {x : Node} (w : List ℕ) → w ≡ opening k → words_of x ≡ pos k ∷ (words_of a ++ words_of b)
    → text_of x ≡ around_two w (text_of a) (text_of b) → (Ranged x → Ranged a × Ranged b) → APair k x
two_parts {k} a b w e s t r = record {
  first = a;
  second = b;
  words = s;
  text =
      t ∙ in_turn w (text_of a) (bytes " ") (text_of b) (bytes ")")
      ∙ ap (λ (o : List ℕ). ((o ++ text_of a) ++ bytes " ") ++ (text_of b ++ closes 1)) e;
  ranges = r;
}

module _ {ws : List ℤ} {at k : ℕ} (read : k ≡ field_number (get_or ws at (pos 0))) where
  shaped : (kind : ℕ) {us : List ℤ} {x : Node} → Stands ws at (pos kind ∷ us) → View kind x (shape_of kind) → View k x (shape_of k)
  shaped kind {x = x} s h = subst (λ j. View j x (shape_of j)) (sym (read ∙ ap field_number (word s))) h

  pub view : (x : Node) → NodeAt ws at x → View k x (shape_of k)
  unfolding expr_words shape_of opening leaf_text truth_name
  view (expression (const z)) s = shaped 1 s.words (a_leaf record { number = z; words = refl; text = const_text z })
  view (expression (var v)) s = shaped 2 s.words (a_leaf record { number = pos v; words = refl; text = var_text v })
  view (expression (mark m)) s = shaped 9 s.words (a_leaf record { number = pos m; words = refl; text = mark_text m })
  view (expression (arith Plus a b)) s = shaped 3 s.words (a_pair (two_parts (expression a) (expression b) _ refl refl (arith_text Plus a b) (λ h. h)))
  view (expression (arith Minus a b)) s = shaped 4 s.words (a_pair (two_parts (expression a) (expression b) _ refl refl (arith_text Minus a b) (λ h. h)))
  view (expression (arith Times a b)) s = shaped 5 s.words (a_pair (two_parts (expression a) (expression b) _ refl refl (arith_text Times a b) (λ h. h)))
  view (expression (arith Div n d)) s =
      shaped 6 s.words (a_division record { dividend = n; divisor = d; words = refl; text = div_turn n d; ranges = λ h. h })
  view (expression (arith Mod n d)) s =
      shaped 7 s.words (a_division record { dividend = n; divisor = d; words = refl; text = mod_turn n d; ranges = λ h. h })
  view (expression (neg a)) s =
      shaped 8 s.words (a_single record { part = expression a; words = refl; text = neg_text a; range = λ h. h })
  view (expression (choose f a b)) s =
      shaped 10 s.words
      (a_choice record { test = formula f; first = expression a; second = expression b; words = refl; text = choose_turn f a b; ranges = λ h. h })
  view (formula (truth Bool.true)) s = shaped 16 s.words (a_truth record { words = refl; text = truth_text Bool.true })
  view (formula (truth Bool.false)) s = shaped 17 s.words (a_truth record { words = refl; text = truth_text Bool.false })
  view (formula (cmp Less a b)) s = shaped 18 s.words (a_pair (two_parts (expression a) (expression b) _ refl refl (cmp_text Less a b) (λ h. h)))
  view (formula (cmp AtMost a b)) s = shaped 19 s.words (a_pair (two_parts (expression a) (expression b) _ refl refl (cmp_text AtMost a b) (λ h. h)))
  view (formula (cmp Equal a b)) s = shaped 20 s.words (a_pair (two_parts (expression a) (expression b) _ refl refl (cmp_text Equal a b) (λ h. h)))
  view (formula (cmp Unequal a b)) s = shaped 21 s.words (a_pair (two_parts (expression a) (expression b) _ refl refl (cmp_text Unequal a b) (λ h. h)))
  view (formula (not f)) s =
      shaped 22 s.words (a_single record { part = formula f; words = refl; text = not_text f; range = λ h. h })
  view (formula (join And f g)) s = shaped 23 s.words (a_pair (two_parts (formula f) (formula g) _ refl refl (join_text And f g) (λ h. h)))
  view (formula (join Or f g)) s = shaped 24 s.words (a_pair (two_parts (formula f) (formula g) _ refl refl (join_text Or f g) (λ h. h)))
  view (formula (join Implies f g)) s = shaped 25 s.words (a_pair (two_parts (formula f) (formula g) _ refl refl (join_text Implies f g) (λ h. h)))

module _ {k : ℕ} {x : Node} where
  pub as_leaf : View k x Leaf → ALeaf k x
  as_leaf (a_leaf v) = v

  pub as_truth : View k x Truth → ATruth k x
  as_truth (a_truth v) = v

  pub as_single : View k x Single → ASingle k x
  as_single (a_single v) = v

  pub as_pair : View k x Pair → APair k x
  as_pair (a_pair v) = v

  pub as_division : View k x Division → ADivision k x
  as_division (a_division v) = v

  pub as_choice : View k x Choice → AChoice k x
  as_choice (a_choice v) = v
