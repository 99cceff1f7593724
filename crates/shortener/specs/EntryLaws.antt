-- That the entry of a word is right for whatever node stands there, where those of the words after it are (`entered`). Assumes nothing.
use Prim.Native.Nat.{ℕ, suc, ◌+◌, ◌<◌}
use Rattle.std.specs.Prelude.{◌≡◌, true, false, ℤ, pos, length, get_or}
use Rattle.std.proofs.Math.Path.{refl, ap}
use Rattle.std.proofs.Common.{sym, ◌∙◌, subst, arith as linear}
use mathlib.Core.List.{List, [], ◌∷◌, ◌++◌, append-nil}
use Rattle.std.proofs.Math.ListN.{length-append}
use Rattle.script.specs.declared.Operator.{Operator}
use Rattle.script.specs.declared.Operator.TheVariants.{Plus, Minus, Times, Div, Mod}
use Rattle.script.specs.declared.Relation.{Relation}
use Rattle.script.specs.declared.Relation.TheVariants.{Less, AtMost, Equal, Unequal}
use Rattle.script.specs.declared.Connective.{Connective}
use Rattle.script.specs.declared.Connective.TheVariants.{And, Or, Implies}
use Rattle.script.specs.Syntax.{Expr, const, var, mark, arith, neg, choose, Formula, truth, cmp, not, join}
use Rattle.script.specs.Rows.{field_number}
use Rattle.script.specs.Words.{expr_words, formula_words, op_word, rel_word, conn_word}
use Rattle.theorems.specs.WordsAt.{Stands, stands_as, front, behind, word, past, Node, expression, formula, words_of, size}
use Rattle.shortening.specs.Simplify.{Shape, other, number_shape, shape, truth_shape, shape_number, order, arith_change, join_change, shorten, shortenᶠ}
use Rattle.shortening.specs.Shapes.{not_change, arith_shape, join_shape, not_shape}
use Rattle.shortener.specs.Codes.{shaped, shaped_number, change_code, truth_change_code, pair_code, not_code, changed_shape_code, changed_shape_is, truth_changed_shape_is}
use Rattle.shortener.specs.Entries.{entry, entry_of, entry_at, pair_entry, not_entry}
use Rattle.shortener.specs.NodeEntries.{node_shape, arith_step, join_step, not_step, node_change, Right, Known}

-- ---- the entry of a node, from those of its parts

module _ (ws : List ℤ) (es ss ks : List ℕ) (at : ℕ) (known : Known ws es ss ks (at + 1)) where
  -- of two parts that stand one after the other
  module _ (place : ℕ) (later : at < place) (a b : Node) (vs : List ℤ) (s : Stands ws place (words_of a ++ (words_of b ++ vs))) where
    first_right : Right place a (entry (get_or es place 0) (get_or ss place 0) (get_or ks place 0))
    first_right = known.right place a (omega linear) (front (words_of b ++ vs) s)

    middle : get_or es place 0 ≡ place + size a
    middle = first_right.end

    second_stands : Stands ws (get_or es place 0) (words_of b ++ vs)
    second_stands = rw middle (behind (words_of a) s)

    second_right : Right (get_or es place 0) b (entry (get_or es (get_or es place 0) 0) (get_or ss (get_or es place 0) 0) (get_or ks (get_or es place 0) 0))
    second_right = known.right (get_or es place 0) b (let m = middle in omega linear) (front vs second_stands)

  -- two parts: the change that the kind gives, and the shape that the change gives
  pair_right : (k t : ℕ) (x a b : Node) → Stands ws (at + 1) (words_of a ++ words_of b) → size x ≡ suc (size a + size b)
      → pair_code k (shape_number (node_shape a)) (shape_number (node_shape b)) ≡ t
      → changed_shape_code t (shape_number (node_shape a)) (shape_number (node_shape b)) ≡ shape_number (node_shape x)
      → t ≡ node_change x → Right at x (pair_entry k es ss at)
  unfolding pair_entry
  pair_right k t x a b s n c d e =
      let whole = stands_as (ap (λ (l : List ℤ). words_of a ++ l) (sym (append-nil (words_of b)))) s in
      let first = first_right (at + 1) (omega linear) a b [] whole in
      let second = second_right (at + 1) (omega linear) a b [] whole in
      let x = first.shape in
      let y = second.shape in
      record {
        end = second.end ∙ let m = first.end in omega (linear, m, n);
        shape =
            (λ i. changed_shape_code (pair_code k (x i) (y i)) (x i) (y i))
            ∙ ap (λ u. changed_shape_code u (shape_number (node_shape a)) (shape_number (node_shape b))) c ∙ d;
        change = (λ i. pair_code k (x i) (y i)) ∙ c ∙ e;
      }

  not_right : (f : Formula) → Stands ws (at + 1) (formula_words f) → Right at (formula (not f)) (not_entry es ss at)
  unfolding not_entry not_code formula_words shorten
  not_right f s =
      let part = known.right (at + 1) (formula f) (omega linear) s in
      let x = part.shape in
      let code = ap (λ (y : Shape). truth_change_code (not_change y)) (shaped_number (node_shape (formula f))) in
      record {
        end = part.end ∙ omega linear;
        shape =
            (λ i. changed_shape_code (not_code (x i)) (x i) 4)
            ∙ ap (λ u. changed_shape_code u (shape_number (node_shape (formula f))) 4) code
            ∙ truth_changed_shape_is (not_step f) (node_shape (formula f)) other ∙ ap shape_number (sym (not_shape (shortenᶠ order f)));
        change = (λ i. not_code (x i)) ∙ code;
      }

  by_kind : (k : ℕ) {us : List ℤ} {x : Node} → Stands ws at (pos k ∷ us) → Right at x (entry_of k ws es ss at) → Right at x (entry_at ws es ss at)
  by_kind k {x = x} s r = subst (λ j. Right at x (entry_of j ws es ss at)) (sym (ap field_number (word s))) r

  -- a node of two parts, of kind k
  two_parts : (k t : ℕ) (x a b : Node) → words_of x ≡ pos k ∷ (words_of a ++ words_of b) → Stands ws at (words_of x)
      → (entry_of k ws es ss at ≡ pair_entry k es ss at)
      → pair_code k (shape_number (node_shape a)) (shape_number (node_shape b)) ≡ t
      → changed_shape_code t (shape_number (node_shape a)) (shape_number (node_shape b)) ≡ shape_number (node_shape x)
      → t ≡ node_change x → Right at x (entry_at ws es ss at)
  two_parts k t x a b w s o c d e =
      let s' = stands_as w s in
      by_kind k s'
      (rw o (pair_right k t x a b (past s') (ap length w ∙ ap suc (length-append (words_of a) (words_of b))) c d e))

  -- an operator
  module _ (p : Operator) (a b : Expr) where
    arith_code : (k : ℕ) → pair_code k ≡ (λ x y. change_code (arith_change order p (shaped x) (shaped y)))
        → pair_code k (shape_number (shape (shorten order a))) (shape_number (shape (shorten order b))) ≡ change_code (arith_step p a b)
    arith_code k e =
        let x = shaped_number (shape (shorten order a)) in
        let y = shaped_number (shape (shorten order b)) in
        ap (λ (f : ℕ → ℕ → ℕ). f (shape_number (shape (shorten order a))) (shape_number (shape (shorten order b)))) e
        ∙ (λ i. change_code (arith_change order p (x i) (y i)))

    arith_shape_is : changed_shape_code (change_code (arith_step p a b)) (shape_number (shape (shorten order a))) (shape_number (shape (shorten order b)))
        ≡ shape_number (node_shape (expression (arith p a b)))
    unfolding shorten
    arith_shape_is =
        changed_shape_is (arith_step p a b) (shape (shorten order a)) (shape (shorten order b))
        ∙ ap shape_number (sym (arith_shape order p (shorten order a) (shorten order b)))

  -- a connective
  module _ (c : Connective) (f g : Formula) where
    join_code : (k : ℕ) → pair_code k ≡ (λ x y. truth_change_code (join_change c (shaped x) (shaped y)))
        → pair_code k (shape_number (truth_shape (shortenᶠ order f))) (shape_number (truth_shape (shortenᶠ order g))) ≡ truth_change_code (join_step c f g)
    join_code k e =
        let x = shaped_number (truth_shape (shortenᶠ order f)) in
        let y = shaped_number (truth_shape (shortenᶠ order g)) in
        ap (λ (h : ℕ → ℕ → ℕ). h (shape_number (truth_shape (shortenᶠ order f))) (shape_number (truth_shape (shortenᶠ order g)))) e
        ∙ (λ i. truth_change_code (join_change c (x i) (y i)))

    join_shape_is : changed_shape_code (truth_change_code (join_step c f g)) (shape_number (truth_shape (shortenᶠ order f))) (shape_number (truth_shape (shortenᶠ order g)))
        ≡ shape_number (node_shape (formula (join c f g)))
    unfolding shorten
    join_shape_is =
        truth_changed_shape_is (join_step c f g) (truth_shape (shortenᶠ order f)) (truth_shape (shortenᶠ order g))
        ∙ ap shape_number (sym (join_shape c (shortenᶠ order f) (shortenᶠ order g)))

  operator : (k : ℕ) (p : Operator) (a b : Expr) → op_word p ≡ pos k → entry_of k ws es ss at ≡ pair_entry k es ss at
      → pair_code k ≡ (λ x y. change_code (arith_change order p (shaped x) (shaped y)))
      → Stands ws at (expr_words (arith p a b)) → Right at (expression (arith p a b)) (entry_at ws es ss at)
  unfolding expr_words
  operator k p a b w o e s =
      two_parts k (change_code (arith_step p a b)) (expression (arith p a b)) (expression a) (expression b)
      (ap (λ z. z ∷ (expr_words a ++ expr_words b)) w) s o (arith_code p a b k e) (arith_shape_is p a b) refl

  connective : (k : ℕ) (c : Connective) (f g : Formula) → conn_word c ≡ pos k → entry_of k ws es ss at ≡ pair_entry k es ss at
      → pair_code k ≡ (λ x y. truth_change_code (join_change c (shaped x) (shaped y)))
      → Stands ws at (formula_words (join c f g)) → Right at (formula (join c f g)) (entry_at ws es ss at)
  unfolding formula_words
  connective k c f g w o e s =
      two_parts k (truth_change_code (join_step c f g)) (formula (join c f g)) (formula f) (formula g)
      (ap (λ z. z ∷ (formula_words f ++ formula_words g)) w) s o (join_code c f g k e) (join_shape_is c f g) refl

  relation : (k : ℕ) (r : Relation) (a b : Expr) → rel_word r ≡ pos k → entry_of k ws es ss at ≡ pair_entry k es ss at
      → pair_code k ≡ (λ x y. 0) → Stands ws at (formula_words (cmp r a b)) → Right at (formula (cmp r a b)) (entry_at ws es ss at)
  unfolding formula_words shorten changed_shape_code
  relation k r a b w o e s =
      two_parts k 0 (formula (cmp r a b)) (expression a) (expression b) (ap (λ z. z ∷ (expr_words a ++ expr_words b)) w) s o
      (ap (λ (h : ℕ → ℕ → ℕ). h (shape_number (shape (shorten order a))) (shape_number (shape (shorten order b)))) e) refl refl

  choose_right : (f : Formula) (a b : Expr) → Stands ws at (expr_words (choose f a b)) → Right at (expression (choose f a b)) (entry_at ws es ss at)
  unfolding entry_of expr_words shorten
  choose_right f a b s =
      let parts = past s in
      let test = first_right (at + 1) (omega linear) (formula f) (expression a) (expr_words b) parts in
      let sides = second_stands (at + 1) (omega linear) (formula f) (expression a) (expr_words b) parts in
      let second = stands_as (ap (λ (l : List ℤ). expr_words a ++ l) (sym (append-nil (expr_words b)))) sides in
      let first-end = (first_right (get_or es (at + 1) 0) (let m = test.end in omega linear) (expression a) (expression b) [] second).end in
      let last_end = (second_right (get_or es (at + 1) 0) (let m = test.end in omega linear) (expression a) (expression b) [] second).end in
      by_kind 10 s
      (record {
        end =
            last_end
            ∙ let m = test.end in
            let n = length-append (formula_words f) (expr_words a ++ expr_words b) in
            let o = length-append (expr_words a) (expr_words b) in
            omega (linear, m, n, o, first-end);
        shape = refl;
        change = refl;
      })

  pub entered : (x : Node) → Stands ws at (words_of x) → Right at x (entry_at ws es ss at)
  unfolding entry_of expr_words shorten pair_code
  entered (expression (const z)) s = by_kind 1 s (record { end = refl; shape = ap (λ (v : ℤ). shape_number (number_shape v)) (word (past s)); change = refl })
  entered (expression (var v)) s = by_kind 2 s (record { end = refl; shape = refl; change = refl })
  entered (expression (mark m)) s = by_kind 9 s (record { end = refl; shape = refl; change = refl })
  entered (expression (arith Plus a b)) s = operator 3 Plus a b refl refl refl s
  entered (expression (arith Minus a b)) s = operator 4 Minus a b refl refl refl s
  entered (expression (arith Times a b)) s = operator 5 Times a b refl refl refl s
  entered (expression (arith Div a b)) s = operator 6 Div a b refl refl refl s
  entered (expression (arith Mod a b)) s = operator 7 Mod a b refl refl refl s
  entered (expression (neg a)) s =
      let part = known.right (at + 1) (expression a) (omega linear) (past s) in
      by_kind 8 s (record { end = part.end ∙ omega linear; shape = refl; change = refl })
  entered (expression (choose f a b)) s = choose_right f a b s
  entered (formula (truth true)) s = by_kind 16 s (record { end = refl; shape = refl; change = refl })
  entered (formula (truth false)) s = by_kind 17 s (record { end = refl; shape = refl; change = refl })
  entered (formula (cmp Less a b)) s = relation 18 Less a b refl refl refl s
  entered (formula (cmp AtMost a b)) s = relation 19 AtMost a b refl refl refl s
  entered (formula (cmp Equal a b)) s = relation 20 Equal a b refl refl refl s
  entered (formula (cmp Unequal a b)) s = relation 21 Unequal a b refl refl refl s
  entered (formula (not f)) s = by_kind 22 s (not_right f (past s))
  entered (formula (join And f g)) s = connective 23 And f g refl refl refl s
  entered (formula (join Or f g)) s = connective 24 Or f g refl refl refl s
  entered (formula (join Implies f g)) s = connective 25 Implies f g refl refl refl s
