-- D of a node by the number n in its first word: a leaf has none, a negation has its part's (`Single`); a choice (`Choice`); and
-- a node with two parts, where the other kinds were passed over (`Pair`), with a divisor just where n is div or mod
-- (`Divisions.division`). Assumes nothing.
use Rattle.std.specs.Prelude.{ℕ, ◌≤◌, ◌<◌, ◌≡◌, refl, Bool, true, false, List, T, ltb, ℤ}
use Rattle.std.proofs.Common.{sym, ap, ◌∙◌, ltb-true, ltb-false}
use Rattle.std.proofs.lemmas.Bool.{false≢true}
use Rattle.std.proofs.Math.Option.{Option, none}
use Rattle.script.specs.declared.Sort.{Sort}
use Rattle.script.specs.Syntax.{Formula, not}
use Rattle.script.specs.Conditions.{◌joined◌, behind}
use Rattle.script.specs.Rows.{field_number, row_of, row, rows, word, sort_of}
use Rattle.script.specs.Trees.{expr_at, formula_at}
use Rattle.script.specs.Refusals.{same_sort}
use Rattle.theorems.specs.Accepted.{Accepted}
use Rattle.formula_writer.specs.Links.{Linked, links_of}
use Rattle.formula_writer.specs.Kinds.{of_kind, PastExpressions, PastFormulas, operation, comparison, junction}
use Rattle.dividing.specs.Nodes.{is_node, Node, expression_is_node, formula_is_node, divisors_at, divisors_is}
use Rattle.dividing.specs.Sizes.{size, same_size}
use Rattle.dividing.specs.Divided.{Own}
use Rattle.dividing.specs.Divisions.{division, divisor_of, operator_divisor, no_relation, no_connective, joined_none}

-- a node below r
abbrev pub Below : List ℤ → ℕ → ℕ → Type 0
Below t r a = (a < r) × Node t a

pub expression_below : (t : List ℤ) {r a : ℕ} → Linked t r a Sort.Expression → Below t r a
expression_below t {a = a} l = (l.0, expression_is_node t a l.1)

pub formula_below : (t : List ℤ) {r a : ℕ} → Linked t r a Sort.Formula → Below t r a
formula_below t {a = a} l = (l.0, formula_is_node t a l.1)

-- its D has fewer words
abbrev pub Shorter : List ℤ → ℕ → ℕ → Type 0
Shorter t r a = size (divisors_at t a) < size (divisors_at t r)

-- the node at row r has the part a, and no D but its
pub record Single (t : List ℤ) (r a : ℕ) : Type 0 where
  pub part : Below t r a
  pub is : divisors_at t r ≡ divisors_at t a

pub record Choice (t : List ℤ) (r f a b : ℕ) : Type 0 where
  pub by : Linked t r f Sort.Formula
  pub first : Linked t r a Sort.Expression
  pub second : Linked t r b Sort.Expression
  pub is :
      divisors_at t r
      ≡ divisors_at t f joined behind (formula_at t f) (divisors_at t a) joined behind (not (formula_at t f)) (divisors_at t b)
  -- these are its parts
  pub own : Shorter t r f → Shorter t r a → Shorter t r b → Own t r

-- with a divisor where n is div or mod
pub record Pair (t : List ℤ) (r n a b : ℕ) : Type 0 where
  pub first : Below t r a
  pub second : Below t r b
  pub divisor_sort : division n ≡ true → T (same_sort (sort_of (row t b)) Sort.Expression)
  pub is : divisors_at t r ≡ divisors_at t a joined divisors_at t b joined divisor_of (division n) (expr_at t b)
  pub own : Shorter t r a → Shorter t r b → Own t r

module _ (t : List ℤ) (ok : Accepted t) (r : ℕ) (h : r < rows t) {n : ℕ} (read : n ≡ field_number (word t r 0)) where
  pub constant_none : n ≡ 1 → divisors_at t r ≡ none
  unfolding row_of
  constant_none e = divisors_is t ok r h (of_kind t r n read 1 e)

  pub variable_none : n ≡ 2 → divisors_at t r ≡ none
  unfolding row_of
  variable_none e = divisors_is t ok r h (of_kind t r n read 2 e)

  pub mark_none : n ≡ 9 → divisors_at t r ≡ none
  unfolding row_of
  mark_none e = divisors_is t ok r h (of_kind t r n read 9 e)

  pub true_none : n ≡ 16 → divisors_at t r ≡ none
  unfolding row_of
  true_none e = divisors_is t ok r h (of_kind t r n read 16 e)

  pub false_none : n ≡ 17 → divisors_at t r ≡ none
  unfolding row_of
  false_none e = divisors_is t ok r h (of_kind t r n read 17 e)

  pub negation : {a : ℕ} → n ≡ 8 → a ≡ field_number (word t r 1) → Single t r a
  unfolding row_of
  negation e ha =
      let w = of_kind t r n read 8 e in
      rw ha (record { part = expression_below t (links_of t ok r h w).0; is = divisors_is t ok r h w })

  pub denial : {a : ℕ} → n ≡ 22 → a ≡ field_number (word t r 1) → Single t r a
  unfolding row_of
  denial e ha =
      let w = of_kind t r n read 22 e in
      rw ha (record { part = formula_below t (links_of t ok r h w).0; is = divisors_is t ok r h w })

  -- neither has a word of its own

  pub no_negation : n ≡ 8 → Own t r → ⊥
  unfolding row_of
  no_negation e o = let w = of_kind t r n read 8 e in same_size (divisors_is t ok r h w) (rw w at o).0

  pub no_denial : n ≡ 22 → Own t r → ⊥
  unfolding row_of
  no_denial e o = let w = of_kind t r n read 22 e in same_size (divisors_is t ok r h w) (rw w at o).0

  pub choice : {f a b : ℕ} → n ≡ 10 → f ≡ field_number (word t r 1) → a ≡ field_number (word t r 2)
      → b ≡ field_number (word t r 3) → Choice t r f a b
  unfolding row_of
  choice e hf ha hb =
      let w = of_kind t r n read 10 e in
      let l = links_of t ok r h w in
      rw (hf, ha, hb) (record {
        by = l.0;
        first = l.1.0;
        second = l.1.1.0;
        is = divisors_is t ok r h w;
        own = λ x y z. rw w (x, (y, (z, tt)));
      })

  -- the kinds that are left

  plain_pair : {a b : ℕ} → Below t r a → Below t r b → division n ≡ false → divisors_at t r ≡ divisors_at t a joined divisors_at t b
      → (Shorter t r a → Shorter t r b → Own t r) → Pair t r n a b
  plain_pair {a} {b} x y d e o = record {
    first = x;
    second = y;
    divisor_sort = λ k. absurd (false≢true (sym d ∙ k));
    is = e ∙ joined_none (divisors_at t a) (divisors_at t b) (expr_at t b) d;
    own = o;
  }

  module _ {a b : ℕ} (ha : a ≡ field_number (word t r 1)) (hb : b ≡ field_number (word t r 2)) where
    operator_pair : T (same_sort (sort_of (row t r)) Sort.Expression) → PastExpressions n → Pair t r n a b
    operator_pair s p =
        let o = operation t r n read s p in
        let l = links_of t ok r h o.is in
        let a' = field_number (word t r 1) in
        let b' = field_number (word t r 2) in
        rw (ha, hb) (record {
          first = expression_below t l.0;
          second = expression_below t l.1.0;
          divisor_sort = λ d. l.1.0.1;
          is = divisors_is t ok r h o.is
              ∙ ap (λ (x : Option Formula). divisors_at t a' joined divisors_at t b' joined x)
              (operator_divisor o.op o.spelled (expr_at t b'));
          own = λ x y. rw o.is (x, (y, tt));
        })

    relation_pair : T (same_sort (sort_of (row t r)) Sort.Formula) → PastFormulas n → n < 22 → Pair t r n a b
    relation_pair s p low =
        let o = comparison t r n read s p low in
        let l = links_of t ok r h o.is in
        rw (ha, hb)
        (plain_pair (expression_below t l.0) (expression_below t l.1.0) (no_relation o.op o.spelled) (divisors_is t ok r h o.is)
        (λ x y. rw o.is (x, (y, tt))))

    connective_pair : T (same_sort (sort_of (row t r)) Sort.Formula) → PastFormulas n → 22 ≤ n → Pair t r n a b
    connective_pair s p high =
        let o = junction t r n read s p high in
        let l = links_of t ok r h o.is in
        rw (ha, hb)
        (plain_pair (formula_below t l.0) (formula_below t l.1.0) (no_connective o.op o.spelled) (divisors_is t ok r h o.is)
        (λ x y. rw o.is (x, (y, tt))))

    formula_pair : T (same_sort (sort_of (row t r)) Sort.Formula) → PastFormulas n → (low : Bool) → ltb n 22 ≡ low → Pair t r n a b
    formula_pair s p true e = relation_pair s p (ltb-true n 22 e)
    formula_pair s p false e = connective_pair s p (ltb-false n 22 e)

    pub pair : Node t r → PastExpressions n → PastFormulas n → Pair t r n a b
    pair s p q = by (sort_of (row t r)) s (λ e. operator_pair e p) (λ f. formula_pair f q (ltb n 22) refl)
      where
        by : {P : Type 0} (s : Sort) → T (is_node s) → (T (same_sort s Sort.Expression) → P) → (T (same_sort s Sort.Formula) → P) → P
        by Sort.Expression h e f = e tt
        by Sort.Formula h e f = f tt
        by Sort.Statement h e f = absurd h
        by Sort.Note h e f = absurd h
        by Sort.Script h e f = absurd h
        by Sort.Unknown h e f = absurd h
