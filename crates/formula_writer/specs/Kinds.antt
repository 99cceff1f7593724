-- The row of a node by its kind, where n is the number in its first word (`of_kind`); and the kinds that are left once those
-- with other parts were passed over: an operator (`operation`), a relation (`comparison`) or a connective (`junction`).
-- Assumes nothing.
use Rattle.std.specs.Prelude.{ℕ, ◌≤◌, ◌<◌, ◌≡◌, refl, ◌⊎◌, List, T, ℤ, pos}
use Rattle.std.proofs.Common.{sym, ap, ◌∙◌, inl, inr, ⊎_elim, arith as linear}
use Rattle.script.specs.declared.kinds.Kind.{Kind}
use Rattle.script.specs.Kinds.{kind_of, number_read, other_read}
use Rattle.script.specs.declared.Operator.{Operator}
use Rattle.script.specs.declared.Operator.TheVariants.{Plus, Minus, Times, Div, Mod}
use Rattle.script.specs.declared.Relation.{Relation}
use Rattle.script.specs.declared.Relation.TheVariants.{Less, AtMost, Equal, Unequal}
use Rattle.script.specs.declared.Connective.{Connective}
use Rattle.script.specs.declared.Connective.TheVariants.{And, Or, Implies}
use Rattle.script.specs.declared.ExpressionRow.TheVariants.{Constant, Variable, Arithmetic, Negate, Mark, Choose}
use Rattle.script.specs.declared.FormulaRow.TheVariants.{True, False, Comparison, Not, Junction}
use Rattle.script.specs.declared.Row.{Row}
use Rattle.script.specs.declared.Sort.TheVariants.{Expression, Formula}
use Rattle.script.specs.Rows.{field_number, row_no, row_of, row, word, sort_of}
use Rattle.script.specs.Laws.{row_is, pos_inj}
use Rattle.script.specs.Refusals.{same_sort}
use Rattle.script.specs.Words.{op_word, rel_word, conn_word}
use Rattle.theorems.specs.Kinds.{row_with, operator_row, relation_row, connective_row, Fits, row_fits}

-- ---- kind words as numbers

operator_below : (o : Operator) {n : ℕ} → pos n ≡ op_word o → n < 8
operator_below Plus e = let i = pos_inj e in omega linear
operator_below Minus e = let i = pos_inj e in omega linear
operator_below Times e = let i = pos_inj e in omega linear
operator_below Div e = let i = pos_inj e in omega linear
operator_below Mod e = let i = pos_inj e in omega linear

relation_below : (o : Relation) {n : ℕ} → pos n ≡ rel_word o → n < 22
relation_below Less e = let i = pos_inj e in omega linear
relation_below AtMost e = let i = pos_inj e in omega linear
relation_below Equal e = let i = pos_inj e in omega linear
relation_below Unequal e = let i = pos_inj e in omega linear

connective_within : (o : Connective) {n : ℕ} → pos n ≡ conn_word o → (22 ≤ n) × (n < 26)
connective_within And e = let i = pos_inj e in omega linear
connective_within Or e = let i = pos_inj e in omega linear
connective_within Implies e = let i = pos_inj e in omega linear

-- ---- which kinds are left

-- n is none of the kinds that have an arm of their own, in the order of the arms
abbrev pub PastExpressions : ℕ → Type 0
PastExpressions n =
    ((((Unit {0} × (n ≡ 1 → ⊥)) × (n ≡ 2 → ⊥)) × (n ≡ 8 → ⊥)) × (n ≡ 9 → ⊥)) × (n ≡ 10 → ⊥)

abbrev pub PastFormulas : ℕ → Type 0
PastFormulas n = ((Unit {0} × (n ≡ 16 → ⊥)) × (n ≡ 17 → ⊥)) × (n ≡ 22 → ⊥)

-- by the kind that was read

pub past_expressions : {k : Kind} {n : ℕ} → k ≡ kind_of n → (k ≡ Kind.Constant → ⊥) → (k ≡ Kind.Variable → ⊥) → (k ≡ Kind.Negate → ⊥)
    → (k ≡ Kind.Mark → ⊥) → (k ≡ Kind.Choose → ⊥) → PastExpressions n
unfolding kind_of
past_expressions e a b c d f = (((((tt, other_read e a refl), other_read e b refl), other_read e c refl), other_read e d refl), other_read e f refl)

pub past_formulas : {k : Kind} {n : ℕ} → k ≡ kind_of n → (k ≡ Kind.True → ⊥) → (k ≡ Kind.False → ⊥) → (k ≡ Kind.Not → ⊥) → PastFormulas n
unfolding kind_of
past_formulas e a b c = (((tt, other_read e a refl), other_read e b refl), other_read e c refl)

pub relation_kind : {k : Kind} {n : ℕ} → k ≡ kind_of n
    → (k ≡ Kind.Less) ⊎ ((k ≡ Kind.AtMost) ⊎ ((k ≡ Kind.Equal) ⊎ (k ≡ Kind.Unequal))) → PastFormulas n × (n < 22)
relation_kind e h =
    within
    (⊎_elim (λ i. let q = number_read e i refl in omega linear)
    (⊎_elim (λ i. let q = number_read e i refl in omega linear)
    (⊎_elim (λ i. let q = number_read e i refl in omega linear) (λ i. let q = number_read e i refl in omega linear))) h)
  where
    within : {n : ℕ} → (18 ≤ n) × (n < 22) → PastFormulas n × (n < 22)
    within h = ((((tt, λ q. omega linear), λ q. omega linear), λ q. omega linear), h.1)

unrelated : (o : Relation) {n : ℕ} → pos n ≡ rel_word o → (n ≡ 18 → ⊥) → (n ≡ 19 → ⊥) → (n ≡ 20 → ⊥) → (n ≡ 21 → ⊥) → ⊥
unrelated Less e a b c d = a (pos_inj e)
unrelated AtMost e a b c d = b (pos_inj e)
unrelated Equal e a b c d = c (pos_inj e)
unrelated Unequal e a b c d = d (pos_inj e)

module _ (n : ℕ) (a : ℤ) where
  operator_left : (w : Row) → Fits (pos n) a w → T (same_sort (sort_of w) Expression) → PastExpressions n
      → (o : Operator) × (pos n ≡ op_word o)
  operator_left (Row.Expression (Constant z)) f s p = absurd (p.0.0.0.0.1 (pos_inj f.0))
  operator_left (Row.Expression (Variable v)) f s p = absurd (p.0.0.0.1 (pos_inj f.0))
  operator_left (Row.Expression (Arithmetic o x y)) f s p = (o, f)
  operator_left (Row.Expression (Negate x)) f s p = absurd (p.0.0.1 (pos_inj f))
  operator_left (Row.Expression (Mark m)) f s p = absurd (p.0.1 (pos_inj f.0))
  operator_left (Row.Expression (Choose x y z)) f s p = absurd (p.1 (pos_inj f))
  operator_left (Row.Formula w) f s p = absurd s
  operator_left (Row.Statement w) f s p = absurd s
  operator_left (Row.Note i v) f s p = absurd s
  operator_left (Row.Script x y z) f s p = absurd s
  operator_left Row.Unknown f s p = absurd s

  pair_left : (w : Row) → Fits (pos n) a w → T (same_sort (sort_of w) Formula) → PastFormulas n
      → ((o : Relation) × (pos n ≡ rel_word o)) ⊎ ((o : Connective) × (pos n ≡ conn_word o))
  pair_left (Row.Formula True) f s p = absurd (p.0.0.1 (pos_inj f))
  pair_left (Row.Formula False) f s p = absurd (p.0.1 (pos_inj f))
  pair_left (Row.Formula (Comparison o x y)) f s p = inl (o, f)
  pair_left (Row.Formula (Not x)) f s p = absurd (p.1 (pos_inj f))
  pair_left (Row.Formula (Junction o x y)) f s p = inr (o, f)
  pair_left (Row.Expression w) f s p = absurd s
  pair_left (Row.Statement w) f s p = absurd s
  pair_left (Row.Note i v) f s p = absurd s
  pair_left (Row.Script x y z) f s p = absurd s
  pair_left Row.Unknown f s p = absurd s

-- ---- the row

module _ (t : List ℤ) (r n : ℕ) where
  -- a row with two parts of which the kind word is its operator's, relation's or connective's
  pub record Paired {O : Type 0} (of : O → ℤ) (node : O → Row) : Type 0 where
    pub op : O
    pub spelled : pos n ≡ of op
    pub is : row t r ≡ node op

  abbrev pub Operation : Type 0
  Operation = Paired op_word (λ o. Row.Expression (Arithmetic o (row_no (word t r 1)) (row_no (word t r 2))))

  abbrev pub Compared : Type 0
  Compared = Paired rel_word (λ o. Row.Formula (Comparison o (row_no (word t r 1)) (row_no (word t r 2))))

  abbrev pub Joined : Type 0
  Joined = Paired conn_word (λ o. Row.Formula (Junction o (row_no (word t r 1)) (row_no (word t r 2))))

  module _ (read : n ≡ field_number (word t r 0)) where
    pub of_kind : (k : ℕ) → n ≡ k → row t r ≡ row_of k (word t r 1) (word t r 2) (word t r 3)
    of_kind k e = sym (row_is t r) ∙ ap (λ (i : ℕ). row_of i (word t r 1) (word t r 2) (word t r 3)) (sym read ∙ e)

    here : row t r ≡ row_with (pos n) (word t r 1) (word t r 2) (word t r 3)
    here = sym (row_is t r) ∙ ap (λ (i : ℕ). row_of i (word t r 1) (word t r 2) (word t r 3)) (sym read)

    spelled_by : {k : ℤ} → pos n ≡ k → row t r ≡ row_with k (word t r 1) (word t r 2) (word t r 3)
    spelled_by e = here ∙ ap (λ (k : ℤ). row_with k (word t r 1) (word t r 2) (word t r 3)) e

    pub fits_here : Fits (pos n) (word t r 1) (row t r)
    fits_here = rw here (row_fits (pos n) (word t r 1) (word t r 2) (word t r 3))

    pub operation : T (same_sort (sort_of (row t r)) Expression) → PastExpressions n → Operation
    operation s p =
        let f = operator_left n (word t r 1) (row t r) fits_here s p in
        record { op = f.0; spelled = f.1; is = spelled_by f.1 ∙ operator_row _ _ _ f.0 }

    pub operation_small : Operation → n < 64
    operation_small o = let l = operator_below o.op o.spelled in omega linear

    module _ (s : T (same_sort (sort_of (row t r)) Formula)) (p : PastFormulas n) where
      pair : ((o : Relation) × (pos n ≡ rel_word o)) ⊎ ((o : Connective) × (pos n ≡ conn_word o))
      pair = pair_left n (word t r 1) (row t r) fits_here s p

      pub pair_small : n < 64
      pair_small = ⊎_elim (λ f. let l = relation_below f.0 f.1 in omega linear) (λ f. let l = connective_within f.0 f.1 in omega linear) pair

      -- no relation is left either
      pub past_relations : {k : Kind} → k ≡ kind_of n → (k ≡ Kind.Less → ⊥) → (k ≡ Kind.AtMost → ⊥) → (k ≡ Kind.Equal → ⊥)
          → (k ≡ Kind.Unequal → ⊥) → 22 ≤ n
      unfolding kind_of
      past_relations e a b c d =
          ⊎_elim (λ f. absurd (unrelated f.0 f.1 (other_read e a refl) (other_read e b refl) (other_read e c refl) (other_read e d refl)))
          (λ f. (connective_within f.0 f.1).0)
          pair

      pub comparison : n < 22 → Compared
      comparison h =
          ⊎_elim (λ f. record { op = f.0; spelled = f.1; is = spelled_by f.1 ∙ relation_row _ _ _ f.0 })
          (λ f. absurd (let l = connective_within f.0 f.1 in omega linear))
          pair

      pub junction : 22 ≤ n → Joined
      junction h =
          ⊎_elim (λ f. absurd (let l = relation_below f.0 f.1 in omega linear))
          (λ f. record { op = f.0; spelled = f.1; is = spelled_by f.1 ∙ connective_row _ _ _ f.0 })
          pair
