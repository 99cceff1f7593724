-- What the tests 7 to 10 ask of a row, by the number of its kind: whether it is a script, has a name that may be misplaced or
-- assigned to, and its nesting from those of its links. Argument: each of the 49 numbers up to 48 computes. Assumes nothing.
use Rattle.std.specs.Prelude.{ℕ, suc, ◌<◌, max, ◌≡◌, Bool, true, false, cond, ◌&&◌, ◌||◌, List, eqb, ℤ}
use Rattle.std.proofs.Math.Path.{refl}
use Rattle.std.proofs.Common.{ap, arith as linear, eq-eqb, ne_eqb}
use Rattle.script.specs.declared.ExpressionRow.{ExpressionRow}
use Rattle.script.specs.declared.ExpressionRow.TheVariants.{Constant, Variable, Arithmetic, Negate, Mark, Choose}
use Rattle.script.specs.declared.StatementRow.{StatementRow}
use Rattle.script.specs.declared.StatementRow.TheVariants.{Skip, Assign, Sequence, If, While, Assert}
use Rattle.script.specs.declared.Row.{Row}
use Rattle.script.specs.declared.kinds.Kind.{Kind}
use Rattle.script.specs.Kinds.{kind_of, number, number_read, other_read}
use Rattle.script.specs.declared.Sort.TheVariants.{Script}
use Rattle.script.specs.Laws.{row_is}
use Rattle.script.specs.Rows.{field_number, fields, row, row_of, sort_of, word}
use Rattle.script.specs.Refusals.{assigns_frozen, frozen, same_sort}
use Rattle.rows.specs.Patterns.{◌also◌, any_kind}

-- a mark, or a frozen name that is read
abbrev expression_named : ExpressionRow → Bool
expression_named (Constant z) = false
expression_named (Variable v) = frozen v.0
expression_named (Arithmetic o a b) = false
expression_named (Negate a) = false
expression_named (Mark m) = true
expression_named (Choose f a b) = false

-- an assignment to a frozen name
abbrev statement_named : StatementRow → Bool
statement_named Skip = false
statement_named (Assign v e) = frozen v.0
statement_named (Sequence a b) = false
statement_named (If b x y) = false
statement_named (While b i x) = false
statement_named (Assert f) = false

abbrev pub named : Row → Bool
named (Row.Expression x) = expression_named x
named (Row.Formula x) = false
named (Row.Statement x) = statement_named x
named (Row.Note i v) = false
named (Row.Script p s q) = false
named Row.Unknown = false

-- the nesting of a row, from the nestings D of its links
abbrev statement_nesting : (ℕ → ℕ) → StatementRow → ℕ
statement_nesting D Skip = 0
statement_nesting D (Assign v e) = 0
statement_nesting D (Sequence a b) = max (D a.0) (D b.0)
statement_nesting D (If b x y) = suc (max (D x.0) (D y.0))
statement_nesting D (While b i x) = suc (D x.0)
statement_nesting D (Assert f) = 0

abbrev pub row_nesting : (ℕ → ℕ) → Row → ℕ
row_nesting D (Row.Expression x) = 0
row_nesting D (Row.Formula x) = 0
row_nesting D (Row.Statement x) = statement_nesting D x
row_nesting D (Row.Note i v) = 0
row_nesting D (Row.Script p s q) = 0
row_nesting D Row.Unknown = 0

-- ---- the same by the number n of the kind, where a, b and c are the numbers in the fields

abbrev pub kind_named : ℕ → ℕ → Bool
kind_named n a = eqb n 9 || ((eqb n 2 || eqb n 33) && frozen a)

abbrev pub kind_assigns : ℕ → ℕ → Bool
kind_assigns n a = cond (eqb n 33) (frozen a || false) false

abbrev pub kind_nesting : (ℕ → ℕ) → ℕ → ℕ → ℕ → ℕ → ℕ
kind_nesting D n a b c =
    cond (eqb n 34) (max (D a) (D b)) (cond (eqb n 35) (suc (max (D b) (D c))) (cond (eqb n 36) (suc (D c)) 0))

-- ---- the number of a kind that was read

pub is_kind : {k j : Kind} (n : ℕ) {m : ℕ} → k ≡ kind_of n → k ≡ j → number j ≡ suc m → eqb n (suc m) ≡ true
is_kind n {m} e h q = eq-eqb n (suc m) (number_read e h q)

pub no_kind : {k j : Kind} (n m : ℕ) → k ≡ kind_of n → (k ≡ j → ⊥) → kind_of m ≡ j → eqb n m ≡ false
no_kind n m e h q = ne_eqb n m (other_read e h q)

module _ (t : List ℤ) (D : ℕ → ℕ) where
  record Asked : Type 0 where
    pub script : Bool
    pub named : Bool
    pub assigns : Bool
    pub nesting : ℕ

  abbrev of_row : Row → Asked
  of_row w = record {
    script = same_sort (sort_of w) Script;
    named = named w;
    assigns = assigns_frozen t (fields w);
    nesting = row_nesting D w;
  }

  abbrev of_kind : ℕ → ℕ → ℕ → ℕ → Asked
  of_kind n a b c = record {
    script = eqb n 48;
    named = kind_named n a;
    assigns = kind_assigns n a;
    nesting = kind_nesting D n a b c;
  }

  of_none : (n a b c : ℕ) → 48 < n → of_row Row.Unknown ≡ of_kind n a b c
  of_none n a b c h =
      rw (
        not_kind 2 (omega linear),
        not_kind 9 (omega linear),
        not_kind 33 (omega linear),
        not_kind 34 (omega linear),
        not_kind 35 (omega linear),
        not_kind 36 (omega linear),
        not_kind 48 (omega linear),
      )
    where
      not_kind : (k : ℕ) → k < 49 → eqb n k ≡ false
      not_kind k l = ne_eqb n k (λ e. omega linear)

  by_kind : (n : ℕ) (a b c : ℤ) → of_row (row_of n a b c) ≡ of_kind n (field_number a) (field_number b) (field_number c)
  unfolding row_of
  by_kind n a b c = any_kind (λ k w. of_row w ≡ of_kind k (field_number a) (field_number b) (field_number c)) a b c
      (refl also refl also refl also refl also refl also refl also refl also refl also refl also refl
      also refl also refl also refl also refl also refl also refl also refl also refl also refl also refl
      also refl also refl also refl also refl also refl also refl also refl also refl also refl also refl
      also refl also refl also refl also refl also refl also refl also refl also refl also refl also refl
      also refl also refl also refl also refl also refl also refl also refl also refl also refl also tt)
      (λ k h. of_none k (field_number a) (field_number b) (field_number c) h) n

  at_row : (r : ℕ) → of_row (row t r)
      ≡ of_kind (field_number (word t r 0)) (field_number (word t r 1)) (field_number (word t r 2)) (field_number (word t r 3))
  at_row r = rw (row_is t r) at (by_kind (field_number (word t r 0)) (word t r 1) (word t r 2) (word t r 3))

  pub nesting_at : (r : ℕ) → row_nesting D (row t r)
      ≡ kind_nesting D (field_number (word t r 0)) (field_number (word t r 1)) (field_number (word t r 2)) (field_number (word t r 3))
  nesting_at r = ap (λ (q : Asked). q.nesting) (at_row r)

module _ (t : List ℤ) (r : ℕ) where
  pub script_at : same_sort (sort_of (row t r)) Script ≡ eqb (field_number (word t r 0)) 48
  script_at = ap (λ (q : Asked t (λ k. k)). q.script) (at_row t (λ k. k) r)

  pub named_at : named (row t r) ≡ kind_named (field_number (word t r 0)) (field_number (word t r 1))
  named_at = ap (λ (q : Asked t (λ k. k)). q.named) (at_row t (λ k. k) r)

  pub assigns_at : assigns_frozen t (fields (row t r)) ≡ kind_assigns (field_number (word t r 0)) (field_number (word t r 1))
  assigns_at = ap (λ (q : Asked t (λ k. k)). q.assigns) (at_row t (λ k. k) r)

  -- the same by the kind k, where a is the number in the first field and q whether that is a frozen name
  module _ {k : Kind} (e : k ≡ kind_of (field_number (word t r 0))) where
    pub mark_named : k ≡ Kind.Mark → true ≡ named (row t r)
    mark_named h = rw (named_at, is_kind _ e h refl)

    pub other_unnamed : (k ≡ Kind.Mark → ⊥) → (k ≡ Kind.Variable → ⊥) → (k ≡ Kind.Assign → ⊥) → false ≡ named (row t r)
    unfolding kind_of
    other_unnamed h₁ h₂ h₃ = rw (named_at, no_kind _ 9 e h₁ refl, no_kind _ 2 e h₂ refl, no_kind _ 33 e h₃ refl)

    pub other_assigns : (k ≡ Kind.Assign → ⊥) → false ≡ assigns_frozen t (fields (row t r))
    unfolding kind_of
    other_assigns h = rw (assigns_at, no_kind _ 33 e h refl)

    module _ {a : ℕ} {q : Bool} (ea : a ≡ field_number (word t r 1)) (eq : q ≡ frozen a) where
      pub variable_named : k ≡ Kind.Variable → q ≡ named (row t r)
      variable_named h =
          let n = number_read e h refl in
          rw (named_at, n, ← ea, ← eq)

      pub assign_named : k ≡ Kind.Assign → q ≡ named (row t r)
      assign_named h =
          let n = number_read e h refl in
          rw (named_at, n, ← ea, ← eq)

      pub assign_frozen : k ≡ Kind.Assign → q ≡ assigns_frozen t (fields (row t r))
      assign_frozen h =
          let n = number_read e h refl in
          rw (assigns_at, n, ← ea, ← eq) (or_false q)
        where
          or_false : (b : Bool) → b ≡ (b || false)
          or_false true = refl
          or_false false = refl
