-- A row renewed: the same row with its links and its mark given anew (`renew`). Its fields are renewed one by one
-- (`fields_renewed`), its sort stays (`sort_renewed`), and the words that `NewTable.renewed` writes are read as it
-- (`renew_row`).
-- Argument: by cases on rows; each of the kinds of 01 with renewed fields is that kind of row renewed. Assumes nothing.
use Rattle.std.specs.Prelude.{ℕ, suc, ◌≡◌, refl, List, [], ◌∷◌, ℤ, pos, get_or}
use Rattle.script.specs.declared.RowNumber.{RowNumber}
use Rattle.script.specs.declared.ExpressionRow.TheVariants.{Constant, Variable, Arithmetic, Negate, Mark, Choose}
use Rattle.script.specs.declared.FormulaRow.TheVariants.{True, False, Comparison, Not, Junction}
use Rattle.script.specs.declared.StatementRow.TheVariants.{Skip, Assign, Sequence, If, While, Assert}
use Rattle.script.specs.declared.Row.{Row}
use Rattle.script.specs.declared.Sort.TheVariants.{Unknown}
use Rattle.script.specs.Rows.{Field, value, variable, target, loop, link, fields, sort_of, kinds, row_of}
use Rattle.theorems.specs.Kinds.{listed_holds, ◌also◌}
use Rattle.mending.specs.NewTable.{renewed}

module _ (ρ : ℕ → ℕ) (js : List ℕ) where
  -- link number i
  abbrev to : ℕ → RowNumber
  to i = record { 0 = get_or js i 0 }

  -- row w with its links to the rows js, and its mark renamed
  abbrev pub renew : Row → Row
  renew (Row.Expression (Constant z)) = Row.Expression (Constant z)
  renew (Row.Expression (Variable v)) = Row.Expression (Variable v)
  renew (Row.Expression (Arithmetic o a b)) = Row.Expression (Arithmetic o (to 0) (to 1))
  renew (Row.Expression (Negate a)) = Row.Expression (Negate (to 0))
  renew (Row.Expression (Mark m)) = Row.Expression (Mark (record { 0 = ρ m.0 }))
  renew (Row.Expression (Choose f a b)) = Row.Expression (Choose (to 0) (to 1) (to 2))
  renew (Row.Formula True) = Row.Formula True
  renew (Row.Formula False) = Row.Formula False
  renew (Row.Formula (Comparison o a b)) = Row.Formula (Comparison o (to 0) (to 1))
  renew (Row.Formula (Not f)) = Row.Formula (Not (to 0))
  renew (Row.Formula (Junction o f g)) = Row.Formula (Junction o (to 0) (to 1))
  renew (Row.Statement Skip) = Row.Statement Skip
  renew (Row.Statement (Assign v e)) = Row.Statement (Assign v (to 0))
  renew (Row.Statement (Sequence a b)) = Row.Statement (Sequence (to 0) (to 1))
  renew (Row.Statement (If b x y)) = Row.Statement (If (to 0) (to 1) (to 2))
  renew (Row.Statement (While b n x)) = Row.Statement (While (to 0) (to 1) (to 2))
  renew (Row.Statement (Assert f)) = Row.Statement (Assert (to 0))
  renew (Row.Note i v) = Row.Note (to 0) (to 1)
  renew (Row.Script p s q) = Row.Script (to 0) (to 1) (to 2)
  renew Row.Unknown = Row.Unknown

  -- its fields, of which the next link is number i
  abbrev pub renew_fields : ℕ → List Field → List Field
  renew_fields i [] = []
  renew_fields i (value ∷ fs) = value ∷ renew_fields i fs
  renew_fields i (variable v ∷ fs) = variable v ∷ renew_fields i fs
  renew_fields i (target v ∷ fs) = target v ∷ renew_fields i fs
  renew_fields i (loop m ∷ fs) = loop (ρ m) ∷ renew_fields i fs
  renew_fields i (link s r ∷ fs) = link s (get_or js i 0) ∷ renew_fields (suc i) fs

  pub fields_renewed : (w : Row) → fields (renew w) ≡ renew_fields 0 (fields w)
  fields_renewed (Row.Expression (Constant z)) = refl
  fields_renewed (Row.Expression (Variable v)) = refl
  fields_renewed (Row.Expression (Arithmetic o a b)) = refl
  fields_renewed (Row.Expression (Negate a)) = refl
  fields_renewed (Row.Expression (Mark m)) = refl
  fields_renewed (Row.Expression (Choose f a b)) = refl
  fields_renewed (Row.Formula True) = refl
  fields_renewed (Row.Formula False) = refl
  fields_renewed (Row.Formula (Comparison o a b)) = refl
  fields_renewed (Row.Formula (Not f)) = refl
  fields_renewed (Row.Formula (Junction o f g)) = refl
  fields_renewed (Row.Statement Skip) = refl
  fields_renewed (Row.Statement (Assign v e)) = refl
  fields_renewed (Row.Statement (Sequence a b)) = refl
  fields_renewed (Row.Statement (If b x y)) = refl
  fields_renewed (Row.Statement (While b n x)) = refl
  fields_renewed (Row.Statement (Assert f)) = refl
  fields_renewed (Row.Note i v) = refl
  fields_renewed (Row.Script p s q) = refl
  fields_renewed Row.Unknown = refl

  pub sort_renewed : (w : Row) → sort_of (renew w) ≡ sort_of w
  sort_renewed (Row.Expression (Constant z)) = refl
  sort_renewed (Row.Expression (Variable v)) = refl
  sort_renewed (Row.Expression (Arithmetic o a b)) = refl
  sort_renewed (Row.Expression (Negate a)) = refl
  sort_renewed (Row.Expression (Mark m)) = refl
  sort_renewed (Row.Expression (Choose f a b)) = refl
  sort_renewed (Row.Formula True) = refl
  sort_renewed (Row.Formula False) = refl
  sort_renewed (Row.Formula (Comparison o a b)) = refl
  sort_renewed (Row.Formula (Not f)) = refl
  sort_renewed (Row.Formula (Junction o f g)) = refl
  sort_renewed (Row.Statement Skip) = refl
  sort_renewed (Row.Statement (Assign v e)) = refl
  sort_renewed (Row.Statement (Sequence a b)) = refl
  sort_renewed (Row.Statement (If b x y)) = refl
  sort_renewed (Row.Statement (While b n x)) = refl
  sort_renewed (Row.Statement (Assert f)) = refl
  sort_renewed (Row.Note i v) = refl
  sort_renewed (Row.Script p s q) = refl
  sort_renewed Row.Unknown = refl

  -- ---- the words of a row renewed

  module _ (a b c : ℤ) where
    -- field number i of w, renewed
    abbrev nth : Row → ℕ → ℤ
    nth w i = get_or (renewed ρ js 0 (fields w) (a ∷ b ∷ c ∷ [])) i (pos 0)

    abbrev Known : Row → Type 0
    Known w = sort_of w ≡ Unknown → ⊥

    -- what kind number m makes of the renewed fields of w is w renewed
    abbrev pub Renews : ℕ → Row → Type 0
    Renews m w = Known w → row_of m (nth w 0) (nth w 1) (nth w 2) ≡ renew w

    pub renew_row : (n : ℕ) → Renews n (row_of n a b c)
    unfolding row_of renewed
    renew_row n =
        listed_holds Renews n (kinds a b c) (λ u. absurd (u refl))
        ((λ u. refl) also (λ u. refl) also (λ u. refl) also (λ u. refl) also (λ u. refl) also (λ u. refl) also
        (λ u. refl)
        also (λ u. refl) also (λ u. refl) also (λ u. refl) also (λ u. refl) also (λ u. refl) also (λ u. refl) also
        (λ u. refl)
        also (λ u. refl) also (λ u. refl) also (λ u. refl) also (λ u. refl) also (λ u. refl) also (λ u. refl) also
        (λ u. refl)
        also (λ u. refl) also (λ u. refl) also (λ u. refl) also (λ u. refl) also (λ u. refl) also (λ u. refl) also
        (λ u. refl) also tt)
