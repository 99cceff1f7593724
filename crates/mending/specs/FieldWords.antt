-- Fields and the words that they are read from: each link and each loop is the number in its word (`row_agrees`), so
-- where links and loops are renewed to themselves, the words are kept (`renewed_same`). By cases on kinds, rows and
-- fields. Assumes nothing.
use Rattle.std.specs.Prelude.{ℕ, suc, ◌<◌, ◌≡◌, refl, List, [], ◌∷◌, ℤ, pos, negsuc, get_or}
use Rattle.std.proofs.Common.{ap, arith as linear}
use Rattle.script.specs.declared.RowNumber.{RowNumber}
use Rattle.script.specs.declared.ExpressionRow.TheVariants.{Constant, Variable, Arithmetic, Negate, Mark, Choose}
use Rattle.script.specs.declared.FormulaRow.TheVariants.{True, False, Comparison, Not, Junction}
use Rattle.script.specs.declared.StatementRow.TheVariants.{Skip, Assign, Sequence, If, While, Assert}
use Rattle.script.specs.declared.Row.{Row}
use Rattle.script.specs.Rows.{Field, value, variable, target, loop, link, fields, parts, field_number, kinds, row_of}
use Rattle.theorems.specs.Links.{Link, here, there}
use Rattle.theorems.specs.Kinds.{listed_holds, ◌also◌}
use Rattle.mending.specs.NewTable.{renewed}

-- ---- fields and the words that they are read from

abbrev pub limit : ℕ
limit = 4294967295

-- each link and each loop is the number in its word
abbrev pub Agrees : List Field → List ℤ → Type 0
Agrees [] ws = Unit {0}
Agrees (f ∷ fs) [] = ⊥
Agrees (value ∷ fs) (w ∷ ws) = Agrees fs ws
Agrees (variable v ∷ fs) (w ∷ ws) = Agrees fs ws
Agrees (target v ∷ fs) (w ∷ ws) = Agrees fs ws
Agrees (loop m ∷ fs) (w ∷ ws) = (m ≡ field_number w) × Agrees fs ws
Agrees (link s r ∷ fs) (w ∷ ws) = (r ≡ field_number w) × Agrees fs ws

module _ (a b c : ℤ) where
  pub row_agrees : (n : ℕ) → Agrees (fields (row_of n a b c)) (a ∷ b ∷ c ∷ [])
  unfolding row_of
  row_agrees n =
      listed_holds (λ m w. Agrees (fields w) (a ∷ b ∷ c ∷ [])) n (kinds a b c) tt
      (tt also tt also two also two also two also two also two also (refl, tt) also (refl, tt) also three
      also tt also tt also two also two also two also two also (refl, tt) also two also two also two
      also tt also (refl, tt) also two also three also three also two also (refl, tt) also three also tt)
    where
      two : (field_number a ≡ field_number a) × ((field_number b ≡ field_number b) × Unit {0})
      two = (refl, (refl, tt))

      three : (field_number a ≡ field_number a)
          × ((field_number b ≡ field_number b) × ((field_number c ≡ field_number c) × Unit {0}))
      three = (refl, (refl, (refl, tt)))

-- ---- fields renewed to themselves

-- what holds of each link, by its number, and of each loop
abbrev pub Linked : (ℕ → ℕ → Type 0) → ℕ → List Field → Type 0
Linked P i [] = Unit {0}
Linked P i (value ∷ fs) = Linked P i fs
Linked P i (variable v ∷ fs) = Linked P i fs
Linked P i (target v ∷ fs) = Linked P i fs
Linked P i (loop m ∷ fs) = Linked P i fs
Linked P i (link s r ∷ fs) = P i r × Linked P (suc i) fs

abbrev pub Loops : (ℕ → Type 0) → List Field → Type 0
Loops P [] = Unit {0}
Loops P (value ∷ fs) = Loops P fs
Loops P (variable v ∷ fs) = Loops P fs
Loops P (target v ∷ fs) = Loops P fs
Loops P (loop m ∷ fs) = P m × Loops P fs
Loops P (link s r ∷ fs) = Loops P fs

same_word : (n : ℕ) (w : ℤ) → n ≡ field_number w → n < limit → pos n ≡ w
same_word n (pos x) e h = ap pos e
same_word n (negsuc x) e h = absurd (omega linear)

pub renewed_same : (ρ : ℕ → ℕ) (pl : List ℕ) (i : ℕ) (fs : List Field) (ws : List ℤ) → Agrees fs ws
    → Linked (λ i p. (get_or pl i 0 ≡ p) × (p < limit)) i fs → Loops (λ m. (ρ m ≡ m) × (m < limit)) fs
    → renewed ρ pl i fs ws ≡ ws
unfolding renewed
renewed_same ρ pl i [] ws a l m = refl
renewed_same ρ pl i (f ∷ fs) [] a l m = refl
renewed_same ρ pl i (value ∷ fs) (w ∷ ws) a l m = ap (λ (x : List ℤ). w ∷ x) (renewed_same ρ pl i fs ws a l m)
renewed_same ρ pl i (variable v ∷ fs) (w ∷ ws) a l m = ap (λ (x : List ℤ). w ∷ x) (renewed_same ρ pl i fs ws a l m)
renewed_same ρ pl i (target v ∷ fs) (w ∷ ws) a l m = ap (λ (x : List ℤ). w ∷ x) (renewed_same ρ pl i fs ws a l m)
renewed_same ρ pl i (loop x ∷ fs) (w ∷ ws) a l m =
    rw (m.0.0, same_word x w a.0 m.0.1, renewed_same ρ pl i fs ws a.1 l m.1)
renewed_same ρ pl i (link s r ∷ fs) (w ∷ ws) a l m =
    rw (l.0.0, same_word r w a.0 l.0.1, renewed_same ρ pl (suc i) fs ws a.1 l.1 m)

module _ (P : ℕ → ℕ → Type 0) where
  pub linked_of : (w : Row) → ((i p : ℕ) → Link p i (parts w) → P i p) → Linked P 0 (fields w)
  linked_of (Row.Expression (Constant z)) f = tt
  linked_of (Row.Expression (Variable v)) f = tt
  linked_of (Row.Expression (Arithmetic o a b)) f = (f 0 a.0 (here refl), (f 1 b.0 (there (here refl)), tt))
  linked_of (Row.Expression (Negate a)) f = (f 0 a.0 (here refl), tt)
  linked_of (Row.Expression (Mark m)) f = tt
  linked_of (Row.Expression (Choose g a b)) f =
      (f 0 g.0 (here refl), (f 1 a.0 (there (here refl)), (f 2 b.0 (there (there (here refl))), tt)))
  linked_of (Row.Formula True) f = tt
  linked_of (Row.Formula False) f = tt
  linked_of (Row.Formula (Comparison o a b)) f = (f 0 a.0 (here refl), (f 1 b.0 (there (here refl)), tt))
  linked_of (Row.Formula (Not g)) f = (f 0 g.0 (here refl), tt)
  linked_of (Row.Formula (Junction o a b)) f = (f 0 a.0 (here refl), (f 1 b.0 (there (here refl)), tt))
  linked_of (Row.Statement Skip) f = tt
  linked_of (Row.Statement (Assign v e)) f = (f 0 e.0 (here refl), tt)
  linked_of (Row.Statement (Sequence a b)) f = (f 0 a.0 (here refl), (f 1 b.0 (there (here refl)), tt))
  linked_of (Row.Statement (If g a b)) f =
      (f 0 g.0 (here refl), (f 1 a.0 (there (here refl)), (f 2 b.0 (there (there (here refl))), tt)))
  linked_of (Row.Statement (While g a b)) f =
      (f 0 g.0 (here refl), (f 1 a.0 (there (here refl)), (f 2 b.0 (there (there (here refl))), tt)))
  linked_of (Row.Statement (Assert g)) f = (f 0 g.0 (here refl), tt)
  linked_of (Row.Note a b) f = (f 0 a.0 (here refl), (f 1 b.0 (there (here refl)), tt))
  linked_of (Row.Script g a b) f =
      (f 0 g.0 (here refl), (f 1 a.0 (there (here refl)), (f 2 b.0 (there (there (here refl))), tt)))
  linked_of Row.Unknown f = tt

module _ (P : ℕ → Type 0) where
  pub loops_of : (w : Row) → ((m : RowNumber) → w ≡ Row.Expression (Mark m) → P m.0) → Loops P (fields w)
  loops_of (Row.Expression (Constant z)) f = tt
  loops_of (Row.Expression (Variable v)) f = tt
  loops_of (Row.Expression (Arithmetic o a b)) f = tt
  loops_of (Row.Expression (Negate a)) f = tt
  loops_of (Row.Expression (Mark m)) f = (f m refl, tt)
  loops_of (Row.Expression (Choose g a b)) f = tt
  loops_of (Row.Formula True) f = tt
  loops_of (Row.Formula False) f = tt
  loops_of (Row.Formula (Comparison o a b)) f = tt
  loops_of (Row.Formula (Not g)) f = tt
  loops_of (Row.Formula (Junction o a b)) f = tt
  loops_of (Row.Statement Skip) f = tt
  loops_of (Row.Statement (Assign v e)) f = tt
  loops_of (Row.Statement (Sequence a b)) f = tt
  loops_of (Row.Statement (If g a b)) f = tt
  loops_of (Row.Statement (While g a b)) f = tt
  loops_of (Row.Statement (Assert g)) f = tt
  loops_of (Row.Note a b) f = tt
  loops_of (Row.Script g a b) f = tt
  loops_of Row.Unknown f = tt
