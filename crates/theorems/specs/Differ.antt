-- Answers that are told apart by computing: as words they are not the same (`other`), so they are two (`told`). Assumes nothing.
use Rattle.std.specs.Prelude.{refl, ◌≢◌, Bool, true, false, ◌&&◌, List, [], ◌∷◌, T, ℤ, pos, negsuc}
use Rattle.std.proofs.Common.{sym, subst, eq-eqb}
use Rattle.std.proofs.Math.Bool as Bool
use Rattle.script.specs.Meaning.{eqZ}

abbrev same : List ℤ → List ℤ → Bool
same [] [] = true
same [] (y ∷ ys) = false
same (x ∷ xs) [] = false
same (x ∷ xs) (y ∷ ys) = eqZ x y && same xs ys

same_itself : (xs : List ℤ) → T (same xs xs)
same_itself [] = tt
same_itself (pos a ∷ xs) = rw (eq-eqb a a refl) (same_itself xs)
same_itself (negsuc a ∷ xs) = rw (eq-eqb a a refl) (same_itself xs)

-- what is told of an answer, as words
module _ {A : Type 0} (words : A → List ℤ) where
  abbrev pub other : A → A → Bool
  other a b = Bool.not (same (words a) (words b))

  pub told : (a b : A) → T (other a b) → a ≢ b
  told a b h e = denied (same (words a) (words a)) (same_itself (words a)) (subst (λ (x : A). T (other a x)) (sym e) h)
    where
      denied : (b : Bool) → T b → T (Bool.not b) → ⊥
      denied true x y = y
      denied false x y = x
