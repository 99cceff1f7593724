-- The kinds as the code has them: 01, "Rows of a script", with the number of each, and the kind of a number. At the end laws for the
-- code's proofs, from a kind to the number that was read.
use Rattle.std.specs.Prelude.{ℕ, suc, ◌≡◌, refl, ◌⊎◌, List, [], ◌∷◌, cond, eqb}
use Rattle.std.proofs.Common.{sym, inl, inr}
use Rattle.std.proofs.lemmas.Bool.Decides.{eqb_tells}
use Rattle.script.specs.declared.kinds.Kind.{Kind}
use Rattle.script.specs.declared.kinds.Kind.TheVariants.{Unlisted, Constant, Variable, Plus, Minus, Times, Div, Mod, Negate, Mark, Choose, True, False, Less, AtMost, Equal, Unequal, Not, And, Or, Implies, Skip, Assign, Sequence, If, While, Note, Assert, Script}

-- 0 for a number that is not listed, and no kind's number
abbrev pub number : Kind → ℕ
number Unlisted = 0
number Constant = 1
number Variable = 2
number Plus = 3
number Minus = 4
number Times = 5
number Div = 6
number Mod = 7
number Negate = 8
number Mark = 9
number Choose = 10
number True = 16
number False = 17
number Less = 18
number AtMost = 19
number Equal = 20
number Unequal = 21
number Not = 22
number And = 23
number Or = 24
number Implies = 25
number Skip = 32
number Assign = 33
number Sequence = 34
number If = 35
number While = 36
number Note = 37
number Assert = 38
number Script = 48

abbrev pub kinds : List Kind
kinds =
    Constant ∷ Variable ∷ Plus ∷ Minus ∷ Times ∷ Div ∷ Mod ∷ Negate ∷ Mark ∷ Choose ∷ True ∷ False ∷ Less ∷ AtMost ∷ Equal ∷
    Unequal ∷ Not ∷ And ∷ Or ∷ Implies ∷ Skip ∷ Assign ∷ Sequence ∷ If ∷ While ∷ Note ∷ Assert ∷ Script ∷ []

-- the first of some kinds that has a number
abbrev pub named : ℕ → List Kind → Kind
named n [] = Unlisted
named n (k ∷ ks) = cond (eqb n (number k)) k (named n ks)

unfoldable pub kind_of : ℕ → Kind
kind_of n = named n kinds

-- ---- laws

own_or_none : (n : ℕ) (ks : List Kind) → (number (named n ks) ≡ 0) ⊎ (number (named n ks) ≡ n)
own_or_none n [] = inl refl
own_or_none n (k ∷ ks) = elim (eqb_tells n (number k)) [
  | inl (e, q) ↦ rw e (inr (sym q))
  | inr (e, q) ↦ rw e (own_or_none n ks)
]

-- the number whose kind is listed
pub number_read : {k j : Kind} {n m : ℕ} → k ≡ kind_of n → k ≡ j → number j ≡ suc m → n ≡ suc m
unfolding kind_of
number_read {n = n} e h q = elim (own_or_none n kinds) [
  | inl o ↦ cc
  | inr o ↦ cc
]

-- a number whose kind is another
pub other_read : {k j : Kind} {n m : ℕ} → k ≡ kind_of n → (k ≡ j → ⊥) → kind_of m ≡ j → n ≡ m → ⊥
other_read e h q s = h cc
