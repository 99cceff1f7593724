-- What the value of a test says, as laws that go both ways: of a negation, a conjunction, a disjunction, a choice, and of
-- two sorts that are compared; of two whole numbers that are equal. Each is by cases. Assumes nothing.
use Rattle.std.specs.Prelude.{ℕ, zero, suc, ◌≡◌, refl, ◌↔◌, ◌⊎◌, Bool, true, false, cond, not, ◌&&◌, ◌||◌, ℤ, pos, negsuc}
use Rattle.std.proofs.Common.{sym, ap, ◌∙◌, inl, inr, ⊎_elim, true≢false, eqb-true, eq-eqb}
use Rattle.std.proofs.lemmas.Bool.{false≢true}
use Rattle.script.specs.declared.Sort.{Sort}
use Rattle.script.specs.declared.Sort.TheVariants.{Expression, Formula, Statement, Note, Script, Unknown}
use Rattle.script.specs.Meaning.{eqZ}
use Rattle.script.specs.Refusals.{same_sort}

pub either : {A B C D : Type 0} → A ↔ C → B ↔ D → (A ⊎ B) ↔ (C ⊎ D)
either f g = (⊎_elim (λ a. inl (f.0 a)) (λ b. inr (g.0 b)), ⊎_elim (λ c. inl (f.1 c)) (λ d. inr (g.1 d)))

pub by_path : {a b : Bool} → a ≡ b → (a ≡ true) ↔ (b ≡ true)
by_path e = (λ h. sym e ∙ h, λ h. e ∙ h)

pub not_iff : (b : Bool) → (not b ≡ true) ↔ (b ≡ false)
not_iff true = (λ e. sym e, λ e. sym e)
not_iff false = (λ e. refl, λ e. refl)

pub false_iff : {P : Type 0} (b : Bool) → (b ≡ true) ↔ P → (b ≡ false) ↔ ¬ P
false_iff true h = (λ e. absurd (true≢false e), λ f. absurd (f (h.0 refl)))
false_iff false h = (λ e p. false≢true (h.1 p), λ f. refl)

pub or_iff : (a b : Bool) → ((a || b) ≡ true) ↔ ((a ≡ true) ⊎ (b ≡ true))
or_iff true b = (λ e. inl refl, λ s. refl)
or_iff false b = (inr, ⊎_elim (λ e. absurd (false≢true e)) (λ e. e))

pub and_false : (a b : Bool) → ((a && b) ≡ false) ↔ ((a ≡ false) ⊎ (b ≡ false))
and_false true b = (inr, ⊎_elim (λ e. absurd (true≢false e)) (λ e. e))
and_false false b = (λ e. inl refl, λ s. refl)

-- a choice by a negated test
pub turned : {A : Type 0} (b : Bool) (x y : A) → cond b x y ≡ cond (not b) y x
turned true x y = refl
turned false x y = refl

-- ---- two sorts are the same where their numbers are

code : Sort → ℕ
code Expression = 0
code Formula = 1
code Statement = 2
code Note = 3
code Script = 4
code Unknown = 5

decode : ℕ → Sort
decode zero = Expression
decode (suc zero) = Formula
decode (suc (suc zero)) = Statement
decode (suc (suc (suc zero))) = Note
decode (suc (suc (suc (suc zero)))) = Script
decode (suc (suc (suc (suc (suc n))))) = Unknown

decoded : (s : Sort) → decode (code s) ≡ s
unfolding code decode
decoded Expression = refl
decoded Formula = refl
decoded Statement = refl
decoded Note = refl
decoded Script = refl
decoded Unknown = refl

pub sort_iff : (a b : Sort) → (same_sort a b ≡ true) ↔ (a ≡ b)
unfolding code
sort_iff a b = (λ e. sym (decoded a) ∙ ap decode (eqb-true (code a) (code b) e) ∙ decoded b, λ e. eq-eqb (code a) (code b) (ap code e))

pub equal_numbers : (x m : ℤ) → eqZ x m ≡ true → x ≡ m
equal_numbers (pos a) (pos b) e = ap pos (eqb-true a b e)
equal_numbers (pos a) (negsuc b) e = absurd (true≢false (sym e))
equal_numbers (negsuc a) (pos b) e = absurd (true≢false (sym e))
equal_numbers (negsuc a) (negsuc b) e = ap negsuc (eqb-true a b e)
