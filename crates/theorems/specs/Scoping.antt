-- What the tree of an accepted table has, and the soundness of the rules asks: a loop's guard, invariant and variant do not
-- read its own mark, and the loops of its body have lower rows. Assumes nothing.
use Rattle.std.specs.Prelude.{ℕ, ◌<◌, T, eqb}
use Rattle.std.proofs.Math.Bool as Bool
use Rattle.script.specs.Syntax.{Expr, Formula, Names, Namesᶠ, Stmt, skip, assign, seq, branch, loop, assert}

module _ (m : ℕ) where
  abbrev pub MarkFree : Expr → Type 0
  MarkFree e = Names (λ v. Unit {0}) (λ k. T (Bool.not (eqb k m))) e

  abbrev pub MarkFreeᶠ : Formula → Type 0
  MarkFreeᶠ f = Namesᶠ (λ v. Unit {0}) (λ k. T (Bool.not (eqb k m))) f

  abbrev pub LoopsBelow : Stmt → Type 0
  LoopsBelow skip = Unit {0}
  LoopsBelow (assign v e) = Unit {0}
  LoopsBelow (seq a b) = LoopsBelow a × LoopsBelow b
  LoopsBelow (branch b x y) = LoopsBelow x × LoopsBelow y
  LoopsBelow (loop k b i v x) = (k < m) × LoopsBelow x
  LoopsBelow (assert a) = Unit {0}

abbrev pub WellScoped : Stmt → Type 0
WellScoped skip = Unit {0}
WellScoped (assign v e) = Unit {0}
WellScoped (seq a b) = WellScoped a × WellScoped b
WellScoped (branch b x y) = WellScoped x × WellScoped y
WellScoped (loop m b i v x) = MarkFreeᶠ m b × MarkFreeᶠ m i × MarkFree m v × LoopsBelow m x × WellScoped x
WellScoped (assert a) = Unit {0}
