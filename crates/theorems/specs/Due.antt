-- The statement that a run's next step begins (`due`): of a sequence its first part, found by going down first parts, so it is
-- never a sequence itself (`due_no_sequence`); a loop that is tested again is due as it was. Assumes nothing.
use Rattle.std.specs.Prelude.{◌≡◌, List, [], ◌∷◌}
use Rattle.std.proofs.Common.{subst}
use Rattle.std.proofs.Math.Option.{Option, none, some}
use Rattle.script.specs.Syntax.{Stmt, skip, assign, seq, branch, loop, assert}
use Rattle.script.specs.Run.{Frame, begin, again}
use Rattle.theorems.specs.Options.{none_is_not, some_inj}

abbrev pub first_of : Stmt → Stmt
first_of skip = skip
first_of (assign v e) = assign v e
first_of (seq a b) = first_of a
first_of (branch b x y) = branch b x y
first_of (loop m b i v x) = loop m b i v x
first_of (assert a) = assert a

abbrev pub due : List Frame → Option Stmt
due [] = none
due (begin x ∷ k) = some (first_of x)
due (again m b i v x v₀ n ∷ k) = some (loop m b i v x)

abbrev pub Sequence : Stmt → Type 0
Sequence skip = ⊥
Sequence (assign v e) = ⊥
Sequence (seq a b) = Unit {0}
Sequence (branch b x y) = ⊥
Sequence (loop m b i v x) = ⊥
Sequence (assert a) = ⊥

first_no_sequence : (x : Stmt) → ¬ Sequence (first_of x)
first_no_sequence skip h = h
first_no_sequence (assign v e) h = h
first_no_sequence (seq a b) h = first_no_sequence a h
first_no_sequence (branch b x y) h = h
first_no_sequence (loop m b i v x) h = h
first_no_sequence (assert a) h = h

pub due_no_sequence : (k : List Frame) (x : Stmt) → due k ≡ some x → ¬ Sequence x
due_no_sequence [] x e = none_is_not e
due_no_sequence (begin y ∷ k) x e = subst (λ (z : Stmt). ¬ Sequence z) (some_inj e) (first_no_sequence y)
due_no_sequence (again m b i v y v₀ n ∷ k) x e = subst (λ (z : Stmt). ¬ Sequence z) (some_inj e) (λ h. h)
