-- A run without row numbers: the steps of `Run` on the nameless script, where the marks of the loops that the run is in
-- are a list of values, the innermost first. And what is seen of a run without names (`seen`). Assumes nothing.
use Rattle.std.specs.Prelude.{ℕ, zero, suc, List, [], ◌∷◌, map, Bool, cond, ℤ, pos, get_or}
use Rattle.script.specs.Syntax.{Expr, Formula, Stmt, skip, assign, seq, branch, loop, assert}
use Rattle.script.specs.Meaning.{Arithmetic, State, value, holds, defined, definedᶠ}
use Rattle.script.specs.Run.{put, Frame, begin, again, Cause, false_assertion, zero_divisor, Config, at, failed}
use Rattle.mending.specs.Nameless.{nameless, namelessᶠ, namelessˢ}
use Rattle.mending.specs.InScope.{Scoped}

-- ---- the nameless run

-- what is to do, the variables, and the marks of the loops that the run is in
pub data Config₀ : Type 0 where
  at₀ : List Frame → (ℕ → ℤ) → List ℤ → Config₀
  failed₀ : Cause → Config₀

-- the mark of the loop at an index
abbrev pub state₀ : (ℕ → ℤ) → List ℤ → State
state₀ vars marks = record { var = vars; mark = λ i. get_or marks i (pos 0) }

abbrev unless_zero₀ : Bool → Config₀ → Config₀
unless_zero₀ no_zero c = cond no_zero c (failed₀ zero_divisor)

-- without that of the innermost loop
abbrev outer : List ℤ → List ℤ
outer [] = []
outer (z ∷ zs) = zs

module _ (𝔸 : Arithmetic) where
  unfoldable pub test₀ : Formula → Formula → Expr → Stmt → ℤ → ℕ → List Frame → (ℕ → ℤ) → List ℤ → Config₀
  test₀ b i v x v₀ n k vars marks =
      unless_zero₀ (definedᶠ 𝔸 (state₀ vars marks) b)
      (cond (holds 𝔸 (state₀ vars marks) b)
      (at₀ (begin x ∷ again 0 b i v x v₀ (suc n) ∷ k) vars (value 𝔸 (state₀ vars marks) v ∷ marks))
      (at₀ k vars marks))

  unfoldable pub first_step₀ : Stmt → List Frame → (ℕ → ℤ) → List ℤ → Config₀
  first_step₀ skip k vars marks = at₀ k vars marks
  first_step₀ (assign v e) k vars marks =
      unless_zero₀ (defined 𝔸 (state₀ vars marks) e) (at₀ k (put vars v (value 𝔸 (state₀ vars marks) e)) marks)
  first_step₀ (seq a b) k vars marks = first_step₀ a (begin b ∷ k) vars marks
  first_step₀ (branch b x y) k vars marks =
      unless_zero₀ (definedᶠ 𝔸 (state₀ vars marks) b)
      (at₀ (begin (cond (holds 𝔸 (state₀ vars marks) b) x y) ∷ k) vars marks)
  first_step₀ (loop m b i v x) k vars marks = test₀ b i v x (value 𝔸 (state₀ vars marks) v) zero k vars marks
  first_step₀ (assert a) k vars marks =
      cond (holds 𝔸 (state₀ vars marks) a) (at₀ k vars marks) (failed₀ false_assertion)

  unfoldable pub step₀ : Config₀ → Config₀
  step₀ (at₀ [] vars marks) = at₀ [] vars marks
  step₀ (at₀ (begin x ∷ k) vars marks) = first_step₀ x k vars marks
  step₀ (at₀ (again m b i v x v₀ n ∷ k) vars marks) = test₀ b i v x v₀ n k vars (outer marks)
  step₀ (failed₀ c) = failed₀ c

  unfoldable pub after₀ : ℕ → Config₀ → Config₀
  after₀ zero c = c
  after₀ (suc n) c = after₀ n (step₀ c)

-- ---- a run seen without names

-- the loops that the run is in, the innermost first
abbrev pub loops : List Frame → List ℕ
loops [] = []
loops (begin x ∷ k) = loops k
loops (again m b i v x v₀ n ∷ k) = m ∷ loops k

abbrev pub frames₀ : List Frame → List Frame
frames₀ [] = []
frames₀ (begin x ∷ k) = begin (namelessˢ (loops k) x) ∷ frames₀ k
frames₀ (again m b i v x v₀ n ∷ k) =
    again 0 (namelessᶠ (loops k) b) (namelessᶠ (loops k) i) (nameless (loops k) v)
    (namelessˢ (m ∷ loops k) x) v₀ n ∷ frames₀ k

abbrev pub seen : Config → Config₀
seen (at k s) = at₀ (frames₀ k) s.var (map s.mark (loops k))
seen (failed c x) = failed₀ c

-- what is to do is in scope
abbrev pub ScopedFrames : List Frame → Type 0
ScopedFrames [] = Unit {0}
ScopedFrames (begin x ∷ k) = Scoped (loops k) x × ScopedFrames k
ScopedFrames (again m b i v x v₀ n ∷ k) = Scoped (loops k) (loop m b i v x) × ScopedFrames k

abbrev pub ScopedRun : Config → Type 0
ScopedRun (at k s) = ScopedFrames k
ScopedRun (failed c x) = Unit {0}
