-- A run of a script whose marks are in scope is, seen without names, the nameless run (`after_seen`).
-- Argument: a mark's value is that at its index (`value_seen`); a body that is begun puts its mark's value in front
-- (`mark_put`), and since no loop is in one of its own number, those of the loops around it stay. Assumes nothing.
use Prim.Native.Nat.{ℕ, zero, suc}
use Rattle.std.specs.Prelude.{◌≡◌, refl, Bool, cond, ◌||◌, pos, eqb, get_or}
use Rattle.std.proofs.Common.{sym, ◌∙◌, true≢false, eq-eqb, eqb-true, ne_eqb}
use Rattle.std.proofs.Math.Path.{ap}
use mathlib.Core.List.{List, [], ◌∷◌, map}
use Rattle.std.proofs.Math.Bool.{true, false}
use Rattle.std.proofs.lemmas.Bool.{false≢true, eqb-false}
use Rattle.std.proofs.Math.IntN.{ℤ}
use Rattle.script.specs.Syntax.{Expr, const, var, mark, arith, neg, choose, Formula, truth, cmp, not, join, Stmt, skip, assign, seq, branch, loop, assert}
use Rattle.script.specs.Meaning.{Arithmetic, State, value, holds, defined, definedᶠ}
use Rattle.script.specs.Run.{put, set_mark, Frame, begin, again, Config, at, failed, test, first_step, step_of, step, after}
use Rattle.script.specs.Refusals.{member}
use Rattle.mending.specs.Nameless.{index, nameless, namelessᶠ, namelessˢ}
use Rattle.mending.specs.InScope.{In, Inᶠ, Scoped}
use Rattle.mending.specs.NamelessRun.{Config₀, at₀, state₀, test₀, first_step₀, step₀, after₀, loops, frames₀, seen, ScopedFrames, ScopedRun}

-- ---- values

-- the mark of a loop among these, at its index
found : (f : ℕ → ℤ) (m : ℕ) (is : List ℕ) → member m is ≡ true → f m ≡ get_or (map f is) (index m is) (pos 0)
found f m [] h = absurd (false≢true h)
found f m (x ∷ is) h = go (eqb m x) refl h (found f m is)
  where
    go : (b : Bool) → eqb m x ≡ b → (b || member m is) ≡ true
        → (member m is ≡ true → f m ≡ get_or (map f is) (index m is) (pos 0))
        → f m ≡ get_or (f x ∷ map f is) (cond b 0 (suc (index m is))) (pos 0)
    go true e d later = ap f (eqb-true m x e)
    go false e d later = later d

-- a mark that is set, of the innermost loop
mark_put : (f : ℕ → ℤ) (m : ℕ) (z : ℤ) (is : List ℕ) → member m is ≡ false → map (put f m z) is ≡ map f is
mark_put f m z [] h = refl
mark_put f m z (x ∷ is) h = go (eqb m x) refl h (mark_put f m z is)
  where
    go : (b : Bool) → eqb m x ≡ b → (b || member m is) ≡ false → (member m is ≡ false → map (put f m z) is ≡ map f is)
        → map (put f m z) (x ∷ is) ≡ map f (x ∷ is)
    go true e d later = absurd (true≢false d)
    go false e d later = rw (ne_eqb x m (λ y. eqb-false m x e (sym y)), later d)

module _ (𝔸 : Arithmetic) (s : State) (is : List ℕ) where
  abbrev pub s₀ : State
  s₀ = state₀ s.var (map s.mark is)

  mutual
    unfolding value holds nameless namelessᶠ

    pub value_seen : (e : Expr) → In is e → value 𝔸 s e ≡ value 𝔸 s₀ (nameless is e)
    value_seen (const z) h = refl
    value_seen (var v) h = refl
    value_seen (mark m) h = found s.mark m is h
    value_seen (arith o a b) h = λ i. 𝔸.op o (value_seen a h.0 i) (value_seen b h.1 i)
    value_seen (neg a) h = λ i. 𝔸.neg (value_seen a h i)
    value_seen (choose f a b) h = λ i. cond (holds_seen f h.0 i) (value_seen a h.1 i) (value_seen b h.2 i)

    pub holds_seen : (f : Formula) → Inᶠ is f → holds 𝔸 s f ≡ holds 𝔸 s₀ (namelessᶠ is f)
    holds_seen (truth b) h = refl
    holds_seen (cmp r a b) h = rw (value_seen a h.0, value_seen b h.1)
    holds_seen (not f) h = rw (holds_seen f h)
    holds_seen (join c f g) h = rw (holds_seen f h.0, holds_seen g h.1)

  mutual
    unfolding defined definedᶠ nameless namelessᶠ

    defined_seen : (e : Expr) → In is e → defined 𝔸 s e ≡ defined 𝔸 s₀ (nameless is e)
    defined_seen (const z) h = refl
    defined_seen (var v) h = refl
    defined_seen (mark m) h = refl
    defined_seen (arith o a b) h = rw (defined_seen a h.0, defined_seen b h.1, value_seen b h.1)
    defined_seen (neg a) h = defined_seen a h
    defined_seen (choose f a b) h =
        rw (defined_seenᶠ f h.0, holds_seen f h.0, defined_seen a h.1, defined_seen b h.2)

    defined_seenᶠ : (f : Formula) → Inᶠ is f → definedᶠ 𝔸 s f ≡ definedᶠ 𝔸 s₀ (namelessᶠ is f)
    defined_seenᶠ (truth b) h = refl
    defined_seenᶠ (cmp r a b) h = rw (defined_seen a h.0, defined_seen b h.1)
    defined_seenᶠ (not f) h = defined_seenᶠ f h
    defined_seenᶠ (join c f g) h = rw (defined_seenᶠ f h.0, defined_seenᶠ g h.1)

-- ---- steps

-- a configuration is in scope, and seen as c₀
pub record Keeps (c : Config) (c₀ : Config₀) : Type 0 where
  pub same : seen c ≡ c₀
  pub scoped : ScopedRun c

-- by cases on a test
either_way : (b : Bool) {c d : Config} {c₀ d₀ : Config₀} → Keeps c c₀ → Keeps d d₀ → Keeps (cond b c d) (cond b c₀ d₀)
either_way true h l = h
either_way false h l = l

module _ (𝔸 : Arithmetic) where
  test_keeps : (m : ℕ) (b i : Formula) (v : Expr) (x : Stmt) (v₀ : ℤ) (n : ℕ) (k : List Frame) (s : State)
      → Scoped (loops k) (loop m b i v x)
      → ScopedFrames k
      → Keeps (test 𝔸 m b i v x v₀ n k s)
      (test₀ 𝔸 (namelessᶠ (loops k) b) (namelessᶠ (loops k) i) (nameless (loops k) v) (namelessˢ (m ∷ loops k) x) v₀ n
      (frames₀ k) s.var (map s.mark (loops k)))
  unfolding test test₀
  test_keeps m b i v x v₀ n k s h sf =
      let is = loops k in
      rw (defined_seenᶠ 𝔸 s is b h.0, holds_seen 𝔸 s is b h.0, value_seen 𝔸 s is v h.2)
      (either_way (definedᶠ 𝔸 (state₀ s.var (map s.mark is)) (namelessᶠ is b))
      (either_way (holds 𝔸 (state₀ s.var (map s.mark is)) (namelessᶠ is b)) begun
      (record { same = refl; scoped = sf })) (record { same = refl; scoped = tt }))
    where
      z : ℤ
      z = value 𝔸 (state₀ s.var (map s.mark (loops k))) (nameless (loops k) v)

      begun : Keeps (at (begin x ∷ again m b i v x v₀ (suc n) ∷ k) (set_mark s m z))
          (at₀ (begin (namelessˢ (m ∷ loops k) x) ∷ again 0 (namelessᶠ (loops k) b) (namelessᶠ (loops k) i)
          (nameless (loops k) v) (namelessˢ (m ∷ loops k) x) v₀ (suc n) ∷ frames₀ k)
          s.var (z ∷ map s.mark (loops k)))
      begun = record { same = rw (eq-eqb m m refl, mark_put s.mark m z (loops k) h.3); scoped = (h.4, (h, sf)) }

  first_keeps : (x : Stmt) (k : List Frame) (s : State) → Scoped (loops k) x → ScopedFrames k
      → Keeps (first_step 𝔸 x k s) (first_step₀ 𝔸 (namelessˢ (loops k) x) (frames₀ k) s.var (map s.mark (loops k)))
  unfolding first_step first_step₀ namelessˢ
  first_keeps skip k s h sf = record { same = refl; scoped = sf }
  first_keeps (assign v e) k s h sf =
      rw (defined_seen 𝔸 s (loops k) e h, value_seen 𝔸 s (loops k) e h)
      (either_way (defined 𝔸 (state₀ s.var (map s.mark (loops k))) (nameless (loops k) e))
      (record { same = refl; scoped = sf }) (record { same = refl; scoped = tt }))
  first_keeps (seq a b) k s h sf = first_keeps a (begin b ∷ k) s h.0 (h.1, sf)
  first_keeps (branch b x y) k s h sf =
      let s₀ = state₀ s.var (map s.mark (loops k)) in
      let b₀ = namelessᶠ (loops k) b in
      rw (defined_seenᶠ 𝔸 s (loops k) b h.0, holds_seen 𝔸 s (loops k) b h.0)
      (either_way (definedᶠ 𝔸 s₀ b₀) (taken (holds 𝔸 s₀ b₀)) (record { same = refl; scoped = tt }))
    where
      taken : (c : Bool) → Keeps (at (begin (cond c x y) ∷ k) s)
          (at₀ (begin (cond c (namelessˢ (loops k) x) (namelessˢ (loops k) y)) ∷ frames₀ k) s.var
          (map s.mark (loops k)))
      taken true = record { same = refl; scoped = (h.1, sf) }
      taken false = record { same = refl; scoped = (h.2, sf) }
  first_keeps (loop m b i v x) k s h sf =
      rw (value_seen 𝔸 s (loops k) v h.2)
      (test_keeps m b i v x (value 𝔸 (state₀ s.var (map s.mark (loops k))) (nameless (loops k) v)) zero k s h sf)
  first_keeps (assert a) k s h sf =
      rw (holds_seen 𝔸 s (loops k) a h)
      (either_way (holds 𝔸 (state₀ s.var (map s.mark (loops k))) (namelessᶠ (loops k) a))
      (record { same = refl; scoped = sf }) (record { same = refl; scoped = tt }))

  step_keeps : (c : Config) → ScopedRun c → Keeps (step 𝔸 c) (step₀ 𝔸 (seen c))
  unfolding step step_of step₀
  step_keeps (at [] s) h = record { same = refl; scoped = tt }
  step_keeps (at (begin x ∷ k) s) h = first_keeps x k s h.0 h.1
  step_keeps (at (again m b i v x v₀ n ∷ k) s) h = test_keeps m b i v x v₀ n k s h.0 h.1
  step_keeps (failed c x) h = record { same = refl; scoped = tt }

  -- after any number of steps
  pub after_seen : (n : ℕ) (c : Config) → ScopedRun c → Keeps (after 𝔸 n c) (after₀ 𝔸 n (seen c))
  unfolding after after₀
  after_seen zero c h = record { same = refl; scoped = h }
  after_seen (suc n) c h =
      let k = step_keeps c h in
      let l = after_seen n (step 𝔸 c) k.scoped in
      record { same = l.same ∙ ap (after₀ 𝔸 n) k.same; scoped = l.scoped }
