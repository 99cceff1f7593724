-- The total rule for loops is sound: where the exit, floor and step conditions of a loop are valid, its guard works out no
-- zero divisor where its invariant is true (`Divisors.guard_worked`), and its body terminates, the loop terminates, with
-- its passes bounded.
-- Argument: by induction on a bound d above the variant (`turn`). Where the guard holds, floor keeps the variant from being
-- negative; the mark is set to it, so W of the body holds (`ready`); the body keeps the mark, since its
-- loops have lower rows, and ends with the variant below it (`pass`). The variant and the number of bodies begun together
-- stay within the variant at the arrival (`Room`), which is the bound on passes. Assumes nothing.
use Prim.Native.Nat.{ℕ, zero, suc, ◌+◌, ◌≤◌, ◌<◌}
use Rattle.std.proofs.Common.{arith as linear, ◌∙◌, subst, eqb→eq, ltb→lt, lt→ltb}
use Rattle.std.specs.Prelude.{◌≡◌, refl, List, ◌∷◌, Bool, true, false, cond, pos, negsuc, eqb}
use Rattle.std.proofs.Math.Path.{subst⁻¹}
use Rattle.std.proofs.Math.Bool as Bool
use Rattle.std.proofs.Math.IntN.{ℤ}
use Rattle.std.specs.Int.Signed.{lt_z, le_z}
use Rattle.std.proofs.Math.Dec.{T, eqb_refl}
use Rattle.script.specs.Syntax.{Expr, const, mark, Formula, cmp, not, join, Stmt, loop}
use Rattle.script.specs.declared.Relation.TheVariants.{Less, AtMost, Equal}
use Rattle.script.specs.declared.Connective.TheVariants.{And}
use Rattle.script.specs.Meaning.{Arithmetic, State, value, holds, definedᶠ, eqZ}
use Rattle.script.specs.Run.{put, set_mark, Frame, begin, again, at, test, first_step, step_of, Bounded, PassesBounded}
use Rattle.script.specs.Run as Run
use Rattle.script.specs.Conditions.{decreased, wp, exit, floor, step}
use Rattle.script.specs.Promise.{Valid}
use Rattle.theorems.specs.Scoping.{MarkFree, MarkFreeᶠ, LoopsBelow}
use Rattle.theorems.specs.Substitution.{mark_free, mark_freeᶠ}
use Rattle.theorems.specs.Truths.{both_hold, hold_both, hold_then}
use Rattle.theorems.specs.Traces.{Trace, stay, go, join_traces, Terminates, no_zero_terminates}

eqZ_refl : (z : ℤ) → T (eqZ z z)
eqZ_refl (pos n) = eqb_refl n
eqZ_refl (negsuc n) = eqb_refl n

put_same : (f : ℕ → ℤ) (m : ℕ) (z : ℤ) → put f m z m ≡ z
put_same f m z = yes' (eqb m m) (eqb_refl m)
  where
    yes' : (b : Bool) → T b → cond b z (f m) ≡ z
    yes' true t = refl
    yes' false t = absurd t

put_above : (f : ℕ → ℤ) (m j : ℕ) (z : ℤ) → m < j → put f m z j ≡ f j
put_above f m j z h = go' (eqb j m) (eqb→eq j m)
  where
    go' : (b : Bool) → (T b → j ≡ m) → cond b z (f j) ≡ f j
    go' true e = absurd (let p = e tt in omega linear)
    go' false e = refl

-- the variant's value, with n bodies begun, leaves room below the value at arrival
abbrev pub Room : ℤ → ℕ → ℤ → Type 0
Room (pos a) n (pos c) = a + n ≤ c
Room (pos a) n (negsuc c) = ⊥
Room (negsuc a) n c = Unit {0}

pub room_start : (z : ℤ) → Room z zero z
room_start (pos a) = omega linear
room_start (negsuc a) = tt

room_bound : (a n : ℕ) (c : ℤ) → Room (pos a) n c → Bounded c (suc n)
room_bound a n (pos c) h = omega linear
room_bound a n (negsuc c) h = absurd h

room_next : (z : ℤ) (a n : ℕ) (c : ℤ) → T (lt_z z (pos a)) → Room (pos a) n c → Room z (suc n) c
room_next (pos b) a n (pos c) l h = let p = ltb→lt b a l in omega linear
room_next (pos b) a n (negsuc c) l h = absurd h
room_next (negsuc b) a n c l h = tt

lower : (z : ℤ) (a d : ℕ) → T (lt_z z (pos a)) → T (lt_z (pos a) (pos (suc d))) → T (lt_z z (pos d))
lower (pos b) a d l h = lt→ltb b d (let p = ltb→lt b a l in let q = ltb→lt a (suc d) h in omega linear)
lower (negsuc b) a d l h = tt

pub above : (z : ℤ) → (d : ℕ) × T (lt_z z (pos d))
above (pos a) = (suc a, lt→ltb a (suc a) (omega linear))
above (negsuc a) = (zero, tt)

no_room : (z : ℤ) → T (lt_z z (pos 0)) → T (le_z (pos 0) z) → ⊥
no_room (pos a) l h = let p = ltb→lt a 0 l in omega linear
no_room (negsuc a) l h = h

module _ (𝔸 : Arithmetic) where
  module _ (m : ℕ) (b i : Formula) (v : Expr) (x : Stmt) (q : Formula)
      (ub : MarkFreeᶠ m b) (ui : MarkFreeᶠ m i) (uv : MarkFree m v) (below : LoopsBelow m x)
      (works : (s : State) → T (holds 𝔸 s i) → T (definedᶠ 𝔸 s b))
      (exits : Valid 𝔸 (exit b i q)) (floors : Valid 𝔸 (floor b i v)) (steps : Valid 𝔸 (step m b i v x))
      (body : (k : List Frame) → PassesBounded k → (s : State) → T (holds 𝔸 s (wp x (decreased m i v)))
      → Terminates 𝔸 k (first_step 𝔸 x k s) s (decreased m i v) x)
      (k : List Frame) (fair : PassesBounded k) (v₀ : ℤ)
    where
      -- W of the body holds once the mark is set
      ready : (s : State) → T (holds 𝔸 s i) → T (holds 𝔸 s b)
          → T (holds 𝔸 (set_mark s m (value 𝔸 s v)) (wp x (decreased m i v)))
      unfolding value holds
      ready s hi hb =
          hold_then 𝔸 s' (join And (join And i b) (cmp Equal v (mark m))) (wp x (decreased m i v)) (steps s')
          (hold_both 𝔸 s' (join And i b) (cmp Equal v (mark m))
          (hold_both 𝔸 s' i b (subst⁻¹ T (mark_freeᶠ 𝔸 s m z i ui) hi) (subst⁻¹ T (mark_freeᶠ 𝔸 s m z b ub) hb))
          same)
        where
          z : ℤ
          z = value 𝔸 s v

          s' : State
          s' = set_mark s m z

          same : T (holds 𝔸 s' (cmp Equal v (mark m)))
          same =
              subst⁻¹ (λ (p : ℤ). T (eqZ p (put s.mark m z m))) (mark_free 𝔸 s m z v uv)
              (subst⁻¹ (λ (p : ℤ). T (eqZ z p)) (put_same s.mark m z) (eqZ_refl z))

      floor_at : (s : State) → T (holds 𝔸 s i) → T (holds 𝔸 s b) → T (le_z (pos 0) (value 𝔸 s v))
      unfolding value holds
      floor_at s hi hb =
          hold_then 𝔸 s (join And i b) (cmp AtMost (const (pos 0)) v) (floors s) (hold_both 𝔸 s i b hi hb)

      exit_at : (s : State) → T (holds 𝔸 s i) → T (Bool.not (holds 𝔸 s b)) → T (holds 𝔸 s q)
      unfolding value holds
      exit_at s hi hb = hold_then 𝔸 s (join And i (not b)) q (exits s) (hold_both 𝔸 s i (not b) hi hb)

      less_at : (s : State) → T (holds 𝔸 s (decreased m i v)) → T (holds 𝔸 s i) × T (lt_z (value 𝔸 s v) (s.mark m))
      unfolding value holds
      less_at s h = both_hold 𝔸 s i (cmp Less v (mark m)) h

      -- after a test that worked out t, the loop terminates
      abbrev Tested : ℕ → State → Bool → Type 0
      Tested n s t =
          Terminates 𝔸 k
          (cond t (at (begin x ∷ again m b i v x v₀ (suc n) ∷ k) (set_mark s m (value 𝔸 s v))) (at k s))
          s
          q
          (loop m b i v x)

      -- the test with n bodies begun and the variant below d
      abbrev Back : ℕ → ℕ → Type 0
      Back d n =
          (s : State) → T (holds 𝔸 s i) → T (lt_z (value 𝔸 s v) (pos d)) → Room (value 𝔸 s v) n v₀
          → Terminates 𝔸 k (test 𝔸 m b i v x v₀ n k s) s q (loop m b i v x)

      left : (n : ℕ) (s : State) → T (holds 𝔸 s q) → Tested n s false
      left n s h = record { end = s; meets = h; leads = stay; kept = λ r l j h. refl }

      -- one more pass: the variant is pos a, the body runs, and the loop is tested again
      pass : (d n : ℕ) → Back d (suc n) → (s : State) → T (holds 𝔸 s i) → T (holds 𝔸 s b)
          → T (lt_z (value 𝔸 s v) (pos (suc d))) → Room (value 𝔸 s v) n v₀
          → (z : ℤ) → value 𝔸 s v ≡ z → T (le_z (pos 0) z) → Tested n s true
      unfolding Run.step step_of test
      pass d n back s hi hb lt rm (negsuc a) e nn = absurd nn
      pass d n back s hi hb lt rm (pos a) e nn =
          record { end = done.end; meets = done.meets; leads = all; kept = kept' }
        where
          s₁ : State
          s₁ = set_mark s m (value 𝔸 s v)

          k₁ : List Frame
          k₁ = again m b i v x v₀ (suc n) ∷ k

          rm' : Room (pos a) n v₀
          rm' = subst (λ (p : ℤ). Room p n v₀) e rm

          fair₁ : PassesBounded k₁
          fair₁ = (room_bound a n v₀ rm', fair)

          ran : Terminates 𝔸 k₁ (first_step 𝔸 x k₁ s₁) s₁ (decreased m i v) x
          ran = body k₁ fair₁ s₁ (ready s hi hb)

          kept_mark : ran.end.mark m ≡ pos a
          kept_mark = ran.kept m below m (omega linear) ∙ put_same s.mark m (value 𝔸 s v) ∙ e

          got : T (holds 𝔸 ran.end i) × T (lt_z (value 𝔸 ran.end v) (ran.end.mark m))
          got = less_at ran.end ran.meets

          less' : T (lt_z (value 𝔸 ran.end v) (pos a))
          less' = subst (λ (p : ℤ). T (lt_z (value 𝔸 ran.end v) p)) kept_mark got.1

          done : Terminates 𝔸 k (test 𝔸 m b i v x v₀ (suc n) k ran.end) ran.end q (loop m b i v x)
          done =
              back ran.end got.0
              (lower (value 𝔸 ran.end v) a d less' (subst (λ (p : ℤ). T (lt_z p (pos (suc d)))) e lt))
              (room_next (value 𝔸 ran.end v) a n v₀ less' rm')

          all : Trace 𝔸 (at (begin x ∷ k₁) s₁) (at k done.end)
          all = go fair₁ (join_traces 𝔸 ran.leads (go fair₁ done.leads))

          kept' : (r : ℕ) → LoopsBelow r (loop m b i v x) → (j : ℕ) → r ≤ j → done.end.mark j ≡ s.mark j
          kept' r l j h =
              done.kept r l j h
              ∙ ran.kept r l.1 j h
              ∙ put_above s.mark m j (value 𝔸 s v) (let p = l.0 in omega linear)

      -- what either value of the guard tells
      abbrev Told : State → Bool → Type 0
      Told s t = (T t → T (holds 𝔸 s b)) × (T (Bool.not t) → T (Bool.not (holds 𝔸 s b)))

      last_turn : (n : ℕ) (s : State) → T (holds 𝔸 s i) → T (lt_z (value 𝔸 s v) (pos 0)) → (t : Bool) → Told s t → Tested n s t
      last_turn n s hi lt true told = absurd (no_room (value 𝔸 s v) lt (floor_at s hi (told.0 tt)))
      last_turn n s hi lt false told = left n s (exit_at s hi (told.1 tt))

      next_turn : (d n : ℕ) → Back d (suc n) → (s : State) → T (holds 𝔸 s i) → T (lt_z (value 𝔸 s v) (pos (suc d)))
          → Room (value 𝔸 s v) n v₀ → (t : Bool) → Told s t → Tested n s t
      next_turn d n back s hi lt rm true told =
          pass d n back s hi (told.0 tt) lt rm (value 𝔸 s v) refl (floor_at s hi (told.0 tt))
      next_turn d n back s hi lt rm false told = left n s (exit_at s hi (told.1 tt))

      pub turn : (d n : ℕ) → Back d n
      unfolding test
      turn zero n s hi lt rm =
          no_zero_terminates 𝔸 (loop m b i v x) (definedᶠ 𝔸 s b) (works s hi) (last_turn n s hi lt (holds 𝔸 s b) (λ t. t, λ t. t))
      turn (suc d) n s hi lt rm =
          no_zero_terminates 𝔸 (loop m b i v x) (definedᶠ 𝔸 s b) (works s hi)
          (next_turn d n (turn d (suc n)) s hi lt rm (holds 𝔸 s b) (λ t. t, λ t. t))
