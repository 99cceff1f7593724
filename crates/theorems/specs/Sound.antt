-- Hoare's rules with the total rule for loops are sound for the meaning of a run, for any arithmetic.
-- Argument: a statement whose conditions are valid, begun where W of it holds, is run to its end with the
-- postcondition met (`terminates`, by induction on the statement; for a loop it is `LoopRule.turn`). W of an assignment and
-- of an if, and the guard condition of a loop, exclude a zero divisor (`Divisors`). Assumes nothing.
use Prim.Native.Nat.{ℕ, zero, suc}
use Rattle.std.specs.Prelude.{◌≡◌, List, [], ◌∷◌, Bool, cond}
use Rattle.std.proofs.Math.Path.{refl, subst}
use Rattle.std.proofs.Common.{◌∙◌}
use Rattle.std.proofs.Math.Bool.{true, false}
use Rattle.std.proofs.Math.Bool as Bool
use Rattle.std.proofs.Math.Dec.{T}
use Rattle.script.specs.Syntax.{Formula, not, join, Stmt, skip, assign, seq, branch, loop, assert, Tree}
use Rattle.script.specs.declared.Connective.TheVariants.{And, Implies}
use Rattle.script.specs.Meaning.{Arithmetic, State, value, holds, defined, definedᶠ}
use Rattle.script.specs.Run.{set_var, Frame, begin, at, false_assertion, failed, test, first_step, step_of, step, after, start, PassesBounded, TotalCorrectness}
use Rattle.script.specs.Conditions.{subst_formula, divisorsᶠ, guard, decreased, wp, walk, conditions}
use Rattle.script.specs.Promise.{AllValid}
use Rattle.theorems.specs.Scoping.{WellScoped}
use Rattle.theorems.specs.Substitution.{substᶠ}
use Rattle.theorems.specs.Divisors.{expr_worked, formula_worked, guard_worked}
use Rattle.theorems.specs.Truths.{all_left, all_right, both_hold, hold_then}
use Rattle.theorems.specs.Traces.{Trace, stay, go, join_traces, Terminates, no_zero_terminates, good_after, count}
use Rattle.theorems.specs.LoopRule.{above, room_start, turn}

module _ (𝔸 : Arithmetic) where
  -- the run of t, begun at s with k to do after it, comes to k with q met
  abbrev Runs : Stmt → Formula → List Frame → State → Type 0
  Runs t q k s = Terminates 𝔸 k (first_step 𝔸 t k s) s q t

  still : (k : List Frame) (s : State) (q : Formula) (t : Stmt) → T (holds 𝔸 s q) → Terminates 𝔸 k (at k s) s q t
  still k s q t h = record { end = s; meets = h; leads = stay; kept = λ r l j g. refl }

  in_turn : (a b : Stmt) (q : Formula) (k : List Frame) → PassesBounded k → (s : State)
      → Runs a (wp b q) (begin b ∷ k) s → ((s₁ : State) → T (holds 𝔸 s₁ (wp b q)) → Runs b q k s₁)
      → Terminates 𝔸 k (first_step 𝔸 a (begin b ∷ k) s) s q (seq a b)
  unfolding step step_of
  in_turn a b q k fair s one two =
      let next = two one.end one.meets in
      record {
        end = next.end;
        meets = next.meets;
        leads = join_traces 𝔸 one.leads (go fair next.leads);
        kept = λ r l j g. next.kept r l.1 j g ∙ one.kept r l.0 j g;
      }

  -- t is the guard's value
  either : (b : Formula) (x y : Stmt) (q : Formula) (k : List Frame) → PassesBounded k → (s : State) (t : Bool)
      → (T t → Runs x q k s) → (T (Bool.not t) → Runs y q k s)
      → Terminates 𝔸 k (at (begin (cond t x y) ∷ k) s) s q (branch b x y)
  unfolding step step_of
  either b x y q k fair s true one two =
      let r = one tt in
      record { end = r.end; meets = r.meets; leads = go fair r.leads; kept = λ n l j g. r.kept n l.0 j g }
  either b x y q k fair s false one two =
      let r = two tt in
      record { end = r.end; meets = r.meets; leads = go fair r.leads; kept = λ n l j g. r.kept n l.1 j g }

  asserted : (a q : Formula) (k : List Frame) (s : State) → T (holds 𝔸 s q) → (t : Bool) → T t
      → Terminates 𝔸 k (cond t (at k s) (failed false_assertion (assert a))) s q (assert a)
  asserted a q k s h true y = still k s q (assert a) h
  asserted a q k s h false y = absurd y

  terminates : (depth : ℕ) (t : Stmt) (q : Formula) → WellScoped t → AllValid 𝔸 (walk depth t q) → (k : List Frame) → PassesBounded k
      → (s : State) → T (holds 𝔸 s (wp t q)) → Runs t q k s
  unfolding first_step test wp walk holds
  terminates depth skip q tidy all k fair s h = still k s q skip h
  terminates depth (assign v e) q tidy all k fair s h =
      let w = expr_worked 𝔸 s e (subst_formula v e q) h in
      no_zero_terminates 𝔸 (assign v e) (defined 𝔸 s e) w.0
      (record {
        end = set_var s v (value 𝔸 s e);
        meets = subst T (substᶠ 𝔸 s v e q) w.1;
        leads = stay;
        kept = λ r l j g. refl;
      })
  terminates depth (seq a b) q tidy all k fair s h =
      in_turn a b q k fair s
      (terminates depth a (wp b q) tidy.0 (all_right 𝔸 (walk depth b q) (walk depth a (wp b q)) all) (begin b ∷ k) fair s h)
      (λ s₁ h₁. terminates depth b q tidy.1 (all_left 𝔸 (walk depth b q) (walk depth a (wp b q)) all) k fair s₁ h₁)
  terminates depth (branch b x y) q tidy all k fair s h =
      let w = formula_worked 𝔸 s b (join And (join Implies b (wp x q)) (join Implies (not b) (wp y q))) h in
      let hs = both_hold 𝔸 s (join Implies b (wp x q)) (join Implies (not b) (wp y q)) w.1 in
      let left = all_left 𝔸 (walk depth x q) (walk depth y q) all in
      let right = all_right 𝔸 (walk depth x q) (walk depth y q) all in
      no_zero_terminates 𝔸 (branch b x y) (definedᶠ 𝔸 s b) w.0
      (either b x y q k fair s (holds 𝔸 s b)
      (λ t. terminates depth x q tidy.0 left k fair s (hold_then 𝔸 s b (wp x q) hs.0 t))
      (λ t. terminates depth y q tidy.1 right k fair s (hold_then 𝔸 s (not b) (wp y q) hs.1 t)))
  terminates depth (loop m b i v x) q tidy all k fair s h =
      let top = above (value 𝔸 s v) in
      let first = all_left 𝔸 (guard m depth i (divisorsᶠ b)) _ all in
      let rest = all_right 𝔸 (guard m depth i (divisorsᶠ b)) _ all in
      let inside = all_left 𝔸 (walk (suc depth) x (decreased m i v)) _ rest.1.1 in
      let stepped = (all_right 𝔸 (walk (suc depth) x (decreased m i v)) _ rest.1.1).0 in
      turn 𝔸 m b i v x q tidy.0 tidy.1 tidy.2 tidy.3
      (λ s₁ h₁. guard_worked 𝔸 s₁ m depth i b first h₁) rest.0 rest.1.0 stepped
      (λ k₁ fair₁ s₁ h₁. terminates (suc depth) x (decreased m i v) tidy.4 inside k₁ fair₁ s₁ h₁)
      k fair (value 𝔸 s v) top.0 zero s h top.1 (room_start (value 𝔸 s v))
  terminates depth (assert a) q tidy all k fair s h =
      let hs = both_hold 𝔸 s a q h in
      asserted a q k s hs.1 (holds 𝔸 s a) hs.0

  pub sound : (t : Tree) → WellScoped t.body → AllValid 𝔸 (conditions t)
      → (s : State) → T (holds 𝔸 s t.pre) → TotalCorrectness 𝔸 t s
  unfolding conditions step step_of
  sound t tidy all s h =
      record { steps = n.0; end = r.end; ends = n.1; post = r.meets; good = good_after 𝔸 run r.end refl }
    where
      weakest : T (holds 𝔸 s (wp t.body t.post))
      weakest = hold_then 𝔸 s t.pre (wp t.body t.post) ((all_right 𝔸 (walk 0 t.body t.post) _ all).0 s) h

      r : Runs t.body t.post [] s
      r = terminates 0 t.body t.post tidy (all_left 𝔸 (walk 0 t.body t.post) _ all) [] tt s weakest

      run : Trace 𝔸 (start t s) (at [] r.end)
      run = go tt r.leads

      n : (n : ℕ) × (after 𝔸 n (start t s) ≡ at [] r.end)
      n = count 𝔸 run
