-- Scripts that are the same without names have the same runs, where their marks are in scope: from states with the same
-- variables both are, after any number of steps, the same without names (`same_steps`), so one keeps demand 3's promise
-- where the other does (`same_correct`), and their preconditions hold in the same states (`same_pre`).
-- Argument: both runs, seen without names, are the nameless one (`RunSeen.after_seen`). Assumes nothing.
use Rattle.std.specs.Prelude.{ℕ, ◌≡◌, refl, List, [], ◌∷◌, ℤ, pos, T}
use Rattle.std.proofs.Common.{sym, subst, ◌∙◌}
use Rattle.std.proofs.Math.Path.{ap}
use Rattle.script.specs.Syntax.{Formula, Tree}
use Rattle.script.specs.Meaning.{Arithmetic, State, holds}
use Rattle.script.specs.Run.{Frame, begin, again, Config, at, failed, after, start, PassesBounded, Good, TotalCorrectness}
use Rattle.mending.specs.Nameless.{namelessᶠ, namelessˢ, nameless_tree}
use Rattle.mending.specs.InScope.{Inᶠ, ScopedTree}
use Rattle.mending.specs.NamelessRun.{Config₀, at₀, failed₀, state₀, after₀, frames₀, seen}
use Rattle.mending.specs.RunSeen.{holds_seen, after_seen}

-- ---- what is seen of a configuration

bounded_seen : (k : List Frame) → PassesBounded k → PassesBounded (frames₀ k)
bounded_seen [] h = tt
bounded_seen (begin x ∷ k) h = bounded_seen k h
bounded_seen (again m b i v x v₀ n ∷ k) h = (h.0, bounded_seen k h.1)

seen_bounded : (k : List Frame) → PassesBounded (frames₀ k) → PassesBounded k
seen_bounded [] h = tt
seen_bounded (begin x ∷ k) h = seen_bounded k h
seen_bounded (again m b i v x v₀ n ∷ k) h = (h.0, seen_bounded k h.1)

abbrev Good₀ : Config₀ → Type 0
Good₀ (at₀ k vars marks) = PassesBounded k
Good₀ (failed₀ c) = ⊥

good_seen : (c : Config) → Good c → Good₀ (seen c)
good_seen (at k s) h = bounded_seen k h
good_seen (failed c x) h = h

seen_good : (c : Config) → Good₀ (seen c) → Good c
seen_good (at k s) h = seen_bounded k h
seen_good (failed c x) h = h

abbrev vars_of : Config₀ → ℕ → ℤ
vars_of (at₀ k vars marks) = vars
vars_of (failed₀ c) = λ v. pos 0

abbrev Busy : Config₀ → Type 0
Busy (at₀ [] vars marks) = ⊥
Busy (at₀ (f ∷ k) vars marks) = Unit {0}
Busy (failed₀ c) = Unit {0}

-- the run has ended, with these variables
record Ended (c : Config) (vars : ℕ → ℤ) : Type 0 where
  pub end : State
  pub is : c ≡ at [] end
  pub same : end.var ≡ vars

ended : (c : Config) (vars : ℕ → ℤ) (marks : List ℤ) → seen c ≡ at₀ [] vars marks → Ended c vars
ended (at [] s) vars marks e = record { end = s; is = refl; same = ap vars_of e }
ended (at (begin x ∷ k) s) vars marks e = absurd (subst Busy e tt)
ended (at (again m b i v x v₀ n ∷ k) s) vars marks e = absurd (subst Busy e tt)
ended (failed c x) vars marks e = absurd (subst Busy e tt)

-- ---- two scripts

module _ (𝔸 : Arithmetic) (a b : Tree) (in-a : ScopedTree a) (in_b : ScopedTree b) (e : nameless_tree a ≡ nameless_tree b) where
  bodies : namelessˢ [] a.body ≡ namelessˢ [] b.body
  unfolding nameless_tree
  bodies = ap (λ (t : Tree). t.body) e

  -- a formula that stands in no loop
  free : (f g : Formula) → Inᶠ [] f → Inᶠ [] g → namelessᶠ [] f ≡ namelessᶠ [] g → (s s' : State) → s.var ≡ s'.var
      → holds 𝔸 s f ≡ holds 𝔸 s' g
  free f g hf hg same s s' vars =
      holds_seen 𝔸 s [] f hf ∙ (λ i. holds 𝔸 (state₀ (vars i) []) (same i)) ∙ sym (holds_seen 𝔸 s' [] g hg)

  pub same_pre : (s s' : State) → s.var ≡ s'.var → holds 𝔸 s a.pre ≡ holds 𝔸 s' b.pre
  unfolding nameless_tree
  same_pre = free a.pre b.pre in-a.pre in_b.pre (ap (λ (t : Tree). t.pre) e)

  same_post : (s s' : State) → s.var ≡ s'.var → holds 𝔸 s a.post ≡ holds 𝔸 s' b.post
  unfolding nameless_tree
  same_post = free a.post b.post in-a.post in_b.post (ap (λ (t : Tree). t.post) e)

  -- after any number of steps
  pub same_steps : (n : ℕ) (s s' : State) → s.var ≡ s'.var
      → seen (after 𝔸 n (start a s)) ≡ seen (after 𝔸 n (start b s'))
  same_steps n s s' vars =
      (after_seen 𝔸 n (start a s) (in-a.body, tt)).same
      ∙ (λ i. after₀ 𝔸 n (at₀ (begin (bodies i) ∷ []) (vars i) []))
      ∙ sym (after_seen 𝔸 n (start b s') (in_b.body, tt)).same

  pub same_correct : (s s' : State) → s.var ≡ s'.var → TotalCorrectness 𝔸 a s → TotalCorrectness 𝔸 b s'
  same_correct s s' vars C =
      let E =
      ended (after 𝔸 C.steps (start b s')) C.end.var []
      (sym (same_steps C.steps s s' vars) ∙ ap seen C.ends) in
      record {
        steps = C.steps;
        end = E.end;
        ends = E.is;
        post = subst T (same_post C.end E.end (sym E.same)) C.post;
        good = λ n.
            seen_good (after 𝔸 n (start b s'))
            (subst Good₀ (same_steps n s s' vars) (good_seen (after 𝔸 n (start a s)) (C.good n)));
      }
