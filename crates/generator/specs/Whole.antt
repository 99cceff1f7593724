-- The whole of a call: answer, list and scratch are those of `outcome`, and so demand 3 holds of them. Assumes nothing.
use Rattle.std.specs.Prelude.{ℕ, ◌≡◌, refl, List, ℤ, pos, length}
use Rattle.std.proofs.Common.{sym, ap, ◌∙◌}
use Rattle.std.proofs.lemmas.List.{length-replicate}
use Rattle.script.specs.declared.Answer.{Answer}
use Rattle.script.specs.Generated.{zeros, outcome}
use Rattle.script.specs.Promise.{Demand3}
use Rattle.theorems.specs.Demand.{demand_3}
use Rattle.theorems.specs.Outcomes.{outcome_cases}
use Rattle.generator.specs.Outcomes.{Answered}

-- "After every call scratch is all zeros"
scratch_zeros : (t : List ℤ) (list scratch : ℕ) → (outcome t list scratch).scratch ≡ zeros scratch
scratch_zeros t list scratch = outcome_cases (λ o. o.scratch ≡ zeros scratch) t list scratch (λ n r h. refl) (λ ok fits. refl)

pub zeros_of : {l : List ℤ} (n : ℕ) → l ≡ zeros n → l ≡ zeros (length l)
zeros_of n e = e ∙ ap zeros (sym (ap length e ∙ length-replicate n (pos 0)))

module _ (t : List ℤ) (list scratch : ℕ) where
  -- an answer and what is left in both buffers are those of `outcome`
  abbrev pub Left : Answer → List ℤ → List ℤ → Type 0
  Left a l s =
      (a ≡ (outcome t list scratch).answer)
      × ((l ≡ (outcome t list scratch).list)
      × ((s ≡ (outcome t list scratch).scratch)
      × Demand3 t a l))

  left_by : {a : Answer} {l s : List ℤ} → a ≡ (outcome t list scratch).answer → l ≡ (outcome t list scratch).list
      → s ≡ (outcome t list scratch).scratch → Left a l s
  left_by e f g = (e, (f, (g, rw (e, f) (demand_3 t list scratch))))

  -- l₁ is the list once cleared
  pub cleared_answered : {a : Answer} {l l₁ : List ℤ} → l₁ ≡ zeros list → Answered t (length l₁) scratch a l → Answered t list scratch a l
  cleared_answered e w = rw (ap length e ∙ length-replicate list (pos 0)) at w

  -- scratch, as long as at first, was cleared last
  pub cleared_left : {a : Answer} {l s : List ℤ} {n : ℕ} → Answered t list scratch a l → n ≡ scratch → s ≡ zeros n → Left a l s
  cleared_left w e z = left_by w.0 w.1 (z ∙ (ap zeros e ∙ sym (scratch_zeros t list scratch)))

-- tables of one outcome leave the same
pub left_as : (t u : List ℤ) (list scratch : ℕ) {a : Answer} {l s : List ℤ} → outcome t list scratch ≡ outcome u list scratch
    → Left t list scratch a l s → Left u list scratch a l s
left_as t u list scratch o left = left_by u list scratch (rw o at left.0) (rw o at left.1.0) (rw o at left.1.1.0)
