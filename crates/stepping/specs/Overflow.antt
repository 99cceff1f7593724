-- 02, P11: "50 when a value leaves 64 bits", exactly. An expression is not worked out because of an overflow exactly where some result
-- that is worked out is outside the range and nothing that is worked out before it, left first, stops (`overflow_iff`); because of a
-- zero divisor exactly where in code one is worked out and nothing before it stops (`by_zero_iff`); and it is worked out exactly
-- where nothing stops, with its value (`got_iff`). The same of formulas. So where every result is in range there is no overflow
-- (`in_range_no_overflow`), a zero divisor that is told is one that the run works out (`by_zero_divides`), and of an annotation none
-- is told (`annotation_total`).
-- Argument: what is given is decided by the first event that stops (`Working`, `FirstFault`). Assumes nothing.
use Rattle.std.specs.Prelude.{ℕ, ◌≡◌, refl, ◌↔◌, ◌≢◌, List, [], ◌∷◌, ◌++◌, Bool, true, false, ℤ}
use Rattle.std.proofs.Common.{sym, ◌∙◌, subst, true≢false, arith as linear}
use Rattle.std.proofs.Math.Logic.Iff
use Rattle.script.specs.Syntax.{Expr, Formula}
use Rattle.script.specs.Meaning.{Arithmetic, State, value, holds}
use Rattle.theorems.specs.ZeroDivisors.{Zero, Zeroᶠ, zero_iff, zero_iffᶠ}
use Rattle.stepping.specs.Values.{Mode, Fault, overflow, by_zero, Worked, got, stop, work, judge}
use Rattle.stepping.specs.Events.{Event, result, divisor, events, eventsᶠ, first_fault, given}
use Rattle.stepping.specs.Working.{worked, judged}
use Rattle.stepping.specs.Told.{Tells, right, divides, unsaid, value_told, truth_told}
use Rattle.stepping.specs.FirstFault.{AllHarmless, StopsAt, out_of_range, First, fault_iff, none_iff, stop_iff, given_got}

-- ---- what stops, and what is given

module _ {A : Type 0} (M : Mode) (code : Bool) (xs : List Event) (a : A) {w : Worked A} (e : w ≡ given (first_fault M code xs) a) where
  stops_by : (f : Fault) → (w ≡ stop f) ↔ First M code xs f
  stops_by f =
      let s = Iff.trans (stop_iff (first_fault M code xs) a f) (fault_iff M code xs f) in
      (λ h. s.0 (sym e ∙ h), λ h. e ∙ s.1 h)

  gives : (z : A) → (w ≡ got z) ↔ (AllHarmless M code xs × (z ≡ a))
  gives z =
      let s = given_got (first_fault M code xs) a z in
      let n = none_iff M code xs in
      (λ h. let p = s.0 (sym e ∙ h) in (n.0 p.0, p.1), λ h. e ∙ s.1 (n.1 h.0, h.1))

module _ (M : Mode) (s : State) (code : Bool) where
  abbrev 𝔸 : Arithmetic
  𝔸 = M.arithmetic

  pub overflow_iff : (e : Expr) → (work M s code e ≡ stop overflow) ↔ First M code (events 𝔸 s e) overflow
  overflow_iff e = stops_by M code (events 𝔸 s e) (value 𝔸 s e) (worked M s code e) overflow

  pub by_zero_iff : (e : Expr) → (work M s code e ≡ stop by_zero) ↔ First M code (events 𝔸 s e) by_zero
  by_zero_iff e = stops_by M code (events 𝔸 s e) (value 𝔸 s e) (worked M s code e) by_zero

  pub got_iff : (e : Expr) (z : ℤ) → (work M s code e ≡ got z) ↔ (AllHarmless M code (events 𝔸 s e) × (z ≡ value 𝔸 s e))
  got_iff e = gives M code (events 𝔸 s e) (value 𝔸 s e) (worked M s code e)

  pub overflow_iffᶠ : (f : Formula) → (judge M s code f ≡ stop overflow) ↔ First M code (eventsᶠ 𝔸 s f) overflow
  overflow_iffᶠ f = stops_by M code (eventsᶠ 𝔸 s f) (holds 𝔸 s f) (judged M s code f) overflow

  pub by_zero_iffᶠ : (f : Formula) → (judge M s code f ≡ stop by_zero) ↔ First M code (eventsᶠ 𝔸 s f) by_zero
  by_zero_iffᶠ f = stops_by M code (eventsᶠ 𝔸 s f) (holds 𝔸 s f) (judged M s code f) by_zero

  pub got_iffᶠ : (f : Formula) (t : Bool) → (judge M s code f ≡ got t) ↔ (AllHarmless M code (eventsᶠ 𝔸 s f) × (t ≡ holds 𝔸 s f))
  got_iffᶠ f = gives M code (eventsᶠ 𝔸 s f) (holds 𝔸 s f) (judged M s code f)

-- ---- where every result is in range

-- each result that is worked out
abbrev pub ResultsHeld : Mode → List Event → Type 0
ResultsHeld M [] = Unit {0}
ResultsHeld M (result z ∷ xs) = (M.holds_value z ≡ true) × ResultsHeld M xs
ResultsHeld M (divisor o y ∷ xs) = ResultsHeld M xs

module _ (M : Mode) (code : Bool) where
  never_outside : (before : List Event) (x : Event) (behind : List Event) → ResultsHeld M (before ++ (x ∷ behind))
      → ¬ StopsAt M code x overflow
  never_outside [] (divisor _ _) behind h s = elim s [ ]
  never_outside [] (result z) behind h (out_of_range e) = true≢false (sym h.0 ∙ e)
  never_outside (result z ∷ xs) x behind h s = never_outside xs x behind h.1 s
  never_outside (divisor o y ∷ xs) x behind h s = never_outside xs x behind h s

  no_first_overflow : (xs : List Event) → ResultsHeld M xs → ¬ First M code xs overflow
  no_first_overflow xs h f = never_outside f.before f.event f.behind (subst (ResultsHeld M) f.split h) f.stops

  module _ (s : State) where
    pub in_range_no_overflow : (e : Expr) → ResultsHeld M (events M.arithmetic s e) → work M s code e ≢ stop overflow
    in_range_no_overflow e h z = no_first_overflow (events M.arithmetic s e) h ((overflow_iff M s code e).0 z)

    pub in_range_no_overflowᶠ : (f : Formula) → ResultsHeld M (eventsᶠ M.arithmetic s f) → judge M s code f ≢ stop overflow
    in_range_no_overflowᶠ f h z = no_first_overflow (eventsᶠ M.arithmetic s f) h ((overflow_iffᶠ M s code f).0 z)

-- ---- zero divisors

told_zero : {A : Type 0} {w : Worked A} {a : A} {no_zero : Bool} → Tells w a no_zero → w ≡ stop by_zero → no_zero ≡ false
told_zero right e = absurd (let z : ◌≡◌ {A = ℕ} 0 1 = cc in omega linear)
told_zero divides e = refl
told_zero unsaid e = absurd (let z : ◌≡◌ {A = ℕ} 0 1 = cc in omega linear)

module _ (M : Mode) (s : State) where
  pub by_zero_divides : (e : Expr) → work M s true e ≡ stop by_zero → Zero M.arithmetic s e
  by_zero_divides e h = (zero_iff M.arithmetic s e).0 (told_zero (value_told M true s e) h)

  pub by_zero_dividesᶠ : (f : Formula) → judge M s true f ≡ stop by_zero → Zeroᶠ M.arithmetic s f
  by_zero_dividesᶠ f h = (zero_iffᶠ M.arithmetic s f).0 (told_zero (truth_told M true s f) h)

  -- "in annotations 01's totals stay"
  pub annotation_total : (e : Expr) → work M s false e ≢ stop by_zero
  annotation_total e h = true≢false (told_zero (value_told M false s e) h)

  pub annotation_totalᶠ : (f : Formula) → judge M s false f ≢ stop by_zero
  annotation_totalᶠ f h = true≢false (told_zero (truth_told M false s f) h)
