-- The first event that stops (`First`), said of the list and not computed: the events before it are harmless, and it stops
-- (`fault_iff`); nothing stops exactly where every event is harmless (`none_iff`). And what is then given (`stop_iff`, `given_got`).
-- Argument: by induction on the list. Assumes nothing.
use Rattle.std.specs.Prelude.{◌≡◌, refl, ◌↔◌, List, [], ◌∷◌, ◌++◌, Bool, true, false, cond, ◌&&◌, ℤ}
use Rattle.std.proofs.Common.{sym, ap, ◌∙◌, subst}
use Rattle.std.proofs.Math.Option.{Option, none, some}
use Rattle.std.proofs.Math.Bool as Bool
use Rattle.script.specs.declared.Operator.{Operator}
use Rattle.script.specs.Meaning.{takes}
use Rattle.theorems.specs.Options.{none_is_not, some_inj}
use Rattle.stepping.specs.Values.{Mode, Fault, overflow, by_zero, Worked, got, stop}
use Rattle.stepping.specs.Events.{Event, result, divisor, fault_of, or_later, first_fault, given}

module _ (M : Mode) (code : Bool) where
  -- an event at which nothing stops
  abbrev pub Harmless : Event → Type 0
  Harmless (result z) = M.holds_value z ≡ true
  Harmless (divisor o y) = (code && Bool.not (takes o y)) ≡ false

  abbrev pub AllHarmless : List Event → Type 0
  AllHarmless [] = Unit {0}
  AllHarmless (x ∷ xs) = Harmless x × AllHarmless xs

  -- an event at which something stops
  pub data StopsAt : Event → Fault → Type 0 where
    out_of_range : {z : ℤ} → M.holds_value z ≡ false → StopsAt (result z) overflow
    divides_zero : {o : Operator} {y : ℤ} → (code && Bool.not (takes o y)) ≡ true → StopsAt (divisor o y) by_zero

  -- the first event that stops, and for what
  pub record First (xs : List Event) (f : Fault) : Type 0 where
    pub before : List Event
    pub event : Event
    pub behind : List Event
    pub split : xs ≡ before ++ (event ∷ behind)
    pub quiet : AllHarmless before
    pub stops : StopsAt event f

  -- ---- lists of events

  -- what an event does
  data Does (x : Event) : Option Fault → Type 0 where
    passes : Harmless x → Does x none
    faults : {f : Fault} → StopsAt x f → Does x (some f)

  does : (x : Event) → Does x (fault_of M code x)
  does (result z) = by (M.holds_value z) refl
    where
      by : (b : Bool) → M.holds_value z ≡ b → Does (result z) (cond b none (some overflow))
      by true e = passes e
      by false e = faults (out_of_range e)
  does (divisor o y) = by (code && Bool.not (takes o y)) refl
    where
      by : (b : Bool) → (code && Bool.not (takes o y)) ≡ b → Does (divisor o y) (cond b (some by_zero) none)
      by true e = faults (divides_zero e)
      by false e = passes e

  harmless_none : (x : Event) → Harmless x → fault_of M code x ≡ none
  harmless_none (result z) h = ap (λ b. cond b none (some overflow)) h
  harmless_none (divisor o y) h = ap (λ b. cond b (some by_zero) none) h

  stops_some : {x : Event} {f : Fault} → StopsAt x f → fault_of M code x ≡ some f
  stops_some (out_of_range h) = ap (λ b. cond b none (some overflow)) h
  stops_some (divides_zero h) = ap (λ b. cond b (some by_zero) none) h

  -- what a list of events does
  pub data Runs (xs : List Event) : Option Fault → Type 0 where
    through : AllHarmless xs → Runs xs none
    until : {f : Fault} → First xs f → Runs xs (some f)

  pub runs : (xs : List Event) → Runs xs (first_fault M code xs)
  runs [] = through tt
  runs (x ∷ xs) = by (does x) (runs xs)
    where
      by : {o p : Option Fault} → Does x o → Runs xs p → Runs (x ∷ xs) (or_later M code o p)
      by (faults s) r = until (record { before = []; event = x; behind = xs; split = refl; quiet = tt; stops = s })
      by (passes h) (through q) = through (h, q)
      by (passes h) (until s) =
          until (record {
            before = x ∷ s.before;
            event = s.event;
            behind = s.behind;
            split = ap (λ ys. x ∷ ys) s.split;
            quiet = (h, s.quiet);
            stops = s.stops;
          })

  quiet_none : (xs : List Event) → AllHarmless xs → first_fault M code xs ≡ none
  quiet_none [] h = refl
  quiet_none (x ∷ xs) h = ap (λ o. or_later M code o (first_fault M code xs)) (harmless_none x h.0) ∙ quiet_none xs h.1

  first_some : (xs : List Event) {y : Event} (zs : List Event) {f : Fault} → AllHarmless xs → StopsAt y f
      → first_fault M code (xs ++ (y ∷ zs)) ≡ some f
  first_some [] {y} zs h s = ap (λ o. or_later M code o (first_fault M code zs)) (stops_some s)
  first_some (x ∷ xs) {y} zs h s =
      ap (λ o. or_later M code o (first_fault M code (xs ++ (y ∷ zs)))) (harmless_none x h.0) ∙ first_some xs zs h.1 s

  pub fault_iff : (xs : List Event) (f : Fault) → (first_fault M code xs ≡ some f) ↔ First xs f
  fault_iff xs f = (λ e. out (runs xs) e, λ s. ap (first_fault M code) s.split ∙ first_some s.before s.behind s.quiet s.stops)
    where
      out : {o : Option Fault} → Runs xs o → o ≡ some f → First xs f
      out (through q) e = none_is_not e
      out (until s) e = subst (First xs) (some_inj e) s

  pub none_iff : (xs : List Event) → (first_fault M code xs ≡ none) ↔ AllHarmless xs
  none_iff xs = (λ e. out (runs xs) e, quiet_none xs)
    where
      out : {o : Option Fault} → Runs xs o → o ≡ none → AllHarmless xs
      out (through q) e = q
      out (until s) e = none_is_not (sym e)

-- ---- what is given

module _ {A : Type 0} where
  abbrev fault_in : Worked A → Option Fault
  fault_in (got a) = none
  fault_in (stop x) = some x

  fault_given : (o : Option Fault) (a : A) → fault_in (given o a) ≡ o
  fault_given none a = refl
  fault_given (some x) a = refl

  -- what stops is the fault, and else a is given
  pub stop_iff : (o : Option Fault) (a : A) (f : Fault) → (given o a ≡ stop f) ↔ (o ≡ some f)
  stop_iff o a f = (λ e. sym (fault_given o a) ∙ ap fault_in e, λ e. ap (λ p. given p a) e)

  pub given_got : (o : Option Fault) (a z : A) → (given o a ≡ got z) ↔ ((o ≡ none) × (z ≡ a))
  given_got o a z = (λ e. (sym (fault_given o a) ∙ ap fault_in e, of o e), λ p. ap (λ q. given q a) p.0 ∙ ap got (sym p.1))
    where
      of : (p : Option Fault) → given p a ≡ got z → z ≡ a
      of none e = cc
      of (some x) e = none_is_not (sym (ap fault_in e))
