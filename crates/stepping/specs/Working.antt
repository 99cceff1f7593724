-- What the machine works out (`worked`, `judged`): the value, or the truth, in the machine's arithmetic, where none of the things
-- that are worked out stops it, and else the first that does.
-- Argument: by induction on the expression; events one after another stop where the first of them does. Assumes nothing.
use Rattle.std.specs.Prelude.{◌≡◌, refl, List, [], ◌∷◌, ◌++◌, Bool, true, false, cond, ◌&&◌, ℤ}
use Rattle.std.proofs.Common.{sym, ap, ◌∙◌}
use Rattle.std.proofs.Math.Option.{Option, none, some}
use Rattle.std.proofs.Math.Bool as Bool
use Rattle.script.specs.declared.Operator.{Operator}
use Rattle.script.specs.Syntax.{Expr, const, var, mark, arith, neg, choose, Formula, truth, cmp, not, join}
use Rattle.script.specs.Meaning.{Arithmetic, State, value, holds, takes, relate, connect}
use Rattle.stepping.specs.Values.{Mode, Fault, overflow, by_zero, Worked, got, stop, ◌then◌, tested, operated, work, judge}
use Rattle.stepping.specs.Events.{Event, result, divisor, events, eventsᶠ, fault_of, or_later, first_fault, given}

-- ---- events one after another

module _ (M : Mode) (code : Bool) where
  abbrev F : List Event → Option Fault
  F = first_fault M code

  pub first_of_both : (xs ys : List Event) → F (xs ++ ys) ≡ or_later M code (F xs) (F ys)
  first_of_both [] ys = refl
  first_of_both (x ∷ xs) ys = nested (fault_of M code x) (F xs) (F ys) (F (xs ++ ys)) (first_of_both xs ys)
    where
      nested : (o p q r : Option Fault) → r ≡ or_later M code p q → or_later M code o r ≡ or_later M code (or_later M code o p) q
      nested none p q r e = e
      nested (some x) p q r e = refl

  -- something is worked out, and something more after it
  in_turn : {A B : Type 0} (xs ys : List Event) (a : A) (b : B) {w : Worked A} (f : A → Worked B) → w ≡ given (F xs) a
      → f a ≡ given (F ys) b → (w then f) ≡ given (F (xs ++ ys)) b
  in_turn xs ys a b f h k =
      ap (λ w. w then f) h ∙ by (F xs) ∙ ap (λ o. given o b) (sym (first_of_both xs ys))
    where
      by : (o : Option Fault) → (given o a then f) ≡ given (or_later M code o (F ys)) b
      by none = k
      by (some x) = refl

  -- what is worked out last of all is put together
  then_got : {A B : Type 0} (o : Option Fault) (a : A) (f : A → B) → (given o a then λ x. got (f x)) ≡ given o (f a)
  then_got none a f = refl
  then_got (some x) a f = refl

module _ (M : Mode) (s : State) (code : Bool) where
  abbrev 𝔸 : Arithmetic
  𝔸 = M.arithmetic

  result_given : (z : ℤ) → tested M s code z ≡ given (first_fault M code (result z ∷ [])) z
  result_given z = by (M.holds_value z)
    where
      by : (b : Bool) → cond b (got z) (stop overflow) ≡ given (or_later M code (cond b none (some overflow)) none) z
      by true = refl
      by false = refl

  operator_given : (o : Operator) (x y : ℤ)
      → operated M s code o x y ≡ given (first_fault M code (divisor o y ∷ result (𝔸.op o x y) ∷ [])) (𝔸.op o x y)
  operator_given o x y = by (code && Bool.not (takes o y))
    where
      z : ℤ
      z = 𝔸.op o x y

      by : (b : Bool)
          → cond b (stop by_zero) (tested M s code z)
          ≡ given (or_later M code (cond b (some by_zero) none) (first_fault M code (result z ∷ []))) z
      by true = refl
      by false = result_given z

  taken : (b : Bool) {v w : Worked ℤ} (xs ys : List Event) (x y : ℤ) → v ≡ given (first_fault M code xs) x → w ≡ given (first_fault M code ys) y
      → cond b v w ≡ given (first_fault M code (cond b xs ys)) (cond b x y)
  taken true xs ys x y h k = h
  taken false xs ys x y h k = k

  mutual
    unfolding work value events

    pub worked : (e : Expr) → work M s code e ≡ given (first_fault M code (events 𝔸 s e)) (value 𝔸 s e)
    worked (const z) = refl
    worked (var v) = refl
    worked (mark m) = refl
    worked (arith o a b) =
        let x = value 𝔸 s a in
        let y = value 𝔸 s b in
        in_turn M code (events 𝔸 s a) _ x (𝔸.op o x y) (λ x. work M s code b then λ y. operated M s code o x y) (worked a)
        (in_turn M code (events 𝔸 s b) _ y (𝔸.op o x y) (λ y. operated M s code o x y) (worked b) (operator_given o x y))
    worked (neg a) =
        let x = value 𝔸 s a in
        in_turn M code (events 𝔸 s a) _ x (𝔸.neg x) (λ x. tested M s code (𝔸.neg x)) (worked a) (result_given (𝔸.neg x))
    worked (choose f a b) =
        in_turn M code (eventsᶠ 𝔸 s f) _ (holds 𝔸 s f) (cond (holds 𝔸 s f) (value 𝔸 s a) (value 𝔸 s b))
        (λ t. cond t (work M s code a) (work M s code b)) (judged f)
        (taken (holds 𝔸 s f) (events 𝔸 s a) (events 𝔸 s b) (value 𝔸 s a) (value 𝔸 s b) (worked a) (worked b))

    pub judged : (f : Formula) → judge M s code f ≡ given (first_fault M code (eventsᶠ 𝔸 s f)) (holds 𝔸 s f)
    judged (truth b) = refl
    judged (cmp r a b) =
        let x = value 𝔸 s a in
        let y = value 𝔸 s b in
        in_turn M code (events 𝔸 s a) (events 𝔸 s b) x (relate r x y) (λ x. work M s code b then λ y. got (relate r x y)) (worked a)
        (ap (λ w. w then λ y. got (relate r x y)) (worked b) ∙ then_got M code (first_fault M code (events 𝔸 s b)) y (relate r x))
    judged (not f) =
        ap (λ w. w then λ t. got (Bool.not t)) (judged f)
        ∙ then_got M code (first_fault M code (eventsᶠ 𝔸 s f)) (holds 𝔸 s f) Bool.not
    judged (join c f g) =
        let t = holds 𝔸 s f in
        let u = holds 𝔸 s g in
        in_turn M code (eventsᶠ 𝔸 s f) (eventsᶠ 𝔸 s g) t (connect c t u) (λ t. judge M s code g then λ u. got (connect c t u)) (judged f)
        (ap (λ w. w then λ u. got (connect c t u)) (judged g) ∙ then_got M code (first_fault M code (eventsᶠ 𝔸 s g)) u (connect c t))
