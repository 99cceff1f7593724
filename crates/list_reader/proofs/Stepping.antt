-- The line before a place, by where the place is. Assumes nothing.
use Prim.Native.Nat.{ℕ, zero, suc, ◌-◌, ◌≤◌, ◌<◌}
use mathlib.Core.Path.{◌≡◌, refl, sym, ap, ◌∙◌}
use mathlib.Core.Logic.{◌⊎◌, inl, inr}
use mathlib.Core.Option.{none}
use mathlib.Core.List.{List}
use mathlib.Core.Bool.{Bool, true, false, ◌&&◌}
use lib.IntN.{ℤ}
use lib.ListN.{length}
use borrow.Author.Tests.{le-leb, lt-leb}
use Rattle.std.specs.Prelude as P
use Rattle.script.specs.Listing.{line_before_within, step_back, step_back_within, no_line}
use Rattle.list_reader.specs.declared.lines.Trailer.{Trailer}
use Rattle.list_reader.specs.Lines.{line_ending, Tail, trailer_at, found_by, answer, start_found}

pub step_answer : (ws : List ℤ) (e : ℕ) → (e ≡ 0 → ⊥) → step_back ws e ≡ answer (line_ending ws e)
unfolding step_back_within
step_answer ws zero h = absurd (h refl)
step_answer ws (suc e) h = refl

pub and_false : (b : Bool) → b && false ≡ false
and_false true = refl
and_false false = refl

module _ (ws : List ℤ) {n : ℕ} (tail : Tail ws n) (e : ℕ) where
  pub line_inside : n ≤ e → e ≤ length ws → line_ending ws e ≡ found_by ws (e - n) (trailer_at ws (e - n))
  unfolding line_before_within
  line_inside h l = rw (← tail.is, le-leb n e h, le-leb e (length ws) l)

  pub line_short : e < n → line_ending ws e ≡ none
  unfolding line_before_within
  line_short h = rw (← tail.is, lt-leb n e h)

  pub start_read : {t : Trailer} {s : P.Option ℕ} → n ≤ e → e ≤ length ws → t ≡ trailer_at ws (e - n)
      → s ≡ start_found (found_by ws (e - n) t) → s ≡ start_found (line_ending ws e)
  start_read h l p w = rw (w, p, ← line_inside h l)

module _ (ws : List ℤ) (e : ℕ) where
  pub line_long : length ws < e → line_ending ws e ≡ none
  unfolding line_before_within
  line_long h = rw (lt-leb e (length ws) h, and_false)

  pub step_front : e ≡ 0 → no_line 21 ≡ step_back ws e
  unfolding step_back_within
  step_front h = rw h

  pub step_none : (e ≡ 0 → ⊥) → line_ending ws e ≡ none → no_line 20 ≡ step_back ws e
  step_none h q = sym (step_answer ws e h ∙ ap answer q)

  pub start_none : line_ending ws e ≡ none → P.None ≡ start_found (line_ending ws e)
  start_none q = rw q

pub line_outside : (ws : List ℤ) {n : ℕ} → Tail ws n → (e : ℕ) → (e < n) ⊎ ((n ≤ e) × (length ws < e)) → line_ending ws e ≡ none
line_outside ws t e (inl h) = line_short ws t e h
line_outside ws t e (inr h) = line_long ws e h.1
