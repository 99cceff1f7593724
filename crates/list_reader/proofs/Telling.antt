-- The line that the trailer before a place tells is the line found there, where its formula starts within the words.
-- Assumes nothing.
use Prim.Native.Nat.{ℕ, ◌-◌, ◌≤◌, ◌<◌}
use native.Mathlib.Omega.{arith as linear}
use mathlib.Core.Path.{◌≡◌, refl, sym, ap, ◌∙◌, subst}
use mathlib.Core.Logic.{◌⊎◌, inl, inr}
use mathlib.Core.Option.{Option, none, some}
use mathlib.Core.List.{List}
use mathlib.Core.Bool.{Bool, true, false, cond}
use lib.IntN.{ℤ}
use lib.Dec.{eqb, ltb}
use lib.ListN.{length}
use borrow.Author.Tests.{le-leb, lt-leb, ltb-true, ltb-false, eq-eqb, ne_eqb}
use Rattle.std.specs.Prelude.{Some, None, Result}
use Rattle.script.specs.declared.Line.{Line}
use Rattle.script.specs.Listing.{Found, line, no_line, step_back}
use Rattle.list_reader.specs.declared.lines.Trailer.{Trailer}
use Rattle.list_reader.specs.declared.lines.Missing.{Missing}
use Rattle.list_reader.specs.Lines.{line_ending, Tail, trailer_at, is_line, answer, start_found, trailer_line, line_told, Told}
use Rattle.list_reader.proofs.Forms.{tail_of}
use Rattle.list_reader.proofs.Trailers.{told, found_answer}
use Rattle.list_reader.proofs.Stepping.{and_false, line_inside, line_short, line_long, step_answer}
use Rattle.list_reader.proofs.Walking.{walk, step}

told_line : (e : ℕ) (t : Trailer) (b : Bool) → (told e t b).number ≡ 0 → told e t b ≡ trailer_line e t
told_line e t true z = refl
told_line e t false z = absurd (omega linear)

module _ (ws : List ℤ) {n : ℕ} (tail : Tail ws n) (e : ℕ) where
  pub told_inside : {t : Trailer} → n ≤ e → e ≤ length ws → t ≡ trailer_at ws (e - n) → trailer_line (e - n) t ≡ line_told ws e
  unfolding line_told
  told_inside h l p = rw (← tail.is, le-leb n e h, le-leb e (length ws) l, p)

  pub told_short : e < n → no_line 21 ≡ line_told ws e
  unfolding line_told
  told_short h = rw (← tail.is, lt-leb n e h)

  told_found : (answer (line_ending ws e)).number ≡ 0 → answer (line_ending ws e) ≡ line_told ws e
  told_found z = go (ltb e n) refl (ltb (length ws) e) refl
    where
      go : (b : Bool) → ltb e n ≡ b → (t : Bool) → ltb (length ws) e ≡ t → answer (line_ending ws e) ≡ line_told ws e
      go true h t q = absurd (omega (linear, rw (line_short ws tail e (ltb-true e n h)) at z))
      go false h true q = absurd (omega (linear, rw (line_long ws e (ltb-true (length ws) e q)) at z))
      go false h false q =
          let s : n ≤ e = ltb-false e n h in
          let l : e ≤ length ws = ltb-false (length ws) e q in
          let t = trailer_at ws (e - n) in
          let a : answer (line_ending ws e) ≡ told (e - n) t (is_line ws (e - n) t)
          = ap answer (line_inside ws tail e s l) ∙ found_answer ws (e - n) t in
          a ∙ told_line (e - n) t (is_line ws (e - n) t) (ap (λ (x : Line). x.number) (sym a) ∙ z) ∙ told_inside s l refl

module _ (ws : List ℤ) (e : ℕ) where
  pub told_long : length ws < e → no_line 21 ≡ line_told ws e
  unfolding line_told
  told_long h = rw (lt-leb e (length ws) h, and_false)

  pub told_outside : {n : ℕ} → Tail ws n → (e < n) ⊎ ((n ≤ e) × (length ws < e)) → no_line 21 ≡ line_told ws e
  told_outside t (inl h) = told_short ws t e h
  told_outside t (inr h) = told_long h.1

  -- ---- the line found

  pub no_start : None ≡ start_found (line_ending ws e) → line_ending ws e ≡ none
  no_start q = go (line_ending ws e) refl q
    where
      go : (o : Option Found) → line_ending ws e ≡ o → None ≡ start_found o → line_ending ws e ≡ none
      go none i h = i
      go (some f) i h = cc

  -- the line that is found, with the line that its trailer tells
  found_told : {s : ℕ} → Some s ≡ start_found (line_ending ws e)
      → (f : Found) × (line_ending ws e ≡ some f) × (line f ≡ line_told ws e) × (s ≡ f.start)
  found_told {s} q = go (line_ending ws e) refl q (told_found ws (tail_of ws) e)
    where
      go : (o : Option Found) → line_ending ws e ≡ o → Some s ≡ start_found o → ((answer o).number ≡ 0 → answer o ≡ line_told ws e)
          → (f : Found) × (line_ending ws e ≡ some f) × (line f ≡ line_told ws e) × (s ≡ f.start)
      go none i h t = cc
      go (some f) i h t = (f, i, t refl, cc)

  pub step_told : {s : ℕ} → (e ≡ 0 → ⊥) → Some s ≡ start_found (line_ending ws e) → line_told ws e ≡ step_back ws e
  step_told z q =
      let t = found_told q in
      sym (step_answer ws e z ∙ ap answer t.1 ∙ t.2)

  -- whose number is 0
  pub step_number : {s : ℕ} → Some s ≡ start_found (line_ending ws e) → (line_told ws e).number ≡ 0
  step_number q = ap (λ (l : Line). l.number) (sym (found_told q).2)

  -- ---- a step of the walk

  chosen_told : (b : Bool) (p : ℕ) → cond b (line_told ws e) (line_told ws p) ≡ line_told ws (cond b e p)
  chosen_told true p = refl
  chosen_told false p = refl

  pub walk_told : (i n p : ℕ) {s m : ℕ} → 0 < n → Some s ≡ start_found (line_ending ws e) → m ≡ cond (eqb (n - 1) i) e p
      → walk ws i (line_told ws p) n e ≡ walk ws i (line_told ws m) (n - 1) s
  walk_told i n p {s} {m} h q v = let t = found_told q in go t.0 t.1 t.2 t.3
    where
      go : (f : Found) → line_ending ws e ≡ some f → line f ≡ line_told ws e → s ≡ f.start
          → walk ws i (line_told ws p) n e ≡ walk ws i (line_told ws m) (n - 1) s
      go f j t x = step ws i (line_told ws p) e n f h j ∙ rw (t, chosen_told, ← v, x)

  -- with the place kept, or the one before
  pub walk_kept : (i n p : ℕ) {s : ℕ} → 0 < n → Some s ≡ start_found (line_ending ws e) → n - 1 ≡ i
      → walk ws i (line_told ws p) n e ≡ walk ws i (line_told ws e) (n - 1) s
  walk_kept i n p h q x = walk_told i n p h q (sym (ap (λ b. cond b e p) (eq-eqb (n - 1) i x)))

  pub walk_passed : (i n p : ℕ) {s : ℕ} → 0 < n → Some s ≡ start_found (line_ending ws e) → (n - 1 ≡ i → ⊥)
      → walk ws i (line_told ws p) n e ≡ walk ws i (line_told ws p) (n - 1) s
  walk_passed i n p h q x = walk_told i n p h q (sym (ap (λ b. cond b e p) (ne_eqb (n - 1) i x)))

-- ---- an answer told of what is the line

pub told_as : (r : Result Line Missing) {k l : Line} → k ≡ l → Told r k → Told r l
told_as r e t = subst (λ (x : Line). Told r x) e t
