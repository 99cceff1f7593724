-- The next row is taken from the stack, and what is to do after its statement due is put there (`Taken`), a sequence at a time
-- (`Taking`). Assumes nothing.
use Rattle.std.specs.Prelude.{ℕ, ◌+◌, ◌*◌, ◌-◌, ◌≤◌, ◌<◌, ◌≡◌, refl, true, false, List, [], ◌∷◌, ℤ, length, set}
use Rattle.std.proofs.Common.{sym, ap, subst, ◌∙◌, arith as linear, length-set}
use Rattle.script.specs.Rows.{field_number, row, rows, word}
use Rattle.script.specs.Refusals.{verdict, accepted}
use Rattle.theorems.specs.Accepted.{Accepted, passed}
use Rattle.stepping.specs.Machine.{Due, next}
use Rattle.stepping.specs.Places.{past, statement_inside}
use Rattle.stepping.specs.Heights.{Roomy, roomy_length, split_roomy}
use Rattle.stepper.specs.Kinds.{splits, sequence_at}
use Rattle.stepper.specs.DueRows.{due_row, next_row, split_next, unsplit_next, parts_below}
use Rattle.stepper.specs.Stack.{held_in, top, Zeros, held_length, pushed, zeros_pushed, top_first, popped, zeros_popped}

-- a stack that is not empty and never gets too high
pub record Ready (t : List ℤ) (words : List ℕ) (height : ℕ) : Type 0 where
  pub checked : verdict t ≡ accepted
  pub high : 0 < height
  pub zeros : Zeros words height
  pub roomy : Roomy t (length words) (held_in words height)

-- what is to do after the statement due lies in the words
pub record Taken (t : List ℤ) (words : List ℕ) (height : ℕ) (words' : List ℕ) (left : ℕ) : Type 0 where
  pub long : length words' ≡ length words
  pub zeros : Zeros words' left
  pub rest : held_in words' left ≡ (next t (top words height) (held_in words (height - 1))).rest

-- of the row `first` on top of the first words, so much was put there; the row r is still to be looked at
pub record Taking (t : List ℤ) (words : List ℕ) (below first : ℕ) (words' : List ℕ) (left r : ℕ) : Type 0 where
  pub long : length words' ≡ length words
  pub zeros : Zeros words' left
  pub roomy : Roomy t (length words) (r ∷ held_in words' left)
  pub same : next t r (held_in words' left) ≡ next t first (held_in words below)

-- the parts of a sequence are read where they are looked for, and lower
pub record Split (t : List ℤ) (r : ℕ) : Type 0 where
  pub inside : 4 * r + 3 < length t
  pub first : field_number (word t r 1) < r
  pub second : field_number (word t r 2) < r
  pub low : r < 2048

module _ (t : List ℤ) (v : verdict t ≡ accepted) where
  ok : Accepted t
  ok = passed t v

  pub split : (r : ℕ) → true ≡ splits (row t r) → Split t r
  split r s =
      let e = sequence_at t r s in
      let i = statement_inside t ok r e in
      let p = parts_below t ok r e in
      let f = ok.fours in
      let k = ok.short in
      record { inside = omega linear; first = p.0; second = p.1; low = omega linear }

  -- past the table there is nothing to split
  pub past_unsplit : (r : ℕ) → rows t ≤ r → false ≡ splits (row t r)
  past_unsplit r h = let f = ok.fours in rw (past t r (omega linear))

  -- down the first parts
  pub due_split : (r : ℕ) → true ≡ splits (row t r) → due_row t (field_number (word t r 1)) ≡ due_row t r
  due_split r s = let e = sequence_at t r s in sym (ap (λ (d : Due). d.at) (split_next t ok r [] e) ∙ next_row t _ _)

  pub due_unsplit : (r : ℕ) → false ≡ splits (row t r) → r ≡ due_row t r
  due_unsplit r s = sym (ap (λ (d : Due). d.at) (unsplit_next t r [] s))

module _ (t : List ℤ) (words : List ℕ) (height : ℕ) (R : Ready t words height) where
  abbrev less : List ℕ
  less = set words (height - 1) 0

  less_held : held_in less (height - 1) ≡ held_in words (height - 1)
  less_held = popped words height R.zeros.inside R.high

  -- the next row is taken away
  pub taking_begun : Taking t less (height - 1) (top words height) less (height - 1) (top words height)
  taking_begun =
      let i = R.zeros.inside in
      record {
        long = refl;
        zeros = zeros_popped words height i R.high R.zeros;
        roomy =
            subst (λ (n : ℕ). Roomy t n (top words height ∷ held_in less (height - 1))) (sym (length-set words (height - 1) 0))
            (subst (λ (rs : List ℕ). Roomy t (length words) (top words height ∷ rs)) (sym less_held)
            (subst (Roomy t (length words)) (top_first words height i R.high) R.roomy));
        same = refl;
      }

  pub taken : {words' : List ℕ} {left r : ℕ} → Taking t less (height - 1) (top words height) words' left r → false ≡ splits (row t r)
      → Taken t words height words' left
  taken {words'} {left} {r} T s = record {
    long = T.long ∙ length-set words (height - 1) 0;
    zeros = T.zeros;
    rest = ap (λ (d : Due). d.rest) (sym (unsplit_next t r (held_in words' left) s) ∙ T.same ∙ ap (next t (top words height)) less_held);
  }

module _ (t : List ℤ) (words : List ℕ) (below first : ℕ) {words' : List ℕ} {left r : ℕ} (T : Taking t words below first words' left r)
    (v : verdict t ≡ accepted) (s : true ≡ splits (row t r)) where
  after : Roomy t (length words) (field_number (word t r 1) ∷ field_number (word t r 2) ∷ held_in words' left)
  after = split_roomy t (ok t v) (length words) r (held_in words' left) (sequence_at t r s) T.roomy

  -- there is room for the second part
  pub room : left < length words'
  room =
      let l = roomy_length t (length words) (field_number (word t r 1) ∷ field_number (word t r 2) ∷ held_in words' left) after in
      let k = held_length words' left T.zeros.inside in
      let e = T.long in
      omega linear

  pub taking_more : {a b : ℕ} → a ≡ field_number (word t r 1) → b ≡ field_number (word t r 2)
      → Taking t words below first (set words' left b) (left + 1) a
  taking_more {a} {b} ea eb =
      let p = pushed words' left b room in
      let e = sequence_at t r s in
      record {
        long = length-set words' left b ∙ T.long;
        zeros = zeros_pushed words' left b room T.zeros;
        roomy = rw (p, ea, eb) after;
        same = rw (p, ea, eb) (sym (split_next t (ok t v) r (held_in words' left) e) ∙ T.same);
      }
