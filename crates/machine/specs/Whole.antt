-- A whole call: 1 to 10 and 51 leave all lent words as they were (`told_refused`, `told_short`); else what is left is what the play leaves
-- that begins with the script's statement (`run_begun`, `told_run`), or with the rows in the stack (`on_begun`, `told_on`).
-- Assumes nothing.
use Rattle.std.specs.Prelude.{ℕ, zero, ◌+◌, ◌-◌, ◌≤◌, ◌<◌, ◌≡◌, refl, Bool, true, false, ◌||◌, List, [], ◌∷◌, ◌++◌, ltb, ℤ, length, set, take, drop, replicate}
use Rattle.std.proofs.Common.{ap, subst, ◌∙◌, append-nil, zero-add, arith as linear, ltb-false, length-set, length-drop, drop_of_length-le, length-take-le, drop_at}
use borrow.Rule.Slice.PartMut.{mid_of, put_mid}
use Rattle.std.proofs.lemmas.List.{length-replicate}
use Rattle.script.specs.Rows.{field_number, row, rows, word, variables}
use Rattle.script.specs.Refusals.{verdict, accepted, refused}
use Rattle.theorems.specs.Accepted.{passed}
use Rattle.theorems.specs.Clearing.{padded_length}
use Rattle.stepping.specs.Values.{mode_64}
use Rattle.stepping.specs.Machine.{mark_values, play, Ran, statement_of, unchanged, shown, too_short, called, machine_run, machine_on}
use Rattle.stepping.specs.Heights.{Roomy, roomy_more, one_roomy, any_roomy}
use Rattle.machine.specs.declared.RunAnswer.{RunAnswer}
use Rattle.stepper.specs.Parts.{script_parts}
use Rattle.stepper.specs.Stack.{held_in, held_length, pushed, zeros_pushed, cleared_held}
use Rattle.machine.specs.Playing.{Told, Begun, answer, played}

-- clause by clause
pub clauses : {m : Ran} {a : RunAnswer} {words : List ℕ} {vars marks : List ℤ} → Told m a words vars marks
    → (a.number ≡ m.number) × ((a.row ≡ m.row) × ((a.steps ≡ m.steps) × ((a.height ≡ m.height)
    × ((words ≡ m.stack) × ((vars ≡ m.vars) × (marks ≡ m.marks))))))
clauses T = (T.number, (T.row, (T.steps, (T.height, (T.words_told, (T.variables_told, T.marks_told))))))

-- as many words as are needed
pub record Long (words need vars marks : ℕ) : Type 0 where
  pub all_words : need ≤ words
  pub all_variables : variables ≤ vars
  pub all_marks : mark_values ≤ marks

pub long : (words need vars marks : ℕ) → false ≡ ltb words need || (ltb vars variables || ltb marks mark_values) → Long words need vars marks
long words need vars marks e = by (ltb words need) (ltb vars variables) (ltb marks mark_values) refl refl refl e
  where
    clash : {X : Type 0} → false ≡ true → X
    clash i = absurd (let z : ◌≡◌ {A = ℕ} 0 1 = cc in omega linear)

    by : (a b c : Bool) → ltb words need ≡ a → ltb vars variables ≡ b → ltb marks mark_values ≡ c → false ≡ a || (b || c) → Long words need vars marks
    by true b c ea eb ec i = clash i
    by false true c ea eb ec i = clash i
    by false false true ea eb ec i = clash i
    by false false false ea eb ec i = record {
      all_words = ltb-false words need ea;
      all_variables = ltb-false vars variables eb;
      all_marks = ltb-false marks mark_values ec;
    }

-- the table was accepted, and it was tested whether the lent words are too few, where the stack has so many rows already
pub record Tested (t : List ℤ) (words : List ℕ) (vars marks : List ℤ) (height : ℕ) (q : Bool) : Type 0 where
  pub checked : verdict t ≡ accepted
  pub tested : q ≡ ltb (length words) (height + rows t) || (ltb (length vars) variables || ltb (length marks) mark_values)

-- ---- ways out

module _ (t : List ℤ) (words : List ℕ) (vars marks : List ℤ) (limit need : ℕ) (rows-begun : List ℕ) where
  abbrev outcome : Ran
  outcome = called mode_64 t words vars marks limit need rows-begun

  untouched : {n r : ℕ} {a : RunAnswer} → outcome ≡ unchanged mode_64 t words vars marks limit n r → a ≡ answer n r 0 0 → Told outcome a words vars marks
  untouched e i = rw (e, i) (record {
    number = refl;
    row = refl;
    steps = refl;
    height = refl;
    words_told = refl;
    variables_told = refl;
    marks_told = refl;
  })

  pub told_refused : {n r : ℕ} {a : RunAnswer} → verdict t ≡ refused n r → a ≡ answer n r 0 0 → Told outcome a words vars marks
  unfolding called
  told_refused v i = untouched (rw (v, called)) i

  pub told_short : {a : RunAnswer} → verdict t ≡ accepted → true ≡ too_short mode_64 t words vars marks limit need → a ≡ answer 51 0 0 0
      → Told outcome a words vars marks
  unfolding called
  told_short v s i = untouched (rw (v, called, ← s)) i

  -- the words with which the play begins are as many, and hold the rows
  module _ (words₁ : List ℕ) (height : ℕ) (l : length words₁ ≡ length words) (e : held_in words₁ height ≡ rows-begun) where
    begun_so : played t words₁ height vars marks limit ≡ shown mode_64 t words vars marks limit (play mode_64 t limit 0 rows-begun vars marks)
    begun_so = rw (e, l)

    pub told_played : {a : RunAnswer} {words' : List ℕ} {vars' marks' : List ℤ} → verdict t ≡ accepted
        → false ≡ too_short mode_64 t words vars marks limit need
        → Told (played t words₁ height vars marks limit) a words' vars' marks' → Told outcome a words' vars' marks'
    unfolding called
    told_played {a} {words'} {vars'} {marks'} v s T =
        rw (v, called, ← s) (subst (λ (m : Ran). Told m a words' vars' marks') begun_so T)

-- ---- the script's statement alone

module _ (t : List ℤ) (words : List ℕ) (vars marks : List ℤ) (limit : ℕ) where
  abbrev run_outcome : Ran
  run_outcome = machine_run mode_64 t words vars marks limit

  run_need : {q : Bool} → Tested t words vars marks 0 q → q ≡ too_short mode_64 t words vars marks limit (rows t)
  run_need T = T.tested ∙ ap (λ (n : ℕ). ltb (length words) n || (ltb (length vars) variables || ltb (length marks) mark_values)) (zero-add (rows t))

  pub run_refused : {n r : ℕ} {a : RunAnswer} → verdict t ≡ refused n r → a ≡ answer n r 0 0 → Told run_outcome a words vars marks
  unfolding machine_run
  run_refused v e = told_refused t words vars marks limit (rows t) (statement_of (row t (rows t - 1)) ∷ []) v e

  pub run_short : {a : RunAnswer} → Tested t words vars marks 0 true → a ≡ answer 51 0 0 0 → Told run_outcome a words vars marks
  unfolding machine_run
  run_short T e = told_short t words vars marks limit (rows t) (statement_of (row t (rows t - 1)) ∷ []) T.checked (run_need T) e

-- all of the words were cleared
module _ {t : List ℤ} {words zeros : List ℕ} {vars marks : List ℤ} (T : Tested t words vars marks 0 false)
    (hz : zeros ≡ replicate (length words) 0) where
  run_long : Long (length words) (rows t) (length vars) (length marks)
  run_long = long (length words) (rows t) (length vars) (length marks) (run_need t words vars marks 0 T)

  zeros_long : length zeros ≡ length words
  zeros_long = ap length hz ∙ length-replicate (length words) zero

  pub run_room : 0 < length zeros
  run_room =
      let f = (passed t T.checked).filled in
      let w = run_long.all_words in
      let z = zeros_long in
      omega linear

  -- and the row of the statement was put into the first
  module _ {r : ℕ} (hr : r ≡ field_number (word t (rows t - 1) 2)) where
    one_held : held_in (set zeros 0 r) 1 ≡ statement_of (row t (rows t - 1)) ∷ []
    one_held = pushed zeros 0 r run_room ∙ rw ((script_parts t T.checked).row_is, ← hr)

    pub run_kept : length (set zeros 0 r) ≡ length words
    run_kept = length-set zeros 0 r ∙ zeros_long

    all : drop 0 zeros ≡ replicate (length zeros - 0) 0
    all = let e : length zeros - 0 ≡ length words = omega (linear, zeros_long) in rw e hz

    one_fits : Roomy t (length words) (statement_of (row t (rows t - 1)) ∷ [])
    one_fits =
        let s = statement_of (row t (rows t - 1)) in
        roomy_more t (s ∷ []) run_long.all_words (one_roomy t (passed t T.checked) s)

    pub run_begun : Begun t (set zeros 0 r) 1 vars marks
    run_begun = record {
      checked = T.checked;
      zeros = zeros_pushed zeros 0 r run_room (record { inside = omega linear; above = all });
      roomy = rw (one_held, run_kept) one_fits;
      all_variables = run_long.all_variables;
      all_marks = run_long.all_marks;
    }

    pub told_run : (limit : ℕ) {a : RunAnswer} {words' : List ℕ} {vars' marks' : List ℤ}
        → Told (played t (set zeros 0 r) 1 vars marks limit) a words' vars' marks'
        → Told (machine_run mode_64 t words vars marks limit) a words' vars' marks'
    unfolding machine_run
    told_run limit P =
        told_played t words vars marks limit (rows t) (statement_of (row t (rows t - 1)) ∷ []) (set zeros 0 r) 1 run_kept one_held
        T.checked (run_need t words vars marks limit T) P

-- ---- the rows in the first words

module _ (t : List ℤ) (words : List ℕ) (vars marks : List ℤ) (limit height : ℕ) where
  abbrev on_outcome : Ran
  on_outcome = machine_on mode_64 t words vars marks limit height

  pub on_refused : {n r : ℕ} {a : RunAnswer} → verdict t ≡ refused n r → a ≡ answer n r 0 0 → Told on_outcome a words vars marks
  unfolding machine_on
  on_refused v e = told_refused t words vars marks limit (height + rows t) (held_in words height) v e

  pub on_short : {a : RunAnswer} → Tested t words vars marks height true → a ≡ answer 51 0 0 0 → Told on_outcome a words vars marks
  unfolding machine_on
  on_short T e = told_short t words vars marks limit (height + rows t) (held_in words height) T.checked T.tested e

module _ {t : List ℤ} {words : List ℕ} {vars marks : List ℤ} {height : ℕ} (T : Tested t words vars marks height false) where
  on_long : Long (length words) (height + rows t) (length vars) (length marks)
  on_long = long (length words) (height + rows t) (length vars) (length marks) T.tested

  pub on_fits : height ≤ length words
  on_fits = let w = on_long.all_words in omega linear

  -- the words above them were lent and cleared
  module _ {above : List ℕ} (ha : above ≡ replicate (length (mid_of height (length words - height) words)) 0) where
    abbrev cleared : List ℕ
    cleared = put_mid height (length words - height) words above

    cleared_is : cleared ≡ take height words ++ replicate (length words - height) 0
    cleared_is =
        let k = length words - height in
        let all : length (drop height words) ≤ k = omega (linear, length-drop height words) in
        let enough : k ≤ length (drop height words) = omega (linear, length-drop height words) in
        ap (λ (l : List ℕ). take height words ++ l)
        (ap (λ (l : List ℕ). above ++ l) (drop_of_length-le (drop height words) all)
        ∙ append-nil above
        ∙ ha
        ∙ ap (λ (n : ℕ). replicate n 0) (length-take-le k (drop height words) enough))

    on_held : held_in cleared height ≡ held_in words height
    on_held = ap (λ (l : List ℕ). held_in l height) cleared_is ∙ cleared_held words height on_fits

    on_kept : length cleared ≡ length words
    on_kept = ap length cleared_is ∙ padded_length 0 (take height words) height (length words) (length-take-le height words on_fits) on_fits

    zeros_above : drop height cleared ≡ replicate (length words - height) 0
    zeros_above =
        ap (drop height) cleared_is
        ∙ drop_at (take height words) (replicate (length words - height) 0) height (length-take-le height words on_fits)

    all_fit : Roomy t (length words) (held_in words height)
    all_fit =
        let w = on_long.all_words in
        roomy_more t (held_in words height) (omega (linear, held_length words height on_fits)) (any_roomy t (passed t T.checked) (held_in words height))

    pub on_begun : Begun t cleared height vars marks
    on_begun = record {
      checked = T.checked;
      zeros = record { inside = rw on_kept on_fits; above = rw on_kept zeros_above };
      roomy = rw (on_held, on_kept) all_fit;
      all_variables = on_long.all_variables;
      all_marks = on_long.all_marks;
    }

    pub told_on : (limit : ℕ) {a : RunAnswer} {words' : List ℕ} {vars' marks' : List ℤ}
        → Told (played t cleared height vars marks limit) a words' vars' marks'
        → Told (machine_on mode_64 t words vars marks limit height) a words' vars' marks'
    unfolding machine_on
    told_on limit P =
        told_played t words vars marks limit (height + rows t) (held_in words height) cleared height on_kept on_held T.checked T.tested P
