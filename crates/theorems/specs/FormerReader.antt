-- 02, P9: "an old reader gives 20 to a new list". The list reader as it was before P9 is stated again (`former_lines` and what it is made
-- of; the depth that a condition and a line have now is 0 in it, which it did not tell). To every list in the new form it gives 20,
-- whatever the index, and so does each of its steps (`new_list_refused`, `generated_refused`). To words whose last one is not negative it
-- gives what the reader gives now (`old_answers`, `old_step`), and so this tells depth 0 of them: "0 for an old list" (`old_depth`).
-- Assumes nothing.
use Rattle.std.specs.Prelude.{ℕ, zero, suc, ◌+◌, ◌-◌, ◌≡◌, refl, Bool, true, false, ◌&&◌, List, [], ◌∷◌, ◌++◌, ℤ, pos, negsuc, ltb, leb, length, get_or, take}
use Rattle.std.proofs.Common.{arith as linear, sym, ap, ◌∙◌, subst, leb-true}
use Rattle.std.proofs.Math.Option.{Option, none, some}
use Rattle.std.proofs.Math.Bool.{and-eq-true_iff}
use Rattle.std.proofs.Math.ListN.{get_elem?}
use Rattle.std.proofs.Math.Seq.{slice}
use Rattle.script.specs.declared.Line.{Line}
use Rattle.script.specs.Rows.{field_number}
use Rattle.script.specs.Conditions.{condition, conditions}
use Rattle.script.specs.Trees.{tree}
use Rattle.script.specs.Words.{without_depth, with_depth}
use Rattle.script.specs.WellFormed.{DepthInRange, AllInRange}
use Rattle.script.specs.Generated.{outcome}
use Rattle.script.specs.Listing.{◌>>=◌, guarded, natural, below, rule_of, row_limit, spelled, last_word, form_told, count_told, form_of, Found, found_within, line_before, line_before_within, lines_before, lines_before_within, lines, lines_within, read_list, no_line, line, line_of, line_at, line_at_within, malformed_place, condition_count, condition_count_within, part_at, first_place, first_place_within, step_back, step_back_within, next_place, next_place_within}
use Rattle.theorems.specs.Options.{none_is_not, some_inj}
use Rattle.theorems.specs.Line.{line_only}
use Rattle.theorems.specs.ReadBack.{conditions_of, form_written, written_read}
use Rattle.theorems.specs.Demand.{planned_list}

-- ---- the reader before P9

unfoldable pub former_found : List ℤ → ℕ → ℤ → ℤ → ℤ → Option Found
former_found ws e k r n = do
  rule ← rule_of (field_number k)
  row ← below row_limit r
  size ← below (suc e) n
  claim ← spelled (slice (e - size) e ws)
  some (record { condition = condition rule row 0 claim; start = e - size; end = e })

unfoldable pub former_line_before : List ℤ → ℕ → Option Found
former_line_before ws e =
    guarded (leb 3 e && leb e (length ws))
    (former_found ws (e - 3) (get_or ws (e - 3) (pos 0)) (get_or ws (e - 2) (pos 0)) (get_or ws (e - 1) (pos 0)))

unfoldable pub former_lines_before : List ℤ → ℕ → ℕ → Option (List Found)
former_lines_before ws zero zero = some []
former_lines_before ws zero (suc e) = none
former_lines_before ws (suc n) e = do
  last ← former_line_before ws e
  front ← former_lines_before ws n last.start
  some (front ++ (last ∷ []))

unfoldable pub former_lines : List ℤ → Option (List Found)
former_lines ws =
    guarded (leb (length ws) 16384)
    (natural (get_or ws (length ws - 1) (pos 0)) >>= λ count. guarded (ltb 0 count) (former_lines_before ws count (length ws - 1)))

-- the entries, from the lines that were read
abbrev line_from : Option (List Found) → ℤ → Line
line_from o i = elim o [ some fs ↦ line_of fs i | none ↦ no_line 20 ]

abbrev count_from : Option (List Found) → ℕ
count_from o = elim o [ some fs ↦ length fs | none ↦ 0 ]

abbrev place_from : Option (List Found) → ℕ → ℕ
place_from o end = elim o [ some fs ↦ end | none ↦ malformed_place ]

abbrev pub former_line_at : List ℤ → ℤ → Line
former_line_at ws i = line_from (former_lines ws) i

abbrev pub former_count : List ℤ → ℕ
former_count ws = count_from (former_lines ws)

abbrev pub former_first_place : List ℤ → ℕ
former_first_place ws = place_from (former_lines ws) (length ws - 1)

abbrev pub former_step_back : List ℤ → ℕ → Line
former_step_back ws zero = no_line 21
former_step_back ws (suc e) = elim (former_line_before ws (suc e)) [ some f ↦ line f | none ↦ no_line 20 ]

abbrev pub former_next_place : List ℤ → ℕ → ℕ
former_next_place ws e = elim (former_line_before ws e) [ some f ↦ f.start | none ↦ e ]

-- ---- "an old reader gives 20 to a new list"

-- words whose last one is negative it did not read
unread : (ws : List ℤ) (b : Bool) (w : ℤ) (f : ℕ → Option (List Found)) → form_told w ≡ with_depth → guarded b (natural w >>= f) ≡ none
unread ws b (pos n) f e = absurd (let z : ◌≡◌ {A = ℕ} 0 1 = cc in omega linear)
unread ws true (negsuc n) f e = refl
unread ws false (negsuc n) f e = refl

former_none : (ws : List ℤ) → form_of ws ≡ with_depth → former_lines ws ≡ none
unfolding former_lines
former_none ws e = unread ws (leb (length ws) 16384) (last_word ws) _ e

pub record RefusedByFormer (ws : List ℤ) : Type 0 where
  pub line : (i : ℤ) → former_line_at ws i ≡ no_line 20
  pub count : former_count ws ≡ 0
  pub place : former_first_place ws ≡ malformed_place
  pub step : former_step_back ws malformed_place ≡ no_line 20
  pub stays : former_next_place ws malformed_place ≡ malformed_place

pub new_list_refused : (ws : List ℤ) → form_of ws ≡ with_depth → RefusedByFormer ws
unfolding former_line_before
new_list_refused ws e =
    let none_read = former_none ws e in
    record {
      line = λ i. ap (λ o. line_from o i) none_read;
      count = ap count_from none_read;
      place = ap (λ o. place_from o (length ws - 1)) none_read;
      step = refl;
      stays = refl;
    }

-- so to every list that the generator leaves
pub generated_refused : (t : List ℤ) (list scratch : ℕ) → let o = outcome t list scratch in
    o.answer.number ≡ 0 → RefusedByFormer (take o.answer.words o.list)
generated_refused t list scratch e =
    let p = planned_list t list scratch e in
    let o = outcome t list scratch in
    let ws = take o.answer.words o.list in
    let w = written_read ws (conditions (tree t)) p.reads in
    new_list_refused ws (ap form_of p.words ∙ form_written with_depth (conditions (tree t)) w.counted)

-- ---- words in the old form

tested_alike : {A : Type 0} (b : Bool) {x y : Option A} → (b ≡ true → x ≡ y) → guarded b x ≡ guarded b y
tested_alike true f = f refl
tested_alike false f = refl

former_line : (ws : List ℤ) (e : ℕ) → former_line_before ws e ≡ line_before without_depth ws e
unfolding former_line_before line_before_within former_found found_within
former_line ws e =
    tested_alike (leb 3 e && leb e (length ws)) λ h.
    let l = leb-true 3 e ((and-eq-true_iff (leb 3 e) (leb e (length ws))).0 h).0 in
    let second : e - 2 ≡ e - 3 + 1 = omega linear in
    let third : e - 1 ≡ e - 3 + 2 = omega linear in
    rw (second, third)

-- a condition and those before it, where these are read alike
read_alike : (o : Option Found) (f g : ℕ → Option (List Found)) → ((s : ℕ) → f s ≡ g s)
    → (o >>= λ last. f last.start >>= λ front. some (front ++ (last ∷ []))) ≡ (o >>= λ last. g last.start >>= λ front. some (front ++ (last ∷ [])))
read_alike none f g h = refl
read_alike (some x) f g h = ap (λ o. o >>= λ front. some (front ++ (x ∷ []))) (h x.start)

former_front : (ws : List ℤ) (n e : ℕ) → former_lines_before ws n e ≡ lines_before without_depth ws n e
unfolding former_lines_before lines_before_within
former_front ws zero zero = refl
former_front ws zero (suc e) = refl
former_front ws (suc n) e =
    ap (λ o. o >>= λ last. former_lines_before ws n last.start >>= λ front. some (front ++ (last ∷ []))) (former_line ws e)
    ∙ read_alike (line_before without_depth ws e) (λ s. former_lines_before ws n s) (λ s. lines_before without_depth ws n s) (λ s. former_front ws n s)

-- the tests of the length and of the count, in either order
counted_alike : (b : Bool) (w : ℤ) (f : ℕ → Option (List Found)) → form_told w ≡ without_depth
    → guarded b (natural w >>= λ n. guarded (ltb 0 n) (f n)) ≡ guarded (b && ltb 0 (count_told w)) (f (count_told w))
counted_alike true (pos n) f e = refl
counted_alike false (pos n) f e = refl
counted_alike b (negsuc n) f e = absurd (let z : ◌≡◌ {A = ℕ} 0 1 = cc in omega linear)

former_same : (ws : List ℤ) → form_of ws ≡ without_depth → former_lines ws ≡ lines ws
unfolding former_lines lines_within
former_same ws e =
    let count = count_told (last_word ws) in
    let end = length ws - 1 in
    counted_alike (leb (length ws) 16384) (last_word ws) (λ n. former_lines_before ws n end) e
    ∙ ap (λ o. guarded (leb (length ws) 16384 && ltb 0 count) o)
    (former_front ws count end ∙ ap (λ form. lines_before form ws count end) (sym e))

pub record SameAnswers (ws : List ℤ) : Type 0 where
  pub line : (i : ℤ) → former_line_at ws i ≡ line_at ws i
  pub part : (i : ℤ) → slice (former_line_at ws i).start (former_line_at ws i).end ws ≡ part_at ws i
  pub count : former_count ws ≡ condition_count ws
  pub place : former_first_place ws ≡ first_place ws

pub old_answers : (ws : List ℤ) → form_of ws ≡ without_depth → SameAnswers ws
unfolding line_at_within condition_count_within first_place_within
old_answers ws e =
    let same = former_same ws e in
    let lines_same : (i : ℤ) → former_line_at ws i ≡ line_at ws i = λ i. ap (λ o. line_from o i) same in
    record {
      line = lines_same;
      part = λ i. ap (λ (l : Line). slice l.start l.end ws) (lines_same i);
      count = ap count_from same;
      place = ap (λ o. place_from o (length ws - 1)) same;
    }

-- and each step from any place
pub record SameStep (ws : List ℤ) (e : ℕ) : Type 0 where
  pub line : former_step_back ws e ≡ step_back ws e
  pub next : former_next_place ws e ≡ next_place ws e

pub old_step : (ws : List ℤ) (e : ℕ) → form_of ws ≡ without_depth → SameStep ws e
unfolding step_back_within next_place_within
old_step ws e f =
    let here : former_line_before ws e ≡ line_before (form_of ws) ws e = former_line ws e ∙ ap (λ x. line_before x ws e) (sym f) in
    record { line = stepped e here; next = ap (λ (o : Option Found). elim o [ some f ↦ f.start | none ↦ e ]) here }
  where
    stepped : (e : ℕ) → former_line_before ws e ≡ line_before (form_of ws) ws e → former_step_back ws e ≡ step_back ws e
    stepped zero q = refl
    stepped (suc e) q = ap (λ (o : Option Found). elim o [ some f ↦ line f | none ↦ no_line 20 ]) q

-- ---- "0 for an old list"

told_zero : (fs : List Found) (k : ℕ) {f : Found} → AllInRange without_depth (conditions_of fs) → get_elem? fs k ≡ some f → f.condition.depth ≡ 0
told_zero [] k h q = none_is_not q
told_zero (g ∷ fs) zero h q = subst (λ (x : Found). x.condition.depth ≡ 0) (some_inj q) h.0.1
told_zero (g ∷ fs) (suc k) h q = told_zero fs k h.2 q

abbrev depth_of : Line → ℕ
depth_of l = l.depth

pub old_depth : (ws : List ℤ) → form_of ws ≡ without_depth → (i : ℤ) → (line_at ws i).depth ≡ 0
unfolding line_at_within read_list
old_depth ws e i = by_lines (lines ws) refl i
  where
    at_index : (fs : List Found) → AllInRange without_depth (conditions_of fs) → (k : ℕ) (o : Option Found) → get_elem? fs k ≡ o
        → depth_of (elim o [ some f ↦ line f | none ↦ no_line 21 ]) ≡ 0
    at_index fs h k none q = refl
    at_index fs h k (some f) q = told_zero fs k h q

    by_lines : (o : Option (List Found)) → lines ws ≡ o → (i : ℤ) → (line_from o i).depth ≡ 0
    by_lines none q i = refl
    by_lines (some fs) q (negsuc k) = refl
    by_lines (some fs) q (pos k) =
        let w = written_read ws (conditions_of fs) (ap (λ (o : Option (List Found)). o >>= λ fs. some (conditions_of fs)) q) in
        at_index fs (subst (λ form. AllInRange form (conditions_of fs)) e w.ranges) k (get_elem? fs k) refl

pub old_step_depth : (ws : List ℤ) → form_of ws ≡ without_depth → (e : ℕ) → (step_back ws e).depth ≡ 0
unfolding step_back_within
old_step_depth ws f zero = refl
old_step_depth ws f (suc e) = by_line (line_before (form_of ws) ws (suc e)) refl
  where
    by_line : (o : Option Found) → line_before (form_of ws) ws (suc e) ≡ o → depth_of (elim o [ some f ↦ line f | none ↦ no_line 20 ]) ≡ 0
    by_line none q = refl
    by_line (some g) q = subst (λ form. DepthInRange form g.condition.depth) f (line_only (form_of ws) ws (suc e) g q).numbers.1
