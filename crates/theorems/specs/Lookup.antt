-- What is answered at an index, and to the reader that walks back.
-- In a well-formed list each condition is found again at its index (`line_at_index`), with its formula as the part where it
-- stands (`part_at_index`); other indices give 21, and torn words give 20. Walking back gives the lines from the last to
-- the first, then 21 (`walk_back_list`); on a torn list every step gives 20. The count is that of the conditions (`count_written`).
-- Assumes nothing.
use Prim.Native.Nat.{ℕ, zero, suc, ◌+◌, ◌-◌, ◌≤◌, ◌<◌}
use Rattle.std.specs.Prelude.{◌≡◌, refl, ℤ, pos, negsuc, take, drop, replicate}
use Rattle.std.proofs.Common.{sym, ◌∙◌, subst, zero-add, add-zero, arith as linear}
use Rattle.std.proofs.Math.Path.{ap}
use Rattle.std.proofs.Math.Option.{none, some}
use mathlib.Core.List.{List, [], ◌∷◌, ◌++◌, map, reverse, append_assoc, map-append, reverse-append}
use Rattle.std.proofs.Math.Seq.{slice}
use Rattle.std.proofs.Math.ListN.{length, get_elem?, length-append}
use Rattle.script.specs.declared.Line.{Line}
use Rattle.script.specs.Conditions.{Condition}
use Rattle.script.specs.Words.{Form, without_depth, with_depth, formula_words, trailer, line_words, all_lines, count_word, list_words}
use Rattle.script.specs.WellFormed.{InRangeᶠ, AllInRange, WellFormed}
use Rattle.script.specs.Listing.{last_word, count_told, form_of, Found, line_before, line_before_within, lines_before, lines_before_within, lines, read_list, line_at_within, first_place_within, step_back_within, next_place_within}
use Rattle.script.specs.Listing.{condition_count, condition_count_within, no_line, line, line_of, line_at, line_at_within, part_at, malformed_place, first_place, first_place_within, step_back, step_back_within, next_place, next_place_within}
use Rattle.theorems.specs.Options.{none_is_not, some_inj, went_on, stopped}
use Rattle.theorems.specs.Line.{place, slice_part}
use Rattle.theorems.specs.ReadBack.{places, conditions_of, lines_written, tested}

-- ---- the line at an index

-- an index below the count is that of a condition
pub condition_at : (cs : List Condition) (i : ℕ) → i < length cs → (c : Condition) × (get_elem? cs i ≡ some c)
condition_at [] i h = absurd (omega linear)
condition_at (c ∷ cs) zero h = (c, refl)
condition_at (c ∷ cs) (suc i) h = condition_at cs i (omega linear)

-- what was found at an index has the condition there, with its numbers in range
pub condition_of : (fs : List Found) (k : ℕ) {f : Found} → get_elem? fs k ≡ some f → get_elem? (conditions_of fs) k ≡ some f.condition
condition_of [] k q = none_is_not q
condition_of (g ∷ fs) zero q = ap (λ (h : Found). some h.condition) (some_inj q)
condition_of (g ∷ fs) (suc k) q = condition_of fs k q

pub range_at : (form : Form) (cs : List Condition) (k : ℕ) {c : Condition} → AllInRange form cs → get_elem? cs k ≡ some c → InRangeᶠ c.claim
range_at form [] k h q = none_is_not q
range_at form (d ∷ cs) zero h q = rw (← some_inj q) h.1
range_at form (d ∷ cs) (suc k) h q = range_at form cs k h.2 q

module _ (form : Form) where
  place_at : (cs : List Condition) (s i : ℕ) (c : Condition) → get_elem? cs i ≡ some c
      → get_elem? (places form s cs) i ≡ some (place (s + length (all_lines form (take i cs))) c)
  unfolding all_lines
  place_at [] s i c q = none_is_not q
  place_at (d ∷ cs) s zero c q = rw (add-zero s) (ap (λ x. some (place s x)) (some_inj q))
  place_at (d ∷ cs) s (suc i) c q =
      let first = line_words form d in
      let before = all_lines form (take i cs) in
      let start : s + length first + length before ≡ s + length (first ++ before) = omega (linear, length-append first before) in
      rw (← start) (place_at cs (s + length first) i c q)

  none_past : (cs : List Condition) (s i : ℕ) → length cs ≤ i → get_elem? (places form s cs) i ≡ none
  none_past [] s i h = refl
  none_past (c ∷ cs) s zero h = absurd (omega linear)
  none_past (c ∷ cs) s (suc i) h = none_past cs (s + length (line_words form c)) i (omega linear)

  -- the line of the condition at index i stands after the lines of those before it
  split_lines : (cs : List Condition) (i : ℕ) (c : Condition) → get_elem? cs i ≡ some c
      → all_lines form (take i cs) ++ (line_words form c ++ all_lines form (drop (suc i) cs)) ≡ all_lines form cs
  unfolding all_lines
  split_lines [] i c q = none_is_not q
  split_lines (d ∷ cs) zero c q = ap (λ x. line_words form x ++ all_lines form cs) (sym (some_inj q))
  split_lines (d ∷ cs) (suc i) c q = append_assoc (line_words form d) _ _ ∙ ap (λ l. line_words form d ++ l) (split_lines cs i c q)

read_at : (ws : List ℤ) (cs : List Condition) → WellFormed ws cs → (i : ℤ) → line_at ws i ≡ line_of (places (form_of ws) 0 cs) i
unfolding line_at_within
read_at ws cs w i = rw (lines_written ws cs w, line_at_within)

-- "For index i from the front it gives number 0, kind, row and the formula as the part of the caller's words where it
-- stands": c is the condition at index i, and its formula begins where the lines of the conditions before it end
pub line_at_index : (ws : List ℤ) (cs : List Condition) → WellFormed ws cs → (i : ℕ) (c : Condition) → get_elem? cs i ≡ some c
    → line_at ws (pos i) ≡ line (place (length (all_lines (form_of ws) (take i cs))) c)
line_at_index ws cs w i c q =
    let s = length (all_lines (form_of ws) (take i cs)) in
    let found : get_elem? (places (form_of ws) 0 cs) i ≡ some (place s c) = rw (zero-add s) at (place_at (form_of ws) cs 0 i c q) in
    read_at ws cs w (pos i) ∙ rw (found, line_of)

-- 21: "index negative or not below the count"
pub line_at_past : (ws : List ℤ) (cs : List Condition) → WellFormed ws cs → (i : ℕ) → length cs ≤ i → line_at ws (pos i) ≡ no_line 21
line_at_past ws cs w i h = read_at ws cs w (pos i) ∙ rw (none_past (form_of ws) cs 0 i h, line_of)

pub line_at_negative : (ws : List ℤ) (cs : List Condition) → WellFormed ws cs → (i : ℕ) → line_at ws (negsuc i) ≡ no_line 21
line_at_negative ws cs w i = read_at ws cs w (negsuc i)

-- 20: "the words are not a list, all read"
pub line_at_malformed : (ws : List ℤ) → read_list ws ≡ none → (i : ℤ) → line_at ws i ≡ no_line 20
unfolding line_at_within read_list
line_at_malformed ws q i = rw (stopped (lines ws) conditions_of q, line_at_within)

regroup : (a b c d e : List ℤ) → (a ++ ((b ++ c) ++ d)) ++ e ≡ a ++ (b ++ (c ++ (d ++ e)))
regroup a b c d e = simp append_assoc

-- the line of the condition at an index stands behind the lines of those before it
pub laid_out : (ws : List ℤ) (cs : List Condition) → WellFormed ws cs → (i : ℕ) (c : Condition) → get_elem? cs i ≡ some c
    → all_lines (form_of ws) (take i cs)
    ++ (formula_words c.claim
    ++ (trailer (form_of ws) c ++ (all_lines (form_of ws) (drop (suc i) cs) ++ (count_word (form_of ws) (length cs) ∷ []))))
    ≡ ws
unfolding list_words line_words
laid_out ws cs w i c q =
    let form = form_of ws in
    let last = count_word form (length cs) ∷ [] in
    sym (regroup (all_lines form (take i cs)) (formula_words c.claim) (trailer form c) (all_lines form (drop (suc i) cs)) last)
    ∙ ap (λ l. l ++ last) (split_lines form cs i c q)
    ∙ w.spells

pub part_at_index : (ws : List ℤ) (cs : List Condition) → WellFormed ws cs → (i : ℕ) (c : Condition) → get_elem? cs i ≡ some c
    → part_at ws (pos i) ≡ formula_words c.claim
part_at_index ws cs w i c q =
    let before = all_lines (form_of ws) (take i cs) in
    let part = formula_words c.claim in
    let here = slice_part before part _ in
    rw (line_at_index ws cs w i c q) (ap (λ l. slice (length before) (length before + length part) l) (sym (laid_out ws cs w i c q)) ∙ here)

-- ---- the reader that walks back

-- the answers of n steps, the first one from place e
unfoldable pub walk_back : List ℤ → ℕ → ℕ → List Line
walk_back ws zero e = []
walk_back ws (suc n) e = step_back ws e ∷ walk_back ws n (next_place ws e)

-- no condition ends at 0 or at 1: the reader stays there, and gives the same answer again
none_at_front : (form : Form) (ws : List ℤ) → line_before form ws 0 ≡ none
unfolding line_before_within
none_at_front without_depth ws = refl
none_at_front with_depth ws = refl

none_at_one : (form : Form) (ws : List ℤ) → line_before form ws malformed_place ≡ none
unfolding line_before_within
none_at_one without_depth ws = refl
none_at_one with_depth ws = refl

stays_at_front : (ws : List ℤ) (n : ℕ) → walk_back ws n 0 ≡ replicate n (no_line 21)
unfolding walk_back step_back_within next_place_within
stays_at_front ws zero = refl
stays_at_front ws (suc n) = rw (none_at_front (form_of ws) ws, next_place_within) (ap (λ l. no_line 21 ∷ l) (stays_at_front ws n))

stays_malformed : (ws : List ℤ) (n : ℕ) → walk_back ws n malformed_place ≡ replicate n (no_line 20)
unfolding walk_back step_back_within next_place_within
stays_malformed ws zero = refl
stays_malformed ws (suc n) = rw (none_at_one (form_of ws) ws, step_back_within, next_place_within) (ap (λ l. no_line 20 ∷ l) (stays_malformed ws n))

one_step : (ws : List ℤ) (n e : ℕ) (f : Found) → line_before (form_of ws) ws e ≡ some f
    → walk_back ws (suc n) e ≡ line f ∷ walk_back ws n f.start
unfolding walk_back step_back_within next_place_within
one_step ws n zero f q = none_is_not (sym (none_at_front (form_of ws) ws) ∙ q)
one_step ws n (suc e) f q = rw (q, step_back_within, next_place_within)

-- from e on, the first steps give the lines of fs, last one first, and the n others go on from the front
abbrev Walked : List ℤ → ℕ → ℕ → List Found → Type 0
Walked ws n e fs = walk_back ws (length fs + n) e ≡ reverse (map line fs) ++ walk_back ws n 0

one_back : (ws : List ℤ) (n e : ℕ) (f : Found) (fs : List Found) → line_before (form_of ws) ws e ≡ some f → Walked ws n f.start fs
    → Walked ws n e (fs ++ (f ∷ []))
one_back ws n e f fs p h =
    let steps : length (fs ++ (f ∷ [])) + n ≡ suc (length fs + n) = omega (linear, length-append fs (f ∷ [])) in
    let answers = map-append line fs (f ∷ []) in
    rw (steps, answers, reverse-append (map line fs) (line f ∷ []), one_step ws (length fs + n) e f p, h)

walked : (ws : List ℤ) (m n e : ℕ) (fs : List Found) → lines_before (form_of ws) ws m e ≡ some fs → Walked ws n e fs
unfolding lines_before_within
walked ws zero n zero fs q = subst (λ x. Walked ws n 0 x) (some_inj q) (rw (zero-add n))
walked ws zero n (suc e) fs q = none_is_not q
walked ws (suc m) n e fs q =
    let last = went_on (line_before (form_of ws) ws e) _ q in
    let front = went_on (lines_before (form_of ws) ws m last.0.start) _ last.2 in
    let before = walked ws m n last.0.start front.0 front.1 in
    subst (λ x. Walked ws n e x) (some_inj front.2) (one_back ws n e last.0 front.0 last.1 before)

first_is : (ws : List ℤ) (fs : List Found) → lines ws ≡ some fs → first_place ws ≡ length ws - 1
unfolding first_place_within
first_is ws fs q = rw (q, first_place_within)

pub walk_back_list : (ws : List ℤ) (fs : List Found) (n : ℕ) → lines ws ≡ some fs
    → walk_back ws (length fs + n) (first_place ws) ≡ reverse (map line fs) ++ replicate n (no_line 21)
walk_back_list ws fs n q =
    let t = tested ws fs q in
    rw (first_is ws fs q, walked ws (count_told (last_word ws)) n (length ws - 1) fs t.read, stays_at_front ws n)

pub walk_back_malformed : (ws : List ℤ) (n : ℕ) → lines ws ≡ none → walk_back ws n (first_place ws) ≡ replicate n (no_line 20)
unfolding first_place_within
walk_back_malformed ws n q = rw (q, first_place_within) (stays_malformed ws n)

-- ---- the count

pub count_written : (ws : List ℤ) (cs : List Condition) → WellFormed ws cs → condition_count ws ≡ length cs
unfolding condition_count_within
count_written ws cs w = rw (lines_written ws cs w, condition_count_within) (as_many 0 cs)
  where
    as_many : (s : ℕ) (cs : List Condition) → length (places (form_of ws) s cs) ≡ length cs
    as_many s [] = refl
    as_many s (c ∷ cs) = ap suc (as_many (s + length (line_words (form_of ws) c)) cs)
