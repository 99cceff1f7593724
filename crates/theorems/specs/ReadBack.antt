-- The words that are read as a list are exactly the well-formed lists, with their conditions (`read_list_iff`); anything
-- else is torn (`malformed_iff`). What is written is read: by induction on the conditions, first one first, since where those
-- before are read the next one is read after them (`lines_back`). Only what is written is read: by induction on the count,
-- last one first (`lines_only`). Both for either form; the last word tells which it is (`form_written`). Assumes nothing.
use Prim.Native.Nat.{ℕ, zero, suc, ◌+◌, ◌-◌, ◌≤◌, ◌<◌}
use Rattle.std.specs.Prelude.{◌≡◌, refl, ◌↔◌, ℤ, pos, negsuc, ltb, leb, ◌&&◌, take}
use Rattle.std.proofs.Math.Path.{sym, ap, subst}
use Rattle.std.proofs.Common.{ap₂, ◌∙◌, le_refl, zero-add, add-one, take-suc, lt-ltb, ltb-true, le-leb, leb-true}
use Rattle.std.proofs.Math.Option.{Option, none, some}
use mathlib.Core.List.{List, [], ◌∷◌, ◌++◌, map, map-append, append_assoc, append-nil}
use Rattle.std.proofs.Math.Nat.{add-zero}
use native.Mathlib.Omega.{arith as linear}
use Rattle.std.proofs.Math.Bool.{and-eq-true_iff}
use Rattle.std.proofs.Math.ListN.{length, length-append}
use Rattle.std.proofs.Math.Seq.{take-length, append_snoc, get_or-append_seam}
use Rattle.script.specs.Conditions.{Condition}
use Rattle.script.specs.Words.{Form, without_depth, with_depth, line_words, all_lines, count_word, list_words}
use Rattle.script.specs.WellFormed.{InRangeᶠ, DepthInRange, AllInRange, WellFormed}
use Rattle.script.specs.Listing.{row_limit, last_word, form_told, count_told, form_of, Found, line_before, lines_before, lines_before_within, lines, lines_within, read_list}
use Rattle.theorems.specs.Options.{none_is_not, some_inj, went_on, held}
use Rattle.theorems.specs.Line.{place, line_back, LineEnds, line_only}

-- the conditions cs, the first one from s on
abbrev pub places : Form → ℕ → List Condition → List Found
places form s [] = []
places form s (c ∷ cs) = place s c ∷ places form (s + length (line_words form c)) cs

abbrev pub conditions_of : List Found → List Condition
conditions_of fs = map (λ (f : Found). f.condition) fs

-- ---- what is written is read

module _ (form : Form) where
  -- the condition that ends at e, after those that end where it starts
  one_more : (ws : List ℤ) (n e : ℕ) (f : Found) (fs : List Found) → line_before form ws e ≡ some f
      → lines_before form ws n f.start ≡ some fs → lines_before form ws (suc n) e ≡ some (fs ++ (f ∷ []))
  unfolding lines_before_within
  one_more ws n e f fs p q = rw (p, q)

  -- where fs are read before the lines of cs, fs and then cs are read after them
  lines_back : (cs : List Condition) (front tail ws : List ℤ) (n : ℕ) (fs : List Found) → AllInRange form cs
      → front ++ (all_lines form cs ++ tail) ≡ ws → lines_before form ws n (length front) ≡ some fs
      → lines_before form ws (n + length cs) (length front + length (all_lines form cs)) ≡ some (fs ++ places form (length front) cs)
  unfolding all_lines
  lines_back [] front tail ws n fs h p q = rw (add-zero n, add-zero (length front), append-nil fs) q
  lines_back (c ∷ cs) front tail ws n fs h p q =
      let s = length front in
      let first = line_words form c in
      let later = all_lines form cs in
      let next = front ++ first in
      let read = fs ++ (place s c ∷ []) in
      let whole : front ++ (first ++ (later ++ tail)) ≡ ws = ap (λ l. front ++ l) (sym (append_assoc first later tail)) ∙ p in
      let here : line_before form ws (s + length first) ≡ some (place s c) = rw whole at (line_back form front (later ++ tail) c h.0 h.1) in
      let end : s + length first ≡ length next = sym (length-append front first) in
      let now : lines_before form ws (suc n) (length next) ≡ some read = rw (← end) (one_more ws n (s + length first) (place s c) fs here q) in
      let more = lines_back cs next tail ws (suc n) read h.2 (append_assoc front first (later ++ tail) ∙ whole) now in
      let count : suc n + length cs ≡ n + suc (length cs) = omega linear in
      let ends : length next + length later ≡ s + length (first ++ later) = omega (linear, end, length-append first later) in
      rw (count, ends, append_snoc fs (place s c) (places form (length next) cs), ← end) at more

-- the last word tells the form and the count
pub form_told_of : (form : Form) (n : ℕ) → 0 < n → form_told (count_word form n) ≡ form
form_told_of without_depth n h = refl
form_told_of with_depth zero h = absurd (omega linear)
form_told_of with_depth (suc n) h = refl

pub count_told_of : (form : Form) (n : ℕ) → count_told (count_word form n) ≡ n
count_told_of without_depth n = refl
count_told_of with_depth zero = refl
count_told_of with_depth (suc n) = refl

pub last_of : (words : List ℤ) (w : ℤ) → last_word (words ++ (w ∷ [])) ≡ w
last_of words w =
    let end : length (words ++ (w ∷ [])) - 1 ≡ length words = omega (linear, length-append words (w ∷ [])) in
    rw (end) (get_or-append_seam words w [] (pos 0))

-- the form in which conditions are written is told by their list
pub form_written : (form : Form) (cs : List Condition) → 0 < length cs → form_of (list_words form cs) ≡ form
unfolding list_words
form_written form cs h = ap form_told (last_of (all_lines form cs) (count_word form (length cs))) ∙ form_told_of form (length cs) h

lines_are : (ws : List ℤ) → length ws ≤ 16384 → 0 < count_told (last_word ws)
    → lines ws ≡ lines_before (form_of ws) ws (count_told (last_word ws)) (length ws - 1)
unfolding lines_within
lines_are ws h k = rw (le-leb (length ws) 16384 h, lt-ltb 0 (count_told (last_word ws)) k)

pub lines_written : (ws : List ℤ) (cs : List Condition) → WellFormed ws cs → lines ws ≡ some (places (form_of ws) 0 cs)
unfolding list_words lines_before_within
lines_written ws cs w =
    let form = form_of ws in
    let words = all_lines form cs in
    let count = count_word form (length cs) in
    let end : length ws - 1 ≡ length words = omega (linear, length-append words (count ∷ []), ap length w.spells) in
    let many : count_told (last_word ws) ≡ length cs =
    ap (λ l. count_told (last_word l)) (sym w.spells) ∙ ap count_told (last_of words count) ∙ count_told_of form (length cs) in
    let read = lines_back form cs [] (count ∷ []) ws 0 [] w.ranges w.spells refl in
    lines_are ws w.short (subst (λ n. 0 < n) (sym many) w.counted)
    ∙ ap₂ (λ n e. lines_before form ws n e) many end
    ∙ simp zero-add at read

conditions_places : (form : Form) (s : ℕ) (cs : List Condition) → conditions_of (places form s cs) ≡ cs
conditions_places form s [] = refl
conditions_places form s (c ∷ cs) = ap (λ l. c ∷ l) (conditions_places form (s + length (line_words form c)) cs)

pub read_written : (ws : List ℤ) (cs : List Condition) → WellFormed ws cs → read_list ws ≡ some cs
unfolding read_list
read_written ws cs w = rw (lines_written ws cs w, conditions_places (form_of ws) 0 cs)

-- ---- only what is written is read

module _ (form : Form) where
  -- fs are n conditions, and the words up to e are theirs
  record LinesEnd (ws : List ℤ) (n e : ℕ) (fs : List Found) : Type 0 where
    whole : all_lines form (conditions_of fs) ≡ take e ws
    count : length (conditions_of fs) ≡ n
    ranges : AllInRange form (conditions_of fs)

  snoc_lines : (cs : List Condition) (c : Condition) → all_lines form (cs ++ (c ∷ [])) ≡ all_lines form cs ++ line_words form c
  unfolding all_lines
  snoc_lines [] c = append-nil (line_words form c)
  snoc_lines (d ∷ cs) c =
      ap (λ l. line_words form d ++ l) (snoc_lines cs c) ∙ sym (append_assoc (line_words form d) (all_lines form cs) (line_words form c))

  snoc_ranges : (cs : List Condition) (c : Condition) → AllInRange form cs → (c.row < row_limit) × DepthInRange form c.depth
      → InRangeᶠ c.claim → AllInRange form (cs ++ (c ∷ []))
  snoc_ranges [] c h r f = (r, f, tt)
  snoc_ranges (d ∷ cs) c h r f = (h.0, h.1, snoc_ranges cs c h.2 r f)

  snoc : (ws : List ℤ) (n e : ℕ) (fs : List Found) (f : Found) → LinesEnd ws n f.start fs → LineEnds form ws e f
      → LinesEnd ws (suc n) e (fs ++ (f ∷ []))
  snoc ws n e fs f before here =
      let cs = conditions_of fs in
      let c = f.condition in
      let all : conditions_of (fs ++ (f ∷ [])) ≡ cs ++ (c ∷ []) = map-append (λ (g : Found). g.condition) fs (f ∷ []) in
      record {
        whole = rw (all, snoc_lines cs c, before.whole) here.whole;
        count = rw (all, length-append cs (c ∷ []), before.count) (add-one n);
        ranges = rw all (snoc_ranges cs c before.ranges here.numbers here.range);
      }

  lines_only : (ws : List ℤ) (n e : ℕ) (fs : List Found) → lines_before form ws n e ≡ some fs → LinesEnd ws n e fs
  unfolding lines_before_within all_lines
  lines_only ws zero zero fs q = subst (λ x. LinesEnd ws 0 0 x) (some_inj q) (record { whole = refl; count = refl; ranges = tt })
  lines_only ws zero (suc e) fs q = none_is_not q
  lines_only ws (suc n) e fs q =
      let last = went_on (line_before form ws e) _ q in
      let front = went_on (lines_before form ws n last.0.start) _ last.2 in
      let here = line_only form ws e last.0 last.1 in
      let before = lines_only ws n last.0.start front.0 front.1 in
      subst (λ x. LinesEnd ws (suc n) e x) (some_inj front.2) (snoc ws n e front.0 last.0 before here)

-- a word is the count, in the form that it tells
count_only : (w : ℤ) → count_word (form_told w) (count_told w) ≡ w
count_only (pos n) = refl
count_only (negsuc n) = refl

-- a list ends with its count
count_last : (ws : List ℤ) → 0 < count_told (last_word ws)
    → take (length ws - 1) ws ++ (count_word (form_of ws) (count_told (last_word ws)) ∷ []) ≡ ws
count_last [] h = absurd (omega linear)
count_last (w ∷ ws) h =
    let end : suc (length ws) - 1 ≡ length ws = omega linear in
    let count = count_only (last_word (w ∷ ws)) in
    let all = take-suc (w ∷ ws) (length ws) (pos 0) (le_refl (suc (length ws))) in
    rw (count, end, ← all) (take-length (w ∷ ws))

-- what was tested of a list, and how its lines were read
pub record Tested (ws : List ℤ) (fs : List Found) : Type 0 where
  pub short : length ws ≤ 16384
  pub many : 0 < count_told (last_word ws)
  pub read : lines_before (form_of ws) ws (count_told (last_word ws)) (length ws - 1) ≡ some fs

pub tested : (ws : List ℤ) (fs : List Found) → lines ws ≡ some fs → Tested ws fs
unfolding lines_within
tested ws fs q =
    let count = count_told (last_word ws) in
    let tests = held (leb (length ws) 16384 && ltb 0 count) _ q in
    let both = (and-eq-true_iff (leb (length ws) 16384) (ltb 0 count)).0 tests.0 in
    record { short = leb-true (length ws) 16384 both.0; many = ltb-true 0 count both.1; read = tests.1 }

pub written_read : (ws : List ℤ) (cs : List Condition) → read_list ws ≡ some cs → WellFormed ws cs
unfolding read_list list_words
written_read ws cs q =
    let found = went_on (lines ws) _ q in
    let t = tested ws found.0 found.1 in
    let end = lines_only (form_of ws) ws (count_told (last_word ws)) (length ws - 1) found.0 t.read in
    subst (λ x. WellFormed ws x) (some_inj found.2) (record {
      spells = rw (end.whole, end.count) (count_last ws t.many);
      short = t.short;
      counted = rw end.count t.many;
      ranges = end.ranges;
    })

pub read_list_iff : (ws : List ℤ) (cs : List Condition) → (read_list ws ≡ some cs) ↔ WellFormed ws cs
read_list_iff ws cs = (written_read ws cs, read_written ws cs)

-- "Anything else is 20."
pub malformed_iff : (ws : List ℤ) → (read_list ws ≡ none) ↔ ((cs : List Condition) → ¬ WellFormed ws cs)
malformed_iff ws = (λ q cs w. none_is_not (sym q ∙ read_written ws cs w), λ h. malformed_place (read_list ws) refl h)
  where
    malformed_place : (o : Option (List Condition)) → read_list ws ≡ o → ((cs : List Condition) → ¬ WellFormed ws cs) → o ≡ none
    malformed_place none q h = refl
    malformed_place (some cs) q h = absurd (h cs (written_read ws cs q))

-- two different lists of conditions never have the same words, in whatever forms they are written
pub words_tell : (f g : Form) (cs ds : List Condition) → WellFormed (list_words f cs) cs → WellFormed (list_words g ds) ds
    → list_words f cs ≡ list_words g ds → (cs ≡ ds) × (f ≡ g)
words_tell f g cs ds v w e = (
  some_inj (sym (read_written (list_words f cs) cs v) ∙ ap read_list e ∙ read_written (list_words g ds) ds w),
  sym (form_written f cs v.counted) ∙ ap form_of e ∙ form_written g ds w.counted,
)
