-- A list, in either form, walked from the front. From each place that the walk reaches, the list has the lines of the conditions
-- that are left, and then its count (`Ahead`). The formula at the front ends where `formula_back` says, so the words after it are
-- its trailer, and past that the conditions but the first are left (`turn`). Assumes nothing.
use Prim.Native.Nat.{ℕ, ◌+◌, ◌*◌, ◌-◌, ◌≤◌, ◌<◌}
use mathlib.Core.Path.{◌≡◌, refl, sym, ap, ◌∙◌, subst}
use mathlib.Core.Option.{some}
use mathlib.Core.List.{List, [], ◌∷◌, ◌++◌, append_assoc}
use native.Mathlib.Nat.{add-zero}
use native.Mathlib.Omega.{arith as linear}
use lib.IntN.{ℤ, pos}
use lib.ListN.{length, get_or, take, drop, length-append, length-drop}
use lib.Seq.{get_or-drop, drop-drop, take-append_seam, drop-append_seam}
use Rattle.script.specs.Rows.{field_number, variables}
use Rattle.script.specs.Conditions.{Condition}
use Rattle.script.specs.Words.{formula_words, rule_number, trailer, line_words, all_lines, count_word, list_words}
use Rattle.script.specs.Listing.{form_of}
use Rattle.script.specs.WellFormed.{AllInRange, InRangeᶠ}
use Rattle.script.specs.Syntax.{Formula}
use Rattle.output.specs.declared.Output.{Output}
use Rattle.output.specs.Written.{Written, Left, nothing_written, then}
use Rattle.theorems.specs.Line.{trailer_size}
use Rattle.theorems.specs.Reading.{formula_back}
use Rattle.list_reader.specs.Lines.{Tail}
use Rattle.list_reader.specs.Ends.{rest_of, after_formula, FormulaEnds, left_after, ends_past}
use Rattle.printer.specs.Text.{line, name_of, lines, conditions_in, Listed}
use Rattle.printer.specs.Output.{conditions_back}
use Rattle.printer.proofs.Lines.{name_is}

-- from the place i on, ws has the lines of cs, and then its count
pub record Ahead (ws : List ℤ) (i : ℕ) (cs : List Condition) : Type 0 where
  pub count : ℤ
  pub words : drop i ws ≡ all_lines (form_of ws) cs ++ (count ∷ [])
  pub ranges : AllInRange (form_of ws) cs

pub all_ahead : (ws : List ℤ) → Listed ws → Ahead ws 0 (conditions_in ws)
unfolding list_words
all_ahead ws l =
    let cs = l.conditions in
    let w = l.well_formed in
    rw (conditions_back ws cs w) (record { count = count_word (form_of ws) (length cs); words = sym w.spells; ranges = w.ranges })

-- ---- where the formula at the front ends

after_back : (f : Formula) → InRangeᶠ f → (n : ℕ) (rest : List ℤ) → length (formula_words f) ≤ n
    → after_formula n (formula_words f ++ rest) ≡ some rest
unfolding after_formula
after_back f h n rest l = ap rest_of (formula_back variables f n h l rest)

-- ws from i on is the words of a formula and a tail
module _ (ws tail : List ℤ) (i e : ℕ) (f : Formula) (range : InRangeᶠ f) (words : drop i ws ≡ formula_words f ++ tail)
    (ends : FormulaEnds ws i e) where
  end_is : (tail ≡ drop e ws) × (i < e) × (e ≤ length ws)
  end_is = left_after after_formula (formula_words f) (after_back f range) tail words ends.reads

  end_place : e ≡ i + length (formula_words f)
  end_place = ends_past after_formula (formula_words f) (after_back f range) tail words ends.reads

  part_size : e - i ≡ length (formula_words f)
  part_size = omega (linear, end_place)

  formula_part : take (e - i) (drop i ws) ≡ formula_words f
  formula_part = rw (part_size, words) (take-append_seam (formula_words f) tail)

  word_past : (k : ℕ) → get_or ws (e + k) (pos 0) ≡ get_or tail k (pos 0)
  word_past k = sym (get_or-drop e ws k (pos 0)) ∙ ap (λ l. get_or l k (pos 0)) (sym end_is.0)

  words_past : (k : ℕ) → drop (e + k) ws ≡ drop k tail
  words_past k = sym (drop-drop k e ws) ∙ ap (λ l. drop k l) (sym end_is.0)

-- ---- a turn of the walk, past a trailer of n words

pub record Turn (ws : List ℤ) (i e n : ℕ) (cs : List Condition) : Type 0 where
  pub first : Condition
  pub others : List Condition
  pub is : cs ≡ first ∷ others
  pub forward : i < e
  pub inside : e + n < length ws
  pub kind : get_or ws e (pos 0) ≡ pos (rule_number first.rule)
  pub row : get_or ws (e + 1) (pos 0) ≡ pos first.row
  pub formula : take (e - i) (drop i ws) ≡ formula_words first.claim
  pub size : length (take (e - i) (drop i ws)) ≡ e - i
  pub ahead : Ahead ws (e + n) others

-- the line of c, then the lines of cs and the count
regroup : (part trail rest : List ℤ) (n : ℤ) → ((part ++ trail) ++ rest) ++ (n ∷ []) ≡ part ++ (trail ++ (rest ++ (n ∷ [])))
regroup part trail rest n = simp append_assoc

pub turn : (ws : List ℤ) (i e n : ℕ) (cs : List Condition) → Ahead ws i cs → i + 1 < length ws → Tail ws n → FormulaEnds ws i e
    → Turn ws i e n cs
unfolding all_lines line_words
turn ws i e n [] l h t ends = absurd (omega (linear, ap length l.words, length-drop i ws))
turn ws i e n (c ∷ cs) l h t ends =
    let f = c.claim in
    let trail = trailer (form_of ws) c in
    let long : length trail ≡ n = trailer_size (form_of ws) c ∙ sym t.is in
    let rest = all_lines (form_of ws) cs ++ (l.count ∷ []) in
    let tail = trail ++ rest in
    let words = l.words ∙ regroup (formula_words f) trail (all_lines (form_of ws) cs) l.count in
    let range = l.ranges.1 in
    let end = end_is ws tail i e f range words ends in
    let part = formula_part ws tail i e f range words ends in
    let past = word_past ws tail i e f range words ends in
    record {
      first = c;
      others = cs;
      is = refl;
      forward = end.1;
      inside =
          let some_left = length-append (all_lines (form_of ws) cs) (l.count ∷ []) in
          omega (linear, end.1, end.2, ap length end.0, length-drop e ws, length-append trail rest, long, some_left);
      kind = rw add-zero at (past 0);
      row = past 1;
      formula = part;
      size = ap length part ∙ sym (part_size ws tail i e f range words ends);
      ahead = record {
        count = l.count;
        words = words_past ws tail i e f range words ends n ∙ subst (λ k. drop k tail ≡ rest) long (drop-append_seam trail rest);
        ranges = l.ranges.2;
      };
    }

-- the walk is over where only the count is left
pub over : (ws : List ℤ) (i : ℕ) (cs : List Condition) → Ahead ws i cs → length ws ≤ i + 1 → cs ≡ []
unfolding all_lines line_words
over ws i [] l h = refl
over ws i (c ∷ cs) l h =
    let part = formula_words c.claim in
    let trail = trailer (form_of ws) c in
    let words = l.words ∙ regroup part trail (all_lines (form_of ws) cs) l.count in
    let rest = all_lines (form_of ws) cs ++ (l.count ∷ []) in
    absurd (omega (linear, ap length words, length-drop i ws, length-append part (trail ++ rest), length-append trail rest))

-- k is the kind and r the row that were read of the first condition that is left
pub turn_text : {ws : List ℤ} {i e n k : ℕ} {cs : List Condition} {w r : ℤ} → (t : Turn ws i e n cs) → k ≡ field_number w → w ≡ get_or ws e (pos 0)
    → r ≡ get_or ws (e + 1) (pos 0) → lines cs ≡ line (name_of k) (r ∷ take (e - i) (drop i ws)) ++ lines t.others
unfolding lines
turn_text t hk hw hr = rw (t.is, hk, hw, hr, t.kind, t.row, t.formula, name_is t.first.rule)

-- ---- the walk that writes a line for each condition

pub record Walking (out₀ : Output ℕ) (ws : List ℤ) (out : Output ℕ) (i : ℕ) : Type 0 where
  pub conditions : List Condition
  pub ahead : Ahead ws i conditions
  pub inside : i < length ws
  pub within : length (lines (conditions_in ws)) ≤ 12 * i + length (lines conditions)
  pub text : Left out₀ (lines (conditions_in ws)) out (lines conditions)

pub set_out : (out : Output ℕ) (ws : List ℤ) → Listed ws → Walking out ws out 0
set_out out ws l =
    let start = all_ahead ws l in
    record {
      conditions = conditions_in ws;
      ahead = start;
      inside = omega (linear, ap length start.words, length-append (all_lines (form_of ws) (conditions_in ws)) (start.count ∷ []));
      within = omega linear;
      text = λ out' w. w;
    }

pub arrived : {out₀ out : Output ℕ} {i : ℕ} {ws : List ℤ} → Walking out₀ ws out i → length ws ≤ i + 1
    → Written out₀ (lines (conditions_in ws)) out × (length (lines (conditions_in ws)) ≤ 12 * length ws)
unfolding lines
arrived w h =
    let none = over _ _ w.conditions w.ahead h in
    (w.text _ (rw none (nothing_written _)), omega (linear, rw none at w.within, w.inside))

module _ {out₀ out : Output ℕ} {i e n k : ℕ} {ws : List ℤ} {w r : ℤ} (here : Walking out₀ ws out i) (tail : Tail ws n)
    (t : Turn ws i e n here.conditions) (hk : k ≡ field_number w) (hw : w ≡ get_or ws e (pos 0)) (hr : r ≡ get_or ws (e + 1) (pos 0)) where
  pub walked_on : {out' : Output ℕ} → Written out (line (name_of k) (r ∷ take (e - i) (drop i ws))) out'
      → length (line (name_of k) (r ∷ take (e - i) (drop i ws))) ≤ 12 * length (take (e - i) (drop i ws)) + 36 → Walking out₀ ws out' (e + n)
  walked_on wrote short = record {
    conditions = t.others;
    ahead = t.ahead;
    inside = t.inside;
    within =
        let first = line (name_of k) (r ∷ take (e - i) (drop i ws)) in
        omega (linear, here.within, tail.least, t.size, t.forward, short, ap length (turn_text t hk hw hr), length-append first (lines t.others));
    text = λ o v. here.text o (rw (turn_text t hk hw hr) (then wrote v));
  }
