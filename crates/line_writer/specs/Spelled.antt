-- A line is a formula and its trailer of four words; the whole list is the lines and minus their number. Assumes nothing.
use Rattle.std.specs.Prelude.{ℕ, zero, suc, ◌+◌, ◌-◌, ◌≤◌, ◌<◌, ◌≡◌, List, [], ◌∷◌, ◌++◌, ℤ, pos, neg_ℤ, length}
use Rattle.std.proofs.Common.{◌∙◌, append-nil, arith as linear, length-append, SFits}
use Rattle.std.proofs.lemmas.List.Edits.{sets}
use Rattle.std.specs.Int.{w32}
use Rattle.script.specs.declared.Rule.{Rule}
use Rattle.script.specs.Syntax.{Formula}
use Rattle.script.specs.Conditions.{Condition, condition}
use Rattle.script.specs.Words.{with_depth, rule_number, formula_words, trailer, line_words, all_lines, count_word, list_words}
use Rattle.script.specs.Rows.{rows}
use Rattle.theorems.specs.Accepted.{Accepted}
use Rattle.theorems.specs.Writing.{Wrote, fitted, stopped}
use Rattle.output.specs.declared.Output.{Output}
use Rattle.output.specs.Written.{Written, then, written_length}
use Rattle.line_writer.specs.declared.Lines.{Lines}
use Rattle.line_writer.specs.declared.Progress.{Progress}
use Rattle.line_writer.specs.Listed.{Listed, InRoom, went, size, on}

-- ---- a line: the trailer of a formula that was written from the place `start` on

-- what the writer of a trailer asks
pub record Finishing (start row depth : ℕ) (ls : Lines) : Type 0 where
  pub short : size ls.out.now ≤ 16384
  pub low : row < 2048
  pub shallow : depth < 2048
  pub order : ls.out.now.at ≤ size ls.out.now → (start ≤ ls.out.now.at) × (ls.count ≤ start)

-- what it leaves
pub record Finished (start : ℕ) (rule : Rule) (row depth : ℕ) (ls ls' : Lines) : Type 0 where
  pub words : Written ls.out.now (pos (rule_number rule) ∷ pos row ∷ pos (ls.out.now.at - start) ∷ pos depth ∷ []) ls'.out.now
  pub same : ls'.out.ghost_name ≡ ls.out.ghost_name
  pub count : ls.out.now.at ≤ size ls.out.now → ls'.count ≡ ls.count + 1

pub finishing : (t : List ℤ) {ls : Lines} {o : Output ℤ} {ws : List ℤ} {row depth : ℕ} → Accepted t → row < rows t → depth < 2048 → InRoom ls
    → Written ls.out.now ws o → Finishing ls.out.now.at row depth (on ls o)
finishing t ok h d g w =
    let s = g.short in
    let m = ok.short in
    let f = written_length w in
    record {
      short = omega linear;
      low = omega linear;
      shallow = d;
      order = λ k. let a = went w.wrote (omega linear) in (omega linear, g.few (omega linear));
    }

module _ {start row depth : ℕ} {ls : Lines} (g : Finishing start row depth ls) where
  pub row_fits : SFits w32 (pos row)
  row_fits = let h = g.low in record { sfits = omega linear }

  pub length_fits : ls.out.now.at ≤ size ls.out.now → SFits w32 (pos (ls.out.now.at - start))
  length_fits h = let c = g.short in record { sfits = omega linear }

  pub depth_fits : SFits w32 (pos depth)
  depth_fits = let h = g.shallow in record { sfits = omega linear }

line_alone : (rule : Rule) (row depth : ℕ) (f : Formula) → all_lines with_depth (condition rule row depth f ∷ [])
    ≡ formula_words f ++ trailer with_depth (condition rule row depth f)
unfolding all_lines line_words
line_alone rule row depth f = append-nil (formula_words f ++ trailer with_depth (condition rule row depth f))

past_end : {l l' ws : List ℤ} {p q : ℕ} → Wrote l p ws q l' → length l < p → length l < q
past_end (fitted h n s) k = absurd (omega linear)
past_end (stopped h n s) k = n

-- the formula and its trailer are a line
pub line_finished : (rule : Rule) (row depth : ℕ) (f : Formula) {ls ls' : Lines} {o : Output ℤ}
    → Written ls.out.now (formula_words f) o → Finished ls.out.now.at rule row depth (on ls o) ls'
    → Listed ls (condition rule row depth f ∷ []) ls'
line_finished rule row depth f {ls} {ls'} {o} w e = by w.wrote
  where
    long : size o ≡ size ls.out.now
    long = written_length w

    by : Wrote ls.out.now.list.now ls.out.now.at (formula_words f) o.at o.list.now → Listed ls (condition rule row depth f ∷ []) ls'
    by (fitted h n s) =
        let m = long in
        let d : o.at - ls.out.now.at ≡ length (formula_words f) = omega linear in
        record {
          words = rw (line_alone rule row depth f) (then w (rw d at e.words));
          same = e.same;
          count = λ k. e.count (omega linear);
        }
    by (stopped h n s) =
        let m = length-append (formula_words f) (trailer with_depth (condition rule row depth f)) in
        let k = past_end e.words.wrote (omega linear) in
        record {
          words = record {
            wrote = stopped (rw (line_alone rule row depth f) (omega linear)) (omega linear) (written_length e.words ∙ s);
            same = e.words.same ∙ w.same;
          };
          same = e.same;
          count = λ i. absurd (omega linear);
        }

-- ---- the whole list

-- what the writer of the last word leaves
pub record Counted (ls ls' : Lines) : Type 0 where
  pub words : Written ls.out.now (count_word with_depth ls.count ∷ []) ls'.out.now
  pub same : ls'.out.ghost_name ≡ ls.out.ghost_name
  pub count : ls'.count ≡ ls.count

minus_fits : (n : ℕ) → n ≤ 16384 → SFits w32 (neg_ℤ (pos n))
minus_fits zero h = record { sfits = omega linear }
minus_fits (suc n) h = record { sfits = omega linear }

module _ {ls : Lines} (g : InRoom ls) (h : ls.out.now.at ≤ size ls.out.now) where
  count_low : ls.count ≤ 16384
  count_low = let x = g.few h in let z = g.short in omega linear

  pub count_fits : SFits w32 (pos ls.count)
  count_fits = let k = count_low in record { sfits = omega linear }

  pub count_word_fits : SFits w32 (count_word with_depth ls.count)
  count_word_fits = minus_fits ls.count count_low

-- The list of the conditions cs was to be written in l from the front; l' is what is left.
pub data Whole (l : List ℤ) (cs : List Condition) (q : Progress) (l' : List ℤ) : Type 0 where
  -- there was room
  whole : length (list_words with_depth cs) ≤ length l → q.at ≡ length (list_words with_depth cs) → q.count ≡ length cs
      → l' ≡ sets l 0 (list_words with_depth cs) → Whole l cs q l'
  -- there was none: what is left is free but for its length
  cut : length l < length (list_words with_depth cs) → length l < q.at → length l' ≡ length l → Whole l cs q l'

-- where the list stands
abbrev pub progress : Lines → Progress
progress ls = record { at = ls.out.now.at; count = ls.count }

written_whole : {l l₂ : List ℤ} (cs : List Condition) {q : Progress} → Wrote l 0 (list_words with_depth cs) q.at l₂ → q.count ≡ length cs
    → Whole l cs q l₂
written_whole cs (fitted h n s) c = whole (omega linear) (omega linear) c s
written_whole cs (stopped h n s) c = cut (omega linear) n s

-- from the front of a list on
pub whole_counted : {ls₀ ls ls' : Lines} {cs : List Condition} → ls₀.out.now.at ≡ 0 → ls₀.count ≡ 0 → Listed ls₀ cs ls → Counted ls ls'
    → Whole ls₀.out.now.list.now cs (progress ls') ls'.out.now.list.now
unfolding list_words
whole_counted {ls₀} {ls} {ls'} {cs} first none w v = by w.words.wrote
  where
    long : size ls.out.now ≡ size ls₀.out.now
    long = written_length w.words

    by : Wrote ls₀.out.now.list.now ls₀.out.now.at (all_lines with_depth cs) ls.out.now.at ls.out.now.list.now
        → Whole ls₀.out.now.list.now cs (progress ls') ls'.out.now.list.now
    by (fitted h n s) =
        let m = long in
        let c : ls.count ≡ length cs = let k = w.count (omega linear) in omega linear in
        written_whole cs (rw first at ((then w.words (rw c at v.words)).wrote)) (v.count ∙ c)
    by (stopped h n s) =
        let m = length-append (all_lines with_depth cs) (count_word with_depth (length cs) ∷ []) in
        let k = past_end v.words.wrote (omega linear) in
        cut (omega linear) (omega linear) (written_length v.words ∙ s)
