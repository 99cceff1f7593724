-- What a function that lists conditions leaves: their lines, one after another, and how many there are. One run of conditions
-- after another lists both. A count never exceeds its place, since a line has at least one word. Assumes nothing.
use Rattle.std.specs.Prelude.{ℕ, ◌+◌, ◌≤◌, ◌<◌, ◌≡◌, ℤ, length}
use Rattle.std.proofs.Math.Path.{refl, sym, ap}
use Rattle.std.proofs.Common.{◌∙◌, add-zero}
use mathlib.Core.List.{List, [], ◌∷◌, ◌++◌, append_assoc}
use native.Mathlib.Omega.{arith as linear}
use Rattle.std.proofs.Math.ListN.{length-append}
use Rattle.script.specs.Conditions.{Condition}
use Rattle.script.specs.Words.{Form, with_depth, formula_words, trailer, line_words, all_lines}
use Rattle.theorems.specs.Writing.{Wrote, fitted, stopped}
use Rattle.output.specs.declared.Output.{Output}
use Rattle.output.specs.Written.{Written, nothing_written, no_room, then, written_length}
use Rattle.line_writer.specs.declared.Lines.{Lines}

-- how many words the list has in all
abbrev pub size : Output ℤ → ℕ
size o = length o.list.now

-- the same conditions before a formula that is written into o
abbrev pub on : Lines → Output ℤ → Lines
on ls o = record { out = record ls.out { now = o }; count = ls.count }

-- The conditions cs were to be listed behind ls; ls' is what is left.
pub record Listed (ls : Lines) (cs : List Condition) (ls' : Lines) : Type 0 where
  pub words : Written ls.out.now (all_lines with_depth cs) ls'.out.now
  pub same : ls'.out.ghost_name ≡ ls.out.ghost_name
  -- where there was room, the count rose by their number
  pub count : ls'.out.now.at ≤ size ls.out.now → ls'.count ≡ ls.count + length cs

-- lines in a list of at most 16,384 words
pub record InRoom (ls : Lines) : Type 0 where
  pub short : size ls.out.now ≤ 16384
  pub few : ls.out.now.at ≤ size ls.out.now → ls.count ≤ ls.out.now.at

-- ---- lines of conditions

module _ (form : Form) where
  all_lines_append : (xs ys : List Condition) → all_lines form (xs ++ ys) ≡ all_lines form xs ++ all_lines form ys
  unfolding all_lines
  all_lines_append [] ys = refl
  all_lines_append (x ∷ xs) ys =
      ap (λ (z : List ℤ). line_words form x ++ z) (all_lines_append xs ys)
      ∙ sym (append_assoc (line_words form x) (all_lines form xs) (all_lines form ys))

  line_long : (c : Condition) → 1 ≤ length (line_words form c)
  unfolding line_words
  line_long c = let e = length-append (formula_words c.claim) (trailer form c) in omega linear

  lines_long : (cs : List Condition) → length cs ≤ length (all_lines form cs)
  unfolding all_lines
  lines_long [] = omega linear
  lines_long (c ∷ cs) =
      let a = line_long c in
      let b = lines_long cs in
      let e = length-append (line_words form c) (all_lines form cs) in
      omega linear

-- ---- where there was room

pub went : {l ws l' : List ℤ} {p q : ℕ} → Wrote l p ws q l' → q ≤ length l → q ≡ p + length ws
went (fitted h n s) k = n
went (stopped h n s) k = absurd (omega linear)

-- ---- one run of conditions after another

pub listed_then : {ls ls' ls'' : Lines} {xs ys : List Condition} → Listed ls xs ls' → Listed ls' ys ls'' → Listed ls (xs ++ ys) ls''
listed_then {xs = xs} {ys = ys} a b =
    let m = written_length a.words in
    record {
      words = rw (all_lines_append with_depth xs ys) (then a.words b.words);
      same = b.same ∙ a.same;
      count = λ h.
          let w = went b.words.wrote (omega linear) in
          let x = a.count (omega linear) in
          let y = b.count (omega linear) in
          let n = length-append xs ys in
          omega linear;
    }

pub listed_as : {ls ls' : Lines} {xs ys : List Condition} → ys ≡ xs → Listed ls xs ls' → Listed ls ys ls'
listed_as e w = rw e w

-- ---- no condition, and no room

pub listed_none : (ls : Lines) → Listed ls [] ls
unfolding all_lines
listed_none ls = record { words = nothing_written ls.out.now; same = refl; count = λ h. sym (add-zero ls.count) }

pub listed_full : {ls : Lines} {cs : List Condition} → size ls.out.now < ls.out.now.at → Listed ls cs ls
listed_full {cs = cs} h = record { words = no_room (all_lines with_depth cs) h; same = refl; count = λ k. absurd (omega linear) }

-- ---- the list stays in room

pub listed_length : {ls ls' : Lines} {cs : List Condition} → Listed ls cs ls' → size ls'.out.now ≡ size ls.out.now
listed_length w = written_length w.words

pub in_room_on : {ls ls' : Lines} {cs : List Condition} → InRoom ls → Listed ls cs ls' → InRoom ls'
in_room_on {cs = cs} g w =
    let a = listed_length w in
    let b = g.short in
    record {
      short = omega linear;
      few = λ h.
          let x = went w.words.wrote (omega linear) in
          let y = w.count (omega linear) in
          let z = lines_long with_depth cs in
          let u = g.few (omega linear) in
          omega linear;
    }
