-- What is written for a list and an index, by the line that the list reader finds there: its refusal (`refused-written`), or the
-- text of the condition that stands there, where it fits (`found-written`). Assumes nothing.
use Rattle.std.specs.Prelude.{ℕ, ◌≤◌, ◌<◌, ◌≡◌, ◌≢◌, ℤ, pos, negsuc, length, replicate, Result, Ok, Err}
use Rattle.std.proofs.Math.Path.{refl, sym}
use Rattle.std.proofs.Common.{ap, ◌∙◌, arith as linear, lt-ltb, le-ltb}
use Rattle.std.proofs.Math.Option.{Option, none, some}
use mathlib.Core.List.{List}
use Rattle.std.proofs.Math.ListN.{get_elem?}
use Rattle.script.specs.declared.Line.{Line}
use Rattle.script.specs.Syntax.{Formula}
use Rattle.script.specs.Listing.{Found, form_of, lines, read_list, no_line, line_of, line_at, line_at_within, part_at}
use Rattle.theorems.specs.ReadBack.{conditions_of, written_read}
use Rattle.theorems.specs.Lookup.{part_at_index, condition_of, range_at}
use Rattle.theorems.specs.Writing.{Wrote, wrote_short}
use Rattle.theorems.specs.Clearing.{wrote_cleared}
use Rattle.smt.specs.Translate.{script}
use Rattle.smt.specs.Text.{script_text}
use Rattle.smt.specs.Written.{Written, refuse, fit, fit_found, written, written_within}
use Rattle.smt_writer.specs.Nodes.{Spells, Spelled}
use Rattle.smt_writer.specs.declared.Refusal.{Refusal}
use Rattle.smt_writer.specs.declared.Refusal.TheVariants.{NoRoom}
use Rattle.smt_writer.specs.Refused.{number_told, used_told}

-- ---- the condition at an index

pub data Located (ws : List ℤ) (i : ℤ) : Type 0 where
  refused : (n : ℕ) → n ≢ 0 → line_at ws i ≡ no_line n → ((room : ℕ) → written ws i room ≡ refuse n room) → Located ws i
  found : (f : Formula) → (line_at ws i).number ≡ 0 → Spells (part_at ws i) f
      → ((room : ℕ) → written ws i room ≡ fit (script_text (script f)) room) → Located ws i

module _ (ws : List ℤ) where
  spelled : (fs : List Found) → lines ws ≡ some fs → (k : ℕ) (f : Found) → get_elem? fs k ≡ some f → Spells (part_at ws (pos k)) f.condition.claim
  unfolding read_list
  spelled fs p k f q =
      let cs = conditions_of fs in
      let w = written_read ws cs (rw (p, read_list)) in
      record {
        words = sym (part_at_index ws cs w k f.condition (condition_of fs k q));
        range = range_at (form_of ws) cs k w.ranges (condition_of fs k q);
      }

  pub located : (i : ℤ) → Located ws i
  unfolding line_at_within written_within
  located i = by_lines (lines ws) refl i
    where
      by_found : (fs : List Found) → lines ws ≡ some fs → (k : ℕ) (o : Option Found) → get_elem? fs k ≡ o → Located ws (pos k)
      by_found fs p k none q =
          refused 21 (λ e. omega linear) (rw (p, line_at_within) (rw (q, line_of))) (λ room. rw (p, written_within) (ap (λ o. fit_found o room) q))
      by_found fs p k (some f) q =
          found f.condition.claim (rw (p, line_at_within) (rw (q, line_of))) (spelled fs p k f q) (λ room. rw (p, written_within) (ap (λ o. fit_found o room) q))

      by_lines : (o : Option (List Found)) → lines ws ≡ o → (i : ℤ) → Located ws i
      by_lines none p i = refused 20 (λ e. omega linear) (rw (p, line_at_within)) (λ room. rw (p, written_within))
      by_lines (some fs) p (pos k) = by_found fs p k (get_elem? fs k) refl
      by_lines (some fs) p (negsuc k) = refused 21 (λ e. omega linear) (rw (p, line_at_within)) (λ room. rw (p, written_within))

-- ---- what is answered, and left in the text

-- the answer and what is left are those of w
pub record Answered (w : Written) (r : Result ℕ Refusal) (l : List ℕ) : Type 0 where
  pub number : number_told r ≡ w.number
  pub used : used_told r ≡ w.used
  pub text : l ≡ w.buffer

abbrev cleared : ℕ → List ℕ
cleared n = replicate n 0

-- a text, written into a run that is cleared
module _ {l ts l' : List ℕ} {p : ℕ} (zeros : l ≡ cleared (length l)) (w : Wrote l 0 ts p l') where
  pub fitting : p ≤ length l → Answered (fit ts (length l)) (Ok p) l'
  fitting h =
      let whole = wrote_cleared 0 zeros w h in
      rw (le-ltb (length l) (length ts) whole.0) (record { number = refl; used = whole.1; text = whole.2 })

  pub too_long : length l < p → Answered (fit ts (length l)) (Err NoRoom) (cleared (length l))
  too_long h = rw (lt-ltb (length l) (length ts) (wrote_short w h)) (record { number = refl; used = refl; text = refl })

module _ (ws : List ℤ) (i : ℤ) (room : ℕ) {r : Result ℕ Refusal} {l : List ℕ} where
  pub refused_answered : (line_at ws i).number ≢ 0 → number_told r ≡ (line_at ws i).number → used_told r ≡ 0 → l ≡ cleared room
      → Answered (written ws i room) r l
  refused_answered h e u z = of_line (located ws i)
    where
      of_line : Located ws i → Answered (written ws i room) r l
      of_line (refused n k t w) = rw (w room) (record { number = e ∙ ap (λ (m : Line). m.number) t; used = u; text = z })
      of_line (found f k s w) = absurd (h k)

  pub found_answered : (line_at ws i).number ≡ 0 → ((f : Formula) → Spells (part_at ws i) f → Answered (fit (script_text (script f)) room) r l)
      → Answered (written ws i room) r l
  found_answered h g = of_line (located ws i)
    where
      of_line : Located ws i → Answered (written ws i room) r l
      of_line (refused n k t w) = absurd (k (sym (ap (λ (m : Line). m.number) t) ∙ h))
      of_line (found f k s w) = rw (w room) (g f s)

-- some formula stands there
pub found_spelled : (ws : List ℤ) (i : ℤ) → (line_at ws i).number ≡ 0 → Spelled (part_at ws i)
found_spelled ws i h = of_line (located ws i)
  where
    of_line : Located ws i → Spelled (part_at ws i)
    of_line (refused n k t w) = absurd (k (sym (ap (λ (m : Line). m.number) t) ∙ h))
    of_line (found f k s w) = record { claim = f; spells = s }
