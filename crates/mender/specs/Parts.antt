-- The loop over the rows that looks for 2 to 5 (`PartsAt`); what a table has that passes 1 to 5 (`checked_of`).
-- Assumes nothing.
use Rattle.std.specs.Prelude.{ℕ, ◌+◌, ◌≤◌, ◌<◌, ◌≡◌, cond, List, eqb, ℤ, length, Option, Some, None}
use Rattle.std.proofs.Common.{sym, ◌∙◌, inl, inr, add-one, ne_eqb}
use Rattle.std.proofs.Math.Path.{ap}
use Rattle.std.proofs.Math.Decide.{ℕ_discrete}
use Rattle.script.specs.Rows.{fields, row, rows}
use Rattle.script.specs.Refusals.{accepted, refused, linked, in_range, unused_zero}
use Rattle.theorems.specs.Accepted.{both}
use Rattle.rows.specs.declared.Fault.{Fault}
use Rattle.rows.specs.Numbers.{not_none, number, number_of}
use Rattle.rows.specs.Faults.{Passed}
use Rattle.rows.specs.States.{Sized, States, Tested, states_none}
use Rattle.table.specs.Lowest.{Reached, reached_none, reached_more, reached_fault, reached_all}
use Rattle.mending.specs.Mended.{part_fault, part_test}
use Rattle.mending.specs.Mendable.{sound_parts, falls_of}
use Rattle.mender.specs.Checked.{Checked}

pub record PartsAt (t : List ℤ) (i : ℕ) (s : List ℕ) : Type 0 where
  pub reached : Reached (part_fault t) (rows t) i
  pub shown : States t i (linked t i) s

pub parts_none : {t : List ℤ} {s : List ℕ} → length s ≡ 2048 → PartsAt t 0 s
unfolding linked
parts_none h = record { reached = reached_none; shown = states_none h }

-- what passes here: no fault, or 6
passed_of : (f : ℕ) → cond (eqb f 6) 0 f ≡ 0 → Passed f
passed_of f e = go (ℕ_discrete f 6)
  where
    go : Dec (f ≡ 6) → Passed f
    go (yes d) = inr d
    go (no d) = inl (rw (ne_eqb f 6 d) at e)

module _ {t : List ℤ} {i f : ℕ} (g : Option Fault) {s s' : List ℕ} (a : PartsAt t i s) (h : i < rows t) (d : Tested t i f s') (e : number_of g ≡ cond (eqb f 6) 0 f) where
  fault_is : part_fault t i ≡ number_of g
  unfolding part_fault
  fault_is = rw (← d.is) (sym e)

  pub parts_more : g ≡ None → PartsAt t (i + 1) s'
  parts_more z =
      let n = ap number_of z in
      record {
        reached = reached_more a.reached h (fault_is ∙ n);
        shown = rw (add-one i) (d.shown (passed_of f (sym e ∙ n)));
      }

  pub parts_refused : {k : Fault} → g ≡ Some k → refused (number k) i ≡ part_test t
  unfolding part_test
  parts_refused {k} z =
      let is : part_fault t i ≡ number k = fault_is ∙ ap number_of z in
      rw is at (reached_fault a.reached h (λ y. not_none k (sym is ∙ y)))

pub parts_accepted : {t : List ℤ} {i : ℕ} {s : List ℕ} → PartsAt t i s → rows t ≤ i → accepted ≡ part_test t
unfolding part_test
parts_accepted a h = reached_all a.reached h

-- ---- a table that passes

pub checked_of : {t : List ℤ} → Sized t → part_test t ≡ accepted → Checked t
checked_of {t} z p = record {
  size = z;
  known = λ r h. (sound_parts t p r h).known;
  ranged = λ r h.
      (both (in_range t (fields (row t r))) (unused_zero t r (length (fields (row t r)))) (sound_parts t p r h).ranges).0;
  falls = falls_of t p;
}
