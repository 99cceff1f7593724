-- 02, P2, of scripts: where the limit of the variables' numbers rises from a to b, a condition in the range of a has the script
-- that it had (`same_script`), and a list whose conditions are has the answers that it had, 20, 21 and 30 among them, with every
-- byte (`same_written`). Argument: what is declared are the numbers below the limit that occur, and none occurs from a on; the
-- lines are the same (`StoredLists`). Assumes nothing.
use Prim.Native.Nat.{ℕ, zero, suc, ◌+◌, ◌-◌, ◌≤◌}
use native.Mathlib.Omega.{arith as linear}
use Rattle.std.proofs.Common.{add-zero, sym, ◌∙◌, subst}
use Rattle.std.proofs.Math.Nat.{add-suc}
use Rattle.std.specs.Prelude.{◌≡◌, Bool, ℤ, pos, negsuc}
use Rattle.std.proofs.Math.Path.{refl, ap}
use Rattle.std.proofs.Math.Option.{Option, none, some}
use Rattle.std.proofs.Math.Bool.{true, false, cond}
use mathlib.Core.List.{List, [], ◌∷◌, ◌++◌, map, append-nil}
use Rattle.text.specs.Ascii.{bytes}
use Rattle.script.specs.Rows.{variables}
use Rattle.script.specs.Syntax.{Formula}
use Rattle.script.specs.WellFormed.{InRangeᶠWithin}
use Rattle.script.specs.Listing.{row_limit, Found, lines_within}
use Rattle.theorems.specs.Options.{none_is_not, some_inj}
use Rattle.theorems.specs.StoredTables.{variables_before}
use Rattle.theorems.specs.StoredLists.{Each, AllOld, same_answers}
use Rattle.smt.specs.Smt.{set_logic, assert, check_sat}
use Rattle.smt.specs.Translate.{variable, mark, references, refers, occurring, declarations, assertion, script_within, script}
use Rattle.smt.specs.Text.{script_text}
use Rattle.smt.specs.Occurring.{refers_in}
use Rattle.smt.specs.Declared.{ranged_within}
use Rattle.smt.specs.Written.{fit, found_at, fit_found_within, fit_lines_within, written_within, written}

-- ---- the script

module _ (a b : ℕ) (rises : a ≤ b) (f : Formula) (old : InRangeᶠWithin a f) where
  same_numbers : (k : ℕ) → occurring variable (a + k) (references f) ≡ occurring variable a (references f)
  unfolding occurring
  same_numbers zero = rw (add-zero a)
  same_numbers (suc k) = rw add-suc (go (refers (variable (a + k)) (references f)) refl (same_numbers k))
    where
      go : (t : Bool) → refers (variable (a + k)) (references f) ≡ t
          → occurring variable (a + k) (references f) ≡ occurring variable a (references f)
          → occurring variable (a + k) (references f) ++ cond t ((a + k) ∷ []) [] ≡ occurring variable a (references f)
      go true e same =
          let low = ranged_within a f old (variable (a + k)) (refers_in (variable (a + k)) (references f) e) in
          absurd (omega linear)
      go false e same = append-nil _ ∙ same

  pub same_script : script_within a f ≡ script_within b f
  unfolding script_within
  same_script =
      let end : a + (b - a) ≡ b = omega linear in
      let same : occurring variable b (references f) ≡ occurring variable a (references f) = rw end at (same_numbers (b - a)) in
      ap (λ (ns : List ℕ). set_logic (bytes "QF_NIA")
      ∷ (declarations (map variable ns ++ map mark (occurring mark row_limit (references f))) ++ (assert (assertion f) ∷ check_sat ∷ [])))
      (sym same)

-- ---- the answer of the writer

each_at : (P : Formula → Type 0) (fs : List Found) (i : ℤ) (f : Found) → Each P fs → found_at fs i ≡ some f → P f.condition.claim
each_at P fs (negsuc k) f h e = none_is_not e
each_at P [] (pos k) f h e = none_is_not e
each_at P (g ∷ fs) (pos zero) f h e = subst (λ (x : Found). P x.condition.claim) (some_inj e) h.0
each_at P (g ∷ fs) (pos (suc k)) f h e = each_at P fs (pos k) f h.1 e

module _ (a b : ℕ) (rises : a ≤ b) (small : b ≤ 4294967295) (ws : List ℤ) (old : AllOld a b ws) (i : ℤ) (room : ℕ) where
  of_found : (fs : List Found) → Each (InRangeᶠWithin a) fs → (o : Option Found) → found_at fs i ≡ o
      → fit_found_within a o room ≡ fit_found_within b o room
  of_found fs h none q = refl
  of_found fs h (some f) q = ap (λ s. fit (script_text s) room) (same_script a b rises f.condition.claim (each_at _ fs i f h q))

  of_lines : (o : Option (List Found)) → lines_within b ws ≡ o → fit_lines_within a o i room ≡ fit_lines_within b o i room
  of_lines none e = refl
  of_lines (some fs) e = of_found fs (old fs e) (found_at fs i) refl

  pub same_written : written_within a ws i room ≡ written_within b ws i room
  unfolding written_within
  same_written =
      ap (λ (o : Option (List Found)). fit_lines_within a o i room) (same_answers a b rises small ws old).lines ∙ of_lines (lines_within b ws) refl

-- ---- from 01's 256 variables to as many as there are now; of P5, both take kind 5

pub stored_script : (f : Formula) → InRangeᶠWithin variables_before f → script_within variables_before f ≡ script f
stored_script f old = same_script variables_before variables (omega linear) f old

pub stored_written : (ws : List ℤ) → AllOld variables_before variables ws → (i : ℤ) (room : ℕ)
    → written_within variables_before ws i room ≡ written ws i room
stored_written ws old i room = same_written variables_before variables (omega linear) (omega linear) ws old i room
