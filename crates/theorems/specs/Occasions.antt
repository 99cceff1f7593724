-- The occasions of the refusals 7 and 8 as 01 words them, of the tests that `Refusals` defines; 9 is in `Misplaced`.
-- Each is the lowest row with a property, so `lowest_with` of `Lowest` reduces it to what the test says of one row.
-- Assumes nothing.
use Rattle.std.specs.Prelude.{ℕ, ◌-◌, ◌≤◌, ◌≡◌, refl, ◌↔◌, ◌≢◌, ◌⊎◌, List, Bool, true, false, cond, ℤ, leb}
use Rattle.std.proofs.Common.{arith, sym, ap, ◌∙◌, inl, inr, leb-true, le-leb}
use Rattle.std.proofs.lemmas.Bool.{false≢true}
use Rattle.std.proofs.Math.Bool.{and-eq-true_iff, or-false}
use Rattle.script.specs.declared.RowNumber.{RowNumber}
use Rattle.script.specs.declared.VariableNumber.{VariableNumber}
use Rattle.script.specs.declared.ExpressionRow.TheVariants.{Constant, Variable, Arithmetic, Negate, Mark, Choose}
use Rattle.script.specs.declared.FormulaRow.TheVariants.{True, False, Comparison, Not, Junction}
use Rattle.script.specs.declared.StatementRow.TheVariants.{Skip, Assign, Sequence, If, While, Assert}
use Rattle.script.specs.declared.Row.{Row}
use Rattle.script.specs.declared.Sort.TheVariants.{Script}
use Rattle.script.specs.Rows.{fields, sort_of, rows, row}
use Rattle.script.specs.Refusals.{accepted, refused, ◌and_then◌, same_sort, member, frozen, linked, assigns_frozen, unlinked_fault, target_fault, script_test, unlinked_test, target_test}
use Rattle.theorems.specs.Tests.{false_iff, sort_iff}
use Rattle.theorems.specs.Lowest.{Says, Lowest, lowest_with, where_true, where_false}
use Rattle.theorems.specs.Links.{LinkedBelow, linked_iff}

-- ---- 7

module _ (ws : List ℤ) where
  abbrev last : ℕ
  last = rows ws - 1

  -- "last row is no script (that row); else the lowest row but the last that nothing links to"
  abbrev pub Unlinked : ℕ → Type 0
  Unlinked r = ((sort_of (row ws last) ≢ Script) × (r ≡ last)) ⊎
      ((sort_of (row ws last) ≡ Script) × Lowest (λ q. ¬ LinkedBelow ws (rows ws) q) last r)

  unlinked : Says (unlinked_test ws) (λ k r. (k ≡ 7) × Lowest (λ q. ¬ LinkedBelow ws (rows ws) q) last r)
  unfolding unlinked_test
  unlinked = lowest_with (λ q. ¬ LinkedBelow ws (rows ws) q) (unlinked_fault ws) 7 last (omega arith)
      (λ j h. where_false (member j (linked ws (rows ws))) 7 (omega arith) (false_iff (member j (linked ws (rows ws))) (linked_iff ws (rows ws) j)))

  pub unlinked_row : Says (script_test ws and_then unlinked_test ws) (λ k r. (k ≡ 7) × Unlinked r)
  unfolding script_test
  unlinked_row k r = go (same_sort (sort_of (row ws last)) Script) (sort_iff (sort_of (row ws last)) Script)
    where
      of_script : sort_of (row ws last) ≡ Script → Unlinked r → Lowest (λ q. ¬ LinkedBelow ws (rows ws) q) last r
      of_script h (inl l) = absurd (l.0 h)
      of_script h (inr l) = l.1

      of_other : sort_of (row ws last) ≢ Script → Unlinked r → r ≡ last
      of_other h (inl l) = l.1
      of_other h (inr l) = absurd (h l.0)

      go : (b : Bool) → (b ≡ true) ↔ (sort_of (row ws last) ≡ Script)
          → (cond b accepted (refused 7 last) and_then unlinked_test ws ≡ refused k r) ↔ ((k ≡ 7) × Unlinked r)
      go true s =
          (λ e. let h = (unlinked k r).0 e in (h.0, inr (s.0 refl, h.1)), λ h. (unlinked k r).1 (h.0, of_script (s.0 refl) h.1))
      go false s =
          let other : sort_of (row ws last) ≢ Script = λ h. false≢true (s.1 h) in
          (λ e. (cc, inl (other, cc)), λ h. cc (h.0, of_other other h.1))

-- ---- 8

-- "an assignment to a frozen name"
abbrev pub AssignsFrozen : Row → Type 0
AssignsFrozen w = (v : VariableNumber) × (e : RowNumber) × (w ≡ Row.Statement (Assign v e)) × (128 ≤ v.0) × (v.0 ≤ 255)

pub frozen_iff : (v : ℕ) → (frozen v ≡ true) ↔ ((128 ≤ v) × (v ≤ 255))
frozen_iff v =
    (λ e. let h = both.0 e in (leb-true 128 v h.0, leb-true v 255 h.1), λ h. both.1 (le-leb 128 v h.0, le-leb v 255 h.1))
  where
    both : (frozen v ≡ true) ↔ ((leb 128 v ≡ true) × (leb v 255 ≡ true))
    both = and-eq-true_iff (leb 128 v) (leb v 255)

target_iff : (ws : List ℤ) (w : Row) → (assigns_frozen ws (fields w) ≡ true) ↔ AssignsFrozen w
target_iff ws w = (out w, back)
  where
    back : AssignsFrozen w → assigns_frozen ws (fields w) ≡ true
    back t = ap (λ (x : Row). assigns_frozen ws (fields x)) t.2 ∙ or-false (frozen t.0.0) ∙ (frozen_iff t.0.0).1 (t.3, t.4)

    out : (w : Row) → assigns_frozen ws (fields w) ≡ true → AssignsFrozen w
    out (Row.Expression (Constant z)) e = absurd (false≢true e)
    out (Row.Expression (Variable v)) e = absurd (false≢true e)
    out (Row.Expression (Arithmetic o a b)) e = absurd (false≢true e)
    out (Row.Expression (Negate a)) e = absurd (false≢true e)
    out (Row.Expression (Mark m)) e = absurd (false≢true e)
    out (Row.Expression (Choose f a b)) e = absurd (false≢true e)
    out (Row.Formula True) e = absurd (false≢true e)
    out (Row.Formula False) e = absurd (false≢true e)
    out (Row.Formula (Comparison o a b)) e = absurd (false≢true e)
    out (Row.Formula (Not f)) e = absurd (false≢true e)
    out (Row.Formula (Junction o f g)) e = absurd (false≢true e)
    out (Row.Statement Skip) e = absurd (false≢true e)
    out (Row.Statement (Assign v x)) e =
        let h = (frozen_iff v.0).0 (sym (or-false (frozen v.0)) ∙ e) in
        (v, x, refl, h.0, h.1)
    out (Row.Statement (Sequence a b)) e = absurd (false≢true e)
    out (Row.Statement (If b x y)) e = absurd (false≢true e)
    out (Row.Statement (While b i x)) e = absurd (false≢true e)
    out (Row.Statement (Assert f)) e = absurd (false≢true e)
    out (Row.Note i v) e = absurd (false≢true e)
    out (Row.Script p s q) e = absurd (false≢true e)
    out Row.Unknown e = absurd (false≢true e)

pub frozen_target : (ws : List ℤ) → Says (target_test ws) (λ k r. (k ≡ 8) × Lowest (λ q. AssignsFrozen (row ws q)) (rows ws) r)
unfolding target_test
frozen_target ws = lowest_with (λ q. AssignsFrozen (row ws q)) (target_fault ws) 8 (rows ws) (omega arith)
    (λ j h. where_true (assigns_frozen ws (fields (row ws j))) 8 (omega arith) (target_iff ws (row ws j)))
