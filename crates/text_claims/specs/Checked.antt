-- The table that a text is read into gets none of 1 to 7 from the check (`checked`): what can still be refused is an
-- assignment to a frozen name, a frozen name or a mark in a guard or an assigned expression, or nesting over 8. Texts that
-- get 8 and 9 (`frozen_target`, `mark_assigned`). Assumes nothing.
use Rattle.std.specs.Prelude.{ℕ, suc, ◌-◌, ◌*◌, ◌≤◌, ◌≡◌, refl, ℤ}
use Rattle.std.proofs.Common.{arith as linear, sym, ◌∙◌, subst, inl, inr, ⊎_elim, length-append}
use mathlib.Core.List.{List, [], ◌∷◌, ◌++◌, append_assoc}
use Rattle.std.proofs.Math.ListN.{length}
use Rattle.script.specs.Computed.{◌⨾◌}
use Rattle.script.specs.Rows.{rows, row, row_of}
use Rattle.script.specs.Refusals.{refused, lowest, row_fault_within, linked, misread, misreads, length_test, row_test_within, script_test, unlinked_test, target_test, reading_test, verdict_within, verdict}
use Rattle.theorems.specs.Links.{linked_iff}
use Rattle.theorems.specs.Faults.{row_faults}
use Rattle.theorems.specs.Occasions.{Unlinked}
use Rattle.theorems.specs.Numbers.{BadLength, FaultyRow, refusal_numbers}
use Rattle.grammar.specs.Sorts.{script}
use Rattle.grammar.specs.Scanning.{bytes, token_at, scan_from, scan}
use Rattle.grammar.specs.Counts.{size, roots}
use Rattle.grammar.specs.Rows.{Quad, by_row, table}
use Rattle.grammar.specs.Meaning.{flat, text_rows, text_table}
use Rattle.grammar.specs.Sizes.{table_length, sized}
use Rattle.grammar.specs.TextTree.{flat_append, flat_length, word_after, row_after}
use Rattle.grammar.specs.Automaton.{reduce}
use Rattle.grammar.specs.Reader.{read}
use Rattle.grammar.specs.Ranges.{depth}
use Rattle.grammar.specs.Outcome.{given, out_of_range, outcome, stuck}
use Rattle.text_claims.specs.Exactly.{read_exactly}
use Rattle.text_claims.specs.Spans.{Grown}
use Rattle.text_claims.specs.RowShapes.{row_sort, HoldsRow, Holds}
use Rattle.text_claims.specs.GrowingForms.{script_grown}

-- ---- the rows of a text stand in its table

row_holds : (ps qs : List Quad) (q : Quad) → HoldsRow (flat ps ++ flat (q ∷ qs)) (length ps) q
unfolding flat
row_holds ps qs q =
    let ws : List ℤ = q.kind ∷ q.first ∷ q.second ∷ q.third ∷ flat qs in
    record { is = row_after ps qs q; one = word_after ps ws 1; two = word_after ps ws 2; three = word_after ps ws 3 }

holds : (ps qs : List Quad) → Holds (flat (ps ++ qs)) (length ps) qs
holds ps [] = tt
holds ps (q ∷ qs) = (
  rw (flat_append ps (q ∷ qs)) (row_holds ps qs q),
  subst (λ (l : List Quad). Holds (flat l) (suc (length ps)) qs) (append_assoc ps (q ∷ []) qs)
      (subst (λ (n : ℕ). Holds (flat ((ps ++ (q ∷ [])) ++ qs)) n qs) (omega (linear, length-append ps (q ∷ []))) (holds (ps ++ (q ∷ [])) qs)),
)

-- ---- what the check says of a table that is one part

module _ (ws : List ℤ) (n : ℕ) (counted : length ws ≡ 4 * n) (filled : 1 ≤ n) (short : n ≤ 2048) (grown : Grown ws 0 n (row_sort script)) where
  right_length : ¬ BadLength (length ws)
  right_length = ⊎_elim (λ z. omega linear) (⊎_elim (λ h. h (omega linear)) (λ h. omega linear))

  no_faulty_row : (k r : ℕ) → ¬ FaultyRow ws k r
  no_faulty_row k r f =
      f.some (sym ((row_faults ws r k).1 f.fault) ∙ grown.faultless r (omega linear) (omega (linear, f.within)))

  all_linked : (r : ℕ) → ¬ Unlinked ws r
  all_linked r (inl h) =
      let last : n - 1 ≡ rows ws - 1 = omega linear in
      h.0 (rw last at grown.sorted)
  all_linked r (inr h) =
      let first = h.1 in
      let whole : n ≡ rows ws = omega linear in
      first.has ((linked_iff ws (rows ws) r).0 (rw whole at (grown.inner r (omega linear) (omega (linear, first.within)))))

  from_8 : (k r : ℕ) → verdict ws ≡ refused k r → (8 ≤ k) × (k ≤ 10)
  from_8 k r e =
      ⊎_elim (λ h. absurd (right_length h.2))
      (λ h. ⊎_elim (λ f. absurd (no_faulty_row k r f))
      (λ h. ⊎_elim (λ u. absurd (all_linked r u.1))
      (λ h. ⊎_elim (λ t. omega (linear, t.0)) (λ h. ⊎_elim (λ t. omega (linear, t.0)) (λ t. omega (linear, t.1.0)) h.1) h.1) h.1) h.1)
      ((refusal_numbers ws k r).0 e)

-- ---- of a text

module _ (room : ℕ) (text : List ℕ) (rows_read : List ℤ) (is_read : outcome room text ≡ given rows_read) where
  pub checked : (k r : ℕ) → verdict rows_read ≡ refused k r → (8 ≤ k) × (k ≤ 10)
  unfolding text_table text_rows
  checked k r e =
      let told = ((read_exactly room text).read rows_read).0 is_read in
      let x = told.of in
      let spells = told.reading.spells in
      let qs = text_rows x in
      let ws = text_table x in
      let counted : length ws ≡ 4 * size x = omega (linear, flat_length qs, table_length by_row x [] 0) in
      let filled : 1 ≤ size x = sized x (rw spells.whole) in
      let grown = script_grown ws (omega linear) x spells.good spells.whole told.in_range (omega linear) (holds [] qs) in
      from_8 ws (size x) counted filled told.fits.1 grown k r (rw told.table_of at e)

-- ---- two that are read and refused

frozen_rows : List ℤ
frozen_rows = (16, 0, 0, 0) ⨾ (1, 1, 0, 0) ⨾ (33, 128, 1, 0) ⨾ (16, 0, 0, 0) ⨾ (48, 0, 2, 3) ⨾ []

frozen_target : (outcome 20 (bytes "pre true; v128 := 1; post true") ≡ given frozen_rows) × (verdict frozen_rows ≡ refused 8 2)
unfolding frozen_rows ◌⨾◌ outcome scan scan_from token_at stuck out_of_range read reduce depth text_table text_rows table size roots flat verdict_within length_test row_test_within script_test unlinked_test target_test lowest row_fault_within linked row row_of
frozen_target = (refl, refl)

mark_rows : List ℤ
mark_rows =
    (16, 0, 0, 0) ⨾ (16, 0, 0, 0) ⨾ (16, 0, 0, 0) ⨾ (1, 0, 0, 0) ⨾ (37, 2, 3, 0) ⨾ (9, 7, 0, 0) ⨾ (33, 0, 5, 0) ⨾ (36, 1, 4, 6)
    ⨾ (16, 0, 0, 0) ⨾ (48, 0, 7, 8) ⨾ []

mark_assigned : (outcome 40 (bytes "pre true; while true keep true fall 0 do v0 := mark(1) end; post true") ≡ given mark_rows)
    × (verdict mark_rows ≡ refused 9 5)
unfolding mark_rows ◌⨾◌ outcome scan scan_from token_at stuck out_of_range read reduce depth text_table text_rows table size roots flat verdict_within length_test row_test_within script_test unlinked_test target_test reading_test lowest row_fault_within linked misread misreads row row_of
mark_assigned = (refl, refl)
