-- 13 and 14 by themselves, each exactly on its occasion (`thirteen`, `fourteen`), where 1 to 5 and 7 are not given
-- (`WellShaped`); and no number (`mended_iff`). From `Numbers.mend_numbers`, by cases on the tests. Assumes nothing.
use Rattle.std.specs.Prelude.{ℕ, ◌-◌, ◌<◌, ◌≡◌, ◌↔◌, List, ℤ, length}
use Rattle.std.proofs.Common.{arith as linear, sym, ◌∙◌, inl, inr}
use Rattle.std.proofs.Math.Path.{refl}
use Rattle.script.specs.declared.Sort.TheVariants.{Script}
use Rattle.script.specs.Rows.{rows, row, sort_of}
use Rattle.script.specs.Refusals.{accepted, refused, same_sort, row_fault, length_test, row_test, row_test_within, script_test}
use Rattle.theorems.specs.Truths.{is_true}
use Rattle.theorems.specs.Lowest.{Lowest, lowest_accepts}
use Rattle.theorems.specs.Tests.{sort_iff}
use Rattle.theorems.specs.Faults.{WellMade}
use Rattle.theorems.specs.Numbers.{accepts_iff, fault_numbers, BadLength, length_says}
use Rattle.theorems.specs.Accepted.{pass_true}
use Rattle.mending.specs.Mended.{part_fault, part_test, mark_test, mend_verdict}
use Rattle.mending.specs.PartFaults.{part_some, part_none, part_free}
use Rattle.mending.specs.Escape.{Escaping, mark_exact}
use Rattle.mending.specs.Capped.{TooLong}
use Rattle.mending.specs.Mendable.{falls_of, filled_of, none_escapes, tests}
use Rattle.mending.specs.Numbers.{script_says, MendOccasion, mend_numbers}

-- 1 to 5 and 7 are not given
pub record WellShaped (t : List ℤ) : Type 0 where
  pub long : ¬ BadLength (length t)
  pub parts : (r : ℕ) → r < rows t → WellMade t r
  pub script : sort_of (row t (rows t - 1)) ≡ Script

module _ (t : List ℤ) where
  abbrev pub Shaped : Type 0
  Shaped = (length_test t ≡ accepted) × (part_test t ≡ accepted) × (script_test t ≡ accepted)

  pub shaped_iff : Shaped ↔ WellShaped t
  unfolding part_test script_test
  shaped_iff = (
    λ h. record {
      long = λ b. (accepts_iff (length_test t) (length_says t)).0 h.0 1 0 (refl, refl, b);
      parts =
          λ r l. (part_none t r).0 ((lowest_accepts (part_fault t) (rows t) 0).0 h.1 r (omega linear) (omega linear));
      script =
          (sort_iff (sort_of (row t (rows t - 1))) Script).0
          (is_true _ (pass_true (same_sort (sort_of (row t (rows t - 1))) Script) 7 _ h.2));
    },
    λ w. (
      (accepts_iff (length_test t) (length_says t)).1 (λ k r o. w.long o.2),
      (lowest_accepts (part_fault t) (rows t) 0).1 (λ r a b. (part_none t r).1 (w.parts r (omega linear))),
      (accepts_iff (script_test t) (script_says t)).1 (λ k r o. o.2 w.script),
    ),
  )

  unmarked_iff : WellShaped t → (mark_test t ≡ accepted) ↔ ((q : ℕ) → q < rows t → ¬ Escaping t q)
  unmarked_iff w =
      let s = shaped_iff.1 w in
      let falls = falls_of t s.1 in
      let filled = filled_of t s.0 in (
        none_escapes t falls filled,
        λ f. (accepts_iff (mark_test t) (mark_exact t falls filled)).1
            (λ k r o. f r o.1.within o.1.has),
      )

  -- a table that passes 2 to 6 passes 2 to 5
  pub parts_pass : row_test t ≡ accepted → part_test t ≡ accepted
  unfolding row_test_within part_test
  parts_pass h =
      (lowest_accepts (part_fault t) (rows t) 0).1
      (λ r a b. part_free t r ((lowest_accepts (row_fault t) (rows t) 0).0 h r a b))

  module _ (table_room origins_room : ℕ) where
    -- 13 with row r: "with the lowest such old row, when some use of a mark that the script reaches is not inside the
    -- body of its loop"
    pub thirteen : (r : ℕ)
        → (mend_verdict t table_room origins_room ≡ refused 13 r) ↔ (WellShaped t × Lowest (Escaping t) (rows t) r)
    thirteen r = (
      λ e. out ((mend_numbers t table_room origins_room 13 r).0 e),
      λ h. let s =
          shaped_iff.1 h.0 in (mend_numbers t table_room origins_room 13 r).1
          (inr (s.0, inr (s.1, inr (s.2, inl (refl, h.1))))),
    )
      where
        out : MendOccasion t table_room origins_room 13 r → WellShaped t × Lowest (Escaping t) (rows t) r
        out (inl h) = absurd (omega (linear, h.0))
        out (inr (a, inl F)) = absurd (let n = fault_numbers t r 13 F.fault F.some in omega linear)
        out (inr (a, inr (b, inl h))) = absurd (omega (linear, h.0))
        out (inr (a, inr (b, inr (c, inl h)))) = (shaped_iff.0 (a, b, c), h.1)
        out (inr (a, inr (b, inr (c, inr (d, h))))) = absurd (omega (linear, h.0))

    -- "and last 14 when the result passes 2,048 rows or either buffer", with row 0
    pub fourteen : (r : ℕ) → (mend_verdict t table_room origins_room ≡ refused 14 r) ↔
        (WellShaped t × ((q : ℕ) → q < rows t → ¬ Escaping t q) × TooLong t table_room origins_room × (r ≡ 0))
    fourteen r = (
      λ e. out ((mend_numbers t table_room origins_room 14 r).0 e),
      λ h.
          let s = shaped_iff.1 h.0 in
          let m = (unmarked_iff h.0).1 h.1 in
          (mend_numbers t table_room origins_room 14 r).1
          (inr (s.0, inr (s.1, inr (s.2, inr (m, (refl, h.3, h.2)))))),
    )
      where
        out : MendOccasion t table_room origins_room 14 r
            → WellShaped t × ((q : ℕ) → q < rows t → ¬ Escaping t q) × TooLong t table_room origins_room × (r ≡ 0)
        out (inl h) = absurd (omega (linear, h.0))
        out (inr (a, inl F)) = absurd (let n = fault_numbers t r 14 F.fault F.some in omega linear)
        out (inr (a, inr (b, inl h))) = absurd (omega (linear, h.0))
        out (inr (a, inr (b, inr (c, inl h)))) = absurd (omega (linear, h.0))
        out (inr (a, inr (b, inr (c, inr (d, h))))) =
            let w = shaped_iff.0 (a, b, c) in
            (w, (unmarked_iff w).0 d, h.2, h.1)

    -- no number: none of these occasions
    pub mended_iff : (mend_verdict t table_room origins_room ≡ accepted) ↔
        (WellShaped t × ((q : ℕ) → q < rows t → ¬ Escaping t q) × ¬ TooLong t table_room origins_room)
    mended_iff = (
      out,
      λ h. (accepts_iff (mend_verdict t table_room origins_room) (mend_numbers t table_room origins_room)).1
          (none h.0 h.1 h.2),
    )
      where
        out : mend_verdict t table_room origins_room ≡ accepted
            → WellShaped t × ((q : ℕ) → q < rows t → ¬ Escaping t q) × ¬ TooLong t table_room origins_room
        out e =
            let T = tests t table_room origins_room e in
            let w = shaped_iff.0 (T.length, T.part, T.script) in
            let m = (unmarked_iff w).0 T.mark in (
              w,
              m,
              λ l. (accepts_iff (mend_verdict t table_room origins_room)
                  (mend_numbers t table_room origins_room)).0 e 14 0
                  ((mend_numbers t table_room origins_room 14 0).0 ((fourteen 0).1 (w, m, l, refl))),
            )

        none : WellShaped t → ((q : ℕ) → q < rows t → ¬ Escaping t q) → ¬ TooLong t table_room origins_room
            → (k r : ℕ)
            → ¬ MendOccasion t table_room origins_room k r
        none w m l k r (inl h) = w.long h.2
        none w m l k r (inr (a, inl F)) =
            F.some (sym ((part_some t r k F.some).1 (F.fault, F.no_six)) ∙ (part_none t r).1
            (w.parts r F.within))
        none w m l k r (inr (a, inr (b, inl h))) = h.2 w.script
        none w m l k r (inr (a, inr (b, inr (c, inl h)))) = m r h.1.within h.1.has
        none w m l k r (inr (a, inr (b, inr (c, inr (d, h))))) = l h.2
