-- The mender's verdict as a whole (`mend_numbers`): "1 to 5 come as in document 01, then 7 only for a last row that is
-- no script, 13, with the lowest such old row, when some use of a mark that the script reaches is not inside the body
-- of its loop, and last 14 when the result passes 2,048 rows or either buffer." Assumes nothing.
use Rattle.std.specs.Prelude.{ℕ, ◌-◌, ◌<◌, ◌≡◌, ◌≢◌, List, not, ℤ, length}
use Rattle.std.proofs.Common.{arith as linear, inl, inr}
use Rattle.std.proofs.Math.Logic.Iff
use Rattle.script.specs.declared.Sort.TheVariants.{Script}
use Rattle.script.specs.Rows.{rows, row, sort_of}
use Rattle.script.specs.Refusals.{accepted, refused, ◌and_then◌, same_sort, length_test, script_test}
use Rattle.theorems.specs.Lowest.{Says, Lowest, FirstFault, lowest_refuses}
use Rattle.theorems.specs.Tests.{not_iff, turned, sort_iff, false_iff}
use Rattle.theorems.specs.Faults.{Fault, WellMade}
use Rattle.theorems.specs.Numbers.{Then, then_says, fact_says, BadLength, length_says}
use Rattle.mending.specs.Copies.{capped_total}
use Rattle.mending.specs.Mended.{part_fault, part_test, mark_test, too_long, size_test, mend_verdict}
use Rattle.mending.specs.PartFaults.{part_some, part_none}
use Rattle.mending.specs.Escape.{Escaping, mark_exact}
use Rattle.mending.specs.Capped.{TooLong, too_long_iff}
use Rattle.mending.specs.Mendable.{falls_of, filled_of}

-- ---- 2 to 5

-- "the first faulty row decides", without 6
pub record FaultyPart (t : List ℤ) (k r : ℕ) : Type 0 where
  pub within : r < rows t
  pub fault : Fault t r k
  pub some : k ≢ 0
  pub no_six : k ≢ 6
  pub lower : (j : ℕ) → j < r → WellMade t j

part_says : (t : List ℤ) → Says (part_test t) (FaultyPart t)
unfolding part_test
part_says t k r = Iff.trans (lowest_refuses (part_fault t) (rows t) 0 k r) (out, back)
  where
    out : FirstFault (part_fault t) (rows t) 0 k r → FaultyPart t k r
    out F =
        let h = (part_some t r k F.some).0 F.number in
        record {
          within = omega linear;
          fault = h.0;
          some = F.some;
          no_six = h.1;
          lower = λ j l. (part_none t j).0 (F.lower j (omega linear) l);
        }

    back : FaultyPart t k r → FirstFault (part_fault t) (rows t) 0 k r
    back F = record {
      from = omega linear;
      below = omega (linear, F.within);
      number = (part_some t r k F.some).1 (F.fault, F.no_six);
      some = F.some;
      lower = λ j a b. (part_none t j).1 (F.lower j b);
    }

-- ---- 7

pub script_says : (t : List ℤ)
    → Says (script_test t) (λ k r. (k ≡ 7) × (r ≡ rows t - 1) × (sort_of (row t (rows t - 1)) ≢ Script))
unfolding script_test
script_says t =
    rw (turned (same_sort (sort_of (row t (rows t - 1))) Script) accepted (refused 7 (rows t - 1)))
    (fact_says (not (same_sort (sort_of (row t (rows t - 1))) Script)) 7 (rows t - 1)
    (Iff.trans (not_iff (same_sort (sort_of (row t (rows t - 1))) Script))
    (false_iff (same_sort (sort_of (row t (rows t - 1))) Script) (sort_iff (sort_of (row t (rows t - 1))) Script))))

-- ---- the verdict

-- number k is given with row r: each test's occasion, where the tests before it accept
abbrev pub MendOccasion : List ℤ → ℕ → ℕ → ℕ → ℕ → Type 0
MendOccasion t table_room origins_room =
    Then (length_test t) (λ k r. (k ≡ 1) × (r ≡ 0) × BadLength (length t))
    (Then (part_test t) (FaultyPart t)
    (Then (script_test t) (λ k r. (k ≡ 7) × (r ≡ rows t - 1) × (sort_of (row t (rows t - 1)) ≢ Script))
    (Then (mark_test t) (λ k r. (k ≡ 13) × Lowest (Escaping t) (rows t) r)
    (λ k r. (k ≡ 14) × (r ≡ 0) × TooLong t table_room origins_room))))

pub mend_numbers : (t : List ℤ) (table_room origins_room : ℕ)
    → Says (mend_verdict t table_room origins_room) (MendOccasion t table_room origins_room)
unfolding mend_verdict size_test
mend_numbers t table_room origins_room =
    then_says (length_test t) (part_test t and_then script_test t and_then mark_test t and_then size_test t table_room
    origins_room)
    (length_says t)
    (λ l. then_says (part_test t) (script_test t and_then mark_test t and_then size_test t table_room origins_room)
    (part_says t)
    (λ p.
    let falls = falls_of t p in
    let filled = filled_of t l in
    then_says (script_test t) (mark_test t and_then size_test t table_room origins_room) (script_says t)
    (λ s. then_says (mark_test t) (size_test t table_room origins_room) (mark_exact t falls filled)
    (λ m. fact_says (too_long table_room origins_room (capped_total t)) 14 0
    (too_long_iff table_room origins_room t falls filled)))))

-- no number is 0
pub some_number : (t : List ℤ) (table_room origins_room k r : ℕ) → MendOccasion t table_room origins_room k r → k ≢ 0
some_number t table_room origins_room k r (inl h) = omega (linear, h.0)
some_number t table_room origins_room k r (inr (a, inl F)) = F.some
some_number t table_room origins_room k r (inr (a, inr (b, inl h))) = omega (linear, h.0)
some_number t table_room origins_room k r (inr (a, inr (b, inr (c, inl h)))) = omega (linear, h.0)
some_number t table_room origins_room k r (inr (a, inr (b, inr (c, inr (d, h))))) = omega (linear, h.0)
