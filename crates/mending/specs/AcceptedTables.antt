-- A table that the check of 01 accepts is not refused by the mender, where the buffers hold it (`accepted_mended`); it
-- keeps its number of rows, with none dropped and none copied again (`as_many`, `accepted_dropped`, `accepted_copied`).
-- Argument: it passes 1 to 5, its marks stand inside the bodies of their loops, and one use of row r takes at most r +
-- 1 rows, since no row is linked twice. Assumes nothing.
use Rattle.std.specs.Prelude.{ℕ, zero, suc, ◌+◌, ◌*◌, ◌-◌, ◌≤◌, ◌<◌, ◌≡◌, refl, List, [], ◌∷◌, ℤ, length}
use Rattle.std.proofs.Common.{sym, ap, subst, ⊎_elim, arith as linear}
use Rattle.std.proofs.Math.Decide.{ℕ_discrete}
use Rattle.script.specs.Rows.{Part, parts, rows, row}
use Rattle.script.specs.Refusals.{accepted, member, linked, verdict}
use Rattle.theorems.specs.Truths.{is_true}
use Rattle.theorems.specs.Links.{Link, linked_iff}
use Rattle.theorems.specs.Standing.{mark_outside}
use Rattle.theorems.specs.Misplaced.{Misplaced, misread_iff}
use Rattle.theorems.specs.Accepted.{Accepted, Tests, all_tests, passed}
use Rattle.theorems.specs.Counting.{counted}
use Rattle.theorems.specs.Counting as Counting
use Rattle.mending.specs.Copies.{part_sum, origins, size}
use Rattle.mending.specs.Reached.{among}
use Rattle.mending.specs.Mended.{mend_verdict, mend}
use Rattle.mending.specs.Falling.{Falls, link_below}
use Rattle.mending.specs.Paths.{Path, top, down, reached_iff}
use Rattle.mending.specs.Escape.{Escaping}
use Rattle.mending.specs.Sizes.{size_step, total_is}
use Rattle.mending.specs.Capped.{TooLong}
use Rattle.mending.specs.Mendable.{Mendable}
use Rattle.mending.specs.Occasions.{WellShaped, shaped_iff, parts_pass, mended_iff}
use Rattle.mending.specs.Counts.{whole_links, among_all, among_length, reached_origins, dropped_is, copied_is}

sums_agree : (f : ℕ → ℕ) (ps : List Part) → part_sum f ps ≡ Counting.part_sum f ps
unfolding part_sum Counting.part_sum
sums_agree f [] = refl
sums_agree f (p ∷ ps) = ap (λ (n : ℕ). f p.at + n) (sums_agree f ps)

module _ (t : List ℤ) (good : verdict t ≡ accepted) where
  tests : Tests t
  tests = all_tests t good

  facts : Accepted t
  facts = passed t good

  falls : Falls t
  falls = facts.ordered

  -- no more new rows than old ones
  pub no_more : length (origins t) ≤ rows t
  no_more =
      let a = counted t facts (size t) grows (rows t - 1) (let x = facts.filled in omega linear) in
      omega (linear, total_is t falls, facts.filled)
    where
      grows : (r : ℕ) → r < rows t → size t r ≤ suc (Counting.part_sum (size t) (parts (row t r)))
      grows r h = omega (linear, size_step t falls r h, sums_agree (size t) (parts (row t r)))

  shaped : WellShaped t
  shaped = (shaped_iff t).0 (tests.length, parts_pass t tests.row, tests.script)

  not_escaping : (q : ℕ) → q < rows t → ¬ Escaping t q
  not_escaping q h E = absurd (rw ((misread_iff t tests.row q h).1 wrong) at (facts.placed q h))
    where
      wrong : Misplaced t q
      wrong = (E.2.0, E.2.1, E.2.2, rw E.1 (mark_outside E.2.3))

  pub accepted_mended : (table_room origins_room : ℕ) → 4 * length (origins t) ≤ table_room
      → length (origins t) ≤ origins_room
      → mend_verdict t table_room origins_room ≡ accepted
  accepted_mended table_room origins_room a b = (mended_iff t table_room origins_room).1 (shaped, not_escaping, fits)
    where
      fits : ¬ TooLong t table_room origins_room
      fits = ⊎_elim (λ h. omega (linear, no_more, facts.short)) (⊎_elim (λ h. omega linear) (λ h. omega linear))

  -- every row is reached: it is the last, or a row above links to it
  all_reached : (ok : Mendable t) (n k : ℕ) → k < rows t → rows t ≤ n + suc k → Path t (rows t) k
  all_reached ok zero k h l = subst (λ (x : ℕ). Path t (rows t) x) (last h l) top
    where
      last : k < rows t → rows t ≤ 0 + suc k → rows t - 1 ≡ k
      last h l = omega linear
  all_reached ok (suc n) k h l = go (ℕ_discrete (rows t - 1) k) (λ q a b. all_reached ok n q a b)
    where
      go : Dec (rows t - 1 ≡ k) → ((q : ℕ) → q < rows t → rows t ≤ n + suc q → Path t (rows t) q) → Path t (rows t) k
      go (yes e) f = subst (λ (x : ℕ). Path t (rows t) x) e top
      go (no d) f =
          let L = (linked_iff t (rows t) k).0 (is_true (member k (linked t (rows t))) (facts.used k (omega linear))) in
          let q = L.0 in
          let higher = link_below t q (falls q L.1) L.2.1 in
          down (f q L.1 (omega linear)) (subst (λ (ps : List Part). Link k L.2.0 ps) (sym (whole_links t ok q L.1)) L.2.1)

  all_among : (ok : Mendable t) → among (rows t) (origins t) ≡ rows t
  all_among ok =
      among_all (rows t) (origins t) (λ q h.
      (reached_origins t ok q).0 ((reached_iff t (rows t) falls q facts.filled).1
      (all_reached ok (rows t) q h (omega linear))))

  -- an accepted table is at most put in another order: as many rows, none dropped, none copied again
  pub as_many : (ok : Mendable t) → length (origins t) ≡ rows t
  as_many ok = omega (linear, no_more, all_among ok, among_length (rows t) (origins t))

  pub accepted_dropped : (ok : Mendable t) (table_room origins_room : ℕ) → (mend t table_room origins_room).dropped ≡ 0
  accepted_dropped ok table_room origins_room = omega (linear, dropped_is t ok table_room origins_room, all_among ok)

  pub accepted_copied : (ok : Mendable t) (table_room origins_room : ℕ) → (mend t table_room origins_room).copied ≡ 0
  accepted_copied ok table_room origins_room =
      omega (linear, copied_is t ok table_room origins_room, all_among ok, as_many ok)
