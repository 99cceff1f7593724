-- "an accepted table already in that order comes back the same": its words (`same_table`), with no row dropped and none
-- copied again; so does every table that the mender does not refuse and that is in that order (`comes_back`).
-- Argument: where row k is the copy of row k, links and marks are renewed to themselves, and the words are kept
-- (`FieldWords.renewed_same`). Assumes nothing.
use Rattle.std.specs.Prelude.{ℕ, zero, suc, ◌+◌, ◌*◌, ◌/◌, ◌%◌, ◌-◌, ◌<◌, ◌≡◌, refl, ℤ, pos, length}
use Rattle.std.proofs.Common.{sym, subst, ◌∙◌, zero-add, arith as linear, ext_get_or}
use Rattle.std.proofs.Math.Path.{ap}
use mathlib.Core.List.{List, [], ◌∷◌, ◌++◌, map}
use Rattle.std.proofs.Math.ListN.{get_or}
use Rattle.script.specs.declared.Row.{Row}
use Rattle.script.specs.Rows.{fields, field_number, rows, word, row}
use Rattle.script.specs.Refusals.{accepted}
use Rattle.script.specs.Generated.{zeros}
use Rattle.script.specs.Laws.{row_is}
use Rattle.mending.specs.Copies.{origins}
use Rattle.mending.specs.NewTable.{renewed, renamed, part_places, new_word, new_table}
use Rattle.mending.specs.Reached.{among}
use Rattle.mending.specs.Mended.{mend_verdict, Mended, mend, mended}
use Rattle.mending.specs.Layout.{origin}
use Rattle.mending.specs.Mendable.{Mendable, mendable}
use Rattle.mending.specs.NewRows.{new_length, kind_at, first_at, second_at, third_at}
use Rattle.mending.specs.Renaming.{here_part, mark_inside}
use Rattle.mending.specs.Everywhere.{Somewhere, here_at, came}
use Rattle.mending.specs.Order.{run, run_length, run_at, InOrder, order_run}
use Rattle.mending.specs.Counts.{member_at, among_all, dropped_is, copied_is}
use Rattle.mending.specs.FieldWords.{limit, Agrees, row_agrees, renewed_same, linked_of, loops_of}

-- the table back the same: no row dropped, none copied again, and each new row came from the one with its number
abbrev pub unchanged : List ℤ → ℕ → ℕ → Mended
unchanged t table_room origins_room = record {
  number = 0;
  row = 0;
  words = 4 * rows t;
  dropped = 0;
  copied = 0;
  table = t ++ zeros (table_room - 4 * rows t);
  origins = map pos (run 0 (rows t)) ++ zeros (origins_room - rows t);
}

-- what holds of the four words of each row holds of each word
by_fours : (P : ℕ → Type 0) (n : ℕ) → ((k : ℕ) → k < n → P (4 * k + 0) × P (4 * k + 1) × P (4 * k + 2) × P (4 * k + 3))
    → (i : ℕ) → i < 4 * n → P i
by_fours P n f i h = subst P (whole i) (pick (i % 4) (omega linear) (f (i / 4) (omega linear)))
  where
    whole : (i : ℕ) → 4 * (i / 4) + i % 4 ≡ i
    whole i = omega linear

    pick : (r : ℕ) → r < 4 → P (4 * (i / 4) + 0) × P (4 * (i / 4) + 1) × P (4 * (i / 4) + 2) × P (4 * (i / 4) + 3)
        → P (4 * (i / 4) + r)
    pick zero l g = g.0
    pick (suc zero) l g = g.1
    pick (suc (suc zero)) l g = g.2
    pick (suc (suc (suc zero))) l g = g.3
    pick (suc (suc (suc (suc r)))) l g = absurd (omega linear)

module _ (t : List ℤ) (ok : Mendable t) (ordered : InOrder t) where
  as_copied : origins t ≡ run 0 (rows t)
  as_copied = order_run t ok.filled ordered

  total_is : length (origins t) ≡ rows t
  total_is = ap length as_copied ∙ run_length 0 (rows t)

  itself : (k : ℕ) → k < rows t → origin t k ≡ k
  itself k h = ap (λ (l : List ℕ). get_or l k 0) as_copied ∙ run_at 0 (rows t) k h ∙ zero-add k

  module _ (k : ℕ) (h : k < rows t) where
    there_is : Somewhere t ok k
    there_is = here_at t ok k (omega (linear, total_is))

    old_is : there_is.old ≡ k
    old_is = sym (came t ok there_is.place).0 ∙ itself k h

    kept : let r = there_is.old in
        renewed (renamed t k) (part_places t k r) 0 (fields (row t r)) (word t r 1 ∷ word t r 2 ∷ word t r 3 ∷ []) ≡
        word t r 1 ∷ word t r 2 ∷ word t r 3 ∷ []
    kept =
        let H = there_is.place in
        let r = there_is.old in
        renewed_same (renamed t k) (part_places t k r) 0 (fields (row t r)) (word t r 1 ∷ word t r 2 ∷ word t r 3 ∷ [])
        (subst (λ (w : Row). Agrees (fields w) (word t r 1 ∷ word t r 2 ∷ word t r 3 ∷ [])) (row_is t r)
        (row_agrees (word t r 1) (word t r 2) (word t r 3) (field_number (word t r 0))))
        (linked_of (λ i p. (get_or (part_places t k r) i 0 ≡ p) × (p < limit)) (row t r) (λ i p l.
        let N = came t ok (here_part t ok H (row t r) refl l) in
        let j = get_or (part_places t k r) i 0 in
        (sym (itself j (omega (linear, N.1, total_is))) ∙ N.0, omega (linear, N.2, ok.short))))
        (loops_of (λ m. (renamed t k m ≡ m) × (m < limit)) (row t r) (λ m e.
        let R = H.scoped m.0 (mark_inside t ok H m e) in
        let same = sym (itself (renamed t k m.0) (omega (linear, R.within, total_is))) ∙ R.came in
        (same, omega (linear, R.within, total_is, ok.short))))

    new_at : (f : ℕ) → new_word t k (origin t k) (suc f) ≡ get_or (word t k 1 ∷ word t k 2 ∷ word t k 3 ∷ []) f (pos 0)
    unfolding new_word
    new_at f =
        ap (λ (r : ℕ). new_word t k r (suc f)) (came t ok there_is.place).0
        ∙ ap (λ (l : List ℤ). get_or l f (pos 0)) kept
        ∙ ap (λ (r : ℕ). get_or (word t r 1 ∷ word t r 2 ∷ word t r 3 ∷ []) f (pos 0)) old_is

    words_same : (word (new_table t) k 0 ≡ word t k 0) × (word (new_table t) k 1 ≡ word t k 1)
        × (word (new_table t) k 2 ≡ word t k 2)
        × (word (new_table t) k 3 ≡ word t k 3)
    words_same =
        let l : k < length (origins t) = omega (linear, total_is) in (
          kind_at t k l ∙ ap (λ (r : ℕ). word t r 0) (itself k h),
          first_at t k l ∙ new_at 0,
          second_at t k l ∙ new_at 1,
          third_at t k l ∙ new_at 2,
        )

  same_table : new_table t ≡ t
  same_table =
      ext_get_or (pos 0) (new_table t) t (new_length t ∙ ap (λ (n : ℕ). 4 * n) total_is ∙ sym ok.fours)
      (λ i h. by_fours (λ i. get_or (new_table t) i (pos 0) ≡ get_or t i (pos 0)) (rows t) words_same i
      (omega (linear, new_length t, total_is)))

  all_among : among (rows t) (origins t) ≡ rows t
  all_among =
      among_all (rows t) (origins t) (λ q h. (member_at q (origins t)).1 (q, omega (linear, total_is), itself q h))

  none_dropped : (table_room origins_room : ℕ) → (mend t table_room origins_room).dropped ≡ 0
  none_dropped table_room origins_room = omega (linear, dropped_is t ok table_room origins_room, all_among)

  none_copied : (table_room origins_room : ℕ) → (mend t table_room origins_room).copied ≡ 0
  none_copied table_room origins_room = omega (linear, copied_is t ok table_room origins_room, all_among, total_is)

-- what the mender does not refuse and is in that order comes back, with the whole outcome
pub comes_back : (t : List ℤ) (table_room origins_room : ℕ) → mend_verdict t table_room origins_room ≡ accepted
    → InOrder t
    → mended t table_room origins_room ≡ unchanged t table_room origins_room
unfolding mended
comes_back t table_room origins_room v ordered =
    let ok = mendable t table_room origins_room v in
    rw (
      v,
      mended,
      none_dropped t ok ordered table_room origins_room,
      none_copied t ok ordered table_room origins_room,
      same_table t ok ordered,
      total_is t ok ordered,
      as_copied t ok ordered,
    )
