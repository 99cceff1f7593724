-- The new table and the run of old rows once the pass is through all rows (`run_is`, `table_is`), and the whole pass over a table
-- that can be written, into runs that are cleared (`TableReady`, `pass_start` to `pass_run`). Assumes nothing.
use Rattle.std.specs.Prelude.{ℕ, ◌+◌, ◌*◌, ◌/◌, ◌%◌, ◌-◌, ◌≤◌, ◌<◌, ◌≡◌, refl, List, ◌++◌, map, ℤ, pos, get_or, set, replicate}
use Rattle.std.proofs.Math.Path.{sym}
use Rattle.std.proofs.Common.{ap, subst, ◌∙◌, zero-add, arith as linear, length-set}
use Rattle.std.proofs.Math.Decide.{dec_lt}
use Rattle.std.proofs.Math.ListN.{length, get_or-eq_default, get_or-map}
use Rattle.std.proofs.lemmas.List.{length-map}
use Rattle.std.proofs.Math.Seq.{ext_get_or}
use Rattle.script.specs.Generated.{zeros}
use Rattle.script.specs.Rows.{field_number, rows}
use Rattle.theorems.specs.Clearing.{padded, padded_length}
use Rattle.mending.specs.Copies.{origins}
use Rattle.mending.specs.NewTable.{new_table, new_word}
use Rattle.mending.specs.Layout.{origin}
use Rattle.mending.specs.NewRows.{new_length, word_at}
use Rattle.mending.specs.Mendable.{Mendable}
use Rattle.mending.specs.Sizes.{size_step, total_is}
use Rattle.mending.specs.Filling.{due}
use Rattle.mender.specs.Checked.{Checked}
use Rattle.mender.specs.Sizing.{Sizings}
use Rattle.mender.specs.RowWriting.{RowReady}
use Rattle.mender.specs.TableWriting.{Wrote, wrote_start, row_ready}

module _ (t : List ℤ) (ok : Mendable t) (table_room origins_room : ℕ) where
  abbrev total : ℕ
  total = length (origins t)

  module _ {k : ℕ} {new os : List ℤ} {l : List ℕ} (W : Wrote t ok table_room origins_room k new os l) (done : k ≤ 0) where
    none : k ≡ 0
    none = omega linear

    pub run_is : total ≤ origins_room → os ≡ map pos (origins t) ++ zeros (origins_room - total)
    run_is fits = ext_get_or (pos 0) os (map pos (origins t) ++ zeros (origins_room - total)) long (λ i h. same i)
      where
        long : length os ≡ length (map pos (origins t) ++ zeros (origins_room - total))
        long =
            ap length W.is ∙ length-map W.run pos ∙ W.run_long
            ∙ sym (padded_length (pos 0) (map pos (origins t)) total origins_room (length-map (origins t) pos) fits)

        right : (i : ℕ) → Dec (i < total) → get_or W.run i 0 ≡ origin t i
        right i (yes h) = due t ok k i W.filled (let z = none in omega linear) h
        right i (no h) = W.filled.last i (omega linear)

        same : (i : ℕ) → get_or os i (pos 0) ≡ get_or (map pos (origins t) ++ zeros (origins_room - total)) i (pos 0)
        same i =
            ap (λ (zs : List ℤ). get_or zs i (pos 0)) W.is
            ∙ get_or-map pos W.run i 0
            ∙ ap pos (right i (dec_lt i total))
            ∙ sym (padded (pos 0) (map pos (origins t)) (origins_room - total) i ∙ get_or-map pos (origins t) i 0)

    pub table_is : 4 * total ≤ table_room → new ≡ new_table t ++ zeros (table_room - 4 * total)
    unfolding new_table
    table_is held =
        ext_get_or (pos 0) new (new_table t ++ zeros (table_room - 4 * total)) long
        (λ i h. same i (dec_lt i (4 * total)) ∙ sym (padded (pos 0) (new_table t) (table_room - 4 * total) i))
      where
        long : length new ≡ length (new_table t ++ zeros (table_room - 4 * total))
        long = W.long ∙ sym (padded_length (pos 0) (new_table t) (4 * total) table_room (new_length t) held)

        at_word : (j f : ℕ) → j < total → f < 4 → get_or new (4 * j + f) (pos 0) ≡ get_or (new_table t) (4 * j + f) (pos 0)
        at_word j f h i =
            W.words j f (let z = none in omega linear) h i
            ∙ sym (word_at (new_word t) f 0 (origins t) j i h ∙ ap (λ (q : ℕ). new_word t q (origin t j) f) (zero-add j))

        four : (i : ℕ) → 4 * (i / 4) + i % 4 ≡ i
        four i = omega linear

        same : (i : ℕ) → Dec (i < 4 * total) → get_or new i (pos 0) ≡ get_or (new_table t) i (pos 0)
        same i (yes h) =
            subst (λ (q : ℕ). get_or new q (pos 0) ≡ get_or (new_table t) q (pos 0)) (four i)
            (at_word (i / 4) (i % 4) (omega linear) (omega linear))
        same i (no h) =
            W.rest i (omega linear) ∙ sym (get_or-eq_default (new_table t) (pos 0) (omega (linear, new_length t)))

-- ---- a table that can be written, into runs that are cleared

pub record TableReady (t : List ℤ) (s : List ℕ) (n : ℕ) (new os : List ℤ) : Type 0 where
  pub checked : Checked t
  pub mendable : Mendable t
  pub sizes : Sizings t (rows t) s
  pub counted : n ≡ length (origins t)
  pub table_held : 4 * n ≤ length new
  pub origins_held : n ≤ length os
  pub table_cleared : new ≡ zeros (length new)
  pub origins_cleared : os ≡ zeros (length os)

pub some_row : {t : List ℤ} {s : List ℕ} {n : ℕ} {new os : List ℤ} → TableReady t s n new os → 0 < n
some_row {t} T =
    let f = T.mendable.filled in
    let a = total_is t T.mendable.falls in
    let b = size_step t T.mendable.falls (rows t - 1) (omega linear) in
    let c = T.counted in
    omega linear

-- ---- the pass over such a table: x is the word of the script's row

module _ {t : List ℤ} {s : List ℕ} {n : ℕ} {new₀ os₀ : List ℤ} (T : TableReady t s n new₀ os₀) (x : ℤ)
    (e : x ≡ pos (rows t - 1)) where
  -- the run of old rows at the start, as long as it was lent
  abbrev begun : List ℤ
  begun = set os₀ (n - 1) x

  begun_long : length begun ≡ length os₀
  begun_long = length-set os₀ (n - 1) x

  pub pass_start : Wrote t T.mendable (length new₀) (length begun) n new₀ begun (replicate 2048 0)
  pass_start =
      subst (λ (m : ℕ). Wrote t T.mendable (length new₀) (length begun) m new₀ begun (replicate 2048 0)) (sym T.counted)
      (wrote_start t T.mendable (length new₀) (length begun) fits T.table_cleared first refl)
    where
      fits : length (origins t) ≤ length begun
      fits = omega (linear, begun_long, T.origins_held, T.counted)

      first : begun ≡ set (zeros (length begun)) (length (origins t) - 1) (pos (rows t - 1))
      first = rw (begun_long, ← T.origins_cleared, ← T.counted, e)

  module _ {ok : Mendable t} {k : ℕ} {new os : List ℤ} {l : List ℕ}
      (W : Wrote t ok (length new₀) (length begun) k new os l) where
    pub table_stays : length new ≡ length new₀
    table_stays = W.long

    pub origins_stay : length os ≡ length os₀
    origins_stay = ap length W.is ∙ length-map W.run pos ∙ W.run_long ∙ begun_long

    pub turn_in : 0 < k → (k - 1 < length os) × (k - 1 < 2048)
    turn_in h =
        let a = W.within in
        (omega (linear, origins_stay, T.origins_held, T.counted), omega (linear, ok.few))

    pub turn_ready : {r : ℕ} → 0 < k → r ≡ field_number (get_or os (k - 1) (pos 0))
        → RowReady t s l (k - 1) r (length new) (length os)
    turn_ready h d =
        row_ready t ok (length new₀) (length begun) W h T.checked T.sizes d
        (omega (linear, table_stays, T.counted, T.table_held)) (omega (linear, origins_stay, T.counted, T.origins_held))

    pub pass_table : k ≤ 0 → new ≡ new_table t ++ zeros (length new₀ - 4 * n)
    pass_table h =
        rw T.counted (table_is t ok (length new₀) (length begun) W h (omega (linear, T.counted, T.table_held)))

    pub pass_run : k ≤ 0 → os ≡ map pos (origins t) ++ zeros (length os₀ - n)
    pass_run h =
        rw (T.counted, ← begun_long)
        (run_is t ok (length new₀) (length begun) W h (omega (linear, T.counted, T.origins_held, begun_long)))
