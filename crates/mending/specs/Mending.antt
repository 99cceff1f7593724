-- What 02, P7, asks of the mender, sentence by sentence, of its whole outcome: for every table and both lengths. The
-- arguments are in the files before. `Witness` shows that each hypothesis can hold.
-- In this order: the numbers; what is left with number 0, namely the words, the script, the check, the run of old rows
-- and the counts; tables that come back. Assumes nothing.
use Rattle.std.specs.Prelude.{ℕ, suc, ◌+◌, ◌*◌, ◌-◌, ◌≤◌, ◌<◌, ◌≡◌, refl, ◌↔◌, List, ◌++◌, map, Bool, true, ℤ, pos, T, length, take}
use Rattle.std.proofs.Common.{sym, ap, subst, ◌∙◌, ⊎_elim, arith as linear}
use Rattle.std.proofs.lemmas.List.{length-replicate, length-map}
use Rattle.script.specs.declared.RowNumber.{RowNumber}
use Rattle.script.specs.declared.ExpressionRow.TheVariants.{Mark}
use Rattle.script.specs.declared.Row.TheVariants as Row
use Rattle.script.specs.Rows.{parts, rows, row}
use Rattle.script.specs.Refusals.{Verdict, accepted, refused, member, verdict}
use Rattle.script.specs.Meaning.{Arithmetic, State, holds}
use Rattle.script.specs.Run.{after, start, TotalCorrectness}
use Rattle.script.specs.Generated.{zeros, outcome}
use Rattle.script.specs.Promise.{ListValid}
use Rattle.script.specs.Trees.{tree}
use Rattle.theorems.specs.Lowest.{Lowest}
use Rattle.theorems.specs.Accepted.{passed}
use Rattle.theorems.specs.Clearing.{padded_length}
use Rattle.theorems.specs.Links.{Link}
use Rattle.theorems.specs.Standing.{Stands}
use Rattle.theorems.specs.Demand.{keeps}
use Rattle.mending.specs.Copies.{origins}
use Rattle.mending.specs.NewTable.{renamed, part_places, new_table}
use Rattle.mending.specs.Reached.{among}
use Rattle.mending.specs.Mended.{mend_verdict, Mended, refuse, mend, mended}
use Rattle.mending.specs.Escape.{Escaping}
use Rattle.mending.specs.Layout.{origin}
use Rattle.mending.specs.Capped.{TooLong}
use Rattle.mending.specs.Mendable.{Mendable, mendable, fits, falls_of}
use Rattle.mending.specs.Numbers.{MendOccasion, mend_numbers, some_number}
use Rattle.mending.specs.Occasions.{WellShaped, shaped_iff, parts_pass, thirteen, fourteen, mended_iff}
use Rattle.mending.specs.Renew.{renew}
use Rattle.mending.specs.NewRows.{new_rows, new_length}
use Rattle.mending.specs.InnerCopies.{some_rows}
use Rattle.mending.specs.LinkedOnce.{LinkedOnce, linked_once}
use Rattle.mending.specs.Passing.{Passes, passes}
use Rattle.mending.specs.Nameless.{nameless_tree, erased_tree}
use Rattle.mending.specs.InScope.{ScopedTree}
use Rattle.mending.specs.ScopedTrees.{scoped_tree}
use Rattle.mending.specs.NamelessRun.{seen}
use Rattle.mending.specs.SameRuns.{same_pre, same_steps, same_correct}
use Rattle.mending.specs.Unfolded.{same_script, same_erased}
use Rattle.mending.specs.OldRows.{marks_inside, none_escapes, row_right, links_right, mark_right}
use Rattle.mending.specs.Order.{InOrder, order_run, run_length, new_in_order}
use Rattle.mending.specs.Counts.{InScript, origins_stand, dropped_is, copied_is}
use Rattle.mending.specs.SameTable.{unchanged}
use Rattle.mending.specs.SameTable as SameTable
use Rattle.mending.specs.AcceptedTables.{no_more, accepted_mended, as_many, accepted_dropped, accepted_copied}

module _ (t : List ℤ) (table_room origins_room : ℕ) where
  abbrev pub left : Mended
  left = mended t table_room origins_room

  by_verdict : (n r : ℕ) → mend_verdict t table_room origins_room ≡ refused n r
      → left ≡ refuse n r table_room origins_room
  unfolding mended
  by_verdict n r v = rw (v, mended)

  mends : mend_verdict t table_room origins_room ≡ accepted → left ≡ mend t table_room origins_room
  unfolding mended
  mends v = rw (v, mended)

  -- ---- the numbers

  told : (v : Verdict) → mend_verdict t table_room origins_room ≡ v → (k r : ℕ)
      → (left.number ≡ k) × (left.row ≡ r) × (0 < k) → mend_verdict t table_room origins_room ≡ refused k r
  told accepted v k r h = absurd (let e = ap (λ (m : Mended). m.number) (mends v) in omega (linear, h.0, h.2))
  told (refused n q) v k r h =
      let e = by_verdict n q v in
      let a : n ≡ k = sym (ap (λ (m : Mended). m.number) e) ∙ h.0 in
      let b : q ≡ r = sym (ap (λ (m : Mended). m.row) e) ∙ h.1 in
      v ∙ rw (a, b)

  -- "1 to 5 come as in document 01, then 7 only for a last row that is no script, 13, ..., and last 14": a number and a
  -- row exactly where their occasion arises and that of no test before it (`Numbers.MendOccasion`); then zeros are in
  -- all it writes, and its counts are 0
  pub numbers : (k r : ℕ)
      → ((left.number ≡ k) × (left.row ≡ r) × (0 < k)) ↔ MendOccasion t table_room origins_room k r
  numbers k r = (
    λ h. (mend_numbers t table_room origins_room k r).0 (told (mend_verdict t table_room origins_room) refl k r h),
    λ o.
        let e = by_verdict k r ((mend_numbers t table_room origins_room k r).1 o) in
        let n = some_number t table_room origins_room k r o in
        (ap (λ (m : Mended). m.number) e, ap (λ (m : Mended). m.row) e, omega linear),
  )

  pub refuses : (k r : ℕ) → MendOccasion t table_room origins_room k r → left ≡ refuse k r table_room origins_room
  refuses k r o = by_verdict k r ((mend_numbers t table_room origins_room k r).1 o)

  -- "13, with the lowest such old row, when some use of a mark that the script reaches is not inside the body of its
  -- loop": where 1 to 5 and 7 are not given, 13 and row r exactly where r is the lowest row that is a mark with such a
  -- use
  pub outside_exact : (r : ℕ)
      → ((left.number ≡ 13) × (left.row ≡ r)) ↔ (WellShaped t × Lowest (Escaping t) (rows t) r)
  outside_exact r = (
    λ h. (thirteen t table_room origins_room r).0
        (told (mend_verdict t table_room origins_room) refl 13 r (h.0, h.1, omega linear)),
    λ h.
        let e = by_verdict 13 r ((thirteen t table_room origins_room r).1 h) in
        (ap (λ (m : Mended). m.number) e, ap (λ (m : Mended). m.row) e),
  )

  -- "and last 14 when the result passes 2,048 rows or either buffer"
  pub too_long_exact : ((left.number ≡ 14) × (left.row ≡ 0)) ↔
      (WellShaped t × ((q : ℕ) → q < rows t → ¬ Escaping t q) × TooLong t table_room origins_room)
  too_long_exact = (
    λ h.
        let v = told (mend_verdict t table_room origins_room) refl 14 0 (h.0, h.1, omega linear) in
        let f = (fourteen t table_room origins_room 0).0 v in
        (f.0, f.1, f.2),
    λ h.
        let e = by_verdict 14 0 ((fourteen t table_room origins_room 0).1 (h.0, h.1, h.2, refl)) in
        (ap (λ (m : Mended). m.number) e, ap (λ (m : Mended). m.row) e),
  )

  -- 0 on no other occasion
  pub zero_iff : (left.number ≡ 0) ↔
      (WellShaped t × ((q : ℕ) → q < rows t → ¬ Escaping t q) × ¬ TooLong t table_room origins_room)
  zero_iff = (
    λ z. (mended_iff t table_room origins_room).0 (accepts (mend_verdict t table_room origins_room) refl z),
    λ h. ap (λ (m : Mended). m.number) (mends ((mended_iff t table_room origins_room).1 h)),
  )
    where
      accepts : (v : Verdict) → mend_verdict t table_room origins_room ≡ v → left.number ≡ 0
          → mend_verdict t table_room origins_room ≡ accepted
      accepts accepted v z = v
      accepts (refused n r) v z =
          absurd (some_number t table_room origins_room n r ((mend_numbers t table_room origins_room n r).0 v)
          (sym (ap (λ (m : Mended). m.number) (by_verdict n r v)) ∙ z))

  -- every word of both buffers is told, whatever the number
  pub lengths : (length left.table ≡ table_room) × (length left.origins ≡ origins_room)
  lengths = go (mend_verdict t table_room origins_room) refl
    where
      go : (v : Verdict) → mend_verdict t table_room origins_room ≡ v
          → (length left.table ≡ table_room) × (length left.origins ≡ origins_room)
      go (refused n r) v =
          rw (by_verdict n r v) (length-replicate table_room (pos 0), length-replicate origins_room (pos 0))
      go accepted v =
          let f = fits t table_room origins_room v in
          rw (mends v) (
            padded_length (pos 0) (new_table t) (4 * length (origins t)) table_room (new_length t) f.table,
            padded_length (pos 0) (map pos (origins t)) (length (origins t)) origins_room (length-map (origins t) pos) f.run,
          )

  -- ---- number 0

  module _ (zero : left.number ≡ 0) where
    verdict_is : mend_verdict t table_room origins_room ≡ accepted
    verdict_is = (mended_iff t table_room origins_room).1 (zero_iff.0 zero)

    ok : Mendable t
    ok = mendable t table_room origins_room verdict_is

    left_is : left ≡ mend t table_room origins_room
    left_is = mends verdict_is

    -- the new table
    abbrev pub new : List ℤ
    new = new_table t

    -- "A mender writes a new table": these words, with zeros after them
    pub table_left : (left.words ≡ length new) × (left.table ≡ new ++ zeros (table_room - length new))
    table_left = rw (left_is, new_length t) (refl, refl)

    -- "A lent run says, for each new row, the old row it came from": one word a row, with zeros after them
    pub run_left : (rows new ≡ length (origins t))
        × (left.origins ≡ map pos (origins t) ++ zeros (origins_room - rows new))
    run_left = rw (left_is, new_rows t) (refl, refl)

    -- "Old and new unfold to the same script, marks apart": a mark is how many loops stand between it and its own
    pub same : nameless_tree (tree new) ≡ nameless_tree (tree t)
    same = same_script t ok

    -- and with all marks forgotten
    pub same_forgotten : erased_tree (tree new) ≡ erased_tree (tree t)
    same_forgotten = same_erased t ok

    -- so both run alike. From a state the precondition of one holds where that of the other does; after any number of
    -- steps both runs are the same without names; and one keeps demand 3's promise exactly where the other does
    module _ (𝔸 : Arithmetic) where
      new_scoped : ScopedTree (tree new)
      new_scoped =
          scoped_tree new (falls_of new (parts_pass new (passes t ok).row))
          (omega (linear, new_rows t, some_rows t ok)) (λ k h. none_escapes t ok k)

      old_scoped : ScopedTree (tree t)
      old_scoped = scoped_tree t ok.falls ok.filled ok.inside

      pub same_start : (s : State) → holds 𝔸 s (tree new).pre ≡ holds 𝔸 s (tree t).pre
      same_start s = same_pre 𝔸 (tree new) (tree t) new_scoped old_scoped same s s refl

      pub same_run : (n : ℕ) (s : State) → seen (after 𝔸 n (start (tree new) s)) ≡ seen (after 𝔸 n (start (tree t) s))
      same_run n s = same_steps 𝔸 (tree new) (tree t) new_scoped old_scoped same n s s refl

      pub same_promise : (s : State) → TotalCorrectness 𝔸 (tree new) s ↔ TotalCorrectness 𝔸 (tree t) s
      same_promise s = (
        same_correct 𝔸 (tree new) (tree t) new_scoped old_scoped same s s refl,
        same_correct 𝔸 (tree t) (tree new) old_scoped new_scoped (sym same) s s refl,
      )

      -- what is proved of the new table says it of the old one: if the new table is planned, and every condition of the
      -- list left is true in all states, every run of the old script from a start that meets its precondition keeps the
      -- promise
      pub proved_through : (list scratch : ℕ) → let o = outcome new list scratch in
          o.answer.number ≡ 0 → ListValid 𝔸 (take o.answer.words o.list)
          → (s : State) → T (holds 𝔸 s (tree t).pre) → TotalCorrectness 𝔸 (tree t) s
      proved_through list scratch planned valid s h =
          (same_promise s).0 (keeps new list scratch 𝔸 planned valid s (subst T (sym (same_start s)) h))

    -- the new table passes 1 to 7 of the check
    pub checked : Passes new
    checked = passes t ok

    -- "There two rows may link to one", and in the new table none: each row but the last is linked, once
    pub once : (j : ℕ) → suc j < rows new → LinkedOnce new j
    once j h = linked_once t ok j (omega (linear, new_rows t))

    -- "from the last row down, parts left to right before their parent"
    pub ordered : InOrder new
    ordered = new_in_order t ok

    -- "A mark is renamed to the copy of its loop whose body it stands in": wherever it stands, it is inside the body of
    -- the row that it names, which is a copy of the loop that the old mark names
    pub inside : {k : ℕ} {code : Bool} {loops : List ℕ} → Stands new k code loops → (m : RowNumber)
        → row new k ≡ Row.Expression (Mark m)
        → member m.0 loops ≡ true
    inside S m e = marks_inside t ok S m e

    pub mark_came : (k : ℕ) → k < rows new → (m : RowNumber) → row new k ≡ Row.Expression (Mark m)
        → (x : RowNumber) × (row t (origin t k) ≡ Row.Expression (Mark x)) × (origin t m.0 ≡ x.0)
    mark_came k h m e = mark_right t ok k (omega (linear, new_rows t)) m e

    -- "the old row it came from": the same row but for links and mark, and a link goes to what came from the row linked
    -- there
    pub row_came : (k : ℕ) → k < rows new
        → row new k ≡ renew (renamed t k) (part_places t k (origin t k)) (row t (origin t k))
    row_came k h = row_right t ok k (omega (linear, new_rows t))

    pub link_came : (k : ℕ) → k < rows new → {j i : ℕ} → Link j i (parts (row new k))
        → Link (origin t j) i (parts (row t (origin t k)))
    link_came k h l = links_right t ok k (omega (linear, new_rows t)) l

    -- "unreachable rows dropped": a row is among those that new rows came from exactly where it stands in the script
    pub reached_kept : (q : ℕ) → (member q (origins t) ≡ true) ↔ InScript t q
    reached_kept q = origins_stand t ok q

    -- "the answer counts rows dropped and rows copied again (new rows less old ones reached)"
    pub dropped : left.dropped + among (rows t) (origins t) ≡ rows t
    dropped = rw left_is (dropped_is t ok table_room origins_room)

    pub copied : left.copied + among (rows t) (origins t) ≡ rows new
    copied = rw (left_is, new_rows t) (copied_is t ok table_room origins_room)

    -- mended once more, the new table comes back, where it fits
    pub again : (table-room' origins-room' : ℕ) → length new ≤ table-room' → rows new ≤ origins-room'
        → mended new table-room' origins-room' ≡ unchanged new table-room' origins-room'
    again table-room' origins-room' a b = SameTable.comes_back new table-room' origins-room' accepts ordered
      where
        shaped : WellShaped new
        shaped = (shaped_iff new).0 (checked.length, parts_pass new checked.row, checked.script)

        in_all : length (origins new) ≡ rows new
        in_all =
            ap length (order_run new (omega (linear, new_rows t, some_rows t ok)) ordered) ∙ run_length 0 (rows new)

        short : ¬ TooLong new table-room' origins-room'
        short =
            few (omega (linear, in_all, new_rows t, ok.few)) (omega (linear, in_all, new_rows t, new_length t))
            (omega (linear, in_all))
          where
            few : length (origins new) ≤ 2048 → 4 * length (origins new) ≤ table-room'
                → length (origins new) ≤ origins-room'
                → ¬ TooLong new table-room' origins-room'
            few x y z = ⊎_elim (λ h. omega linear) (⊎_elim (λ h. omega linear) (λ h. omega linear))

        accepts : mend_verdict new table-room' origins-room' ≡ accepted
        accepts = (mended_iff new table-room' origins-room').1 (shaped, λ q h. none_escapes t ok q, short)

-- ---- tables that come back

module _ (t : List ℤ) (good : verdict t ≡ accepted) where
  -- an accepted table that fits is not refused, keeps its number of rows, and has none dropped and none copied again
  pub accepted_counts : (table_room origins_room : ℕ) → length t ≤ table_room → rows t ≤ origins_room
      → let m = mended t table_room origins_room in (m.number ≡ 0) × (m.words ≡ length t) × (m.dropped ≡ 0)
      × (m.copied ≡ 0)
  accepted_counts table_room origins_room a b =
      let n = no_more t good in
      let f = (passed t good).fours in
      let v = accepted_mended t good table_room origins_room (omega linear) (omega linear) in
      let ok = mendable t table_room origins_room v in
      let w : 4 * length (origins t) ≡ length t = omega (linear, as_many t good ok) in
      let d = accepted_dropped t good ok table_room origins_room in
      let c = accepted_copied t good ok table_room origins_room in
      rw (mends t table_room origins_room v) (refl, w, d, c)

  -- "an accepted table already in that order comes back the same": the whole outcome, with every word of both buffers
  pub comes_back : InOrder t → (table_room origins_room : ℕ) → length t ≤ table_room → rows t ≤ origins_room
      → mended t table_room origins_room ≡ unchanged t table_room origins_room
  comes_back o table_room origins_room a b =
      let n = no_more t good in
      let f = (passed t good).fours in
      SameTable.comes_back t table_room origins_room
      (accepted_mended t good table_room origins_room (omega linear) (omega linear)) o
