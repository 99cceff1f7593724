-- The new table, written from its last row down: what is written after the rows from k up (`Wrote`), at the start (`wrote_start`),
-- and after one row more (`wrote_row`). Assumes nothing.
use Rattle.std.specs.Prelude.{ℕ, zero, suc, ◌+◌, ◌*◌, ◌-◌, ◌≤◌, ◌<◌, ◌≡◌, refl, Bool, cond, List, ◌∷◌, map, eqb, ℤ, pos, length, get_or, set, replicate}
use Rattle.std.proofs.Common.{sym, ap, subst, ◌∙◌, inr, arith as linear, eq-eqb, ne_eqb, length-set, get_or-set_same, get_or-set_other}
use Rattle.std.proofs.Math.Decide.{ℕ_discrete}
use Rattle.std.proofs.lemmas.List.{length-replicate}
use Rattle.std.proofs.Math.ListN.{get_or-map}
use Rattle.script.specs.Generated.{zeros}
use Rattle.script.specs.Rows.{field_number, parts, row, rows}
use Rattle.theorems.specs.Clearing.{cleared_at}
use Rattle.mending.specs.Copies.{origins}
use Rattle.mending.specs.NewTable.{new_word, part_places, renamed}
use Rattle.mending.specs.Reached.{targets}
use Rattle.mending.specs.Layout.{origin}
use Rattle.mending.specs.Mendable.{Mendable}
use Rattle.mending.specs.Filling.{Filled, due, put, put_length, put_parts, renamed_start, renamed_step, start_filled, step_filled, turn}
use Rattle.mender.specs.Checked.{Checked}
use Rattle.mender.specs.Sizing.{Sizings}
use Rattle.mender.specs.FieldWriting.{set_map}
use Rattle.mender.specs.RowWords.{word_new}
use Rattle.mender.specs.RowWriting.{RowReady, RowWritten}

-- ---- runs of words that are row numbers

map_zeros : (n : ℕ) → zeros n ≡ map pos (replicate n 0)
map_zeros zero = refl
map_zeros (suc n) = ap (λ (zs : List ℤ). pos 0 ∷ zs) (map_zeros n)

module _ (t : List ℤ) (ok : Mendable t) (table_room origins_room : ℕ) where
  abbrev total : ℕ
  total = length (origins t)

  pub record Wrote (k : ℕ) (new os : List ℤ) (l : List ℕ) : Type 0 where
    pub within : k ≤ total
    -- the run of old rows
    pub run : List ℕ
    pub is : os ≡ map pos run
    pub run_long : length run ≡ origins_room
    pub filled : Filled t ok k run
    -- the new table
    pub long : length new ≡ table_room
    pub words : (j f : ℕ) → k ≤ j → j < total → f < 4 → get_or new (4 * j + f) (pos 0) ≡ new_word t j (origin t j) f
    pub rest : (i : ℕ) → 4 * total ≤ i → get_or new i (pos 0) ≡ pos 0
    -- the latest copy of each row
    pub latest : (j : ℕ) → suc j ≡ k → (m : ℕ) → get_or l m 0 ≡ renamed t j m
    pub small : (m : ℕ) → get_or l m 0 < 2048

  pub wrote_start : {new os : List ℤ} {l : List ℕ} → total ≤ origins_room → new ≡ zeros table_room
      → os ≡ set (zeros origins_room) (total - 1) (pos (rows t - 1)) → l ≡ replicate 2048 0 → Wrote total new os l
  wrote_start {new} {os} {l} h en eo el = record {
    within = omega linear;
    run = set empty (total - 1) (rows t - 1);
    is =
        eo ∙ ap (λ (zs : List ℤ). set zs (total - 1) (pos (rows t - 1))) (map_zeros origins_room)
        ∙ set_map empty (total - 1) (rows t - 1);
    run_long = length-set empty (total - 1) (rows t - 1) ∙ length-replicate {A = ℕ} origins_room 0;
    filled = start_filled t ok origins_room h;
    long = ap length en ∙ length-replicate table_room (pos 0);
    words = λ j f a b. absurd (omega linear);
    rest = λ i a. ap (λ (zs : List ℤ). get_or zs i (pos 0)) en ∙ cleared_at (pos 0) table_room i;
    latest = λ j e m. at m ∙ sym (renamed_start t ok j m (omega linear));
    small = λ m. let z = at m in omega linear;
  }
    where
      empty : List ℕ
      empty = replicate origins_room 0

      at : (m : ℕ) → get_or l m 0 ≡ 0
      at m = ap (λ (xs : List ℕ). get_or xs m 0) el ∙ cleared_at 0 2048 m

  -- ---- one row more

  module _ {k : ℕ} {new os : List ℤ} {l : List ℕ} (W : Wrote k new os l) (some : 0 < k) where
    inside : k - 1 < total
    inside = let a = W.within in omega linear

    -- the row of the turn
    run_there : field_number (get_or os (k - 1) (pos 0)) ≡ get_or W.run (k - 1) 0
    run_there = ap field_number (ap (λ (zs : List ℤ). get_or zs (k - 1) (pos 0)) W.is ∙ get_or-map pos W.run (k - 1) 0)

    at_turn : field_number (get_or os (k - 1) (pos 0)) ≡ origin t (k - 1)
    at_turn = run_there ∙ due t ok k (k - 1) W.filled (omega linear) inside

    pub row_ready : {s : List ℕ} {r : ℕ} → Checked t → Sizings t (rows t) s → r ≡ field_number (get_or os (k - 1) (pos 0))
        → 4 * total ≤ length new → total ≤ length os
        → RowReady t s l (k - 1) r (length new) (length os)
    row_ready {s} {r} c z e a b =
        let u = turn t ok (k - 1) inside in
        subst (λ (q : ℕ). RowReady t s l (k - 1) q (length new) (length os)) (sym (e ∙ at_turn)) (record {
          checked = c;
          inside = u.inside;
          sizes = z;
          latest = W.small;
          small = let f = ok.few in let g = inside in let i = u.small in omega linear;
          below = u.small;
          low = let f = ok.few in let g = inside in omega linear;
          table_held = let g = inside in omega linear;
          origins_held = let g = inside in omega linear;
        })

    module _ {new' os' : List ℤ} {r : ℕ} (e : r ≡ field_number (get_or os (k - 1) (pos 0)))
        (R : RowWritten t l (k - 1) r new os new' os') where
      its_row : r ≡ origin t (k - 1)
      its_row = e ∙ at_turn

      run_at : get_or W.run (k - 1) 0 ≡ r
      run_at = sym run_there ∙ sym e

      as_suc : k ≡ suc (k - 1)
      as_suc = omega linear

      pub wrote_row : {l' : List ℕ} → length l ≡ 2048 → l' ≡ set l r (k - 1) → Wrote (k - 1) new' os' l'
      wrote_row {l'} wide el = record {
        within = let g = inside in omega linear;
        run = put_parts t (k - 1) W.run;
        is = R.put W.run W.is ∙ ap (map pos) (sym (ap (λ (q : ℕ). put_at q) run_at));
        run_long = put_length t ok _ _ W.run ∙ W.run_long;
        filled = step_filled t ok (k - 1) W.run inside (subst (λ (q : ℕ). Filled t ok q W.run) as_suc W.filled);
        long = R.words.long ∙ W.long;
        words = λ j f a b c. word j f a b c (ℕ_discrete j (k - 1));
        rest = λ i a. R.words.others i (inr (let g = inside in omega linear)) ∙ W.rest i a;
        latest = λ j d m. ap (λ (xs : List ℕ). get_or xs m 0) el ∙ next j d m (ℕ_discrete m r);
        small = λ m. subst (λ (xs : List ℕ). get_or xs m 0 < 2048) (sym el) (low m (ℕ_discrete m r));
      }
        where
          put_at : ℕ → List ℕ
          put_at q = put (part_places t (k - 1) q) (targets (parts (row t q))) W.run

          word : (j f : ℕ) → k - 1 ≤ j → j < total → f < 4 → Dec (j ≡ k - 1)
              → get_or new' (4 * j + f) (pos 0) ≡ new_word t j (origin t j) f
          word j f a b c (yes d) =
              subst (λ (q : ℕ). get_or new' (4 * q + f) (pos 0) ≡ new_word t q (origin t q) f) (sym d)
              (R.words.here f c
              ∙ word_new _ t (k - 1) r (W.latest (k - 1) (sym as_suc)) f
              ∙ ap (λ (q : ℕ). new_word t (k - 1) q f) its_row)
          word j f a b c (no d) = R.words.others (4 * j + f) (inr (omega linear)) ∙ W.words j f (omega linear) b c

          below : r < length l
          below =
              let u = (turn t ok (k - 1) inside).inside in
              let b = ok.short in
              let q = its_row in
              omega linear

          next : (j : ℕ) → suc j ≡ k - 1 → (m : ℕ) → Dec (m ≡ r) → get_or (set l r (k - 1)) m 0 ≡ renamed t j m
          next j d m x =
              let g = inside in
              let step = renamed_step t ok j m (omega linear) in
              let from : origin t (suc j) ≡ r = ap (origin t) d ∙ sym its_row in
              go x (step ∙ ap (λ (q : ℕ). cond (eqb q m) (suc j) (renamed t (suc j) m)) from)
            where
              go : Dec (m ≡ r) → renamed t j m ≡ cond (eqb r m) (suc j) (renamed t (suc j) m)
                  → get_or (set l r (k - 1)) m 0 ≡ renamed t j m
              go (yes z) y =
                  subst (λ (q : ℕ). get_or (set l r (k - 1)) q 0 ≡ k - 1) (sym z) (get_or-set_same l r (k - 1) 0 below)
                  ∙ sym (y ∙ ap (λ (b : Bool). cond b (suc j) (renamed t (suc j) m)) (eq-eqb r m (sym z)) ∙ d)
              go (no z) y =
                  get_or-set_other l r m (k - 1) 0 z ∙ W.latest (k - 1) (sym as_suc) m ∙ ap (λ (q : ℕ). renamed t q m) (sym d)
                  ∙ sym (y ∙ ap (λ (b : Bool). cond b (suc j) (renamed t (suc j) m)) (ne_eqb r m (λ w. z (sym w))))

          low : (m : ℕ) → Dec (m ≡ r) → get_or (set l r (k - 1)) m 0 < 2048
          low m (yes z) =
              let g = inside in
              let f = ok.few in
              subst (λ (q : ℕ). get_or (set l r (k - 1)) q 0 < 2048) (sym z)
              (let v = get_or-set_same l r (k - 1) 0 below in omega linear)
          low m (no z) = let v = get_or-set_other l r m (k - 1) 0 z in let w = W.small m in omega linear
