-- The pass in place. `Passing r` says what the words and the loops are when the rows from r on are passed: the rows
-- before r are as they were. `begun` is before the first turn and `done` after the last; each turn passes one row more,
-- by its kind (`loop_turn`, `note_turn`, `mark_turn`, `other_turn`). Assumes nothing.
use Rattle.std.specs.Prelude.{ℕ, suc, ◌+◌, ◌*◌, ◌<◌, ◌≡◌, refl, false, cond, ℤ, pos, negsuc, length, get_or, take, drop, set}
use Rattle.std.proofs.Common.{sym, ◌∙◌, arith as linear, ne_eqb, length-append, length-take-le, take-suc, get_or-append-add}
use Rattle.std.proofs.Math.Path.{ap}
use mathlib.Core.List.{List, [], ◌∷◌, ◌++◌, append_assoc}
use Rattle.std.proofs.Math.Seq.{take-length, drop-length, drop-cons}
use Rattle.std.proofs.lemmas.List.{set_at}
use Rattle.script.specs.Rows.{field_number}
use Rattle.grammar.specs.Rows.{Quad, quad}
use Rattle.grammar.specs.Meaning.{flat}
use Rattle.grammar.specs.Renamed.{is_kind, outer, kept, loop_of, after_pass, pass_rows}
use Rattle.grammar.specs.TextTree.{flat_append, flat_length}

-- ---- kinds

a_kind : (z : ℤ) (k : ℕ) → k < 49 → field_number z ≡ k → z ≡ pos k
a_kind (pos n) k h e = ap pos e
a_kind (negsuc n) k h e = absurd (omega linear)

no_kind : (z : ℤ) (k : ℕ) → k < 49 → (field_number z ≡ k → ⊥) → is_kind k z ≡ false
no_kind (pos n) k h e = ne_eqb n k e
no_kind (negsuc n) k h e = refl

-- ---- the pass, down to row r

module _ (qs : List Quad) (rest : List ℤ) where
  -- the words of the rows from r on, passed, and of the rest
  abbrev passed_words : ℕ → List ℤ
  passed_words r = flat (pass_rows (drop r qs) r []) ++ rest

  pub record Passing (r : ℕ) (ws : List ℤ) (ls : List ℕ) : Type 0 where
    pub is : ws ≡ flat (take r qs) ++ passed_words r
    pub loops : ls ≡ after_pass (drop r qs) r []

  pub begun : Passing (length qs) (flat qs ++ rest) []
  unfolding after_pass pass_rows flat
  begun = record { is = rw (take-length qs, drop-length qs); loops = rw (drop-length qs) }

  pub done : {ws : List ℤ} {ls : List ℕ} → Passing 0 ws ls → ws ≡ flat (pass_rows qs 0 []) ++ rest
  unfolding flat
  done p = p.is

  module _ {r : ℕ} {ws : List ℤ} {ls : List ℕ} (h : r < length qs) (p : Passing (suc r) ws ls) where
    abbrev before : List ℤ
    before = flat (take r qs)

    abbrev row : Quad
    row = get_or qs r (quad (pos 0) 0 0 0)

    -- the words, with these for the row
    abbrev words : ℤ → ℤ → List ℤ
    words k a = before ++ (k ∷ a ∷ row.second ∷ row.third ∷ passed_words (suc r))

    seam : length before ≡ 4 * r
    seam = flat_length (take r qs) ∙ ap (λ (n : ℕ). 4 * n) (length-take-le r qs (omega linear))

    split : ws ≡ words row.kind row.first
    unfolding flat
    split =
        p.is ∙ ap (λ l. flat l ++ passed_words (suc r)) (take-suc qs r (quad (pos 0) 0 0 0) h)
        ∙ ap (λ l. l ++ passed_words (suc r)) (flat_append (take r qs) (row ∷ []))
        ∙ append_assoc before (row.kind ∷ row.first ∷ row.second ∷ row.third ∷ []) (passed_words (suc r))

    -- the word at place f of the row
    word_at : (f : ℕ) → get_or ws (4 * r + f) (pos 0)
        ≡ get_or (row.kind ∷ row.first ∷ row.second ∷ row.third ∷ passed_words (suc r)) f (pos 0)
    word_at f = rw (← seam, split) (get_or-append-add before _ f (pos 0))

    pub kind_at : get_or ws (4 * r) (pos 0) ≡ row.kind
    kind_at = let e : 4 * r ≡ 4 * r + 0 = omega linear in rw e (word_at 0)

    first_set : (v : ℤ) → set ws (4 * r + 1) v ≡ words row.kind v
    first_set v =
        let front = before ++ (row.kind ∷ []) in
        let behind = row.second ∷ row.third ∷ passed_words (suc r) in
        ap (λ l. set l (4 * r + 1) v) (split ∙ sym (append_assoc before (row.kind ∷ []) (row.first ∷ behind)))
        ∙ set_at front row.first behind v (4 * r + 1) (omega (linear, seam, length-append before (row.kind ∷ [])))
        ∙ append_assoc before (row.kind ∷ []) (v ∷ behind)

    turn : (vs : List ℤ) (ks : List ℕ)
        → vs ≡ words row.kind (cond (is_kind 9 row.kind) (loop_of ls row.first) row.first)
        → ks ≡ kept row.kind r ls → Passing r vs ks
    unfolding after_pass pass_rows flat
    turn vs ks i j =
        let e = drop-cons qs r (quad (pos 0) 0 0 0) h in
        record { is = rw (e, ← p.loops) i; loops = rw (e, ← p.loops) j }

    -- ---- by the number of the kind

    module _ {n : ℕ} (e : n ≡ field_number (get_or ws (4 * r) (pos 0))) where
      known : (k : ℕ) → k < 49 → n ≡ k → row.kind ≡ pos k
      known k l i = a_kind row.kind k l (ap field_number (sym kind_at) ∙ sym e ∙ i)

      other : (k : ℕ) → k < 49 → (n ≡ k → ⊥) → is_kind k row.kind ≡ false
      other k l i = no_kind row.kind k l (λ j. i (e ∙ ap field_number kind_at ∙ j))

      -- the test for kind j, where the row is of kind k
      tested : (j k : ℕ) → k < 49 → n ≡ k → is_kind j row.kind ≡ is_kind j (pos k)
      tested j k l i = ap (λ z. is_kind j z) (known k l i)

      pub loop_turn : n ≡ 36 → Passing r ws (r ∷ ls)
      loop_turn i = turn ws (r ∷ ls) (rw (tested 9 36 (omega linear) i) split) (rw (tested 36 36 (omega linear) i))

      pub note_turn : n ≡ 37 → Passing r ws (outer ls)
      note_turn i =
          turn ws (outer ls) (rw (tested 9 37 (omega linear) i) split)
          (rw (tested 36 37 (omega linear) i, tested 37 37 (omega linear) i))

      pub mark_turn : n ≡ 9 → Passing r (set ws (4 * r + 1) (loop_of ls (get_or ws (4 * r + 1) (pos 0)))) ls
      mark_turn i =
          let v = loop_of ls (get_or ws (4 * r + 1) (pos 0)) in
          turn (set ws (4 * r + 1) v) ls (rw (tested 9 9 (omega linear) i, ← word_at 1) (first_set v))
          (rw (tested 36 9 (omega linear) i, tested 37 9 (omega linear) i))

      pub other_turn : (n ≡ 36 → ⊥) → (n ≡ 37 → ⊥) → (n ≡ 9 → ⊥) → Passing r ws ls
      other_turn i j k =
          turn ws ls (rw (other 9 (omega linear) k) split) (rw (other 36 (omega linear) i, other 37 (omega linear) j))
