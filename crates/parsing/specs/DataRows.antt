-- Writing a row. The lent words hold the rows so far, and zeros after them (`Held`); where there is room for one row
-- more, the machine writes it behind them (`with_words_held`, `with_row_held`) and counts it (`row_counted`). Assumes
-- nothing.
use Rattle.std.specs.Prelude.{ℕ, suc, ◌+◌, ◌*◌, ◌-◌, ◌%◌, ◌≤◌, ◌<◌, ◌≡◌, refl, Bool, true, false, cond, ◌&&◌, List, [], ◌∷◌, ◌++◌, ℤ, pos, leb, length, take, drop, replicate}
use Rattle.std.proofs.Common.{sym, ap, ◌∙◌, subst, arith as linear, leb-true, le-leb, lt-ltb, length-append, take_at, drop_at, drop-drop}
use Rattle.std.proofs.lemmas.List.Edits.{sets, sets-eq}
use Rattle.std.proofs.Math.Seq.{length-sets}
use Rattle.grammar.specs.Rows.{Quad, quad}
use Rattle.grammar.specs.Meaning.{flat}
use Rattle.grammar.specs.Outcome.{has_room}
use Rattle.grammar.specs.Tests.{both}
use Rattle.grammar.specs.TextTree.{flat_append, flat_length}
use Rattle.parser.specs.Machine.{row_fits, rows_after, word, with_words, with_row}

-- ---- room

pub has_both : {a b : Bool} → a ≡ true → b ≡ true → (a && b) ≡ true
has_both {a} {b} p q = rw p q

-- what room for so many rows says
pub record Room (n rows : ℕ) : Type 0 where
  pub words : 4 * rows ≤ n
  pub most : rows ≤ 2048

pub room_is : (n rows : ℕ) → has_room n rows ≡ true → Room n rows
room_is n rows e =
    let t = both (leb (4 * rows) n) (leb rows 2048) e in
    record { words = leb-true (4 * rows) n t.0; most = leb-true rows 2048 t.1 }

pub is_room : (n rows : ℕ) → Room n rows → has_room n rows ≡ true
is_room n rows r = has_both (le-leb (4 * rows) n r.words) (le-leb rows 2048 r.most)

-- fewer rows have room too
pub room_for_less : (n a b : ℕ) → a ≤ b → has_room n b ≡ true → has_room n a ≡ true
room_for_less n a b l e =
    let r = room_is n b e in
    is_room n a (record { words = omega linear; most = omega linear })

pub room_fits : (n rows : ℕ) → has_room n (rows + 1) ≡ true → row_fits n rows ≡ true
room_fits n rows e =
    let r = room_is n (rows + 1) e in
    has_both (lt-ltb rows 2048 (omega linear)) (le-leb (4 * rows + 4) n (omega linear))

pub rows_counted : (ws : List ℤ) (rows : ℕ) → has_room (length ws) (rows + 1) ≡ true → rows_after ws rows ≡ rows + 1
rows_counted ws rows e = rw (room_fits (length ws) rows e)

-- ---- the words of rows

-- the rows, and zeros after them
abbrev pub Held : List ℤ → List Quad → Type 0
Held ws qs = ws ≡ flat qs ++ replicate (length ws - 4 * length qs) (pos 0)

abbrev pub quad_words : Quad → List ℤ
quad_words q = q.kind ∷ q.first ∷ q.second ∷ q.third ∷ []

drop_zeros : (n m : ℕ) → n ≡ m + 4 → drop 4 (replicate n (pos 0)) ≡ replicate m (pos 0)
drop_zeros n m e =
    let f : n ≡ suc (suc (suc (suc m))) = omega linear in
    ap (λ (k : ℕ). drop 4 (replicate k (pos 0))) f

-- four words put at the end of what is written
put_words : (ws a vs : List ℤ) (i n m : ℕ) → length a ≡ i → n ≡ m + 4 → length vs ≡ 4 → i + 4 ≤ length ws
    → ws ≡ a ++ replicate n (pos 0) → sets ws i vs ≡ a ++ vs ++ replicate m (pos 0)
put_words ws a vs i n m k e v l h =
    let front : take i ws ≡ a = ap (λ (x : List ℤ). take i x) h ∙ take_at a (replicate n (pos 0)) i k in
    let back : drop (i + length vs) ws ≡ replicate m (pos 0) =
    ap (λ (j : ℕ). drop (i + j) ws) v ∙ sym (drop-drop 4 i ws) ∙ ap (λ (x : List ℤ). drop 4 (drop i x)) h
    ∙ ap (λ (x : List ℤ). drop 4 x) (drop_at a (replicate n (pos 0)) i k) ∙ drop_zeros n m e in
    sets-eq vs ws i (omega linear) ∙ ap (λ (x : List ℤ). x ++ vs ++ drop (i + length vs) ws) front
    ∙ ap (λ (x : List ℤ). a ++ vs ++ x) back

-- one row more
sets_held : (ws : List ℤ) (qs : List Quad) (q : Quad) → Held ws qs → 4 * length qs + 4 ≤ length ws
    → Held (sets ws (4 * length qs) (quad_words q)) (qs ++ (q ∷ []))
unfolding flat
sets_held ws qs q h l =
    let i = 4 * length qs in
    let vs = quad_words q in
    let n = length ws - i in
    let m = length (sets ws i vs) - 4 * length (qs ++ (q ∷ [])) in
    let grown = length-append qs (q ∷ []) in
    let same = length-sets ws i vs in
    put_words ws (flat qs) vs i n m (flat_length qs) (omega linear) refl l h
    ∙ ap (λ (x : List ℤ). x ++ replicate m (pos 0)) (sym (flat_append qs (q ∷ [])))

pub with_words_length : (ws vs : List ℤ) (rows : ℕ) → length (with_words ws rows vs) ≡ length ws
with_words_length ws vs rows = at (row_fits (length ws) rows)
  where
    at : (b : Bool) → length (cond b (sets ws (4 * rows) vs) ws) ≡ length ws
    at true = length-sets ws (4 * rows) vs
    at false = refl

-- the words hold the rows, which are counted, and there is room for one row more
pub record Writable (ws : List ℤ) (qs : List Quad) (rows : ℕ) : Type 0 where
  pub counted : rows ≡ length qs
  pub holds : Held ws qs
  pub room : has_room (length ws) (length qs + 1) ≡ true

pub with_words_held : (ws : List ℤ) (qs : List Quad) (q : Quad) (rows : ℕ) → Writable ws qs rows
    → Held (with_words ws rows (quad_words q)) (qs ++ (q ∷ []))
with_words_held ws qs q rows w =
    let r = w.counted in
    let fits : row_fits (length ws) rows ≡ true =
    room_fits (length ws) rows (ap (λ (n : ℕ). has_room (length ws) (n + 1)) r ∙ w.room) in
    let room = room_is (length ws) (length qs + 1) w.room in
    let is : with_words ws rows (quad_words q) ≡ sets ws (4 * length qs) (quad_words q) =
    ap (λ (b : Bool). cond b (sets ws (4 * rows) (quad_words q)) ws) fits
    ∙ ap (λ (n : ℕ). sets ws (4 * n) (quad_words q)) r in
    subst (λ (x : List ℤ). Held x (qs ++ (q ∷ []))) (sym is) (sets_held ws qs q w.holds (omega linear))

pub word_is : (n : ℕ) → n < 65536 → word n ≡ pos n
word_is n h = let e : n % 65536 ≡ n = omega linear in ap pos e

pub with_row_held : (ws : List ℤ) (qs : List Quad) (rows k a b c : ℕ) → Writable ws qs rows
    → k < 65536 → a < 65536 → b < 65536 → c < 65536 → Held (with_row ws rows k a b c) (qs ++ (quad (pos k) a b c ∷ []))
with_row_held ws qs rows k a b c w hk ha hb hc =
    rw (word_is k hk, word_is a ha, word_is b hb, word_is c hc) (with_words_held ws qs (quad (pos k) a b c) rows w)

-- all counts of rows are small
pub row_small : {ws : List ℤ} {qs : List Quad} {rows : ℕ} → Writable ws qs rows → length qs < 2048
row_small {ws} {qs} {rows} w = let r = room_is (length ws) (length qs + 1) w.room in omega linear

pub row_counted : {ws : List ℤ} {qs : List Quad} {rows : ℕ} (q : Quad) → Writable ws qs rows
    → rows_after ws rows ≡ length (qs ++ (q ∷ []))
row_counted {ws} {qs} {rows} q w =
    let c = w.counted in
    let e = rows_counted ws rows (ap (λ (n : ℕ). has_room (length ws) (n + 1)) c ∙ w.room) in
    omega (linear, length-append qs (q ∷ []))
