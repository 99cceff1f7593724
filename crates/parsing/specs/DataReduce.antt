-- The machine's `reduce` beside the automaton's: what is known of the machine where a part is complete (`PartData`) is
-- known again when operators have taken it (`reduce_data`). Assumes nothing.
use Rattle.std.specs.Prelude.{ℕ, suc, ◌+◌, ◌≤◌, ◌<◌, ◌≡◌, refl, Bool, true, false, cond, List, [], ◌∷◌, ℤ, eqb, leb, ltb, length, get_or}
use Rattle.std.proofs.Common.{sym, ap, ◌∙◌, subst, arith as linear, leb-true, leb-false, lt-ltb, le-ltb, eq-eqb}
use Rattle.std.proofs.Math.Option.{some}
use Rattle.script.specs.Listing.{guarded}
use Rattle.theorems.specs.Options.{some_inj, held}
use Rattle.grammar.specs.Sorts.{same_sort, sort-discrete}
use Rattle.grammar.specs.Grammar.{Phrase, sort}
use Rattle.grammar.specs.States.{Pending, Frame, pending, open_at, wants, holds, apply}
use Rattle.grammar.specs.Automaton.{Reduced, reduce, reduced}
use Rattle.grammar.specs.Outcome.{has_room}
use Rattle.grammar.specs.Tests.{same_is}
use Rattle.grammar.specs.Reduces.{apply_makes}
use Rattle.grammar.specs.Written.{stack_size, part_rows, apart_apply}
use Rattle.parser.specs.Machine.{hold, hole, maker, rows_after, operator_row, Reduced as Machine-reduced, reduce as machine-reduce, reduced_to}
use Rattle.parsing.specs.Encoding.{sort_letter, pending_word, frame_word, frame_words}
use Rattle.parsing.specs.DataRows.{room_for_less}
use Rattle.parsing.specs.DataStack.{topped, bottomed}
use Rattle.parsing.specs.DataLetters.{operator_hold, operator_hole, operator_maker, place_hold}
use Rattle.parsing.specs.DataOperators.{operator_row_length}
use Rattle.parsing.specs.DataPart.{PartData, reduce_grows, pop_data}

pub record LeftData (st : List ℕ) (i room : ℕ) (r : Reduced) (m : Machine-reduced) : Type 0 where
  pub part : PartData st i r.got r.rest m.top m.rows m.words
  pub sorted : m.sort ≡ sort_letter (sort r.got)
  pub lent : length m.words ≡ room

-- ---- the machine's moves

machine_pops : (st : List ℕ) (b n t r : ℕ) (ws : List ℤ) (w : ℕ) → get_or st n 0 ≡ w → ltb (hold w) b ≡ false
    → eqb t (hole w) ≡ true
    → machine-reduce st b (suc n) t r ws ≡ machine-reduce st b n (maker w) (rows_after ws r) (operator_row ws r w)
unfolding machine-reduce
machine_pops st b n t r ws w e h s = rw (e, h, s)

machine_stays : (st : List ℕ) (b n t r : ℕ) (ws : List ℤ) (w : ℕ) → get_or st n 0 ≡ w → ltb (hold w) b ≡ true
    → machine-reduce st b (suc n) t r ws ≡ reduced_to t r (suc n) ws
unfolding machine-reduce
machine_stays st b n t r ws w e h = rw (e, h)

machine_ends : (st : List ℕ) (b t r : ℕ) (ws : List ℤ) → machine-reduce st b 0 t r ws ≡ reduced_to t r 0 ws
unfolding machine-reduce
machine_ends st b t r ws = refl

-- the part stays as it is
left_data : (st : List ℕ) (i top rows : ℕ) (ws : List ℤ) (x : Phrase) (fs : List Frame) (r : Reduced)
    (m : Machine-reduced) → PartData st i x fs top rows ws → reduced x fs ≡ some r → m ≡ reduced_to (sort_letter (sort x)) rows top ws
    → LeftData st i (length ws) r m
left_data st i top rows ws x fs r m p e q =
    let stays : Machine-reduced = reduced_to (sort_letter (sort x)) rows top ws in
    let whole : Reduced = record { got = x; rest = fs } in
    let is : LeftData st i (length ws) whole stays = record { part = p; sorted = refl; lent = refl } in
    subst (λ (u : Reduced). LeftData st i (length ws) u m) (some_inj e)
    (subst (λ (k : Machine-reduced). LeftData st i (length ws) whole k) (sym q) is)

-- the frame at the top holds its part less tight
stays_data : (f : Frame) (fs : List Frame) (n : ℕ) (x : Phrase) (r : Reduced) (st : List ℕ) (i top rows : ℕ)
    (ws : List ℤ)
    → PartData st i x (f ∷ fs) top rows ws → reduced x (f ∷ fs) ≡ some r → hold (frame_word f (stack_size fs)) < 98 + n
    → LeftData st i (length ws) r (machine-reduce st (98 + n) top (sort_letter (sort x)) rows ws)
unfolding frame_words
stays_data f fs n x r st i top rows ws p e l =
    let w = frame_word f (stack_size fs) in
    let t = topped st top w (frame_words fs) p.frames in
    let s = sort_letter (sort x) in
    left_data st i top rows ws x (f ∷ fs) r (machine-reduce st (98 + n) top s rows ws) p e
    (subst (λ (k : ℕ). machine-reduce st (98 + n) k s rows ws ≡ reduced_to s rows k ws) (sym t.is)
    (machine_stays st (98 + n) t.below s rows ws w t.top (lt-ltb (hold w) (98 + n) l)))

-- the operator at the top takes the part, and what is left is done as `again` says
pops_data : (f : Pending) (fs : List Frame) (n : ℕ) (x : Phrase) (r : Reduced) (st : List ℕ) (i top rows : ℕ)
    (ws : List ℤ)
    → PartData st i x (pending f ∷ fs) top rows ws → n ≤ holds f → sort x ≡ wants f → reduce n (apply f x) fs ≡ some r
    → has_room (length ws) (length (part_rows r.got r.rest)) ≡ true
    → ((m k : ℕ) (u : List ℤ) → PartData st i (apply f x) fs m k u
    → has_room (length u) (length (part_rows r.got r.rest)) ≡ true
    → LeftData st i (length u) r (machine-reduce st (98 + n) m (sort_letter (sort (apply f x))) k u))
    → LeftData st i (length ws) r (machine-reduce st (98 + n) top (sort_letter (sort x)) rows ws)
unfolding frame_words
pops_data f fs n x r st i top rows ws p l q e room again =
    let b = stack_size fs in
    let w = pending_word f b in
    let u = operator_row ws rows w in
    let k = rows_after ws rows in
    let s = sort_letter (sort x) in
    let t = topped st top w (frame_words fs) p.frames in
    let same = operator_row_length ws rows w in
    let fewer = room_for_less (length ws) (length (part_rows (apply f x) fs)) (length (part_rows r.got r.rest))
    (reduce_grows fs n (apply f x) r (apart_apply f x fs) e) room in
    let d = again t.below k u (pop_data f fs x st i top rows ws t.below p t.rest fewer)
    (ap (λ (j : ℕ). has_room j (length (part_rows r.got r.rest))) same ∙ room) in
    let tight = le-ltb (hold w) (98 + n) (omega (linear, operator_hold f b)) in
    let fits = eq-eqb s (hole w) (ap sort_letter q ∙ sym (operator_hole f b)) in
    let made = sort_letter (sort (apply f x)) in
    let is : machine-reduce st (98 + n) top s rows ws ≡ machine-reduce st (98 + n) t.below made k u =
    ap (λ (j : ℕ). machine-reduce st (98 + n) j s rows ws) t.is
    ∙ machine_pops st (98 + n) t.below s rows ws w t.top tight fits
    ∙ ap (λ (j : ℕ). machine-reduce st (98 + n) t.below j k u)
    (operator_maker f b ∙ ap sort_letter (sym (apply_makes f x))) in
    subst (λ (m : Machine-reduced). LeftData st i (length ws) r m) (sym is)
    (subst (λ (j : ℕ). LeftData st i j r (machine-reduce st (98 + n) t.below made k u)) same d)

-- ---- all of them

pub reduce_data : (fs : List Frame) (n : ℕ) (x : Phrase) (r : Reduced) (st : List ℕ) (i top rows : ℕ) (ws : List ℤ)
    → PartData st i x fs top rows ws → reduce n x fs ≡ some r
    → has_room (length ws) (length (part_rows r.got r.rest)) ≡ true
    → LeftData st i (length ws) r (machine-reduce st (98 + n) top (sort_letter (sort x)) rows ws)
unfolding reduce frame_words
reduce_data [] n x r st i top rows ws p e room =
    let z = bottomed st top p.frames in
    let s = sort_letter (sort x) in
    left_data st i top rows ws x [] r (machine-reduce st (98 + n) top s rows ws) p e
    (subst (λ (k : ℕ). machine-reduce st (98 + n) k s rows ws ≡ reduced_to s rows k ws) (sym z)
    (machine_ends st (98 + n) s rows ws))
reduce_data (open_at h c ∷ fs) n x r st i top rows ws p e room =
    stays_data (open_at h c) fs n x r st i top rows ws p e (omega (linear, place_hold h c (stack_size fs)))
reduce_data (pending f ∷ fs) n x r st i top rows ws p e room =
    at_test (leb n (holds f)) (leb-true n (holds f)) (leb-false n (holds f))
    (λ m k u. reduce_data fs n (apply f x) r st i m k u) e
  where
    at_test : (k : Bool) → (k ≡ true → n ≤ holds f) → (k ≡ false → holds f < n)
        → ((m k : ℕ) (u : List ℤ) → PartData st i (apply f x) fs m k u → reduce n (apply f x) fs ≡ some r
        → has_room (length u) (length (part_rows r.got r.rest)) ≡ true
        → LeftData st i (length u) r (machine-reduce st (98 + n) m (sort_letter (sort (apply f x))) k u))
        → cond k (guarded (same_sort (sort x) (wants f)) (reduce n (apply f x) fs))
        (reduced x (pending f ∷ fs)) ≡ some r
        → LeftData st i (length ws) r (machine-reduce st (98 + n) top (sort_letter (sort x)) rows ws)
    at_test true yes-if no-if again q =
        let g = held (same_sort (sort x) (wants f)) (reduce n (apply f x) fs) q in
        pops_data f fs n x r st i top rows ws p (yes-if refl) (same_is sort-discrete (sort x) (wants f) g.0)
        g.1 room
        (λ m k u d. again m k u d g.1)
    at_test false yes-if no-if again q =
        let l = no-if refl in
        stays_data (pending f) fs n x r st i top rows ws p q (omega (linear, operator_hold f (stack_size fs)))
