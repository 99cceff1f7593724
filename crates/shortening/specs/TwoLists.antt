-- What the entry over two lists hands back: the shorter formula, the old one if equal (`two_lists`); over a list and its
-- shortened list, always the words of the shortened formula (`own_list`), also where these are the words that the pass
-- left (`own_written`); its refusals (`old_refused`, `new_refused`). Assumes nothing.
use Rattle.std.specs.Prelude.{ℕ, zero, suc, ◌-◌, ◌≡◌, List, [], ◌∷◌, Bool, ℤ, pos, ltb, length, take}
use Rattle.std.proofs.Math.Path.{refl}
use Rattle.std.proofs.Common.{sym, ap, ◌∙◌, ⊎_elim, arith as linear, ltb-false}
use Rattle.std.proofs.Math.Option.{some}
use Rattle.std.proofs.Math.Bool.{true, false, cond}
use Rattle.std.proofs.Math.ListN.{get_elem?}
use Rattle.script.specs.declared.Line.{Line}
use Rattle.script.specs.Conditions.{Condition}
use Rattle.script.specs.Words.{formula_words, all_lines, list_words}
use Rattle.script.specs.WellFormed.{WellFormed}
use Rattle.script.specs.Listing.{form_of, line, line_at, part_at}
use Rattle.theorems.specs.Options.{none_is_not, some_inj}
use Rattle.theorems.specs.Line.{place}
use Rattle.theorems.specs.ReadBack.{read_written}
use Rattle.theorems.specs.Lookup.{line_at_index, part_at_index}
use Rattle.shortening.specs.Simplify.{Order, shortenᶠ, shorten_condition, shorten_all}
use Rattle.shortening.specs.Never.{sizeᶠ, as_it_wasᶠ}
use Rattle.shortening.specs.Shortened.{old, new, part, shorter, part_words, written, used_words}
use Rattle.shortening.specs.Lists.{well_formed_shortened}
use Rattle.shortening.specs.Answers.{new_list}

module _ (us vs : List ℤ) (i : ℤ) where
  -- ---- found in both

  found_in_both : (line_at us i).number ≡ 0 → (line_at vs i).number ≡ 0
      → part_words us vs (shorter us vs i)
      ≡ cond (ltb ((line_at vs i).end - (line_at vs i).start) ((line_at us i).end - (line_at us i).start))
      (part_at vs i) (part_at us i)
  unfolding shorter
  found_in_both h k =
      rw (h, k) (of_test (ltb ((line_at vs i).end - (line_at vs i).start) ((line_at us i).end - (line_at us i).start)))
    where
      of_test : (t : Bool)
          → part_words us vs (cond t (part new (line_at vs i)) (part old (line_at us i)))
          ≡ cond t (part_at vs i) (part_at us i)
      of_test true = refl
      of_test false = refl

-- the length of the formula at a place
part_length : (s : ℕ) (c : Condition) → (line (place s c)).end - (line (place s c)).start ≡ sizeᶠ c.claim
part_length s c = omega linear

module _ (us vs : List ℤ) (cs ds : List Condition) (old_list : WellFormed us cs) (new_list : WellFormed vs ds) where
  pub two_lists : (i : ℕ) (c d : Condition) → get_elem? cs i ≡ some c → get_elem? ds i ≡ some d
      → part_words us vs (shorter us vs (pos i))
      ≡ cond (ltb (sizeᶠ d.claim) (sizeᶠ c.claim)) (formula_words d.claim) (formula_words c.claim)
  two_lists i c d p q =
      let x = line_at_index us cs old_list i c p in
      let y = line_at_index vs ds new_list i d q in
      let m : (line_at us (pos i)).end - (line_at us (pos i)).start ≡ sizeᶠ c.claim =
      ap (λ (l : Line). l.end - l.start) x ∙ part_length (length (all_lines (form_of us) (take i cs))) c in
      let n : (line_at vs (pos i)).end - (line_at vs (pos i)).start ≡ sizeᶠ d.claim =
      ap (λ (l : Line). l.end - l.start) y ∙ part_length (length (all_lines (form_of vs) (take i ds))) d in
      found_in_both us vs (pos i) (ap (λ (l : Line). l.number) x) (ap (λ (l : Line). l.number) y)
      ∙ λ j. cond (ltb (n j) (m j)) (part_at_index vs ds new_list i d q j) (part_at_index us cs old_list i c p j)

shortened_at : (o : Order) (cs : List Condition) (i : ℕ) (c : Condition) → get_elem? cs i ≡ some c
    → get_elem? (shorten_all o cs) i ≡ some (shorten_condition o c)
shortened_at o [] i c q = none_is_not q
shortened_at o (d ∷ cs) zero c q = ap (λ x. some (shorten_condition o x)) (some_inj q)
shortened_at o (d ∷ cs) (suc i) c q = shortened_at o cs i c q

-- over a list and the list that the pass makes of it
pub own_list : (o : Order) (us : List ℤ) (cs : List Condition) → WellFormed us cs
    → (i : ℕ) (c : Condition) → get_elem? cs i ≡ some c → let vs = list_words (form_of us) (shorten_all o cs) in
    part_words us vs (shorter us vs (pos i)) ≡ formula_words (shortenᶠ o c.claim)
own_list o us cs w i c q =
    let ds = shorten_all o cs in
    two_lists us (list_words (form_of us) ds) cs ds w (well_formed_shortened o us cs w) i c (shorten_condition o c) q (shortened_at o cs i c q)
    ∙ of_test (ltb (sizeᶠ (shortenᶠ o c.claim)) (sizeᶠ c.claim)) refl
  where
    of_test : (t : Bool) → ltb (sizeᶠ (shortenᶠ o c.claim)) (sizeᶠ c.claim) ≡ t
        → cond t (formula_words (shortenᶠ o c.claim)) (formula_words c.claim) ≡ formula_words (shortenᶠ o c.claim)
    of_test true e = refl
    of_test false e =
        let m = ltb-false (sizeᶠ (shortenᶠ o c.claim)) (sizeᶠ c.claim) e in
        ⊎_elim (λ h. ap formula_words (sym h)) (λ l. absurd (omega linear)) (as_it_wasᶠ o c.claim)

-- .. where the words are those that the pass left
pub own_written : (o : Order) (us : List ℤ) (room : ℕ) → let r = written o us room in
    r.number ≡ 0 → (cs : List Condition) → WellFormed us cs → (i : ℕ) (c : Condition) → get_elem? cs i ≡ some c
    → part_words us (used_words r) (shorter us (used_words r) (pos i)) ≡ formula_words (shortenᶠ o c.claim)
own_written o us room z cs w i c q =
    let n = new_list o us room z in
    let same : n.before ≡ cs = some_inj (sym (read_written us n.before n.listed) ∙ read_written us cs w) in
    rw n.words (own_list o us n.before n.listed i c (rw same q))
