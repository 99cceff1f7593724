-- 02, P2, of lists: where the limit of the variables' numbers rises from a to b, a list that was read has the lines that it had
-- (`lines_stay`), and a list whose conditions are in the range of a has them as it had (`lines_stood`). So to such a list, and to
-- words that are no list now, every entry of the list reader answers what it answered (`same_answers`); and so does a step of the
-- reader that walks back, at any place (`same_step`).
-- Argument: a formula that is read is the words of itself, in range (`Spelling`), and what is in range of both limits both read.
-- Assumes nothing.
use Prim.Native.Nat.{ℕ, zero, suc, ◌-◌, ◌≤◌}
use Rattle.std.proofs.Common.{arith as linear, sym}
use Rattle.std.specs.Prelude.{◌≡◌, refl, List, [], ◌∷◌, ◌++◌, ◌&&◌, ℤ}
use Rattle.std.proofs.Math.Path.{ap, subst}
use Rattle.std.proofs.Math.Option.{Option, none, some}
use Rattle.std.proofs.Math.Dec.{ltb, leb}
use Rattle.std.proofs.Math.ListN.{length}
use Rattle.std.proofs.Math.Seq.{slice}
use Rattle.script.specs.declared.Line.{Line}
use Rattle.script.specs.Rows.{field_number, variables}
use Rattle.script.specs.Syntax.{Expr, const, var, mark, arith, neg, choose, Formula, truth, cmp, not, join}
use Rattle.script.specs.Words.{Form}
use Rattle.script.specs.WellFormed.{InRangeWithin, InRangeᶠWithin}
use Rattle.script.specs.Listing.{row_limit, depth_limit, trailer_length, last_word, count_told, form_of, below, rule_of, Found, no_line, line, line_of, malformed_place, spelled_within, found_within, line_before_within, lines_before_within, lines_within, lines, line_at_within, part_at_within, condition_count_within, first_place_within, step_back_within, next_place_within}
use Rattle.theorems.specs.Options.{none_is_not, some_inj, went_on, goes_on, held}
use Rattle.theorems.specs.Spelling.{spelled_words, spelled_only}
use Rattle.theorems.specs.StoredTables.{variables_before}

-- ---- what holds of formulas that are read carries over to lists of them

-- each condition's claim has the property
abbrev pub Each : (Formula → Type 0) → List Found → Type 0
Each P [] = Unit {0}
Each P (f ∷ fs) = P f.condition.claim × Each P fs

-- what c spells and has the property, d spells
module _ (c d : ℕ) (P : Formula → Type 0)
    (carried : (ws : List ℤ) (f : Formula) → spelled_within c ws ≡ some f → P f → spelled_within d ws ≡ some f) where
  found_carries : (ws : List ℤ) (e : ℕ) (p r n m : ℤ) (f : Found) → found_within c ws e p r n m ≡ some f → P f.condition.claim
      → found_within d ws e p r n m ≡ some f
  unfolding found_within
  found_carries ws e p r n m f q k =
      goes_on (rule_of (field_number p)) q λ rule q₁. goes_on (below row_limit r) q₁ λ row q₂. goes_on (below (suc e) n) q₂ λ size q₃.
      goes_on (below depth_limit m) q₃ λ depth q₄.
      let claim = went_on (spelled_within c (slice (e - size) e ws)) _ q₄ in
      let has = subst (λ (x : Found). P x.condition.claim) (sym (some_inj claim.2)) k in
      rw (carried (slice (e - size) e ws) claim.0 claim.1 has) claim.2

  line_carries : (form : Form) (ws : List ℤ) (e : ℕ) (f : Found) → line_before_within c form ws e ≡ some f → P f.condition.claim
      → line_before_within d form ws e ≡ some f
  unfolding line_before_within
  line_carries form ws e f q k =
      let h = held (leb (trailer_length form) e && leb e (length ws)) _ q in
      rw h.0 (found_carries ws (e - trailer_length form) _ _ _ _ f h.1 k)

  each_split : (fs : List Found) (f : Found) → Each P (fs ++ (f ∷ [])) → Each P fs × P f.condition.claim
  each_split [] f h = (tt, h.0)
  each_split (g ∷ fs) f h = let s = each_split fs f h.1 in ((h.0, s.0), s.1)

  lines_carry_before : (form : Form) (ws : List ℤ) (n e : ℕ) (fs : List Found) → lines_before_within c form ws n e ≡ some fs → Each P fs
      → lines_before_within d form ws n e ≡ some fs
  unfolding lines_before_within
  lines_carry_before form ws zero zero fs q k = q
  lines_carry_before form ws zero (suc e) fs q k = none_is_not q
  lines_carry_before form ws (suc n) e fs q k =
      let last = went_on (line_before_within c form ws e) _ q in
      let front = went_on (lines_before_within c form ws n last.0.start) _ last.2 in
      let s = each_split front.0 last.0 (subst (Each P) (sym (some_inj front.2)) k) in
      rw (line_carries form ws e last.0 last.1 s.1, lines_carry_before form ws n last.0.start front.0 front.1 s.0) front.2

  lines_carry : (ws : List ℤ) (fs : List Found) → lines_within c ws ≡ some fs → Each P fs → lines_within d ws ≡ some fs
  unfolding lines_within
  lines_carry ws fs q k =
      let count = count_told (last_word ws) in
      let h = held (leb (length ws) 16384 && ltb 0 count) _ q in
      rw h.0 (lines_carry_before (form_of ws) ws count (length ws - 1) fs h.1 k)

-- ---- what is read within one limit and in range of the other

module _ (c d : ℕ) (small : c ≤ 4294967295) (ws : List ℤ) (f : Formula) (q : spelled_within c ws ≡ some f) where
  range_read : InRangeᶠWithin c f
  range_read = (spelled_only c small ws f q).1

  spelled_in_range : InRangeᶠWithin d f → spelled_within d ws ≡ some f
  spelled_in_range h = subst (λ us. spelled_within d us ≡ some f) (spelled_only c small ws f q).0 (spelled_words d f h)

-- a range grows with its limit
module _ (a b : ℕ) (rises : a ≤ b) where
  mutual
    expr_range_grows : (e : Expr) → InRangeWithin a e → InRangeWithin b e
    expr_range_grows (const z) h = tt
    expr_range_grows (var v) h = omega linear
    expr_range_grows (mark m) h = h
    expr_range_grows (arith o x y) h = (expr_range_grows x h.0, expr_range_grows y h.1)
    expr_range_grows (neg x) h = expr_range_grows x h
    expr_range_grows (choose f x y) h = (range_grows f h.0, expr_range_grows x h.1, expr_range_grows y h.2)

    range_grows : (f : Formula) → InRangeᶠWithin a f → InRangeᶠWithin b f
    range_grows (truth t) h = tt
    range_grows (cmp r x y) h = (expr_range_grows x h.0, expr_range_grows y h.1)
    range_grows (not f) h = range_grows f h
    range_grows (join c f g) h = (range_grows f h.0, range_grows g h.1)

-- ---- a limit that rises

same : {A : Type 0} (o p : Option A) → ((x : A) → o ≡ some x → p ≡ some x) → ((x : A) → p ≡ some x → o ≡ some x) → o ≡ p
same none none f g = refl
same none (some x) f g = none_is_not (g x refl)
same (some x) p f g = sym (f x refl)

module _ (a b : ℕ) (ws : List ℤ) where
  -- where b reads a list, its conditions are in the range of a
  abbrev pub AllOld : Type 0
  AllOld = (fs : List Found) → lines_within b ws ≡ some fs → Each (InRangeᶠWithin a) fs

  -- the same of the condition that ends at a place
  abbrev pub OldAt : ℕ → Type 0
  OldAt p = (f : Found) → line_before_within b (form_of ws) ws p ≡ some f → InRangeᶠWithin a f.condition.claim

  pub record SameAnswers : Type 0 where
    pub lines : lines_within a ws ≡ lines_within b ws
    pub line : (i : ℤ) → line_at_within a ws i ≡ line_at_within b ws i
    pub part : (i : ℤ) → part_at_within a ws i ≡ part_at_within b ws i
    pub count : condition_count_within a ws ≡ condition_count_within b ws
    pub place : first_place_within a ws ≡ first_place_within b ws

  pub record SameStep (p : ℕ) : Type 0 where
    pub line : step_back_within a ws p ≡ step_back_within b ws p
    pub next : next_place_within a ws p ≡ next_place_within b ws p

module _ (a b : ℕ) (rises : a ≤ b) (small : b ≤ 4294967295) (ws : List ℤ) where
  grown : (us : List ℤ) (f : Formula) → spelled_within a us ≡ some f → Unit {0} → spelled_within b us ≡ some f
  grown us f q k = spelled_in_range a b (omega linear) us f q (range_grows a b rises f (range_read a b (omega linear) us f q))

  any : (fs : List Found) → Each (λ f. Unit {0}) fs
  any [] = tt
  any (f ∷ fs) = (tt, any fs)

  pub line_stays : (e : ℕ) (f : Found) → line_before_within a (form_of ws) ws e ≡ some f → line_before_within b (form_of ws) ws e ≡ some f
  line_stays e f q = line_carries a b (λ g. Unit {0}) grown (form_of ws) ws e f q tt

  pub lines_stay : (fs : List Found) → lines_within a ws ≡ some fs → lines_within b ws ≡ some fs
  lines_stay fs q = lines_carry a b (λ g. Unit {0}) grown ws fs q (any fs)

  pub line_stood : (e : ℕ) (f : Found) → line_before_within b (form_of ws) ws e ≡ some f → InRangeᶠWithin a f.condition.claim
      → line_before_within a (form_of ws) ws e ≡ some f
  line_stood = line_carries b a (InRangeᶠWithin a) (spelled_in_range b a small) (form_of ws) ws

  pub lines_stood : (fs : List Found) → lines_within b ws ≡ some fs → Each (InRangeᶠWithin a) fs → lines_within a ws ≡ some fs
  lines_stood = lines_carry b a (InRangeᶠWithin a) (spelled_in_range b a small) ws

  -- ---- the answers of the entries

  pub same_answers : AllOld a b ws → SameAnswers a b ws
  unfolding line_at_within condition_count_within first_place_within
  same_answers old = record {
    lines = e;
    line = at;
    part = λ i. ap (λ (l : Line). slice l.start l.end ws) (at i);
    count = ap (λ (o : Option (List Found)). elim o [ some fs ↦ length fs | none ↦ 0 ]) e;
    place = ap (λ (o : Option (List Found)). elim o [ some fs ↦ length ws - 1 | none ↦ malformed_place ]) e;
  }
    where
      e : lines_within a ws ≡ lines_within b ws
      e = same (lines_within a ws) (lines_within b ws) lines_stay (λ fs q. lines_stood fs q (old fs q))

      at : (i : ℤ) → line_at_within a ws i ≡ line_at_within b ws i
      at i = ap (λ (o : Option (List Found)). elim o [ some fs ↦ line_of fs i | none ↦ no_line 20 ]) e

  pub same_step : (p : ℕ) → OldAt a b ws p → SameStep a b ws p
  unfolding step_back_within next_place_within
  same_step p old = record {
    line = step p e;
    next = ap (λ (o : Option Found). elim o [ some f ↦ f.start | none ↦ p ]) e;
  }
    where
      e : line_before_within a (form_of ws) ws p ≡ line_before_within b (form_of ws) ws p
      e = same (line_before_within a (form_of ws) ws p) (line_before_within b (form_of ws) ws p) (line_stays p) (λ f q. line_stood p f q (old f q))

      step : (p : ℕ) → line_before_within a (form_of ws) ws p ≡ line_before_within b (form_of ws) ws p → step_back_within a ws p ≡ step_back_within b ws p
      step zero e = refl
      step (suc p) e = ap (λ (o : Option Found). elim o [ some f ↦ line f | none ↦ no_line 20 ]) e

-- ---- from 01 to P2

module _ (ws : List ℤ) where
  pub stored_list : AllOld variables_before variables ws → SameAnswers variables_before variables ws
  stored_list = same_answers variables_before variables (omega linear) (omega linear) ws

  pub stored_step : (p : ℕ) → OldAt variables_before variables ws p → SameStep variables_before variables ws p
  stored_step = same_step variables_before variables (omega linear) (omega linear) ws

  pub read_before : (fs : List Found) → lines_within variables_before ws ≡ some fs → lines ws ≡ some fs
  read_before = lines_stay variables_before variables (omega linear) (omega linear) ws
