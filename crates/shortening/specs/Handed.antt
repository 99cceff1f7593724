-- What the entry over two lists hands back, for every words and every index: each of its answers has its exact occasion
-- (`handed_iff`), and there is no other. First what is found at an index of one list (`looked`). Assumes nothing.
use Rattle.std.specs.Prelude.{ℕ, ◌+◌, ◌-◌, ◌≤◌, ◌<◌, ◌≡◌, refl, ◌↔◌, Bool, cond, ℤ, pos, negsuc, length, take}
use Rattle.std.proofs.Math.Path.{sym}
use Rattle.std.proofs.Common.{◌∙◌, arith as linear, lt-ltb, le-ltb, ltb-false, ltb-true}
use Rattle.std.proofs.Math.Option.{Option, none, some}
use mathlib.Core.List.{List}
use Rattle.std.proofs.Math.Bool.{true, false}
use Rattle.std.proofs.Math.Dec.{ltb}
use Rattle.std.proofs.Math.ListN.{get_elem?}
use Rattle.script.specs.declared.Line.{Line}
use Rattle.script.specs.Conditions.{Condition}
use Rattle.script.specs.Words.{all_lines}
use Rattle.script.specs.WellFormed.{WellFormed}
use Rattle.script.specs.Listing.{form_of, read_list, no_line, line, line_at}
use Rattle.theorems.specs.Line.{place}
use Rattle.theorems.specs.ReadBack.{written_read, malformed_iff}
use Rattle.theorems.specs.Lookup.{condition_at, line_at_index, line_at_past, line_at_negative, line_at_malformed}
use Rattle.shortening.specs.Never.{sizeᶠ}
use Rattle.shortening.specs.Shortened.{Which, old, new, Part, no_part, part_for, shorter}

-- ---- at an index of one list

-- the condition there
abbrev pub At : List Condition → ℤ → Condition → Type 0
At cs (pos k) c = get_elem? cs k ≡ some c
At cs (negsuc k) c = ⊥

-- there is none: "index negative or not below the count"
abbrev pub Past : List Condition → ℤ → Type 0
Past cs (pos k) = length cs ≤ k
Past cs (negsuc k) = Unit {0}

-- where its formula begins in the words ws, which are the list of cs
abbrev pub start_at : List ℤ → List Condition → ℤ → ℕ
start_at ws cs (pos k) = length (all_lines (form_of ws) (take k cs))
start_at ws cs (negsuc k) = 0

data Looked (ws : List ℤ) (i : ℤ) (l : Line) : Type 0 where
  torn : ((cs : List Condition) → ¬ WellFormed ws cs) → l ≡ no_line 20 → Looked ws i l
  past : (cs : List Condition) → WellFormed ws cs → Past cs i → l ≡ no_line 21 → Looked ws i l
  found : (cs : List Condition) (c : Condition) → WellFormed ws cs → At cs i c → l ≡ line (place (start_at ws cs i) c)
      → Looked ws i l

looked : (ws : List ℤ) (i : ℤ) → Looked ws i (line_at ws i)
looked ws i = of_list (read_list ws) refl
  where
    of_index : (cs : List Condition) → WellFormed ws cs → (j : ℤ) → Looked ws j (line_at ws j)
    of_index cs w (negsuc k) = past cs w tt (line_at_negative ws cs w k)
    of_index cs w (pos k) = of_test (ltb k (length cs)) refl
      where
        of_test : (b : Bool) → ltb k (length cs) ≡ b → Looked ws (pos k) (line_at ws (pos k))
        of_test true e =
            let c = condition_at cs k (ltb-true k (length cs) e) in
            found cs c.0 w c.1 (line_at_index ws cs w k c.0 c.1)
        of_test false e = let h = ltb-false k (length cs) e in past cs w h (line_at_past ws cs w k h)

    of_list : (l : Option (List Condition)) → read_list ws ≡ l → Looked ws i (line_at ws i)
    of_list none p = torn ((malformed_iff ws).0 p) (line_at_malformed ws p i)
    of_list (some cs) p = of_index cs (written_read ws cs p) i

torn_line : (ws : List ℤ) (i : ℤ) → ((cs : List Condition) → ¬ WellFormed ws cs) → line_at ws i ≡ no_line 20
torn_line ws i h = line_at_malformed ws ((malformed_iff ws).1 h) i

past_line : (ws : List ℤ) (i : ℤ) (cs : List Condition) → WellFormed ws cs → Past cs i → line_at ws i ≡ no_line 21
past_line ws (pos k) cs w h = line_at_past ws cs w k h
past_line ws (negsuc k) cs w h = line_at_negative ws cs w k

found_line : (ws : List ℤ) (i : ℤ) (cs : List Condition) (c : Condition) → WellFormed ws cs → At cs i c
    → line_at ws i ≡ line (place (start_at ws cs i) c)
found_line ws (pos k) cs c w h = line_at_index ws cs w k c h
found_line ws (negsuc k) cs c w h = absurd h

-- ---- of two lists

-- the formula of c in the words ws, which are the list of cs
abbrev pub formula_part : Which → List ℤ → List Condition → ℤ → Condition → Part
formula_part w ws cs i c = let s = start_at ws cs i in record { number = 0; which = w; start = s; end = s + sizeᶠ c.claim }

pub data Handed (us vs : List ℤ) (i : ℤ) (p : Part) : Type 0 where
  -- "20, then 21, for the old list"
  old_torn : ((cs : List Condition) → ¬ WellFormed us cs) → p ≡ no_part 20 → Handed us vs i p
  old_past : (cs : List Condition) → WellFormed us cs → Past cs i → p ≡ no_part 21 → Handed us vs i p
  -- "then for the new"
  new_torn : (cs : List Condition) (c : Condition) → WellFormed us cs → At cs i c
      → ((ds : List Condition) → ¬ WellFormed vs ds) → p ≡ no_part 20 → Handed us vs i p
  new_past : (cs : List Condition) (c : Condition) → WellFormed us cs → At cs i c → (ds : List Condition)
      → WellFormed vs ds → Past ds i → p ≡ no_part 21 → Handed us vs i p
  -- "hands back the shorter of the two as a part of the slice it stands in, the old one if equal"
  new_one : (cs : List Condition) (c : Condition) → WellFormed us cs → At cs i c → (ds : List Condition) (d : Condition)
      → WellFormed vs ds → At ds i d → sizeᶠ d.claim < sizeᶠ c.claim → p ≡ formula_part new vs ds i d → Handed us vs i p
  old_one : (cs : List Condition) (c : Condition) → WellFormed us cs → At cs i c → (ds : List Condition) (d : Condition)
      → WellFormed vs ds → At ds i d → sizeᶠ c.claim ≤ sizeᶠ d.claim → p ≡ formula_part old us cs i c → Handed us vs i p

-- found in both: the lengths compared are those of the formulas
found_both : (us vs : List ℤ) (i : ℤ) (cs : List Condition) (c : Condition) (ds : List Condition) (d : Condition) (a b : Line)
    → a ≡ line (place (start_at us cs i) c) → b ≡ line (place (start_at vs ds i) d)
    → (t : Bool) → ltb (sizeᶠ d.claim) (sizeᶠ c.claim) ≡ t
    → part_for a b ≡ cond t (formula_part new vs ds i d) (formula_part old us cs i c)
found_both us vs i cs c ds d a b e f t h =
    let s = start_at us cs i in
    let q = start_at vs ds i in
    let m : s + sizeᶠ c.claim - s ≡ sizeᶠ c.claim = omega linear in
    let n : q + sizeᶠ d.claim - q ≡ sizeᶠ d.claim = omega linear in
    rw (e, f, m, n, h)

module _ (us vs : List ℤ) (i : ℤ) where
  pub handed : Handed us vs i (shorter us vs i)
  unfolding shorter
  handed = of_old (looked us i)
    where
      of_both : (cs : List Condition) (c : Condition) → WellFormed us cs → At cs i c
          → line_at us i ≡ line (place (start_at us cs i) c)
          → (ds : List Condition) (d : Condition) → WellFormed vs ds → At ds i d
          → line_at vs i ≡ line (place (start_at vs ds i) d)
          → (t : Bool) → ltb (sizeᶠ d.claim) (sizeᶠ c.claim) ≡ t
          → Handed us vs i (part_for (line_at us i) (line_at vs i))
      of_both cs c w h e ds d v k f true t =
          new_one cs c w h ds d v k (ltb-true _ _ t) (found_both us vs i cs c ds d _ _ e f true t)
      of_both cs c w h e ds d v k f false t =
          old_one cs c w h ds d v k (ltb-false _ _ t) (found_both us vs i cs c ds d _ _ e f false t)

      of_new : (cs : List Condition) (c : Condition) → WellFormed us cs → At cs i c
          → line_at us i ≡ line (place (start_at us cs i) c)
          → Looked vs i (line_at vs i) → Handed us vs i (part_for (line_at us i) (line_at vs i))
      of_new cs c w h e (torn k f) = new_torn cs c w h k (rw (e, f))
      of_new cs c w h e (past ds v k f) = new_past cs c w h ds v k (rw (e, f))
      of_new cs c w h e (found ds d v k f) = of_both cs c w h e ds d v k f (ltb (sizeᶠ d.claim) (sizeᶠ c.claim)) refl

      of_old : Looked us i (line_at us i) → Handed us vs i (part_for (line_at us i) (line_at vs i))
      of_old (torn h e) = old_torn h (rw e)
      of_old (past cs w h e) = old_past cs w h (rw e)
      of_old (found cs c w h e) = of_new cs c w h e (looked vs i)

  pub only_part : (p : Part) → Handed us vs i p → shorter us vs i ≡ p
  unfolding shorter
  only_part p (old_torn h e) = rw (torn_line us i h, e)
  only_part p (old_past cs w h e) = rw (past_line us i cs w h, e)
  only_part p (new_torn cs c w h k e) = rw (found_line us i cs c w h, torn_line vs i k, e)
  only_part p (new_past cs c w h ds v k e) = rw (found_line us i cs c w h, past_line vs i ds v k, e)
  only_part p (new_one cs c w h ds d v k l e) =
      let a = found_line us i cs c w h in
      let b = found_line vs i ds d v k in
      found_both us vs i cs c ds d _ _ a b true (lt-ltb (sizeᶠ d.claim) (sizeᶠ c.claim) l) ∙ sym e
  only_part p (old_one cs c w h ds d v k l e) =
      let a = found_line us i cs c w h in
      let b = found_line vs i ds d v k in
      found_both us vs i cs c ds d _ _ a b false (le-ltb (sizeᶠ d.claim) (sizeᶠ c.claim) l) ∙ sym e

  pub handed_iff : (p : Part) → (shorter us vs i ≡ p) ↔ Handed us vs i p
  handed_iff p = (λ e. rw e at handed, only_part p)
