-- Which names occur, noted in a run of bytes, a byte for each name: variables first, then marks. In this order: the place of a
-- name, a run in which names are noted, the places past the last ones noted, the declarations of the names that are; then that
-- these are the declarations of a script (`declared_noted`): one law for a kind of name, cited for variables and marks. Assumes
-- nothing.
use Prim.Native.Nat.{ℕ, zero, suc, ◌+◌, ◌-◌, ◌≤◌, ◌<◌}
use Rattle.std.specs.Prelude.{◌≡◌, Bool, true, false, cond, ◌||◌, eqb, ltb, length, get_or, set, replicate}
use Rattle.std.proofs.Math.Path.{refl}
use Rattle.std.proofs.Common.{sym, ap, ◌∙◌, add-zero, add-suc, zero-add, lt-ltb, le-ltb, eq-eqb, ne_eqb, eqb-true, ltb-true, ltb-false, get_or-set_same, get_or-set_other}
use Rattle.std.proofs.Math.Option.{Option, none, some}
use mathlib.Core.List.Memᴰ
use mathlib.Core.List.{List, [], ◌∷◌, ◌++◌, map, append-nil, map-append, Memᴰ}
use native.Mathlib.Omega.{arith as linear}
use Rattle.std.proofs.lemmas.Bool.{eqb-false}
use Rattle.std.proofs.Math.ListN.{length-set}
use Rattle.std.proofs.lemmas.List.{length-replicate}
use Rattle.script.specs.Rows.{variables}
use Rattle.script.specs.Listing.{row_limit}
use Rattle.smt.specs.Translate.{Reference, variable, mark, same_reference, refers, occurring, declared_references}
use Rattle.theorems.specs.Options.{none_is_not, some_inj}
use Rattle.smt.specs.Symbols.{either}
use Rattle.smt.specs.Occurring.{refers_in}
use Rattle.smt.specs.Declared.{Ranged, AllRanged}
use Rattle.smt.specs.Pieces.{declaration_text, declarations_text, declarations_append}

-- how many names there are
abbrev pub names : ℕ
names = variables + row_limit

abbrev pub place_of : Reference → ℕ
place_of (variable v) = v
place_of (mark m) = variables + m

abbrev pub reference_at : ℕ → Reference
reference_at k = cond (ltb k variables) (variable k) (mark (k - variables))

-- ---- a run in which names are noted

unfoldable pub noted : List Reference → List ℕ → List ℕ
noted [] l = l
noted (r ∷ rs) l = noted rs (set l (place_of r) 1)

pub noted_length : (rs : List Reference) (l : List ℕ) → length (noted rs l) ≡ length l
unfolding noted
noted_length [] l = refl
noted_length (r ∷ rs) l = noted_length rs (set l (place_of r) 1) ∙ length-set l (place_of r) 1

-- the place of a variable, and of a mark
abbrev pub variable_place : Reference → Option ℕ
variable_place (variable v) = some v
variable_place (mark m) = none

abbrev pub mark_place : Reference → Option ℕ
mark_place (variable v) = none
mark_place (mark m) = some (variables + m)

-- the place past a place and past the last one before
abbrev pub past : ℕ → ℕ → ℕ
past k top = cond (ltb k top) top (k + 1)

abbrev pub past_place : Option ℕ → ℕ → ℕ
past_place none top = top
past_place (some k) top = past k top

-- the place past the last variable, or mark, of rs
unfoldable pub top_of : (Reference → Option ℕ) → List Reference → ℕ → ℕ
top_of place [] top = top
top_of place (r ∷ rs) top = top_of place rs (past_place (place r) top)

-- ---- the declarations of the names noted at n places from a first one on

abbrev pub declared_if : Bool → ℕ → List ℕ
declared_if b k = cond b [] (declaration_text (reference_at k))

unfoldable pub declared_from : List ℕ → ℕ → ℕ → List ℕ
declared_from l first zero = []
declared_from l first (suc n) = declared_from l first n ++ declared_if (eqb (get_or l (first + n) 0) 0) (first + n)

pub declared_none : (l : List ℕ) (first : ℕ) → declared_from l first (first - first) ≡ []
unfolding declared_from
declared_none l first = let none : first - first ≡ 0 = omega linear in rw none

pub declared_more : (l : List ℕ) (first k : ℕ) → first ≤ k
    → declared_from l first (k + 1 - first) ≡ declared_from l first (k - first) ++ declared_if (eqb (get_or l k 0) 0) k
unfolding declared_from
declared_more l first k h =
    let one : k + 1 - first ≡ suc (k - first) = omega linear in
    let here : first + (k - first) ≡ k = omega linear in
    rw one (ap (λ n. declared_from l first (k - first) ++ declared_if (eqb (get_or l n 0) 0) n) here)

-- ---- what is noted is what occurs

same_test : (a b c d : ℕ) → (a ≡ b → c ≡ d) → (c ≡ d → a ≡ b) → eqb a b ≡ eqb c d
same_test a b c d f g = by_test (eqb c d) refl
  where
    by_test : (t : Bool) → eqb c d ≡ t → eqb a b ≡ t
    by_test true e = eq-eqb a b (g (eqb-true c d e))
    by_test false e = ne_eqb a b (λ h. eqb-false c d e (f h))

same_place : (k : ℕ) (r : Reference) → Ranged r → same_reference (reference_at k) r ≡ eqb k (place_of r)
same_place k r h = by_place (ltb k variables) refl r h
  where
    by_place : (b : Bool) → ltb k variables ≡ b → (r : Reference) → Ranged r
        → same_reference (cond b (variable k) (mark (k - variables))) r ≡ eqb k (place_of r)
    by_place true e (variable v) h = refl
    by_place true e (mark m) h = let l = ltb-true k variables e in sym (ne_eqb k (variables + m) (λ d. omega linear))
    by_place false e (variable v) h = let l = ltb-false k variables e in sym (ne_eqb k v (λ d. omega linear))
    by_place false e (mark m) h = let l = ltb-false k variables e in same_test (k - variables) m k (variables + m) (λ d. omega linear) (λ d. omega linear)

place_low : (r : Reference) → Ranged r → place_of r < names
place_low (variable v) h = omega linear
place_low (mark m) h = omega linear

module _ (k : ℕ) where
  noted_one : (r : Reference) (l : List ℕ) → Ranged r → names ≤ length l → (b : Bool)
      → cond b 1 (get_or (set l (place_of r) 1) k 0) ≡ cond (same_reference (reference_at k) r || b) 1 (get_or l k 0)
  noted_one r l h n b = rw (same_place k r h) (by_place (eqb k (place_of r)) refl b)
    where
      by_place : (t : Bool) → eqb k (place_of r) ≡ t → (b : Bool)
          → cond b 1 (get_or (set l (place_of r) 1) k 0) ≡ cond (t || b) 1 (get_or l k 0)
      by_place true e true = refl
      by_place true e false =
          let i = eqb-true k (place_of r) e in
          let low = place_low r h in
          rw i (get_or-set_same l (place_of r) 1 0 (omega linear))
      by_place false e true = refl
      by_place false e false = get_or-set_other l (place_of r) k 1 0 (eqb-false k (place_of r) e)

  noted_at : (rs : List Reference) (l : List ℕ) → AllRanged rs → names ≤ length l
      → get_or (noted rs l) k 0 ≡ cond (refers (reference_at k) rs) 1 (get_or l k 0)
  unfolding noted
  noted_at [] l h n = refl
  noted_at (r ∷ rs) l h n =
      noted_at rs (set l (place_of r) 1) (λ q m. h q (Memᴰ.tail m)) (rw length-set n)
      ∙ noted_one r l (h r (Memᴰ.head refl)) n (refers (reference_at k) rs)

no_flag : (n k : ℕ) → get_or {A = ℕ} (replicate n 0) k 0 ≡ 0
no_flag zero k = refl
no_flag (suc n) zero = refl
no_flag (suc n) (suc k) = no_flag n k

-- the run in which the names of rs are noted
abbrev pub all_noted : List Reference → List ℕ
all_noted rs = noted rs (replicate names 0)

flag_at : (rs : List Reference) (k : ℕ) → AllRanged rs → get_or (all_noted rs) k 0 ≡ cond (refers (reference_at k) rs) 1 0
flag_at rs k h = noted_at k rs (replicate names 0) h (rw length-replicate (omega linear)) ∙ ap (λ d. cond (refers (reference_at k) rs) 1 d) (no_flag names k)

-- ---- past the last one noted, nothing is

module _ (k top : ℕ) where
  past_grows : (top ≤ past k top) × (k < past k top)
  past_grows = by_test (ltb k top) refl
    where
      by_test : (b : Bool) → ltb k top ≡ b → (top ≤ cond b top (k + 1)) × (k < cond b top (k + 1))
      by_test true e = let l = ltb-true k top e in (omega linear, omega linear)
      by_test false e = let l = ltb-false k top e in (omega linear, omega linear)

  past_low : (n : ℕ) → k < n → top ≤ n → past k top ≤ n
  past_low n h g = by_test (ltb k top)
    where
      by_test : (b : Bool) → cond b top (k + 1) ≤ n
      by_test true = g
      by_test false = omega linear

module _ (place : Reference → Option ℕ) where
  place_grows : (o : Option ℕ) (top : ℕ) → top ≤ past_place o top
  place_grows none top = omega linear
  place_grows (some k) top = (past_grows k top).0

  top_grows : (rs : List Reference) (top : ℕ) → top ≤ top_of place rs top
  unfolding top_of
  top_grows [] top = omega linear
  top_grows (r ∷ rs) top = let n = top_grows rs (past_place (place r) top) in let m = place_grows (place r) top in omega linear

  top_above : (rs : List Reference) (top : ℕ) (r : Reference) (k : ℕ) → Memᴰ r rs → place r ≡ some k → k < top_of place rs top
  unfolding top_of
  top_above [] top r k m e = absurd (Memᴰ.not-nil m)
  top_above (q ∷ rs) top r k m e =
      either (Memᴰ.cases_cons m) (λ d. first (place q) (ap place (sym d) ∙ e)) (λ l. top_above rs (past_place (place q) top) r k l e)
    where
      first : (o : Option ℕ) → o ≡ some k → k < top_of place rs (past_place o top)
      first none d = none_is_not d
      first (some n) d =
          let g = (past_grows n top).1 in let m = top_grows rs (past n top) in let s = some_inj d in omega linear

  top_low : (rs : List Reference) (top n : ℕ) → ((r : Reference) (k : ℕ) → Memᴰ r rs → place r ≡ some k → k < n) → top ≤ n
      → top_of place rs top ≤ n
  unfolding top_of
  top_low [] top n h g = g
  top_low (r ∷ rs) top n h g =
      top_low rs (past_place (place r) top) n (λ q k m. h q k (Memᴰ.tail m)) (first (place r) (λ k. h r k (Memᴰ.head refl)))
    where
      first : (o : Option ℕ) → ((k : ℕ) → o ≡ some k → k < n) → past_place o top ≤ n
      first none f = g
      first (some k) f = past_low k top n (f k refl) g

-- ---- the declarations: of the variables, and of the marks

none_declared : (l : List ℕ) (first n j : ℕ) → ((i : ℕ) → n ≤ i → i < n + j → get_or l (first + i) 0 ≡ 0)
    → declared_from l first (n + j) ≡ declared_from l first n
unfolding declared_from
none_declared l first n zero h = rw add-zero
none_declared l first n (suc j) h =
    rw (add-suc, h (n + j) (omega linear) (omega linear), append-nil) (none_declared l first n j (λ i a b. h i a (omega linear)))

module _ (rs : List Reference) (ranged : AllRanged rs) where
  -- the kind of name that stands at the places from `first` on, limit of them, and the place of a name of this kind
  module _ (kind : ℕ → Reference) (place : Reference → Option ℕ) (first limit : ℕ)
      (here : (n : ℕ) → n < limit → reference_at (first + n) ≡ kind n) (placed : (n : ℕ) → place (kind n) ≡ some (first + n))
      (low : (r : Reference) (k : ℕ) → Ranged r → place r ≡ some k → k < first + limit) where
    one : (b : Bool) (n : ℕ) → declared_if (eqb (cond b 1 0) 0) n ≡ declarations_text (cond b (reference_at n ∷ []) [])
    one true n = sym (append-nil (declaration_text (reference_at n)))
    one false n = refl

    map_one : (b : Bool) (n : ℕ) → map kind (cond b (n ∷ []) []) ≡ cond b (kind n ∷ []) []
    map_one true n = refl
    map_one false n = refl

    all_declared : (n : ℕ) → n ≤ limit → declared_from (all_noted rs) first n ≡ declarations_text (map kind (occurring kind n rs))
    unfolding declared_from occurring
    all_declared zero h = refl
    all_declared (suc n) h =
        rw (
          flag_at rs (first + n) ranged,
          one (refers (reference_at (first + n)) rs) (first + n),
          here n (omega linear),
          map-append kind (occurring kind n rs) (cond (refers (kind n) rs) (n ∷ []) []),
          map_one (refers (kind n) rs) n,
          declarations_append (map kind (occurring kind n rs)) (cond (refers (kind n) rs) (kind n ∷ []) []),
        )
        (ap (λ (l : List ℕ). l ++ declarations_text (cond (refers (kind n) rs) (kind n ∷ []) [])) (all_declared n (omega linear)))

    top_within : top_of place rs 0 ≤ first + limit
    top_within = top_low place rs 0 (first + limit) (λ r k m e. low r k (ranged r m) e) (omega linear)

    -- no name of this kind is noted at the top or past it
    none_past : (n : ℕ) → n < limit → top_of place rs 0 ≤ first + n → get_or (all_noted rs) (first + n) 0 ≡ 0
    none_past n l h = flag_at rs (first + n) ranged ∙ by_test (refers (reference_at (first + n)) rs) refl
      where
        by_test : (b : Bool) → refers (reference_at (first + n)) rs ≡ b → ◌≡◌ {A = ℕ} (cond b 1 0) 0
        by_test true e =
            let m = refers_in (kind n) rs (ap (λ r. refers r rs) (sym (here n l)) ∙ e) in
            let above = top_above place rs 0 (kind n) (first + n) m (placed n) in
            absurd (omega linear)
        by_test false e = refl

    declared_kind : declared_from (all_noted rs) first (top_of place rs 0 - first) ≡ declarations_text (map kind (occurring kind limit rs))
    declared_kind =
        let n = top_of place rs 0 - first in
        let top = top_within in
        let all : n + (limit - n) ≡ limit = omega linear in
        sym (none_declared (all_noted rs) first n (limit - n) (λ i a b. none_past i (omega linear) (omega linear)))
        ∙ ap (declared_from (all_noted rs) first) all ∙ all_declared limit (omega linear)

  variable_here : (n : ℕ) → n < variables → reference_at (0 + n) ≡ variable n
  variable_here n h = rw (zero-add, lt-ltb n variables h)

  mark_here : (n : ℕ) → n < row_limit → reference_at (variables + n) ≡ mark n
  mark_here n h = rw (le-ltb (variables + n) variables (omega linear)) (ap mark (omega linear))

  variable_low : (r : Reference) (k : ℕ) → Ranged r → variable_place r ≡ some k → k < 0 + variables
  variable_low (variable v) k h e = let s = some_inj e in omega linear
  variable_low (mark m) k h e = none_is_not e

  mark_low : (r : Reference) (k : ℕ) → Ranged r → mark_place r ≡ some k → k < variables + row_limit
  mark_low (variable v) k h e = none_is_not e
  mark_low (mark m) k h e = let s = some_inj e in omega linear

  pub variables_within : top_of variable_place rs 0 ≤ names
  variables_within =
      let h = top_within variable variable_place 0 variables variable_here (λ n. ap some (sym (zero-add n))) variable_low in omega linear

  pub marks_within : top_of mark_place rs 0 ≤ names
  marks_within = top_within mark mark_place variables row_limit mark_here (λ n. refl) mark_low

  -- those noted below the two tops are the declarations of the script
  pub declared_noted : declared_from (all_noted rs) 0 (top_of variable_place rs 0 - 0) ++ declared_from (all_noted rs) variables (top_of mark_place rs 0 - variables)
      ≡ declarations_text (declared_references rs)
  declared_noted =
      rw (
        declared_kind variable variable_place 0 variables variable_here (λ n. ap some (sym (zero-add n))) variable_low,
        declared_kind mark mark_place variables row_limit mark_here (λ n. refl) mark_low,
      )
      (sym (declarations_append (map variable (occurring variable variables rs)) (map mark (occurring mark row_limit rs))))
