-- Rows that stand side by side in a table as parts (`Front`): of each part all rows but the last are linked, and the last,
-- its root, is not linked yet. A row that links to these roots, each once and in order, makes one part of them all
-- (`node`), and has none of the faults 2 to 6. Assumes nothing.
use Prim.Native.Nat.{ℕ, suc, ◌-◌, ◌≤◌, ◌<◌}
use native.Mathlib.Omega.{arith as linear}
use Rattle.std.proofs.Math.Decide.{ℕ_discrete}
use Rattle.std.specs.Prelude.{◌≡◌, refl, Bool, ◌&&◌, ℤ, leb, length}
use Rattle.std.proofs.Math.Path.{ap, subst}
use Rattle.std.proofs.Common.{◌∙◌, eq-eqb, ne_eqb, lt-ltb, leb-true, leb-false}
use mathlib.Core.List.{List, [], ◌∷◌, ◌++◌}
use Rattle.std.proofs.Math.Bool.{true, false}
use Rattle.script.specs.declared.Sort.{Sort}
use Rattle.script.specs.declared.Sort.TheVariants.{Unknown}
use Rattle.script.specs.Rows.{Part, parts, fields, sort_of, row}
use Rattle.script.specs.Refusals.{same_sort, member, in_range, unused_zero, all_below, well_sorted, adding, linked, all_new, row_fault, row_fault_within}
use Rattle.theorems.specs.Tests.{sort_iff}

abbrev pub part : ℕ → Sort → Part
part r s = record { at = r; sort = s }

another : (k x : ℕ) (seen : List ℕ) → ¬ (k ≡ x) → member k (x ∷ seen) ≡ member k seen
another k x seen n = rw (ne_eqb k x n)

module _ (ws : List ℤ) where
  -- whether a row below r links to row k
  abbrev pub linked_to : ℕ → ℕ → Bool
  linked_to r k = member k (linked ws r)

  -- ---- parts side by side

  -- seen from row r, the rows from a up to e are one part
  pub record Span (r a e : ℕ) (s : Sort) : Type 0 where
    pub some : a < e
    pub below : e ≤ r
    pub inner : (k : ℕ) → a ≤ k → suc k < e → linked_to r k ≡ true
    pub root : linked_to r (e - 1) ≡ false
    pub sorted : sort_of (row ws (e - 1)) ≡ s

  -- the rows from a up to z are these parts
  pub data Tiles (r : ℕ) : ℕ → ℕ → List Part → Type 0 where
    no_parts : {a : ℕ} → Tiles r a a []
    beside : {a e z : ℕ} {s : Sort} {ps : List Part} → Span r a e s → Tiles r e z ps → Tiles r a z (part (e - 1) s ∷ ps)

  tiles_rise : {r a z : ℕ} {ps : List Part} → Tiles r a z ps → a ≤ z
  tiles_rise no_parts = omega linear
  tiles_rise (beside h t) = omega (linear, h.some, tiles_rise t)

  tiles_below : {r a z : ℕ} {ps : List Part} → Tiles r a z ps → all_below ws r ps ≡ true
  tiles_below no_parts = refl
  tiles_below {r} (beside {e = e} h t) = rw (lt-ltb (e - 1) r (omega (linear, h.some, h.below))) (tiles_below t)

  tiles_sorted : {r a z : ℕ} {ps : List Part} → Tiles r a z ps → well_sorted ws ps ≡ true
  tiles_sorted no_parts = refl
  tiles_sorted (beside {e = e} {s = s} h t) = rw ((sort_iff (sort_of (row ws (e - 1))) s).1 h.sorted) (tiles_sorted t)

  -- of the rows from a on, those that rows below r link to, and no others, have been seen
  abbrev Seen : ℕ → ℕ → List ℕ → Type 0
  Seen r a seen = (k : ℕ) → a ≤ k → member k seen ≡ linked_to r k

  -- and still, when the root before e has been seen too
  seen_on : (r a e : ℕ) (s : Sort) (seen : List ℕ) → Span r a e s → Seen r a seen → Seen r e ((e - 1) ∷ seen)
  seen_on r a e s seen h same k l =
      another k (e - 1) seen (λ q. omega (linear, h.some)) ∙ same k (omega (linear, h.some))

  tiles_new : {r a z : ℕ} {ps : List Part} (seen : List ℕ) → Seen r a seen → Tiles r a z ps → all_new ws seen ps ≡ true
  tiles_new seen same no_parts = refl
  tiles_new {r} {a} seen same (beside {e = e} {s = s} h t) =
      rw (same (e - 1) (omega (linear, h.some)) ∙ h.root) (tiles_new ((e - 1) ∷ seen) (seen_on r a e s seen h same) t)

  -- ---- what is linked when a row has linked to them

  added_before : {r a z : ℕ} {ps : List Part} (seen : List ℕ) (k : ℕ) → k < a → Tiles r a z ps
      → member k (adding ws ps seen) ≡ member k seen
  added_before seen k l no_parts = refl
  added_before seen k l (beside {e = e} h t) =
      added_before ((e - 1) ∷ seen) k (omega (linear, h.some)) t ∙ another k (e - 1) seen (λ q. omega (linear, h.some))

  added_after : {r a z : ℕ} {ps : List Part} (seen : List ℕ) (k : ℕ) → z ≤ k → Tiles r a z ps
      → member k (adding ws ps seen) ≡ member k seen
  added_after seen k l no_parts = refl
  added_after seen k l (beside {e = e} h t) =
      added_after ((e - 1) ∷ seen) k l t ∙ another k (e - 1) seen (λ q. omega (linear, h.some, tiles_rise t))

  -- in the first part: its root, or a row that was linked before
  in_first : (r a e : ℕ) (s : Sort) (seen : List ℕ) (k : ℕ) → Span r a e s → Seen r a seen → a ≤ k → k < e
      → member k ((e - 1) ∷ seen) ≡ true
  in_first r a e s seen k h same l m = at_root (ℕ_discrete k (e - 1))
    where
      at_root : Dec (k ≡ e - 1) → member k ((e - 1) ∷ seen) ≡ true
      at_root (yes q) = rw (eq-eqb k (e - 1) q)
      at_root (no n) =
          let inner : suc k < e = let other : k ≡ e - 1 → ⊥ = n in omega linear in
          another k (e - 1) seen n ∙ same k l ∙ h.inner k l inner

  added_within : {r a z : ℕ} {ps : List Part} (seen : List ℕ) (k : ℕ) → Seen r a seen → a ≤ k → k < z → Tiles r a z ps
      → member k (adding ws ps seen) ≡ true
  added_within seen k same l m no_parts = absurd (omega linear)
  added_within {r} {a} {z} seen k same l m (beside {e = e} {s = s} {ps = ps} h t) =
      at_test (leb e k) refl (λ n. added_within ((e - 1) ∷ seen) k (seen_on r a e s seen h same) n m t)
    where
      at_test : (b : Bool) → leb e k ≡ b → (e ≤ k → member k (adding ws ps ((e - 1) ∷ seen)) ≡ true)
          → member k (adding ws ps ((e - 1) ∷ seen)) ≡ true
      at_test true q later = later (leb-true e k q)
      at_test false q later =
          let under = leb-false e k q in
          added_before ((e - 1) ∷ seen) k under t ∙ in_first r a e s seen k h same l under

  -- ---- a part, with all its rows

  -- nothing links to row b or beyond
  abbrev pub Above : ℕ → Type 0
  Above b = (k : ℕ) → b ≤ k → linked_to b k ≡ false

  -- the rows from b up to e are one part, and have none of the faults 2 to 6
  pub record Grown (b e : ℕ) (s : Sort) : Type 0 where
    pub some : b < e
    pub faultless : (k : ℕ) → b ≤ k → k < e → row_fault ws k ≡ 0
    pub before : (k : ℕ) → k < b → linked_to e k ≡ linked_to b k
    pub inner : (k : ℕ) → b ≤ k → suc k < e → linked_to e k ≡ true
    pub above : (k : ℕ) → e ≤ suc k → linked_to e k ≡ false
    pub sorted : sort_of (row ws (e - 1)) ≡ s

  pub grown_as : {a b e f : ℕ} {s t : Sort} → a ≡ b → e ≡ f → s ≡ t → Grown a e s → Grown b f t
  grown_as {a} {b} {e} {f} {s} {t} p q r g =
      subst (λ (n : ℕ). Grown n f t) p (subst (λ (n : ℕ). Grown a n t) q (subst (λ (u : Sort). Grown a e u) r g))

  pub above_as : {b c : ℕ} → b ≡ c → Above b → Above c
  above_as q h = subst (λ (n : ℕ). Above n) q h

  pub above_part : {b e c : ℕ} {s : Sort} → e ≡ c → Grown b e s → Above c
  above_part q g = above_as q (λ k l. g.above k (omega linear))

  -- the rows from b up to e are these parts, and have none of the faults 2 to 6
  pub record Front (b e : ℕ) (ps : List Part) : Type 0 where
    pub tiles : Tiles e b e ps
    pub faultless : (k : ℕ) → b ≤ k → k < e → row_fault ws k ≡ 0
    pub before : (k : ℕ) → k < b → linked_to e k ≡ linked_to b k
    pub above : Above e

  pub no_front : (b : ℕ) → Above b → Front b b []
  no_front b h = record { tiles = no_parts; faultless = λ k l m. absurd (omega linear); before = λ k l. refl; above = h }

  -- seen from a later row
  tiles_later : (r : ℕ) {a z : ℕ} {ps : List Part} (q : ℕ) → r ≤ q → ((k : ℕ) → k < r → linked_to q k ≡ linked_to r k)
      → Tiles r a z ps → Tiles q a z ps
  tiles_later r q l same no_parts = no_parts
  tiles_later r q l same (beside {e = e} h t) =
      beside (record {
        some = h.some;
        below = omega (linear, h.below);
        inner = λ k m n. same k (omega (linear, h.below)) ∙ h.inner k m n;
        root = same (e - 1) (omega (linear, h.some, h.below)) ∙ h.root;
        sorted = h.sorted;
      }) (tiles_later r q l same t)

  tiles_add : {r a e z : ℕ} {s : Sort} {ps : List Part} → Tiles r a e ps → Span r e z s → Tiles r a z (ps ++ (part (z - 1) s ∷ []))
  tiles_add no_parts h = beside h no_parts
  tiles_add (beside g t) h = beside g (tiles_add t h)

  add : {b e z : ℕ} {s : Sort} {ps : List Part} → Front b e ps → Grown e z s → Front b z (ps ++ (part (z - 1) s ∷ []))
  add {b} {e} {z} {s} f g =
      let here : Span z e z s = record {
        some = g.some;
        below = omega linear;
        inner = g.inner;
        root = g.above (z - 1) (omega (linear, g.some));
        sorted = g.sorted;
      } in
      let rise = tiles_rise f.tiles in
      record {
        tiles = tiles_add (tiles_later e z (omega (linear, g.some)) g.before f.tiles) here;
        faultless = λ k l m. at_test k l m (leb e k) refl;
        before = λ k l. g.before k (omega linear) ∙ f.before k l;
        above = λ k l. g.above k (omega linear);
      }
    where
      at_test : (k : ℕ) → b ≤ k → k < z → (t : Bool) → leb e k ≡ t → row_fault ws k ≡ 0
      at_test k l m true q = g.faultless k (leb-true e k q) m
      at_test k l m false q = f.faultless k l (leb-false e k q)

  pub with_part : {b e c z : ℕ} {s : Sort} {ps : List Part} → Front b e ps → e ≡ c → Grown c z s → Front b z (ps ++ (part (z - 1) s ∷ []))
  with_part {b} {e} {c} {z} {s} {ps} f q g = add (subst (λ (n : ℕ). Front b n ps) q f) g

  -- ---- a row over parts

  -- what the tests 2 and 3 ask of row r, with its parts and its sort
  pub record SoundAt (r : ℕ) (ps : List Part) (s : Sort) : Type 0 where
    pub parts_are : parts (row ws r) ≡ ps
    pub sort_is : sort_of (row ws r) ≡ s
    pub known : same_sort s Unknown ≡ false
    pub ranged : (in_range ws (fields (row ws r)) && unused_zero ws r (length (fields (row ws r)))) ≡ true

  no_fault : (b r : ℕ) (ps : List Part) (s : Sort) → Front b r ps → SoundAt r ps s → row_fault ws r ≡ 0
  unfolding row_fault_within
  no_fault b r ps s f h =
      let known : same_sort (sort_of (row ws r)) Unknown ≡ false = ap (λ (t : Sort). same_sort t Unknown) h.sort_is ∙ h.known in
      let below : all_below ws r (parts (row ws r)) ≡ true = ap (all_below ws r) h.parts_are ∙ tiles_below f.tiles in
      let sorted : well_sorted ws (parts (row ws r)) ≡ true = ap (well_sorted ws) h.parts_are ∙ tiles_sorted f.tiles in
      let new : all_new ws (linked ws r) (parts (row ws r)) ≡ true =
      ap (all_new ws (linked ws r)) h.parts_are ∙ tiles_new (linked ws r) (λ k l. refl) f.tiles in
      rw (known, h.ranged, below, sorted, new)

  pub node : {b r e : ℕ} {ps : List Part} {s : Sort} → Front b e ps → e ≡ r → SoundAt r ps s → Grown b (suc r) s
  unfolding linked
  node {b} {r} {e} {ps} {s} early q h =
      let f : Front b r ps = subst (λ (n : ℕ). Front b n ps) q early in
      let next : linked ws (suc r) ≡ adding ws ps (linked ws r) = ap (λ (l : List Part). adding ws l (linked ws r)) h.parts_are in
      let last : suc r - 1 ≡ r = omega linear in
      let rise = tiles_rise f.tiles in
      record {
        some = omega linear;
        faultless = λ k l m. at_test f k l m (ℕ_discrete k r);
        before = λ k l. ap (member k) next ∙ added_before (linked ws r) k l f.tiles ∙ f.before k l;
        inner = λ k l m. ap (member k) next ∙ added_within (linked ws r) k (λ j i. refl) l (omega linear) f.tiles;
        above = λ k l. ap (member k) next ∙ added_after (linked ws r) k (omega linear) f.tiles ∙ f.above k (omega linear);
        sorted = ap (λ (n : ℕ). sort_of (row ws n)) last ∙ h.sort_is;
      }
    where
      at_test : Front b r ps → (k : ℕ) → b ≤ k → k < suc r → Dec (k ≡ r) → row_fault ws k ≡ 0
      at_test f k l m (yes p) = ap (row_fault ws) p ∙ no_fault b r ps s f h
      at_test f k l m (no n) = let other : k ≡ r → ⊥ = n in f.faultless k l (omega linear)
