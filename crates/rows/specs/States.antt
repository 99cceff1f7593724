-- The states of the rows, which the code keeps in an array: the letter of the sort, 32 higher once the row is linked; a field
-- that is tried by its letter, and a row by its three fields. Assumes nothing.
use Rattle.std.specs.Prelude.{ℕ, suc, ◌+◌, ◌*◌, ◌≤◌, ◌<◌, ◌≡◌, refl, ◌≢◌, Bool, true, false, cond, ◌&&◌, ◌||◌, List, [], ◌∷◌, T, eqb, ℤ, length, get_or, set}
use Rattle.std.proofs.Math.Path.{sym, ap}
use Rattle.std.proofs.Common.{◌∙◌, inl, inr, arith as linear, eqb→eq, add-zero, length-set, get_or-set_same, get_or-set_other}
use Rattle.std.proofs.Math.Decide.{ℕ_discrete}
use borrow.Author.Tests.{eq-eqb, ne_eqb, lt-ltb, le-ltb}
use Rattle.script.specs.declared.Sort.TheVariants.{Unknown}
use Rattle.script.specs.Laws.{row_is}
use Rattle.script.specs.Rows.{field_number, fields, row_of, sort_of, rows, row, word}
use Rattle.script.specs.Refusals.{linked, member, row_fault, row_fault_within, same_sort}
use Rattle.theorems.specs.Accepted.{both}
use Rattle.rows.specs.Patterns.{Asked, cell, cells, adds, blank, by_kind, capital, letter, limited, linking, none_zero, of_cells, of_row, pattern, patterns, proper, same_letter, sort_for, unlisted}
use Rattle.rows.specs.Faults.{Passed, Same, after, afters_same, fault, faults, faults_are, first, first_none}

-- ---- the size of a table

pub record Sized (t : List ℤ) : Type 0 where
  pub filled : 0 < rows t
  pub fours : length t ≡ 4 * rows t
  pub short : rows t ≤ 2048

pub in_table : {t : List ℤ} {r : ℕ} → Sized t → r < rows t → 4 * r + 3 < length t
in_table {t} s h = let e = s.fours in omega linear

-- ---- the states of the rows

abbrev state : ℕ → Bool → ℕ
state x m = cond m (x + 32) x

-- the rows below r, of which those in xs are linked
pub record States (t : List ℤ) (r : ℕ) (xs : List ℕ) (s : List ℕ) : Type 0 where
  pub long : length s ≡ 2048
  pub at : (k : ℕ) → k < r → get_or s k 0 ≡ state (letter (sort_of (row t k))) (member k xs)
  pub lower : (k : ℕ) → r ≤ k → member k xs ≡ false

pub states_none : {t : List ℤ} {s : List ℕ} → length s ≡ 2048 → States t 0 [] s
states_none h = record { long = h; at = λ k b. absurd (omega linear); lower = λ k b. refl }

states_same : {t : List ℤ} {r : ℕ} {xs ys s : List ℕ} → Same xs ys → States t r xs s → States t r ys s
states_same {t} same sh = record {
  long = sh.long;
  at = λ k b. sh.at k b ∙ ap (state (letter (sort_of (row t k)))) (same k);
  lower = λ k b. sym (same k) ∙ sh.lower k b;
}

module _ {t : List ℤ} {r : ℕ} {xs s : List ℕ} (sh : States t r xs s) where
  -- a row that is linked now
  states_link : (a : ℕ) → a < r → r ≤ 2048 → States t r (a ∷ xs) (set s a (letter (sort_of (row t a)) + 32))
  states_link a h b = record {
    long = length-set s a _ ∙ sh.long;
    at = λ k l. go k l (ℕ_discrete k a);
    lower = λ k l. rw (ne_eqb k a (λ e. omega linear)) (sh.lower k l);
  }
    where
      go : (k : ℕ) → k < r → Dec (k ≡ a)
          → get_or (set s a (letter (sort_of (row t a)) + 32)) k 0 ≡ state (letter (sort_of (row t k))) (eqb k a || member k xs)
      go k l (yes e) = rw (e, eq-eqb a a refl, get_or-set_same s a (letter (sort_of (row t a)) + 32) 0 (omega (linear, sh.long)))
      go k l (no d) = rw (ne_eqb k a d, get_or-set_other s a k (letter (sort_of (row t a)) + 32) 0 d) (sh.at k l)

  -- row r itself, which nothing links to yet
  pub states_row : r < 2048 → States t (suc r) xs (set s r (letter (sort_of (row t r))))
  states_row b = record {
    long = length-set s r _ ∙ sh.long;
    at = λ k l. go k l (ℕ_discrete k r);
    lower = λ k l. sh.lower k (omega linear);
  }
    where
      go : (k : ℕ) → k < suc r → Dec (k ≡ r)
          → get_or (set s r (letter (sort_of (row t r)))) k 0 ≡ state (letter (sort_of (row t k))) (member k xs)
      go k l (yes e) = rw (e, sh.lower r (omega linear), get_or-set_same s r (letter (sort_of (row t r))) 0 (omega (linear, sh.long)))
      go k l (no d) = rw (get_or-set_other s r k (letter (sort_of (row t r))) 0 d) (sh.at k (omega linear))

-- ---- a field that is tried: x is its letter, k its number

pub record Tried (s : List ℕ) (r n x k f : ℕ) (s' : List ℕ) : Type 0 where
  pub at : (t : List ℤ) (xs : List ℕ) → n ≡ rows t → T (proper x) → States t r xs s
      → (f ≡ fault t r xs (cell x k)) × States t r (after t r xs (cell x k)) s'

module _ {s : List ℕ} {r : ℕ} (n x k : ℕ) {q : Bool} (h : 95 ≤ x) (e : q ≡ limited n (cell x k) && blank (cell x k)) where
  pub name_in : q ≡ true → Tried s r n x k 0 s
  name_in g = record { at = λ t xs m p sh. rw (← m, le-ltb x 95 h, ← rw (le-ltb x 95 h) at e, g) (refl, sh) }

  pub name_out : q ≡ false → Tried s r n x k 3 s
  name_out g = record { at = λ t xs m p sh. rw (← m, le-ltb x 95 h, ← rw (le-ltb x 95 h) at e, g) (refl, sh) }

-- ---- a link: to row k, whose state was looked up

abbrev found : List ℤ → ℕ → Bool → ℕ
found t k m = state (letter (sort_of (row t k))) m

-- the letter of a link, and what the state says of the linked row
module _ {x : ℕ} (p : T (proper x)) (h : x < 95) where
  its_letter : letter (sort_for x) ≡ x
  its_letter = go (rw (lt-ltb x 95 h) at p)
    where
      go : T (eqb (letter (sort_for x)) x) → letter (sort_for x) ≡ x
      go g = eqb→eq (letter (sort_for x)) x g

  sort_test : (t : List ℤ) (k : ℕ) → same_sort (sort_of (row t k)) (sort_for x) ≡ eqb (letter (sort_of (row t k))) x
  sort_test t k = sym (same_letter (sort_of (row t k)) (sort_for x)) ∙ ap (eqb (letter (sort_of (row t k)))) its_letter

  -- the state is the letter: the row has the sort, and is not linked
  as_letter : (t : List ℤ) (k : ℕ) (m : Bool) → found t k m ≡ x → (letter (sort_of (row t k)) ≡ x) × (m ≡ false)
  as_letter t k true e = let a = capital (sort_of (row t k)) in absurd (omega linear)
  as_letter t k false e = (e, refl)

  -- 32 above it: the row is linked
  as_linked : (t : List ℤ) (k : ℕ) (m : Bool) → found t k m ≡ x + 32 → (letter (sort_of (row t k)) ≡ x) × (m ≡ true)
  as_linked t k true e = (omega linear, refl)
  as_linked t k false e =
      let a = capital (sort_of (row t k)) in
      let b = capital (sort_for x) in
      absurd (omega (linear, its_letter))

  as_other : (t : List ℤ) (k : ℕ) (m : Bool) → found t k m ≢ x → found t k m ≢ x + 32 → letter (sort_of (row t k)) ≢ x
  as_other t k true a b e = b (omega linear)
  as_other t k false a b e = a e

link : (x : ℕ) → x < 95 → linking x ≡ true
link x h = lt-ltb x 95 h

no_blank : (x : ℕ) → x < 95 → eqb x 95 ≡ false
no_blank x h = ne_eqb x 95 (λ d. omega linear)

module _ {s : List ℕ} {r n x k : ℕ} (b : r ≤ 2048) (h : x < 95) where
  pub link_rises : r ≤ k → Tried s r n x k 4 s
  link_rises g = record { at = λ t xs m p sh. rw (link x h, no_blank x h, le-ltb k r g) (refl, sh) }

  module _ (g : k < r) where
    pub link_taken : get_or s k 0 ≡ x → Tried s r n x k 0 (set s k (x + 32))
    link_taken d = record {
      at = λ t xs m p sh.
          let w = as_letter p h t k (member k xs) (sym (sh.at k g) ∙ d) in
          rw (link x h, no_blank x h, lt-ltb k r g, sort_test p h t k, eq-eqb _ x w.0, w.1)
          (refl, rw w.0 at (states_link sh k g b));
    }

    pub link_twice : get_or s k 0 ≡ x + 32 → Tried s r n x k 6 s
    link_twice d = record {
      at = λ t xs m p sh.
          let w = as_linked p h t k (member k xs) (sym (sh.at k g) ∙ d) in
          rw (link x h, no_blank x h, lt-ltb k r g, sort_test p h t k, eq-eqb _ x w.0, w.1) (refl, sh);
    }

    pub link_other : get_or s k 0 ≢ x → get_or s k 0 ≢ x + 32 → Tried s r n x k 5 s
    link_other d d' = record {
      at = λ t xs m p sh.
          let w = as_other p h t k (member k xs) (λ y. d (sh.at k g ∙ y)) (λ y. d' (sh.at k g ∙ y)) in
          rw (link x h, no_blank x h, lt-ltb k r g, sort_test p h t k, ne_eqb _ x w) (refl, sh);
    }

-- ---- a row

-- the letter of the sort, as the code reads it
pub sort_letter : {ps : List ℕ} (n : ℕ) → ps ≡ patterns → get_or ps (4 * n) 0 ≡ pattern n 0
sort_letter n e = rw (e, add-zero)

pub record Ready (t : List ℤ) (r : ℕ) (s : List ℕ) : Type 0 where
  pub size : Sized t
  pub inside : r < rows t
  pub shown : States t r (linked t r) s

pub record Tested (t : List ℤ) (r f : ℕ) (s : List ℕ) : Type 0 where
  pub is : f ≡ row_fault t r
  pub shown : Passed f → States t (suc r) (linked t (suc r)) s

no_pass : {A : Type 0} → Passed 2 → A
no_pass (inl e) = absurd (omega linear)
no_pass (inr e) = absurd (omega linear)

module _ (t : List ℤ) (r : ℕ) {n : ℕ} (e : n ≡ field_number (word t r 0)) where
  pub unlisted_row : {s : List ℕ} → 48 < n → Tested t r 2 s
  unfolding row_fault_within
  unlisted_row h =
      let w = sym (row_is t r) ∙ unlisted (field_number (word t r 0)) (word t r 1) (word t r 2) (word t r 3) (omega linear) in
      record { is = rw w; shown = no_pass }

  module _ (h : n < 49) where
    rule : of_row t r (linked t r) (row t r) (word t r 1) (word t r 2) (word t r 3)
        ≡ of_cells t r (linked t r) n (cells n (word t r 1) (word t r 2) (word t r 3))
    rule =
        let is : row_of n (word t r 1) (word t r 2) (word t r 3) ≡ row t r = rw e (row_is t r) in
        rw is at (by_kind t r (linked t r) n (word t r 1) (word t r 2) (word t r 3) h)

    its_sort : letter (sort_of (row t r)) ≡ pattern n 0
    its_sort = ap (λ (q : Asked t r (linked t r)). q.sort) rule

    known_test : same_sort (sort_of (row t r)) Unknown ≡ eqb (pattern n 0) 85
    known_test = sym (same_letter (sort_of (row t r)) Unknown) ∙ ap (λ (x : ℕ). eqb x 85) its_sort

    pub unknown_row : {s : List ℕ} {x : ℕ} → x ≡ pattern n 0 → x ≡ 85 → Tested t r 2 s
    unfolding row_fault_within
    unknown_row g d = record { is = rw (known_test, eq-eqb (pattern n 0) 85 (sym g ∙ d)); shown = no_pass }

    fault_is : pattern n 0 ≢ 85 → faults t r (linked t r) (cells n (word t r 1) (word t r 2) (word t r 3)) ≡ row_fault t r
    unfolding row_fault_within
    fault_is d =
        rw (
          known_test,
          ne_eqb (pattern n 0) 85 d,
          ap (λ (q : Asked t r (linked t r)). q.ranges) rule,
          sym (none_zero (length (fields (row t r))) (word t r 1) (word t r 2) (word t r 3)),
          ap (λ (q : Asked t r (linked t r)). q.blanks) rule,
          ap (λ (q : Asked t r (linked t r)). q.lower) rule,
          ap (λ (q : Asked t r (linked t r)). q.sorts) rule,
          ap (λ (q : Asked t r (linked t r)). q.new) rule,
        )
        (faults_are t r (linked t r) (cells n (word t r 1) (word t r 2) (word t r 3)))

    linked_are : adds (linked t r) (cells n (word t r 1) (word t r 2) (word t r 3)) ≡ linked t (suc r)
    unfolding linked
    linked_are = sym (ap (λ (q : Asked t r (linked t r)). q.linked) rule)

    letters : T (proper (pattern n 1)) × (T (proper (pattern n 2)) × T (proper (pattern n 3)))
    letters =
        let p : T (proper (pattern n 1) && (proper (pattern n 2) && (proper (pattern n 3) && true))) = rw (← ap (λ (q : Asked t r (linked t r)). q.proper) rule) tt in
        let a = both (proper (pattern n 1)) (proper (pattern n 2) && (proper (pattern n 3) && true)) p in
        let b = both (proper (pattern n 2)) (proper (pattern n 3) && true) a.1 in
        (a.0, (b.0, (both (proper (pattern n 3)) true b.1).0))

    pub row_tested : {x m fa fb fc g f : ℕ} {s s₁ s₂ s₃ : List ℕ} → Ready t r s → x ≡ pattern n 0 → x ≢ 85 → m ≡ rows t
        → Tried s r m (pattern n 1) (field_number (word t r 1)) fa s₁ → Tried s₁ r m (pattern n 2) (field_number (word t r 2)) fb s₂
        → Tried s₂ r m (pattern n 3) (field_number (word t r 3)) fc s₃ → g ≡ first fb fc → f ≡ first fa g → Tested t r f (set s₃ r x)
    row_tested {f = f} ok ex d k a b c eg ef =
        let xs = linked t r in
        let ca = cell (pattern n 1) (field_number (word t r 1)) in
        let cb = cell (pattern n 2) (field_number (word t r 2)) in
        let cc' = cell (pattern n 3) (field_number (word t r 3)) in
        let x = a.at t xs k letters.0 ok.shown in
        let y = b.at t (after t r xs ca) k letters.1.0 x.1 in
        let z = c.at t (after t r (after t r xs ca) cb) k letters.1.1 y.1 in
        let is : f ≡ faults t r xs (ca ∷ cb ∷ cc' ∷ []) = rw (ef, eg, x.0, y.0, z.0, first_none (fault t r (after t r (after t r xs ca) cb) cc')) in
        let i = ok.inside in
        let j = ok.size.short in
        record {
          is = is ∙ fault_is (λ o. d (ex ∙ o));
          shown = λ o.
              rw (its_sort ∙ sym ex, linked_are) at (states_row {xs = adds xs (ca ∷ cb ∷ cc' ∷ [])} (states_same (afters_same t r xs xs (ca ∷ cb ∷ cc' ∷ []) (λ m. refl) (rw is at o)) z.1) (omega linear));
        }

-- ---- the case of a state's letter says whether the row is linked

module _ {t : List ℤ} {r : ℕ} {xs s : List ℕ} (sh : States t r xs s) {k : ℕ} (h : k < r) where
  pub small_letter : 97 ≤ get_or s k 0 → member k xs ≡ true
  small_letter l = go (member k xs) (sh.at k h)
    where
      go : (m : Bool) → get_or s k 0 ≡ state (letter (sort_of (row t k))) m → m ≡ true
      go true e = refl
      go false e = let a = capital (sort_of (row t k)) in absurd (omega linear)

  pub capital_letter : get_or s k 0 < 97 → member k xs ≡ false
  capital_letter l = go (member k xs) (sh.at k h)
    where
      go : (m : Bool) → get_or s k 0 ≡ state (letter (sort_of (row t k))) m → m ≡ false
      go true e = let a = capital (sort_of (row t k)) in absurd (omega linear)
      go false e = refl
