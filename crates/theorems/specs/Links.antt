-- The rows that rows link to. `Refusals` gathers them in a list; `linked_iff` says which rows stand in it, and `shared_iff`
-- which rows number 6 is given to: "a link's row already linked by a lower row or an earlier field".
-- By induction over rows and over the links of a row. Assumes nothing.
use Rattle.std.specs.Prelude.{ℕ, zero, suc, ◌<◌, ◌≡◌, refl, ◌↔◌, ◌⊎◌, List, [], ◌∷◌, Bool, true, false, not, ◌&&◌, ℤ, eqb, take}
use Rattle.std.proofs.Common.{arith, sym, ap, ◌∙◌, inl, inr, ⊎_elim, true≢false, eqb-true, eq-eqb}
use Rattle.std.proofs.Math.Decide.{ℕ_discrete}
use Rattle.std.proofs.Math.Logic.Iff
use Rattle.std.proofs.lemmas.Bool.{false≢true}
use Rattle.script.specs.Rows.{Part, parts, row}
use Rattle.script.specs.Refusals.{member, adding, linked, all_new}
use Rattle.theorems.specs.Tests.{either, or_iff, and_false}

-- link number i of these parts goes to row k
pub data Link (k : ℕ) : ℕ → List Part → Type 0 where
  here : {p : Part} {ps : List Part} → p.at ≡ k → Link k zero (p ∷ ps)
  there : {i : ℕ} {p : Part} {ps : List Part} → Link k i ps → Link k (suc i) (p ∷ ps)

-- some link of these parts goes to row k
abbrev pub LinksTo : List Part → ℕ → Type 0
LinksTo ps k = (i : ℕ) × Link k i ps

-- a row below r links to row k
abbrev pub LinkedBelow : List ℤ → ℕ → ℕ → Type 0
LinkedBelow ws r k = (q : ℕ) × (q < r) × LinksTo (parts (row ws q)) k

abbrev Some : List Part → Type 0
Some [] = ⊥
Some (p ∷ ps) = Unit {0}

no_link : {k i : ℕ} {ps : List Part} → Link k i ps → Some ps
no_link (here e) = tt
no_link (there l) = tt

-- the first link, or a later one
first_or_later : {k i : ℕ} {p : Part} {ps : List Part} → Link k i (p ∷ ps) → (p.at ≡ k) ⊎ LinksTo ps k
first_or_later (here e) = inl e
first_or_later (there {i = j} l) = inr (j, l)

member_cons : (k x : ℕ) (xs : List ℕ) → (member k (x ∷ xs) ≡ true) ↔ ((x ≡ k) ⊎ (member k xs ≡ true))
member_cons k x xs = Iff.trans (or_iff (eqb k x) (member k xs)) (either (λ e. sym (eqb-true k x e), λ e. eq-eqb k x (sym e)) Iff.rfl)

-- ---- the rows that lower rows link to

-- a link to k among ps, or k seen before: with the first part of a list put among those seen
split : (k : ℕ) (p : Part) (ps : List Part) (seen : List ℕ)
    → (LinksTo ps k ⊎ (member k (p.at ∷ seen) ≡ true)) ↔ (LinksTo (p ∷ ps) k ⊎ (member k seen ≡ true))
split k p ps seen = (out, back)
  where
    out : LinksTo ps k ⊎ (member k (p.at ∷ seen) ≡ true) → LinksTo (p ∷ ps) k ⊎ (member k seen ≡ true)
    out (inl l) = inl (suc l.0, there l.1)
    out (inr m) = ⊎_elim (λ e. inl (0, here e)) inr ((member_cons k p.at seen).0 m)

    back : LinksTo (p ∷ ps) k ⊎ (member k seen ≡ true) → LinksTo ps k ⊎ (member k (p.at ∷ seen) ≡ true)
    back (inl l) = ⊎_elim (λ e. inr ((member_cons k p.at seen).1 (inl e))) inl (first_or_later l.1)
    back (inr m) = inr ((member_cons k p.at seen).1 (inr m))

added : (ws : List ℤ) (k : ℕ) (ps : List Part) (seen : List ℕ)
    → (member k (adding ws ps seen) ≡ true) ↔ (LinksTo ps k ⊎ (member k seen ≡ true))
added ws k [] seen = (inr, ⊎_elim (λ l. absurd (no_link l.1)) (λ m. m))
added ws k (p ∷ ps) seen = Iff.trans (added ws k ps (p.at ∷ seen)) (split k p ps seen)

pub linked_iff : (ws : List ℤ) (r k : ℕ) → (member k (linked ws r) ≡ true) ↔ LinkedBelow ws r k
unfolding linked
linked_iff ws zero k = (λ e. absurd (false≢true e), λ l. absurd (omega arith))
linked_iff ws (suc r) k = Iff.trans (added ws k (parts (row ws r)) (linked ws r)) (out (linked_iff ws r k).0, back (linked_iff ws r k).1)
  where
    out : (member k (linked ws r) ≡ true → LinkedBelow ws r k) → LinksTo (parts (row ws r)) k ⊎ (member k (linked ws r) ≡ true)
        → LinkedBelow ws (suc r) k
    out f (inl l) = (r, omega arith, l)
    out f (inr m) = let (q, h, l) = f m in (q, omega arith, l)

    back : (LinkedBelow ws r k → member k (linked ws r) ≡ true) → LinkedBelow ws (suc r) k
        → LinksTo (parts (row ws r)) k ⊎ (member k (linked ws r) ≡ true)
    back f L = go (ℕ_discrete L.0 r)
      where
        go : Dec (L.0 ≡ r) → LinksTo (parts (row ws r)) k ⊎ (member k (linked ws r) ≡ true)
        go (yes e) = inl (rw e at L.2)
        go (no d) = inr (f (L.0, omega arith, L.2))

-- ---- 6

-- the link number `field` goes to a row that was linked before: by an earlier one of these links, or as `Before` says
pub record Repeated (Before : ℕ → Type 0) (ps : List Part) : Type 0 where
  pub field : ℕ
  pub to : ℕ
  pub link : Link to field ps
  pub taken : LinksTo (take field ps) to ⊎ Before to

repeats : (ws : List ℤ) (ps : List Part) (seen : List ℕ) → all_new ws seen ps ≡ false → Repeated (λ k. member k seen ≡ true) ps
repeats ws [] seen e = absurd (true≢false e)
repeats ws (p ∷ ps) seen e = go (member p.at seen) refl e (repeats ws ps (p.at ∷ seen))
  where
    go : (b : Bool) → member p.at seen ≡ b → (not b && all_new ws (p.at ∷ seen) ps) ≡ false
        → (all_new ws (p.at ∷ seen) ps ≡ false → Repeated (λ k. member k (p.at ∷ seen) ≡ true) ps)
        → Repeated (λ k. member k seen ≡ true) (p ∷ ps)
    go true m e f = record { field = 0; to = p.at; link = here refl; taken = inr m }
    go false m e f =
        let R = f e in
        record {
          field = suc R.field;
          to = R.to;
          link = there R.link;
          taken = (split R.to p (take R.field ps) seen).0 R.taken;
        }

refuted : (ws : List ℤ) {k i : ℕ} {ps : List Part} (seen : List ℕ) → Link k i ps → LinksTo (take i ps) k ⊎ (member k seen ≡ true)
    → all_new ws seen ps ≡ false
refuted ws seen (here e) (inl l) = absurd (no_link l.1)
refuted ws seen (here {p = p} e) (inr m) = rw (ap (λ (x : ℕ). member x seen) e ∙ m)
refuted ws {k = k} seen (there {i = i} {p = p} {ps = ps} l) t =
    (and_false (not (member p.at seen)) (all_new ws (p.at ∷ seen) ps)).1
    (inr (refuted ws (p.at ∷ seen) l ((split k p (take i ps) seen).1 t)))

-- a link of row r goes to a row that a lower row or an earlier field links to
abbrev pub Shared : List ℤ → ℕ → Type 0
Shared ws r = Repeated (LinkedBelow ws r) (parts (row ws r))

pub shared_iff : (ws : List ℤ) (r : ℕ) → (all_new ws (linked ws r) (parts (row ws r)) ≡ false) ↔ Shared ws r
shared_iff ws r = (λ e. out (repeats ws (parts (row ws r)) (linked ws r) e), back)
  where
    taken : (i k : ℕ) → (LinksTo (take i (parts (row ws r))) k ⊎ (member k (linked ws r) ≡ true)) ↔
        (LinksTo (take i (parts (row ws r))) k ⊎ LinkedBelow ws r k)
    taken i k = either Iff.rfl (linked_iff ws r k)

    out : Repeated (λ k. member k (linked ws r) ≡ true) (parts (row ws r)) → Shared ws r
    out R = record { field = R.field; to = R.to; link = R.link; taken = (taken R.field R.to).0 R.taken }

    back : Shared ws r → all_new ws (linked ws r) (parts (row ws r)) ≡ false
    back S = refuted ws (linked ws r) S.link ((taken S.field S.to).1 S.taken)
