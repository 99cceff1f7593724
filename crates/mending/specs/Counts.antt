-- The counts: the rows that the script reaches are those that new rows came from (`reached_origins`, `origins_stand`),
-- so the rows dropped are the others (`dropped_is`), and the rows copied again are the new rows less those
-- (`copied_is`). Assumes nothing.
use Rattle.std.specs.Prelude.{ℕ, zero, suc, ◌+◌, ◌-◌, ◌≤◌, ◌<◌, ◌≡◌, refl, ◌↔◌, List, [], ◌∷◌, Bool, true, false, ◌||◌, ℤ, eqb, length, get_or}
use Rattle.std.proofs.Common.{sym, subst, ◌∙◌, inl, inr, ⊎_elim, arith as linear, eqb-true, eq-eqb, ne_eqb}
use Rattle.std.proofs.Math.Path.{ap}
use Rattle.std.proofs.Math.Bool.{cond}
use Rattle.std.proofs.lemmas.Bool.{false≢true}
use Rattle.std.proofs.Math.Decide.{ℕ_discrete}
use Rattle.script.specs.Rows.{Part, parts, rows, row}
use Rattle.script.specs.Refusals.{member}
use Rattle.theorems.specs.Tests.{or_iff}
use Rattle.theorems.specs.Links.{Link}
use Rattle.theorems.specs.Standing.{Stands, script, link}
use Rattle.mending.specs.Copies.{origins}
use Rattle.mending.specs.NewTable.{part_places}
use Rattle.mending.specs.Reached.{outside, uncut, reached, among, reached_rows}
use Rattle.mending.specs.Mended.{mend}
use Rattle.mending.specs.Paths.{Path, top, down, reached_iff, path_row}
use Rattle.mending.specs.Mendable.{Mendable}
use Rattle.mending.specs.InScope.{above}
use Rattle.mending.specs.Renaming.{Here, here_top, here_part}
use Rattle.mending.specs.Everywhere.{here_at, came}

-- ---- members by place

pub member_at : (q : ℕ) (xs : List ℕ) → (member q xs ≡ true) ↔ ((k : ℕ) × (k < length xs) × (get_or xs k 0 ≡ q))
member_at q [] = (λ e. absurd (false≢true e), λ h. absurd (let a = h.1 in omega linear))
member_at q (x ∷ xs) = (out (member_at q xs).0, back (member_at q xs).1)
  where
    out : (member q xs ≡ true → (k : ℕ) × (k < length xs) × (get_or xs k 0 ≡ q)) → member q (x ∷ xs) ≡ true
        → (k : ℕ) × (k < suc (length xs)) × (get_or (x ∷ xs) k 0 ≡ q)
    out f e =
        ⊎_elim (λ h. (0, omega linear, sym (eqb-true q x h)))
        (λ h. let m = f h in (suc m.0, (let a = m.1 in omega linear), m.2))
        ((or_iff (eqb q x) (member q xs)).0 e)

    back : ((k : ℕ) × (k < length xs) × (get_or xs k 0 ≡ q) → member q xs ≡ true)
        → (k : ℕ) × (k < suc (length xs)) × (get_or (x ∷ xs) k 0 ≡ q) → member q (x ∷ xs) ≡ true
    back f (zero, h, e) = (or_iff (eqb q x) (member q xs)).1 (inl (eq-eqb q x (sym e)))
    back f (suc k, h, e) = (or_iff (eqb q x) (member q xs)).1 (inr (f (k, omega linear, e)))

-- ---- counting

among_same : (n : ℕ) (xs ys : List ℕ) → ((q : ℕ) → q < n → member q xs ≡ member q ys) → among n xs ≡ among n ys
unfolding among
among_same zero xs ys f = refl
among_same (suc n) xs ys f = rw (f n (omega linear), among_same n xs ys (λ q h. f q (omega linear)))

among_below : (n : ℕ) (xs : List ℕ) → among n xs ≤ n
unfolding among
among_below zero xs = omega linear
among_below (suc n) xs = go (member n xs) (among_below n xs)
  where
    go : (b : Bool) → among n xs ≤ n → cond b 1 0 + among n xs ≤ suc n
    go true h = omega linear
    go false h = omega linear

pub among_all : (n : ℕ) (xs : List ℕ) → ((q : ℕ) → q < n → member q xs ≡ true) → among n xs ≡ n
unfolding among
among_all zero xs f = refl
among_all (suc n) xs f =
    let a = among_all n xs (λ q h. f q (omega linear)) in
    rw (f n (omega linear), a) (one_more n)
  where
    one_more : (n : ℕ) → 1 + n ≡ suc n
    one_more n = omega linear

among_none : (n : ℕ) → among n [] ≡ 0
unfolding among
among_none zero = refl
among_none (suc n) = let a = among_none n in omega linear

among_high : (n x : ℕ) (xs : List ℕ) → n ≤ x → among n (x ∷ xs) ≡ among n xs
among_high n x xs h =
    among_same n (x ∷ xs) xs (λ q l. ap (λ (b : Bool). b || member q xs) (ne_eqb q x (λ e. omega linear)))

among_cons : (n x : ℕ) (xs : List ℕ) → among n (x ∷ xs) ≤ suc (among n xs)
unfolding among
among_cons zero x xs = omega linear
among_cons (suc n) x xs = go (ℕ_discrete n x) (among_cons n x xs)
  where
    most : (a b : Bool) (m k : ℕ) → m ≤ k → cond a 1 0 + m ≤ suc (cond b 1 0 + k)
    most true true m k h = omega linear
    most true false m k h = omega linear
    most false true m k h = omega linear
    most false false m k h = omega linear

    go : Dec (n ≡ x) → among n (x ∷ xs) ≤ suc (among n xs)
        → cond (eqb n x || member n xs) 1 0 + among n (x ∷ xs) ≤ suc (cond (member n xs) 1 0 + among n xs)
    go (yes e) h =
        most (eqb n x || member n xs) (member n xs) (among n (x ∷ xs)) (among n xs)
        (same (among_high n x xs (omega linear)))
      where
        same : {a b : ℕ} → a ≡ b → a ≤ b
        same e = omega linear
    go (no d) h = rw (ne_eqb n x d) (step (member n xs) h)
      where
        step : (b : Bool) → among n (x ∷ xs) ≤ suc (among n xs)
            → cond b 1 0 + among n (x ∷ xs) ≤ suc (cond b 1 0 + among n xs)
        step true h = omega linear
        step false h = omega linear

-- no more different numbers than elements
pub among_length : (n : ℕ) (xs : List ℕ) → among n xs ≤ length xs
among_length n [] = let a = among_none n in omega linear
among_length n (x ∷ xs) =
    let a = among_cons n x xs in
    let b = among_length n xs in
    omega linear

-- ---- reached, and come from

-- row q stands somewhere in the script
abbrev pub InScript : List ℤ → ℕ → Type 0
InScript t q = (code : Bool) × (inside : List ℕ) × Stands t q code inside

module _ (t : List ℤ) (ok : Mendable t) where
  pub whole_links : (r : ℕ) → r < rows t → uncut t (rows t) r ≡ parts (row t r)
  unfolding uncut
  whole_links r h =
      ap (λ (b : Bool). cond b (outside (row t r)) (parts (row t r))) (ne_eqb r (rows t) (λ e. omega linear))

  stands_path : {r : ℕ} {code : Bool} {is : List ℕ} → Stands t r code is → Path t (rows t) r
  stands_path script = top
  stands_path (link {r = r} {i = i} {k = k} S l) =
      down (stands_path S) (subst (λ (ps : List Part). Link k i ps)
      (sym (whole_links r (above t ok.falls ok.filled S).0)) l)

  path_copied : {r : ℕ} → Path t (rows t) r → (k : ℕ) × (is : List ℕ) × (js : List ℕ) × Here t ok k r is js
  path_copied top = (length (origins t) - 1, [], [], here_top t ok)
  path_copied (down {r = r} {i = i} {k = q} p l) =
      let C = path_copied p in
      let l' =
      subst (λ (ps : List Part). Link q i ps) (whole_links r (path_row t (rows t) ok.falls ok.filled p)) l in
      (get_or (part_places t C.0 r) i 0, _, _, here_part t ok C.3 (row t r) refl l')

  -- the script reaches exactly the rows that new rows came from
  pub reached_origins : (q : ℕ) → (member q (reached t (rows t)) ≡ true) ↔ (member q (origins t) ≡ true)
  reached_origins q = (out, back)
    where
      out : member q (reached t (rows t)) ≡ true → member q (origins t) ≡ true
      out e =
          let C = path_copied ((reached_iff t (rows t) ok.falls q ok.filled).0 e) in
          let c = came t ok C.3 in
          (member_at q (origins t)).1 (C.0, c.1, c.0)

      back : member q (origins t) ≡ true → member q (reached t (rows t)) ≡ true
      back e =
          let m = (member_at q (origins t)).0 e in
          let S = here_at t ok m.0 m.1 in
          let same : S.old ≡ q = sym (came t ok S.place).0 ∙ m.2 in
          (reached_iff t (rows t) ok.falls q ok.filled).1
          (subst (λ (x : ℕ). Path t (rows t) x) same (stands_path S.place.place))

  -- "unreachable rows dropped": these are the rows that stand in the script
  pub origins_stand : (q : ℕ) → (member q (origins t) ≡ true) ↔ InScript t q
  origins_stand q =
      (out, λ S. (reached_origins q).0 ((reached_iff t (rows t) ok.falls q ok.filled).1 (stands_path S.2)))
    where
      out : member q (origins t) ≡ true → InScript t q
      out e =
          let m = (member_at q (origins t)).0 e in
          let S = here_at t ok m.0 m.1 in
          let same : S.old ≡ q = sym (came t ok S.place).0 ∙ m.2 in
          (S.place.code, S.loops, subst (λ (x : ℕ). Stands t x S.place.code S.loops) same S.place.place)

  agree : (a b : Bool) → (a ≡ true) ↔ (b ≡ true) → a ≡ b
  agree true b h = sym (h.0 refl)
  agree false true h = absurd (false≢true (h.1 refl))
  agree false false h = refl

  -- how many old rows the new rows came from
  pub reached_are : reached_rows t ≡ among (rows t) (origins t)
  unfolding reached_rows
  reached_are =
      among_same (rows t) (reached t (rows t)) (origins t)
      (λ q h. agree (member q (reached t (rows t))) (member q (origins t)) (reached_origins q))

  -- "rows dropped": those of the old rows that no new row came from
  pub dropped_is : (table_room origins_room : ℕ)
      → (mend t table_room origins_room).dropped + among (rows t) (origins t) ≡ rows t
  dropped_is table_room origins_room =
      let a = reached_are in
      let b = among_below (rows t) (origins t) in
      omega linear

  -- "rows copied again (new rows less old ones reached)"
  pub copied_is : (table_room origins_room : ℕ)
      → (mend t table_room origins_room).copied + among (rows t) (origins t) ≡ length (origins t)
  copied_is table_room origins_room =
      let a = reached_are in
      let b = among_length (rows t) (origins t) in
      omega linear
