-- Counting over an accepted table: what is at most one more than the sum over a row's parts is, at row r, at most r + 1
-- (`counted`).
-- Argument: summed over the rows below n, it is at most n and the sum over the rows that these link to (`total`). The rows
-- that the rows up to r link to are different and below r, so over them it sums to no more than over all the rows below r
-- (`distinct_sum`). Assumes nothing.
use Prim.Native.Nat.{ℕ, zero, suc, ◌+◌, ◌≤◌, ◌<◌}
use Rattle.std.specs.Prelude.{◌≡◌, refl, ◌⊎◌, cond, not, T, eqb, ltb, ℤ}
use Rattle.std.proofs.Common.{sym, ap, ⊎_elim, eq-or-lt_of_le, eq-eqb, ne_eqb, ltb→lt}
use mathlib.Core.List.{List, [], ◌∷◌}
use native.Mathlib.Omega.{arith as linear}
use Rattle.script.specs.Rows.{Part, row, rows, parts}
use Rattle.script.specs.Refusals.{member, all_below, all_new, adding, linked}
use Rattle.theorems.specs.Accepted.{Accepted, both}
use Rattle.theorems.specs.Members.{not_in_parts}

unfoldable pub part_sum : (ℕ → ℕ) → List Part → ℕ
part_sum f [] = 0
part_sum f (p ∷ ps) = f p.at + part_sum f ps

unfoldable sum_of : (ℕ → ℕ) → List ℕ → ℕ
sum_of f [] = 0
sum_of f (x ∷ xs) = f x + sum_of f xs

unfoldable sum_below : (ℕ → ℕ) → ℕ → ℕ
sum_below f zero = 0
sum_below f (suc n) = f n + sum_below f n

-- ---- a list of different numbers below r sums to at most the sum below r

abbrev Distinct : List ℕ → Type 0
Distinct [] = Unit {0}
Distinct (x ∷ xs) = T (not (member x xs)) × Distinct xs

abbrev AllLess : ℕ → List ℕ → Type 0
AllLess r [] = Unit {0}
AllLess r (x ∷ xs) = (x < r) × AllLess r xs

-- f with its value at x taken out
unfoldable without : ℕ → (ℕ → ℕ) → ℕ → ℕ
without x f i = cond (eqb i x) 0 (f i)

at_it : (x : ℕ) (f : ℕ → ℕ) (i : ℕ) → i ≡ x → without x f i ≡ 0
unfolding without
at_it x f i e = rw (eq-eqb i x e)

off_it : (x : ℕ) (f : ℕ → ℕ) (i : ℕ) → (i ≡ x → ⊥) → without x f i ≡ f i
unfolding without
off_it x f i e = rw (ne_eqb i x e)

below_it : (f : ℕ → ℕ) (x r : ℕ) → r ≤ x → sum_below (without x f) r ≡ sum_below f r
unfolding sum_below
below_it f x zero h = refl
below_it f x (suc r) h =
    let a = off_it x f r (λ e. omega linear) in
    let b = below_it f x r (omega linear) in
    omega linear

pub eq_or_lt : (i j : ℕ) → i < suc j → (i ≡ j) ⊎ (i < j)
eq_or_lt i j h = eq-or-lt_of_le (omega linear)

taken_out : (f : ℕ → ℕ) (x r : ℕ) → x < r → sum_below f r ≡ f x + sum_below (without x f) r
unfolding sum_below
taken_out f x zero h = absurd (omega linear)
taken_out f x (suc r) h =
    ⊎_elim (λ e.
    let a = at_it x f r (sym e) in
    let b = below_it f x r (omega linear) in
    let c : f x ≡ f r = ap f e in
    omega linear)
    (λ k.
    let a = off_it x f r (λ e. omega linear) in
    let b = taken_out f x r k in
    omega linear)
    (eq_or_lt x r h)

not_summed : (f : ℕ → ℕ) (x : ℕ) (xs : List ℕ) → T (not (member x xs)) → sum_of (without x f) xs ≡ sum_of f xs
unfolding sum_of
not_summed f x [] h = refl
not_summed f x (y ∷ ys) h =
    let n = not_in_parts x y ys h in
    let a = off_it x f y (λ e. n.0 (sym e)) in
    let b = not_summed f x ys n.1 in
    omega linear

distinct_sum : (xs : List ℕ) (f : ℕ → ℕ) (r : ℕ) → Distinct xs → AllLess r xs → sum_of f xs ≤ sum_below f r
unfolding sum_of
distinct_sum [] f r d l = omega linear
distinct_sum (x ∷ xs) f r d l =
    let a = taken_out f x r l.0 in
    let b = not_summed f x xs d.0 in
    let c = distinct_sum xs (without x f) r d.1 l.1 in
    omega linear

-- ---- the rows that the rows below n link to

less_more : (r : ℕ) (xs : List ℕ) → AllLess r xs → AllLess (suc r) xs
less_more r [] h = tt
less_more r (x ∷ xs) h = (omega linear, less_more r xs h.1)

module _ (t : List ℤ) where
  sum_adding : (f : ℕ → ℕ) (ps : List Part) (seen : List ℕ) → sum_of f (adding t ps seen) ≡ part_sum f ps + sum_of f seen
  unfolding sum_of part_sum
  sum_adding f [] seen = omega linear
  sum_adding f (p ∷ ps) seen = let a = sum_adding f ps (p.at ∷ seen) in omega linear

  distinct_adding : (ps : List Part) (seen : List ℕ) → T (all_new t seen ps) → Distinct seen → Distinct (adding t ps seen)
  distinct_adding [] seen n d = d
  distinct_adding (p ∷ ps) seen n d =
      let q = both (not (member p.at seen)) (all_new t (p.at ∷ seen) ps) n in
      distinct_adding ps (p.at ∷ seen) q.1 (q.0, d)

  less_adding : (r : ℕ) (ps : List Part) (seen : List ℕ) → T (all_below t r ps) → AllLess r seen → AllLess r (adding t ps seen)
  less_adding r [] seen n d = d
  less_adding r (p ∷ ps) seen n d =
      let q = both (ltb p.at r) (all_below t r ps) n in
      less_adding r ps (p.at ∷ seen) q.1 (ltb→lt p.at r q.0, d)

  module _ (ok : Accepted t) where
    linked_distinct : (n : ℕ) → n ≤ rows t → Distinct (linked t n)
    unfolding linked
    linked_distinct zero h = tt
    linked_distinct (suc n) h = distinct_adding (parts (row t n)) (linked t n) (ok.unshared n h) (linked_distinct n (omega linear))

    -- the rows up to n link to rows below n
    linked_less : (n : ℕ) → n < rows t → AllLess n (linked t (suc n))
    unfolding linked
    linked_less zero h = less_adding zero (parts (row t zero)) [] (ok.ordered zero h) tt
    linked_less (suc n) h =
        let earlier = less_more n (linked t (suc n)) (linked_less n (omega linear)) in
        less_adding (suc n) (parts (row t (suc n))) (linked t (suc n)) (ok.ordered (suc n) h) earlier

    module _ (f : ℕ → ℕ) (grows : (r : ℕ) → r < rows t → f r ≤ suc (part_sum f (parts (row t r)))) where
      total : (n : ℕ) → n ≤ rows t → sum_below f n ≤ n + sum_of f (linked t n)
      unfolding linked sum_below sum_of
      total zero h = omega linear
      total (suc n) h =
          let a = total n (omega linear) in
          let b = grows n h in
          let c = sum_adding f (parts (row t n)) (linked t n) in
          omega linear

      pub counted : (r : ℕ) → r < rows t → f r ≤ suc r
      unfolding sum_below
      counted r h =
          let a = total (suc r) h in
          let b = distinct_sum (linked t (suc r)) f r (linked_distinct (suc r) h) (linked_less r h) in
          omega linear
