-- Numbers that are not in a list: at its head, past its head, and in neither of two lists. Assumes nothing.
use Rattle.std.specs.Prelude.{ℕ, ◌≡◌, Bool, true, false, not, ◌||◌, List, [], ◌∷◌, ◌++◌, T, eqb}
use Rattle.std.proofs.Common.{eq-eqb, ne_eqb}
use Rattle.script.specs.Refusals.{member}

neither : (a b : Bool) → T (not (a || b)) → T (not a) × T (not b)
neither true b h = absurd h
neither false b h = (tt, h)

pub not_in_cons : (k x : ℕ) (xs : List ℕ) → (k ≡ x → ⊥) → T (not (member k xs)) → T (not (member k (x ∷ xs)))
not_in_cons k x xs e h = rw (ne_eqb k x e) h

pub not_in_parts : (k x : ℕ) (xs : List ℕ) → T (not (member k (x ∷ xs))) → (k ≡ x → ⊥) × T (not (member k xs))
not_in_parts k x xs h =
    let n = neither (eqb k x) (member k xs) h in
    (λ e. rw (eq-eqb k x e) at n.0, n.1)

pub not_in_both : (k : ℕ) (xs ys : List ℕ) → T (not (member k (xs ++ ys))) → T (not (member k xs)) × T (not (member k ys))
not_in_both k [] ys h = (tt, h)
not_in_both k (x ∷ xs) ys h =
    let n = not_in_parts k x (xs ++ ys) h in
    let r = not_in_both k xs ys n.1 in
    (not_in_cons k x xs n.0 r.0, r.1)
