-- The words of an expression or a formula whose numbers are in range are read back, whatever stands after them
-- (`expr_back`, `formula_back`). By induction on the tree: its kind word begins its row, and its parts are read one after
-- the other. Every node has a word of its own, so a bound on the depth that is no lower than the number of words is enough.
-- Assumes nothing.
use Rattle.std.specs.Prelude.{ℕ, zero, suc, ◌≤◌, ◌≡◌, refl, List, ◌++◌, true, false, ℤ, pos, length}
use Rattle.std.proofs.Common.{ap, ◌∙◌, append_assoc, arith as linear, length-append, lt-ltb}
use Rattle.std.proofs.Math.Option.{Option}
use Rattle.script.specs.declared.Row.{Row}
use Rattle.script.specs.Rows.{row_of}
use Rattle.script.specs.Syntax.{Expr, const, var, mark, arith, neg, choose, Formula, truth, cmp, not, join}
use Rattle.script.specs.Words.{expr_words, formula_words}
use Rattle.script.specs.WellFormed.{InRangeWithin, InRangeᶠWithin}
use Rattle.script.specs.Listing.{◌>>=◌, Read, read, next, read_expr_within, read_formula_within, row_limit}
use Rattle.theorems.specs.Kinds.{operator_row, relation_row, connective_row}

abbrev pub Reader : Type 0 → Type 0
Reader A = Row → List ℤ → Option (Read A)

-- f reads the words us as a, whatever stands after them
abbrev pub Reads : {A : Type 0} → Reader A → List ℤ → A → Type 0
Reads f us a = (rest : List ℤ) → next f (us ++ rest) ≡ read a rest

-- the first part of a node is read
first_part : {A B : Type 0} (f : Reader A) (us vs : List ℤ) (a : A) (h : Read A → Option B) (rest : List ℤ) → Reads f us a
    → (next f ((us ++ vs) ++ rest) >>= h) ≡ h (record { got = a; rest = vs ++ rest })
first_part f us vs a h rest x = rw (append_assoc us vs rest, x (vs ++ rest))

-- the two parts of a node are read
two_parts : {A B C : Type 0} (f : Reader A) (g : Reader B) (us vs : List ℤ) (a : A) (b : B) (h : A → B → C) (rest : List ℤ)
    → Reads f us a → Reads g vs b
    → (next f ((us ++ vs) ++ rest) >>= λ x. next g x.rest >>= λ y. read (h x.got y.got) y.rest) ≡ read (h a b) rest
two_parts f g us vs a b h rest x y =
    first_part f us vs a (λ r. next g r.rest >>= λ s. read (h r.got s.got) s.rest) rest x
    ∙ ap (λ o. o >>= λ s. read (h a s.got) s.rest) (y rest)

parts_fit : (us vs : List ℤ) (n : ℕ) → suc (length (us ++ vs)) ≤ suc n → (length us ≤ n) × (length vs ≤ n)
parts_fit us vs n l = omega (linear, length-append us vs)

-- the variables are those below a limit
module _ (limit : ℕ) where
  mutual
    unfolding read_expr_within read_formula_within expr_words formula_words row_of

    pub expr_back : (e : Expr) (n : ℕ) → InRangeWithin limit e → length (expr_words e) ≤ n → Reads (read_expr_within limit n) (expr_words e) e
    expr_back (const z) zero h l = absurd (omega linear)
    expr_back (const z) (suc n) h l = λ rest. refl
    expr_back (var v) zero h l = absurd (omega linear)
    expr_back (var v) (suc n) h l = λ rest. rw (lt-ltb v limit h)
    expr_back (mark m) zero h l = absurd (omega linear)
    expr_back (mark m) (suc n) h l = λ rest. rw (lt-ltb m row_limit h)
    expr_back (arith o a b) zero h l = absurd (omega linear)
    expr_back (arith o a b) (suc n) h l =
        let us = expr_words a in
        let vs = expr_words b in
        let fit = parts_fit us vs n l in
        λ rest. ap (λ w. read_expr_within limit (suc n) w ((us ++ vs) ++ rest)) (operator_row _ (pos 0) (pos 0) o)
        ∙ two_parts (read_expr_within limit n) (read_expr_within limit n) us vs a b (arith o) rest (expr_back a n h.0 fit.0) (expr_back b n h.1 fit.1)
    expr_back (neg a) zero h l = absurd (omega linear)
    expr_back (neg a) (suc n) h l = λ rest. ap (λ o. o >>= λ s. read (neg s.got) s.rest) (expr_back a n h (omega linear) rest)
    expr_back (choose f a b) zero h l = absurd (omega linear)
    expr_back (choose f a b) (suc n) h l =
        let us = expr_words a in
        let vs = expr_words b in
        let fit = parts_fit (formula_words f) (us ++ vs) n l in
        let fits = parts_fit us vs n (omega linear) in
        λ rest. first_part (read_formula_within limit n) (formula_words f) (us ++ vs) f
        (λ r. next (read_expr_within limit n) r.rest >>= λ s. next (read_expr_within limit n) s.rest >>= λ t. read (choose r.got s.got t.got) t.rest)
        rest (formula_back f n h.0 fit.0)
        ∙ two_parts (read_expr_within limit n) (read_expr_within limit n) us vs a b (choose f) rest (expr_back a n h.1 fits.0) (expr_back b n h.2 fits.1)

    pub formula_back : (f : Formula) (n : ℕ) → InRangeᶠWithin limit f → length (formula_words f) ≤ n → Reads (read_formula_within limit n) (formula_words f) f
    formula_back (truth b) zero h l = absurd (omega linear)
    formula_back (truth true) (suc n) h l = λ rest. refl
    formula_back (truth false) (suc n) h l = λ rest. refl
    formula_back (cmp r a b) zero h l = absurd (omega linear)
    formula_back (cmp r a b) (suc n) h l =
        let us = expr_words a in
        let vs = expr_words b in
        let fit = parts_fit us vs n l in
        λ rest. ap (λ w. read_formula_within limit (suc n) w ((us ++ vs) ++ rest)) (relation_row _ (pos 0) (pos 0) r)
        ∙ two_parts (read_expr_within limit n) (read_expr_within limit n) us vs a b (cmp r) rest (expr_back a n h.0 fit.0) (expr_back b n h.1 fit.1)
    formula_back (not f) zero h l = absurd (omega linear)
    formula_back (not f) (suc n) h l = λ rest. ap (λ o. o >>= λ s. read (not s.got) s.rest) (formula_back f n h (omega linear) rest)
    formula_back (join c f g) zero h l = absurd (omega linear)
    formula_back (join c f g) (suc n) h l =
        let us = formula_words f in
        let vs = formula_words g in
        let fit = parts_fit us vs n l in
        λ rest. ap (λ w. read_formula_within limit (suc n) w ((us ++ vs) ++ rest)) (connective_row _ (pos 0) (pos 0) c)
        ∙ two_parts (read_formula_within limit n) (read_formula_within limit n) us vs f g (join c) rest (formula_back f n h.0 fit.0) (formula_back g n h.1 fit.1)
