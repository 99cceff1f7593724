-- One step of `misread` of `Refusals`, for number 9: it finds the row itself, where it may not stand, and what it finds at
-- each of the row's links, at their places (`here_or_below`). By cases on the kind of the row. Assumes nothing.
use Rattle.std.specs.Prelude.{ℕ, zero, suc, ◌≡◌, refl, ◌↔◌, ◌⊎◌, List, [], ◌∷◌, ◌++◌, Bool, true, false, cond, not, ◌&&◌, ◌||◌, ℤ}
use Rattle.std.proofs.Common.{sym, ap, ◌∙◌, inl, inr, eqb-true, eq-eqb}
use Rattle.std.proofs.Math.Logic.Iff
use Rattle.std.proofs.lemmas.Bool.{false≢true}
use Rattle.std.proofs.Math.Bool.{or-false, or_assoc, and-eq-true_iff}
use Rattle.std.proofs.Math.Dec.{eqb}
use Rattle.script.specs.declared.ExpressionRow.TheVariants.{Constant, Variable, Arithmetic, Negate, Mark, Choose}
use Rattle.script.specs.declared.FormulaRow.TheVariants.{True, False, Comparison, Not, Junction}
use Rattle.script.specs.declared.StatementRow.TheVariants.{Skip, Assign, Sequence, If, While, Assert}
use Rattle.script.specs.declared.Row.{Row}
use Rattle.script.specs.Rows.{Part, parts, row}
use Rattle.script.specs.Refusals.{member, frozen, misread_node, misread}
use Rattle.theorems.specs.Links.{Link, here, there}
use Rattle.theorems.specs.Tests.{either, by_path, or_iff}
use Rattle.theorems.specs.Standing.{code_at, inside_at, Wrong, wrong, wrong_iff}

-- ---- some link of these parts has the property f, of its number and its row

abbrev some_link : (ℕ → ℕ → Bool) → List Part → Bool
some_link f [] = false
some_link f (p ∷ ps) = f zero p.at || some_link (λ i. f (suc i)) ps

abbrev SomeLink : (ℕ → ℕ → Bool) → List Part → Type 0
SomeLink f ps = (i : ℕ) × (k : ℕ) × Link k i ps × (f i k ≡ true)

some_found : (f : ℕ → ℕ → Bool) (ps : List Part) → some_link f ps ≡ true → SomeLink f ps
some_found f [] e = absurd (false≢true e)
some_found f (p ∷ ps) e =
    go (some_found (λ i. f (suc i)) ps) ((or_iff (f zero p.at) (some_link (λ i. f (suc i)) ps)).0 e)
  where
    go : (some_link (λ i. f (suc i)) ps ≡ true → SomeLink (λ i. f (suc i)) ps)
        → (f zero p.at ≡ true) ⊎ (some_link (λ i. f (suc i)) ps ≡ true) → SomeLink f (p ∷ ps)
    go rest (inl h) = (zero, p.at, here refl, h)
    go rest (inr h) = let (i, k, l, g) = rest h in (suc i, k, there l, g)

some_shown : {k : ℕ} (f : ℕ → ℕ → Bool) {i : ℕ} {ps : List Part} → Link k i ps → f i k ≡ true → some_link f ps ≡ true
some_shown f (here {p = p} {ps = ps} e) h = (or_iff (f zero p.at) (some_link (λ i. f (suc i)) ps)).1 (inl (ap (f zero) e ∙ h))
some_shown f (there {p = p} {ps = ps} l) h =
    (or_iff (f zero p.at) (some_link (λ i. f (suc i)) ps)).1 (inr (some_shown (λ i. f (suc i)) l h))

some_iff : (f : ℕ → ℕ → Bool) (ps : List Part) → (some_link f ps ≡ true) ↔ SomeLink f ps
some_iff f ps = (some_found f ps, λ h. some_shown f h.2 h.3)

-- ---- one step of `misread`

pub member_append : (q : ℕ) (xs ys : List ℕ) → member q (xs ++ ys) ≡ (member q xs || member q ys)
member_append q [] ys = refl
member_append q (x ∷ xs) ys = rw (member_append q xs ys) (sym (or_assoc (eqb q x) (member q xs) (member q ys)))

-- the members of one, two and three lists
one : (q : ℕ) (xs : List ℕ) → member q xs ≡ (member q xs || false)
one q xs = sym (or-false (member q xs))

two : (q : ℕ) (xs ys : List ℕ) → member q (xs ++ ys) ≡ (member q xs || (member q ys || false))
two q xs ys = member_append q xs ys ∙ ap (λ (b : Bool). member q xs || b) (one q ys)

three : (q : ℕ) (xs ys zs : List ℕ) → member q (xs ++ (ys ++ zs)) ≡ (member q xs || (member q ys || (member q zs || false)))
three q xs ys zs = member_append q xs (ys ++ zs) ∙ ap (λ (b : Bool). member q xs || b) (two q ys zs)

lone : (q r : ℕ) (b : Bool) → member q (cond b (r ∷ []) []) ≡ ((b && eqb q r) || false)
lone q r true = refl
lone q r false = refl

module _ (ws : List ℤ) (q : ℕ) where
  -- q is found at row r, which is w, itself, or by M at one of its links
  node_members : (M : Bool → List ℕ → ℕ → List ℕ) (code : Bool) (inside : List ℕ) (r : ℕ) (w : Row)
      → member q (misread_node ws M code inside r w) ≡
      ((wrong w code inside && eqb q r) || some_link (λ i k. member q (M (code_at w i code) (inside_at r w i inside) k)) (parts w))
  node_members M code inside r (Row.Expression (Constant z)) = refl
  node_members M code inside r (Row.Expression (Variable v)) = lone q r (code && frozen v.0)
  node_members M code inside r (Row.Expression (Arithmetic o a b)) = two q (M code inside a.0) (M code inside b.0)
  node_members M code inside r (Row.Expression (Negate a)) = one q (M code inside a.0)
  node_members M code inside r (Row.Expression (Mark m)) = lone q r (code || not (member m.0 inside))
  node_members M code inside r (Row.Expression (Choose f a b)) = three q (M code inside f.0) (M code inside a.0) (M code inside b.0)
  node_members M code inside r (Row.Formula True) = refl
  node_members M code inside r (Row.Formula False) = refl
  node_members M code inside r (Row.Formula (Comparison o a b)) = two q (M code inside a.0) (M code inside b.0)
  node_members M code inside r (Row.Formula (Not f)) = one q (M code inside f.0)
  node_members M code inside r (Row.Formula (Junction o f g)) = two q (M code inside f.0) (M code inside g.0)
  node_members M code inside r (Row.Statement Skip) = refl
  node_members M code inside r (Row.Statement (Assign v e)) = one q (M true inside e.0)
  node_members M code inside r (Row.Statement (Sequence a b)) = two q (M false inside a.0) (M false inside b.0)
  node_members M code inside r (Row.Statement (If b x y)) = three q (M true inside b.0) (M false inside x.0) (M false inside y.0)
  node_members M code inside r (Row.Statement (While b i x)) = three q (M true inside b.0) (M false inside i.0) (M false (r ∷ inside) x.0)
  node_members M code inside r (Row.Statement (Assert f)) = one q (M false inside f.0)
  node_members M code inside r (Row.Note i v) = two q (M false inside i.0) (M false inside v.0)
  node_members M code inside r (Row.Script p s t) = three q (M false inside p.0) (M false inside s.0) (M false inside t.0)
  node_members M code inside r Row.Unknown = refl

  -- q is row r and may not stand there, or `misread` finds it at a link of r
  abbrev pub HereOrBelow : ℕ → Bool → List ℕ → ℕ → Type 0
  HereOrBelow n code inside r = ((q ≡ r) × Wrong code inside (row ws r)) ⊎
      SomeLink (λ i k. member q (misread ws n (code_at (row ws r) i code) (inside_at r (row ws r) i inside) k)) (parts (row ws r))

  pub here_or_below : (n : ℕ) (code : Bool) (inside : List ℕ) (r : ℕ)
      → (member q (misread ws (suc n) code inside r) ≡ true) ↔ HereOrBelow n code inside r
  unfolding misread
  here_or_below n code inside r =
      Iff.trans (by_path (node_members (misread ws n) code inside r w))
      (Iff.trans (or_iff (wrong w code inside && eqb q r) (some_link f (parts w))) (either mine (some_iff f (parts w))))
    where
      w : Row
      w = row ws r

      f : ℕ → ℕ → Bool
      f i k = member q (misread ws n (code_at w i code) (inside_at r w i inside) k)

      mine : ((wrong w code inside && eqb q r) ≡ true) ↔ ((q ≡ r) × Wrong code inside w)
      mine =
          let (out, back) = and-eq-true_iff (wrong w code inside) (eqb q r) in
          let W = wrong_iff w code inside in
          (λ e. (eqb-true q r (out e).1, W.0 (out e).0), λ h. back (W.1 h.1, eq-eqb q r h.0))
