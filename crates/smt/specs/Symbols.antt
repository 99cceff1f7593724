-- The symbols of the term of a condition are the names of what the condition refers to: each symbol is such a name
-- (`claim_within`), and each such name is a symbol of it (`claim_named`), also where a divisor stands twice. Assumes nothing.
use Rattle.std.specs.Prelude.{◌≡◌, refl, ◌⊎◌, Bool, true, false, ℤ, pos, negsuc}
use Rattle.std.proofs.Common.{ap, inl, inr}
use mathlib.Core.List.Memᴰ
use mathlib.Core.List.{List, [], ◌∷◌, ◌++◌, Memᴰ}
use Rattle.script.specs.Syntax.{Expr, const, var, arith, neg, choose, Formula, truth, cmp, join}
use Rattle.script.specs.Syntax as Syntax
use Rattle.script.specs.declared.Operator.{Operator}
use Rattle.script.specs.declared.Operator.TheVariants.{Plus, Minus, Times, Div, Mod}
use Rattle.script.specs.declared.Relation.{Relation}
use Rattle.script.specs.declared.Relation.TheVariants.{Less, AtMost, Equal, Unequal}
use Rattle.script.specs.declared.Connective.{Connective}
use Rattle.script.specs.declared.Connective.TheVariants.{And, Or, Implies}
use Rattle.smt.specs.Smt.{Symbol, Term, Claim, term_symbols, claim_symbols}
use Rattle.smt.specs.Translate.{Reference, variable, mark, name, constant_term, operate, compare, connective, term, claim, expr_references, references}

-- every element of xs is in ys
pub record Within (xs ys : List Symbol) : Type 0 where
  pub each : (w : Symbol) → Memᴰ w xs → Memᴰ w ys

-- the names of rs are in ys
pub record NamedIn (rs : List Reference) (ys : List Symbol) : Type 0 where
  pub each : (r : Reference) → Memᴰ r rs → Memᴰ (name r) ys

pub either : {A B C : Type 0} → A ⊎ B → (A → C) → (B → C) → C
either (inl a) f g = f a
either (inr b) f g = g b

none_within : {ys : List Symbol} → Within [] ys
none_within = record { each = λ w m. absurd (Memᴰ.not-nil m) }

both_within : {xs ys zs : List Symbol} → Within xs zs → Within ys zs → Within (xs ++ ys) zs
both_within {xs} f g = record { each = λ w m. either (Memᴰ.append_cases xs m) (f.each w) (g.each w) }

left_named : {rs : List Reference} {zs : List Symbol} (qs : List Reference) → NamedIn (rs ++ qs) zs → NamedIn rs zs
left_named qs h = record { each = λ r m. h.each r (Memᴰ.append_left qs m) }

right_named : (rs : List Reference) {qs : List Reference} {zs : List Symbol} → NamedIn (rs ++ qs) zs → NamedIn qs zs
right_named rs h = record { each = λ r m. h.each r (Memᴰ.append_right rs m) }

none_named : {xs : List Symbol} → NamedIn [] xs
none_named = record { each = λ r m. absurd (Memᴰ.not-nil m) }

both_named : {rs qs : List Reference} {xs ys : List Symbol} → NamedIn rs xs → NamedIn qs ys → NamedIn (rs ++ qs) (xs ++ ys)
both_named {rs} {qs} {xs} {ys} f g = record {
  each = λ r m.
      either (Memᴰ.append_cases rs m) (λ l. Memᴰ.append_left ys (f.each r l)) (λ l. Memᴰ.append_right xs (g.each r l));
}

after_named : {rs : List Reference} (xs : List Symbol) {ys : List Symbol} → NamedIn rs ys → NamedIn rs (xs ++ ys)
after_named xs f = record { each = λ r m. Memᴰ.append_right xs (f.each r m) }

one_named : (r : Reference) → NamedIn (r ∷ []) (name r ∷ [])
one_named r = record {
  each = λ q m. either (Memᴰ.cases_cons m) (λ e. Memᴰ.head (ap name e)) (λ l. absurd (Memᴰ.not-nil l));
}

one_within : (r : Reference) {zs : List Symbol} → NamedIn (r ∷ []) zs → Within (name r ∷ []) zs
one_within r h = record {
  each = λ w m.
      either (Memᴰ.cases_cons m) (λ e. Memᴰ.cast e (h.each r (Memᴰ.head refl))) (λ l. absurd (Memᴰ.not-nil l));
}

-- ---- nodes

compare_symbols : (r : Relation) (a b : Term) → claim_symbols (compare r a b) ≡ term_symbols a ++ term_symbols b
unfolding claim_symbols
compare_symbols Less a b = refl
compare_symbols AtMost a b = refl
compare_symbols Equal a b = refl
compare_symbols Unequal a b = refl

connective_symbols : (c : Connective) (f g : Claim) → claim_symbols (connective c f g) ≡ claim_symbols f ++ claim_symbols g
unfolding claim_symbols
connective_symbols And f g = refl
connective_symbols Or f g = refl
connective_symbols Implies f g = refl

constant_symbols : (z : ℤ) → term_symbols (constant_term z) ≡ []
unfolding term_symbols
constant_symbols (pos n) = refl
constant_symbols (negsuc n) = refl

truth_symbols : (b : Bool) → claim_symbols (claim (truth b)) ≡ []
unfolding claim_symbols claim
truth_symbols true = refl
truth_symbols false = refl

-- a divisor stands before the dividend too
operate_within : (o : Operator) (a b : Term) {zs : List Symbol} → Within (term_symbols a) zs → Within (term_symbols b) zs
    → Within (term_symbols (operate o a b)) zs
unfolding term_symbols
operate_within Plus a b f g = both_within f g
operate_within Minus a b f g = both_within f g
operate_within Times a b f g = both_within f g
operate_within Div a b f g = both_within (both_within g none_within) (both_within f g)
operate_within Mod a b f g = both_within (both_within g none_within) (both_within f (both_within f g))

operate_named : (o : Operator) (a b : Term) {rs qs : List Reference} → NamedIn rs (term_symbols a) → NamedIn qs (term_symbols b)
    → NamedIn (rs ++ qs) (term_symbols (operate o a b))
unfolding term_symbols
operate_named Plus a b f g = both_named f g
operate_named Minus a b f g = both_named f g
operate_named Times a b f g = both_named f g
operate_named Div a b f g = after_named (term_symbols b ++ []) (both_named f g)
operate_named Mod a b f g = after_named (term_symbols b ++ []) (after_named (term_symbols a) (both_named f g))

-- ---- a symbol of the term is a name of what the expression refers to

module _ {zs : List Symbol} where
  mutual
    unfolding term term_symbols references

    term_within : (e : Expr) → NamedIn (expr_references e) zs → Within (term_symbols (term e)) zs
    term_within (const z) h = rw (constant_symbols z) none_within
    term_within (var v) h = one_within (variable v) h
    term_within (Syntax.mark m) h = one_within (mark m) h
    term_within (arith o a b) h =
        operate_within o (term a) (term b) (term_within a (left_named (expr_references b) h))
        (term_within b (right_named (expr_references a) h))
    term_within (neg a) h = term_within a h
    term_within (choose f a b) h =
        let rest : NamedIn (expr_references a ++ expr_references b) zs = right_named (references f) h in
        both_within (claim_within f (left_named (expr_references a ++ expr_references b) h))
        (both_within (term_within a (left_named (expr_references b) rest)) (term_within b (right_named (expr_references a) rest)))

    pub claim_within : (f : Formula) → NamedIn (references f) zs → Within (claim_symbols (claim f)) zs
    claim_within (truth b) h = rw (truth_symbols b) none_within
    claim_within (cmp r a b) h =
        rw (compare_symbols r (term a) (term b))
        (both_within (term_within a (left_named (expr_references b) h)) (term_within b (right_named (expr_references a) h)))
    claim_within (Syntax.not f) h = claim_within f h
    claim_within (join c f g) h =
        rw (connective_symbols c (claim f) (claim g))
        (both_within (claim_within f (left_named (references g) h)) (claim_within g (right_named (references f) h)))

-- ---- the name of what an expression refers to is a symbol of its term

mutual
  unfolding term term_symbols references

  term_named : (e : Expr) → NamedIn (expr_references e) (term_symbols (term e))
  term_named (const z) = none_named
  term_named (var v) = one_named (variable v)
  term_named (Syntax.mark m) = one_named (mark m)
  term_named (arith o a b) = operate_named o (term a) (term b) (term_named a) (term_named b)
  term_named (neg a) = term_named a
  term_named (choose f a b) = both_named (claim_named f) (both_named (term_named a) (term_named b))

  pub claim_named : (f : Formula) → NamedIn (references f) (claim_symbols (claim f))
  claim_named (truth b) = none_named
  claim_named (cmp r a b) = rw (compare_symbols r (term a) (term b)) (both_named (term_named a) (term_named b))
  claim_named (Syntax.not f) = claim_named f
  claim_named (join c f g) = rw (connective_symbols c (claim f) (claim g)) (both_named (claim_named f) (claim_named g))
