-- What is known of the rule picked at a node (`picked`): what holds where no rule fits, and of each rule where it fits,
-- holds of the pick. And what it tells that a part fits. Assumes nothing.
use Rattle.std.specs.Prelude.{zero, suc, ◌≡◌, refl, List, [], ◌∷◌, Bool, true, false, cond, ◌&&◌, pos, negsuc}
use Rattle.std.proofs.lemmas.Bool.{false≢true}
use Rattle.script.specs.Syntax.{Expr, const, var, mark, arith, neg, choose, Formula, truth, cmp, not, join}
use Rattle.shortening.specs.Simplify.{Shape, constant_0, constant_1, is_true, is_false, shape, truth_shape, only, fits, Rule, pick}

-- P holds of what each rule gives, where the rule fits
abbrev pub Each : {R : Type 0} → (R → Type 0) → List (Rule R) → Shape → Shape → Type 0
Each P [] x y = Unit {0}
Each P (r ∷ rs) x y = (fits r.left x ≡ true → fits r.right y ≡ true → P r.gives) × Each P rs x y

pub picked : {R : Type 0} (P : R → Type 0) (k : R) (rs : List (Rule R)) (x y : Shape) → P k → Each P rs x y
    → P (pick k rs x y)
picked P k [] x y p h = p
picked P k (r ∷ rs) x y p h = chosen (fits r.left x) (fits r.right y) h.0 (picked P k rs x y p h.1)
  where
    chosen : (a b : Bool) → (a ≡ true → b ≡ true → P r.gives) → P (pick k rs x y)
        → P (cond (a && b) r.gives (pick k rs x y))
    chosen true true f g = f refl refl
    chosen true false f g = g
    chosen false b f g = g

-- ---- a part that fits

no : {A : Type 0} → false ≡ true → A
no e = absurd (false≢true e)

pub zero_is : (e : Expr) → fits (only constant_0) (shape e) ≡ true → e ≡ const (pos 0)
zero_is (const (pos zero)) h = refl
zero_is (const (pos (suc zero))) h = no h
zero_is (const (pos (suc (suc n)))) h = no h
zero_is (const (negsuc n)) h = no h
zero_is (var v) h = no h
zero_is (mark m) h = no h
zero_is (arith o a b) h = no h
zero_is (neg a) h = no h
zero_is (choose f a b) h = no h

pub one_is : (e : Expr) → fits (only constant_1) (shape e) ≡ true → e ≡ const (pos 1)
one_is (const (pos zero)) h = no h
one_is (const (pos (suc zero))) h = refl
one_is (const (pos (suc (suc n)))) h = no h
one_is (const (negsuc n)) h = no h
one_is (var v) h = no h
one_is (mark m) h = no h
one_is (arith o a b) h = no h
one_is (neg a) h = no h
one_is (choose f a b) h = no h

pub true_is : (f : Formula) → fits (only is_true) (truth_shape f) ≡ true → f ≡ truth true
true_is (truth true) h = refl
true_is (truth false) h = no h
true_is (cmp r a b) h = no h
true_is (not f) h = no h
true_is (join c f g) h = no h

pub false_is : (f : Formula) → fits (only is_false) (truth_shape f) ≡ true → f ≡ truth false
false_is (truth true) h = no h
false_is (truth false) h = refl
false_is (cmp r a b) h = no h
false_is (not f) h = no h
false_is (join c f g) h = no h
