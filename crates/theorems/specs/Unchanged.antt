-- 02, P5: "What has no div or mod adds nothing." D stands exactly where a div or mod does (`divisors_stand`); so a script
-- whose guards and assigned expressions have none (`Undivided`) has the conditions that 01 gave it (`same_conditions`, with
-- 01's W and walk stated again, and the depth of 02, P9), and none of them ever fails to be worked out (`always_defined`). By
-- induction. Assumes nothing.
use Rattle.std.specs.Prelude.{ℕ, suc, ◌≡◌, refl, Bool, true, false, ◌||◌, List, [], ◌∷◌, ◌++◌}
use Rattle.std.proofs.Common.{sym, ap, ap₂, ◌∙◌}
use Rattle.std.proofs.lemmas.Bool.{false≢true}
use Rattle.std.proofs.Math.Option.{Option, none, some}
use Rattle.script.specs.declared.Operator.{Operator}
use Rattle.script.specs.declared.Operator.TheVariants.{Plus, Minus, Times, Div, Mod}
use Rattle.script.specs.declared.Relation.TheVariants.{Equal}
use Rattle.script.specs.declared.Connective.TheVariants.{And, Implies}
use Rattle.script.specs.declared.Rule.TheVariants.{Exit, Floor, Step, Main}
use Rattle.script.specs.Syntax.{Expr, const, var, mark, arith, neg, choose, Formula, truth, cmp, not, join, Stmt, skip, assign, seq, branch, loop, assert, Tree}
use Rattle.script.specs.Meaning.{Arithmetic, State, defined, definedᶠ}
use Rattle.script.specs.Conditions.{subst_formula, ◌joined◌, behind, divisor, divisors, divisorsᶠ, ◌and◌, wp, Condition, condition, decreased, exit, floor, walk, conditions}
use Rattle.theorems.specs.Divisors.{says, divisors_say, divisors_sayᶠ}

-- ---- D stands where something divides

abbrev pub is_division : Operator → Bool
is_division Plus = false
is_division Minus = false
is_division Times = false
is_division Div = true
is_division Mod = true

-- whether a div or mod stands in it
unfoldable mutual
  pub divides : Expr → Bool
  divides (const z) = false
  divides (var v) = false
  divides (mark m) = false
  divides (arith o a b) = (divides a || divides b) || is_division o
  divides (neg a) = divides a
  divides (choose f a b) = (dividesᶠ f || divides a) || divides b

  pub dividesᶠ : Formula → Bool
  dividesᶠ (truth b) = false
  dividesᶠ (cmp r a b) = divides a || divides b
  dividesᶠ (not f) = dividesᶠ f
  dividesᶠ (join c f g) = dividesᶠ f || dividesᶠ g

abbrev pub stands : Option Formula → Bool
stands none = false
stands (some f) = true

pub joined_stands : (x y : Option Formula) {p q : Bool} → stands x ≡ p → stands y ≡ q → stands (x joined y) ≡ (p || q)
joined_stands x y h k = one x y ∙ ap₂ ◌||◌ h k
  where
    one : (x y : Option Formula) → stands (x joined y) ≡ (stands x || stands y)
    one none y = refl
    one (some f) none = refl
    one (some f) (some g) = refl

pub behind_stands : (f : Formula) (x : Option Formula) → stands (behind f x) ≡ stands x
behind_stands f none = refl
behind_stands f (some g) = refl

pub divisor_stands : (o : Operator) (d : Expr) → stands (divisor o d) ≡ is_division o
divisor_stands Plus d = refl
divisor_stands Minus d = refl
divisor_stands Times d = refl
divisor_stands Div d = refl
divisor_stands Mod d = refl

mutual
  unfolding divisors divisorsᶠ divides dividesᶠ

  pub divisors_stand : (e : Expr) → stands (divisors e) ≡ divides e
  divisors_stand (const z) = refl
  divisors_stand (var v) = refl
  divisors_stand (mark m) = refl
  divisors_stand (arith o a b) =
      joined_stands (divisors a joined divisors b) (divisor o b)
      (joined_stands (divisors a) (divisors b) (divisors_stand a) (divisors_stand b))
      (divisor_stands o b)
  divisors_stand (neg a) = divisors_stand a
  divisors_stand (choose f a b) =
      joined_stands (divisorsᶠ f joined behind f (divisors a)) (behind (not f) (divisors b))
      (joined_stands (divisorsᶠ f) (behind f (divisors a)) (divisors_standᶠ f) (behind_stands f (divisors a) ∙ divisors_stand a))
      (behind_stands (not f) (divisors b) ∙ divisors_stand b)

  pub divisors_standᶠ : (f : Formula) → stands (divisorsᶠ f) ≡ dividesᶠ f
  divisors_standᶠ (truth b) = refl
  divisors_standᶠ (cmp r a b) = joined_stands (divisors a) (divisors b) (divisors_stand a) (divisors_stand b)
  divisors_standᶠ (not f) = divisors_standᶠ f
  divisors_standᶠ (join c f g) = joined_stands (divisorsᶠ f) (divisorsᶠ g) (divisors_standᶠ f) (divisors_standᶠ g)

pub no_item : (x : Option Formula) → stands x ≡ false → x ≡ none
no_item none h = refl
no_item (some f) h = absurd (false≢true (sym h))

pub no_divisors : (e : Expr) → divides e ≡ false → divisors e ≡ none
no_divisors e h = no_item (divisors e) (divisors_stand e ∙ h)

pub no_divisorsᶠ : (f : Formula) → dividesᶠ f ≡ false → divisorsᶠ f ≡ none
no_divisorsᶠ f h = no_item (divisorsᶠ f) (divisors_standᶠ f ∙ h)

module _ (𝔸 : Arithmetic) (s : State) where
  pub always_defined : (e : Expr) → divides e ≡ false → defined 𝔸 s e ≡ true
  always_defined e h = sym (divisors_say 𝔸 s e) ∙ ap (says 𝔸 s) (no_divisors e h)

  pub always_definedᶠ : (f : Formula) → dividesᶠ f ≡ false → definedᶠ 𝔸 s f ≡ true
  always_definedᶠ f h = sym (divisors_sayᶠ 𝔸 s f) ∙ ap (says 𝔸 s) (no_divisorsᶠ f h)

-- ---- 01's conditions

unfoldable pub wp₀ : Stmt → Formula → Formula
wp₀ skip q = q
wp₀ (assign v e) q = subst_formula v e q
wp₀ (seq a b) q = wp₀ a (wp₀ b q)
wp₀ (branch b x y) q = join And (join Implies b (wp₀ x q)) (join Implies (not b) (wp₀ y q))
wp₀ (loop m b i v x) q = i
wp₀ (assert a) q = join And a q

abbrev pub step₀ : ℕ → Formula → Formula → Expr → Stmt → Formula
step₀ m b i v x = join Implies (join And (join And i b) (cmp Equal v (mark m))) (wp₀ x (decreased m i v))

unfoldable pub walk₀ : ℕ → Stmt → Formula → List Condition
walk₀ depth skip q = []
walk₀ depth (assign v e) q = []
walk₀ depth (seq a b) q = walk₀ depth b q ++ walk₀ depth a (wp₀ b q)
walk₀ depth (branch b x y) q = walk₀ depth x q ++ walk₀ depth y q
walk₀ depth (loop m b i v x) q =
    condition Exit m depth (exit b i q) ∷ condition Floor m depth (floor b i v)
    ∷ (walk₀ (suc depth) x (decreased m i v) ++ (condition Step m depth (step₀ m b i v x) ∷ []))
walk₀ depth (assert a) q = []

unfoldable pub conditions₀ : Tree → List Condition
conditions₀ t =
    walk₀ 0 t.body t.post
    ++ (condition Main t.row 0 (join Implies t.pre (wp₀ t.body t.post)) ∷ [])

-- ---- they are the conditions of a script whose guards and assigned expressions have no div or mod

abbrev pub Undivided : Stmt → Type 0
Undivided skip = Unit {0}
Undivided (assign v e) = divides e ≡ false
Undivided (seq a b) = Undivided a × Undivided b
Undivided (branch b x y) = (dividesᶠ b ≡ false) × Undivided x × Undivided y
Undivided (loop m b i v x) = (dividesᶠ b ≡ false) × Undivided x
Undivided (assert a) = Unit {0}

pub same_wp : (t : Stmt) (q : Formula) → Undivided t → wp t q ≡ wp₀ t q
unfolding wp wp₀
same_wp skip q u = refl
same_wp (assign v e) q u = ap (λ x. x and subst_formula v e q) (no_divisors e u)
same_wp (seq a b) q u = same_wp a (wp b q) u.0 ∙ ap (λ f. wp₀ a f) (same_wp b q u.1)
same_wp (branch b x y) q u = rw (no_divisorsᶠ b u.0, same_wp x q u.1, same_wp y q u.2)
same_wp (loop m b i v x) q u = refl
same_wp (assert a) q u = refl

pub same_walk : (depth : ℕ) (t : Stmt) (q : Formula) → Undivided t → walk depth t q ≡ walk₀ depth t q
unfolding walk walk₀
same_walk depth skip q u = refl
same_walk depth (assign v e) q u = refl
same_walk depth (seq a b) q u =
    ap₂ ◌++◌ (same_walk depth b q u.1) (same_walk depth a (wp b q) u.0 ∙ ap (λ f. walk₀ depth a f) (same_wp b q u.1))
same_walk depth (branch b x y) q u = ap₂ ◌++◌ (same_walk depth x q u.1) (same_walk depth y q u.2)
same_walk depth (loop m b i v x) q u =
    rw (no_divisorsᶠ b u.0, same_walk (suc depth) x (decreased m i v) u.1, same_wp x (decreased m i v) u.1)
same_walk depth (assert a) q u = refl

pub same_conditions : (t : Tree) → Undivided t.body → conditions t ≡ conditions₀ t
unfolding conditions conditions₀
same_conditions t u = rw (same_walk 0 t.body t.post u, same_wp t.body t.post u)
