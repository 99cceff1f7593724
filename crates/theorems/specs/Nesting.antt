-- 01, "Room and scratch": "Nesting is the largest number of if and while rows on one path from the script down." A path goes
-- from a statement to a part of it, and so on down. There is one with `nesting` many ifs and whiles (`deepest`), and none has
-- more (`none_deeper`): both by induction on the statement. Assumes nothing.
use Rattle.std.specs.Prelude.{ℕ, ◌+◌, ◌≤◌, max, ◌≡◌, refl, Bool, true, false, List, [], ◌∷◌, leb}
use Rattle.std.proofs.Common.{arith as linear, leb-true, leb-false}
use Rattle.script.specs.Syntax.{Expr, Formula, Stmt, skip, assign, seq, branch, loop, assert}
use Rattle.script.specs.Trees.{nesting}

-- a statement has a part
pub data Part : Stmt → Stmt → Type 0 where
  first : {a b : Stmt} → Part (seq a b) a
  second : {a b : Stmt} → Part (seq a b) b
  then : {b : Formula} {x y : Stmt} → Part (branch b x y) x
  else : {b : Formula} {x y : Stmt} → Part (branch b x y) y
  body : {m : ℕ} {b i : Formula} {v : Expr} {x : Stmt} → Part (loop m b i v x) x

-- the statements on a path from the first one down
pub data Path : Stmt → List Stmt → Type 0 where
  ends : {x : Stmt} → Path x (x ∷ [])
  goes : {x y : Stmt} {p : List Stmt} → Part x y → Path y p → Path x (x ∷ p)

-- 1 for an if and for a while
abbrev pub counted : Stmt → ℕ
counted skip = 0
counted (assign v e) = 0
counted (seq a b) = 0
counted (branch b x y) = 1
counted (loop m b i v x) = 1
counted (assert a) = 0

abbrev pub count : List Stmt → ℕ
count [] = 0
count (x ∷ p) = counted x + count p

-- ---- none has more

at_least : (x : Stmt) → counted x ≤ nesting x
unfolding nesting
at_least skip = omega linear
at_least (assign v e) = omega linear
at_least (seq a b) = omega linear
at_least (branch b x y) = omega linear
at_least (loop m b i v x) = omega linear
at_least (assert a) = omega linear

part_less : {x y : Stmt} → Part x y → counted x + nesting y ≤ nesting x
unfolding nesting
part_less first = omega linear
part_less second = omega linear
part_less then = omega linear
part_less else = omega linear
part_less body = omega linear

pub none_deeper : {x : Stmt} {p : List Stmt} → Path x p → count p ≤ nesting x
none_deeper {x} ends = omega (linear, at_least x)
none_deeper (goes d p) = omega (linear, part_less d, none_deeper p)

-- ---- one has as many

pub record Deepest (x : Stmt) : Type 0 where
  pub through : List Stmt
  pub path : Path x through
  pub many : count through ≡ nesting x

-- a path on which only x counts, and one through a part of it
alone : (x : Stmt) → counted x ≡ nesting x → Deepest x
alone x e = record { through = x ∷ []; path = ends; many = omega linear }

below : {x y : Stmt} → Part x y → Deepest y → nesting x ≡ counted x + nesting y → Deepest x
below {x} d D e = record { through = x ∷ D.through; path = goes d D.path; many = omega (linear, D.many) }

-- the deeper one of two parts
deeper : {x a b : Stmt} (c : Bool) → leb (nesting a) (nesting b) ≡ c → Part x a → Part x b → Deepest a → Deepest b
    → nesting x ≡ counted x + max (nesting a) (nesting b) → Deepest x
deeper true e p q A B h = below q B (omega (linear, leb-true))
deeper false e p q A B h = below p A (omega (linear, leb-false))

pub deepest : (x : Stmt) → Deepest x
unfolding nesting
deepest skip = alone skip refl
deepest (assign v e) = alone (assign v e) refl
deepest (seq a b) = deeper _ refl first second (deepest a) (deepest b) (omega linear)
deepest (branch b x y) = deeper _ refl then else (deepest x) (deepest y) (omega linear)
deepest (loop m b i v x) = below body (deepest x) (omega linear)
deepest (assert a) = alone (assert a) refl
