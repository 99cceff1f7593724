-- The order of faults is that of their numbers: each pair computes.
use Rattle.std.proofs.Common.{◌≡◌, refl}
use Rattle.std.specs.Ordering.{ord_min}
use Rattle.rows.specs.declared.Fault.{Fault}
use Rattle.rows.specs.declared.Fault.TheVariants.{BadLength, UnlistedKind, OutOfRange, LinkNotLower, WrongSort, LinkedTwice, Loose, FrozenTarget, Misplaced, TooDeep}
use Rattle.rows.specs.contracts.FaultOrd.TheImpl.{cmp-value}
use Rattle.rows.specs.Faults.{first}
use Rattle.rows.specs.Numbers.{number}
use Rattle.rows.proofs.first.Goals as goal

each : (P : Fault → Type 0) → P BadLength → P UnlistedKind → P OutOfRange → P LinkNotLower → P WrongSort → P LinkedTwice → P Loose → P FrozenTarget → P Misplaced → P TooDeep
    → (x : Fault) → P x
each P a b c d e f g h i j BadLength = a
each P a b c d e f g h i j UnlistedKind = b
each P a b c d e f g h i j OutOfRange = c
each P a b c d e f g h i j LinkNotLower = d
each P a b c d e f g h i j WrongSort = e
each P a b c d e f g h i j LinkedTwice = f
each P a b c d e f g h i j Loose = g
each P a b c d e f g h i j FrozenTarget = h
each P a b c d e f g h i j Misplaced = i
each P a b c d e f g h i j TooDeep = j

lower : (x y : Fault) → number (ord_min cmp-value.it x y) ≡ first (number x) (number y)
lower =
    each (λ x. (y : Fault) → number (ord_min cmp-value.it x y) ≡ first (number x) (number y))
    (each _ refl refl refl refl refl refl refl refl refl refl)
    (each _ refl refl refl refl refl refl refl refl refl refl)
    (each _ refl refl refl refl refl refl refl refl refl refl)
    (each _ refl refl refl refl refl refl refl refl refl refl)
    (each _ refl refl refl refl refl refl refl refl refl refl)
    (each _ refl refl refl refl refl refl refl refl refl refl)
    (each _ refl refl refl refl refl refl refl refl refl refl)
    (each _ refl refl refl refl refl refl refl refl refl refl)
    (each _ refl refl refl refl refl refl refl refl refl refl)
    (each _ refl refl refl refl refl refl refl refl refl refl)

pub returns : goal.returns
returns c = rw (c.in-Some.is, c.in-Some-b.is, c.min.ensures) (lower c.in-Some.x c.in-Some-b.y)
