-- Sorts of what a script is made of, and what a hole in it takes. A test of equality (`same`) stands first. Assumes
-- nothing.
use Rattle.std.specs.Prelude.{Bool, true, false, cond}

-- ---- equality as a test

abbrev pub same : {A : Type 0} → Discrete A → A → A → Bool
same d x y = elim (d x y) [ yes p ↦ true | no n ↦ false ]

-- ---- sorts, and what a hole takes

pub data Sort : Type 0 where
  -- the k of a mark
  number : Sort
  expression : Sort
  formula : Sort
  statement : Sort
  script : Sort
  deriving Discrete as sort-discrete

pub data Hole : Type 0 where
  only : Sort → Hole
  -- an expression or a formula: "parentheses group either sort"
  either : Hole

abbrev pub same_sort : Sort → Sort → Bool
same_sort = same sort-discrete

abbrev pub takes : Hole → Sort → Bool
takes (only s) t = same_sort s t
takes either t = cond (same_sort expression t) true (same_sort formula t)

-- an expression may begin a formula
abbrev pub wide : Hole → Hole
wide (only number) = only number
wide (only expression) = only expression
wide (only formula) = either
wide (only statement) = only statement
wide (only script) = only script
wide either = either

-- what may begin a part that the hole takes
abbrev pub begins : Hole → Sort → Bool
begins h s = takes (wide h) s
