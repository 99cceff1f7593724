-- The operators, relations and connectives by the numbers of their kinds, and a row from its number. Assumes nothing.
use Rattle.std.specs.Prelude.{ℕ, cond, eqb}
use Rattle.script.specs.declared.Operator.{Operator}
use Rattle.script.specs.declared.Operator.TheVariants.{Plus, Minus, Times, Div, Mod}
use Rattle.script.specs.declared.Relation.{Relation}
use Rattle.script.specs.declared.Relation.TheVariants.{Less, AtMost, Equal, Unequal}
use Rattle.script.specs.declared.Connective.{Connective}
use Rattle.script.specs.declared.Connective.TheVariants.{And, Or, Implies}

abbrev pub operator_of : ℕ → Operator
operator_of n = cond (eqb n 3) Plus (cond (eqb n 4) Minus (cond (eqb n 5) Times (cond (eqb n 6) Div Mod)))

abbrev pub relation_of : ℕ → Relation
relation_of n = cond (eqb n 18) Less (cond (eqb n 19) AtMost (cond (eqb n 20) Equal Unequal))

abbrev pub connective_of : ℕ → Connective
connective_of n = cond (eqb n 23) And (cond (eqb n 24) Or Implies)
