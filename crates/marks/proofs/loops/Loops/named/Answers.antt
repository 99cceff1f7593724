-- The place in the array is the mark's number less one, counted from the last back.
use Rattle.std.proofs.Common.{rules}
use Rattle.marks.specs.Stack.{found, none_found}
use Rattle.marks.proofs.loops.Loops.named.Goals as goal

pub returns-then-outward-self : goal.returns-then-outward-self
returns-then-outward-self c = let e = c.saturating_sub-outward.ensures in let f = c.field_number.ensures in rw (← c.self.view_is) (search (rules, found))

pub returns-else-outward-self : goal.returns-else-outward-self
returns-else-outward-self c =
    rw (← c.self.view_is) (none_found c.self.inside.rows _ _ c.args.k (search rules) c.if-outward-self.false)
