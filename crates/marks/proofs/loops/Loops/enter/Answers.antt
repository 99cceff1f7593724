-- One place more is taken.
use Rattle.std.proofs.Common.{arith, ◌∙◌, ap, ◌∷◌, ◌<◌, length}
use Rattle.marks.specs.Stack.{pushed, how_many}
use Rattle.marks.proofs.loops.Loops.enter.Goals as goal

pub bounds-self-inside-self-inside : goal.bounds-self-inside-self-inside
bounds-self-inside-self-inside c =
    omega (arith, how_many c.self.inside.rows c.self.inside.count, ap length c.self.view_is)

pub invariant_of-self : goal.invariant_of-self
invariant_of-self c =
    omega (arith, how_many c.self.inside.rows c.self.inside.count, ap length c.self.view_is)

pub returns : goal.returns
returns c =
    let room : c.self.inside.count < length c.self.inside.rows =
    omega (arith, how_many c.self.inside.rows c.self.inside.count, ap length c.self.view_is) in
    pushed c.self.inside.rows c.self.inside.count c.args.row room ∙ ap (λ ls. c.args.row ∷ ls) c.self.view_is
