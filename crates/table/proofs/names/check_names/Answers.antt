-- Without a mark and a frozen name both tests pass.
use Rattle.table.specs.Reading.{nameless_accepted}
use Rattle.table.proofs.names.check_names.Goals as goal

pub returns-then-not-any_named : goal.returns-then-not-any_named
returns-then-not-any_named c =
    nameless_accepted c.args.table.now c.requires.1 (c.any_named.ensures.at c.if-not-any_named.true)
