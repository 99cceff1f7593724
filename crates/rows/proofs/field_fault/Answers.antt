use Rattle.rows.specs.States.{link_taken, link_twice, link_other}
use Rattle.rows.proofs.field_fault.Goals as goal

pub returns-then-states-n : goal.returns-then-states-n
returns-then-states-n c = link_taken c.requires c.if-letter-ge95.false c.if-r-n.false c.if-states-n.true

pub returns-then-states-n-2 : goal.returns-then-states-n-2
returns-then-states-n-2 c = link_twice c.requires c.if-letter-ge95.false c.if-r-n.false c.if-states-n-2.true

pub returns : goal.returns
returns c = link_other c.requires c.if-letter-ge95.false c.if-r-n.false c.if-states-n.false c.if-states-n-2.false
