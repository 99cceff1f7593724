use Rattle.table.specs.Lowest.{script_accepted, script_refused}
use Rattle.table.proofs.tests.check_script.Goals as goal

pub returns-in-Script : goal.returns-in-Script
returns-in-Script c = script_accepted _ (rw c.row_count-last.ensures) c.kind_at.ensures c.in-Script.is

pub returns-in_default : goal.returns-in_default
returns-in_default c = script_refused _ (rw c.row_count-last.ensures) c.kind_at.ensures c.in_default.not-Script
