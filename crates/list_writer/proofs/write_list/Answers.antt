-- What follows each statement and which rows divide is found first; what is listed, then main, are the script's conditions.
use Rattle.std.proofs.Common.{rules, List, ℤ, arith, ◌≡◌, length, ◌∙◌, refl}
use Rattle.script.specs.Generated.{scratch_need}
use Rattle.following.specs.Follow.{follow_in, Followed}
use Rattle.dividing.specs.Divided.{Divided}
use Rattle.line_writer.specs.Spelled.{whole_counted}
use Rattle.list_writer.specs.Entry.{with_run, run_there, run_fits, filled, last_in_table, first_walking, main_ready, count_ready, conditions_listed}
use Rattle.list_writer.proofs.write_list.Goals as goal
use Rattle.list_writer.proofs.write_list.Goals.{After-fill_run}

pub overflow_sub-script : goal.overflow_sub-script
overflow_sub-script c = rw c.row_count-rows.ensures (filled _ c.requires.0)

pub field-statement-requires : goal.field-statement-requires
field-statement-requires c = (rw c.row_count-rows.ensures (last_in_table _ c.requires.0), omega arith)

-- the scratch with the run filled in: its length, and what stands in it

abbrev run : After-fill_run → List ℤ
run c = with_run c.args.table.now c.args.scratch.now c.fill_run.new.follow

long : (c : After-fill_run) → length (run c) ≡ scratch_need c.args.table.now
long c = run_fits c.args.table.now c.args.scratch.now c.fill_run.new.follow c.requires.1.1 c.fill_run.ensures.0.long ∙ c.requires.1.1

followed : (c : After-fill_run) → Followed c.args.table.now (follow_in c.args.table.now (run c))
followed c = rw (run_there c.args.table.now c.args.scratch.now c.fill_run.new.follow c.requires.1.1) c.fill_run.ensures.0

divided : (c : After-fill_run) → Divided c.args.table.now (follow_in c.args.table.now (run c))
divided c = rw (run_there c.args.table.now c.args.scratch.now c.fill_run.new.follow c.requires.1.1) c.fill_run.ensures.1

pub list_conditions-requires : goal.list_conditions-requires
list_conditions-requires c =
    let a = (goal.at.list_conditions-requires c).After-fill_run in
    let e = c.row_count-rows.ensures in
    rw e (first_walking c.args.table.now c.requires.0 (run a) (long a) (followed a) (divided a) (rw e at c.field-statement.ensures) c.requires.1.0 (omega arith))

pub write_main-requires : goal.write_main-requires
write_main-requires c =
    let a = (goal.at.write_main-requires c).After-fill_run in
    let e = c.row_count-rows.ensures in
    rw e (main_ready c.args.table.now c.requires.0 (run a) (long a) (followed a) (divided a) (rw e at c.field-statement.ensures) c.requires.1.0 (omega arith)
    (rw e at c.list_conditions.ensures))

pub write_count-requires : goal.write_count-requires
write_count-requires c =
    let a = (goal.at.write_count-requires c).After-fill_run in
    let e = c.row_count-rows.ensures in
    count_ready c.args.table.now c.requires.0 (run a) (long a) (followed a) (divided a) (rw e at c.field-statement.ensures) c.requires.1.0 (omega arith)
    (rw e at c.list_conditions.ensures) (rw e at c.write_main.ensures)

pub returns-clause-whole : goal.returns-clause-whole
returns-clause-whole c =
    let a = (goal.at.returns-clause-whole c).After-fill_run in
    let e = c.row_count-rows.ensures in
    let whole =
    whole_counted refl refl
    (conditions_listed c.args.table.now c.requires.0 (run a) (long a) (followed a) (divided a) (rw e at c.field-statement.ensures) c.requires.1.0 (omega arith)
    (rw e at c.list_conditions.ensures) (rw e at c.write_main.ensures))
    c.write_count.ensures in
    let same = c.write_count.ensures.same ∙ (c.write_main.ensures.lines.same ∙ c.list_conditions.ensures.lines.same) in
    let list = c.write_count.ensures.words.same ∙ (c.write_main.ensures.lines.words.same ∙ c.list_conditions.ensures.lines.words.same) in
    search rules
