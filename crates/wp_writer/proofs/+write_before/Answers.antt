-- Each turn goes on by the laws of its kind. What is left to pass falls at every turn and at the call.
use Rattle.std.proofs.Common.{◌≡◌, ℕ, arith, refl, length-set, ◌∙◌}
use Rattle.script.specs.declared.kinds.Kind.{Kind}
use Rattle.script.specs.declared.kinds.Kind.TheVariants.{Skip, Assign, Sequence, If, While}
use Rattle.script.specs.declared.Row.{Row}
use Rattle.script.specs.declared.StatementRow.TheVariants.{Assign as Row·Assign, If as Row·If}
use Rattle.script.specs.Rows.{row, var_no, word}
use Rattle.script.specs.Kinds.{kind_of, number_read, other_read}
use Rattle.script.specs.Laws.{back}
use Rattle.output.specs.Written.{then}
use Rattle.following.specs.Kinds.{Past, number, skip_row, assign_row, sequence_row, if_row}
use Rattle.following.specs.Parts.{left_first, left_else}
use Rattle.wp_writer.specs.Same.{same_refl}
use Rattle.wp_writer.specs.Walked.{turned, written, written_full, written_end}
use Rattle.wp_writer.specs.Steps.{next_falls, in_table, in_scratch, loop_here, skip_step, assert_known, assert_ready, assert_step, sequence_step, invariant_ready, loop_wrote}
use Rattle.wp_writer.specs.Assignments.{value_divisors, assignment_here, assign_falls, assign_step}
use Rattle.wp_writer.specs.Branches.{guard_ready, guard_divisors, then_ready, branch_step}
use Rattle.wp_writer.proofs.+write_before.Goals as goal
use Rattle.wp_writer.proofs.+write_before.Goals.{After-field, After-field-y}

-- the kinds of statements that have an arm of their own
past : {k : Kind} {n : ℕ} → k ≡ kind_of n → (k ≡ Skip → ⊥) → (k ≡ Assign → ⊥) → (k ≡ Sequence → ⊥) → (k ≡ If → ⊥) → (k ≡ While → ⊥) → Past n
unfolding kind_of
past e a b d f g = (((((tt, other_read e a refl), other_read e b refl), other_read e d refl), other_read e f refl), other_read e g refl)

-- ---- no room, and the end

pub returns-then-not-fits : goal.returns-then-not-fits
returns-then-not-fits t c =
    written_full _ _ _ c.loop-s.invariant (c.fits.ensures.1 c.if-not-fits.true)

pub returns : goal.returns
returns t c =
    written_end _ _ _ c.loop-s.invariant c.loop-s-test.false c.write_end.ensures

-- ---- skip

pub kind_at-requires : goal.kind_at-requires
kind_at-requires t c =
    in_table _ _ _ _ _ _ c.loop-s.invariant.before c.loop-s-test.true

pub next-s-requires : goal.next-s-requires
next-s-requires t c =
    in_scratch _ _ _ _ _ _ c.loop-s.invariant.before c.loop-s-test.true

pub loop-s-smaller-in-Skip : goal.loop-s-smaller-in-Skip
loop-s-smaller-in-Skip t c =
    next_falls _ _ _ _ _ _ c.loop-s.invariant.before c.loop-s-test.true (same_refl _ _ _) c.next-s.ensures

pub loop-s-preserved-in-Skip : goal.loop-s-preserved-in-Skip
loop-s-preserved-in-Skip t c =
    turned _ _ _ c.loop-s.invariant (skip_step _ _ _ _ _ _ c.loop-s.invariant.before c.loop-s-test.true (skip_row _ _ refl (number_read c.kind_at.ensures c.in-Skip.is refl)) c.next-s.ensures)

-- ---- an assignment

assigned : (t : ℕ) (c : After-field t)
    → row c.args.table.now c.loop-s.s ≡ Row.Statement (Row·Assign (var_no (word c.args.table.now c.loop-s.s 1)) (number c.field.result))
assigned t c = assign_row c.args.table.now c.loop-s.s refl (number_read c.kind_at.ensures c.in-Assign.is refl) c.field.ensures

pub field-requires : goal.field-requires
field-requires t c =
    (in_table _ _ _ _ _ _ c.loop-s.invariant.before c.loop-s-test.true, omega arith)

pub write_conjunct-requires : goal.write_conjunct-requires
write_conjunct-requires t c =
    let r = assigned t (goal.at.write_conjunct-requires t c).After-field in
    value_divisors _ _ _ _ _ _ c.loop-s.invariant.before c.loop-s-test.true r

pub entry-requires : goal.entry-requires
entry-requires t c =
    let r = assigned t (goal.at.entry-requires t c).After-field in
    (c.loop-s.invariant.before.course.table, assignment_here _ _ _ _ _ _ c.loop-s.invariant.before c.loop-s-test.true r)

pub next-s-requires-in-Assign : goal.next-s-requires-in-Assign
next-s-requires-in-Assign t c =
    rw length-set (in_scratch _ _ _ _ _ _ c.loop-s.invariant.before c.loop-s-test.true)

pub loop-s-smaller-in-Assign : goal.loop-s-smaller-in-Assign
loop-s-smaller-in-Assign t c =
    let r = assigned t (goal.at.loop-s-smaller-in-Assign t c).After-field in
    assign_falls _ _ _ _ _ _ c.loop-s.invariant.before c.loop-s-test.true (back c.entry.type_inv ∙ c.entry.ensures) r c.next-s-in-Assign.ensures

pub loop-s-preserved-in-Assign : goal.loop-s-preserved-in-Assign
loop-s-preserved-in-Assign t c =
    let r = assigned t (goal.at.loop-s-preserved-in-Assign t c).After-field in
    turned _ _ _ c.loop-s.invariant (assign_step _ _ _ _ _ _ c.loop-s.invariant.before c.loop-s-test.true (back c.entry.type_inv ∙ c.entry.ensures) r c.next-s-in-Assign.ensures c.write_conjunct.ensures)

-- ---- a sequence

pub field-s-requires : goal.field-s-requires
field-s-requires t c =
    (in_table _ _ _ _ _ _ c.loop-s.invariant.before c.loop-s-test.true, omega arith)

pub loop-s-smaller-in-Sequence : goal.loop-s-smaller-in-Sequence
loop-s-smaller-in-Sequence t c =
    let r = sequence_row c.args.table.now c.loop-s.s refl (number_read c.kind_at.ensures c.in-Sequence.is refl) c.field-s.ensures refl in
    left_first _ _ c.loop-s.invariant.before.course c.loop-s-test.true r

pub loop-s-preserved-in-Sequence : goal.loop-s-preserved-in-Sequence
loop-s-preserved-in-Sequence t c =
    let r = sequence_row c.args.table.now c.loop-s.s refl (number_read c.kind_at.ensures c.in-Sequence.is refl) c.field-s.ensures refl in
    turned _ _ _ c.loop-s.invariant (sequence_step _ _ _ _ _ _ c.loop-s.invariant.before c.loop-s-test.true r)

-- ---- a branch

branch : (t : ℕ) (c : After-field-y t)
    → row c.args.table.now c.loop-s.s ≡ Row.Statement (Row·If (number c.field-in-If.result) (number c.field-x.result) (number c.field-y.result))
branch t c =
    if_row c.args.table.now c.loop-s.s refl (number_read c.kind_at.ensures c.in-If.is refl) c.field-in-If.ensures c.field-x.ensures c.field-y.ensures

pub field-requires-in-If : goal.field-requires-in-If
field-requires-in-If t c =
    (in_table _ _ _ _ _ _ c.loop-s.invariant.before c.loop-s-test.true, omega arith)

pub field-x-requires : goal.field-x-requires
field-x-requires t c =
    (in_table _ _ _ _ _ _ c.loop-s.invariant.before c.loop-s-test.true, omega arith)

pub field-y-requires : goal.field-y-requires
field-y-requires t c =
    (in_table _ _ _ _ _ _ c.loop-s.invariant.before c.loop-s-test.true, omega arith)

pub write_conjunct-requires-in-If : goal.write_conjunct-requires-in-If
write_conjunct-requires-in-If t c =
    let r = branch t (goal.at.write_conjunct-requires-in-If t c).After-field-y in
    guard_divisors _ _ _ _ _ _ c.loop-s.invariant.before c.loop-s-test.true r

pub write_formula-requires : goal.write_formula-requires
write_formula-requires t c =
    let r = branch t (goal.at.write_formula-requires t c).After-field-y in
    guard_ready _ _ _ _ _ _ c.loop-s.invariant.before c.loop-s-test.true r (same_refl _ _ _)

pub write_before-requires : goal.write_before-requires
write_before-requires t c =
    let r = branch t (goal.at.write_before-requires t c).After-field-y in
    then_ready _ _ _ _ _ _ c.loop-s.invariant.before c.loop-s-test.true r c.loop-s.invariant.falls c.decreases

pub write_formula-requires-in-If : goal.write_formula-requires-in-If
write_formula-requires-in-If t c =
    let r = branch t (goal.at.write_formula-requires-in-If t c).After-field-y in
    guard_ready _ _ _ _ _ _ c.loop-s.invariant.before c.loop-s-test.true r c.write_before.ensures.kept

pub loop-s-smaller-in-If : goal.loop-s-smaller-in-If
loop-s-smaller-in-If t c =
    let r = branch t (goal.at.loop-s-smaller-in-If t c).After-field-y in
    left_else _ _ c.loop-s.invariant.before.course c.loop-s-test.true r

pub loop-s-preserved-in-If : goal.loop-s-preserved-in-If
loop-s-preserved-in-If t c =
    let r = branch t (goal.at.loop-s-preserved-in-If t c).After-field-y in
    turned _ _ _ c.loop-s.invariant
    (branch_step _ _ _ _ _ _ c.loop-s.invariant.before c.loop-s-test.true r c.write_conjunct-in-If.ensures (then c.push_kind.ensures c.push_kind-in-If.ensures)
    c.write_formula.ensures c.write_before.ensures (then c.push_kind-in-If-2.ensures c.push_kind-in-If-3.ensures)
    c.write_formula-in-If.ensures)

-- ---- a loop

pub invariant-i-requires : goal.invariant-i-requires
invariant-i-requires t c =
    loop_here _ _ _ _ _ _ c.loop-s.invariant.before c.loop-s-test.true refl (number_read c.kind_at.ensures c.in-While.is refl)

pub write_formula-requires-in-While : goal.write_formula-requires-in-While
write_formula-requires-in-While t c =
    invariant_ready _ _ _ _ _ _ c.loop-s.invariant.before c.loop-s-test.true refl (number_read c.kind_at.ensures c.in-While.is refl) c.invariant-i.ensures

pub returns-in-While : goal.returns-in-While
returns-in-While t c =
    written _ _ _ c.loop-s.invariant (loop_wrote _ _ _ _ _ _ c.loop-s.invariant.before c.loop-s-test.true refl (number_read c.kind_at.ensures c.in-While.is refl) c.invariant-i.ensures c.write_formula-in-While.ensures)

-- ---- an assertion

pub field-requires-in_default : goal.field-requires-in_default
field-requires-in_default t c =
    (in_table _ _ _ _ _ _ c.loop-s.invariant.before c.loop-s-test.true, omega arith)

pub write_formula-requires-in_default : goal.write_formula-requires-in_default
write_formula-requires-in_default t c =
    let r = assert_known _ _ _ _ _ _ c.loop-s.invariant.before c.loop-s-test.true refl (past c.kind_at.ensures c.in_default.not-Skip c.in_default.not-Assign c.in_default.not-Sequence c.in_default.not-If c.in_default.not-While) c.field-in_default.ensures in
    assert_ready _ _ _ _ _ _ c.loop-s.invariant.before c.loop-s-test.true r

pub next-s-requires-in_default : goal.next-s-requires-in_default
next-s-requires-in_default t c =
    in_scratch _ _ _ _ _ _ c.loop-s.invariant.before c.loop-s-test.true

pub loop-s-smaller : goal.loop-s-smaller
loop-s-smaller t c =
    next_falls _ _ _ _ _ _ c.loop-s.invariant.before c.loop-s-test.true (same_refl _ _ _) c.next-s-in_default.ensures

pub loop-s-preserved : goal.loop-s-preserved
loop-s-preserved t c =
    let r = assert_known _ _ _ _ _ _ c.loop-s.invariant.before c.loop-s-test.true refl (past c.kind_at.ensures c.in_default.not-Skip c.in_default.not-Assign c.in_default.not-Sequence c.in_default.not-If c.in_default.not-While) c.field-in_default.ensures in
    turned _ _ _ c.loop-s.invariant (assert_step _ _ _ _ _ _ c.loop-s.invariant.before c.loop-s-test.true r c.next-s-in_default.ensures c.push_kind-in_default.ensures c.write_formula-in_default.ensures)
