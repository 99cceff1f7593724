-- `smt_writer::names::note_names` meets its contract: at a kind word, by the kind; then that nothing is left.
use Rattle.std.proofs.Common.{◌∙◌, refl, ap, ℕ, ◌+◌, pos, get_or, length, arith, rules, length-set}
use Rattle.script.specs.Rows.{field_number, variables}
use Rattle.script.specs.Kinds.{kind_of, number_read, other_read}
use Rattle.script.specs.Laws.{back}
use Rattle.smt.specs.Translate.{variable, mark}
use Rattle.smt_writer.specs.Noted.{past}
use Rattle.smt_writer.specs.Scans.{Numberless, all_left, none_left, constant_left, other_left, variable_here, mark_here, name_left, number_told}
use Rattle.smt_writer.proofs.names.note_names.Goals as goal

pub loop-i-init : goal.loop-i-init
loop-i-init c = (c.requires.flags_len, λ f s. all_left s)

-- ---- a constant

pub loop-i-preserved-in-Constant : goal.loop-i-preserved-in-Constant
loop-i-preserved-in-Constant c =
    let inv = c.loop-i.invariant in
    (inv.0, λ f s. constant_left (inv.1 f s) c.loop-i-test.true refl (number_read c.kind_at.ensures c.in-Constant.is refl))

-- ---- a variable

pub bounds-formula-i : goal.bounds-formula-i
bounds-formula-i c =
    let left = c.loop-i.invariant.1 c.requires.spelled.claim c.requires.spelled.spells in
    (variable_here left c.loop-i-test.true refl (number_read c.kind_at.ensures c.in-Variable.is refl)).within

pub note-variables-requires : goal.note-variables-requires
note-variables-requires c =
    let inv = c.loop-i.invariant in
    let left = inv.1 c.requires.spelled.claim c.requires.spelled.spells in
    let number = c.field_number.ensures ∙ ap field_number (back {z = get_or c.args.formula.now (c.loop-i.i + 1) (pos 0)} (search rules)) in
    let named = variable_here left c.loop-i-test.true refl (number_read c.kind_at.ensures c.in-Variable.is refl) in
    let n = number_told named number in
    let low = named.low in
    let size = inv.0 in
    omega arith

pub loop-i-preserved-in-Variable : goal.loop-i-preserved-in-Variable
loop-i-preserved-in-Variable c =
    let inv = c.loop-i.invariant in
    let number = c.field_number.ensures ∙ ap field_number (back {z = get_or c.args.formula.now (c.loop-i.i + 1) (pos 0)} (search rules)) in
    let noted = c.note-variables.ensures in (
      ap length noted.flags ∙ (length-set c.loop-i.flags _ 1 ∙ inv.0),
      λ f s.
          let g = inv.1 f s in
          let v = variable_here g c.loop-i-test.true refl (number_read c.kind_at.ensures c.in-Variable.is refl) in
          let told = number_told v number in
          name_left g variable v told noted.flags (noted.top ∙ ap (λ (n : ℕ). past n c.loop-i.variables) told) refl,
    )

-- ---- a mark

pub bounds-formula-i-in-Mark : goal.bounds-formula-i-in-Mark
bounds-formula-i-in-Mark c =
    let left = c.loop-i.invariant.1 c.requires.spelled.claim c.requires.spelled.spells in
    (mark_here left c.loop-i-test.true refl (number_read c.kind_at.ensures c.in-Mark.is refl)).within

pub note-marks-requires : goal.note-marks-requires
note-marks-requires c =
    let inv = c.loop-i.invariant in
    let left = inv.1 c.requires.spelled.claim c.requires.spelled.spells in
    let number = c.field_number-in-Mark.ensures ∙ ap field_number (back {z = get_or c.args.formula.now (c.loop-i.i + 1) (pos 0)} (search rules)) in
    let named = mark_here left c.loop-i-test.true refl (number_read c.kind_at.ensures c.in-Mark.is refl) in
    let n = number_told named number in
    let low = named.low in
    let size = inv.0 in
    omega arith

pub loop-i-preserved-in-Mark : goal.loop-i-preserved-in-Mark
loop-i-preserved-in-Mark c =
    let inv = c.loop-i.invariant in
    let number = c.field_number-in-Mark.ensures ∙ ap field_number (back {z = get_or c.args.formula.now (c.loop-i.i + 1) (pos 0)} (search rules)) in
    let noted = c.note-marks.ensures in (
      ap length noted.flags ∙ (length-set c.loop-i.flags _ 1 ∙ inv.0),
      λ f s.
          let g = inv.1 f s in
          let v = mark_here g c.loop-i-test.true refl (number_read c.kind_at.ensures c.in-Mark.is refl) in
          let told = ap (λ (n : ℕ). variables + n) (number_told v number) in
          name_left g mark v told noted.flags refl (noted.top ∙ ap (λ (n : ℕ). past n c.loop-i.marks) told),
    )

-- ---- every other kind

pub loop-i-preserved : goal.loop-i-preserved
unfolding kind_of
loop-i-preserved c =
    let inv = c.loop-i.invariant in
    let other : Numberless (field_number (get_or c.args.formula.now c.loop-i.i (pos 0))) = record {
      constant = other_read c.kind_at.ensures c.in_default.not-Constant refl;
      variable = other_read c.kind_at.ensures c.in_default.not-Variable refl;
      mark = other_read c.kind_at.ensures c.in_default.not-Mark refl;
    } in
    (inv.0, λ f s. other_left (inv.1 f s) c.loop-i-test.true refl other)

-- ---- past the last word

pub returns-clause-flags : goal.returns-clause-flags
returns-clause-flags c f s = (none_left (c.loop-i.invariant.1 f s) c.loop-i-test.false).0

pub returns-clause-variables : goal.returns-clause-variables
returns-clause-variables c f s = (none_left (c.loop-i.invariant.1 f s) c.loop-i-test.false).1

pub returns-clause-marks : goal.returns-clause-marks
returns-clause-marks c f s = (none_left (c.loop-i.invariant.1 f s) c.loop-i-test.false).2
