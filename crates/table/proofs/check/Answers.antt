-- Each test's contract is its definition, and the tests stand in the order of `verdict`.
use Rattle.std.proofs.Common.{sym}
use Rattle.std.proofs.lemmas.Result.{err_from_is_err_and}
use Rattle.table.specs.Verdicts.{passes}
use Rattle.table.specs.Check.{sized, sound, short_refused, length_passed, goes_on, decides, nesting_accepted, nesting_refused}
use Rattle.table.proofs.check.Goals as goal

pub returns-then-bad_length : goal.returns-then-bad_length
returns-then-bad_length c = sym (short_refused _ c.bad_length.ensures c.if-bad_length.true)

pub returns-in_err-check_rows : goal.returns-in_err-check_rows
returns-in_err-check_rows c =
    let p = err_from_is_err_and c.from_residual.result c.from_residual.ensures.1 in
    rw (p.1, p.2) (sym (decides _ _ c.check_rows.ensures.is (length_passed _ c.bad_length.ensures c.if-bad_length.false) c.in_err-check_rows.was))

pub returns-in_err-check_script : goal.returns-in_err-check_script
returns-in_err-check_script c =
    let p = err_from_is_err_and c.from_residual-in_err-check_script.result c.from_residual-in_err-check_script.ensures.1 in
    rw (p.1, p.2) (sym (decides _ _ c.check_script.ensures (goes_on _ _ c.check_rows.ensures.is (length_passed _ c.bad_length.ensures c.if-bad_length.false) c.in_ok-check_rows.was) c.in_err-check_script.was))

pub returns-in_err-check_unlinked : goal.returns-in_err-check_unlinked
returns-in_err-check_unlinked c =
    let p = err_from_is_err_and c.from_residual-in_err-check_unlinked.result c.from_residual-in_err-check_unlinked.ensures.1 in
    rw (p.1, p.2) (sym (decides _ _ c.check_unlinked.ensures (goes_on _ _ c.check_script.ensures (goes_on _ _ c.check_rows.ensures.is (length_passed _ c.bad_length.ensures c.if-bad_length.false) c.in_ok-check_rows.was) c.in_ok-check_script.was) c.in_err-check_unlinked.was))

pub check_names-requires : goal.check_names-requires
check_names-requires c = (sound (sized _ c.bad_length.ensures c.if-bad_length.false) (passes c.check_rows.ensures.is c.in_ok-check_rows.was), passes c.check_rows.ensures.is c.in_ok-check_rows.was)

pub returns-in_err-check_names : goal.returns-in_err-check_names
returns-in_err-check_names c =
    let p = err_from_is_err_and c.from_residual-in_err-check_names.result c.from_residual-in_err-check_names.ensures.1 in
    rw (p.1, p.2) (sym (decides _ _ c.check_names.ensures (goes_on _ _ c.check_unlinked.ensures (goes_on _ _ c.check_script.ensures (goes_on _ _ c.check_rows.ensures.is (length_passed _ c.bad_length.ensures c.if-bad_length.false) c.in_ok-check_rows.was) c.in_ok-check_script.was) c.in_ok-check_unlinked.was) c.in_err-check_names.was))

pub script_nesting-requires : goal.script_nesting-requires
script_nesting-requires c = (sound (sized _ c.bad_length.ensures c.if-bad_length.false) (passes c.check_rows.ensures.is c.in_ok-check_rows.was), passes c.check_script.ensures c.in_ok-check_script.was)

pub returns-then-script_nesting-gt8 : goal.returns-then-script_nesting-gt8
returns-then-script_nesting-gt8 c = sym (nesting_refused _ c.script_nesting.ensures (goes_on _ _ c.check_names.ensures (goes_on _ _ c.check_unlinked.ensures (goes_on _ _ c.check_script.ensures (goes_on _ _ c.check_rows.ensures.is (length_passed _ c.bad_length.ensures c.if-bad_length.false) c.in_ok-check_rows.was) c.in_ok-check_script.was) c.in_ok-check_unlinked.was) c.in_ok-check_names.was) c.if-script_nesting-gt8.true)

pub returns : goal.returns
returns c = sym (nesting_accepted _ c.script_nesting.ensures (goes_on _ _ c.check_names.ensures (goes_on _ _ c.check_unlinked.ensures (goes_on _ _ c.check_script.ensures (goes_on _ _ c.check_rows.ensures.is (length_passed _ c.bad_length.ensures c.if-bad_length.false) c.in_ok-check_rows.was) c.in_ok-check_script.was) c.in_ok-check_unlinked.was) c.in_ok-check_names.was) c.if-script_nesting-gt8.false)
