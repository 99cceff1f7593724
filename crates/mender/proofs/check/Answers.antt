-- The first test that refuses decides.
use Rattle.std.proofs.Common.{sym, ◌∙◌}
use Rattle.std.proofs.lemmas.Result.{err_from_is_err_and}
use Rattle.table.specs.Verdicts.{passes, refuses}
use Rattle.mender.specs.Whole.{told_length, told_part, told_script}
use Rattle.mender.proofs.check.Goals as goal

pub returns-then-bad_length : goal.returns-then-bad_length
returns-then-bad_length c = told_length _ (sym c.bad_length.ensures ∙ c.if-bad_length.true)

pub returns-in_err-check_parts : goal.returns-in_err-check_parts
returns-in_err-check_parts c =
    let p = err_from_is_err_and c.from_residual.result c.from_residual.ensures.1 in
    rw (p.1, p.2)
    (told_part _ (sym c.bad_length.ensures ∙ c.if-bad_length.false) (refuses c.check_parts.ensures c.in_err-check_parts.was))

pub returns : goal.returns
returns c =
    told_script _ (sym c.bad_length.ensures ∙ c.if-bad_length.false)
    (passes c.check_parts.ensures c.in_ok-check_parts.was) c.check_script.ensures
