-- Both runs are cleared first; then the tests in their order, each as it is defined.
use Rattle.std.proofs.Common.{pos, length}
use Rattle.std.proofs.lemmas.Result.{err_from_is_err_and}
use Rattle.theorems.specs.Clearing.{all_cleared}
use Rattle.table.specs.Verdicts.{passes, refuses}
use Rattle.mender.specs.declared.Unmendable.{Unmendable}
use Rattle.mender.specs.Whole.{all_passed, counting, first_refused, marks_refused, passed_checked, told_refused}
use Rattle.mender.proofs.mend.Goals as goal

pub returns-in_err-check : goal.returns-in_err-check
returns-in_err-check c =
    let p = err_from_is_err_and c.from_residual.result c.from_residual.ensures.1 in
    let v = first_refused _ _ _ (refuses c.check.ensures c.in_err-check.was) in
    let T = told_refused _ _ _ (Unmendable.Refused c.in_err-check.field-0.0) v c.clear.ensures c.clear-2.ensures in
    rw (p.1, p.2) (record { number = T.number; row = T.row; words = T.words; dropped = T.dropped; copied = T.copied; table = T.table; origins = T.run })

pub sweep-swept-requires : goal.sweep-swept-requires
sweep-swept-requires c = passed_checked _ (all_passed _ (passes c.check.ensures c.in_ok-check.was))

pub returns-in-Some : goal.returns-in-Some
returns-in-Some c =
    let p = all_passed _ (passes c.check.ensures c.in_ok-check.was) in
    let v = marks_refused _ p _ c.sweep-swept.ensures c.in-Some.is _ _ in
    let T = told_refused _ _ _ (Unmendable.MarkOutside c.in-Some.mark) v c.clear.ensures c.clear-2.ensures in
    record { number = T.number; row = T.row; words = T.words; dropped = T.dropped; copied = T.copied; table = T.table; origins = T.run }

pub write-requires : goal.write-requires
write-requires c =
    let p = all_passed _ (passes c.check.ensures c.in_ok-check.was) in (
      counting _ p _ c.sweep-swept.ensures c.in_default.is,
      (
        all_cleared (pos 0) (length c.args.new.now) c.clear.ensures,
        all_cleared (pos 0) (length c.args.origins.now) c.clear-2.ensures,
      ),
    )
