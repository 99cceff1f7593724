-- By the verdict.
use Rattle.std.specs.Prelude.{Result, Ok, Err}
use Rattle.std.specs.Result.{IsErrAnd}
use Rattle.std.proofs.Common.{◌≡◌, ap, sym, length}
use Rattle.script.specs.Generated.{refusal}
use Rattle.rows.specs.Numbers.{number}
use Rattle.table.specs.declared.Refusal as Table
use Rattle.generator.specs.declared.Plan.{Plan}
use Rattle.generator.specs.declared.Refusal.{Refusal}
use Rattle.generator.specs.declared.Refusal.TheVariants.{Table}
use Rattle.generator.specs.Answers.{answer_of}
use Rattle.generator.specs.Outcomes.{refused_answered}
use Rattle.generator.proofs.answer.Goals as goal

converted : (r : Result Plan Refusal) (e : Table.Refusal) → IsErrAnd r (λ g. g ≡ Table e) → answer_of r ≡ refusal (number e.fault) e.row.0
converted (Err g) e h = ap (λ (x : Refusal). answer_of (Err x)) h
converted (Ok p) e h = absurd h

pub returns-in_err-check-clause-answered : goal.returns-in_err-check-clause-answered
returns-in_err-check-clause-answered c =
    refused_answered c.args.table.now (length c.args.list.now) (length c.args.scratch.now)
    (sym (c.in_err-check.ensures)) (converted _ _ c.from_residual.ensures.1) c.clear.ensures
