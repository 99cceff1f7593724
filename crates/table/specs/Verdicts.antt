-- What the answer of the check says: 01's number and row for a refusal; and what a caller learns of the verdict by a
-- match on the answer. Assumes nothing.
use Rattle.std.specs.Prelude.{◌≡◌, Result, Ok, Err}
use Rattle.std.proofs.Common.{sym, ap, ◌∙◌}
use Rattle.script.specs.Refusals.{Verdict, accepted, refused}
use Rattle.rows.specs.Numbers.{number}
use Rattle.table.specs.declared.Refusal.{Refusal}

abbrev pub verdict_of : Result (Unit {0}) Refusal → Verdict
verdict_of (Ok u) = accepted
verdict_of (Err e) = refused (number e.fault) e.row.0

-- v is the answer, w the verdict that it is shown to say
pub passes : {v : Result (Unit {0}) Refusal} {w : Verdict} {u : Unit {0}} → verdict_of v ≡ w → v ≡ Ok u → w ≡ accepted
passes e h = sym e ∙ ap verdict_of h

pub refuses : {v : Result (Unit {0}) Refusal} {w : Verdict} {r : Refusal} → verdict_of v ≡ w → v ≡ Err r → w ≡ refused (number r.fault) r.row.0
refuses e h = sym e ∙ ap verdict_of h
