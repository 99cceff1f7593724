-- Where the list reader refuses, its number is answered, no byte was used, and the text is clear. Assumes nothing.
use Rattle.std.specs.Prelude.{ℕ, ◌≡◌, refl, List, ℤ, replicate, Result, Ok, Err}
use Rattle.std.specs.Result.{IsErrAnd}
use Rattle.std.proofs.Common.{ap, ◌∙◌, arith}
use Rattle.script.specs.declared.Line.{Line}
use Rattle.script.specs.Listing.{line_at, no_line}
use Rattle.list_reader.specs.declared.lines.Missing.{Missing}
use Rattle.list_reader.specs.declared.lines.Missing.TheVariants as M
use Rattle.list_reader.specs.Lines.{refusal}
use Rattle.smt.specs.Written.{written}
use Rattle.smt_writer.specs.declared.Refusal.{Refusal}
use Rattle.smt_writer.specs.Refused.{refusal_number, refusal_of, number_told, used_told}
use Rattle.smt_writer.specs.Entry.{Answered, refused_answered}

err_is : (r : Result ℕ Refusal) {m : Refusal} → IsErrAnd r (λ e. e ≡ m) → r ≡ Err m
err_is (Ok n) h = absurd h
err_is (Err e) h = ap (λ x. Err x) h

same : (m : Missing) → refusal_number (refusal_of m) ≡ refusal m
same M.NoList = refl
same M.NoLine = refl

not_zero : (m : Missing) → refusal m ≡ 0 → ⊥
not_zero M.NoList e = omega arith
not_zero M.NoLine e = omega arith

pub refused : (ws : List ℤ) (i : ℤ) (room : ℕ) (r : Result ℕ Refusal) (m : Missing) {l : List ℕ} → IsErrAnd r (λ e. e ≡ refusal_of m)
    → no_line (refusal m) ≡ line_at ws i → l ≡ replicate room 0 → Answered (written ws i room) r l
refused ws i room r m h told z =
    let is = err_is r h in
    let number = ap (λ (l : Line). l.number) told in
    refused_answered ws i room (λ e. not_zero m (number ∙ e)) (ap number_told is ∙ same m ∙ number) (ap used_told is) z
