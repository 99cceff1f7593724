-- `list_reader::line_at` meets its contract.
use Rattle.std.proofs.Common.{◌≡◌, ◌∙◌, ap, ℕ, pos, ◌-◌, length, arith, to_z, of_z, w32}
use Rattle.std.proofs.lemmas.Int.{ints}
use Rattle.script.specs.Rows.{field_number}
use Rattle.list_reader.specs.Lines.{line_among, lines_ending}
use Rattle.list_reader.proofs.Entries.{claimed_nonempty, no_line_at, line_at_is}
use Rattle.list_reader.proofs.Telling.{told_as}
use Rattle.list_reader.proofs.line_at.Goals as goal

pub overflow_sub-words : goal.overflow_sub-words
overflow_sub-words c = claimed_nonempty c.args.words.now c.claimed-count.ensures c.if-count-eq0.false

pub returns-then-count-eq0 : goal.returns-then-count-eq0
returns-then-count-eq0 c = no_line_at c.args.words.now c.claimed-count.ensures c.if-count-eq0.true c.args.index

pub returns-else-count-eq0 : goal.returns-else-count-eq0
returns-else-count-eq0 c =
    let a = c.args in
    let q : to_z w32 (of_z w32 a.index) ≡ a.index = omega (arith, ints) in
    told_as _
    (ap (λ (m : ℕ). line_among (lines_ending a.words.now c.claimed-count.result (length a.words.now - 1)) (pos m))
    (c.field_number.ensures ∙ ap field_number q)
    ∙ line_at_is a.words.now c.claimed-count.ensures c.if-count-eq0.false a.index)
    c.walked.ensures
