-- `list_walker::step` meets its contract: the place where a reader goes on.
use Rattle.std.proofs.Common.{ℕ, ap, refl, ◌∙◌}
use Rattle.list_reader.proofs.Places.{place_after_is}
use Rattle.list_walker.specs.declared.Reader.{Reader}
use Rattle.list_walker.proofs.step.Goals as goal

pub returns-clause-reader : goal.returns-clause-reader
returns-clause-reader c =
    let r = c.args.r in
    let made : ℕ → Reader = λ n. record { words = r.words; end = n } in
    ap made (c.place_of-end.ensures.told _ c.line_before-line.ensures ∙ place_after_is r.words.now r.end refl)
