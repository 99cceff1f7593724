-- The word's number tells the keyword.
use Rattle.std.proofs.Common.{ap, ◌∙◌, drop}
use Rattle.grammar.specs.Scanning.{keywords}
use Rattle.scanner.specs.Words.{keyword_told}
use Rattle.scanner.proofs.Keywords.{no_word, word_told}
use Rattle.scanner.proofs.Variables.{other_word}
use Rattle.scanner.proofs.keyword_at.Goals as goal

pub returns-in_err-kind : goal.returns-in_err-kind
returns-in_err-kind c =
    let text = c.args.text.now in
    let at = c.args.at in
    let told = c.keyword.ensures ∙ ap (keyword_told keywords) c.run_at-word.ensures.number in
    rw (c.from_residual.ensures, no_word (drop at text) told c.in_err-kind.was, other_word text at c.requires.0 c.requires.1)

pub returns : goal.returns
returns c =
    let told = c.keyword.ensures ∙ ap (keyword_told keywords) c.run_at-word.ensures.number in
    rw c.plain.ensures
    (word_told (drop c.args.at c.args.text.now) told c.args.at c.in_ok-kind.was c.run_at-word.ensures.end)
