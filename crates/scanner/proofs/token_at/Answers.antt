-- By the first byte.
use Rattle.std.proofs.Common.{ap, sym, ◌∙◌}
use Rattle.grammar.specs.Scanning.{is_letter}
use Rattle.scanner.specs.Lexed.{told_at}
use Rattle.scanner.proofs.Starts.{past_end, at_digit, at_letter, at_symbol}
use Rattle.scanner.proofs.token_at.Goals as goal

pub returns-in_err-byte : goal.returns-in_err-byte
returns-in_err-byte c = rw (c.from_residual.ensures, past_end c.args.text.now c.in_err-byte.ensures.lookup.3)

pub returns-then-is_digit : goal.returns-then-is_digit
returns-then-is_digit c =
    let byte = c.in_ok-byte.ensures.lookup.3 in
    rw (c.numeral_at.ensures, at_digit c.args.text.now byte.0 (byte.1 0) c.if-is_digit.ensures)

pub returns-then-byte-eq118 : goal.returns-then-byte-eq118
returns-then-byte-eq118 c =
    let byte = c.in_ok-byte.ensures.lookup.3 in
    let letter = sym (ap is_letter c.if-byte-eq118.true) in
    c.variable_at.ensures
    ∙ ap (told_at c.args.at) (sym (at_letter c.args.text.now byte.0 (byte.1 0) c.if-is_digit.ensures letter))

pub returns-then-is_letter : goal.returns-then-is_letter
returns-then-is_letter c =
    let byte = c.in_ok-byte.ensures.lookup.3 in
    c.keyword_at.ensures
    ∙ ap (told_at c.args.at) (sym (at_letter c.args.text.now byte.0 (byte.1 0) c.if-is_digit.ensures c.if-is_letter.ensures))

pub returns : goal.returns
returns c =
    let byte = c.in_ok-byte.ensures.lookup.3 in
    c.symbol_at.ensures
    ∙ ap (told_at c.args.at)
    (sym (at_symbol c.args.text.now byte.0 (byte.1 0) c.if-is_digit.ensures c.if-is_letter.ensures c.byte_at.ensures))
