-- Digits follow up to the word's end, or there is no token.
use Rattle.std.proofs.Common.{arith, ap, sym, ◌∙◌}
use Rattle.grammar.specs.Scanning.{is_word_byte}
use Rattle.scanner.proofs.Variables.{no_digit, longer_word, all_digits}
use Rattle.scanner.proofs.variable_at.Goals as goal
use Rattle.scanner.proofs.variable_at.Goals.{then-end-at-via-then-end-at, then-end-at-via-else-end-at+then-is_word_byte}

pub returns-then-end-at : goal.returns-then-end-at
returns-then-end-at c =
    let text = c.args.text.now in
    let q = c.requires in
    elim c.then-end-at.branch [
      | then-end-at-via-then-end-at w ↦ rw (no_digit text c.args.at q.0 q.1 (omega arith))
      | then-end-at-via-else-end-at+then-is_word_byte w ↦
          let tested = sym w.is_word_byte.ensures ∙ w.if-is_word_byte.true in
          let in_word = ap is_word_byte (sym w.byte_at.ensures) ∙ tested in
          rw (longer_word text c.args.at q.0 q.1 c.number_at-digits.ensures.end in_word)
    ]

pub returns : goal.returns
returns c =
    let tested = sym c.is_word_byte.ensures ∙ c.if-is_word_byte.false in
    let word_ends = ap is_word_byte (sym c.byte_at.ensures) ∙ tested in
    let digits = c.number_at-digits.ensures in
    all_digits c.args.text.now c.args.at c.requires.0 c.requires.1 digits.end digits.number word_ends (omega arith)
