-- The answer. Assumes nothing.
use Rattle.std.proofs.Common.{ℕ, ◌≡◌, subst, ap, ◌∙◌, sym, arith, length}
use Rattle.script.specs.Generated.{zeros}
use Rattle.grammar.specs.Answer.{answer}
use Rattle.script_reader.specs.Results.{answer_of}
use Rattle.script_reader.specs.Takes.{Comes}
use Rattle.script_reader.specs.Reads.{too_long, cleared}
use Rattle.script_reader.proofs.read_text.Goals as goal
use Rattle.script_reader.proofs.read_text.Goals.{in-0-to-1023, in-1024-to-8191, in-8192-to-32768}

pub returns-in_default : goal.returns-in_default
returns-in_default c =
    too_long c.args.text.now (length c.args.words.now) c.clear.new.words (omega arith) c.clear.ensures

pub returns-then-is_err : goal.returns-then-is_err
returns-then-is_err c =
    let text = c.args.text.now in
    let used = c.if-text-lt1024.used in
    let words = c.if-text-lt1024.words in
    let came : Comes text (length c.clear.new.words) used words =
    elim c.if-text-lt1024.branch [
      | in-0-to-1023 w ↦ rw (w.used-is, w.words-is) w.read_with-used.ensures
      | in-1024-to-8191 w ↦ rw (w.used-is, w.words-is) w.read_with-used-in-1024-to-8191.ensures
      | in-8192-to-32768 w ↦ rw (w.used-is, w.words-is) w.read_with-used-in-8192-to-32768.ensures
    ] in
    let zero = c.clear-then-is_err.ensures ∙ ap (λ (n : ℕ). zeros n) c.if-text-lt1024.auto.words in
    subst (λ (n : ℕ). answer_of used c.clear-then-is_err.new.words ≡ answer text n) c.clear.auto.words
    (cleared text (length c.clear.new.words) used words came (sym c.if-is_err.ensures.value) _ zero)
