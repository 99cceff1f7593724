-- What a blank, a token, a byte that begins none and the end of the text come to. Assumes nothing.
use Rattle.std.proofs.Common.{◌≡◌, sym, ap, ◌∙◌, arith}
use Rattle.std.proofs.lemmas.Result.{err_from_is_err_and}
use Rattle.scanner.specs.declared.Token.{Token}
use Rattle.scanner.specs.Progress.{told_none, told_some}
use Rattle.parser.specs.Machine.{config, start}
use Rattle.script_reader.specs.declared.refusals.Fault.TheVariants.{NoToken}
use Rattle.script_reader.specs.Going.{begins, past_blank, stuck, token_taken, end_taken}
use Rattle.script_reader.proofs.tokens.take_tokens.Goals as goal

pub loop-at-init : goal.loop-at-init
loop-at-init c = rw c.first_state-s.ensures (begins c.args.text.now _)

pub loop-at-preserved-then-is_blank : goal.loop-at-preserved-then-is_blank
loop-at-preserved-then-is_blank c =
    past_blank c.args.text.now _ _ c.loop-at.at c.loop-at.invariant c.loop-at-test.true (sym c.is_blank.ensures ∙ c.if-is_blank.true)

pub returns-in_err-token : goal.returns-in_err-token
returns-in_err-token c =
    let p = err_from_is_err_and c.from_residual.result c.from_residual.ensures.1 in
    let e = c.in_err-token.ensures in
    let same : c.in_err-token.field-0.0 ≡ record { fault = NoToken; place = c.loop-at.at } = grind arith in
    rw (p.1, p.2, same)
    (stuck c.args.text.now (start c.args.stack.now c.args.words.now) (config c.loop-at.s c.loop-at.stack c.loop-at.words) c.loop-at.at c.loop-at.invariant
    c.loop-at-test.true (sym c.is_blank.ensures ∙ c.if-is_blank.false)
    (told_none c.args.text.now c.loop-at.at (sym c.token_at.ensures ∙ e.ok_part)))

pub loop-at-smaller : goal.loop-at-smaller
loop-at-smaller c =
    let t = told_some c.args.text.now c.loop-at.at (sym c.token_at.ensures ∙ c.in_ok-token.ensures.ok_part) in
    omega (arith, t.goes_on, t.within)

pub loop-at-preserved : goal.loop-at-preserved
loop-at-preserved c =
    let t = told_some c.args.text.now c.loop-at.at (sym c.token_at.ensures ∙ c.in_ok-token.ensures.ok_part) in
    token_taken c.args.text.now (start c.args.stack.now c.args.words.now) (config c.loop-at.s c.loop-at.stack c.loop-at.words) c.loop-at.at c.loop-at.invariant
    c.loop-at-test.true (sym c.is_blank.ensures ∙ c.if-is_blank.false)
    _ _ _ (ap (λ (x : Token). x.kind) t.is) (ap (λ (x : Token). x.value) t.is) (ap (λ (x : Token). x.end) t.is) t.numbered
    _ _ _ c.take-s.ensures.state c.take-s.ensures.stack c.take-s.ensures.words c.take-s.auto.words c.take-s.auto.stack

pub returns : goal.returns
returns c =
    end_taken c.args.text.now (start c.args.stack.now c.args.words.now) (config c.loop-at.s c.loop-at.stack c.loop-at.words) c.loop-at.at c.loop-at.invariant
    c.loop-at-test.false _ _ _ c.take.ensures.state c.take.ensures.stack c.take.ensures.words c.take.auto.words
