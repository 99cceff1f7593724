-- From what the tokens came to, the answer. Assumes nothing.
use Rattle.std.proofs.Common.{arith}
use Rattle.std.proofs.lemmas.Result.{err_from_is_err_and}
use Rattle.script_reader.specs.Reads.{taken, answered, stopped}
use Rattle.script_reader.proofs.read_with.Goals as goal

pub returns-in_err-s : goal.returns-in_err-s
returns-in_err-s g c =
    let p = err_from_is_err_and c.from_residual.result c.from_residual.ensures.1 in
    let q = c.requires in
    rw (p.1, p.2)
    (stopped c.args.text.now _ c.args.words.now (omega arith) (omega arith) q.words_value c.take_tokens.ensures c.in_err-s.was c.take_tokens.new.words)

pub finish-requires : goal.finish-requires
finish-requires g c =
    let q = c.requires in
    taken c.args.text.now _ c.args.words.now (omega arith) (omega arith) q.words_value c.take_tokens.ensures c.in_ok-s.was

pub returns : goal.returns
returns g c =
    let q = c.requires in
    answered c.args.text.now _ c.args.words.now (omega arith) (omega arith) q.words_value c.take_tokens.ensures c.in_ok-s.was c.finish.ensures
