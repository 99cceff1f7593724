-- `smt_writer::names::write_declarations` meets its contract: the names noted are those of the script.
use Rattle.std.proofs.Common.{ap, ◌∙◌, ℕ, length, ◌-◌, ◌++◌, arith, replicate}
use Rattle.std.proofs.lemmas.List.{length-replicate}
use Rattle.script.specs.Rows.{variables}
use Rattle.output.specs.Written.{then, written_as}
use Rattle.smt.specs.Translate.{references}
use Rattle.smt.specs.Declared.{ranged}
use Rattle.smt_writer.specs.Noted.{names, noted_length, variables_within, marks_within, declared_from, declared_noted}
use Rattle.smt_writer.proofs.names.write_declarations.Goals as goal

pub declare_names-requires : goal.declare_names-requires
declare_names-requires c =
    let s = c.requires in
    let rs = references s.claim in
    let run = ap length (c.note_names-tops.ensures.flags s.claim s.spells) ∙ noted_length rs (replicate names 0) in
    let top = c.note_names-tops.ensures.variables s.claim s.spells in
    omega (arith, run, top, length-replicate {A = ℕ} names 0, variables_within rs (ranged s.claim s.spells.range))

pub declare_names-requires-2 : goal.declare_names-requires-2
declare_names-requires-2 c =
    let s = c.requires in
    let rs = references s.claim in
    let run = ap length (c.note_names-tops.ensures.flags s.claim s.spells) ∙ noted_length rs (replicate names 0) in
    let top = c.note_names-tops.ensures.marks s.claim s.spells in
    omega (arith, run, top, length-replicate {A = ℕ} names 0, marks_within rs (ranged s.claim s.spells.range))

pub returns : goal.returns
returns c f s =
    let flags = c.note_names-tops.ensures.flags f s in
    let v = c.note_names-tops.ensures.variables f s in
    let m = c.note_names-tops.ensures.marks f s in
    written_as
    ((λ i. declared_from (flags i) 0 (v i - 0) ++ declared_from (flags i) variables (m i - variables)) ∙ declared_noted (references f) (ranged f s.range))
    (then c.declare_names.ensures c.declare_names-2.ensures)
