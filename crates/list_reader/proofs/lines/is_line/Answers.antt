-- `list_reader::lines::is_line` meets its contract: the tests stand in the order of the definition.
use Rattle.std.proofs.Common.{◌∙◌, sym, ap, ℕ, ℤ, ◌-◌, List, add-one, rules}
use Rattle.script.specs.Laws.{back}
use Rattle.std.proofs.Math.Seq.{slice}
use Rattle.script.specs.Rows.{field_number}
use Rattle.script.specs.Listing.{spelled}
use Rattle.list_reader.specs.Lines.{is_some}
use Rattle.list_reader.proofs.Part.{part_is}
use Rattle.list_reader.proofs.Trailers.{formula_decides, depth_decides, size_decides, row_decides, rule_decides}
use Rattle.list_reader.proofs.lines.is_line.Goals as goal

pub returns-then-is_below-3 : goal.returns-then-is_below-3
returns-then-is_below-3 c =
    let a = c.args in
    let kind = back {z = a.t.kind} (search rules) in
    let row = back {z = a.t.row} (search rules) in
    let size = back {z = a.t.size} (search rules) in
    let depth = back {z = a.t.depth} (search rules) in
    let number = c.field_number-n.ensures ∙ ap field_number size in
    formula_decides a.words.now a.e a.t
    (sym (rw (c.field_number-k.ensures, kind) at c.is_rule.ensures) ∙ c.if-is_rule.true)
    (sym (rw row at c.is_below.ensures) ∙ c.if-is_below.true)
    (sym (rw (size, add-one) at c.is_below-then-is_below.ensures) ∙ c.if-is_below-2.true)
    (sym (rw depth at c.is_below-then-is_below-2.ensures) ∙ c.if-is_below-3.true)
    (c.is_formula.ensures
    ∙ ap (λ (us : List ℤ). is_some (spelled us)) (part_is (a.e - c.field_number-n.result) a.e a.words.now)
    ∙ ap (λ (m : ℕ). is_some (spelled (slice (a.e - m) a.e a.words.now))) number)

pub returns-else-is_below-3 : goal.returns-else-is_below-3
returns-else-is_below-3 c =
    let a = c.args in
    let kind = back {z = a.t.kind} (search rules) in
    let row = back {z = a.t.row} (search rules) in
    let size = back {z = a.t.size} (search rules) in
    let depth = back {z = a.t.depth} (search rules) in
    c.if-is_below-3.false
    ∙ depth_decides a.words.now a.e a.t
    (sym (rw (c.field_number-k.ensures, kind) at c.is_rule.ensures) ∙ c.if-is_rule.true)
    (sym (rw row at c.is_below.ensures) ∙ c.if-is_below.true)
    (sym (rw (size, add-one) at c.is_below-then-is_below.ensures) ∙ c.if-is_below-2.true)
    (sym (rw depth at c.is_below-then-is_below-2.ensures) ∙ c.if-is_below-3.false)

pub returns-else-is_below-2 : goal.returns-else-is_below-2
returns-else-is_below-2 c =
    let a = c.args in
    let kind = back {z = a.t.kind} (search rules) in
    let row = back {z = a.t.row} (search rules) in
    let size = back {z = a.t.size} (search rules) in
    c.if-is_below-2.false
    ∙ size_decides a.words.now a.e a.t
    (sym (rw (c.field_number-k.ensures, kind) at c.is_rule.ensures) ∙ c.if-is_rule.true)
    (sym (rw row at c.is_below.ensures) ∙ c.if-is_below.true)
    (sym (rw (size, add-one) at c.is_below-then-is_below.ensures) ∙ c.if-is_below-2.false)

pub returns-else-is_below : goal.returns-else-is_below
returns-else-is_below c =
    let a = c.args in
    let kind = back {z = a.t.kind} (search rules) in
    let row = back {z = a.t.row} (search rules) in
    c.if-is_below.false
    ∙ row_decides a.words.now a.e a.t
    (sym (rw (c.field_number-k.ensures, kind) at c.is_rule.ensures) ∙ c.if-is_rule.true)
    (sym (rw row at c.is_below.ensures) ∙ c.if-is_below.false)

pub returns-else-is_rule : goal.returns-else-is_rule
returns-else-is_rule c =
    let a = c.args in
    let kind = back {z = a.t.kind} (search rules) in
    c.if-is_rule.false
    ∙ rule_decides a.words.now a.e a.t
    (sym (rw (c.field_number-k.ensures, kind) at c.is_rule.ensures) ∙ c.if-is_rule.false)
