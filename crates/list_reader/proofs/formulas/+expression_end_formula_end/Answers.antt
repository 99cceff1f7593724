-- `list_reader::formulas::expression_end` and `formula_end`, turn by turn, by the kind of node that the word at the place opens.
use Rattle.std.proofs.Common.{refl, ap, length, arith}
use Rattle.list_reader.proofs.Part.{whole_is}
use Rattle.list_reader.proofs.Waiting.{ended, passed, unary, binary, missed}
use Rattle.list_reader.proofs.Reading.{number_ends, negate_ends, arithmetic_ends, choose_ends, expression_missing, no_expression_left}
use Rattle.list_reader.proofs.Reading.{truth_ends, not_ends, junction_ends, formula_missing, no_formula_left}
use Rattle.list_reader.proofs.Reading.{expression_stands, formula_stands, expression_farther, formula_farther, falls}
use Rattle.list_reader.proofs.Lending.{sides_end, side_farther}
use Rattle.list_reader.proofs.formulas.+expression_end_formula_end.Goals as goal

-- ---- an expression

pub expression_end-returns-then-waiting-eq0 : goal.expression_end-returns-then-waiting-eq0
expression_end-returns-then-waiting-eq0 t c =
    ended c.loop-at.invariant c.if-waiting-eq0.true
    (number_ends c.expression_node_at-node.ensures c.in-Number.is _ c.number_end-at.ensures)

pub expression_end-loop-at-smaller-in-Number : goal.expression_end-loop-at-smaller-in-Number
expression_end-loop-at-smaller-in-Number t c =
    let inside = expression_stands c.expression_node_at-node.ensures c.in-Number.is refl in
    let ends = number_ends c.expression_node_at-node.ensures c.in-Number.is _ c.number_end-at.ensures in
    omega (arith, inside, expression_farther (omega (arith, inside)) ends)

pub expression_end-loop-at-preserved-in-Number : goal.expression_end-loop-at-preserved-in-Number
expression_end-loop-at-preserved-in-Number t c =
    let inside = expression_stands c.expression_node_at-node.ensures c.in-Number.is refl in
    let ends = number_ends c.expression_node_at-node.ensures c.in-Number.is _ c.number_end-at.ensures in
    passed _ c.loop-at.invariant c.if-waiting-eq0.false ends (expression_farther (omega (arith, inside)) ends)

pub expression_end-loop-at-preserved-in-Negate : goal.expression_end-loop-at-preserved-in-Negate
expression_end-loop-at-preserved-in-Negate t c =
    unary c.loop-at.invariant (omega arith) (λ m x. negate_ends c.expression_node_at-node.ensures c.in-Negate.is x)

pub expression_end-loop-at-preserved-in-Arithmetic : goal.expression_end-loop-at-preserved-in-Arithmetic
expression_end-loop-at-preserved-in-Arithmetic t c =
    binary c.loop-at.invariant (omega arith) (λ m e x y. arithmetic_ends c.expression_node_at-node.ensures c.in-Arithmetic.is x y)

pub expression_end-loop-at-smaller : goal.expression_end-loop-at-smaller
expression_end-loop-at-smaller t c =
    let inside = expression_stands c.expression_node_at-node.ensures c.in-Choose.is refl in
    let ends = rw (whole_is c.args.words.now) at c.formula_end-at.ensures in
    omega (arith, inside, formula_farther (omega (arith, inside)) ends)

pub expression_end-loop-at-preserved : goal.expression_end-loop-at-preserved
expression_end-loop-at-preserved t c =
    let opens = c.expression_node_at-node.ensures in
    let inside = expression_stands opens c.in-Choose.is refl in
    let ends = rw (whole_is c.args.words.now) at c.formula_end-at.ensures in
    binary c.loop-at.invariant (omega (arith, formula_farther (omega (arith, inside)) ends))
    (λ m e x y. choose_ends opens c.in-Choose.is ends x y)

pub expression_end-returns-in-Nothing : goal.expression_end-returns-in-Nothing
expression_end-returns-in-Nothing t c =
    missed c.loop-at.invariant (expression_missing c.expression_node_at-node.ensures c.in-Nothing.is)
    (no_expression_left c.args.words.now)

-- ---- a formula

pub formula_end-returns-then-waiting-eq0 : goal.formula_end-returns-then-waiting-eq0
formula_end-returns-then-waiting-eq0 t c =
    let opens = c.formula_node_at-node.ensures in
    let q = c.in-Truth.is in
    rw (whole_is c.args.words.now) at
    (ended c.loop-at.invariant c.if-waiting-eq0.true (truth_ends opens q (formula_stands opens q refl)))

pub formula_end-loop-at-preserved-in-Truth : goal.formula_end-loop-at-preserved-in-Truth
formula_end-loop-at-preserved-in-Truth t c =
    let opens = c.formula_node_at-node.ensures in
    let q = c.in-Truth.is in
    passed _ c.loop-at.invariant c.if-waiting-eq0.false (truth_ends opens q (formula_stands opens q refl)) (omega arith)

pub formula_end-expression_end-at-requires : goal.formula_end-expression_end-at-requires
formula_end-expression_end-at-requires t c =
    let whole = whole_is c.args.words.now in
    let inside = formula_stands c.formula_node_at-node.ensures c.in-Comparison.is refl in (
      falls (ap length whole) c.decreases c.loop-at.invariant.after (rw whole at inside)
          (side_farther c.formula_node_at-node.ensures c.in-Comparison.is c.saturating_sub-room.ensures c.expression_end-middle.ensures
          c.end_within.ensures inside),
      tt,
    )

-- the comparison ends where its second side ends
pub formula_end-returns-then-waiting-eq0-2 : goal.formula_end-returns-then-waiting-eq0-2
formula_end-returns-then-waiting-eq0-2 t c =
    let ends = sides_end c.formula_node_at-node.ensures c.in-Comparison.is c.saturating_sub-room.ensures
    c.expression_end-middle.ensures c.end_within.ensures c.expression_end-at.ensures in
    rw (whole_is c.args.words.now) at (ended c.loop-at.invariant c.if-waiting-eq0-2.true ends)

pub formula_end-loop-at-smaller-in-Comparison : goal.formula_end-loop-at-smaller-in-Comparison
formula_end-loop-at-smaller-in-Comparison t c =
    let ends = sides_end c.formula_node_at-node.ensures c.in-Comparison.is c.saturating_sub-room.ensures
    c.expression_end-middle.ensures c.end_within.ensures c.expression_end-at.ensures in
    let inside = formula_stands c.formula_node_at-node.ensures c.in-Comparison.is refl in
    omega (arith, inside, formula_farther (omega (arith, inside)) ends)

pub formula_end-loop-at-preserved-in-Comparison : goal.formula_end-loop-at-preserved-in-Comparison
formula_end-loop-at-preserved-in-Comparison t c =
    let ends = sides_end c.formula_node_at-node.ensures c.in-Comparison.is c.saturating_sub-room.ensures
    c.expression_end-middle.ensures c.end_within.ensures c.expression_end-at.ensures in
    let inside = formula_stands c.formula_node_at-node.ensures c.in-Comparison.is refl in
    passed _ c.loop-at.invariant c.if-waiting-eq0-2.false ends (formula_farther (omega (arith, inside)) ends)

pub formula_end-loop-at-preserved-in-Not : goal.formula_end-loop-at-preserved-in-Not
formula_end-loop-at-preserved-in-Not t c =
    unary c.loop-at.invariant (omega arith) (λ m x. not_ends c.formula_node_at-node.ensures c.in-Not.is x)

pub formula_end-loop-at-preserved : goal.formula_end-loop-at-preserved
formula_end-loop-at-preserved t c =
    binary c.loop-at.invariant (omega arith) (λ m e x y. junction_ends c.formula_node_at-node.ensures c.in-Junction.is x y)

pub formula_end-returns-in-Nothing : goal.formula_end-returns-in-Nothing
formula_end-returns-in-Nothing t c =
    rw (whole_is c.args.words.now) at
    (missed c.loop-at.invariant (formula_missing c.formula_node_at-node.ensures c.in-Nothing.is) (no_formula_left _))
