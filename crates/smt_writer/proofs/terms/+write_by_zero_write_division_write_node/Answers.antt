-- `smt_writer::terms::write_node`, `write_division` and `write_by_zero` meet their contracts: whatever writes the part at hand
-- writes the whole, and each turn goes on by the law of its shape.
use Prim.Native.Nat.{ℕ, ◌+◌, ◌*◌, ◌-◌, ◌<◌, ◌≤◌}
use Rattle.std.proofs.Common.{◌≡◌, refl, pos, get_or, eq-eqb, ne_eqb, arith, rules}
use Rattle.script.specs.Rows.{field_number}
use Rattle.script.specs.Kinds.{kind_of, number_read, other_read}
use Rattle.script.specs.Laws.{back}
use Rattle.output.specs.Written.{then}
use Rattle.theorems.specs.WordsAt.{expression}
use Rattle.smt_writer.specs.Openings.{by_zero_text}
use Rattle.smt_writer.specs.Divisions.{dividend_at, division_inside, division_begins, divisor_place, divisor_stands}
use Rattle.smt_writer.specs.Turns.{full}
use Rattle.smt_writer.specs.Arms.{within, number_inside, leaf_left, truth_left, single_turn, first_begins, pair_turn, divides, division_turn, test_begins, chosen_begins, choice_turn}
use Rattle.smt_writer.proofs.terms.+write_by_zero_write_division_write_node.Goals as goal

-- ---- what a division is by zero: the quotient 0, the remainder the dividend

pub write_by_zero-returns-in-Div : goal.write_by_zero-returns-in-Div
unfolding by_zero_text
write_by_zero-returns-in-Div t c k e =
    record { wrote = λ n d s. rw (eq-eqb k 6 (number_read e c.in-Div.is refl)) c.push_text.ensures }

pub write_by_zero-write_node-requires : goal.write_by_zero-write_node-requires
write_by_zero-write_node-requires t c =
    let divides = c.requires.divides in
    let inside = division_inside divides.stands in
    let measure = c.decreases in
    (omega arith, λ room. division_begins divides.stands)

pub write_by_zero-returns-in_default : goal.write_by_zero-returns-in_default
unfolding by_zero_text kind_of
write_by_zero-returns-in_default t c k e = record {
  wrote = λ n d s.
      rw (ne_eqb k 6 (other_read e c.in_default.not-Div refl))
      (then (c.write_node.ensures.reaches (expression n) (dividend_at s)).wrote c.push_text-in_default.ensures);
}

-- ---- a division, part by part: the divisor, what the division is by zero, the dividend

pub write_division-write_node-requires : goal.write_division-write_node-requires
write_division-write_node-requires t c =
    let divides = c.requires.divides in
    let ends = c.expression_end-divisor.ensures in
    let place = divisor_place divides.stands ends in
    let inside = division_inside divides.stands in
    let measure = c.decreases in
    (omega arith, λ room. record { node = expression divides.divisor; stands = divisor_stands divides.stands ends })

pub write_division-write_node-requires-2 : goal.write_division-write_node-requires-2
write_division-write_node-requires-2 t c =
    let divides = c.requires.divides in
    let inside = division_inside divides.stands in
    let measure = c.decreases in
    (omega arith, λ room. division_begins divides.stands)

pub write_division-returns : goal.write_division-returns
write_division-returns t c k e =
    let ends = c.expression_end-divisor.ensures in
    record {
      wrote = λ n d s.
          let first = (c.write_node.ensures.reaches (expression d) (divisor_stands s ends)).wrote in
          let last = (c.write_node-2.ensures.reaches (expression n) (dividend_at s)).wrote in
          then
          (then (then (then (then c.push_text.ensures first) c.push_text-2.ensures) ((c.write_by_zero.ensures k e).wrote n d s)) last)
          c.push_byte.ensures;
      divisor = λ n d s. divisor_place s ends;
    }

-- ---- at the place `at` of n words, from the node at the place `first` on: a part at a later place, a division at this one

part_falls : {n first at t later : ℕ} → 4 * (n - first) + 3 ≡ t → first ≤ at → at < n → at < later → 4 * (n - later) + 3 < t
part_falls measure forward inside h = omega arith

division_falls : {n first at t : ℕ} → 4 * (n - first) + 3 ≡ t → first ≤ at → at < n → 4 * (n - at) + 2 < t
division_falls measure forward inside = omega arith

-- ---- at a kind word

pub write_node-kind_at-kind-requires : goal.write_node-kind_at-kind-requires
write_node-kind_at-kind-requires t c = within c.loop-kind.invariant (c.fits.ensures.0 c.loop-kind-test.true)

-- ---- a constant, a variable or a mark

pub write_node-overflow_add-at : goal.write_node-overflow_add-at
write_node-overflow_add-at t c =
    let number = number_inside c.loop-kind.invariant (c.fits.ensures.0 c.loop-kind-test.true) refl (c.shape_of.ensures _ c.kind_at-kind.ensures) c.in-Leaf.is in
    omega (arith, number)

pub write_node-offset_bounds-words-at : goal.write_node-offset_bounds-words-at
write_node-offset_bounds-words-at t c =
    let number = number_inside c.loop-kind.invariant (c.fits.ensures.0 c.loop-kind-test.true) refl (c.shape_of.ensures _ c.kind_at-kind.ensures) c.in-Leaf.is in
    omega (arith, number)

pub write_node-overflow_add-result : goal.write_node-overflow_add-result
write_node-overflow_add-result t c =
    let number = number_inside c.loop-kind.invariant (c.fits.ensures.0 c.loop-kind-test.true) refl (c.shape_of.ensures _ c.kind_at-kind.ensures) c.in-Leaf.is in
    omega (arith, number)

pub write_node-bounds-words-at : goal.write_node-bounds-words-at
write_node-bounds-words-at t c =
    number_inside c.loop-kind.invariant (c.fits.ensures.0 c.loop-kind-test.true) refl (c.shape_of.ensures _ c.kind_at-kind.ensures) c.in-Leaf.is

pub write_node-returns-in-Leaf : goal.write_node-returns-in-Leaf
write_node-returns-in-Leaf t c =
    leaf_left c.loop-kind.invariant (c.fits.ensures.0 c.loop-kind-test.true) refl (c.shape_of.ensures _ c.kind_at-kind.ensures) c.in-Leaf.is
    (back {z = get_or c.args.words.now (c.loop-kind.at + 1) (pos 0)} (search rules)) refl (c.write_leaf.ensures _ c.kind_at-kind.ensures) c.push_repeated.ensures

-- ---- true or false

pub write_node-overflow_add-result-in-Truth : goal.write_node-overflow_add-result-in-Truth
write_node-overflow_add-result-in-Truth t c = omega (arith, within c.loop-kind.invariant (c.fits.ensures.0 c.loop-kind-test.true))

pub write_node-returns-in-Truth : goal.write_node-returns-in-Truth
write_node-returns-in-Truth t c =
    truth_left c.loop-kind.invariant (c.fits.ensures.0 c.loop-kind-test.true) refl (c.shape_of.ensures _ c.kind_at-kind.ensures) c.in-Truth.is refl
    (c.write_truth.ensures _ c.kind_at-kind.ensures) c.push_repeated-in-Truth.ensures

-- ---- one part

pub write_node-overflow_add-at-in-Single : goal.write_node-overflow_add-at-in-Single
write_node-overflow_add-at-in-Single t c = omega (arith, within c.loop-kind.invariant (c.fits.ensures.0 c.loop-kind-test.true))

pub write_node-overflow_add-closing : goal.write_node-overflow_add-closing
write_node-overflow_add-closing t c =
    let here = within c.loop-kind.invariant (c.fits.ensures.0 c.loop-kind-test.true) in
    let few = c.loop-kind.invariant.few in
    omega arith

pub write_node-loop-kind-smaller-in-Single : goal.write_node-loop-kind-smaller-in-Single
write_node-loop-kind-smaller-in-Single t c = omega (arith, within c.loop-kind.invariant (c.fits.ensures.0 c.loop-kind-test.true))

pub write_node-loop-kind-preserved-in-Single : goal.write_node-loop-kind-preserved-in-Single
write_node-loop-kind-preserved-in-Single t c =
    single_turn c.loop-kind.invariant (c.fits.ensures.0 c.loop-kind-test.true) refl (c.shape_of.ensures _ c.kind_at-kind.ensures) c.in-Single.is (c.write_opening.ensures _ c.kind_at-kind.ensures)

-- ---- a division

pub write_node-write_division-at-requires : goal.write_node-write_division-at-requires
write_node-write_division-at-requires t c = (
  division_falls c.decreases c.loop-kind.invariant.forward (within c.loop-kind.invariant (c.fits.ensures.0 c.loop-kind-test.true)),
  record {
    number = field_number (get_or c.args.words.now c.loop-kind.at (pos 0));
    is = c.kind_at-kind.ensures;
    divides = divides c.loop-kind.invariant (c.fits.ensures.0 c.loop-kind-test.true) refl (c.shape_of.ensures _ c.kind_at-kind.ensures) c.in-Division.is;
  },
)

pub write_node-overflow_add-closing-in-Division : goal.write_node-overflow_add-closing-in-Division
write_node-overflow_add-closing-in-Division t c =
    let here = within c.loop-kind.invariant (c.fits.ensures.0 c.loop-kind-test.true) in
    let few = c.loop-kind.invariant.few in
    omega arith

pub write_node-loop-kind-smaller-in-Division : goal.write_node-loop-kind-smaller-in-Division
write_node-loop-kind-smaller-in-Division t c =
    let here = within c.loop-kind.invariant (c.fits.ensures.0 c.loop-kind-test.true) in
    let d = divides c.loop-kind.invariant (c.fits.ensures.0 c.loop-kind-test.true) refl (c.shape_of.ensures _ c.kind_at-kind.ensures) c.in-Division.is in
    omega (arith, here, (c.write_division-at.ensures _ c.kind_at-kind.ensures).divisor d.dividend d.divisor d.stands)

pub write_node-loop-kind-preserved-in-Division : goal.write_node-loop-kind-preserved-in-Division
write_node-loop-kind-preserved-in-Division t c =
    division_turn c.loop-kind.invariant (c.fits.ensures.0 c.loop-kind-test.true) refl (c.shape_of.ensures _ c.kind_at-kind.ensures) c.in-Division.is (c.write_division-at.ensures _ c.kind_at-kind.ensures)

-- ---- three parts

pub write_node-overflow_add-at-in-Choice : goal.write_node-overflow_add-at-in-Choice
write_node-overflow_add-at-in-Choice t c = omega (arith, within c.loop-kind.invariant (c.fits.ensures.0 c.loop-kind-test.true))

pub write_node-write_node-chosen-requires : goal.write_node-write_node-chosen-requires
write_node-write_node-chosen-requires t c = (
  part_falls c.decreases c.loop-kind.invariant.forward (within c.loop-kind.invariant (c.fits.ensures.0 c.loop-kind-test.true)) (omega arith),
  λ r. test_begins c.loop-kind.invariant (c.fits.ensures.0 c.loop-kind-test.true) refl (c.shape_of.ensures _ c.kind_at-kind.ensures) c.in-Choice.is,
)

pub write_node-write_node-at-requires : goal.write_node-write_node-at-requires
write_node-write_node-at-requires t c =
    let forward = c.write_node-chosen.ensures.forward in (
      part_falls c.decreases c.loop-kind.invariant.forward (within c.loop-kind.invariant (c.fits.ensures.0 c.loop-kind-test.true)) (omega arith),
      chosen_begins c.loop-kind.invariant (c.fits.ensures.0 c.loop-kind-test.true) refl (c.shape_of.ensures _ c.kind_at-kind.ensures) c.in-Choice.is
          (c.write_opening-in-Choice.ensures _ c.kind_at-kind.ensures) c.write_node-chosen.ensures c.push_byte.ensures,
    )

pub write_node-overflow_add-closing-in-Choice : goal.write_node-overflow_add-closing-in-Choice
write_node-overflow_add-closing-in-Choice t c =
    let here = within c.loop-kind.invariant (c.fits.ensures.0 c.loop-kind-test.true) in
    let few = c.loop-kind.invariant.few in
    omega arith

pub write_node-loop-kind-smaller-in-Choice : goal.write_node-loop-kind-smaller-in-Choice
write_node-loop-kind-smaller-in-Choice t c =
    let here = within c.loop-kind.invariant (c.fits.ensures.0 c.loop-kind-test.true) in
    omega (arith, here, c.write_node-chosen.ensures.forward, c.write_node-at.ensures.forward)

pub write_node-loop-kind-preserved-in-Choice : goal.write_node-loop-kind-preserved-in-Choice
write_node-loop-kind-preserved-in-Choice t c =
    choice_turn c.loop-kind.invariant (c.fits.ensures.0 c.loop-kind-test.true) refl (c.shape_of.ensures _ c.kind_at-kind.ensures) c.in-Choice.is
    (c.write_opening-in-Choice.ensures _ c.kind_at-kind.ensures) c.write_node-chosen.ensures c.push_byte.ensures c.write_node-at.ensures
    c.push_byte-in-Choice.ensures

-- ---- two parts

pub write_node-overflow_add-at-in-Pair : goal.write_node-overflow_add-at-in-Pair
write_node-overflow_add-at-in-Pair t c = omega (arith, within c.loop-kind.invariant (c.fits.ensures.0 c.loop-kind-test.true))

pub write_node-write_node-at-requires-in-Pair : goal.write_node-write_node-at-requires-in-Pair
write_node-write_node-at-requires-in-Pair t c = (
  part_falls c.decreases c.loop-kind.invariant.forward (within c.loop-kind.invariant (c.fits.ensures.0 c.loop-kind-test.true)) (omega arith),
  λ r. first_begins c.loop-kind.invariant (c.fits.ensures.0 c.loop-kind-test.true) refl (c.shape_of.ensures _ c.kind_at-kind.ensures) c.in-Pair.is,
)

pub write_node-overflow_add-closing-in-Pair : goal.write_node-overflow_add-closing-in-Pair
write_node-overflow_add-closing-in-Pair t c =
    let here = within c.loop-kind.invariant (c.fits.ensures.0 c.loop-kind-test.true) in
    let few = c.loop-kind.invariant.few in
    omega arith

pub write_node-loop-kind-smaller : goal.write_node-loop-kind-smaller
write_node-loop-kind-smaller t c =
    let here = within c.loop-kind.invariant (c.fits.ensures.0 c.loop-kind-test.true) in
    omega (arith, here, c.write_node-at-in-Pair.ensures.forward)

pub write_node-loop-kind-preserved : goal.write_node-loop-kind-preserved
write_node-loop-kind-preserved t c =
    pair_turn c.loop-kind.invariant (c.fits.ensures.0 c.loop-kind-test.true) refl (c.shape_of.ensures _ c.kind_at-kind.ensures) c.in-Pair.is
    (c.write_opening-in-Pair.ensures _ c.kind_at-kind.ensures) c.write_node-at-in-Pair.ensures c.push_byte-in-Pair.ensures

-- ---- no room is left

pub write_node-returns : goal.write_node-returns
write_node-returns t c = full c.loop-kind.invariant (c.fits.ensures.1 c.loop-kind-test.false)
