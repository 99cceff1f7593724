use Rattle.std.proofs.Common.{◌∙◌, refl, ap, ℕ, ◌+◌, ◌<◌, [], ◌∷◌, pos, get_or, length, arith, rules}
use Rattle.script.specs.Laws.{back}
use Rattle.output.specs.Written.{written_as, nothing_written}
use Rattle.shortener.specs.declared.rules.Change.TheVariants.{Passed}
use Rattle.shortener.specs.declared.plan.Entry.{Entry}
use Rattle.shortener.specs.Arms.{PastChanges}
use Rattle.shortener.specs.Turns.{begin, end_turn}
use Rattle.shortener.specs.Moves.{here, in_changes, kept_turn, number_here, numbered_turn, first_parts, first_turn, second_parts, second_turn, moves_on, value_turn, passes_on, passed_turn}
use Rattle.shortener.specs.Runs.{blank}
use Rattle.shortener.proofs.Entered.{in_run, change_at, end_at, ends_same, noted_turn}
use Rattle.shortener.proofs.writing.write_formula.Goals as goal

-- none of the arms before it
past : (k : ℕ) → 6 < k → PastChanges k
past k h = search rules

pub loop-at-init : goal.loop-at-init
loop-at-init c = (refl, begin c.requires)

pub offset_bounds-entries-at : goal.offset_bounds-entries-at
offset_bounds-entries-at c = omega (arith, here c.loop-at.invariant.1 c.loop-at-test.true)

pub bounds : goal.bounds
bounds c = in_run c.loop-at.entries (in_changes c.loop-at.invariant.1 c.loop-at-test.true)

-- ---- its kind is written, with its number or without

pub offset_bounds-words-at : goal.offset_bounds-words-at
offset_bounds-words-at c = omega (arith, here c.loop-at.invariant.1 c.loop-at-test.true)

pub bounds-words-at : goal.bounds-words-at
bounds-words-at c = here c.loop-at.invariant.1 c.loop-at-test.true

pub loop-at-preserved-in-Kept : goal.loop-at-preserved-in-Kept
loop-at-preserved-in-Kept c =
    let t = c.loop-at.invariant.1 in
    let more = c.loop-at-test.true in
    let es = c.loop-at.entries in
    let within = in_run es (in_changes t more) in
    let told = change_at es blank within c.in-Kept.is in (
      c.loop-at.invariant.0,
      kept_turn t more told
          (written_as (ap (λ z. z ∷ []) (back {z = get_or c.args.words.now c.loop-at.at (pos 0)} (search rules))) c.push.ensures),
    )

pub bounds-words-at-in-KeptWithNumber : goal.bounds-words-at-in-KeptWithNumber
bounds-words-at-in-KeptWithNumber c = here c.loop-at.invariant.1 c.loop-at-test.true

pub bounds-words-at-in-KeptWithNumber-2 : goal.bounds-words-at-in-KeptWithNumber-2
bounds-words-at-in-KeptWithNumber-2 c =
    let t = c.loop-at.invariant.1 in
    let more = c.loop-at-test.true in
    let es = c.loop-at.entries in
    let within = in_run es (in_changes t more) in
    let told = change_at es blank within c.in-KeptWithNumber.is in
    number_here t more told

pub loop-at-preserved-in-KeptWithNumber : goal.loop-at-preserved-in-KeptWithNumber
loop-at-preserved-in-KeptWithNumber c =
    let t = c.loop-at.invariant.1 in
    let more = c.loop-at-test.true in
    let es = c.loop-at.entries in
    let within = in_run es (in_changes t more) in
    let told = change_at es blank within c.in-KeptWithNumber.is in
    let w = back {z = get_or c.args.words.now c.loop-at.at (pos 0)} (search rules) in
    let z = back {z = get_or c.args.words.now (c.loop-at.at + 1) (pos 0)} (search rules) in
    (c.loop-at.invariant.0, numbered_turn t more told (written_as (λ i. w i ∷ z i ∷ []) c.push_two.ensures))

-- ---- its first part is written, or its second

pub bounds-entries-at : goal.bounds-entries-at
bounds-entries-at c =
    let t = c.loop-at.invariant.1 in
    let more = c.loop-at-test.true in
    let es = c.loop-at.entries in
    let within = in_run es (in_changes t more) in
    let told = change_at es blank within c.in-First.is in
    let p = first_parts t more told in
    in_run es (omega (arith, p.first, t.begun.room, t.same.length))

pub bounds-entries-dropped : goal.bounds-entries-dropped
bounds-entries-dropped c =
    let t = c.loop-at.invariant.1 in
    let more = c.loop-at-test.true in
    let es = c.loop-at.entries in
    let within = in_run es (in_changes t more) in
    let told = change_at es blank within c.in-First.is in
    let p = first_parts t more told in
    let after : c.loop-at.at + 1 < length es = in_run es (omega (arith, p.first, t.begun.room, t.same.length)) in
    let dropped = end_at es blank after c.args.entries.now c.loop-at.invariant.0 c.place-dropped.ensures in
    in_run es (omega (arith, dropped, p.second, t.begun.room, t.same.length))

pub loop-at-preserved-in-First : goal.loop-at-preserved-in-First
loop-at-preserved-in-First c =
    let t = c.loop-at.invariant.1 in
    let more = c.loop-at-test.true in
    let es = c.loop-at.entries in
    let within = in_run es (in_changes t more) in
    let told = change_at es blank within c.in-First.is in
    let p = first_parts t more told in
    let after : c.loop-at.at + 1 < length es = in_run es (omega (arith, p.first, t.begun.room, t.same.length)) in
    let dropped = end_at es blank after c.args.entries.now c.loop-at.invariant.0 c.place-dropped.ensures in
    let n = c.place-dropped.result in
    let old = get_or es n blank in
    let e : Entry = record { end = old.end; shape = old.shape; change = Passed } in
    (ends_same es n blank e refl ∙ c.loop-at.invariant.0, noted_turn es n e dropped refl (first_turn t more told))

pub bounds-entries-at-in-Second : goal.bounds-entries-at-in-Second
bounds-entries-at-in-Second c =
    let t = c.loop-at.invariant.1 in
    let more = c.loop-at-test.true in
    let es = c.loop-at.entries in
    let within = in_run es (in_changes t more) in
    let told = change_at es blank within c.in-Second.is in
    let p = second_parts t more ([]) 3 (omega arith) (λ x h. h) told in
    in_run es (omega (arith, p.first, t.begun.room, t.same.length))

pub loop-at-smaller-in-Second : goal.loop-at-smaller-in-Second
loop-at-smaller-in-Second c =
    let t = c.loop-at.invariant.1 in
    let more = c.loop-at-test.true in
    let es = c.loop-at.entries in
    let within = in_run es (in_changes t more) in
    let told = change_at es blank within c.in-Second.is in
    let p = second_parts t more ([]) 3 (omega arith) (λ x h. h) told in
    let after : c.loop-at.at + 1 < length es = in_run es (omega (arith, p.first, t.begun.room, t.same.length)) in
    omega (arith, end_at es blank after c.args.entries.now c.loop-at.invariant.0 c.place-at.ensures, p.later, more)

pub loop-at-preserved-in-Second : goal.loop-at-preserved-in-Second
loop-at-preserved-in-Second c =
    let t = c.loop-at.invariant.1 in
    let more = c.loop-at-test.true in
    let es = c.loop-at.entries in
    let within = in_run es (in_changes t more) in
    let told = change_at es blank within c.in-Second.is in
    let p = second_parts t more ([]) 3 (omega arith) (λ x h. h) told in
    let after : c.loop-at.at + 1 < length es = in_run es (omega (arith, p.first, t.begun.room, t.same.length)) in (
      c.loop-at.invariant.0,
      rw (end_at es blank after c.args.entries.now c.loop-at.invariant.0 c.place-at.ensures)
          (second_turn t more ([]) 3 (omega arith) (λ x h. h) told (nothing_written _)),
    )

pub bounds-entries-at-in-NegatedSecond : goal.bounds-entries-at-in-NegatedSecond
bounds-entries-at-in-NegatedSecond c =
    let t = c.loop-at.invariant.1 in
    let more = c.loop-at-test.true in
    let es = c.loop-at.entries in
    let within = in_run es (in_changes t more) in
    let told = change_at es blank within c.in-NegatedSecond.is in
    let p = second_parts t more (pos 8 ∷ []) 4 (omega arith) (λ x h. h) told in
    in_run es (omega (arith, p.first, t.begun.room, t.same.length))

pub loop-at-smaller-in-NegatedSecond : goal.loop-at-smaller-in-NegatedSecond
loop-at-smaller-in-NegatedSecond c =
    let t = c.loop-at.invariant.1 in
    let more = c.loop-at-test.true in
    let es = c.loop-at.entries in
    let within = in_run es (in_changes t more) in
    let told = change_at es blank within c.in-NegatedSecond.is in
    let p = second_parts t more (pos 8 ∷ []) 4 (omega arith) (λ x h. h) told in
    let after : c.loop-at.at + 1 < length es = in_run es (omega (arith, p.first, t.begun.room, t.same.length)) in
    omega (arith, end_at es blank after c.args.entries.now c.loop-at.invariant.0 c.place-at-in-NegatedSecond.ensures, p.later, more)

pub loop-at-preserved-in-NegatedSecond : goal.loop-at-preserved-in-NegatedSecond
loop-at-preserved-in-NegatedSecond c =
    let t = c.loop-at.invariant.1 in
    let more = c.loop-at-test.true in
    let es = c.loop-at.entries in
    let within = in_run es (in_changes t more) in
    let told = change_at es blank within c.in-NegatedSecond.is in
    let p = second_parts t more (pos 8 ∷ []) 4 (omega arith) (λ x h. h) told in
    let after : c.loop-at.at + 1 < length es = in_run es (omega (arith, p.first, t.begun.room, t.same.length)) in (
      c.loop-at.invariant.0,
      rw (end_at es blank after c.args.entries.now c.loop-at.invariant.0 c.place-at-in-NegatedSecond.ensures)
          (second_turn t more (pos 8 ∷ []) 4 (omega arith) (λ x h. h) told c.push_kind.ensures),
    )

-- ---- a value is written

pub loop-at-smaller-in-True : goal.loop-at-smaller-in-True
loop-at-smaller-in-True c =
    let t = c.loop-at.invariant.1 in
    let more = c.loop-at-test.true in
    let es = c.loop-at.entries in
    let within = in_run es (in_changes t more) in
    let told = change_at es blank within c.in-True.is in
    omega (arith, end_at es blank within c.args.entries.now c.loop-at.invariant.0 c.place-at-in-True.ensures, moves_on t more 5 (omega arith) told, more)

pub loop-at-preserved-in-True : goal.loop-at-preserved-in-True
loop-at-preserved-in-True c =
    let t = c.loop-at.invariant.1 in
    let more = c.loop-at-test.true in
    let es = c.loop-at.entries in
    let within = in_run es (in_changes t more) in
    let told = change_at es blank within c.in-True.is in (
      c.loop-at.invariant.0,
      rw (end_at es blank within c.args.entries.now c.loop-at.invariant.0 c.place-at-in-True.ensures)
          (value_turn t more (pos 16) 5 (omega arith) (λ x h. h) told c.push_kind-in-True.ensures),
    )

pub loop-at-smaller-in-False : goal.loop-at-smaller-in-False
loop-at-smaller-in-False c =
    let t = c.loop-at.invariant.1 in
    let more = c.loop-at-test.true in
    let es = c.loop-at.entries in
    let within = in_run es (in_changes t more) in
    let told = change_at es blank within c.in-False.is in
    omega (arith, end_at es blank within c.args.entries.now c.loop-at.invariant.0 c.place-at-in-False.ensures, moves_on t more 6 (omega arith) told, more)

pub loop-at-preserved-in-False : goal.loop-at-preserved-in-False
loop-at-preserved-in-False c =
    let t = c.loop-at.invariant.1 in
    let more = c.loop-at-test.true in
    let es = c.loop-at.entries in
    let within = in_run es (in_changes t more) in
    let told = change_at es blank within c.in-False.is in (
      c.loop-at.invariant.0,
      rw (end_at es blank within c.args.entries.now c.loop-at.invariant.0 c.place-at-in-False.ensures)
          (value_turn t more (pos 17) 6 (omega arith) (λ x h. h) told c.push_kind-in-False.ensures),
    )

-- ---- it is passed over

pub loop-at-smaller : goal.loop-at-smaller
loop-at-smaller c =
    let t = c.loop-at.invariant.1 in
    let more = c.loop-at-test.true in
    let es = c.loop-at.entries in
    let within = in_run es (in_changes t more) in
    let told = change_at es blank within c.in-Passed.is in
    omega (arith, end_at es blank within c.args.entries.now c.loop-at.invariant.0 c.place-at-in-Passed.ensures, passes_on t more (past _ (omega (arith, told))), more)

pub loop-at-preserved : goal.loop-at-preserved
loop-at-preserved c =
    let t = c.loop-at.invariant.1 in
    let more = c.loop-at-test.true in
    let es = c.loop-at.entries in
    let within = in_run es (in_changes t more) in
    let told = change_at es blank within c.in-Passed.is in (
      c.loop-at.invariant.0,
      rw (end_at es blank within c.args.entries.now c.loop-at.invariant.0 c.place-at-in-Passed.ensures) (passed_turn t more (past _ (omega (arith, told)))),
    )

pub returns-clause-wrote : goal.returns-clause-wrote
returns-clause-wrote c = end_turn c.loop-at.invariant.1 c.loop-at-test.false
