-- The part stands within the list that it is told to stand in.
use Rattle.std.proofs.Common.{◌≡◌, refl, sym, ◌∙◌, ◌-◌, ◌≤◌, List, ℤ, length, take, drop, arith, FitsSigned, w32, to_z, of_z}
use mir.Facts.{to_z-of_z}
use Rattle.std.proofs.Math.Seq.{slice}
use Rattle.list_reader.proofs.Part.{part_is}
use Rattle.list_reader.proofs.Fitting.{line_at_fits}
use Rattle.shortening.specs.Shortened.{Which, old, new, shorter, in_list, part_words}
use Rattle.shortener.specs.declared.Part.{Part}
use Rattle.shortener.specs.declared.Side.TheVariants.{Old, New}
use Rattle.shortener.specs.Parts.{Stands, Within, shorter_within, in_new_list, in_old_list, new_bounds, old_bounds}
use Rattle.shortener.proofs.shorter.Goals as goal

module _ (us vs : List ℤ) {i : ℤ} {r : Part} (fits : FitsSigned w32 i) (e : Stands (shorter us vs (to_z w32 (of_z w32 i))) r) where
  told : Stands (shorter us vs i) r
  told = rw (to_z-of_z fits) at e

  within : Within us vs (shorter us vs i)
  within =
      let a = line_at_fits us i refl in
      let b = line_at_fits vs i refl in
      shorter_within us vs i a.ordered a.within b.ordered b.within

  -- what is handed back, of the list w that the part stands in
  handed : (w : Which) → w ≡ (shorter us vs i).which → take (r.end - r.start) (drop r.start (in_list w us vs)) ≡ part_words us vs (shorter us vs i)
  handed w h =
      let start = told.start in
      let end = told.end in
      part_is r.start r.end (in_list w us vs) ∙ (λ j. slice (start j) (end j) (in_list (h j) us vs))

  new_part : r.side ≡ New → (r.start ≤ r.end) × (r.end ≤ length vs)
  new_part h = new_bounds told within h

  old_part : r.side ≡ Old → (r.start ≤ r.end) × (r.end ≤ length us)
  old_part h = old_bounds told within h

-- ---- the old list's

pub offset_bounds-old-part : goal.offset_bounds-old-part
offset_bounds-old-part c =
    let p = old_part c.args.old.now c.args.new.now c.ranges.index c.in-Ok.ensures c.in-Old.is in
    omega (arith, p.0, p.1)

pub slice_bounds-result-count : goal.slice_bounds-result-count
slice_bounds-result-count c =
    let p = old_part c.args.old.now c.args.new.now c.ranges.index c.in-Ok.ensures c.in-Old.is in
    omega (arith, p.0)

pub slice_bounds-result-start : goal.slice_bounds-result-start
slice_bounds-result-start c =
    let p = old_part c.args.old.now c.args.new.now c.ranges.index c.in-Ok.ensures c.in-Old.is in
    omega (arith, p.0)

pub slice_bounds-result-end : goal.slice_bounds-result-end
slice_bounds-result-end c =
    let p = old_part c.args.old.now c.args.new.now c.ranges.index c.in-Ok.ensures c.in-Old.is in
    omega (arith, p.1)

pub returns-in-Old-clause-words : goal.returns-in-Old-clause-words
returns-in-Old-clause-words c =
    let us = c.args.old.now in
    let vs = c.args.new.now in
    let t = told us vs c.ranges.index c.in-Ok.ensures in
    handed us vs c.ranges.index c.in-Ok.ensures old (sym (in_old_list t c.in-Old.is))

-- ---- the new list's

pub offset_bounds-new-part : goal.offset_bounds-new-part
offset_bounds-new-part c =
    let p = new_part c.args.old.now c.args.new.now c.ranges.index c.in-Ok.ensures c.in-New.is in
    omega (arith, p.0, p.1)

pub slice_bounds-result-count-in-New : goal.slice_bounds-result-count-in-New
slice_bounds-result-count-in-New c =
    let p = new_part c.args.old.now c.args.new.now c.ranges.index c.in-Ok.ensures c.in-New.is in
    omega (arith, p.0)

pub slice_bounds-result-start-in-New : goal.slice_bounds-result-start-in-New
slice_bounds-result-start-in-New c =
    let p = new_part c.args.old.now c.args.new.now c.ranges.index c.in-Ok.ensures c.in-New.is in
    omega (arith, p.0)

pub slice_bounds-result-end-in-New : goal.slice_bounds-result-end-in-New
slice_bounds-result-end-in-New c =
    let p = new_part c.args.old.now c.args.new.now c.ranges.index c.in-Ok.ensures c.in-New.is in
    omega (arith, p.1)

pub returns-in-New-clause-words : goal.returns-in-New-clause-words
returns-in-New-clause-words c =
    let us = c.args.old.now in
    let vs = c.args.new.now in
    let t = told us vs c.ranges.index c.in-Ok.ensures in
    handed us vs c.ranges.index c.in-Ok.ensures new (sym (in_new_list t c.in-New.is))
