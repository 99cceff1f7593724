-- The count decides between 20 and the new list, its length between 31 and 0.
use Rattle.std.proofs.Common.{◌≡◌, sym, ap, ◌∙◌, ℕ, List, ℤ, pos, length, arith}
use Rattle.std.proofs.lemmas.List.{length-replicate}
use Rattle.script.specs.Generated.{zeros}
use Rattle.theorems.specs.Writing.{wrote_length}
use Rattle.theorems.specs.Clearing.{all_cleared}
use Rattle.shortener.specs.Whole.{counted, no_list, no_room, fitting}
use Rattle.shortener.proofs.shorten.Goals as goal

-- the run is cleared first
module _ (n : ℕ) {l : List ℤ} (e : l ≡ zeros n) where
  room : length l ≡ n
  room = ap length e ∙ length-replicate n (pos 0)

  all_zeros : l ≡ zeros (length l)
  all_zeros = all_cleared (pos 0) n e

pub returns-then-count-eq0 : goal.returns-then-count-eq0
returns-then-count-eq0 c =
    let a = no_list c.args.list.now (length c.args.short.now) (sym c.condition_count-count.ensures ∙ c.if-count-eq0.true) in
    record { number = a.number; used = a.used; short = c.clear.ensures ∙ a.list }

pub write_short-used-requires : goal.write_short-used-requires
write_short-used-requires c =
    counted c.args.list.now c.condition_count-count.result c.condition_count-count.ensures (omega arith)

pub returns-then-short-used : goal.returns-then-short-used
returns-then-short-used c =
    let n = length c.args.short.now in
    let w = c.write_short-used.ensures in
    let same = wrote_length w.wrote in
    let m = room n c.clear.ensures in
    let a = rw m at (no_room c.args.list.now (all_zeros n c.clear.ensures) w (omega (arith, same))) in
    record { number = a.number; used = a.used; short = c.clear-then-short-used.ensures ∙ (ap zeros (same ∙ m) ∙ a.list) }

pub returns : goal.returns
returns c =
    let n = length c.args.short.now in
    let w = c.write_short-used.ensures in
    let same = wrote_length w.wrote in
    let a = rw (room n c.clear.ensures) at (fitting c.args.list.now (all_zeros n c.clear.ensures) w (omega (arith, same))) in
    record { number = a.number; used = a.used; short = a.list }
