use Rattle.std.proofs.Common.{◌≡◌, refl, ◌+◌, ◌-◌, ◌∙◌, arith, sym, ap, length, take, drop, replicate, length-drop, length-take}
use Rattle.std.proofs.lemmas.List.{length-replicate}
use Rattle.text.proofs.Parts.{part_written}
use Rattle.text.proofs.OutputU8Text.push_repeated.Goals as goal

pub returns : goal.returns
returns c =
    let a = c.args in
    let at = a.self.now.at in
    let size : length (take (at + a.count - at) (drop at a.self.now.list.now)) ≡ a.count = simp (length-take, length-drop) (omega arith) in
    record {
      wrote =
          part_written _ _ _ _ _ (omega arith) (sym (length-replicate a.count a.byte))
          (c.fill.ensures.after (λ y e. e) ∙ ap (λ n. replicate n a.byte) size);
      same = refl;
    }
