-- A link, a mark, or a word that is kept.
use Rattle.std.proofs.Common.{arith, rules, ◌≡◌, ◌+◌, ◌-◌, ◌<◌, ◌≤◌, ℕ, ℤ, pos, List, get_or, length, set, to_z, of_z, w32}
use Rattle.script.specs.Laws.{back}
use Rattle.script.specs.Rows.{field_number}
use Rattle.mender.specs.FieldWriting.{FieldWritten, LinkedRoom, field, link_written, mark_written, word_written}
use Rattle.mender.proofs.rewriting.write_field.Goals as goal

link_at : (s l : List ℕ) (lo x to n : ℕ) (w : ℤ) (new os : List ℤ) → n ≡ field_number w → LinkedRoom s lo (field_number w) (length os)
    → x < 95
    → FieldWritten s l lo (field x w) to new os (lo + get_or s n 0) (set new to (to_z w32 (of_z w32 (pos (lo + get_or s n 0 - 1)))))
    (set os (lo + get_or s n 0 - 1) (to_z w32 (of_z w32 (pos n))))
link_at s l lo x to n w new os e room h =
    let a = room.small in
    let b = room.inside in
    rw (e, back {z = pos (lo + get_or s (field_number w) 0 - 1)} (omega arith), back {z = pos (field_number w)} (omega arith))
    (link_written s l lo (field x w) to new os h)

mark_at : (s l : List ℕ) (lo x to n : ℕ) (w : ℤ) (new os : List ℤ) → n ≡ field_number w → get_or l (field_number w) 0 < 2048
    → 95 ≤ x → x ≡ 108
    → FieldWritten s l lo (field x w) to new os lo (set new to (to_z w32 (of_z w32 (pos (get_or l n 0))))) os
mark_at s l lo x to n w new os e small h i =
    rw (e, back {z = pos (get_or l (field_number w) 0)} (omega arith)) (mark_written s l lo (field x w) to new os h i)

pub returns-then-letter-lt95 : goal.returns-then-letter-lt95
returns-then-letter-lt95 c =
    link_at _ _ _ _ _ _ c.args.word _ _ (rw (back {z = c.args.word} (search rules)) at c.field_number-n.ensures) (c.requires.linked c.if-letter-lt95.true)
    c.if-letter-lt95.true

pub returns-then-letter-eq108 : goal.returns-then-letter-eq108
returns-then-letter-eq108 c =
    mark_at _ _ _ _ _ _ c.args.word _ _ (rw (back {z = c.args.word} (search rules)) at c.field_number-n.ensures) (c.requires.marked c.if-letter-eq108.true).1
    c.if-letter-lt95.false c.if-letter-eq108.true

pub returns-else-letter-eq108 : goal.returns-else-letter-eq108
returns-else-letter-eq108 c =
    rw (back {z = c.args.word} (search rules))
    (word_written _ _ _ (field c.args.letter c.args.word) _ _ _ c.if-letter-lt95.false c.if-letter-eq108.false)
