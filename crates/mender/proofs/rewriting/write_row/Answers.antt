-- Its first word, then its three fields one after the other.
use Rattle.std.proofs.Common.{arith, rules, ◌≡◌, refl, sym, ap, ◌∙◌, ◌+◌, ◌-◌, ◌*◌, ℕ, ℤ, pos, List, get_or, set, length-set, add-zero}
use Rattle.script.specs.Laws.{back}
use Rattle.script.specs.Rows.{word}
use Rattle.rows.specs.Patterns.{pattern, patterns}
use Rattle.mender.specs.Checked.{listed_kind}
use Rattle.mender.specs.FieldWriting.{FieldWritten, at_of, field, field_as, room_as, written_as}
use Rattle.mender.specs.Letters.{end_by, field₁, field₂}
use Rattle.mender.specs.RowWriting.{room₁, room₂, room₃, row_written, start₁}
use Rattle.mender.proofs.rewriting.write_row.Goals as goal

-- a field as the code reads it
field_is : {ks : List ℕ} (n i : ℕ) {x w : ℤ} → ks ≡ patterns → x ≡ w → field (pattern n i) w ≡ field (get_or ks (4 * n + i) 0) x
field_is n i e d = field_as (ap (λ (ks : List ℕ). get_or ks (4 * n + i) 0) (sym e)) (sym d)

-- what the first call wrote, behind the first word
first_written : (t : List ℤ) {s l ks : List ℕ} (k r n : ℕ) {b : ℕ} {x v : ℤ} (new : List ℤ) {os new₁ os₁ : List ℤ} → ks ≡ patterns
    → x ≡ word t r 1 → v ≡ get_or t (4 * r) (pos 0)
    → FieldWritten s l (k + 1 - get_or s r 0) (field (get_or ks (4 * n + 1) 0) x) (4 * k + 1) (set new (4 * k) v) os b new₁ os₁
    → FieldWritten s l (start₁ t s k r n) (field₁ t r n) (4 * k + 1) (set new (4 * k) (word t r 0)) os b new₁ os₁
first_written t k r n new e d h w =
    written_as (sym (field_is n 1 e d))
    (ap (λ (q : ℤ). set new (4 * k) q) (h ∙ ap (λ (m : ℕ). get_or t m (pos 0)) (sym (add-zero (4 * r))))) w

pub overflow_mul-of : goal.overflow_mul-of
overflow_mul-of c = record { fits = omega (arith, listed_kind c.requires.0.checked c.requires.0.inside c.field-of.ensures) }

pub bounds-kinds-of : goal.bounds-kinds-of
bounds-kinds-of c = omega (arith, listed_kind c.requires.0.checked c.requires.0.inside c.field-of.ensures)

pub write_field-second-requires : goal.write_field-second-requires
write_field-second-requires c =
    room_as (field_is c.field-of.result 1 c.requires.1 (back {z = get_or c.args.table.now (4 * c.args.r + 1) (pos 0)} (search rules))) refl (sym (length-set _ _ _)) refl
    (room₁ c.requires.0 c.field-of.ensures)

pub bounds-kinds-of-2 : goal.bounds-kinds-of-2
bounds-kinds-of-2 c = omega (arith, listed_kind c.requires.0.checked c.requires.0.inside c.field-of.ensures)

pub write_field-third-requires : goal.write_field-third-requires
write_field-third-requires c =
    let x = first_written c.args.table.now c.args.k c.args.r c.field-of.result c.args.new.now c.requires.1
    (back {z = get_or c.args.table.now (4 * c.args.r + 1) (pos 0)} (search rules))
    (back {z = get_or c.args.table.now (4 * c.args.r) (pos 0)} (search rules)) c.write_field-second.ensures in
    room_as (field_is c.field-of.result 2 c.requires.1 (back {z = get_or c.args.table.now (4 * c.args.r + 2) (pos 0)} (search rules))) (sym x.ends)
    (sym (x.table_long ∙ length-set _ _ _)) (sym x.origins_long) (room₂ c.requires.0 c.field-of.ensures)

pub bounds-kinds-of-3 : goal.bounds-kinds-of-3
bounds-kinds-of-3 c = omega (arith, listed_kind c.requires.0.checked c.requires.0.inside c.field-of.ensures)

pub write_field-requires : goal.write_field-requires
write_field-requires c =
    let x = first_written c.args.table.now c.args.k c.args.r c.field-of.result c.args.new.now c.requires.1
    (back {z = get_or c.args.table.now (4 * c.args.r + 1) (pos 0)} (search rules))
    (back {z = get_or c.args.table.now (4 * c.args.r) (pos 0)} (search rules)) c.write_field-second.ensures in
    let y = written_as (sym (field_is c.field-of.result 2 c.requires.1 (back {z = get_or c.args.table.now (4 * c.args.r + 2) (pos 0)} (search rules)))) refl c.write_field-third.ensures in
    room_as (field_is c.field-of.result 3 c.requires.1 (back {z = get_or c.args.table.now (4 * c.args.r + 3) (pos 0)} (search rules)))
    (sym (y.ends ∙ ap (λ (q : ℕ). end_by (at_of c.args.sizes.now) q (field₂ c.args.table.now c.args.r c.field-of.result)) x.ends))
    (sym (y.table_long ∙ x.table_long ∙ length-set _ _ _)) (sym (y.origins_long ∙ x.origins_long))
    (room₃ c.requires.0 c.field-of.ensures)

pub returns : goal.returns
returns c =
    let x = first_written c.args.table.now c.args.k c.args.r c.field-of.result c.args.new.now c.requires.1
    (back {z = get_or c.args.table.now (4 * c.args.r + 1) (pos 0)} (search rules))
    (back {z = get_or c.args.table.now (4 * c.args.r) (pos 0)} (search rules)) c.write_field-second.ensures in
    let y = written_as (sym (field_is c.field-of.result 2 c.requires.1 (back {z = get_or c.args.table.now (4 * c.args.r + 2) (pos 0)} (search rules)))) refl c.write_field-third.ensures in
    let z = written_as (sym (field_is c.field-of.result 3 c.requires.1 (back {z = get_or c.args.table.now (4 * c.args.r + 3) (pos 0)} (search rules)))) refl c.write_field.ensures in
    row_written c.requires.0 c.field-of.ensures c.args.new.now refl x y z
