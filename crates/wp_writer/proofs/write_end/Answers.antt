-- The words of each part, one run after another.
use Rattle.std.proofs.Common.{refl}
use Rattle.script.specs.Kinds.{kind_of, number_read, other_read}
use Rattle.wp_writer.specs.Ends.{loop_end, post_ready, wrote_post, kept_ready, falling_ready, wrote_decreased}
use Rattle.wp_writer.proofs.write_end.Goals as goal

pub write_formula-requires : goal.write_formula-requires
write_formula-requires c =
    post_ready _ _ _ _ c.requires refl (number_read c.kind_at.ensures c.in-Script.is refl) c.field.ensures

pub returns-in-Script : goal.returns-in-Script
returns-in-Script c =
    wrote_post _ _ _ _ c.requires refl (number_read c.kind_at.ensures c.in-Script.is refl) c.field.ensures c.write_formula.ensures

pub write_formula-requires-in_default : goal.write_formula-requires-in_default
unfolding kind_of
write_formula-requires-in_default c =
    kept_ready _ _ _ _ c.requires refl (other_read c.kind_at.ensures c.in_default.not-Script refl) c.invariant.ensures

pub write_expression-requires : goal.write_expression-requires
unfolding kind_of
write_expression-requires c =
    falling_ready _ _ _ _ c.requires refl (other_read c.kind_at.ensures c.in_default.not-Script refl) c.variant.ensures

pub returns-in_default : goal.returns-in_default
unfolding kind_of
returns-in_default c =
    wrote_decreased _ _ _ _ c.requires refl (other_read c.kind_at.ensures c.in_default.not-Script refl) c.invariant.ensures c.variant.ensures
    c.push_kind.ensures c.write_formula-in_default.ensures c.push_kind-in_default.ensures c.write_expression.ensures c.push_mark.ensures

pub invariant-requires : goal.invariant-requires
unfolding kind_of
invariant-requires c =
    loop_end c.requires.ended (other_read c.kind_at.ensures c.in_default.not-Script refl)

pub variant-requires : goal.variant-requires
unfolding kind_of
variant-requires c =
    loop_end c.requires.ended (other_read c.kind_at.ensures c.in_default.not-Script refl)
