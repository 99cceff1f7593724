-- `smt_writer::terms::write_truth` meets its contract.
use Rattle.std.proofs.Common.{refl, ne_eqb}
use Rattle.script.specs.Kinds.{kind_of, number_read, other_read}
use Rattle.smt_writer.specs.Openings.{truth_name}
use Rattle.smt_writer.proofs.terms.write_truth.Goals as goal

pub returns-in-True : goal.returns-in-True
unfolding truth_name
returns-in-True c n e = rw (number_read e c.in-True.is refl) c.push_text.ensures

pub returns-in_default : goal.returns-in_default
unfolding truth_name kind_of
returns-in_default c n e = rw (ne_eqb n 16 (other_read e c.in_default.not-True refl)) c.push_text-in_default.ensures
