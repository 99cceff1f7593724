-- `list_reader::formulas::is_formula` meets its contract: the formula at the front takes all the words.
use Rattle.list_reader.proofs.Tests.{spelled_test}
use Rattle.list_reader.proofs.formulas.is_formula.Goals as goal

pub returns : goal.returns
returns c = spelled_test c.formula_end.ensures
