-- `list_reader::first_place` meets its contract.
use Rattle.list_reader.proofs.Entries.{list_nonempty, place_is, no_place}
use Rattle.list_reader.proofs.first_place.Goals as goal

pub overflow_sub-result : goal.overflow_sub-result
overflow_sub-result c = list_nonempty c.args.words.now c.is_list.ensures c.if-is_list.true

pub returns-then-is_list : goal.returns-then-is_list
returns-then-is_list c = place_is c.args.words.now c.is_list.ensures c.if-is_list.true

pub returns-else-is_list : goal.returns-else-is_list
returns-else-is_list c = no_place c.args.words.now c.is_list.ensures c.if-is_list.false
