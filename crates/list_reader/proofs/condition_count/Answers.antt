-- `list_reader::condition_count` meets its contract.
use Rattle.list_reader.proofs.Entries.{count_is, no_count}
use Rattle.list_reader.proofs.condition_count.Goals as goal

pub returns-then-is_list : goal.returns-then-is_list
returns-then-is_list c = count_is c.args.words.now c.is_list.ensures c.if-is_list.true c.claimed.ensures

pub returns-else-is_list : goal.returns-else-is_list
returns-else-is_list c = no_count c.args.words.now c.is_list.ensures c.if-is_list.false
