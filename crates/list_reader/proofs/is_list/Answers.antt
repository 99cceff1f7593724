-- `list_reader::is_list` meets its contract: no list has a line at index -1, and 21 says that the words are one.
use Rattle.list_reader.proofs.Entries.{list_when_21, no_list_when_20, no_line_0}
use Rattle.list_reader.proofs.is_list.Goals as goal

pub returns-in-Ok : goal.returns-in-Ok
returns-in-Ok c = let told = c.in-Ok.ensures in no_line_0 c.args.words.now told.1

pub returns-in-Err-NoList : goal.returns-in-Err-NoList
returns-in-Err-NoList c = no_list_when_20 c.args.words.now (rw c.in-Err-NoList.field-0-is at c.in-Err-NoList.ensures)

pub returns-in-Err-NoLine : goal.returns-in-Err-NoLine
returns-in-Err-NoLine c = list_when_21 c.args.words.now (rw c.in-Err-NoLine.field-0-is at c.in-Err-NoLine.ensures)
