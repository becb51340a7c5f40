use Rattle.dso_config_entries.proofs.lists.BorrowedWords.{found_where, none_where}
use Rattle.dso_config_entries.proofs.words.number_of.Goals as goal

pub returns-clause-found : goal.returns-clause-found
returns-clause-found c = found_where c.number.result c.args.words.now c.args.word c.number.ensures

pub returns-clause-none : goal.returns-clause-none
returns-clause-none c = none_where c.number.result c.args.words.now c.args.word c.number.ensures
