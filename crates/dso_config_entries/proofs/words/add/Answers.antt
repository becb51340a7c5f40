use Rattle.dso_config_entries.proofs.lists.BorrowedWords.{firsts_where, fresh_where}
use Rattle.dso_config_entries.proofs.words.add.Goals as goal

pub returns-clause-firsts : goal.returns-clause-firsts
returns-clause-firsts c all before = firsts_where c.add.result all c.args.words.now c.add.new.self c.args.word before c.add.ensures.fresh c.add.ensures.added

pub returns-clause-fresh : goal.returns-clause-fresh
returns-clause-fresh c = fresh_where c.add.result c.args.words.now c.args.word c.add.ensures.fresh
