use Rattle.std.proofs.Common.{rules}
use Rattle.dso_run.proofs.journal_file.keep_journal.Goals as goal

-- a name was given
pub returns-in-Some-clause-named : goal.returns-in-Some-clause-named
returns-in-Some-clause-named g c = λ failed. (c.in-Some.name.now, search rules)
