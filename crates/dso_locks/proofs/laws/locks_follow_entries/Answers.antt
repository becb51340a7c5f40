use Rattle.dso_locks.proofs.Following.{follows_entries}
use Rattle.dso_locks.proofs.laws.locks_follow_entries.Goals as goal

pub returns-clause-follows : goal.returns-clause-follows
returns-clause-follows c = follows_entries
