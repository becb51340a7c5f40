use Rattle.dso_config.proofs.Written as written
use Rattle.dso_config.proofs.laws.read_as_written.Goals as goal

pub returns-clause-pattern : goal.returns-clause-pattern
returns-clause-pattern c = written.read_pattern

pub returns-clause-grade : goal.returns-clause-grade
returns-clause-grade c = written.read_grade
