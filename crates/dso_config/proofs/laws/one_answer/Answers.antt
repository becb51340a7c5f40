use Rattle.dso_config.proofs.Ranges.{says-in_range}
use Rattle.dso_config.proofs.OneAnswer as one
use Rattle.dso_config.proofs.laws.one_answer.Goals as goal

pub returns-clause-one_configuration : goal.returns-clause-one_configuration
returns-clause-one_configuration c = one.one_configuration

pub returns-clause-one_fault : goal.returns-clause-one_fault
returns-clause-one_fault c = one.one_fault

pub returns-clause-not_both : goal.returns-clause-not_both
returns-clause-not_both c = one.not_both

pub returns-clause-some_answer : goal.returns-clause-some_answer
returns-clause-some_answer c = one.some_answer

pub returns-clause-in_range : goal.returns-clause-in_range
returns-clause-in_range c = λ text config is. says-in_range is.table config is.says
