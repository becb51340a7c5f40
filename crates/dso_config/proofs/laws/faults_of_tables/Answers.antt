use Rattle.dso_config.proofs.Spots as spots
use Rattle.dso_config.proofs.laws.faults_of_tables.Goals as goal

pub returns-clause-spotted : goal.returns-clause-spotted
returns-clause-spotted c = spots.spotted

pub returns-clause-too_long : goal.returns-clause-too_long
returns-clause-too_long c = spots.too_long-only

pub returns-clause-not_toml : goal.returns-clause-not_toml
returns-clause-not_toml c = spots.not_toml-only
