use Rattle.dso_legal.proofs.records.Light.{records_are_light}
use Rattle.dso_legal.proofs.laws.records_are_light.Goals as goal

pub returns : goal.returns
returns c = records_are_light
