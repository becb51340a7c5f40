use Rattle.dso_map.proofs.FieldKinds.{takes_kind}
use Rattle.dso_map.proofs.laws.fields_take_their_kinds.Goals as goal

pub returns : goal.returns
returns c = takes_kind
