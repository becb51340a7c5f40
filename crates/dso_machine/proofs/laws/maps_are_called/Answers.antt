use Rattle.dso_machine.proofs.protocol.MapWalks.{maps_called}
use Rattle.dso_machine.proofs.laws.maps_are_called.Goals as goal

pub returns : goal.returns
returns c = maps_called
