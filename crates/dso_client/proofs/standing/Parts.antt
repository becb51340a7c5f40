-- What a client keeps, without what its entries keep in a run.
use Rattle.dso_client.specs.declared.client_state.ClientState.{ClientState}
use Rattle.dso_client.specs.StateStands.{StateStands, ClientPartsStand}
use Rattle.dso_client.specs.RunPoints.{RunPoint}

pub parts_of : (at : RunPoint) (kept : ClientState) → StateStands at kept → ClientPartsStand at kept
parts_of at kept h = record { number = h.number; places = h.places; numbered = h.numbered; contexts = h.contexts; table = h.table; lock_state = h.lock_state; sequences = h.sequences }
