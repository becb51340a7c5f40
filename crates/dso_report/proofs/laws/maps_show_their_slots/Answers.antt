use Rattle.dso_report.proofs.entries.Shown.{shows_slots}
use Rattle.dso_report.proofs.laws.maps_show_their_slots.Goals as goal

pub returns : goal.returns
returns c = shows_slots
