-- That the record that puts a number into a root comes in a lawful journal, and doesn't fit.
use Rattle.std.proofs.Common.{refl}
use Rattle.dso_legal.specs.examples.Counter.{settings}
use Rattle.dso_legal.specs.examples.Unfitting.{next, entries, Unfitting}
use Rattle.dso_legal.proofs.journals.Replay.{lawful_by_replay}

pub unfitting : Unfitting
unfitting = record { lawful = lawful_by_replay settings next entries refl refl; comes = refl; misfits = λ h. h.sets.0.1.2 }
