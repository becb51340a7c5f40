use Rattle.std.proofs.Common.{refl, ◌∷◌}
use Rattle.dso_legal.proofs.journals.Replay.{lawful_by_replay}
use Rattle.dso_open_law.specs.PrintCloses.{settings, next, entries, print}
use Rattle.dso_open_law.proofs.examples.print_closes.Goals as goal

pub returns : goal.returns
returns c = record { lawful = lawful_by_replay settings next (print ∷ entries) refl refl; open_before = refl; closed_after = refl }
