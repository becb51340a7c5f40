use Rattle.std.proofs.Common.{length}
use Rattle.dso_base.specs.Block.{is_field_before}
use Rattle.dso_law.specs.FitsUp.{Rises}
use Rattle.dso_server.proofs.fits_lists.are_rising_sets.Given as goal

abbrev pub invariant-loop-rest : goal.invariant-loop-rest
invariant-loop-rest l = (Rises is_field_before l.rest → Rises is_field_before l.sets) × (Rises is_field_before l.sets → Rises is_field_before l.rest)

abbrev pub decreases-loop-rest : goal.decreases-loop-rest
decreases-loop-rest l = length l.rest
