use Rattle.dso_legal.proofs.laws.blocks_are_kept.Goals as goal
use Rattle.dso_legal.proofs.records.ClientRecords.{blocks_are_kept}

pub returns : goal.returns
returns c = blocks_are_kept
