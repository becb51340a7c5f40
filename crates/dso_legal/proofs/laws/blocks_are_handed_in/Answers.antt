use Rattle.dso_legal.proofs.laws.blocks_are_handed_in.Goals as goal
use Rattle.dso_legal.proofs.records.HandedIn.{blocks_are_handed_in}

pub returns : goal.returns
returns c = blocks_are_handed_in
