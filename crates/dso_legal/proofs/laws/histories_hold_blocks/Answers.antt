use Rattle.dso_legal.proofs.laws.histories_hold_blocks.Goals as goal
use Rattle.dso_legal.proofs.blocks.ResolvedBlocks.{histories_hold_blocks, histories_hold_events, histories_hold_blocks_as_made}

pub returns-clause-blocks : goal.returns-clause-blocks
returns-clause-blocks c = histories_hold_blocks

pub returns-clause-events : goal.returns-clause-events
returns-clause-events c = histories_hold_events

pub returns-clause-as_made : goal.returns-clause-as_made
returns-clause-as_made c = histories_hold_blocks_as_made
