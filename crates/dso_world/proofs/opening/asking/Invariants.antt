use Rattle.std.proofs.Common.{take}
use Rattle.dso_world.specs.AskedAgain.{AskFirst}
use Rattle.dso_world.proofs.opening.asking.Given as goal

abbrev pub invariant-loop-thread : goal.invariant-loop-thread
invariant-loop-thread l = AskFirst l.nodes (take l.thread-index l.program.threads) l.asking
