use Rattle.std.proofs.Common.{◌≡◌, drop, reverse}
use Rattle.dso_run.specs.Failing.{tells_fault}
use Rattle.dso_run.proofs.failing.is_any_kept.Given as goal

-- what is looked for is among the threads left
abbrev pub invariant-loop-thread : goal.invariant-loop-thread
invariant-loop-thread l = tells_fault l.threads (reverse l.entries) l.entry ≡ tells_fault (drop l.thread-index l.threads) (reverse l.entries) l.entry
