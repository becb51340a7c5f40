use Rattle.std.specs.Int.{bit_at}
use Rattle.std.proofs.Common.{ℕ, ◌<◌, ◌≡◌, ◌⊎◌}
use Rattle.dso_world.specs.AskingThreads.{row_of, word_at}
use Rattle.dso_world.proofs.asking_threads.AskingThreads.asking.Given as goal

abbrev pub invariant-loop-left : goal.invariant-loop-left
invariant-loop-left l = (b i : ℕ) → b < 64 → bit_at l.buckets b ≡ 1 → bit_at (word_at l.self (row_of l.client b)) i ≡ 1
    → (bit_at l.left b ≡ 1) ⊎ (bit_at l.threads i ≡ 1)

abbrev pub decreases-loop-left : goal.decreases-loop-left
decreases-loop-left l = l.left
