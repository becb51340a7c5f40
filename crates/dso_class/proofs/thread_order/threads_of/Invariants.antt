use Rattle.std.proofs.Common.{◌≡◌, map, take}
use Rattle.dso_class.proofs.thread_order.threads_of.Given as goal

-- the threads so far
abbrev pub invariant-loop-body : goal.invariant-loop-body
invariant-loop-body l = l.threads.items ≡ map (λ body. body.thread) (take l.body-index l.bodies)
