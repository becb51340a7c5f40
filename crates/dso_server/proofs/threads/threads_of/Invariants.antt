use Rattle.std.proofs.Common.{◌≡◌, map, take}
use Rattle.dso_machine.specs.declared.code.ThreadBody.{ThreadBody}
use Rattle.dso_server.proofs.threads.threads_of.Given as goal

abbrev pub invariant-loop-body : goal.invariant-loop-body
invariant-loop-body l = l.threads.items ≡ map (λ (body : ThreadBody). body.thread) (take l.body-index l.bodies)
