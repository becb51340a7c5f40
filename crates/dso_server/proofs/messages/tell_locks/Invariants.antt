use Rattle.std.proofs.Common.{◌≡◌, take}
use Rattle.dso_locks.specs.Locks.{messages_of}
use Rattle.dso_server.specs.Sending.{sent_of}
use Rattle.dso_server.proofs.messages.tell_locks.Given as goal

abbrev pub invariant-loop-told : goal.invariant-loop-told
invariant-loop-told l = sent_of l.messages.items ≡ messages_of (take l.told-index l.all)
