use Rattle.std.proofs.Common.{◌≡◌, ◌++◌}
use Rattle.dso_store.specs.Changes.{messages_of}
use Rattle.dso_server.specs.Sending.{sent_of}
use Rattle.dso_server.proofs.messages.tell_changes.Given as goal

abbrev pub invariant-loop-client : goal.invariant-loop-client
invariant-loop-client l = sent_of l.messages.items ≡ sent_of l.initial.messages.items ++ messages_of l.yielded
