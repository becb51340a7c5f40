use Rattle.std.proofs.Common.{◌≡◌, take}
use Rattle.dso_law.specs.Entries.{by_sent_up}
use Rattle.dso_law.specs.Copies.{value_by_sent}
use Rattle.dso_law.proofs.copies.value_after.Given as goal

abbrev pub invariant-loop-sent : goal.invariant-loop-sent
invariant-loop-sent l = l.value ≡ by_sent_up (value_by_sent l.object l.field) (take l.sent-index l.sent-items) l.initial.value
