use Rattle.std.proofs.Common.{◌≡◌, take}
use Rattle.dso_law.specs.Entries.{by_sent_up}
use Rattle.dso_law.specs.Copies.{resident_by_sent}
use Rattle.dso_law.proofs.copies.resident_after.Given as goal

abbrev pub invariant-loop-sent : goal.invariant-loop-sent
invariant-loop-sent l = l.is_resident ≡ by_sent_up (resident_by_sent l.object) (take l.sent-index l.sent-items) l.initial.is_resident
