use Rattle.std.proofs.Common.{◌≡◌, take}
use Rattle.dso_law.specs.Entries.{by_sent_up}
use Rattle.dso_law.specs.Leases.{standing_up}
use Rattle.dso_law.proofs.leases.standing_after.Given as goal

abbrev pub invariant-loop-sent : goal.invariant-loop-sent
invariant-loop-sent l = l.standing ≡ by_sent_up (standing_up l.lock) (take l.sent-index l.sent-items) l.initial.standing
