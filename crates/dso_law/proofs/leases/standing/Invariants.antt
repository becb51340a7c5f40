use Rattle.std.proofs.Common.{◌≡◌, take, reverse}
use Rattle.dso_base.specs.declared.journal.Node.TheVariants.{Client}
use Rattle.dso_law.specs.Entries.{entries_of}
use Rattle.dso_law.specs.Leases.{standing}
use Rattle.dso_law.proofs.leases.standing.Given as goal

abbrev pub invariant-loop-entry : goal.invariant-loop-entry
invariant-loop-entry l = l.standing ≡ standing l.lock (entries_of (Client l.client) (reverse (take l.entry-index l.entry-items)))
