use Rattle.std.proofs.Common.{◌≡◌, take, reverse}
use Rattle.dso_base.specs.declared.journal.Node.TheVariants.{Client}
use Rattle.dso_law.specs.Entries.{entries_of}
use Rattle.dso_law.specs.Copies.{value_held}
use Rattle.dso_law.proofs.copies.value_held.Given as goal

abbrev pub invariant-loop-entry : goal.invariant-loop-entry
invariant-loop-entry l = l.value ≡ value_held l.object l.field (entries_of (Client l.client) (reverse (take l.entry-index l.entry-items)))
