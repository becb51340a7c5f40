use Rattle.std.proofs.Common.{ap, map, ◌∙◌}
use Rattle.dso_change.specs.Hands.{set_of_entry}
use Rattle.dso_change.proofs.HandChanges.{entry_inserted}
use Rattle.dso_change.proofs.sets.insert_set.Goals as goal

pub returns-clause-ok : goal.returns-clause-ok
returns-clause-ok c = ap (λ es. map set_of_entry es) c.in_ok-insert.ensures.entries ∙ entry_inserted c.args.set.object c.args.set.field c.args.set.value c.args.sets.now.entries
