use Rattle.std.proofs.Common.{◌≡◌, take}
use Rattle.dso_lookup.specs.Search.{with_all_found, IsSetOf}
use Rattle.dso_lookup.proofs.search.add_all_found.Given as goal

abbrev pub invariant-loop-object : goal.invariant-loop-object
invariant-loop-object g l = (l.found.items ≡ with_all_found (g.P.PrivateObjects.mine l.privates) (take l.object-index l.objects) l.initial.found.items) × IsSetOf l.seen l.found.items
