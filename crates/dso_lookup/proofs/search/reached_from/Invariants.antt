use Rattle.std.proofs.Common.{◌+◌, ◌-◌, length}
use Rattle.dso_lookup.specs.Search.{IsSetOf}
use Rattle.dso_lookup.proofs.Searching.{Searched, unfound}
use Rattle.dso_lookup.proofs.search.reached_from.Given as goal

abbrev pub invariant-loop-next : goal.invariant-loop-next
invariant-loop-next g l = Searched (g.P.PrivateObjects.mine l.privates) (g.P.PrivateObjects.objects l.privates) (g.met.P.PrivateObjects.listed l.privates) (g.P.PrivateObjects.names l.privates) l.fn.value l.found.items l.next × IsSetOf l.seen l.found.items

abbrev pub decreases-loop-next : goal.decreases-loop-next
decreases-loop-next g l = (length l.found.items - l.next) + unfound (g.P.PrivateObjects.objects l.privates) l.found.items
