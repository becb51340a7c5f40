use Rattle.std.proofs.Common.{◌≡◌, ◌-◌}
use Rattle.dso_wire.specs.Reading.{items_at}
use Rattle.dso_wire.proofs.OverItems.{with_front}
use Rattle.dso_wire.proofs.lists.take_each.Given as goal

-- what was read before and what is still read are all
abbrev pub invariant-loop : goal.invariant-loop
invariant-loop g l = with_front l.items.items (items_at g.T.Wire.reading (l.count - l.counter) l.rest) ≡ items_at g.T.Wire.reading l.count l.bytes
