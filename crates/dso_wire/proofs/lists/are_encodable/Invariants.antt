use Rattle.std.proofs.Common.{All, take}
use Rattle.dso_wire.proofs.lists.are_encodable.Given as goal

-- each item so far has what it needs
abbrev pub invariant-loop-item : goal.invariant-loop-item
invariant-loop-item g l = All g.T.Wire.can_go (take l.item-index l.items)
