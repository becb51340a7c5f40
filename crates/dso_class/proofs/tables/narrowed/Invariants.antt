use Rattle.std.proofs.Common.{◌≡◌, map, take}
use Rattle.dso_class.specs.Gathered.{capped_pair}
use Rattle.dso_class.proofs.tables.narrowed.Given as goal

-- the pairs so far
abbrev pub invariant-loop-place : goal.invariant-loop-place
invariant-loop-place l = l.pairs ≡ map capped_pair (take l.place-index l.row)
