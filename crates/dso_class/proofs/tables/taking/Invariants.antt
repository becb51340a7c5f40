use Rattle.std.proofs.Common.{◌≡◌, take}
use Rattle.dso_class.specs.Gathered.{callees_of}
use Rattle.dso_class.proofs.tables.taking.Given as goal

-- the methods so far that take so many arguments
abbrev pub invariant-loop-declared : goal.invariant-loop-declared
invariant-loop-declared l = l.pairs ≡ callees_of l.count (take l.declared-index l.row)
