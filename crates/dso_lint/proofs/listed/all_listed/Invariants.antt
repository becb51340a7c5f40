use Rattle.std.proofs.Common.{[], ◌++◌, map, take}
use Rattle.dso_lint.specs.Listed.{AreListed, routine_of, routine_of_thread}
use Rattle.dso_lint.proofs.listed.all_listed.Given as goal

abbrev pub invariant-loop-method : goal.invariant-loop-method
invariant-loop-method l = AreListed ([] ++ map routine_of (take l.method-index l.methods)) l.all.items

abbrev pub invariant-loop-body : goal.invariant-loop-body
invariant-loop-body l = AreListed (map routine_of l.fn.code.methods ++ map routine_of_thread (take l.body-index l.bodies)) l.all.items
