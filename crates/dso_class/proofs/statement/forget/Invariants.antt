use Rattle.std.proofs.Common.{◌≡◌, ◌+◌, length, take}
use Rattle.dso_class.proofs.statement.forget.Given as goal

-- the first names are as they were, one name goes with each step, and the variables stay
abbrev pub invariant-loop : goal.invariant-loop
invariant-loop l =
    (take l.height l.scope.known ≡ take l.height l.initial.scope.known) × (length l.scope.known + l.counter ≡ length l.initial.scope.known + l.height) × (l.scope.variables ≡ l.initial.scope.variables)
