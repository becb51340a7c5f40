use Rattle.std.proofs.Common.{◌≡◌, ◌++◌}
use Rattle.std.specs.String.{string_bytes}
use Rattle.dso_gen.specs.GeneratedLoad.{classes, lines_below, thread_line}
use Rattle.dso_gen.proofs.load.program_of.Given as goal

abbrev pub invariant-loop-t : goal.invariant-loop-t
invariant-loop-t l = string_bytes l.text ≡ classes ++ lines_below (thread_line l.n) l.t
