use Rattle.std.proofs.Common.{◌≡◌, false}
use Rattle.dso_lookup.specs.Search.{is_listed}
use Rattle.parts_cases.proofs.store_sweeps.objects.Given as goal

abbrev pub invariant-loop-word : goal.invariant-loop-word
invariant-loop-word l = is_listed 0 l.objects.items ≡ false
