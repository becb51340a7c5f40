use Rattle.std.proofs.Common.{◌≡◌, map, length}
use Rattle.std.specs.List.{AllByRecursion}
use Rattle.dso_client.specs.Openings.{IsOpening, first_threads}
use Rattle.dso_client.proofs.opening.contexts.Given as goal

abbrev pub invariant-loop-at : goal.invariant-loop-at
invariant-loop-at l = record {
  ids : map (λ context. context.id) l.contexts.items ≡ first_threads l.client l.at;
  many : length l.contexts.items ≡ l.at;
  opening : AllByRecursion (IsOpening l.code) l.contexts.items;
}
