use Rattle.std.proofs.Common.{ℕ, ◌++◌, map, take}
use Rattle.dso_gc.specs.Edges.{HasEdges}
use Rattle.dso_gc.proofs.sweep.with_spokes.Given as goal

abbrev pub invariant-loop-edge : goal.invariant-loop-edge
invariant-loop-edge l = HasEdges l.all (take l.edge-index l.edges)

abbrev pub invariant-loop-start : goal.invariant-loop-start
invariant-loop-start l = HasEdges l.all (l.edges ++ map (λ (s : ℕ). (l.first, s)) (take l.start-index l.starts))
