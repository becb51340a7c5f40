-- What is read of a whole store: a body for each object, which together are the graph that the records leave.
use Rattle.std.proofs.Common.{ℕ, ◌≡◌, ◌≢◌, ◌∙◌, ap, List, ◌∷◌, map, option_map, slice_get, Option, Some, None}
use Rattle.std.specs.Option.{option_and_then}
use Rattle.dso_base.specs.declared.record.Body.{Body}
use Rattle.dso_class.specs.declared.program.Program.{Program}
use Rattle.dso_class.specs.Sound.{IsSoundProgram}
use Rattle.dso_plain.specs.HeapTables.{blank}
use Rattle.dso_plain.specs.State.{PlainState}
use Rattle.dso_store.specs.Graph.{body_in}
use Rattle.dso_keep.specs.Reading.{IsWhole}
use Rattle.dso_keep.specs.Records.{KeptGraph, graph_after, opening}
use Rattle.dso_keep.specs.declared.kept.Kept.{Kept}
use Rattle.dso_report.specs.BodyGraph.{IsGraphOf, object_of_body, state_of_bodies}
use Rattle.dso_show.specs.Published.{AreAllThere, published}
use Rattle.dso_show.specs.Shown.{state_of_graph}
use Rattle.dso_show.proofs.graph.Bodies.{all_found, bodies_are_graph}
use Rattle.dso_show.proofs.graph.Records.{whole_listed}
use Rattle.dso_show.proofs.graph.There.{all_there, roots_there}

-- the state of the bodies that are found for objects
abbrev state_with : (ℕ → Option Body) → PlainState
state_with find = record blank {
  objects = λ o. option_map object_of_body (find o);
  heap = λ key. option_and_then (λ body. slice_get body.values key.1) (find key.0);
}

module _ (p : Program) (kept : Kept) (whole : IsWhole p.code.shape kept) where
  pub whole_roots : body_in kept.store 0 ≢ None
  whole_roots = roots_there (body_in kept.store) p.code.shape kept.records.items (whole_listed p.code.shape kept whole)

  pub whole_there : AreAllThere (body_in kept.store) kept.records.items
  whole_there = all_there (body_in kept.store) p.code.shape kept.records.items (whole_listed p.code.shape kept whole)

  module _ (sound : IsSoundProgram p) (bodies : List Body) (are : map Some bodies ≡ map (body_in kept.store) (0 ∷ published kept.records.items)) where
    pub whole_graph : IsGraphOf p bodies
    whole_graph = bodies_are_graph p sound (published kept.records.items) (body_in kept.store) bodies (whole_listed p.code.shape kept whole) are

    pub whole_state : state_of_bodies bodies ≡ state_of_graph (graph_after (opening p.code.shape) kept.records.items)
    whole_state =
        ap state_with (
        all_found p sound (published kept.records.items) (body_in kept.store) bodies (whole_listed p.code.shape kept whole) are
        ∙ ap (λ (graph : KeptGraph). graph.bodies) whole.graph
        )
