-- What a store shows: the lines of the graph that its records leave, as the report of a run has them.
use Rattle.std.specs.Prelude.{ℕ, List, slice_get}
use Rattle.std.specs.Option.{option_and_then, option_map}
use Rattle.dso_base.specs.declared.record.Txn.{Txn}
use Rattle.dso_class.specs.declared.program.Program.{Program}
use Rattle.dso_keep.specs.Records.{KeptGraph, graph_after, opening}
use Rattle.dso_plain.specs.HeapTables.{blank}
use Rattle.dso_plain.specs.State.{PlainState}
use Rattle.dso_report.specs.BodyGraph.{object_of_body}
use Rattle.dso_report.specs.Report.{IsGraphText}

-- the state that a graph of records is: its bodies as shared objects with their values, and nothing else
abbrev pub state_of_graph : KeptGraph → PlainState
state_of_graph graph = record blank {
  objects = λ o. option_map object_of_body (graph.bodies o);
  heap = λ key. option_and_then (λ body. slice_get body.values key.1) (graph.bodies key.0);
}

-- the text is the lines of the roots and objects of the graph that the records leave
abbrev pub IsStoreText : Program → List (ℕ × Txn) → List ℕ → Type 0
IsStoreText p records text = IsGraphText p.names
    (state_of_graph (graph_after (opening p.code.shape) records)) text
