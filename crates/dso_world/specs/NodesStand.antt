-- What the nodes of a cluster are after the entries of its journal. Entries stand with the newest first.
use Rattle.std.specs.Prelude.{ℕ, suc, ◌≡◌, ◌≤◌, List, [], length, slice_get, Some}
use Rattle.dso_base.specs.declared.journal.Entry.{Entry}
use Rattle.dso_base.specs.declared.journal.Node.TheVariants as node
use Rattle.dso_class.specs.declared.program.Program.{Program}
use Rattle.dso_client.specs.ThreadActs.{HoldsAtMost}
use Rattle.dso_client.specs.ClientStands.{ClientStands}
use Rattle.dso_client.specs.ClientViews.{records_sent}
use Rattle.dso_client.specs.CodeRuns.{RunsCode}
use Rattle.dso_law.specs.Channels.{last_clock}
use Rattle.dso_law.specs.Entries.{entries_of}
use Rattle.dso_server.specs.Answering.{given_by}
use Rattle.dso_gc_law.specs.Lacking.{LacksOnlyGarbage}
use Rattle.dso_machine.specs.Frames.{frames_after}
use Rattle.dso_machine.specs.Next.{next_request}
use Rattle.dso_server.specs.declared.server.Server.{Server}
use Rattle.dso_server.specs.ServerStands.{ServerStands}
use Rattle.dso_server.specs.Triggers.{AreTriggersOf}
use Rattle.dso_store.specs.Graph.{body_in}
use Rattle.dso_base.specs.declared.both.Both.{Both}
use Rattle.dso_base.specs.declared.both.Both.TheVariants as both
use Rattle.dso_world.specs.declared.client_node.ClientNode.{ClientNode}
use Rattle.dso_world.specs.declared.nodes.Nodes.{Nodes}
use Rattle.dso_world.specs.LinkStands.{Course, LinkStands, Past}
use Rattle.dso_world.specs.PastOf.{course_of, past_of}
use Rattle.dso_world.specs.WorldSteps.{settings_of}

module _ (program : Program) where
  -- Client c after the entries: its core stands for its own entries, its connection for what happened to it, by this
  -- course and past, and its clock is that of its last entry. Its triggers are those of the program, it has sent no
  -- more records than there are entries, and no lock is held more often.
  pub record ClientNodeStandsBy (c : ℕ) (course : Course) (past : Past Both) (client_node : ClientNode)
      (es : List Entry) : Type 0 where
    pub client : ClientStands program.code (settings_of program) c client_node.client (entries_of (node.Client c) es)
    pub runs : RunsCode program.code client_node.client
    pub records : records_sent client_node.client ≤ length es
    pub holds : HoldsAtMost (length es) client_node.client
    pub link : LinkStands course past client_node.link
    pub clock : client_node.clock ≡ last_clock (node.Client c) es
    pub triggers : AreTriggersOf c program.losses program.breaks client_node.triggers

  -- so by the journal
  abbrev pub ClientNodeStands : ℕ → ClientNode → List Entry → Type 0
  ClientNodeStands c client_node es =
      ClientNodeStandsBy c (course_of (settings_of program) c es) (past_of both.Up both.Down c es) client_node es

  -- the server lacks nothing but garbage
  abbrev pub LacksGarbage : Server → List Entry → Type 0
  LacksGarbage server es = LacksOnlyGarbage (settings_of program) (next_request program.code)
      (frames_after program.code) (body_in server.store) es

  -- The nodes after the entries: each client, by the course and the past of its connection; and the server's core
  -- stands for the server's entries and lacks nothing but garbage, its clock is that of its last entry, and it gave no
  -- more batches of ids than there are entries.
  pub record NodesStandBy (course : ℕ → Course) (past : ℕ → Past Both) (nodes : Nodes) (es : List Entry) : Type 0 where
    pub count : length nodes.client_nodes.items ≡ program.clients
    pub client_nodes : (place : ℕ) (client_node : ClientNode)
        → slice_get nodes.client_nodes.items place ≡ Some client_node
        → ClientNodeStandsBy (suc place) (course (suc place)) (past (suc place)) client_node es
    pub server : ServerStands (settings_of program) nodes.server (entries_of node.Server es)
    pub lacks : LacksGarbage nodes.server es
    pub given : given_by nodes.server ≤ length es
    pub clock : nodes.clock ≡ last_clock node.Server es

  -- so by the journal
  abbrev pub NodesStand : Nodes → List Entry → Type 0
  NodesStand nodes es =
      NodesStandBy (λ c. course_of (settings_of program) c es) (λ c. past_of both.Up both.Down c es) nodes es

  -- so many clients, each of which stands for no entries
  pub record AreClientNodes (count : ℕ) (client_nodes : List ClientNode) : Type 0 where
    pub many : length client_nodes ≡ count
    pub each : (place : ℕ) (client_node : ClientNode) → slice_get client_nodes place ≡ Some client_node
        → ClientNodeStands (suc place) client_node []
