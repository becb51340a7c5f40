-- What is told of the nodes: which slots are open, and whether the run is finished. Entries stand with the newest
-- first.
use Rattle.dso_base.specs.declared.journal.Entry.{Entry}
use Rattle.dso_base.specs.declared.journal.Node.TheVariants as node
use Rattle.dso_class.specs.declared.program.Program.{Program}
use Rattle.dso_law.specs.Entries.{entries_of}
use Rattle.dso_law.specs.ServerReadings.{is_break_due, is_loss_due}
use Rattle.dso_law.specs.Settings.{clients_of}
use Rattle.dso_legal.specs.Slots.{is_finished, is_open, slots}
use Rattle.dso_machine.specs.Next.{next_request}
use Rattle.dso_server.specs.ServerStands.{ServerStands}
use Rattle.dso_server.specs.declared.server.Server.{Server}
use Rattle.dso_world.specs.Busy.{is_busy}
use Rattle.dso_world.specs.ChosenSlot.{is_slot}
use Rattle.dso_world.specs.ClientSteps.{IsJournal}
use Rattle.dso_world.specs.NodesStand.{ClientNodeStands, NodesStand}
use Rattle.dso_world.specs.WorldSteps.{settings_of, slot_of}
use Rattle.dso_world.specs.declared.client_node.ClientNode.{ClientNode}
use Rattle.dso_world.specs.declared.nodes.Nodes.{Nodes}
use Rattle.dso_world.specs.declared.step.Step.{Step}
use Rattle.std.specs.List.{list_any}
use Rattle.std.specs.Prelude.{ℕ, ◌≡◌, Bool, true, eqb, List}

module _ (program : Program) where
  -- client c and the server's core stand for the entries of a journal
  pub record PairStands (c : ℕ) (server : Server) (client_node : ClientNode) (es : List Entry) : Type 0 where
    pub journal : IsJournal program es
    pub its : list_any (eqb c) (clients_of (settings_of program)) ≡ true
    pub core : ServerStands (settings_of program) server (entries_of node.Server es)
    pub stands : ClientNodeStands program c client_node es

  -- the answers tell, whatever entries they stand for, whether a loss of the client and a break of its connection are
  -- due
  abbrev pub TellsDue : ℕ → Server → ClientNode → Bool → Bool → Type 0
  TellsDue c server client_node loss break = (es : List Entry) → PairStands c server client_node es
      → (loss ≡ is_loss_due (settings_of program) c (entries_of node.Server es))
      × (break ≡ is_break_due (settings_of program) c (entries_of node.Server es))

  -- the answer tells, whatever entries they stand for, whether the slot of the step is open
  abbrev pub TellsOpenAt : ℕ → Server → ClientNode → Step → Bool → Type 0
  TellsOpenAt c server client_node step answer = (es : List Entry) → PairStands c server client_node es
      → list_any (is_slot (slot_of step)) (slots (settings_of program)) ≡ true
      → answer ≡ is_open (settings_of program) (next_request program.code) es (slot_of step)

  -- the answer tells, whatever entries the nodes stand for, whether the slot of the step is open
  abbrev pub TellsOpen : Nodes → Step → Bool → Type 0
  TellsOpen nodes step answer = (es : List Entry) → IsJournal program es → NodesStand program nodes es
      → list_any (is_slot (slot_of step)) (slots (settings_of program)) ≡ true
      → answer ≡ is_open (settings_of program) (next_request program.code) es (slot_of step)

  -- whether the client keeps the run going
  abbrev pub TellsBusy : ℕ → Server → ClientNode → Bool → Type 0
  TellsBusy c server client_node answer = (es : List Entry) → PairStands c server client_node es
      → answer ≡ is_busy (settings_of program) c es

  -- and whether it is finished
  abbrev pub TellsFinished : Nodes → Bool → Type 0
  TellsFinished nodes answer = (es : List Entry) → IsJournal program es → NodesStand program nodes es
      → answer ≡ is_finished (settings_of program) es
