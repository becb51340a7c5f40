-- What a step makes of all nodes. Entries stand with the newest first.
use Rattle.std.specs.List.{list_any}
use Rattle.std.specs.Prelude.{ℕ, suc, ◌+◌, ◌-◌, ◌≡◌, ◌<◌, ◌^◌, ◌↔◌, true, false, cond, eqb, List, ◌∷◌, Option}
use Rattle.std.specs.Prelude.{Some, option_and_then, option_map, slice_get}
use Rattle.dso_base.specs.declared.journal.Entry.{Entry}
use Rattle.dso_base.specs.declared.message.Down.{Down}
use Rattle.dso_base.specs.declared.message.Up.{Up}
use Rattle.dso_class.specs.declared.program.Program.{Program}
use Rattle.dso_gc_law.specs.Lacking.{IsLacked}
use Rattle.dso_law.specs.Channels.{Letter, up_in_flight}
use Rattle.dso_law.specs.Settings.{clients_of}
use Rattle.dso_legal.specs.Lawful.{IsLawful}
use Rattle.dso_legal.specs.Slots.{Slot, is_loss_or_break_due}
use Rattle.dso_machine.specs.Next.{next_request}
use Rattle.dso_server.specs.declared.server.Server.{Server}
use Rattle.dso_store.specs.Graph.{body_in}
use Rattle.dso_session.specs.declared.frame.Accepted.{Accepted}
use Rattle.dso_base.specs.declared.both.Both.{Both}
use Rattle.dso_base.specs.declared.both.Both.TheVariants as both
use Rattle.dso_world.specs.declared.entry_draft.EntryDraft.{EntryDraft}
use Rattle.dso_world.specs.declared.client_node.ClientNode.{ClientNode}
use Rattle.dso_world.specs.declared.nodes.Nodes.{Nodes}
use Rattle.dso_world.specs.ChosenSlot.{slot_at}
use Rattle.dso_world.specs.Link.{Line, first_answer}
use Rattle.dso_world.specs.LinkStands.{Course, Joined, Past}
use Rattle.dso_world.specs.ClientSteps.{IsJournal, IsOpenAfter}
use Rattle.dso_world.specs.NodesStand.{NodesStand, NodesStandBy}
use Rattle.dso_world.specs.PastOf.{course_of, past_of}
use Rattle.dso_world.specs.SentMessages.{after_hearing, clock_after}
use Rattle.dso_world.specs.WorldSteps.{settings_of}

-- no client has seen 2 ^ 63 messages of the server or more
abbrev pub HaveRoom : List ClientNode → Type 0
HaveRoom client_nodes = (place : ℕ) (client_node : ClientNode) → slice_get client_nodes place ≡ Some client_node
    → client_node.link.server.seen < 2 ^ 63

-- each client was sent those of these messages that are for it
abbrev pub AreTold : ℕ → List (ℕ × Down) → List ClientNode → List ClientNode → Type 0
AreTold clock messages old new = (place : ℕ)
    → slice_get new place ≡ option_map (after_hearing (suc place) clock messages) (slice_get old place)

-- the server made its entry, and sent these
pub record HasTold (made : EntryDraft) (messages : List (ℕ × Down)) (old new : Nodes) : Type 0 where
  pub client_nodes : AreTold (clock_after old.clock made.heard) messages old.client_nodes.items new.client_nodes.items
  pub server : new.server ≡ old.server
  pub clock : new.clock ≡ clock_after old.clock made.heard

-- client d, where this changes the connection of client c
abbrev pub with_line : ℕ → (Line Both → Line Both) → ℕ → ClientNode → ClientNode
with_line c change d client_node = cond (eqb d c) (record client_node { link = change client_node.link }) client_node

-- this changed the connection of client c alone
abbrev pub ChangesLine : ℕ → (Line Both → Line Both) → List ClientNode → List ClientNode → Type 0
ChangesLine c change old new = (place : ℕ)
    → slice_get new place ≡ option_map (with_line c change (suc place)) (slice_get old place)

-- the connection of client c broke fewer than 2 ^ 32 - 1 times
abbrev pub HasBreakLeft : ℕ → List ClientNode → Type 0
HasBreakLeft c client_nodes = (client_node : ClientNode) → slice_get client_nodes (c - 1) ≡ Some client_node
    → client_node.link.server.epoch + 1 < 2 ^ 32

-- what the server makes of the first frame in flight from a client, None where there is none
abbrev pub first_up : ℕ → List ClientNode → Option (Accepted Both)
first_up c client_nodes =
    option_and_then (λ client_node. first_answer client_node.link.up client_node.link.server) (slice_get client_nodes
    (c - 1))

module _ (program : Program) where
  -- the nodes stand for some journal's entries, after which the slot is open, and client c is one of the cluster's
  pub record StandOpen (c : ℕ) (slot : Slot) (nodes : Nodes) : Type 0 where
    pub es : List Entry
    pub journal : IsJournal program es
    pub its : list_any (eqb c) (clients_of (settings_of program)) ≡ true
    pub stands : NodesStand program nodes es
    pub opened : IsOpenAfter program es slot

  -- what the server lacks after the entry it lacked before, and the other way
  abbrev pub LacksAsBefore : Entry → Server → Server → List Entry → Type 0
  LacksAsBefore entry old new es = (o : ℕ) → IsLacked (settings_of program) (body_in new.store) (entry ∷ es) o
      ↔ IsLacked (settings_of program) (body_in old.store) es o

  -- the journal stays lawful with the entry, which is made at the slot, and the nodes stand for the entries with it;
  -- what the server lacks it lacked before
  pub record FollowsAll (slot : Slot) (entry : Entry) (server : Server) (nodes : Nodes) (es : List Entry) : Type 0 where
    pub lawful : IsLawful (settings_of program) (next_request program.code) (entry ∷ es)
    pub at : slot_at entry.node entry.input ≡ Some slot
    pub stands : NodesStand program nodes (entry ∷ es)
    pub swept : LacksAsBefore entry server nodes.server es

  -- so for whatever entries the nodes stood for, after which the slot is open
  abbrev pub StepsAll : ℕ → Slot → Entry → Nodes → Nodes → Type 0
  StepsAll c slot entry old new = (es : List Entry) → IsJournal program es
      → list_any (eqb c) (clients_of (settings_of program)) ≡ true
      → NodesStand program old es → IsOpenAfter program es slot
      → FollowsAll slot entry old.server new es

  -- the course and the past of the connection of client d, where the server has taken one message more of client c
  abbrev pub course_heard : ℕ → List Entry → ℕ → Course
  course_heard c es d = cond (eqb d c) Joined (course_of (settings_of program) d es)

  abbrev pub past_heard : ℕ → List Entry → ℕ → Past Both
  past_heard c es d =
      cond (eqb d c)
      (record (past_of both.Up both.Down c es) { up_taken = (past_of both.Up both.Down c es).up_taken + 1 })
      (past_of both.Up both.Down d es)

  -- The nodes where the server has taken this letter of client c, the first in flight, off its channel: it may take
  -- it, and each connection stands for that.
  pub record Heard (c : ℕ) (letter : Letter Up) (nodes : Nodes) (es : List Entry) : Type 0 where
    pub journal : IsJournal program es
    pub its : list_any (eqb c) (clients_of (settings_of program)) ≡ true
    pub rest : List (Letter Up)
    pub first : up_in_flight c es ≡ letter ∷ rest
    pub joined : course_of (settings_of program) c es ≡ Joined
    pub none_due : is_loss_or_break_due (settings_of program) c es ≡ false
    pub stands : NodesStandBy program (course_heard c es) (past_heard c es) nodes es

  -- so for some journal's entries
  pub record IsHeard (c : ℕ) (letter : Letter Up) (nodes : Nodes) : Type 0 where
    pub es : List Entry
    pub heard : Heard c letter nodes es
