-- What a step of a client makes of it and of its connection. Entries stand with the newest first.
use Rattle.std.specs.List.{list_any}
use Rattle.std.specs.Prelude.{ℕ, ◌≡◌, ◌≤◌, ◌^◌, true, eqb, List, ◌∷◌, length, Option, Some, None}
use Rattle.dso_base.specs.declared.journal.Entry.{Entry}
use Rattle.dso_base.specs.declared.journal.Node.TheVariants as node
use Rattle.dso_base.specs.declared.request.Event.{Event}
use Rattle.dso_class.specs.declared.program.Program.{Program}
use Rattle.dso_class.specs.Sound.{IsSoundProgram}
use Rattle.dso_client.specs.declared.acted.Acted.{Acted}
use Rattle.dso_client.specs.declared.acted.Acted.TheVariants as acted
use Rattle.dso_law.specs.Settings.{clients_of}
use Rattle.dso_legal.specs.Lawful.{IsLawful}
use Rattle.dso_legal.specs.Slots.{Slot, is_open}
use Rattle.dso_machine.specs.Next.{next_request}
use Rattle.dso_world.specs.declared.client_node.ClientNode.{ClientNode}
use Rattle.dso_world.specs.ChosenSlot.{slot_at}
use Rattle.dso_world.specs.NodesStand.{ClientNodeStands}
use Rattle.dso_world.specs.WorldSteps.{settings_of}

-- the event of an act, if it has one
abbrev pub event_of : Acted → Option Event
event_of (acted.Event event) = Some event
event_of other = None

-- the thread acted, or asked for what it lacks
abbrev pub IsMoved : Acted → Type 0
IsMoved (acted.Event event) = Unit {0}
IsMoved acted.Asked = Unit {0}
IsMoved other = ⊥

module _ (program : Program) where
  -- the entries are a lawful journal of the program, which is sound, and there are no more than 2 ^ 28
  pub record IsJournal (es : List Entry) : Type 0 where
    pub sound : IsSoundProgram program
    pub lawful : IsLawful (settings_of program) (next_request program.code) es
    pub few : length es ≤ 2 ^ 28

  -- the slot is open after the entries
  abbrev pub IsOpenAfter : List Entry → Slot → Type 0
  IsOpenAfter es slot = is_open (settings_of program) (next_request program.code) es slot ≡ true

  -- client c is one of the cluster's, which stands for some journal's entries, after which the slot is open
  pub record StandsOpen (c : ℕ) (slot : Slot) (client_node : ClientNode) : Type 0 where
    pub es : List Entry
    pub journal : IsJournal es
    pub its : list_any (eqb c) (clients_of (settings_of program)) ≡ true
    pub stands : ClientNodeStands program c client_node es
    pub opened : IsOpenAfter es slot

  -- the journal stays lawful with the entry, which is made at the slot, and the client stands for the entries with it
  pub record Follows (c : ℕ) (slot : Slot) (entry : Entry) (client_node : ClientNode) (es : List Entry) : Type 0 where
    pub lawful : IsLawful (settings_of program) (next_request program.code) (entry ∷ es)
    pub its : entry.node ≡ node.Client c
    pub at : slot_at entry.node entry.input ≡ Some slot
    pub stands : ClientNodeStands program c client_node (entry ∷ es)

  -- so for whatever entries the client stood for, after which the slot is open
  abbrev pub Steps : ℕ → Slot → Entry → ClientNode → ClientNode → Type 0
  Steps c slot entry old new = (es : List Entry) → IsJournal es
      → list_any (eqb c) (clients_of (settings_of program)) ≡ true
      → ClientNodeStands program c old es → IsOpenAfter es slot → Follows c slot entry new es
