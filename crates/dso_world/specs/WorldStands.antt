-- What a simulated cluster is, by its journal. Entries stand with the newest first.
use Rattle.std.specs.List.{list_any}
use Rattle.std.specs.Prelude.{ℕ, ◌≡◌, ◌<◌, ◌-◌, ◌^◌, ◌↔◌, min, Bool, true, false, Option, Some, None, List, [], ◌∷◌}
use Rattle.std.specs.Prelude.{◌++◌, is_some, length, map, option_map, reverse, slice_get}
use Rattle.dso_base.specs.declared.journal.Entry.{Entry}
use Rattle.dso_base.specs.declared.journal.Journal.{Journal}
use Rattle.dso_class.specs.declared.program.Program.{Program}
use Rattle.dso_gc_law.specs.Lacking.{IsLacked}
use Rattle.dso_legal.specs.Lawful.{IsLawful}
use Rattle.dso_legal.specs.Slots.{is_finished, open_slots, slots, weight}
use Rattle.dso_machine.specs.Next.{next_request}
use Rattle.dso_store.specs.Graph.{body_in}
use Rattle.dso_world.specs.declared.open_steps.OpenSteps.{OpenSteps}
use Rattle.dso_world.specs.declared.step.Step.{Step}
use Rattle.dso_world.specs.declared.world.World.{World}
use Rattle.dso_world.specs.AskingThreads.{AreListed}
use Rattle.dso_world.specs.ChosenSlot.{chosen_slot, is_slot, slot_at}
use Rattle.dso_world.specs.Laws.{RowStands}
use Rattle.dso_world.specs.ClientSteps.{IsJournal, IsOpenAfter}
use Rattle.dso_world.specs.NodesStand.{NodesStand}
use Rattle.dso_world.specs.WorldSteps.{settings_of, slot_of}

-- the journal of all that the world did
abbrev pub journal_of : World → Journal
journal_of world = world.journal

-- its entries, the newest first
abbrev pub entries_in : World → List Entry
entries_in world = reverse (journal_of world).entries

-- whether the world is spent: it keeps the refusal of an allocation
abbrev pub is_spent : World → Bool
is_spent world = is_some world.spent

module _ (program : Program) where
  -- The open steps after the entries: its steps are those of all slots, in their order; each flag tells whether its
  -- slot is open; each thread is listed by what it asks next; and it is noted whether the run is finished.
  pub record OpenStepsStand (open_steps : OpenSteps) (es : List Entry) : Type 0 where
    pub steps : map slot_of open_steps.steps ≡ slots (settings_of program)
    pub row : RowStands (settings_of program) (next_request program.code) open_steps.chooser es
    pub asking : AreListed program open_steps.asking es
    pub finished : open_steps.is_finished ≡ is_finished (settings_of program) es

  -- All that a world keeps beside its journal, after these entries
  pub record WorldPartsStand (world : World) (es : List Entry) : Type 0 where
    pub nodes : NodesStand program world.nodes es
    pub open_steps : OpenStepsStand world.open_steps es
    pub weight : world.weight ≡ min (weight es) (2 ^ 64 - 1)

  -- The world is one of this program: its journal is lawful; and while it isn't spent, its parts are what they are
  -- after the journal's entries.
  pub record WorldStands (world : World) : Type 0 where
    pub lawful : IsLawful (settings_of program) (next_request program.code) (entries_in world)
    pub parts : is_spent world ≡ false → WorldPartsStand world (entries_in world)

  -- the object was swept: it is stored, and the server has no body of it
  abbrev pub IsSweptIn : World → ℕ → Type 0
  IsSweptIn world o = IsLacked (settings_of program) (body_in world.nodes.server.store) (entries_in world) o

  -- the same objects were swept
  abbrev pub SweepsNothing : World → World → Type 0
  SweepsNothing old new = (o : ℕ) → IsSweptIn new o ↔ IsSweptIn old o

  -- whether the step's slot is one of the cluster's that are open
  abbrev pub is_open_step : Step → World → Bool
  is_open_step step world = list_any (is_slot (slot_of step))
      (open_slots (settings_of program) (next_request program.code) (entries_in world))

-- one entry more, made at the slot of the step
pub record MakesEntry (step : Step) (old new : World) : Type 0 where
  pub entry : Entry
  pub added : (journal_of new).entries ≡ (journal_of old).entries ++ entry ∷ []
  pub at : slot_at entry.node entry.input ≡ Some (slot_of step)

-- The step at this place can be made: the world's parts are what they are after its journal, which has room, and the
-- slot is open.
pub record IsMakeable (program : Program) (step : Step) (place : ℕ) (world : World) : Type 0 where
  pub journal : IsJournal program (entries_in world)
  pub few : length (journal_of world).entries < 2 ^ 28
  pub parts : WorldPartsStand program world (entries_in world)
  pub at : slice_get (slots (settings_of program)) place ≡ Some (slot_of step)
  pub opened : IsOpenAfter program (entries_in world) (slot_of step)

-- It is made: there is one entry more, at its slot, and the parts are what they are after the journal, which is
-- lawful.
pub record IsMade (program : Program) (step : Step) (old new : World) : Type 0 where
  pub makes : MakesEntry step old new
  pub lawful : IsLawful (settings_of program) (next_request program.code) (entries_in new)
  pub parts : WorldPartsStand program new (entries_in new)
  pub swept : SweepsNothing program old new

-- the step makes an entry where its slot is open; where that isn't open, nothing changes
abbrev pub IsStepped : Program → Step → Bool → World → World → Type 0
IsStepped program step true old new = (is_open_step program step old ≡ true) × MakesEntry step old new
IsStepped program step false old new = (is_open_step program step old ≡ false) × (new ≡ old)

-- the step is that of the chosen slot, and there is none exactly where no slot is open
pub record IsChosenStep (program : Program) (seed : Option ℕ) (chosen : Option Step) (world : World) : Type 0 where
  pub slot : option_map slot_of chosen
      ≡ chosen_slot (settings_of program) (next_request program.code) seed (entries_in world)
  pub none : (chosen ≡ None) ↔ (open_slots (settings_of program) (next_request program.code) (entries_in world) ≡ [])
