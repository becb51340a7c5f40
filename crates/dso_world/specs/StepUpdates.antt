-- What an entry makes of the open steps. Entries stand with the newest first.
use Rattle.std.specs.List.{list_any}
use Rattle.std.specs.Prelude.{ℕ, ◌≡◌, ◌⊎◌, Bool, false, true, Some, List, ◌∷◌, length, map, slice_get}
use Rattle.dso_base.specs.declared.journal.Entry.{Entry}
use Rattle.dso_base.specs.declared.journal.Input.{Input}
use Rattle.dso_base.specs.declared.journal.Sent.{Sent}
use Rattle.dso_class.specs.declared.program.Program.{Program}
use Rattle.dso_legal.specs.Slots.{is_open, slots}
use Rattle.dso_machine.specs.Next.{next_request}
use Rattle.dso_world.specs.declared.open_steps.OpenSteps.{OpenSteps}
use Rattle.dso_world.specs.declared.nodes.Nodes.{Nodes}
use Rattle.dso_world.specs.declared.step.Step.{Step}
use Rattle.dso_world.specs.declared.step.Step.TheVariants as step
use Rattle.dso_world.specs.AskingThreads.{AreListed}
use Rattle.dso_world.specs.ChosenSlot.{slot_at}
use Rattle.dso_world.specs.Flags.{Row}
use Rattle.dso_world.specs.ClientSteps.{IsJournal}
use Rattle.dso_world.specs.NodesStand.{NodesStand}
use Rattle.dso_world.specs.SlotTests.{TellsOpen}
use Rattle.dso_world.specs.Touched.{client_in, client_of, goes_to, is_touched}
use Rattle.dso_world.specs.WorldSteps.{settings_of, slot_of}
use Rattle.dso_world.specs.WorldStands.{OpenStepsStand}

-- the row has as many flags, and its round stands where it stood
pub record KeepsRound (old new : Row) : Type 0 where
  pub many : length new.flags ≡ length old.flags
  pub begin : new.begin ≡ old.begin
  pub entries : new.entries ≡ old.entries

-- the flag at the place is what the nodes tell of the step there
abbrev pub IsTold : Nodes → List Step → Row → ℕ → Type 0
IsTold nodes steps row place = (step : Step) → slice_get steps place ≡ Some step
    → (answer : Bool) × (slice_get row.flags place ≡ Some answer)
    × ((program : Program) → TellsOpen program nodes step answer)

-- The flags at these places are what the nodes tell, and so is each other that isn't what it was.
pub record Tells (nodes : Nodes) (steps : List Step) (places : ℕ → Type 0) (old new : Row) : Type 0 where
  pub round : KeepsRound old new
  pub others : (place : ℕ) → (slice_get new.flags place ≡ slice_get old.flags place) ⊎ IsTold nodes steps new place
  pub told : (place : ℕ) → places place → IsTold nodes steps new place

-- whether the step takes a message, or is one of the server
abbrev pub is_served : Step → Bool
is_served (step.Act thread) = false
is_served (step.TakeDown c) = true
is_served (step.Flush c) = false
is_served (step.TakeUp c) = true
is_served (step.Lose c) = true
is_served (step.Break c) = true

-- such a step of the client stands at the place
pub record IsServedOf (c : ℕ) (steps : List Step) (place : ℕ) : Type 0 where
  pub step : Step
  pub there : slice_get steps place ≡ Some step
  pub served : is_served step ≡ true
  pub its : client_of (slot_of step) ≡ c

-- so of the client that the input is of
abbrev pub IsServedBy : Input → List Step → ℕ → Type 0
IsServedBy input steps place = (c : ℕ) × (client_in input ≡ Some c) × IsServedOf c steps place

-- the client takes there to which the message goes
abbrev pub IsGoing : Sent → List Step → ℕ → Type 0
IsGoing message steps place = (c : ℕ) × (slice_get steps place ≡ Some (step.TakeDown c)) × (goes_to c message ≡ true)

-- the client takes there to which one of the messages goes
abbrev pub IsSentTo : List Sent → List Step → ℕ → Type 0
IsSentTo sent steps place = (c : ℕ) × (slice_get steps place ≡ Some (step.TakeDown c))
    × (list_any (goes_to c) sent ≡ true)

-- the entry may open or close the slot of the step there
abbrev pub IsTouchedAt : Entry → List Step → ℕ → Type 0
IsTouchedAt entry steps place = (step : Step) × (slice_get steps place ≡ Some step)
    × (is_touched entry.node entry.input entry.sent (slot_of step) ≡ true)

module _ (program : Program) where
  -- the steps are those of all slots, and each flag tells whether its slot is open after the entries
  pub record AreFlags (steps : List Step) (row : Row) (es : List Entry) : Type 0 where
    pub listed : map slot_of steps ≡ slots (settings_of program)
    pub flags : row.flags
        ≡ map (is_open (settings_of program) (next_request program.code) es) (slots (settings_of program))

  -- whatever entries the flags told of, after which each thread was listed so: where the nodes stand for them with this
  -- one, they tell of these
  abbrev pub Marks : List ℕ → Nodes → Entry → List Step → Row → Row → Type 0
  Marks words nodes entry steps old new = (es : List Entry) → IsJournal program (entry ∷ es)
      → NodesStand program nodes (entry ∷ es) → AreListed program words es
      → AreFlags steps old es → AreFlags steps new (entry ∷ es)

  -- whatever entries the open steps stood for, it stands for them with this one, made at the slot of this place
  abbrev pub Follows : Nodes → Entry → ℕ → OpenSteps → OpenSteps → Type 0
  Follows nodes entry place old new = (es : List Entry) → IsJournal program (entry ∷ es)
      → NodesStand program nodes (entry ∷ es)
      → OpenStepsStand program old es → slice_get (slots (settings_of program)) place ≡ slot_at entry.node entry.input
      → OpenStepsStand program new (entry ∷ es)
