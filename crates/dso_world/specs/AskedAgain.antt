-- Which steps of a client are asked again after an entry of it: all but acts of threads that it doesn't touch, by the
-- index of threads by what they ask next. Entries stand with the newest first.
use Rattle.std.specs.Int.{bit_at}
use Rattle.std.specs.List.{list_any}
use Rattle.std.specs.Prelude.{ℕ, ◌≡◌, ◌<◌, ◌⊎◌, true, Option, Some, None, List, ◌∷◌, slice_get}
use Rattle.dso_base.specs.declared.journal.Entry.{Entry}
use Rattle.dso_base.specs.declared.journal.Node.TheVariants.{Client}
use Rattle.dso_base.specs.declared.lock.ThreadId.{ThreadId}
use Rattle.dso_base.specs.declared.request.Event.{Event}
use Rattle.dso_base.specs.declared.request.Event.TheVariants.{Act, Lost}
use Rattle.dso_base.specs.declared.request.Request.{Request}
use Rattle.dso_base.specs.Following.{is_thread}
use Rattle.dso_class.specs.declared.program.Program.{Program}
use Rattle.dso_law.specs.Entries.{entries_of}
use Rattle.dso_legal.specs.Slots.{is_open, slots}
use Rattle.dso_machine.specs.Next.{next_request}
use Rattle.dso_open_law.specs.FewTouched.{few_topics}
use Rattle.dso_open_law.specs.TouchedThreads.{Topic, is_topic}
use Rattle.dso_world.specs.declared.nodes.Nodes.{Nodes}
use Rattle.dso_world.specs.declared.step.Step.{Step}
use Rattle.dso_world.specs.declared.step.Step.TheVariants as step
use Rattle.dso_world.specs.declared.touched_threads.Touches.{Touches}
use Rattle.dso_world.specs.AskingThreads.{AreListed, IsOfCluster, IsUnder, next_of}
use Rattle.dso_world.specs.ChosenSlot.{is_slot}
use Rattle.dso_world.specs.ClientSteps.{IsJournal}
use Rattle.dso_world.specs.EntryTouches.{has}
use Rattle.dso_world.specs.Flags.{Row}
use Rattle.dso_world.specs.NodesStand.{NodesStand}
use Rattle.dso_world.specs.StepUpdates.{IsTold, KeepsRound}
use Rattle.dso_world.specs.WorldSteps.{settings_of, slot_of}

module _ (program : Program) where
  -- the answer is, whatever entries the nodes stand for, the next request of the thread, if it is one of the cluster's
  abbrev pub TellsNext : Nodes → ThreadId → Option Request → Type 0
  TellsNext nodes t answer =
      (es : List Entry) → IsJournal program es → NodesStand program nodes es → IsOfCluster program t
      → answer ≡ next_of program es t

  -- so of the thread that acts, where one does
  abbrev pub TellsActor : Nodes → Option Event → Option Request → Type 0
  TellsActor nodes None answer = Unit {0}
  TellsActor nodes (Some (Act t request reply woken)) answer = TellsNext nodes t answer
  TellsActor nodes (Some (Lost client)) answer = Unit {0}

  -- these have all that the entry touches, where a client made it, whatever entries came before it
  abbrev pub HasTouched : Nodes → Entry → Touches → Type 0
  HasTouched nodes entry touches = (es : List Entry) → IsJournal program (entry ∷ es)
      → NodesStand program nodes (entry ∷ es) → (c : ℕ) → entry.node ≡ Client c → (about : Topic)
      → list_any (is_topic about)
      (few_topics (next_of program es) (next_of program (entry ∷ es)) (entries_of (Client c) es) entry) ≡ true
      → has touches about ≡ true

  -- the slot of the step is open with the entry exactly where it was open before, whatever entries came before it after
  -- which each thread was listed so
  abbrev pub Stays : List ℕ → Nodes → Entry → Step → Type 0
  Stays words nodes entry step = (es : List Entry) → IsJournal program (entry ∷ es)
      → NodesStand program nodes (entry ∷ es) → AreListed program words es
      → list_any (is_slot (slot_of step)) (slots (settings_of program)) ≡ true
      → is_open (settings_of program) (next_request program.code) (entry ∷ es) (slot_of step)
      ≡ is_open (settings_of program) (next_request program.code) es (slot_of step)

-- each of these threads is listed by what the nodes tell that it asks next
abbrev pub AskFirst : Nodes → List ThreadId → List ℕ → Type 0
AskFirst nodes threads words = (t : ThreadId) → t.index < 64 → list_any (is_thread t) threads ≡ true
    → (request : Option Request) × IsUnder words t request × ((program : Program) → TellsNext program nodes t request)

-- the slot of the step at this place stays
abbrev pub StaysAt : List ℕ → Nodes → Entry → List Step → ℕ → Type 0
StaysAt words nodes entry steps place = (step : Step) → slice_get steps place ≡ Some step
    → (program : Program) → Stays program words nodes entry step

-- a thread of the client stands at the place whose number is one of these
pub record IsAmong (c threads : ℕ) (steps : List Step) (place : ℕ) : Type 0 where
  pub thread : ThreadId
  pub there : slice_get steps place ≡ Some (step.Act thread)
  pub its : thread.client ≡ c
  pub among : bit_at threads thread.index ≡ 1

-- each thread of the client whose number isn't one of these stays
abbrev pub OthersAreSpared : List ℕ → Nodes → Entry → ℕ → ℕ → Type 0
OthersAreSpared words nodes entry c threads = (t : ThreadId) → t.client ≡ c → bit_at threads t.index ≡ 0
    → (program : Program) → Stays program words nodes entry (step.Act t)

-- The flags at these places are what the nodes tell, but for those of slots that stay; and so is each other that isn't
-- what it was.
pub record Settles (words : List ℕ) (nodes : Nodes) (entry : Entry) (steps : List Step) (places : ℕ → Type 0)
    (old new : Row) : Type 0 where
  pub round : KeepsRound old new
  pub others : (place : ℕ) → (slice_get new.flags place ≡ slice_get old.flags place) ⊎ IsTold nodes steps new place
  pub settled : (place : ℕ) → places place → IsTold nodes steps new place ⊎ StaysAt words nodes entry steps place
