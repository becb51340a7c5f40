-- The runs of a cluster, and how they end. Entries stand with the newest first.
use Rattle.std.specs.List.{list_any}
use Rattle.std.specs.Prelude.{ℕ, ◌≡◌, ◌≤◌, ◌<◌, Bool, true, false, not, ◌&&◌, Option, Some, List, [], ◌∷◌}
use Rattle.dso_base.specs.declared.journal.Entry.{Entry}
use Rattle.dso_base.specs.declared.journal.Node.TheVariants.{Server, Client}
use Rattle.dso_base.specs.declared.lock.ThreadId.{ThreadId}
use Rattle.dso_base.specs.declared.request.Event.{Event}
use Rattle.dso_base.specs.declared.request.Event.TheVariants.{Act}
use Rattle.dso_base.specs.declared.request.Request.{Request}
use Rattle.dso_base.specs.declared.request.Request.TheVariants.{End}
use Rattle.dso_law.specs.Entries.{entries_of, events_in}
use Rattle.dso_law.specs.ServerReadings.{is_lost}
use Rattle.dso_law.specs.Settings.{Settings}
use Rattle.dso_legal.specs.Lawful.{IsLawful}
use Rattle.dso_legal.specs.Slots.{is_finished, is_stuck, weight}
use Rattle.dso_world.specs.ChosenSlot.{chosen_slot, slot_at}

-- whether the event ends its thread by a fault
abbrev pub is_failure : Event → Bool
is_failure (Act thread (End (Some fault)) reply woken) = true
is_failure event = false

-- whether the thread ended by a fault
abbrev pub has_failed : ThreadId → List Entry → Bool
has_failed t es = list_any is_failure (events_in t (entries_of (Client t.client) es))

-- whether a kept thread of these, which is one of a client that isn't lost, ended by a fault
abbrev pub is_faulty : List ThreadId → List Entry → Bool
is_faulty threads es = list_any (λ t. has_failed t es && not (is_lost t.client (entries_of Server es))) threads

-- How the entries of a run are made: each at the slot that is chosen, by round robin or a seed; or by threads, in
-- whatever order they come.
pub data Making : Type 0 where
  BySlots : Option ℕ → Making
  ByThreads : Making

-- BY SLOTS: for the settings of a program; what each of its threads asks next after its events; round robin or a seed;
-- and how much the journal may weigh before the run is cut off.
module _ (p : Settings) (next : ThreadId → List Event → Option Request) (seed : Option ℕ) (budget : ℕ) where
  -- the run goes on after these entries: they are not finished, weigh less than the budget and are not stuck
  pub record GoesOn (es : List Entry) : Type 0 where
    pub unfinished : is_finished p es ≡ false
    pub light : weight es < budget
    pub unstuck : is_stuck p next es ≡ false

  -- each entry is made where the run goes on, at the slot that is chosen there
  abbrev pub TakesTurns : List Entry → Type 0
  TakesTurns [] = Unit {0}
  TakesTurns (e ∷ es) = TakesTurns es × GoesOn es × (slot_at e.node e.input ≡ chosen_slot p next seed es)

-- EITHER WAY
module _ (p : Settings) (next : ThreadId → List Event → Option Request) where
  -- the entries are made so: by slots within the budget; of the order in which threads make them nothing is said
  abbrev pub IsMadeBy : Making → ℕ → List Entry → Type 0
  IsMadeBy (BySlots seed) budget es = TakesTurns p next seed budget es
  IsMadeBy ByThreads budget es = Unit {0}

  module _ (how : Making) (budget : ℕ) where
    -- A run so far: a lawful journal, made as it is to be.
    pub record IsRun (es : List Entry) : Type 0 where
      pub lawful : IsLawful p next es
      pub made : IsMadeBy how budget es

    -- How a run ends: finished, where some kept thread ended by a fault, or none did;
    pub record EndsFinished (faulty : Bool) (es : List Entry) : Type 0 where
      pub run : IsRun es
      pub finished : is_finished p es ≡ true
      pub fault : is_faulty p.threads es ≡ faulty

    -- stuck, within the budget;
    pub record EndsStuck (es : List Entry) : Type 0 where
      pub run : IsRun es
      pub light : weight es < budget
      pub stuck : is_stuck p next es ≡ true

    -- or out of its budget, and not finished.
    pub record EndsOverBudget (es : List Entry) : Type 0 where
      pub run : IsRun es
      pub unfinished : is_finished p es ≡ false
      pub heavy : budget ≤ weight es
