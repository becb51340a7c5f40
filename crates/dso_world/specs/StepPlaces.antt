-- Where each step of a cluster stands, by where those of its client begin.
use Rattle.std.specs.Prelude.{ℕ, suc, ◌+◌, ◌*◌, ◌-◌, ◌<◌, ◌≤◌, ◌^◌, ◌≡◌, cond, true, Option, Some, None, List}
use Rattle.std.specs.Prelude.{flat_map, length, slice_get}
use Rattle.dso_law.specs.Settings.{Settings, up_to}
use Rattle.dso_legal.specs.Slots.{Slot, Acts, TakesDown, Flushes, TakesUp, Loses, Breaks, client_slots}
use Rattle.dso_world.specs.declared.step.Step.{Step}
use Rattle.dso_world.specs.declared.step_table.OwnSteps.{OwnSteps}
use Rattle.dso_world.specs.ChosenSlot.{is_slot}
use Rattle.dso_world.specs.Touched.{client_of}
use Rattle.dso_world.specs.WorldSteps.{is_own, slot_of}

-- A slot stands at the place: the acts of its client's threads by their indices, from where the client's own steps
-- begin; the client's taking of messages and its flushes as the last two of them; behind the own steps of all the
-- taking of each client's messages; and behind that the loss and the break of each.
abbrev pub IsAt : OwnSteps → ℕ → ℕ → ℕ → Slot → Type 0
IsAt its behind many place (Acts t) = (place ≡ its.begin + (t.index - 1)) × (place < its.end)
IsAt its behind many place (TakesDown c) = (place + 2 ≡ its.end) × (its.begin ≤ place)
IsAt its behind many place (Flushes c) = (place + 1 ≡ its.end) × (its.begin ≤ place)
IsAt its behind many place (TakesUp c) = place ≡ behind + (c - 1)
IsAt its behind many place (Loses c) = place ≡ behind + many + 2 * (c - 1)
IsAt its behind many place (Breaks c) = place ≡ behind + many + 2 * (c - 1) + 1

-- so by where the own steps of each client stand
pub record IsPlaced (own : List OwnSteps) (behind place : ℕ) (slot : Slot) : Type 0 where
  pub its : OwnSteps
  pub listed : slice_get own (client_of slot - 1) ≡ Some its
  pub at : IsAt its behind (length own) place slot

-- each step stands where it is computed
abbrev pub ArePlaced : List OwnSteps → ℕ → List Step → Type 0
ArePlaced own behind steps = (place : ℕ) (step : Step) → slice_get steps place ≡ Some step
    → IsPlaced own behind place (slot_of step)

-- the places are small enough that no sum of them wraps
pub record AreWithin (own : List OwnSteps) (behind : ℕ) : Type 0 where
  pub begins : (place : ℕ) (its : OwnSteps) → slice_get own place ≡ Some its → its.begin < 2 ^ 32
  pub far : behind < 2 ^ 32
  pub many : length own < 2 ^ 32

-- what a table of steps holds by
pub record IsTable (own : List OwnSteps) (behind : ℕ) (steps : List Step) : Type 0 where
  pub placed : ArePlaced own behind steps
  pub within : AreWithin own behind

-- the own steps of the first so many clients stand one client's behind the other's
pub record AreOwnOf (p : Settings) (count : ℕ) (own : List OwnSteps) : Type 0 where
  pub many : length own ≡ count
  pub begins : (place : ℕ) (its : OwnSteps) → slice_get own place ≡ Some its
      → its.begin ≡ length (flat_map (client_slots p) (up_to place))
  pub ends : (place : ℕ) (its : OwnSteps) → slice_get own place ≡ Some its
      → its.end ≡ length (flat_map (client_slots p) (up_to (suc place)))

-- the place, where what stands there is a step of the slot
abbrev pub kept_where : Slot → ℕ → Option Step → Option ℕ
kept_where slot place None = None
kept_where slot place (Some step) = cond (is_slot slot (slot_of step)) (Some place) None

-- a step of the client's own stands at the place
pub record IsOwnOf (c : ℕ) (steps : List Step) (place : ℕ) : Type 0 where
  pub step : Step
  pub there : slice_get steps place ≡ Some step
  pub own : is_own step ≡ true
  pub its : client_of (slot_of step) ≡ c
