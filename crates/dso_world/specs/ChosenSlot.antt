-- Which open slot a step takes: by round robin, or by a seed. Entries stand with the newest first.
use Rattle.std.specs.Prelude.{ℕ, zero, suc, ◌+◌, ◌*◌, ◌^◌, ◌/◌, ◌%◌, Bool, false, cond, eqb, Option, Some, None, List}
use Rattle.std.specs.Prelude.{[], ◌∷◌, ◌++◌, filter, length, slice_get}
use Rattle.dso_base.specs.declared.journal.Entry.{Entry}
use Rattle.dso_base.specs.declared.journal.Input.{Input}
use Rattle.dso_base.specs.declared.journal.Input.TheVariants.{Act, Flush, TookUp, TookDown, Lose, Break, Rejoin}
use Rattle.dso_base.specs.declared.journal.Node.{Node}
use Rattle.dso_base.specs.declared.journal.Node.TheVariants.{Server, Client}
use Rattle.dso_base.specs.declared.lock.ThreadId.{ThreadId}
use Rattle.dso_base.specs.declared.request.Event.{Event}
use Rattle.dso_base.specs.declared.request.Request.{Request}
use Rattle.dso_base.specs.Following.{is_thread}
use Rattle.dso_law.specs.Settings.{Settings}
use Rattle.dso_law.specs.Replies.{first_of_list}
use Rattle.dso_legal.specs.Slots.{Slot, Acts, TakesDown, Flushes, TakesUp, Loses, Breaks, slots, is_open, open_slots}

-- the slot at which an entry is made, by its node and what it takes in; a connection is taken up again where a message
-- is taken
abbrev pub slot_at : Node → Input → Option Slot
slot_at (Client c) (Act index) = Some (Acts (record { client = c; index = index }))
slot_at (Client c) (TookDown m) = Some (TakesDown c)
slot_at (Client c) (Flush o) = Some (Flushes c)
slot_at (Client c) (Rejoin d) = Some (TakesDown c)
slot_at Server (TookUp c m) = Some (TakesUp c)
slot_at Server (Rejoin c) = Some (TakesUp c)
slot_at Server (Lose c) = Some (Loses c)
slot_at Server (Break c) = Some (Breaks c)
slot_at node input = None

-- the slot of the last entry
abbrev pub last_slot : List Entry → Option Slot
last_slot [] = None
last_slot (e ∷ es) = slot_at e.node e.input

-- whether the two slots are one
abbrev pub is_slot : Slot → Slot → Bool
is_slot (Acts t) (Acts u) = is_thread t u
is_slot (TakesDown c) (TakesDown d) = eqb c d
is_slot (Flushes c) (Flushes d) = eqb c d
is_slot (TakesUp c) (TakesUp d) = eqb c d
is_slot (Loses c) (Loses d) = eqb c d
is_slot (Breaks c) (Breaks d) = eqb c d
is_slot slot other = false

-- the slots of the list behind this one
abbrev pub slots_behind : Slot → List Slot → List Slot
slots_behind slot [] = []
slots_behind slot (first ∷ rest) = cond (is_slot slot first) rest (slots_behind slot rest)

-- the slots of the list up to this one, with it
abbrev pub slots_up_to : Slot → List Slot → List Slot
slots_up_to slot [] = []
slots_up_to slot (first ∷ rest) = cond (is_slot slot first) (first ∷ []) (first ∷ slots_up_to slot rest)

-- the slots in the order of the next round: from the one behind the slot taken last, going round, to that slot
abbrev pub going_round : Option Slot → List Slot → List Slot
going_round None slots = slots
going_round (Some slot) slots = slots_behind slot slots ++ slots_up_to slot slots

-- a seed moves on
abbrev pub moved_on : ℕ → ℕ
moved_on x = (x * 6364136223846793005 + 1442695040888963407) % 2 ^ 64

-- the seed, moved on so many times
abbrev pub seed_after : ℕ → ℕ → ℕ
seed_after zero seed = seed
seed_after (suc n) seed = moved_on (seed_after n seed)

-- which of so many a seed names
abbrev pub lot : ℕ → ℕ → ℕ
lot x count = (x / 2 ^ 33) % count

module _ (p : Settings) (next : ThreadId → List Event → Option Request) where
  -- The chosen slot. By round robin: the first open slot behind that of the last entry, going round. By a seed: it
  -- moves on once for each entry and once more for this step, and names one of the open slots.
  abbrev pub chosen_slot : Option ℕ → List Entry → Option Slot
  chosen_slot None es = first_of_list (filter (is_open p next es) (going_round (last_slot es) (slots p)))
  chosen_slot (Some seed) es =
      slice_get (open_slots p next es) (lot (seed_after (suc (length es)) seed) (length (open_slots p next es)))
