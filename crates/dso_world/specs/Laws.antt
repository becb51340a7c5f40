-- That the place chosen in a row of flags is that of the chosen slot.
use Rattle.std.specs.Prelude.{ℕ, ◌+◌, ◌≡◌, ◌≢◌, ◌↔◌, AllPairs, Option, Some, None, List, [], length, map}
use Rattle.std.specs.Prelude.{option_and_then, slice_get}
use Rattle.dso_base.specs.declared.journal.Entry.{Entry}
use Rattle.dso_base.specs.declared.lock.ThreadId.{ThreadId}
use Rattle.dso_base.specs.declared.request.Event.{Event}
use Rattle.dso_base.specs.declared.request.Request.{Request}
use Rattle.dso_law.specs.Settings.{Settings}
use Rattle.dso_legal.specs.Slots.{Slot, slots, is_open, open_slots}
use Rattle.dso_world.specs.ChosenSlot.{slots_up_to, last_slot, chosen_slot}
use Rattle.dso_world.specs.Flags.{Row, chosen_place}

-- the place behind the slot taken last
abbrev pub place_behind : Option Slot → List Slot → ℕ
place_behind None all = 0
place_behind (Some slot) all = length (slots_up_to slot all)

module _ (p : Settings) (next : ThreadId → List Event → Option Request) where
  -- the row stands for these entries: each flag tells whether its slot is open, and the next round begins behind the
  -- slot of the last entry
  pub record RowStands (row : Row) (es : List Entry) : Type 0 where
    pub flags : row.flags ≡ map (is_open p next es) (slots p)
    pub begin : row.begin ≡ place_behind (last_slot es) (slots p)
    pub entries : row.entries ≡ length es

  -- the place is that of the chosen slot, and there is none exactly where no slot is open
  pub record IsChosen (seed : Option ℕ) (row : Row) (es : List Entry) : Type 0 where
    pub slot : option_and_then (slice_get (slots p)) (chosen_place seed row) ≡ chosen_slot p next seed es
    pub none : (chosen_place seed row ≡ None) ↔ (open_slots p next es ≡ [])

-- Choices: of a row that stands for the entries of a journal the chosen place is that of the chosen slot, by round
-- robin and by each seed; and none is chosen exactly where no slot is open.
abbrev pub PlacesAreChosen : Type 0
PlacesAreChosen = (p : Settings) (next : ThreadId → List Event → Option Request) (row : Row) (es : List Entry)
    → RowStands p next row es → (seed : Option ℕ) → IsChosen p next seed row es

-- Rounds: where each thread stands once, the place behind a slot that stands at a place is the next one. So a round
-- begins behind the place at which the last step was taken.
abbrev pub RoundsGoOn : Type 0
RoundsGoOn = (p : Settings) → AllPairs (λ thread other. thread ≢ other) p.threads → (slot : Slot) (place : ℕ)
    → slice_get (slots p) place ≡ Some slot → place_behind (Some slot) (slots p) ≡ place + 1
