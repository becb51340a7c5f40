-- What the tables of a client's objects tell, and what each change of them keeps.
use Rattle.std.specs.Prelude.{ℕ, ◌+◌, ◌≡◌, ◌≤◌, Bool, true, false, ◌||◌, is_some, Option, Some, None}
use Rattle.std.specs.Prelude.{length, List, [], ◌∷◌}
use Rattle.std.specs.BTreeMap.{BTreeMap}
use Rattle.std.specs.BTreeSet.{BTreeSet, contains}
use Rattle.std.specs.Map.{keys_of}
use Rattle.std.specs.Option.{option_map, option_map_or}
use Rattle.std.specs.Ordering.{nat_cmp}
use Rattle.slab.specs.Slab.{get}
use Rattle.dso_base.specs.declared.lock.ThreadId.{ThreadId}
use Rattle.dso_lookup.specs.Maps.{look}
use Rattle.dso_lookup.specs.Orders.{thread_order}
use Rattle.dso_lookup.specs.Rows.{look_in}
use Rattle.dso_lookup.specs.Search.{is_listed}
use Rattle.dso_table.specs.declared.order.Order.{Order}
use Rattle.dso_table.specs.declared.places.Places.{Places}
use Rattle.dso_table.specs.declared.slot.Slot.{Slot}
use Rattle.dso_table.specs.declared.slot.ObjectStanding.{ObjectStanding}
use Rattle.dso_table.specs.declared.tables.ObjectTables.{ObjectTables}
use Rattle.dso_table.specs.States.{State, is_resident, with_at, later_than}

-- what stands at a place, if there is one
abbrev pub at_place : Places → Option ℕ → Option Slot
at_place places None = None
at_place places (Some place) = get places.slots place

-- what stands at the object's place, None where it has none
abbrev pub slot_in : Places → ℕ → Option Slot
slot_in places o = at_place places (look nat_cmp places.index o)

-- Each object that has a place stands there.
pub record PlacesAgree (places : Places) : Type 0 where
  pub stands : (o p : ℕ) → look nat_cmp places.index o ≡ Some p
      → option_map (λ slot. slot.object) (get places.slots p) ≡ Some o

-- how the object stands
abbrev pub standing_of : Option Slot → Option ObjectStanding
standing_of slot = option_map (λ s. s.standing) slot

-- its mark, unless its number was acknowledged
abbrev pub mark_of : ℕ → Option Slot → Option ℕ
mark_of acked None = None
mark_of acked (Some slot) = later_than acked slot.changed

-- the objects used last, the last one first
abbrev pub used_in : Order → List ℕ
used_in order = option_map_or (λ recent. keys_of recent.entries) order.recent []

-- how many of them are kept
abbrev pub limit_in : Order → ℕ
limit_in order = option_map_or (λ recent. recent.cap) order.recent 0

-- the object is in the order, among those used last or among the others
abbrev pub is_ordered : Order → ℕ → Bool
is_ordered order o = is_listed o (used_in order) || contains nat_cmp order.others o

-- how many objects are in the order
abbrev pub number_in : Order → ℕ
number_in order = length order.others.keys + length (used_in order)

-- these objects, which weren't in the set, joined it
pub record JoinedBy (objects : List ℕ) (old new : BTreeSet ℕ) : Type 0 where
  pub has : (o : ℕ) → contains nat_cmp new o ≡ (contains nat_cmp old o || is_listed o objects)
  pub number : length new.keys ≡ length old.keys + length objects

-- no object stands in the list twice
abbrev pub IsEachOnce : List ℕ → Type 0
IsEachOnce [] = Unit {0}
IsEachOnce (o ∷ objects) = (is_listed o objects ≡ false) × IsEachOnce objects

-- The objects used last are different ones, no more than are to be kept, and not among the others.
pub record OrderAgrees (order : Order) : Type 0 where
  pub once : IsEachOnce (used_in order)
  pub fits : length (used_in order) ≤ limit_in order
  pub apart : (o : ℕ) → is_listed o (used_in order) ≡ true → contains nat_cmp order.others o ≡ false

-- the notes of threads of objects
abbrev pub notes_in : BTreeMap ThreadId (BTreeMap ℕ (Unit {0})) → ThreadId × ℕ → Bool
notes_in rows key = is_some (look_in thread_order nat_cmp rows key)

-- what the tables tell
abbrev pub state_in : ObjectTables → State
state_in tables = record {
  standing = λ o. standing_of (slot_in tables.places o);
  marks = λ o. mark_of tables.acked (slot_in tables.places o);
  opened = notes_in tables.opened;
  wanted = notes_in tables.wanted;
  used = used_in tables.order;
  residents = number_in tables.order;
  acked = tables.acked;
  limit = limit_in tables.order;
}

-- what the tables tell with this in the place of an object, and so many more resident objects
abbrev pub put_slot : Slot → ℕ → State → State
put_slot slot more s = record s {
  standing = with_at slot.object (Some slot.standing) s.standing;
  marks = with_at slot.object (later_than s.acked slot.changed) s.marks;
  residents = s.residents + more;
}

-- The places and the order agree, and exactly the resident objects are in the order.
pub record TablesAgree (tables : ObjectTables) : Type 0 where
  pub places : PlacesAgree tables.places
  pub order : OrderAgrees tables.order
  pub residents : (o : ℕ) → is_resident (standing_of (slot_in tables.places o)) ≡ is_ordered tables.order o
