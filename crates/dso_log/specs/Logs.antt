-- The entries of one node, and the clock of the next one.
use Rattle.std.specs.Prelude.{ℕ, suc, ◌-◌, ◌<◌, ◌≤◌, ◌≡◌, length, max, reverse, slice_get, Bool, false}
use Rattle.std.specs.Prelude.{Option, Some, None, List, [], ◌∷◌, ◌++◌}
use Rattle.std.specs.List.{AllByRecursion}
use Rattle.dso_base.specs.declared.journal.Entry.{Entry}
use Rattle.dso_base.specs.declared.journal.Input.{Input}
use Rattle.dso_base.specs.declared.journal.Node.{Node}
use Rattle.dso_base.specs.declared.journal.Sent.{Sent}
use Rattle.dso_base.specs.declared.request.Event.{Event}

-- a node's entries, the first of them first, and whether there is room for one more
pub record Log : Type 0 where
  pub node : Node
  pub entries : List Entry
  pub has_room : Bool

-- each entry, the newest first, has a greater clock than all before it
abbrev pub Climbs : List Entry → Type 0
Climbs [] = Unit {0}
Climbs (e ∷ es) = Climbs es × AllByRecursion (λ before. before.clock < e.clock) es

-- What a log keeps, its entries read with the newest first: each is the node's own, its clock is at least 1, and it is
-- greater than the clocks of all before it.
pub record LogKeeps (node : Node) (entries : List Entry) : Type 0 where
  pub own : AllByRecursion (λ e. e.node ≡ node) (reverse entries)
  pub from_one : AllByRecursion (λ e. 1 ≤ e.clock) (reverse entries)
  pub climbs : Climbs (reverse entries)

-- the clock of an entry, 0 where there is none
abbrev pub clock_at : Option Entry → ℕ
clock_at None = 0
clock_at (Some entry) = entry.clock

-- the clock of the last entry
abbrev pub last_clock : Log → ℕ
last_clock log = clock_at (slice_get log.entries (length log.entries - 1))

-- one more than all that the node knew
abbrev pub next_clock : ℕ → Log → ℕ
next_clock heard log = suc (max (last_clock log) heard)

-- the next entry
abbrev pub entry_of : ℕ → Input → List Sent → Option Event → Log → Entry
entry_of heard input sent event log = record
    { clock = next_clock heard log; node = log.node; input = input; sent = sent; event = event }

-- with one entry more, in the room that was made for it
abbrev pub with_entry : Entry → Log → Log
with_entry entry log = record log { entries = log.entries ++ entry ∷ []; has_room = false }
