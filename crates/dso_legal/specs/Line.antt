-- The line of a client: what its messages in flight say, read from the server's state on.
use Rattle.std.specs.Prelude.{ℕ, ◌≡◌, true, Some, List, [], ◌∷◌}
use Rattle.dso_base.specs.declared.lock.Level.{Level}
use Rattle.dso_base.specs.declared.lock.LockName.{LockName}
use Rattle.dso_base.specs.declared.lock.ThreadId.{ThreadId}
use Rattle.dso_base.specs.declared.message.Up.{Up}
use Rattle.dso_base.specs.declared.message.Up.TheVariants as up
use Rattle.dso_base.specs.declared.record.Txn.{Txn}
use Rattle.dso_base.specs.declared.request.Event.{Event}
use Rattle.dso_base.specs.declared.shape.Shape.{Shape}
use Rattle.dso_plain.specs.State.{PlainState, level_of}
use Rattle.dso_plain.specs.History.{RunsButMarks, end_of}
use Rattle.dso_plain.specs.Touches.{AreActsOf, TouchesIn}
use Rattle.dso_law.specs.declared.readings.LockStanding.{LockStanding}
use Rattle.dso_law.specs.Leases.{standing_up}
use Rattle.dso_law.specs.RequestNeeds.{is_enough}

-- how each lock stands with a client
abbrev pub Standings : Type 0
Standings = LockName → LockStanding

-- and after a message of the client
abbrev pub standings_up : Up → Standings → Standings
standings_up m standings l = standing_up l m (standings l)

-- what the threads of the client hold is within its leases
abbrev pub HoldsWithin : ℕ → Standings → PlainState → Type 0
HoldsWithin c standings s = (t : ThreadId) (l : LockName) (x : Level) → t.client ≡ c
    → level_of (s.monitors (l, t)) ≡ Some x → is_enough x (standings l).lease ≡ true

-- what the events touch is within the leases
abbrev pub TouchesWithin : Shape → List Event → Standings → PlainState → Type 0
TouchesWithin shape events standings s = (l : LockName) (x : Level) → TouchesIn shape events s l x
    → is_enough x (standings l).lease ≡ true

-- a block of a thread of the client can run, and touches what is within the leases
pub record CanRun (shape : Shape) (c : ℕ) (txn : Txn) (block : List Event) (standings : Standings)
    (s : PlainState) : Type 0 where
  pub its : txn.thread.client ≡ c
  pub acts : AreActsOf txn.thread block
  pub runs : RunsButMarks shape block s
  pub within : TouchesWithin shape block standings s

-- The line: in front of each message what the threads of the client hold is within its leases there; where the message
-- is a record, the next of the blocks can run there; behind it stand the leases that the message leaves, and the state
-- that the block leaves. So there is one block for each record.
abbrev pub Line : Shape → ℕ → List Up → List (List Event) → Standings → PlainState → Type 0
Line shape c [] [] standings s = HoldsWithin c standings s
Line shape c [] (block ∷ blocks) standings s = ⊥
Line shape c (up.Commit txn ∷ ms) [] standings s = ⊥
Line shape c (up.Commit txn ∷ ms) (block ∷ blocks) standings s = HoldsWithin c standings s
    × CanRun shape c txn block standings s × Line shape c ms blocks standings (end_of shape block s)
Line shape c (m ∷ ms) blocks standings s = HoldsWithin c standings s
    × Line shape c ms blocks (standings_up m standings) s
