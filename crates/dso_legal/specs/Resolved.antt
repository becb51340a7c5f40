-- The events of a client as a history has them: each notification that left the choice to the server has the thread
-- that it woke.
use Rattle.std.specs.Prelude.{◌≡◌, List, [], ◌∷◌}
use Rattle.dso_base.specs.declared.lock.LockName.{LockName}
use Rattle.dso_base.specs.declared.lock.ThreadId.{ThreadId}
use Rattle.dso_base.specs.declared.request.Event.{Event}
use Rattle.dso_law.specs.Prefixes.{IsPrefix}
use Rattle.dso_legal.specs.Committed.{resolved_event}

-- the server's lists of waiters, by lock
abbrev pub WaiterLists : Type 0
WaiterLists = LockName → List ThreadId

-- The event of the history is the client's, but that a done Notify which woke nobody there may wake whom the server
-- chose, by its lists.
pub record IsResolved (made event : Event) : Type 0 where
  pub lists : WaiterLists
  pub same : event ≡ resolved_event made lists

-- the events of the history are the client's, each resolved so
abbrev pub AreResolved : List Event → List Event → Type 0
AreResolved [] [] = Unit {0}
AreResolved (made ∷ mades) (event ∷ events) = IsResolved made event × AreResolved mades events
AreResolved mades events = ⊥

-- the events of the history are a prefix of the client's, each resolved so
pub record IsPrefixResolved (mades events : List Event) : Type 0 where
  pub first : List Event
  pub begins : IsPrefix first mades
  pub resolved : AreResolved first events
