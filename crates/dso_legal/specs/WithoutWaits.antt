-- Journals without waits.
use Rattle.std.specs.List.{AllByRecursion}
use Rattle.std.specs.Prelude.{Bool, true, false, ◌≡◌, Option, Some, None, List}
use Rattle.dso_base.specs.declared.journal.Entry.{Entry}
use Rattle.dso_base.specs.declared.request.Event.{Event}
use Rattle.dso_base.specs.declared.request.Event.TheVariants.{Act, Lost}
use Rattle.dso_base.specs.declared.request.Request.{Request}
use Rattle.dso_base.specs.declared.request.Request.TheVariants.{New, Look, Get, Put, Enter, Exit, Wait, Tick, Timeout}
use Rattle.dso_base.specs.declared.request.Request.TheVariants.{Resume, Notify, NotifyAll, Print, End, Pause, Settle}

-- the request waits or notifies (a Resume that isn't of a wait comes in no journal of a sound program)
abbrev pub waits_or_notifies : Request → Bool
waits_or_notifies (New class n) = false
waits_or_notifies (Look o) = false
waits_or_notifies (Get o f) = false
waits_or_notifies (Put o f v) = false
waits_or_notifies (Enter l level) = false
waits_or_notifies (Exit l) = false
waits_or_notifies (Wait l) = true
waits_or_notifies (Tick l) = true
waits_or_notifies (Timeout l) = true
waits_or_notifies (Resume l) = false
waits_or_notifies (Notify l) = true
waits_or_notifies (NotifyAll l) = true
waits_or_notifies (Print v) = false
waits_or_notifies (End fault) = false
waits_or_notifies Pause = false
waits_or_notifies Settle = false

-- the event is an act with such a request
abbrev pub is_wait : Event → Bool
is_wait (Act thread request reply woken) = waits_or_notifies request
is_wait (Lost client) = false

-- there is no event, or it neither waits nor notifies
abbrev pub HasNoWait : Option Event → Type 0
HasNoWait None = Unit {0}
HasNoWait (Some event) = is_wait event ≡ false

-- No event of the journal is a Wait, Tick, Timeout, Notify or NotifyAll.
abbrev pub WithoutWaits : List Entry → Type 0
WithoutWaits es = AllByRecursion (λ e. HasNoWait e.event) es
