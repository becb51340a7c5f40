-- What a client keeps once a thread's request was answered, before anything is sent.
use Rattle.std.specs.BTreeMap.{BTreeMap}
use Rattle.std.specs.Option.{option_map}
use Rattle.std.specs.Prelude.{◌≡◌, ◌≤◌, ℕ, cond, Option, Some, None, List, [], ◌∷◌, map}
use Rattle.dso_base.specs.declared.journal.Entry.{Entry}
use Rattle.dso_base.specs.declared.journal.Input.TheVariants as input
use Rattle.dso_base.specs.declared.journal.Node.TheVariants.{Client}
use Rattle.dso_base.specs.declared.journal.Sent.TheVariants.{ToServer}
use Rattle.dso_base.specs.declared.lock.LockName.{LockName}
use Rattle.dso_base.specs.declared.lock.ThreadId.{ThreadId}
use Rattle.dso_base.specs.declared.message.Up.{Up}
use Rattle.dso_base.specs.declared.request.Event.{Event}
use Rattle.dso_base.specs.declared.request.Event.TheVariants.{Act}
use Rattle.dso_base.specs.declared.request.Reply.{Reply}
use Rattle.dso_base.specs.declared.request.Reply.TheVariants.{Done}
use Rattle.dso_base.specs.declared.request.Request.{Request}
use Rattle.dso_base.specs.declared.request.Request.TheVariants.{Put, Enter, Resume}
use Rattle.dso_hold.specs.declared.tables.HoldTables.{HoldTables}
use Rattle.dso_hold.specs.Holds.{hold_in, count_at}
use Rattle.dso_lease.specs.declared.leases.Leases.{Leases}
use Rattle.dso_lease.specs.Leases.{standing_in}
use Rattle.dso_plain.specs.KeyTests.{is_lock}
use Rattle.dso_law.specs.ClientWaiters.{client_list}
use Rattle.dso_law.specs.Leases.{leased, is_entered, is_recalled, is_asked_for}
use Rattle.dso_law.specs.Threads.{hold_of}
use Rattle.dso_client.specs.declared.answered.Answered.{Answered}
use Rattle.dso_client.specs.LockStateStands.{as_hold, standing_as, list_at}
use Rattle.dso_client.specs.RunPoints.{RunPoint}

-- the event that the answer makes
abbrev pub event_of : Answered → Event
event_of act = Act act.thread act.request act.reply act.woken

-- the entry in which a thread of client c acts with this event, without what it sends
abbrev pub applied_entry : ℕ → ℕ → Answered → Entry
applied_entry clock c act =
    record {
      clock = clock;
      node = Client c;
      input = input.Act act.thread.index;
      sent = [];
      event = Some (event_of act);
    }

-- the point then, while the next requests are those before it
abbrev pub applied : ℕ → Answered → RunPoint → RunPoint
applied clock act at = record at { entries = applied_entry clock at.client act ∷ at.entries }

-- the entry in which a thread of client c acts with this event, and sends these
abbrev pub acting_entry : ℕ → ℕ → Answered → List Up → Entry
acting_entry clock c act sent =
    record {
      clock = clock;
      node = Client c;
      input = input.Act act.thread.index;
      sent = map ToServer sent;
      event = Some (event_of act);
    }

-- the point in this entry once these were sent, where the next requests are these
abbrev pub acting : ℕ → Answered → List Up → (ThreadId → Option Request) → RunPoint → RunPoint
acting clock act sent next at =
    record {
      settings = at.settings;
      client = at.client;
      next = next;
      entries = acting_entry clock at.client act sent ∷ at.entries;
    }

-- the object that a done put is to
abbrev pub put_to : Request → Reply → Option ℕ
put_to (Put o f v) Done = Some o
put_to request reply = None

-- the lock that the act enters: an Enter answered Done, or a Resume
abbrev pub entered_lock : Request → Reply → Option LockName
entered_lock (Enter l level) Done = Some l
entered_lock (Resume l) Done = Some l
entered_lock request reply = None

-- of each lock its lease, and whether it is asked for, as the entries tell
abbrev pub LeasesStand : RunPoint → Leases → Type 0
LeasesStand at leases = (l : LockName) → standing_in leases l
    ≡ standing_as (leased l at.entries) (is_entered l at.entries) (is_recalled l at.entries) (is_asked_for l at.entries)

-- of each lock its list of waiters, as the entries tell
abbrev pub ListsStand : RunPoint → BTreeMap LockName (List ThreadId) → Type 0
ListsStand at lists = (l : LockName) → list_at lists l ≡ client_list l at.entries

-- the lists with another one for this lock
abbrev pub HasList : LockName → List ThreadId → BTreeMap LockName (List ThreadId) → BTreeMap LockName (List ThreadId)
    → Type 0
HasList l list old new = (x : LockName) → list_at new x ≡ cond (is_lock x l) list (list_at old x)

-- of each thread and lock the hold, as the entries tell
abbrev pub HoldsStand : RunPoint → HoldTables → Type 0
HoldsStand at holds = (t : ThreadId) (l : LockName) → option_map as_hold (hold_in holds (l, t)) ≡ hold_of t l at.entries

-- no lock is held more often than so
abbrev pub CountsAtMost : ℕ → HoldTables → Type 0
CountsAtMost most holds = (t : ThreadId) (l : LockName) → count_at (hold_in holds (l, t)) ≤ most
