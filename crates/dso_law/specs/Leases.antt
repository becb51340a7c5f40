-- A client's leases. How a lock stands with a client is kept by both ends with the same steps of messages: at the end
-- that sends a message as it is sent, and at the end that takes it as it is taken.
use Rattle.std.specs.Prelude.{Bool, true, false, cond, ltb, ◌||◌, is_some, Option, Some, None, List, [], ◌∷◌, filter}
use Rattle.dso_base.specs.declared.journal.Entry.{Entry}
use Rattle.dso_base.specs.declared.lock.Level.{Level}
use Rattle.dso_base.specs.declared.lock.LockName.{LockName}
use Rattle.dso_base.specs.declared.lock.LockName.TheVariants.{Mon, Name}
use Rattle.dso_base.specs.declared.message.Down.{Down}
use Rattle.dso_base.specs.declared.message.Down.TheVariants as down
use Rattle.dso_base.specs.declared.message.Up.{Up}
use Rattle.dso_base.specs.declared.message.Up.TheVariants as up
use Rattle.dso_base.specs.declared.request.Event.{Event}
use Rattle.dso_base.specs.declared.request.Event.TheVariants.{Act, Lost}
use Rattle.dso_base.specs.declared.request.Reply.{Reply}
use Rattle.dso_base.specs.declared.request.Reply.TheVariants.{Done}
use Rattle.dso_base.specs.declared.request.Request.{Request}
use Rattle.dso_base.specs.declared.request.Request.TheVariants.{New, Look, Get, Put, Enter, Exit, Wait, Tick, Timeout}
use Rattle.dso_base.specs.declared.request.Request.TheVariants.{Resume, Notify, NotifyAll, Print, End, Pause, Settle}
use Rattle.dso_plain.specs.KeyTests.{is_lock}
use Rattle.dso_law.specs.declared.readings.LockStanding.{LockStanding}
use Rattle.dso_law.specs.Entries.{by_taken_down, by_sent_up, by_event}

-- neither leased nor asked for
abbrev pub idle : LockStanding
idle = record { lease = None; is_asked = false }

-- a request asks for the lock, a return gives its lease up
abbrev pub standing_up : LockName → Up → LockStanding → LockStanding
standing_up l (up.Request k level) s = cond (is_lock l k) (record s { is_asked = true }) s
standing_up l (up.Return k threads) s = cond (is_lock l k) (record s { lease = None }) s
standing_up l m s = s

-- a grant gives the lease, and the lock is no longer asked for
abbrev pub standing_down : LockName → Down → LockStanding → LockStanding
standing_down l (down.Grant k level) s = cond (is_lock l k) (record { lease = Some level; is_asked = false }) s
standing_down l m s = s

-- what an entry of the client makes of it
abbrev pub standing_after : LockName → Entry → LockStanding → LockStanding
standing_after l e s = by_sent_up (standing_up l) e.sent (by_taken_down (standing_down l) e.input s)

-- how the lock stands, as the client sees it
abbrev pub standing : LockName → List Entry → LockStanding
standing l [] = idle
standing l (e ∷ es) = standing_after l e (standing l es)

-- Leased: the level of the latest grant of the lock taken, where no return of it was sent since; else none.
abbrev pub leased : LockName → List Entry → Option Level
leased l es = (standing l es).lease

-- Asked for: a request of the lock was sent, and no grant of it was taken since.
abbrev pub is_asked_for : LockName → List Entry → Bool
is_asked_for l es = (standing l es).is_asked

-- a grant of the lock begins anew
abbrev pub since_grant : LockName → Down → Bool → Bool
since_grant l (down.Grant k level) before = cond (is_lock l k) false before
since_grant l m before = before

-- the act enters the lock: an Enter answered Done, or a Resume
abbrev pub enters : LockName → Request → Reply → Bool
enters l (New class n) reply = false
enters l (Look o) reply = false
enters l (Get o f) reply = false
enters l (Put o f v) reply = false
enters l (Enter k level) Done = is_lock l k
enters l (Enter k level) reply = false
enters l (Exit k) reply = false
enters l (Wait k) reply = false
enters l (Tick k) reply = false
enters l (Timeout k) reply = false
enters l (Resume k) Done = is_lock l k
enters l (Resume k) reply = false
enters l (Notify k) reply = false
enters l (NotifyAll k) reply = false
enters l (Print v) reply = false
enters l (End fault) reply = false
enters l Pause reply = false
enters l Settle reply = false

-- whether the event enters the lock, or it was entered before
abbrev pub entered_by : LockName → Event → Bool → Bool
entered_by l (Act thread request reply woken) before = enters l request reply || before
entered_by l (Lost client) before = before

-- Entered: since the latest grant of the lock taken, an Enter of it was answered Done or a Resume of it was made.
abbrev pub is_entered : LockName → List Entry → Bool
is_entered l [] = false
is_entered l (e ∷ es) = by_event (entered_by l) e.event (by_taken_down (since_grant l) e.input (is_entered l es))

-- a recall of the lock counts until the next grant
abbrev pub recalled_by : LockName → Down → Bool → Bool
recalled_by l (down.Recall k) before = is_lock l k || before
recalled_by l m before = since_grant l m before

-- Recalled: since the latest grant of the lock taken, a recall of it was taken.
abbrev pub is_recalled : LockName → List Entry → Bool
is_recalled l [] = false
is_recalled l (e ∷ es) = by_taken_down (recalled_by l) e.input (is_recalled l es)

-- monitors stand before names, each kind by rising number
abbrev pub is_lock_before : LockName → LockName → Bool
is_lock_before (Mon o) (Mon p) = ltb o p
is_lock_before (Mon o) (Name n) = true
is_lock_before (Name n) (Mon o) = false
is_lock_before (Name n) (Name m) = ltb n m

-- the locks with one more, rising, each once
abbrev pub insert_lock : LockName → List LockName → List LockName
insert_lock l [] = l ∷ []
insert_lock l (first ∷ rest) = cond (is_lock l first) (first ∷ rest)
    (cond (is_lock_before l first) (l ∷ first ∷ rest) (first ∷ insert_lock l rest))

-- the locks that were ever granted, with that of a grant taken
abbrev pub granted_by : Down → List LockName → List LockName
granted_by (down.Grant l level) locks = insert_lock l locks
granted_by m locks = locks

-- the locks that were ever granted, rising
abbrev pub granted : List Entry → List LockName
granted [] = []
granted (e ∷ es) = by_taken_down granted_by e.input (granted es)

-- the locks leased, rising, monitors first
abbrev pub leased_locks : List Entry → List LockName
leased_locks es = filter (λ l. is_some (leased l es)) (granted es)
