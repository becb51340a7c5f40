-- Which leases an act gives back, and which lock it asks for again.
use Rattle.std.specs.List.{list_any, AllByRecursion}
use Rattle.std.specs.Prelude.{◌≡◌, ℕ, Bool, true, false, cond, not, ◌&&◌, ◌||◌, is_some, Option, Some, None}
use Rattle.std.specs.Prelude.{List, [], ◌∷◌, ◌++◌, map}
use Rattle.dso_base.specs.declared.lock.Level.TheVariants.{Write}
use Rattle.dso_base.specs.declared.lock.LockName.{LockName}
use Rattle.dso_base.specs.declared.lock.ThreadId.{ThreadId}
use Rattle.dso_base.specs.declared.message.Up.{Up}
use Rattle.dso_base.specs.declared.message.Up.TheVariants as up
use Rattle.dso_base.specs.declared.record.Txn.{Txn}
use Rattle.dso_base.specs.declared.request.Request.{Request}
use Rattle.dso_base.specs.declared.request.Request.TheVariants.{Enter, Exit, Wait, Resume, NotifyAll}
use Rattle.dso_base.specs.Following.{is_thread}
use Rattle.dso_lease.specs.Leases.{standing_in}
use Rattle.dso_plain.specs.KeyTests.{is_lock}
use Rattle.dso_law.specs.ClientStep.{returns, asks_again}
use Rattle.dso_law.specs.ClientWaiters.{is_woken}
use Rattle.dso_law.specs.Closing.{is_lease_due}
use Rattle.dso_law.specs.Leases.{leased, is_lock_before}
use Rattle.dso_law.specs.Settings.{threads_of}
use Rattle.dso_client.specs.declared.answered.Answered.{Answered}
use Rattle.dso_client.specs.declared.client_state.ClientState.{ClientState}
use Rattle.dso_client.specs.declared.lock_state.LockState.{LockState}
use Rattle.dso_client.specs.StateStands.{ClientPartsStand}
use Rattle.dso_client.specs.ActEffects.{acting, applied}
use Rattle.dso_client.specs.LockStateStands.{list_at}
use Rattle.dso_client.specs.RunPoints.{RunPoint}

-- the lock that a request leaves, or goes on with after a wait
abbrev pub left_lock : Request → Option LockName
left_lock (Exit l) = Some l
left_lock (Wait l) = Some l
left_lock (Resume l) = Some l
left_lock request = None

-- the lock that a thread's next request is for at Write
abbrev pub wanted_lock : Option Request → Option LockName
wanted_lock (Some (Enter l Write)) = Some l
wanted_lock (Some (Resume l)) = Some l
wanted_lock request = None

-- whether there is a lock, and it is this one
abbrev pub is_of : LockName → Option LockName → Bool
is_of k None = false
is_of k (Some l) = is_lock k l

-- whether the message gives the lease of the lock back
abbrev pub returns_lock : LockName → Up → Bool
returns_lock l (up.Return k threads) = is_lock l k
returns_lock l m = false

-- whether there is a lease of the lock that is to be given back
abbrev pub is_due_at : RunPoint → LockName → Bool
is_due_at at l = is_some (leased l at.entries) && is_lease_due at.settings at.client at.next l at.entries

-- each lock stands before all that follow it
abbrev pub Rising : List LockName → Type 0
Rising [] = Unit {0}
Rising (l ∷ locks) = AllByRecursion (λ k. is_lock_before l k ≡ true) locks × Rising locks

-- each lock stands once
abbrev pub Distinct : List LockName → Type 0
Distinct [] = Unit {0}
Distinct (l ∷ locks) = (list_any (is_lock l) locks ≡ false) × Distinct locks

-- the list still rises, and has besides what it had each of these locks whose lease is to be given back
pub record AddsDue (at : RunPoint) (among : LockName → Bool) (old new : List LockName) : Type 0 where
  pub rises : Rising old → Rising new
  pub has : (k : LockName) → list_any (is_lock k) new ≡ (list_any (is_lock k) old || (among k && is_due_at at k))

-- each other thread has the next request that it had
abbrev pub AreNextOfOthers : ThreadId → (ThreadId → Option Request) → (ThreadId → Option Request) → Type 0
AreNextOfOthers t next later = (u : ThreadId) → is_thread u t ≡ false → later u ≡ next u

-- a thread next wants the lock at Write
abbrev pub is_wanted_by : RunPoint → LockName → ThreadId → Bool
is_wanted_by at k t = is_of k (wanted_lock (at.next t))

-- whether the request may mark any thread of its client
abbrev pub marks_all : Request → Bool
marks_all (NotifyAll l) = true
marks_all request = false

-- whether the act may have marked the thread, besides its own
abbrev pub may_mark : Answered → ThreadId → Bool
may_mark act t = marks_all act.request || is_woken t act.woken

-- the act may have marked the thread, and it next wants the lock at Write
abbrev pub is_wanted_by_marked : RunPoint → Answered → LockName → ThreadId → Bool
is_wanted_by_marked at act k t = may_mark act t && is_wanted_by at k t

-- Only the lease of the lock that the act left, of the one that its thread next wants at Write, and of those that
-- threads want so that it may have marked, may be to be given back.
abbrev pub OnlyThese : RunPoint → Answered → Type 0
OnlyThese at act = (k : LockName) → is_due_at at k ≡ true → (is_of k (left_lock act.request)
    || (is_wanted_by at k act.thread || list_any (is_wanted_by_marked at act k) (threads_of at.settings at.client)))
    ≡ true

-- the list has besides what it had those of some locks whose leases are to be given back, among them all that threads
-- next want at Write that the act may have marked
pub record AddsMarked (at : RunPoint) (act : Answered) (old new : List LockName) : Type 0 where
  pub among : LockName → Bool
  pub adds : AddsDue at among old new
  pub all : (k : LockName) → list_any (is_wanted_by_marked at act k) (threads_of at.settings at.client) ≡ true
      → among k ≡ true

-- the messages that give the leases of the locks back, each with its list
abbrev pub given_back : LockState → List LockName → List Up
given_back lock_state locks = map (λ l. up.Return l (list_at lock_state.lists l)) locks

-- the locks are neither leased nor asked for, and have no list; all else is as it was
pub record AreGivenBack (locks : List LockName) (old new : LockState) : Type 0 where
  pub holds : new.holds ≡ old.holds
  pub leases : (x : LockName) → standing_in new.leases x
      ≡ cond (list_any (is_lock x) locks) None (standing_in old.leases x)
  pub lists : (x : LockName) → list_at new.lists x ≡ cond (list_any (is_lock x) locks) [] (list_at old.lists x)

-- the record that an act sends, if it sends one
abbrev pub record_sent : Option Txn → List Up
record_sent None = []
record_sent (Some txn) = up.Commit txn ∷ []

-- What is sent behind the record are the leases that are to be given back after the act, and the parts stand with them.
pub record ActSettles (clock : ℕ) (act : Answered) (txn : Option Txn) (next : ThreadId → Option Request) (at : RunPoint)
    (sent : List Up) (new : ClientState) : Type 0 where
  pub sends : sent ≡ returns at.settings at.client next (applied clock act at).entries
  pub parts : ClientPartsStand (acting clock act (record_sent txn ++ sent) next at) new

-- the lock that is asked for again: a thread next enters it at Write, its lease wasn't closing, and it is given back
abbrev pub asked_again : Option Request → Bool → List Up → Option LockName
asked_again (Some (Enter l Write)) closing sent = cond (not closing && list_any (returns_lock l) sent) (Some l) None
asked_again next closing sent = None

-- the message, if there is one
abbrev pub message_sent : Option Up → List Up
message_sent None = []
message_sent (Some m) = m ∷ []

-- What is sent last is the request for a lock that was just given back, where the acting thread is to ask again.
pub record AsksAgain (clock : ℕ) (act : Answered) (sent : List Up) (next : ThreadId → Option Request) (at : RunPoint)
    (message : Option Up) (new : ClientState) : Type 0 where
  pub asks : message_sent message ≡ asks_again at.settings at.client at.next next (next act.thread)
      (applied clock act at).entries at.entries
  pub parts : ClientPartsStand (acting clock act (sent ++ message_sent message) next at) new
