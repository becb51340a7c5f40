-- The waiters of a client: its list for each lock, and who is marked.
use Rattle.std.specs.List.{list_any}
use Rattle.std.specs.Prelude.{Bool, false, cond, not, ◌&&◌, ◌||◌, Option, Some, None, List, [], ◌∷◌, ◌++◌, filter}
use Rattle.dso_base.specs.declared.journal.Entry.{Entry}
use Rattle.dso_base.specs.declared.lock.LockName.{LockName}
use Rattle.dso_base.specs.declared.lock.ThreadId.{ThreadId}
use Rattle.dso_base.specs.declared.message.Down.{Down}
use Rattle.dso_base.specs.declared.message.Down.TheVariants as down
use Rattle.dso_base.specs.declared.message.Up.{Up}
use Rattle.dso_base.specs.declared.message.Up.TheVariants as up
use Rattle.dso_base.specs.declared.request.Event.{Event}
use Rattle.dso_base.specs.declared.request.Event.TheVariants.{Act, Lost}
use Rattle.dso_base.specs.declared.request.Reply.{Reply}
use Rattle.dso_base.specs.declared.request.Reply.TheVariants.{Done}
use Rattle.dso_base.specs.declared.request.Request.{Request}
use Rattle.dso_base.specs.declared.request.Request.TheVariants.{New, Look, Get, Put, Enter, Exit, Wait, Tick, Timeout}
use Rattle.dso_base.specs.declared.request.Request.TheVariants.{Resume, Notify, NotifyAll, Print, End, Pause, Settle}
use Rattle.dso_base.specs.Following.{is_thread}
use Rattle.dso_plain.specs.KeyTests.{is_lock}
use Rattle.dso_law.specs.Entries.{by_taken_down, by_sent_up, by_event}

-- the threads without this one
abbrev pub without : ThreadId → List ThreadId → List ThreadId
without t threads = filter (λ u. not (is_thread t u)) threads

-- a grant of the lock empties the list
abbrev pub list_by_taken : LockName → Down → List ThreadId → List ThreadId
list_by_taken l (down.Grant k level) list = cond (is_lock l k) [] list
list_by_taken l m list = list

-- a return of the lock empties the list too: its threads move to the server
abbrev pub list_by_sent : LockName → Up → List ThreadId → List ThreadId
list_by_sent l (up.Return k threads) list = cond (is_lock l k) [] list
list_by_sent l m list = list

-- the list without the thread that was woken
abbrev pub without_woken : Option ThreadId → List ThreadId → List ThreadId
without_woken None list = list
without_woken (Some woken) list = without woken list

-- a wait on the lock stands at the end, a timeout takes its thread out, a notification takes out whom it woke, one of
-- all empties the list
abbrev pub list_by_act : LockName → ThreadId → Request → Reply → Option ThreadId → List ThreadId → List ThreadId
list_by_act l t (New class n) reply woken list = list
list_by_act l t (Look o) reply woken list = list
list_by_act l t (Get o f) reply woken list = list
list_by_act l t (Put o f v) reply woken list = list
list_by_act l t (Enter k level) reply woken list = list
list_by_act l t (Exit k) reply woken list = list
list_by_act l t (Wait k) Done woken list = cond (is_lock l k) (list ++ t ∷ []) list
list_by_act l t (Wait k) reply woken list = list
list_by_act l t (Tick k) reply woken list = list
list_by_act l t (Timeout k) Done woken list = cond (is_lock l k) (without t list) list
list_by_act l t (Timeout k) reply woken list = list
list_by_act l t (Resume k) reply woken list = list
list_by_act l t (Notify k) Done woken list = cond (is_lock l k) (without_woken woken list) list
list_by_act l t (Notify k) reply woken list = list
list_by_act l t (NotifyAll k) Done woken list = cond (is_lock l k) [] list
list_by_act l t (NotifyAll k) reply woken list = list
list_by_act l t (Print v) reply woken list = list
list_by_act l t (End fault) reply woken list = list
list_by_act l t Pause reply woken list = list
list_by_act l t Settle reply woken list = list

-- what an event makes of the list
abbrev pub list_by_event : LockName → Event → List ThreadId → List ThreadId
list_by_event l (Act t request reply woken) list = list_by_act l t request reply woken list
list_by_event l (Lost client) list = list

-- The client's list of a lock: the threads whose latest Wait of it was answered Done since the latest of the client's
-- grants, returns and done NotifyAlls of it, in the order of these Waits, without those that a Notify woke since that
-- Wait and those whose Timeout was answered Done since that Wait.
abbrev pub client_list : LockName → List Entry → List ThreadId
client_list l [] = []
client_list l (e ∷ es) = by_sent_up (list_by_sent l) e.sent
    (by_event (list_by_event l) e.event (by_taken_down (list_by_taken l) e.input (client_list l es)))

-- whether the thread is the one woken
abbrev pub is_woken : ThreadId → Option ThreadId → Bool
is_woken t None = false
is_woken t (Some woken) = is_thread t woken

-- a Wake of the thread marks it
abbrev pub marked_by_taken : ThreadId → Down → Bool → Bool
marked_by_taken t (down.Wake l u) before = is_thread t u || before
marked_by_taken t m before = before

-- whether the thread stands in the client's list of the lock
abbrev pub is_listed : ThreadId → LockName → List Entry → Bool
is_listed t l es = list_any (is_thread t) (client_list l es)

-- a Wait of the thread begins anew; its Timeout marks it where its client's list of that lock has it, and so does a
-- NotifyAll; a Notify that woke it marks it
abbrev pub marked_by_act : ThreadId → List Entry → ThreadId → Request → Reply → Option ThreadId → Bool → Bool
marked_by_act t es u (New class n) reply woken before = before
marked_by_act t es u (Look o) reply woken before = before
marked_by_act t es u (Get o f) reply woken before = before
marked_by_act t es u (Put o f v) reply woken before = before
marked_by_act t es u (Enter l level) reply woken before = before
marked_by_act t es u (Exit l) reply woken before = before
marked_by_act t es u (Wait l) Done woken before = cond (is_thread t u) false before
marked_by_act t es u (Wait l) reply woken before = before
marked_by_act t es u (Tick l) reply woken before = before
marked_by_act t es u (Timeout l) Done woken before = (is_thread t u && is_listed t l es) || before
marked_by_act t es u (Timeout l) reply woken before = before
marked_by_act t es u (Resume l) reply woken before = before
marked_by_act t es u (Notify l) Done woken before = is_woken t woken || before
marked_by_act t es u (Notify l) reply woken before = before
marked_by_act t es u (NotifyAll l) Done woken before = is_listed t l es || before
marked_by_act t es u (NotifyAll l) reply woken before = before
marked_by_act t es u (Print v) reply woken before = before
marked_by_act t es u (End fault) reply woken before = before
marked_by_act t es u Pause reply woken before = before
marked_by_act t es u Settle reply woken before = before

-- what an event makes of the mark, after the entries es
abbrev pub marked_by_event : ThreadId → List Entry → Event → Bool → Bool
marked_by_event t es (Act u request reply woken) before = marked_by_act t es u request reply woken before
marked_by_event t es (Lost client) before = before

-- Marked, of a waiting thread: since its Wait a Notify at the client woke it, a done NotifyAll there found it in the
-- list, its Timeout was answered Done while it stood in the list, or a Wake of it was taken.
abbrev pub is_marked : ThreadId → List Entry → Bool
is_marked t [] = false
is_marked t (e ∷ es) = by_event (marked_by_event t es) e.event
    (by_taken_down (marked_by_taken t) e.input (is_marked t es))
